use Rattle.std.proofs.lemmas.Bool.Decides.{Decides-int_eq}
use Rattle.hyd_net.proofs.EqualValues.{bare_list-by_eq}
use Rattle.hyd_net.proofs.comparison.same_multipliers.Goals as goal

pub returns : goal.returns
returns c =
    bare_list-by_eq Decides-int_eq c.args.a.now c.args.b.now _ _ _ c.as_slice.ensures c.as_slice-2.ensures c.eq.ensures
