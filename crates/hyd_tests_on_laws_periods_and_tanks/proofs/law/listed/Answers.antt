use Rattle.std.proofs.Common.{List, ◌++◌, sym, ap, ◌∙◌, subst, arith}
use Rattle.std.proofs.lemmas.List.{append-nil, drop_all}
use Rattle.hyd_law.specs.declared.law_kinds.Knot.{Knot}
use Rattle.hyd_law.specs.KnotsOfStraightLines.{IsCurve}
use Rattle.hyd_tests_on_laws_periods_and_tanks.proofs.law.listed.Goals as goal

pub returns : goal.returns
returns c =
    subst IsCurve (sym (sym (append-nil c.loop-knot.list.list) ∙ ap (λ (ks : List Knot). c.loop-knot.list.list ++ ks)
    (sym (drop_all c.loop-knot.knot-index c.args.knots.now (omega arith))) ∙ c.loop-knot.invariant)) c.requires
