-- The place, and then the line feed.
use Rattle.std.proofs.lemmas.Result.{err_from_is_err_and}
use Rattle.hyd_io.proofs.PutLemmas.{puts_then, puts_cut_off, puts_ready}
use Rattle.hyd_link_names.proofs.refused_name_line.put_place.Goals as goal

pub put-requires : goal.put-requires
put-requires g c = puts_ready _ _ _ _ _ _ c.in_ok-put_number.ensures c.requires

pub returns-in_err-put_number : goal.returns-in_err-put_number
returns-in_err-put_number g c =
    let p = err_from_is_err_and c.from_residual.result c.from_residual.ensures.1 in
    rw (p.1, p.2) (puts_cut_off _ _ c.in_err-put_number.field-0.0 _ _ _ _ (rw c.from.ensures at c.in_err-put_number.ensures))

pub returns : goal.returns
returns g c = puts_then _ _ _ _ _ _ _ _ _ (rw c.from.ensures at c.in_ok-put_number.ensures) c.put.ensures
