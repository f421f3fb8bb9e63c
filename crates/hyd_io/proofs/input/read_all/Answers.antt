use Rattle.std.proofs.Common.{◌≡◌, ◌+◌, ◌-◌, length, arith, ◌∙◌, ap, Err}
use Rattle.std.proofs.lemmas.Result.{err_from_is_err_and}
use Rattle.hyd_io.specs.declared.input.InFault.TheVariants.{TooLong}
use Rattle.hyd_io.proofs.MovedBytesLemmas.{took_after, Took-length}
use Rattle.hyd_io.proofs.input.read_all.Goals as goal

-- the bytes before the last block, and one more than there was room for in it
pub returns-in_err-n-clause-too_long : goal.returns-in_err-n-clause-too_long
returns-in_err-n-clause-too_long g c =
    let p = err_from_is_err_and c.from_residual.result c.from_residual.ensures.1 in
    rw (p.1, p.2) (λ h.
    let sum : length c.loop-bytes.bytes.items + (c.args.limit - c.len.result + 1) ≡ c.args.limit
    + 1 = omega (arith, c.loop-bytes.invariant.within, c.len.ensures) in
    let same : c.in_err-n.field-0.0 ≡ TooLong = cc in
    let took = took_after _ _ _ _ _ c.loop-bytes.invariant.front (c.in_err-n.ensures.too_long (ap Err same)) in
    (took.0, (took.1.0 ∙ sum, took.1.1)))

-- a rest that is told is as long as what was taken from it
pub returns-in_err-n-clause-longer : goal.returns-in_err-n-clause-longer
returns-in_err-n-clause-longer g c = λ text told h.
    let took = returns-in_err-n-clause-too_long g c h in
    let long = Took-length (c.args.limit + 1) _ _ text told took in
    omega (arith, long)
