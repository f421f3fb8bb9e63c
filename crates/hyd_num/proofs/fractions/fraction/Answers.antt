use Rattle.std.proofs.Common.{◌≡◌, ◌*◌, ◌<◌, ◌^◌, arith}
use Rattle.std.proofs.lemmas.Int.{ints}
use Rattle.hyd_num.proofs.RoundingLemmas.{IsCut-ratio}
use Rattle.hyd_num.proofs.fractions.fraction.Goals as goal

pub returns-clause-cut : goal.returns-clause-cut
returns-clause-cut c =
    let mantissa : c.cut_at.result.down.mant ≡ c.divided-division.result.mant = c.cut_at.ensures.mantissa in
    let value : c.doubled-divisor.result.value ≡ c.args.q * 2 ^ c.doubled-divisor.result.doublings =
    c.doubled-divisor.ensures.value in
    let small : c.divided-division.result.rest < c.args.q * 2 ^ c.doubled-divisor.result.doublings =
    omega (arith, c.divided-division.ensures.rest) in
    IsCut-ratio c.divided-division.result.digits c.doubled-divisor.result.doublings c.args.p c.args.q
    c.divided-division.result.rest
    c.cut_at.result.down c.cut_at.result.exact
    (rw (mantissa, ← value) c.divided-division.ensures.split) small c.cut_at.ensures.exactness (omega (arith, ints))
