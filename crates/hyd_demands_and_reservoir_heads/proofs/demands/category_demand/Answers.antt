use Rattle.std.proofs.Common.{◌≤◌, ◌*◌, ◌^◌, unsigned_abs, arith}
use Rattle.std.proofs.lemmas.Int.{ints}
use Rattle.hyd_demands_and_reservoir_heads.proofs.DemandsAndReservoirHeads.{within, quotient_within}
use Rattle.hyd_demands_and_reservoir_heads.proofs.demands.category_demand.Goals as goal

pub times-requires : goal.times-requires
times-requires c =
    let factor : unsigned_abs c.times-factor.result ≤ 10 ^ 15 * 10 ^ 6 =
    quotient_within _ _ _ (10 ^ 15) (10 ^ 6) c.times-factor.ensures.small (omega (arith, ints)) (omega (arith, ints)) in
    within _ _ (10 ^ 15) (10 ^ 21) (omega (arith, ints)) (omega (arith, ints))

pub returns-clause-small : goal.returns-clause-small
returns-clause-small c =
    let factor : unsigned_abs c.times-factor.result ≤ 10 ^ 15 * 10 ^ 6 =
    quotient_within _ _ _ (10 ^ 15) (10 ^ 6) c.times-factor.ensures.small (omega (arith, ints)) (omega (arith, ints)) in
    let value : unsigned_abs c.times.result ≤ 10 ^ 15 * 10 ^ 12 =
    quotient_within _ _ _ (10 ^ 15) (10 ^ 12) c.times.ensures.small (omega (arith, ints)) (omega (arith, ints)) in
    omega (arith, ints)
