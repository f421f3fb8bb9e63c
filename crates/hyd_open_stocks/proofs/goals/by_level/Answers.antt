use Rattle.std.proofs.Common.{◌≡◌, ℤ, refl, arith, to_z, of_z, w64, SFits, rules}
use Rattle.std.specs.Int.{int_max, int_min}
use Rattle.std.proofs.lemmas.Int.{ints, clamps}
use Rattle.hyd_open_stocks.proofs.goals.by_level.Goals as goal

pub returns : goal.returns
returns c =
    let tank = c.args.tank.now in
    let levels = c.requires.levels in
    let lowest = levels.lowest in
    let apart = levels.apart in
    let highest = levels.highest in
    let a = c.max.ensures.value in
    let b = c.min-held.ensures.value in
    let fits : SFits w64 c.args.arrival.target = search rules in
    let r : ℤ = to_z w64 (of_z w64 c.min-held.result) in
    let is : r ≡ int_min (int_max c.args.arrival.target tank.minimum) tank.maximum =
    omega (arith, ints, clamps, a, b, lowest, apart, highest) in
    record {
      within = record {
        level = record {
          lo_above = omega (arith, ints, clamps, is, apart);
          lo_below = omega (arith, ints, clamps, is, apart);
          hi_above = omega (arith, ints, clamps, is, apart);
          hi_below = omega (arith, ints, clamps, is, apart);
        };
        volume = record {
          lo_above = omega (arith, ints);
          lo_below = omega (arith, ints);
          hi_above = omega (arith, ints);
          hi_below = omega (arith, ints);
        };
      };
      contents = λ i. record { lo = is i; hi = is i };
      not_short = omega (arith, ints);
      beyond = refl;
    }
