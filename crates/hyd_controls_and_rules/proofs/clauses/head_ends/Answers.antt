use Rattle.std.proofs.Common.{arith}
use Rattle.std.proofs.lemmas.Int.{ints}
use Rattle.hyd_controls_and_rules.specs.RuleReadings.{below, above}
use Rattle.hyd_controls_and_rules.proofs.QuantitiesOfClauses.{head_of_tank}
use Rattle.hyd_controls_and_rules.proofs.clauses.head_ends.Goals as goal

pub returns-in-Some : goal.returns-in-Some
returns-in-Some c =
    let project = c.args.instant.now.project.now in
    let here = c.index-as_slice-tank.result in
    record {
      lo = head_of_tank project (below c.args.instant.now) c.args.node c.in-Some.tank
          c.as_slice.result.now here _ c.level_ends.result.lo
          c.in-Some.ensures.tank (omega (arith, c.in-Some.ensures.tank)) c.as_slice.ensures
          c.index-as_slice-tank.is (omega (arith, ints)) c.level_ends.ensures.lo;
      hi = head_of_tank project (above c.args.instant.now) c.args.node c.in-Some.tank
          c.as_slice.result.now here _ c.level_ends.result.hi
          c.in-Some.ensures.tank (omega (arith, c.in-Some.ensures.tank)) c.as_slice.ensures
          c.index-as_slice-tank.is (omega (arith, ints)) c.level_ends.ensures.hi;
    }
