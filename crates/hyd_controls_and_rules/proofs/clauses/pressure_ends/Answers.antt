use Rattle.std.proofs.Common.{arith}
use Rattle.std.proofs.lemmas.Int.{ints}
use Rattle.hyd_controls_and_rules.specs.RuleReadings.{below, above}
use Rattle.hyd_controls_and_rules.proofs.QuantitiesOfClauses.{pressure_of_tank, pressure_of_junction, junction_of}
use Rattle.hyd_controls_and_rules.proofs.clauses.pressure_ends.Goals as goal

pub returns-in-Some : goal.returns-in-Some
returns-in-Some c =
    let project = c.args.instant.now.project.now in
    record {
      lo = pressure_of_tank project (below c.args.instant.now) c.args.node c.in-Some.tank
          c.level_ends.result.lo c.in-Some.ensures.tank c.level_ends.ensures.lo;
      hi = pressure_of_tank project (above c.args.instant.now) c.args.node c.in-Some.tank
          c.level_ends.result.hi c.in-Some.ensures.tank c.level_ends.ensures.hi;
    }

pub returns : goal.returns
returns c =
    let project = c.args.instant.now.project.now in
    let there = junction_of project c.args.node c.requires.there c.in_default.ensures.other in
    record {
      lo = pressure_of_junction project (below c.args.instant.now) c.args.node c.as_slice.result.now
          c.index-as_slice-node.result _
          c.in_default.ensures.other there c.as_slice.ensures c.index-as_slice-node.is (omega (arith, ints));
      hi = pressure_of_junction project (above c.args.instant.now) c.args.node c.as_slice.result.now
          c.index-as_slice-node.result _
          c.in_default.ensures.other there c.as_slice.ensures c.index-as_slice-node.is (omega (arith, ints));
    }
