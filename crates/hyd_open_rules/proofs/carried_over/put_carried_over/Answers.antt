use Rattle.std.proofs.Common.{◌∙◌, ◌<◌, ℕ, ap, length, arith}
use Rattle.std.specs.Prelude.{map}
use Rattle.std.proofs.lemmas.List.{length_push}
use Rattle.hyd_spec_certificates.specs.SpansAsIntervals.{levels_of}
use Rattle.hyd_spec_certificates.specs.declared.LevelSpan.{LevelSpan}
use Rattle.hyd_period_facts.proofs.ItemForEachNumber.{one_more, all_there}
use Rattle.hyd_open_rules.specs.OpenReadings.{carried_over_in}
use Rattle.hyd_open_rules.proofs.CarriedOverByFacts.{carried_are}
use Rattle.hyd_open_rules.proofs.carried_over.put_carried_over.Goals as goal

pub loop-tank-preserved : goal.loop-tank-preserved
loop-tank-preserved c =
    let project = c.args.project.now in
    let facts = c.args.facts.now in
    let lengths = c.args.lengths in
    let i : ℕ = c.loop-tank.tank in
    let end = c.len-tank-end.ensures in
    let test = c.loop-tank-test.true in
    let within : i < length project.tanks.list = omega (arith, end, test) in
    let level : LevelSpan = c.carried_of-level.result in
    let listed = c.add_level.ensures.list in
    let long = length_push c.loop-tank.levels.list level in
    let count = c.loop-tank.invariant.count in
    let spare = c.add_level.ensures.spare in
    let room = c.loop-tank.invariant.room in
    record {
      count = omega (arith, ap length listed, long, count);
      levels = ap (map levels_of) listed ∙ one_more levels_of
          (carried_over_in project facts lengths.shortest lengths.longest) project.tanks.list
          c.loop-tank.levels.list level i within c.loop-tank.invariant.levels c.carried_of-level.ensures;
      room = omega (arith, ap length listed, long, spare, room);
    }

pub returns-clause-levels : goal.returns-clause-levels
returns-clause-levels c = λ grid standing row started.
    let project = c.args.project.now in
    let facts = c.args.facts.now in
    let lengths = c.args.lengths in
    let end = c.len-tank-end.ensures in
    let test = c.loop-tank-test.false in
    all_there (carried_over_in project facts lengths.shortest lengths.longest) project.tanks.list
    (map levels_of c.loop-tank.levels.list)
    c.loop-tank.tank (omega (arith, end, test)) c.loop-tank.invariant.levels
    ∙ carried_are project grid standing row facts lengths.shortest lengths.longest started
