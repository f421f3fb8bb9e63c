use Rattle.std.proofs.Common.{◌∙◌, ◌<◌, ℕ, ap, length, arith}
use Rattle.std.specs.Prelude.{map}
use Rattle.std.specs.Option.{option_map}
use Rattle.std.proofs.lemmas.List.{length_push}
use Rattle.hyd_spec_certificates.specs.SpansAsIntervals.{levels_of}
use Rattle.hyd_spec_certificates.specs.declared.LevelSpan.{LevelSpan}
use Rattle.hyd_period_facts.proofs.ItemForEachNumber.{one_more, all_there}
use Rattle.hyd_open_watches.specs.Candidates.{watch_for}
use Rattle.hyd_open_period_end.specs.CarriedAtEnd.{carried_left_in}
use Rattle.hyd_open_period_end.proofs.CarriedLeftByFacts.{left_are}
use Rattle.hyd_open_period_end.proofs.carried_at_end.put_carried_at_end.Goals as goal

pub loop-tank-preserved : goal.loop-tank-preserved
loop-tank-preserved c =
    let project = c.args.project.now in
    let facts = c.args.facts.now in
    let lengths = c.args.lengths in
    let reached = option_map watch_for c.args.reached in
    let i : ℕ = c.loop-tank.tank in
    let end = c.len-tank-end.ensures in
    let test = c.loop-tank-test.true in
    let within : i < length project.tanks.list = omega (arith, end, test) in
    let level : LevelSpan = c.carried_of-level.result in
    let listed = c.add_level.ensures.list in
    let long = length_push c.loop-tank.levels.list level in
    let count = c.loop-tank.invariant.count in
    let spare = c.add_level.ensures.spare in
    let room = c.loop-tank.invariant.room in
    record {
      count = omega (arith, ap length listed, long, count);
      levels = ap (map levels_of) listed ∙ one_more levels_of
          (carried_left_in project facts lengths.shortest lengths.longest reached) project.tanks.list
          c.loop-tank.levels.list level i within c.loop-tank.invariant.levels c.carried_of-level.ensures;
      room = omega (arith, ap length listed, long, spare, room);
    }

pub returns-clause-levels : goal.returns-clause-levels
returns-clause-levels c = λ grid standing found started least most.
    let project = c.args.project.now in
    let facts = c.args.facts.now in
    let lengths = c.args.lengths in
    let reached = option_map watch_for c.args.reached in
    let end = c.len-tank-end.ensures in
    let test = c.loop-tank-test.false in
    all_there (carried_left_in project facts lengths.shortest lengths.longest reached) project.tanks.list
    (map levels_of c.loop-tank.levels.list)
    c.loop-tank.tank (omega (arith, end, test)) c.loop-tank.invariant.levels
    ∙ left_are project facts lengths.shortest lengths.longest reached grid standing found started least most
