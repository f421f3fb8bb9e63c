use Rattle.std.proofs.Common.{◌∙◌, ◌<◌, ◌≤◌, ℕ, ap, length, arith}
use Rattle.std.specs.Prelude.{map}
use Rattle.std.proofs.lemmas.List.{length_push}
use Rattle.hyd_spec.specs.ProgramTypes.{Tank}
use Rattle.hyd_spec_certificates.specs.SpansAsIntervals.{levels_of}
use Rattle.hyd_spec_certificates.specs.Stocks.{Stocks}
use Rattle.hyd_spec_certificates.specs.declared.LevelSpan.{LevelSpan}
use Rattle.hyd_tank.specs.StockIntervals.{stocks_of, volumes_of}
use Rattle.hyd_tank.specs.declared.stock_intervals.VolumeSpan.{VolumeSpan}
use Rattle.hyd_period_facts.proofs.ItemForEachNumber.{one_more, all_there}
use Rattle.std.specs.Option.{option_map}
use Rattle.hyd_open_watches.specs.Candidates.{watch_for}
use Rattle.hyd_open_tanks.specs.StocksLeft.{left_in}
use Rattle.hyd_open_tanks.proofs.StocksLeftByFacts.{levels_are, volumes_are, all_held, held_more}
use Rattle.hyd_open_tanks.proofs.left.put_left.Goals as goal

pub loop-tank-preserved : goal.loop-tank-preserved
loop-tank-preserved c =
    let project = c.args.project.now in
    let facts = c.args.facts.now in
    let shortest = c.args.lengths.shortest in
    let longest = c.args.lengths.longest in
    let reached = option_map watch_for c.args.reached in
    let i : ℕ = c.loop-tank.tank in
    let end = c.len-tank-end.ensures in
    let test = c.loop-tank-test.true in
    let within : i < length project.tanks.list = omega (arith, end, test) in
    let level : LevelSpan = c.left_of-left.result.level in
    let volume : VolumeSpan = c.left_of-left.result.volume in
    let levels = c.add_level.ensures.list in
    let volumes = c.add_volume.ensures.list in
    let long = length_push c.loop-tank.levels.list level in
    let also = length_push c.loop-tank.volumes.list volume in
    let count = c.loop-tank.invariant.levels_count in
    let counted = c.loop-tank.invariant.volumes_count in
    let spare = c.add_level.ensures.spare in
    let left = c.add_volume.ensures.spare in
    let room = c.loop-tank.invariant.levels_room in
    let rest = c.loop-tank.invariant.volumes_room in
    record {
      levels_count = omega (arith, ap length levels, long, count);
      volumes_count = omega (arith, ap length volumes, also, counted);
      levels = ap (map levels_of) levels ∙ one_more levels_of (λ k (tank : Tank).
          (left_in project facts shortest longest reached k tank).level)
          project.tanks.list c.loop-tank.levels.list level i within c.loop-tank.invariant.levels
          (λ tank at. ap (λ (s : Stocks). s.level) (c.left_of-left.ensures.value tank at));
      volumes = ap (map volumes_of) volumes ∙ one_more volumes_of (λ k (tank : Tank).
          (left_in project facts shortest longest reached k tank).volume)
          project.tanks.list c.loop-tank.volumes.list volume i within c.loop-tank.invariant.volumes
          (λ tank at. ap (λ (s : Stocks). s.volume) (c.left_of-left.ensures.value tank at));
      held = held_more project (λ k (tank : Tank). left_in project facts shortest longest reached k tank) i
          (stocks_of c.left_of-left.result) c.loop-tank.invariant.held
          c.left_of-left.ensures.value c.left_of-left.ensures.held;
      levels_room = omega (arith, ap length levels, long, spare, room);
      volumes_room = omega (arith, ap length volumes, also, left, rest);
    }

pub returns-clause-levels : goal.returns-clause-levels
returns-clause-levels c = λ grid standing found started least most.
    let project = c.args.project.now in
    let facts = c.args.facts.now in
    let shortest = c.args.lengths.shortest in
    let longest = c.args.lengths.longest in
    let reached = option_map watch_for c.args.reached in
    let end = c.len-tank-end.ensures in
    let test = c.loop-tank-test.false in
    all_there (λ k (tank : Tank). (left_in project facts shortest longest reached k tank).level) project.tanks.list
    (map levels_of c.loop-tank.levels.list) c.loop-tank.tank (omega (arith, end, test)) c.loop-tank.invariant.levels
    ∙ levels_are project facts shortest longest reached grid standing found started least most

pub returns-clause-volumes : goal.returns-clause-volumes
returns-clause-volumes c = λ grid standing found started least most.
    let project = c.args.project.now in
    let facts = c.args.facts.now in
    let shortest = c.args.lengths.shortest in
    let longest = c.args.lengths.longest in
    let reached = option_map watch_for c.args.reached in
    let end = c.len-tank-end.ensures in
    let test = c.loop-tank-test.false in
    all_there (λ k (tank : Tank). (left_in project facts shortest longest reached k tank).volume) project.tanks.list
    (map volumes_of c.loop-tank.volumes.list) c.loop-tank.tank (omega (arith, end, test)) c.loop-tank.invariant.volumes
    ∙ volumes_are project facts shortest longest reached grid standing found started least most

pub returns-clause-held : goal.returns-clause-held
returns-clause-held c =
    let project = c.args.project.now in
    let facts = c.args.facts.now in
    let shortest = c.args.lengths.shortest in
    let longest = c.args.lengths.longest in
    let reached = option_map watch_for c.args.reached in
    let end = c.len-tank-end.ensures in
    let test = c.loop-tank-test.false in
    let all : length project.tanks.list ≤ c.loop-tank.tank = omega (arith, end, test) in
    all_held project (λ k (tank : Tank). left_in project facts shortest longest reached k tank) c.loop-tank.levels.list
    c.loop-tank.volumes.list
    (all_there (λ k (tank : Tank). (left_in project facts shortest longest reached k tank).level) project.tanks.list
    (map levels_of c.loop-tank.levels.list) c.loop-tank.tank all c.loop-tank.invariant.levels)
    (all_there (λ k (tank : Tank). (left_in project facts shortest longest reached k tank).volume) project.tanks.list
    (map volumes_of c.loop-tank.volumes.list) c.loop-tank.tank all c.loop-tank.invariant.volumes)
    (λ k tank h at. c.loop-tank.invariant.held k tank (omega (arith, h, all)) at)
