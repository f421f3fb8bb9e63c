use Rattle.std.proofs.Common.{◌∙◌, ◌<◌, ℕ, ap, subst, length, arith}
use Rattle.std.specs.Prelude.{map}
use Rattle.std.proofs.lemmas.List.{length_push}
use Rattle.std.proofs.lemmas.Option.{slice_get_within}
use Rattle.hyd_spec.specs.ProgramTypes.{Tank}
use Rattle.hyd_spec.specs.Tank.{walls_of, kept_volume}
use Rattle.hyd_spec_certificates.specs.SpansAsIntervals.{levels_of}
use Rattle.hyd_spec_certificates.specs.Interval.{exactly}
use Rattle.hyd_spec_certificates.specs.Stocks.{Stocks}
use Rattle.hyd_spec_certificates.specs.declared.LevelSpan.{LevelSpan}
use Rattle.hyd_tank.specs.StockIntervals.{AreHeld, volumes_of}
use Rattle.hyd_tank.specs.declared.stock_intervals.VolumeSpan.{VolumeSpan}
use Rattle.hyd_period_facts.proofs.InitialStocksAndStates.{item_more, all_items, held_further, held_at_start}
use Rattle.hyd_period_facts.proofs.initial_stocks.put_initial.Goals as goal

pub loop-tank-preserved : goal.loop-tank-preserved
loop-tank-preserved c =
    let project = c.args.project.now in
    let i : ℕ = c.loop-tank.tank in
    let end = c.len-tank-end.ensures in
    let test = c.loop-tank-test.true in
    let within : i < length project.tanks.list = omega (arith, end, test) in
    let level : LevelSpan = c.initial_stock-stock.result.level in
    let volume : VolumeSpan = c.initial_stock-stock.result.volume in
    let levels = c.add_level.ensures.list in
    let volumes = c.add_volume.ensures.list in
    let long = length_push c.loop-tank.levels.list level in
    let also = length_push c.loop-tank.volumes.list volume in
    let count = c.loop-tank.invariant.levels_count in
    let counted = c.loop-tank.invariant.volumes_count in
    let spare = c.add_level.ensures.spare in
    let left = c.add_volume.ensures.spare in
    let room = c.loop-tank.invariant.levels_room in
    let rest = c.loop-tank.invariant.volumes_room in
    record {
      levels_count = omega (arith, ap length levels, long, count);
      volumes_count = omega (arith, ap length volumes, also, counted);
      levels = ap (map levels_of) levels ∙ item_more levels_of (λ (tank : Tank). exactly tank.initial)
          project.tanks.list c.loop-tank.levels.list level i within c.loop-tank.invariant.levels
          (λ tank at. ap (λ (s : Stocks). s.level) (c.initial_stock-stock.ensures.value tank at));
      volumes = ap (map volumes_of) volumes ∙ item_more volumes_of (λ (tank : Tank).
          exactly (kept_volume (walls_of project tank) tank.initial))
          project.tanks.list c.loop-tank.volumes.list volume i within c.loop-tank.invariant.volumes
          (λ tank at. ap (λ (s : Stocks). s.volume) (c.initial_stock-stock.ensures.value tank at));
      held = held_further project i c.loop-tank.invariant.held
          (λ tank at. subst (AreHeld (walls_of project tank) tank) (c.initial_stock-stock.ensures.value tank at)
          (c.initial_stock-stock.ensures.held tank at));
      levels_room = omega (arith, ap length levels, long, spare, room);
      volumes_room = omega (arith, ap length volumes, also, left, rest);
    }

pub returns-clause-levels : goal.returns-clause-levels
returns-clause-levels c =
    let project = c.args.project.now in
    let end = c.len-tank-end.ensures in
    let test = c.loop-tank-test.false in
    all_items levels_of (λ (tank : Tank). exactly tank.initial) project.tanks.list c.loop-tank.levels.list
    c.loop-tank.tank (omega (arith, end, test)) c.loop-tank.invariant.levels

pub returns-clause-volumes : goal.returns-clause-volumes
returns-clause-volumes c =
    let project = c.args.project.now in
    let end = c.len-tank-end.ensures in
    let test = c.loop-tank-test.false in
    all_items volumes_of (λ (tank : Tank). exactly (kept_volume (walls_of project tank) tank.initial))
    project.tanks.list c.loop-tank.volumes.list c.loop-tank.tank (omega (arith, end, test))
    c.loop-tank.invariant.volumes

pub returns-clause-held : goal.returns-clause-held
returns-clause-held c = λ k tank at.
    let project = c.args.project.now in
    let end = c.len-tank-end.ensures in
    let test = c.loop-tank-test.false in
    let within = slice_get_within project.tanks.list k tank at in
    held_at_start project c.loop-tank.levels.list c.loop-tank.volumes.list
    (returns-clause-levels c) (returns-clause-volumes c) k tank at
    (c.loop-tank.invariant.held k tank (omega (arith, end, test, within)) at)
