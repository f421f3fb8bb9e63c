use Rattle.std.proofs.Common.{◌∙◌, ◌<◌, ℕ, ap, sym, subst, length, arith}
use Rattle.std.specs.Prelude.{map}
use Rattle.std.proofs.lemmas.List.{length_push}
use Rattle.std.proofs.lemmas.Option.{slice_get_within}
use Rattle.hyd_spec.specs.Tank.{walls_of}
use Rattle.hyd_spec_certificates.specs.SpansAsIntervals.{levels_of}
use Rattle.hyd_spec_certificates.specs.Stocks.{Stocks}
use Rattle.hyd_spec_certificates.specs.declared.LevelSpan.{LevelSpan}
use Rattle.hyd_spec_spread.specs.Spreads.{level_interval}
use Rattle.hyd_spec_spread.specs.IntervalsOfData.{known_volume}
use Rattle.hyd_tank.specs.StockIntervals.{stocks_of, volumes_of, AreHeld}
use Rattle.hyd_tank.specs.declared.stock_intervals.VolumeSpan.{VolumeSpan}
use Rattle.hyd_period_facts.proofs.ItemForEachNumber.{one_more, all_there}
use Rattle.hyd_spread_rows.specs.SpreadsRead.{spread_of}
use Rattle.hyd_spread_start.proofs.KnownStocksOfRows.{known-among, held-more}
use Rattle.hyd_spread_start.proofs.known_stocks.put_known.Goals as goal

pub loop-tank-preserved : goal.loop-tank-preserved
loop-tank-preserved c =
    let project = c.args.project.now in
    let spread = spread_of c.args.rows.now in
    let i : ℕ = c.loop-tank.tank in
    let end = c.len-tank-end.ensures in
    let test = c.loop-tank-test.true in
    let within : i < length project.tanks.list = omega (arith, end, test) in
    let level : LevelSpan = c.stock_of-stock.result.level in
    let volume : VolumeSpan = c.stock_of-stock.result.volume in
    let levels = c.add_level.ensures.list in
    let volumes = c.add_volume.ensures.list in
    let long = length_push c.loop-tank.levels.list level in
    let also = length_push c.loop-tank.volumes.list volume in
    let count = c.loop-tank.invariant.levels_count in
    let counted = c.loop-tank.invariant.volumes_count in
    let spare = c.add_level.ensures.spare in
    let left = c.add_volume.ensures.spare in
    let room = c.loop-tank.invariant.levels_room in
    let rest = c.loop-tank.invariant.volumes_room in
    record {
      levels_count = omega (arith, ap length levels, long, count);
      volumes_count = omega (arith, ap length volumes, also, counted);
      levels = ap (map levels_of) levels ∙ one_more levels_of (level_interval spread) project.tanks.list
          c.loop-tank.levels.list level i within c.loop-tank.invariant.levels
          (λ tank at. ap (λ (s : Stocks). s.level) (c.stock_of-stock.ensures.value tank at));
      volumes = ap (map volumes_of) volumes ∙ one_more volumes_of (known_volume project spread) project.tanks.list
          c.loop-tank.volumes.list volume i within c.loop-tank.invariant.volumes
          (λ tank at. ap (λ (s : Stocks). s.volume) (c.stock_of-stock.ensures.value tank at));
      held = held-more project spread i (stocks_of c.stock_of-stock.result) c.loop-tank.invariant.held
          c.stock_of-stock.ensures.value c.stock_of-stock.ensures.held;
      levels_room = omega (arith, ap length levels, long, spare, room);
      volumes_room = omega (arith, ap length volumes, also, left, rest);
    }

pub returns-clause-levels : goal.returns-clause-levels
returns-clause-levels c =
    let end = c.len-tank-end.ensures in
    let test = c.loop-tank-test.false in
    all_there (level_interval (spread_of c.args.rows.now)) c.args.project.now.tanks.list
    (map levels_of c.loop-tank.levels.list) c.loop-tank.tank (omega (arith, end, test)) c.loop-tank.invariant.levels

pub returns-clause-volumes : goal.returns-clause-volumes
returns-clause-volumes c =
    let end = c.len-tank-end.ensures in
    let test = c.loop-tank-test.false in
    all_there (known_volume c.args.project.now (spread_of c.args.rows.now)) c.args.project.now.tanks.list
    (map volumes_of c.loop-tank.volumes.list) c.loop-tank.tank (omega (arith, end, test)) c.loop-tank.invariant.volumes

pub returns-clause-held : goal.returns-clause-held
returns-clause-held c = λ k tank at.
    let project = c.args.project.now in
    let spread = spread_of c.args.rows.now in
    let end = c.len-tank-end.ensures in
    let test = c.loop-tank-test.false in
    let within = slice_get_within project.tanks.list k tank at in
    subst (AreHeld (walls_of project tank) tank)
    (sym (known-among project spread c.loop-tank.levels.list c.loop-tank.volumes.list (returns-clause-levels c)
    (returns-clause-volumes c) k tank at))
    (c.loop-tank.invariant.held k tank (omega (arith, end, test, within)) at)
