-- Levels and volumes of small stocks.
use Rattle.std.proofs.Common.{ℕ, ◌<◌, ◌≤◌, pos}
use Rattle.std.specs.Prelude.{slice_index_or, unsigned_abs}
use Rattle.hyd_spec.specs.ProgramTypes.{Project}
use Rattle.hyd_spec.specs.NodeNumbers.{tank_count}
use Rattle.hyd_spec_witnesses.specs.MetPeriods.{Moment}
use Rattle.hyd_lemmas.proofs.ListsOptionsAndResults.{item_there}
use Rattle.hyd_stocks_at_scale.specs.Motions.{content_limit}
use Rattle.hyd_course.specs.Stocks.{AreSmallStocks}

pub levels_small : (project : Project) (moment : Moment) → AreSmallStocks project moment → (k : ℕ)
    → k < tank_count project → unsigned_abs (slice_index_or moment.levels k (pos 0)) ≤ content_limit
levels_small project moment small k lt =
    let tank = item_there project.tanks.list k lt in (small k tank.0 tank.1).level

pub volumes_small : (project : Project) (moment : Moment) → AreSmallStocks project moment → (k : ℕ)
    → k < tank_count project → unsigned_abs (slice_index_or moment.volumes k (pos 0)) ≤ content_limit
volumes_small project moment small k lt =
    let tank = item_there project.tanks.list k lt in (small k tank.0 tank.1).volume
