-- Tanks of sound networks, and the stocks that are kept of them.
use Rattle.std.proofs.Common.{◌≡◌, ℕ, ◌^◌, ◌≤◌, ℤ, ◌∙◌, sym, ap, subst, refl, List, arith}
use Rattle.std.specs.Prelude.{Option, Some, None, slice_get, unsigned_abs}
use Rattle.std.proofs.lemmas.Int.{ints}
use Rattle.hyd_net.specs.NumberRanges.{Lies}
use Rattle.hyd_net.specs.Sound.{IsSound}
use Rattle.hyd_spec.specs.ProgramTypes.{Project, Tank}
use Rattle.hyd_spec.specs.PeriodLength.{Period, stock_at_start}
use Rattle.hyd_spec.specs.Tank.{Stock as OneStock, Walls, tank_inflow, walls_of, shape_points, kept_volume}
use Rattle.hyd_spec_witnesses.specs.MiddleCandidate.{stock_at, stock_below}
use Rattle.hyd_tank.specs.StockIntervals.{IsTankOf, IsTankOfRange}
use Rattle.hyd_theorems_on_definitions.proofs.SoundTankLemmas.{IsSoundTank, sound_tank, shape_of}
use Rattle.hyd_tank.proofs.TanksOfSoundNetworks.{tank_of, is_cylinder, is_basin, walls_without, walls_with}
use Rattle.hyd_stocks_at_scale.specs.declared.motions.Stock.{Stock}
use Rattle.hyd_stocks_at_scale.specs.Motions.{stock_of}
use Rattle.hyd_stocks_below.specs.KeptStocks.{AreKept}
use Rattle.hyd_stocks_below.proofs.VolumesKept.{volume_small}

range_by : (project : Project) (tank : Tank) (shape : Option ℕ) → tank.shape ≡ shape → IsTankOf project tank
    → IsTankOfRange tank
range_by project tank None e is = (is_cylinder project tank e is).levels
range_by project tank (Some n) e is = (is_basin project tank n e is).1.levels

-- its levels are in range
pub levels_of_tank : (project : Project) → IsSound project → (k : ℕ) (tank : Tank)
    → slice_get project.tanks.list k ≡ Some tank → IsTankOfRange tank
levels_of_tank project sound k tank at = range_by project tank tank.shape refl (tank_of project sound k tank at)

kept_by : (project : Project) (tank : Tank) (shape : Option ℕ) (level : ℤ) → tank.shape ≡ shape
    → IsSoundTank project tank → Lies tank.minimum tank.maximum level
    → unsigned_abs (kept_volume (walls_of project tank) level) ≤ 10 ^ 18
kept_by project tank None level e is lies =
    subst (λ (w : Walls). unsigned_abs (kept_volume w level) ≤ 10 ^ 18) (sym (walls_without project tank e))
    (omega (arith, ints))
kept_by project tank (Some n) level e is lies =
    subst (λ (w : Walls). unsigned_abs (kept_volume w level) ≤ 10 ^ 18) (sym (walls_with project tank n e))
    (volume_small tank (shape_points project n) level (shape_of project tank n e is) lies)

-- the volume that is kept at a level of it
pub kept_small : (project : Project) → IsSound project → (k : ℕ) (tank : Tank)
    → slice_get project.tanks.list k ≡ Some tank → (level : ℤ) → Lies tank.minimum tank.maximum level
    → unsigned_abs (kept_volume (walls_of project tank) level) ≤ 10 ^ 18
kept_small project sound k tank at level lies =
    kept_by project tank tank.shape level refl (sound_tank project sound k tank at) lies

-- and those at its minimum and its maximum
pub least_small : (project : Project) → IsSound project → (k : ℕ) (tank : Tank)
    → slice_get project.tanks.list k ≡ Some tank
    → unsigned_abs (kept_volume (walls_of project tank) tank.minimum) ≤ 10 ^ 18
least_small project sound k tank at =
    let apart = (levels_of_tank project sound k tank at).apart in
    kept_small project sound k tank at tank.minimum
    (record { at_least = omega (arith, ints); at_most = omega (arith, ints, apart) })

pub most_small : (project : Project) → IsSound project → (k : ℕ) (tank : Tank)
    → slice_get project.tanks.list k ≡ Some tank
    → unsigned_abs (kept_volume (walls_of project tank) tank.maximum) ≤ 10 ^ 18
most_small project sound k tank at =
    let apart = (levels_of_tank project sound k tank at).apart in
    kept_small project sound k tank at tank.maximum
    (record { at_least = omega (arith, ints, apart); at_most = omega (arith, ints) })

-- its initial level, and the volume there
pub level_small : (project : Project) → IsSound project → (k : ℕ) (tank : Tank)
    → slice_get project.tanks.list k ≡ Some tank → unsigned_abs tank.initial ≤ 10 ^ 18
level_small project sound k tank at =
    let initial = (sound_tank project sound k tank at).ranges.initial in
    let from = initial.at_least in
    let to = initial.at_most in
    let lowest = (levels_of_tank project sound k tank at).lowest in
    let highest = (levels_of_tank project sound k tank at).highest in
    omega (arith, ints, from, to, lowest, highest)

pub initial_small : (project : Project) → IsSound project → (k : ℕ) (tank : Tank)
    → slice_get project.tanks.list k ≡ Some tank
    → unsigned_abs (kept_volume (walls_of project tank) tank.initial) ≤ 10 ^ 18
initial_small project sound k tank at =
    kept_small project sound k tank at tank.initial (sound_tank project sound k tank at).ranges.initial

-- the stock after a period, by what is kept of it
pub stock_after : (project : Project) (before : Period) (seconds : ℕ) (stocks : List Stock) (inflows : List ℤ) (k : ℕ)
    (tank : Tank) (stock : Stock) (inflow : ℤ) → AreKept project before seconds stocks inflows
    → slice_get stocks k ≡ Some stock → slice_get inflows k ≡ Some inflow
    → stock_below (walls_of project tank) tank (stock_of stock) inflow seconds ≡ stock_at project (Some before) k tank
stock_after project before seconds stocks inflows k tank stock inflow kept s q =
    ap (λ (x : OneStock). stock_below (walls_of project tank) tank x inflow seconds) (kept.stock_each k stock s)
    ∙ (ap (λ (z : ℤ). stock_below (walls_of project tank) tank (stock_at_start before k) z seconds)
    (kept.inflow_each k inflow q)
    ∙ ap (λ (n : ℕ). stock_below (walls_of project tank) tank (stock_at_start before k)
    (tank_inflow project k before.assignment.flows) n) (sym kept.lasts))
