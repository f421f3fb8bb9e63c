-- A history is one of each network that differs in spares alone.
use Rattle.std.proofs.Common.{◌≡◌, ℕ, ◌+◌, ◌%◌, ℤ, pos, List, [], ◌∷◌, ap, subst, ◌∙◌}
use Rattle.std.specs.Prelude.{◌==◌, if◌then◌else◌, slice_index_or}
use Rattle.hyd_spec.specs.ProgramTypes.{Project, Tank, LinkState}
use Rattle.hyd_spec.specs.Scale.{at_scale}
use Rattle.hyd_spec.specs.Tank.{Walls, Stock, IsNextStock, walls_of, kept_volume, tank_inflow}
use Rattle.hyd_spec.specs.PumpPatternsAndSimpleControls.{acts_at}
use Rattle.hyd_spec.specs.PeriodLength.{Period, stock_at_start}
use Rattle.hyd_spec.specs.History.{Begins, IsPeriod, AreNextStocks, commanded_after, ComesAfter, GoesOn}
use Rattle.hyd_spec.specs.History.{initial_levels, initial_volumes, initial_links, IsHistory}
use Rattle.hyd_theorems_on_rereading.specs.WithoutSpare.{bare_project}
use Rattle.hyd_theorems_on_rereading.proofs.PartsWithSpares.{Inner, with_inner, AreAlike, own_inner, bare_inner}
use Rattle.hyd_theorems_on_rereading.proofs.PartsWithSpares.{bare_alike}
use Rattle.hyd_theorems_on_rereading.proofs.PartsWithSpares.{turned}
use Rattle.hyd_theorems_on_rereading.proofs.SameQuantities.{same_map, same_walls}
use Rattle.hyd_theorems_on_rereading.proofs.SameLinkStatesAtStart.{same_started}
use Rattle.hyd_theorems_on_rereading.proofs.SameAssignments.{assignment_on}
use Rattle.hyd_theorems_on_rereading.proofs.SamePeriodLengths.{same_tank_inflow, same_acted_then, length_on}

module _ (p : Project) (x y : Inner) (alike : AreAlike x y) (S : ℕ) where
  -- ---- a period

  begins_on : (time : ℕ) (levels volumes : List ℤ) (commanded : List LinkState) (period : Period)
      → Begins (with_inner p x) S time levels volumes commanded period
      → Begins (with_inner p y) S time levels volumes commanded period
  begins_on time levels volumes commanded period is = record {
    at_time = is.at_time;
    at_levels = is.at_levels;
    at_volumes = is.at_volumes;
    tanks = is.tanks;
    links = is.links ∙ same_started p x y alike time (acts_at S levels) commanded;
  }

  period_on : (period : Period) → IsPeriod (with_inner p x) S period → IsPeriod (with_inner p y) S period
  period_on period is = record {
    obeys = assignment_on p x y alike S period.time period.levels period.tanks period.links period.assignment
        is.obeys;
    lasts = length_on p x y alike S period is.lasts;
  }

  -- ---- its end

  stock_on : (period : Period) (k : ℕ) (tank : Tank) (next : Stock)
      → IsNextStock S (walls_of (with_inner p x) tank) tank (stock_at_start period k)
      (tank_inflow (with_inner p x) k period.assignment.flows) period.length next
      → IsNextStock S (walls_of (with_inner p y) tank) tank (stock_at_start period k)
      (tank_inflow (with_inner p y) k period.assignment.flows) period.length next
  stock_on period k tank next is =
      subst (λ (walls : Walls). IsNextStock S walls tank (stock_at_start period k)
      (tank_inflow (with_inner p y) k period.assignment.flows) period.length next) (same_walls p x y alike tank)
      (subst (λ (inflow : ℤ). IsNextStock S (walls_of (with_inner p x) tank) tank (stock_at_start period k) inflow
      period.length next) (same_tank_inflow p x y alike k period.assignment.flows) is)

  stocks_on : (period : Period) (levels volumes : List ℤ) → AreNextStocks (with_inner p x) S period levels volumes
      → AreNextStocks (with_inner p y) S period levels volumes
  stocks_on period levels volumes are = record {
    level_each = are.level_each;
    volume_each = are.volume_each;
    each = λ k tank there. stock_on period k tank
        (record { level = slice_index_or levels k (pos 0); volume = slice_index_or volumes k (pos 0) })
        (are.each k tank there);
  }

  same_commands : (period : Period)
      → commanded_after (with_inner p x) S period ≡ commanded_after (with_inner p y) S period
  same_commands period =
      ap (λ (states : List LinkState). if (period.time + period.length) % p.times.rule == 0 then states
      else period.links) (same_acted_then p x y alike S period (period.time + period.length))

  after_on : (before period : Period) → ComesAfter (with_inner p x) S before period
      → ComesAfter (with_inner p y) S before period
  after_on before period is = record {
    not_last = is.not_last;
    stocks = stocks_on before period.levels period.volumes is.stocks;
    begins = subst (λ (commanded : List LinkState). Begins (with_inner p y) S (before.time + before.length)
        period.levels period.volumes commanded period) (same_commands before)
        (begins_on (before.time + before.length) period.levels period.volumes
        (commanded_after (with_inner p x) S before) period is.begins);
  }

  -- ---- histories

  goes_on : (before : Period) (rest : List Period) → GoesOn (with_inner p x) S before rest
      → GoesOn (with_inner p y) S before rest
  goes_on before [] is = is
  goes_on before (period ∷ rest) is =
      (after_on before period is.0, (period_on period is.1.0, goes_on period rest is.1.1))

  same_initial_volumes : initial_volumes (with_inner p x) S ≡ initial_volumes (with_inner p y) S
  same_initial_volumes =
      same_map (λ (tank : Tank). at_scale S (kept_volume (walls_of (with_inner p x) tank) tank.initial))
      (λ (tank : Tank). at_scale S (kept_volume (walls_of (with_inner p y) tank) tank.initial))
      (λ tank. ap (λ (walls : Walls). at_scale S (kept_volume walls tank.initial)) (same_walls p x y alike tank))
      p.tanks.list

  history_on : (history : List Period) → IsHistory (with_inner p x) S history → IsHistory (with_inner p y) S history
  history_on [] is = is
  history_on (first ∷ rest) is = (
    subst (λ (volumes : List ℤ). Begins (with_inner p y) S 0 (initial_levels (with_inner p x) S) volumes
        (initial_links (with_inner p x)) first) same_initial_volumes
        (begins_on 0 (initial_levels (with_inner p x) S) (initial_volumes (with_inner p x) S)
        (initial_links (with_inner p x)) first is.0),
    (period_on first is.1.0, goes_on first rest is.1.1),
  )

pub histories : (p q : Project) → bare_project p ≡ bare_project q → (S : ℕ) (history : List Period)
    → IsHistory p S history → IsHistory q S history
histories p q same S history is =
    history_on q (bare_inner q) (own_inner q) (turned (own_inner q) (bare_inner q) (bare_alike q)) S history
    (subst (λ (r : Project). IsHistory r S history) same
    (history_on p (own_inner p) (bare_inner p) (bare_alike p) S history is))
