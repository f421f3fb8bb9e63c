-- Lists of next stocks, by facts and by whatever standing and record these are of.
use Rattle.std.proofs.Common.{◌≡◌, inl, inr, ℕ, ◌+◌, ◌<◌, List, length, ap, sym, ◌∙◌, subst, arith}
use Rattle.std.specs.Prelude.{Some, map, slice_get, slice_index_or}
use Rattle.std.proofs.lemmas.Bool.{cases_lt}
use Rattle.std.proofs.lemmas.Option.{slice_get_within}
use Rattle.hyd_spec.specs.ProgramTypes.{Project, Tank}
use Rattle.hyd_spec.specs.Lists.{map_from}
use Rattle.hyd_spec.specs.Tank.{walls_of}
use Rattle.hyd_spec_certificates.specs.SpansAsIntervals.{levels_of}
use Rattle.hyd_spec_certificates.specs.Interval.{Interval}
use Rattle.hyd_spec_certificates.specs.PeriodNetwork.{Grid}
use Rattle.hyd_spec_certificates.specs.RecordAndStanding.{Record, Standing}
use Rattle.hyd_spec_certificates.specs.Stocks.{Stocks, next_stocks}
use Rattle.hyd_spec_certificates.specs.Decided.{stocks_of_tank, nowhere}
use Rattle.hyd_spec_certificates.specs.Valid.{stocks_next, levels_next, volumes_next}
use Rattle.hyd_spec_certificates.specs.declared.LevelSpan.{LevelSpan}
use Rattle.hyd_tank.specs.StockIntervals.{AreHeld, volumes_of}
use Rattle.hyd_tank.specs.declared.stock_intervals.VolumeSpan.{VolumeSpan}
use Rattle.hyd_period_facts.specs.declared.facts.Facts.{Facts}
use Rattle.hyd_lemmas.proofs.ListsOptionsAndResults.{item_is, same_from}
use Rattle.hyd_period_facts.proofs.ItemForEachNumber.{placed_first}
use Rattle.hyd_period_facts.specs.FactsBeforeEnd.{AreStarted, inflow_in}
use Rattle.hyd_period_facts.proofs.StocksAndInflowsByFacts.{stocks_are, inflow_is}
use Rattle.hyd_period_facts.specs.TankStart.{next_in, stocks_among}

next_is : (project : Project) (grid : Grid) (standing : Standing) (row : Record) (facts : Facts) (seconds : ℕ)
    → AreStarted project grid standing row facts → (k : ℕ) (tank : Tank) → slice_get project.tanks.list k ≡ Some tank
    → next_in project facts seconds k tank ≡ stocks_next project grid standing row seconds k tank
next_is project grid standing row facts seconds started k tank at =
    ap (λ (s : Stocks). next_stocks (walls_of project tank) tank s (inflow_in facts k) seconds)
    (stocks_are project grid standing row facts started k)
    ∙ ap (λ (q : Interval). next_stocks (walls_of project tank) tank (stocks_of_tank standing k) q seconds)
    (inflow_is project grid standing row facts started k tank at)

abbrev pub levels_in : Project → Facts → ℕ → List Interval
levels_in project facts seconds = map_from (λ k tank. (next_in project facts seconds k tank).level) 0 project.tanks.list

abbrev pub volumes_in : Project → Facts → ℕ → List Interval
volumes_in project facts seconds = map_from (λ k tank.
    (next_in project facts seconds k tank).volume) 0 project.tanks.list

pub at_first : (k : ℕ) → 0 + k ≡ k
at_first k = omega arith

pub levels_are : (project : Project) (grid : Grid) (standing : Standing) (row : Record) (facts : Facts) (seconds : ℕ)
    → AreStarted project grid standing row facts
    → levels_in project facts seconds ≡ levels_next project grid standing row seconds
levels_are project grid standing row facts seconds started =
    same_from (λ k tank. (next_in project facts seconds k tank).level) (λ k tank.
    (stocks_next project grid standing row seconds k tank).level)
    0 project.tanks.list (λ k tank at. subst (λ (n : ℕ). (next_in project facts seconds n tank).level
    ≡ (stocks_next project grid standing row seconds n tank).level) (sym (at_first k))
    (ap (λ (s : Stocks). s.level) (next_is project grid standing row facts seconds started k tank at)))

pub volumes_are : (project : Project) (grid : Grid) (standing : Standing) (row : Record) (facts : Facts) (seconds : ℕ)
    → AreStarted project grid standing row facts
    → volumes_in project facts seconds ≡ volumes_next project grid standing row seconds
volumes_are project grid standing row facts seconds started =
    same_from (λ k tank. (next_in project facts seconds k tank).volume) (λ k tank.
    (stocks_next project grid standing row seconds k tank).volume)
    0 project.tanks.list (λ k tank at. subst (λ (n : ℕ). (next_in project facts seconds n tank).volume
    ≡ (stocks_next project grid standing row seconds n tank).volume) (sym (at_first k))
    (ap (λ (s : Stocks). s.volume) (next_is project grid standing row facts seconds started k tank at)))

-- the stocks among lists that are those of the facts
pub among_are : (project : Project) (facts : Facts) (seconds : ℕ) (levels : List LevelSpan) (volumes : List VolumeSpan)
    → map levels_of levels ≡ levels_in project facts seconds → map volumes_of volumes ≡ volumes_in project facts seconds
    → (k : ℕ) (tank : Tank) → slice_get project.tanks.list k ≡ Some tank
    → stocks_among levels volumes k ≡ next_in project facts seconds k tank
among_are project facts seconds levels volumes a b k tank at =
    let within = slice_get_within project.tanks.list k tank at in
    let level : slice_index_or (map levels_of levels) k nowhere ≡ (next_in project facts seconds k tank).level =
    ap (λ (xs : List Interval). slice_index_or xs k nowhere) a
    ∙ placed_first (λ k tank. (next_in project facts seconds k tank).level) k project.tanks.list nowhere tank within
    ∙ ap (λ (t : Tank). (next_in project facts seconds k t).level) (item_is project.tanks.list k tank tank at) in
    let volume : slice_index_or (map volumes_of volumes) k nowhere ≡ (next_in project facts seconds k tank).volume =
    ap (λ (xs : List Interval). slice_index_or xs k nowhere) b
    ∙ placed_first (λ k tank. (next_in project facts seconds k tank).volume) k project.tanks.list nowhere tank within
    ∙ ap (λ (t : Tank). (next_in project facts seconds k t).volume) (item_is project.tanks.list k tank tank at) in
    ap (λ (l : Interval). stocks l (slice_index_or (map volumes_of volumes) k nowhere)) level
    ∙ ap (λ (v : Interval). stocks (next_in project facts seconds k tank).level v) volume
  where
    stocks : Interval → Interval → Stocks
    stocks level volume = record { level = level; volume = volume }

pub all_held : (project : Project) (facts : Facts) (seconds : ℕ) (levels : List LevelSpan) (volumes : List VolumeSpan)
    → map levels_of levels ≡ levels_in project facts seconds → map volumes_of volumes ≡ volumes_in project facts seconds
    → ((k : ℕ) (tank : Tank) → k < length project.tanks.list → slice_get project.tanks.list k ≡ Some tank
    → AreHeld (walls_of project tank) tank (next_in project facts seconds k tank))
    → (k : ℕ) (tank : Tank) → slice_get project.tanks.list k ≡ Some tank
    → AreHeld (walls_of project tank) tank (stocks_among levels volumes k)
all_held project facts seconds levels volumes a b held k tank at =
    subst (AreHeld (walls_of project tank) tank) (sym (among_are project facts seconds levels volumes a b k tank at))
    (held k tank (slice_get_within project.tanks.list k tank at) at)

-- one tank more
pub held_more : (project : Project) (facts : Facts) (seconds i : ℕ) (next : Stocks)
    → ((k : ℕ) (tank : Tank) → k < i → slice_get project.tanks.list k ≡ Some tank
    → AreHeld (walls_of project tank) tank (next_in project facts seconds k tank))
    → ((tank : Tank) → slice_get project.tanks.list i ≡ Some tank → next ≡ next_in project facts seconds i tank)
    → ((tank : Tank) → slice_get project.tanks.list i ≡ Some tank → AreHeld (walls_of project tank) tank next)
    → (k : ℕ) (tank : Tank) → k < i + 1 → slice_get project.tanks.list k ≡ Some tank
    → AreHeld (walls_of project tank) tank (next_in project facts seconds k tank)
held_more project facts seconds i next before is held k tank h at = elim (cases_lt k i) [
  | inl less ↦ before k tank less at
  | inr more ↦
      let same : i ≡ k = omega (arith, h, more) in
      let here : slice_get project.tanks.list i ≡ Some tank =
      ap (λ (n : ℕ). slice_get project.tanks.list n) same ∙ at in
      subst (λ (n : ℕ). AreHeld (walls_of project tank) tank (next_in project facts seconds n tank)) same
      (subst (AreHeld (walls_of project tank) tank) (is tank here) (held tank here))
]
