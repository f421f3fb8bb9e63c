-- Stocks left by a period, by facts and by whatever standing and record these are of.
use Rattle.std.proofs.Common.{◌≡◌, inl, inr, ℕ, ◌+◌, ◌<◌, List, length, ap, sym, ◌∙◌, subst, arith}
use Rattle.std.specs.Prelude.{Option, Some, None, map, slice_get, slice_index_or, IfSome}
use Rattle.std.proofs.lemmas.Bool.{cases_lt}
use Rattle.std.proofs.lemmas.Option.{slice_get_within}
use Rattle.hyd_spec.specs.ProgramTypes.{Project, Tank}
use Rattle.hyd_spec.specs.Lists.{map_from}
use Rattle.hyd_spec.specs.Tank.{walls_of}
use Rattle.hyd_spec_certificates.specs.SpansAsIntervals.{levels_of}
use Rattle.hyd_spec_certificates.specs.Interval.{Interval}
use Rattle.hyd_spec_certificates.specs.PeriodNetwork.{Grid}
use Rattle.hyd_spec_certificates.specs.RecordAndStanding.{Standing}
use Rattle.hyd_spec_certificates.specs.Stocks.{Stocks}
use Rattle.hyd_spec_certificates.specs.Decided.{Watch, stocks_of_tank, inflow_of_tank, nowhere}
use Rattle.hyd_spec_certificates.specs.declared.LevelSpan.{LevelSpan}
use Rattle.hyd_spec_open_ends.specs.OpenStandings.{OpenRecord}
use Rattle.hyd_spec_open_ends.specs.OpenRecords.{level_left, stocks_left, levels_left, volumes_left}
use Rattle.hyd_tank.specs.StockIntervals.{AreHeld, volumes_of}
use Rattle.hyd_tank.specs.declared.stock_intervals.VolumeSpan.{VolumeSpan}
use Rattle.hyd_lemmas.proofs.ListsOptionsAndResults.{item_is, same_from}
use Rattle.hyd_period_facts.proofs.ItemForEachNumber.{placed_first}
use Rattle.hyd_period_facts.proofs.StocksAndInflowsByFacts.{stocks_are, inflow_is}
use Rattle.hyd_period_facts.specs.declared.facts.Facts.{Facts}
use Rattle.hyd_period_facts.specs.FactsBeforeEnd.{AreStarted, stocks_in, inflow_in}
use Rattle.hyd_spec_open_ends.specs.StocksOverLengths.{Arrival as Cut, carried_at_end, stocks_at_end, kept}
use Rattle.hyd_spec_open_ends.specs.Arrivals.{arrival_of}
use Rattle.hyd_period_facts.specs.TankStart.{stocks_among}
use Rattle.hyd_open_stocks.specs.declared.lengths_and_arrivals.Arrival.{Arrival}
use Rattle.hyd_open_stocks.specs.LevelsInReach.{IsInReach}
use Rattle.hyd_open_watches.specs.declared.watches.Watch.{Watch as Here}
use Rattle.hyd_open_tanks.specs.StocksLeft.{left_by, left_in, IsInReachOf, ComesFrom}

abbrev pub parts : Interval → Interval → Stocks
parts level volume = record { level = level; volume = volume }

-- ---- what has just been reached is in reach

pub reached_here : (project : Project) (facts : Facts) (reached : Option Here) (tank : ℕ) (each : Tank)
    (inflow : Interval) (arrival : Option Arrival) → slice_get project.tanks.list tank ≡ Some each
    → inflow ≡ inflow_in facts tank → IsInReachOf project facts reached → IfSome arrival (ComesFrom reached tank)
    → IfSome arrival (λ here. IsInReach (walls_of project each) each inflow here.target here.rising)
reached_here project facts reached tank each inflow None at is reach from = from
reached_here project facts None tank each inflow (Some here) at is reach from = absurd from
reached_here project facts (Some watch) tank each inflow (Some here) at is reach from =
    let at_watch = ap (λ (n : ℕ). slice_get project.tanks.list n) from.0 ∙ at in
    subst (λ b. IsInReach (walls_of project each) each inflow here.target b) (sym from.1.1)
    (subst (λ t. IsInReach (walls_of project each) each inflow t watch.rising) (sym from.1.0)
    (subst (λ (q : Interval). IsInReach (walls_of project each) each q watch.target watch.rising) (sym is)
    (subst (λ (n : ℕ). IsInReach (walls_of project each) each (inflow_in facts n) watch.target watch.rising) from.0
    (reach each at_watch))))

-- ---- one tank

pub left_parts : (project : Project) (facts : Facts) (shortest longest : ℕ) (reached : Option Watch) (k : ℕ)
    (tank : Tank) (stocks : Stocks) (inflow : Interval) (arrival : Option Cut) (carried : Interval) (next : Stocks)
    (level : Interval) → stocks ≡ stocks_in facts k → inflow ≡ inflow_in facts k
    → arrival ≡ arrival_of shortest reached k
    → carried ≡ carried_at_end (walls_of project tank) tank stocks inflow shortest longest arrival
    → next ≡ stocks_at_end (walls_of project tank) tank stocks inflow shortest longest arrival
    → level ≡ kept project.controls.list k carried next.level
    → parts level next.volume ≡ left_in project facts shortest longest reached k tank
left_parts project facts shortest longest reached k tank stocks inflow arrival carried next level a b d e f g =
    ap (λ (l : Interval). parts l next.volume) g
    ∙ ap (λ (x : Interval). parts (kept project.controls.list k x next.level) next.volume) e
    ∙ ap (λ (s : Stocks). parts (kept project.controls.list k (carried_at_end (walls_of project tank) tank stocks
    inflow shortest longest arrival) s.level) s.volume) f
    ∙ ap (λ (o : Option Cut). by stocks inflow o) d
    ∙ ap (λ (s : Stocks). by s inflow (arrival_of shortest reached k)) a
    ∙ ap (λ (q : Interval). by (stocks_in facts k) q (arrival_of shortest reached k)) b
  where
    by : Stocks → Interval → Option Cut → Stocks
    by s q o = parts (kept project.controls.list k (carried_at_end (walls_of project tank) tank s q shortest longest o)
        (stocks_at_end (walls_of project tank) tank s q shortest longest o).level)
        (stocks_at_end (walls_of project tank) tank s q shortest longest o).volume

-- ---- lists

abbrev pub levels_in : Project → Facts → ℕ → ℕ → Option Watch → List Interval
levels_in project facts shortest longest reached =
    map_from (λ k tank. (left_in project facts shortest longest reached k tank).level) 0 project.tanks.list

abbrev pub volumes_in : Project → Facts → ℕ → ℕ → Option Watch → List Interval
volumes_in project facts shortest longest reached =
    map_from (λ k tank. (left_in project facts shortest longest reached k tank).volume) 0 project.tanks.list

at_first : (k : ℕ) → 0 + k ≡ k
at_first k = omega arith

module _ (project : Project) (facts : Facts) (shortest longest : ℕ) (reached : Option Watch) (grid : Grid)
    (standing : Standing) (found : OpenRecord) (started : AreStarted project grid standing found.row facts)
    (least : found.shortest ≡ shortest) (most : found.row.length ≡ longest) where
  abbrev told : ℕ → Tank → Stocks
  told k tank = left_by project reached k tank (stocks_of_tank standing k) (inflow_of_tank project grid found.row k)
      found.shortest found.row.length

  left-is : (k : ℕ) (tank : Tank) → slice_get project.tanks.list k ≡ Some tank
      → left_in project facts shortest longest reached k tank ≡ told k tank
  left-is k tank at =
      ap (λ (s : Stocks). left_by project reached k tank s (inflow_in facts k) shortest longest)
      (stocks_are project grid standing found.row facts started k)
      ∙ ap (λ (q : Interval). left_by project reached k tank (stocks_of_tank standing k) q shortest longest)
      (inflow_is project grid standing found.row facts started k tank at)
      ∙ ap (λ (n : ℕ). left_by project reached k tank (stocks_of_tank standing k)
      (inflow_of_tank project grid found.row k) n longest) (sym least)
      ∙ ap (λ (n : ℕ). left_by project reached k tank (stocks_of_tank standing k)
      (inflow_of_tank project grid found.row k) found.shortest n) (sym most)

  pub levels_are : levels_in project facts shortest longest reached ≡ levels_left project grid standing found reached
  levels_are =
      same_from (λ k tank. (left_in project facts shortest longest reached k tank).level)
      (level_left project grid standing found reached) 0 project.tanks.list
      (λ k tank at. subst (λ (n : ℕ). (left_in project facts shortest longest reached n tank).level
      ≡ level_left project grid standing found reached n tank) (sym (at_first k))
      (ap (λ (s : Stocks). s.level) (left-is k tank at)))

  pub volumes_are : volumes_in project facts shortest longest reached
      ≡ volumes_left project grid standing found reached
  volumes_are =
      same_from (λ k tank. (left_in project facts shortest longest reached k tank).volume)
      (λ k tank. (stocks_left project grid standing found reached k tank).volume) 0 project.tanks.list
      (λ k tank at. subst (λ (n : ℕ). (left_in project facts shortest longest reached n tank).volume
      ≡ (stocks_left project grid standing found reached n tank).volume) (sym (at_first k))
      (ap (λ (s : Stocks). s.volume) (left-is k tank at)))

-- ---- within bounds

module _ (project : Project) (f : ℕ → Tank → Stocks) where
  -- the stocks among lists that are these
  among_are : (levels : List LevelSpan) (volumes : List VolumeSpan)
      → map levels_of levels ≡ map_from (λ k tank. (f k tank).level) 0 project.tanks.list
      → map volumes_of volumes ≡ map_from (λ k tank. (f k tank).volume) 0 project.tanks.list
      → (k : ℕ) (tank : Tank) → slice_get project.tanks.list k ≡ Some tank → stocks_among levels volumes k ≡ f k tank
  among_are levels volumes a b k tank at =
      let within = slice_get_within project.tanks.list k tank at in
      let level : slice_index_or (map levels_of levels) k nowhere ≡ (f k tank).level =
      ap (λ (xs : List Interval). slice_index_or xs k nowhere) a
      ∙ placed_first (λ k tank. (f k tank).level) k project.tanks.list nowhere tank within
      ∙ ap (λ (t : Tank). (f k t).level) (item_is project.tanks.list k tank tank at) in
      let volume : slice_index_or (map volumes_of volumes) k nowhere ≡ (f k tank).volume =
      ap (λ (xs : List Interval). slice_index_or xs k nowhere) b
      ∙ placed_first (λ k tank. (f k tank).volume) k project.tanks.list nowhere tank within
      ∙ ap (λ (t : Tank). (f k t).volume) (item_is project.tanks.list k tank tank at) in
      ap (λ (l : Interval). stocks l (slice_index_or (map volumes_of volumes) k nowhere)) level
      ∙ ap (λ (v : Interval). stocks (f k tank).level v) volume
    where
      stocks : Interval → Interval → Stocks
      stocks level volume = record { level = level; volume = volume }

  pub all_held : (levels : List LevelSpan) (volumes : List VolumeSpan)
      → map levels_of levels ≡ map_from (λ k tank. (f k tank).level) 0 project.tanks.list
      → map volumes_of volumes ≡ map_from (λ k tank. (f k tank).volume) 0 project.tanks.list
      → ((k : ℕ) (tank : Tank) → k < length project.tanks.list → slice_get project.tanks.list k ≡ Some tank
      → AreHeld (walls_of project tank) tank (f k tank))
      → (k : ℕ) (tank : Tank) → slice_get project.tanks.list k ≡ Some tank
      → AreHeld (walls_of project tank) tank (stocks_among levels volumes k)
  all_held levels volumes a b held k tank at =
      subst (AreHeld (walls_of project tank) tank) (sym (among_are levels volumes a b k tank at))
      (held k tank (slice_get_within project.tanks.list k tank at) at)

  -- one tank more
  pub held_more : (i : ℕ) (next : Stocks)
      → ((k : ℕ) (tank : Tank) → k < i → slice_get project.tanks.list k ≡ Some tank
      → AreHeld (walls_of project tank) tank (f k tank))
      → ((tank : Tank) → slice_get project.tanks.list i ≡ Some tank → next ≡ f i tank)
      → ((tank : Tank) → slice_get project.tanks.list i ≡ Some tank → AreHeld (walls_of project tank) tank next)
      → (k : ℕ) (tank : Tank) → k < i + 1 → slice_get project.tanks.list k ≡ Some tank
      → AreHeld (walls_of project tank) tank (f k tank)
  held_more i next before is held k tank h at = elim (cases_lt k i) [
    | inl less ↦ before k tank less at
    | inr more ↦
        let same : i ≡ k = omega (arith, h, more) in
        let here : slice_get project.tanks.list i ≡ Some tank =
        ap (λ (n : ℕ). slice_get project.tanks.list n) same ∙ at in
        subst (λ (n : ℕ). AreHeld (walls_of project tank) tank (f n tank)) same
        (subst (AreHeld (walls_of project tank) tank) (is tank here) (held tank here))
  ]
