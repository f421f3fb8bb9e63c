-- A period within a spread that begins where a history agrees with a standing whose start is open is bounded by each
-- record that is valid for the spread there, and where the record leads on and the history keeps what it reaches, it
-- agrees with the next standing.
use Rattle.std.proofs.Common.{◌≡◌, ℕ, ◌+◌, ◌<◌, ◌≤◌, ℤ, pos, sym, ap, subst, ◌∙◌, arith, List, Bool, true, inl, inr}
use Rattle.std.specs.Prelude.{Some, slice_get, slice_index_or, Contains}
use Rattle.hyd_num.specs.Rational.{whole}
use Rattle.hyd_net.specs.Sound.{IsSound}
use Rattle.hyd_spec.specs.ProgramTypes.{Project, Tank, LinkState, Control, AtLevel}
use Rattle.hyd_spec.specs.Tank.{Stock, walls_of, tank_inflow, reaches}
use Rattle.hyd_spec.specs.PeriodLength.{Period, stock_at_start, carried_after}
use Rattle.hyd_spec.specs.History.{Begins, AreNextStocks, commanded_after}
use Rattle.hyd_spec_certificates.specs.declared.Side.{Side}
use Rattle.hyd_spec_certificates.specs.Interval.{Interval}
use Rattle.hyd_spec_certificates.specs.PeriodNetwork.{Grid}
use Rattle.hyd_spec_certificates.specs.RecordAndStanding.{Record}
use Rattle.hyd_spec_certificates.specs.Decided.{links_at, stocks_of_tank, inflow_of_tank, nowhere}
use Rattle.hyd_spec_open_ends.specs.InstantsOfClock.{HasNoInstant}
use Rattle.hyd_spec_open_ends.specs.OpenStandings.{OpenStanding, OpenRecord}
use Rattle.hyd_spec_open_ends.specs.Arrivals.{arrival_of}
use Rattle.hyd_spec_open_ends.specs.OpenRecords.{ContinuesOpenly, carried_left, stocks_left, level_left}
use Rattle.hyd_spec_spread.specs.Spreads.{Spread}
use Rattle.hyd_spec_spread.specs.NetworksWithin.{NodeData, with_data}
use Rattle.hyd_spec_spread.specs.OutermostGrids.{IsOutermostGrid}
use Rattle.hyd_spec_spread.specs.HistoriesWithin.{IsPeriodWithin}
use Rattle.hyd_spec_spread_runs.specs.OutermostPairs.{Pair, grid_on, spanned, spanning}
use Rattle.hyd_spec_spread_runs.specs.RunsForSpreads.{ArePairAt}
use Rattle.hyd_spec_open_spreads.specs.OpenRunsForSpreads.{spanning_openly, IsValidOpenlyOver}
use Rattle.hyd_theorems_on_definitions.specs.LyingInIntervals.{LiesIn, LevelsLie, StockLies}
use Rattle.hyd_theorems_on_definitions.proofs.SoundTankLemmas.{vessels}
use Rattle.hyd_theorems_on_histories.specs.Agreement.{VolumesLie, AgreesWith}
use Rattle.hyd_theorems_on_histories.proofs.ListsByPlace.{lies_at}
use Rattle.hyd_theorems_on_histories.proofs.AgreementAtStart.{states_agree}
use Rattle.hyd_theorems_on_open_ends.specs.AgreementOverStarts.{begun_at, AgreesFrom, IsKeptOpenly, EndsSo}
use Rattle.hyd_theorems_on_open_ends.proofs.StocksOverLengths.{AllHaveCome, carried_end_lies, next_end_lies}
use Rattle.hyd_theorems_on_open_ends.proofs.StocksOverLengths.{carried_meets, kept_lies}
use Rattle.hyd_theorems_on_open_ends.proofs.QuietStarts.{same_start}
use Rattle.hyd_theorems_on_spread_runs.specs.BoundedPeriods.{IsBounded}
use Rattle.hyd_theorems_on_spread_runs.proofs.BoundedReadings.{stock_lies}
use Rattle.hyd_theorems_on_spread_runs.proofs.BoundedByRecords.{IsCertifiedAt, is_bounded}
use Rattle.hyd_theorems_on_spread_runs.proofs.HistoriesAlongRuns.{zip-from}
use Rattle.hyd_theorems_on_open_spreads.specs.BoundedOpenly.{IsBoundedOpenly}
use Rattle.hyd_theorems_on_open_spreads.proofs.QuietStartsWithin.{same-outermost}
use Rattle.hyd_theorems_on_open_spreads.proofs.LengthsOverPairs.{ends_so, links_so}
use Rattle.hyd_theorems_on_open_spreads.proofs.LevelsThatArriveWithin.{all_come}

module _ (project : Project) (sound : IsSound project) (spread : Spread) (S : ℕ) (some : 0 < S) (pair : Pair)
    (standing : OpenStanding) (found : OpenRecord) (next : OpenStanding) (kept : IsKeptOpenly project standing)
    (valid : IsValidOpenlyOver project spread standing pair found next)
    (time : ℕ) (levels volumes : List ℤ) (commanded : List LinkState)
    (agrees : AgreesFrom project S standing time levels volumes commanded)
    (period : Period) (begins : Begins project S time levels volumes commanded period) (nodes : NodeData)
    (is : IsPeriodWithin project spread S period nodes) where
  abbrev network : Project
  network = with_data project nodes

  abbrev grid : Grid
  grid = spanned pair

  abbrev row : Record
  row = spanning pair found.row

  abbrev wide : OpenRecord
  wide = spanning_openly pair found

  -- ---- the start

  pub begins_after : standing.known.time ≤ period.time
  begins_after = let a = agrees.after in let t = begins.at_time in omega (arith, a, t)

  pub begins_by : period.time ≤ standing.known.time + standing.late
  begins_by = let a = agrees.by in let t = begins.at_time in omega (arith, a, t)

  quiet-till : HasNoInstant project standing.known.time (standing.known.time + standing.late)
      → HasNoInstant project standing.known.time period.time
  quiet-till none e from to = none e from (let b = begins_by in omega (arith, b, to))

  known-start : standing.late ≡ 0 → standing.known.time ≡ period.time
  known-start none = let a = begins_after in let b = begins_by in omega (arith, none, a, b)

  -- the links as of its own start are those of the first second
  own-start : links_at project (begun_at standing.known period.time) ≡ links_at project standing.known
  own-start = elim kept.quiet [
    | inl none ↦ ap (λ t. links_at project (begun_at standing.known t)) (sym (known-start none))
    | inr quiet ↦ same_start project standing.known period.time quiet.0 begins_after (quiet-till quiet.1)
  ]

  -- and so are the outermost grids
  grids-then : (side : Side) → IsOutermostGrid project spread side period.time standing.known.levels
      standing.known.tanks (links_at project standing.known) (grid_on side pair)
  grids-then side = elim kept.quiet [
    | inl none ↦ subst (λ t. IsOutermostGrid project spread side t standing.known.levels standing.known.tanks
        (links_at project standing.known) (grid_on side pair)) (known-start none) (valid.are_pair side)
    | inr quiet ↦ same-outermost project sound spread standing.known.time period.time begins_after
        (quiet-till quiet.1) side standing.known.levels standing.known.tanks (links_at project standing.known)
        (grid_on side pair) (valid.are_pair side)
  ]

  pair-then : ArePairAt project spread (begun_at standing.known period.time) pair
  pair-then side = subst (λ links. IsOutermostGrid project spread side period.time standing.known.levels
      standing.known.tanks links (grid_on side pair)) (sym own-start) (grids-then side)

  pub certified-then : IsCertifiedAt project spread (begun_at standing.known period.time) pair found.row
  certified-then = record {
    are_pair = pair-then;
    certificates = valid.certificates;
    controls = kept.controls;
    states = kept.states;
  }

  pub agrees-then : AgreesWith project S (begun_at standing.known period.time) time levels volumes commanded
  agrees-then = record {
    time_is = sym begins.at_time;
    levels_lie = agrees.levels_lie;
    volumes_lie = agrees.volumes_lie;
    tanks_are = agrees.tanks_are;
    commanded_are = agrees.commanded_are;
  }

  own-bounded : IsBounded project nodes S period grid (begun_at standing.known period.time) row
  own-bounded = is_bounded project sound spread S some pair (begun_at standing.known period.time) found.row
      certified-then time levels volumes commanded agrees-then period begins nodes is

  pub is_bounded_openly : IsBoundedOpenly project nodes S period grid standing row
  is_bounded_openly = record {
    own = own-bounded;
    after = begins_after;
    by = begins_by;
    links = own-bounded.links ∙ own-start;
    quiet = kept.quiet;
  }

  -- ---- the end

  module _ (continues : ContinuesOpenly project grid standing wide next) where
    pub ends : EndsSo period standing continues.way
    ends = ends_so project sound nodes S period grid standing row is_bounded_openly continues.not_last
        is.is_period.lasts continues.way continues.ends

    pub lasts_from : found.shortest ≤ period.length
    lasts_from = let a = ends.from in let b = continues.shortest in omega (arith, a, b)

    pub lasts_to : period.length ≤ found.row.length
    lasts_to = let a = ends.to in let b = continues.longest in omega (arith, a, b)

    come : (k : ℕ) (tank : Tank) → slice_get project.tanks.list k ≡ Some tank
        → AllHaveCome S (walls_of project tank) tank (inflow_of_tank project grid row k) (stock_at_start period k)
        (tank_inflow project k period.assignment.flows) period.length
        (arrival_of found.shortest continues.reached k)
    come = all_come project sound nodes S period grid standing row is_bounded_openly continues.not_last
        is.is_period.lasts continues.way continues.reached continues.ends continues.arrives found.shortest lasts_from

    module _ (after_levels after_volumes : List ℤ) (are : AreNextStocks project S period after_levels after_volumes)
        (keeps : (control : Control) (k : ℕ) (above : Bool) (ticks : ℤ) (tank : Tank)
        → Contains project.controls.list control → control.when ≡ AtLevel k above ticks
        → slice_get project.tanks.list k ≡ Some tank
        → reaches S above ticks (carried_after project S period k tank period.length) ≡ true
        → reaches S above ticks (whole (slice_index_or after_levels k (pos 0))) ≡ true) where
      abbrev after-stock : ℕ → Stock
      after-stock k = record {
        level = slice_index_or after_levels k (pos 0);
        volume = slice_index_or after_volumes k (pos 0);
      }

      own-stock : (k : ℕ) → StockLies S (stocks_of_tank standing.known k) (stock_at_start period k)
      own-stock k = stock_lies project nodes S period grid (begun_at standing.known period.time) row own-bounded k

      next-stock : (k : ℕ) (tank : Tank) → slice_get project.tanks.list k ≡ Some tank
          → StockLies S (stocks_left project grid standing.known wide continues.reached k tank) (after-stock k)
      next-stock k tank at =
          next_end_lies S (walls_of project tank) tank (stocks_of_tank standing.known k)
          (inflow_of_tank project grid row k) found.shortest period.length found.row.length
          (arrival_of found.shortest continues.reached k) (stock_at_start period k)
          (tank_inflow project k period.assignment.flows) (after-stock k) some (vessels project sound k tank at)
          (own-stock k) (own-bounded.inflows k tank at) lasts_from lasts_to (come k tank at) (are.each k tank at)

      next-level : (k : ℕ) (tank : Tank) → slice_get project.tanks.list k ≡ Some tank
          → LiesIn S (level_left project grid standing.known wide continues.reached k tank)
          (slice_index_or after_levels k (pos 0))
      next-level k tank at =
          let carried = carried_left project grid standing.known wide continues.reached k tank in
          kept_lies S k carried (slice_index_or after_levels k (pos 0)) project.controls.list
          (stocks_left project grid standing.known wide continues.reached k tank).level (next-stock k tank at).level
          (λ control above ticks contained when yes. keeps control k above ticks tank contained when at
          (carried_meets S carried (carried_after project S period k tank period.length) above ticks
          (carried_end_lies S (walls_of project tank) tank (stocks_of_tank standing.known k)
          (inflow_of_tank project grid row k) found.shortest period.length found.row.length
          (arrival_of found.shortest continues.reached k) (stock_at_start period k)
          (tank_inflow project k period.assignment.flows) some (vessels project sound k tank at)
          (own-stock k) (own-bounded.inflows k tank at) lasts_from lasts_to (come k tank at)) yes))

      levels-lie : LevelsLie S next.known.levels after_levels
      levels-lie =
          subst (λ (ls : List Interval). LevelsLie S ls after_levels) (sym continues.levels)
          (zip-from S (level_left project grid standing.known wide continues.reached) 0 project.tanks.list
          after_levels are.level_each
          (λ k tank at. let n : k ≡ 0 + k = omega arith in
          subst (λ m. LiesIn S (level_left project grid standing.known wide continues.reached m tank)
          (slice_index_or after_levels k (pos 0))) n (next-level k tank at)))

      volumes-lie : VolumesLie S next.known.volumes after_volumes
      volumes-lie =
          subst (λ (vs : List Interval). VolumesLie S vs after_volumes) (sym continues.volumes)
          (zip-from S (λ k tank. (stocks_left project grid standing.known wide continues.reached k tank).volume)
          0 project.tanks.list after_volumes are.volume_each
          (λ k tank at. let n : k ≡ 0 + k = omega arith in
          subst (λ m. LiesIn S (stocks_left project grid standing.known wide continues.reached m tank).volume
          (slice_index_or after_volumes k (pos 0))) n (next-stock k tank at).volume))

      -- the step
      pub agrees_on : AgreesFrom project S next (period.time + period.length) after_levels after_volumes
          (commanded_after network S period)
      agrees_on = record {
        after = let a = ends.ends_from in let t = continues.time in omega (arith, a, t);
        by = let a = ends.ends_by in let t = continues.time in let l = continues.late in omega (arith, a, t, l);
        levels_lie = levels-lie;
        volumes_lie = volumes-lie;
        tanks_are = states_agree S (λ k. slice_index_or next.known.levels k nowhere)
            0 project.tanks.list after_levels next.known.tanks some (sym are.level_each)
            (λ k. let n : k ≡ 0 + k = omega arith in
            subst (λ m. LiesIn S (slice_index_or next.known.levels m nowhere) (slice_index_or after_levels k (pos 0)))
            n (lies_at S next.known.levels after_levels k levels-lie))
            continues.tanks;
        commanded_are = links_so project sound nodes S period grid standing row is_bounded_openly continues.not_last
            is.is_period.lasts continues.way continues.ends ∙ sym continues.commanded;
      }
