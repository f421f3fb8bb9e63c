-- A period that begins where a history agrees with a standing whose start is open is under each record that is valid
-- there, and where the record leads on and the history keeps what it reaches, it agrees with the next standing.
use Rattle.std.proofs.Common.{◌≡◌, ◌≢◌, ℕ, suc, ◌+◌, ◌<◌, ◌≤◌, ℤ, pos, refl, sym, ap, subst, ◌∙◌, arith}
use Rattle.std.proofs.Common.{List, []}
use Rattle.std.proofs.Common.{◌∷◌, length, map, Bool, true, ◌⊎◌, inl, inr}
use Rattle.std.specs.Prelude.{Some, slice_get, slice_index_or, Contains}
use Rattle.std.specs.List.{AllZip}
use Rattle.hyd_num.specs.Rational.{whole}
use Rattle.hyd_net.specs.Sound.{IsSound}
use Rattle.hyd_spec.specs.ProgramTypes.{Project, Tank, LinkState, Control, AtLevel}
use Rattle.hyd_spec.specs.Lists.{map_from}
use Rattle.hyd_spec.specs.Tank.{Stock, walls_of, tank_inflow, reaches}
use Rattle.hyd_spec.specs.PeriodLength.{Period, stock_at_start, carried_after}
use Rattle.hyd_spec.specs.History.{Begins, IsPeriod, AreNextStocks, commanded_after, initial_levels, initial_volumes}
use Rattle.hyd_spec.specs.History.{initial_links}
use Rattle.hyd_spec_certificates.specs.Interval.{Interval}
use Rattle.hyd_spec_certificates.specs.PeriodNetwork.{Grid, IsGrid}
use Rattle.hyd_spec_certificates.specs.ThreeValuedLogic.{is_yes}
use Rattle.hyd_spec_certificates.specs.RecordAndStanding.{Record}
use Rattle.hyd_spec_certificates.specs.Decided.{links_at, acts_on, stocks_of_tank, inflow_of_tank, nowhere}
use Rattle.hyd_spec_certificates.specs.Decided.{SomeMayReach}
use Rattle.hyd_spec_open_ends.specs.InstantsOfClock.{HasNoInstant}
use Rattle.hyd_spec_open_ends.specs.OpenStandings.{OpenStanding, OpenRecord, initial_open_standing}
use Rattle.hyd_spec_open_ends.specs.RulesOverLengths.{open_rule_truths}
use Rattle.hyd_spec_open_ends.specs.OpenEnds.{Way, ByRules, ByInstant, ByWatched, EndsIn, first_end}
use Rattle.hyd_spec_open_ends.specs.OpenEnds.{late_at_end}
use Rattle.hyd_spec_open_ends.specs.OpenEnds.{by_rules as in_by_rules, by_instant as in_by_instant}
use Rattle.hyd_spec_open_ends.specs.OpenEnds.{by_watched as in_by_watched}
use Rattle.hyd_spec_open_ends.specs.Arrivals.{arrival_of}
use Rattle.hyd_spec_open_ends.specs.OpenRecords.{ContinuesOpenly, IsValidOpenly, carried_left, stocks_left, level_left}
use Rattle.hyd_spec_open_ends.specs.OpenRecords.{links_left}
use Rattle.hyd_theorems_on_definitions.specs.LyingInIntervals.{LiesIn, LevelsLie, StockLies}
use Rattle.hyd_theorems_on_definitions.specs.SoundLawsAndGrids.{IsSoundGrid}
use Rattle.hyd_theorems_on_definitions.proofs.LawsOfGrids.{IsSoundGrid-made}
use Rattle.hyd_theorems_on_definitions.proofs.SoundTankLemmas.{vessels}
use Rattle.hyd_theorems_on_histories.specs.Agreement.{VolumesLie, AgreesWith, IsOwnState}
use Rattle.hyd_theorems_on_histories.proofs.ListsByPlace.{lies_at}
use Rattle.hyd_theorems_on_histories.proofs.RuleReadingsBetweenEnds.{stock_lies, inflow_within}
use Rattle.hyd_theorems_on_histories.proofs.AgreementAtStart.{same_links, states_agree, agrees_at_start}
use Rattle.hyd_theorems_on_histories.proofs.CommandedLinkStates.{started_own, acted_own}
use Rattle.hyd_theorems_on_histories.proofs.AgreementAfterPeriod.{made-states, kept_at_start}
use Rattle.hyd_theorems_on_open_ends.specs.AgreementOverStarts.{begun_at, AgreesFrom, HasQuietStart, IsUnderOpenly}
use Rattle.hyd_theorems_on_open_ends.specs.AgreementOverStarts.{IsKeptOpenly, EndsSo}
use Rattle.hyd_theorems_on_open_ends.proofs.StocksOverLengths.{AllHaveCome, carried_end_lies, next_end_lies}
use Rattle.hyd_theorems_on_open_ends.proofs.StocksOverLengths.{carried_meets, kept_lies}
use Rattle.hyd_theorems_on_open_ends.proofs.QuietStarts.{same_grid, same_start}
use Rattle.hyd_theorems_on_open_ends.proofs.LengthsOverStarts.{ends_so, links_so}
use Rattle.hyd_theorems_on_open_ends.proofs.LevelsThatArrive.{all_come}

-- ---- levels by place

zip-from : (S : ℕ) (f : ℕ → Tank → Interval) (from : ℕ) (tanks : List Tank) (levels : List ℤ)
    → length levels ≡ length tanks
    → ((k : ℕ) (tank : Tank) → slice_get tanks k ≡ Some tank
    → LiesIn S (f (from + k) tank) (slice_index_or levels k (pos 0)))
    → LevelsLie S (map_from f from tanks) levels
zip-from S f from [] [] same lie = tt
zip-from S f from [] (z ∷ levels) same lie = absurd (omega (arith, same))
zip-from S f from (tank ∷ tanks) [] same lie = absurd (omega (arith, same))
zip-from S f from (tank ∷ tanks) (z ∷ levels) same lie = (
  (let n : from + 0 ≡ from = omega arith in subst (λ m. LiesIn S (f m tank) z) n (lie 0 tank refl)),
  zip-from S f (suc from) tanks levels (omega (arith, same)) (λ k other at.
      let n : from + suc k ≡ suc from + k = omega arith in
      subst (λ m. LiesIn S (f m other) (slice_index_or levels k (pos 0))) n (lie (suc k) other at)),
)

-- ---- at the start of the run

pub agrees_from_start : (project : Project) (S : ℕ) → 0 < S → AgreesFrom project S (initial_open_standing project) 0
    (initial_levels project S) (initial_volumes project S) (initial_links project)
agrees_from_start project S some =
    let agrees = agrees_at_start project S some in
    record {
      after = omega arith;
      by = omega arith;
      levels_lie = agrees.levels_lie;
      volumes_lie = agrees.volumes_lie;
      tanks_are = agrees.tanks_are;
      commanded_are = agrees.commanded_are;
    }

module _ (project : Project) (sound : IsSound project) where
  pub kept_from_start : IsKeptOpenly project (initial_open_standing project)
  kept_from_start =
      let kept = kept_at_start project sound in
      record { controls = kept.controls; states = kept.states; quiet = inl refl }

  -- ---- what standings keep

  left-own : (grid : Grid) (standing : OpenStanding) (row : Record) (way : Way) → IsKeptOpenly project standing
      → AllZip (IsOwnState project) project.links.list (links_left project grid standing row way)
  left-own grid standing row (ByRules seconds) kept =
      acted_own project sound (map is_yes (open_rule_truths project grid standing row seconds))
      (links_at project standing.known)
      (started_own project sound standing.known.time (acts_on standing.known.levels) standing.known.commanded
      kept.states)
  left-own grid standing row (ByInstant seconds) kept =
      started_own project sound standing.known.time (acts_on standing.known.levels) standing.known.commanded kept.states
  left-own grid standing row (ByWatched earliest latest) kept =
      started_own project sound standing.known.time (acts_on standing.known.levels) standing.known.commanded kept.states

  -- an end by what is watched lies after the start and before the next instant
  quiet-end : (grid : Grid) (standing : OpenStanding) (row : Record) (next : OpenStanding) (way : Way)
      → EndsIn project grid standing row way
      → next.known.time ≡ standing.known.time + first_end way → next.late ≡ late_at_end standing.late way
      → HasQuietStart project next
  quiet-end grid standing row next _ (in_by_rules seconds first after in_time none_open) time late = inl late
  quiet-end grid standing row next _ (in_by_instant seconds same none) time late = inl late
  quiet-end grid standing row next _ (in_by_watched {cap = cap} {earliest = earliest} {latest = latest} seconds before
      none) time late = inr (
        (let l = a-second seconds.is_earliest.holds in omega (arith, l, time)),
        λ e from to is.
            let l = a-second seconds.is_earliest.holds in
            let m = seconds.is_cap.least e (omega (arith, l, time, from), is) in
            let order = seconds.in_order in omega (arith, m, to, time, late, order, before),
      )
    where
      a-second : (earliest ≡ cap) ⊎ ((earliest ≡ project.times.hydraulic) ⊎ ((1 ≤ earliest)
          × SomeMayReach project grid standing.known row earliest)) → 1 ≤ earliest
      a-second (inl is) = let l = seconds.is_cap.holds.0 in omega (arith, is, l)
      a-second (inr (inl is)) = let l = sound.times.hydraulic in omega (arith, is, l)
      a-second (inr (inr some)) = some.0

  pub kept_on : (grid : Grid) (standing : OpenStanding) (found : OpenRecord) (next : OpenStanding)
      → IsKeptOpenly project standing → ContinuesOpenly project grid standing found next → IsKeptOpenly project next
  kept_on grid standing found next kept continues = record {
    controls = continues.controls;
    states = subst (AllZip (IsOwnState project) project.links.list) (sym continues.commanded)
        (left-own grid standing found.row continues.way kept);
    quiet = quiet-end grid standing found.row next continues.way continues.ends continues.time continues.late;
  }

  -- ---- a period

  module _ (S : ℕ) (some : 0 < S) (grid : Grid) (standing : OpenStanding) (found : OpenRecord) (next : OpenStanding)
      (kept : IsKeptOpenly project standing) (valid : IsValidOpenly project standing grid found next)
      (time : ℕ) (levels volumes : List ℤ) (commanded : List LinkState)
      (agrees : AgreesFrom project S standing time levels volumes commanded)
      (period : Period) (begins : Begins project S time levels volumes commanded period)
      (is : IsPeriod project S period) where
    begins-after : standing.known.time ≤ period.time
    begins-after = let a = agrees.after in let t = begins.at_time in omega (arith, a, t)

    begins-by : period.time ≤ standing.known.time + standing.late
    begins-by = let a = agrees.by in let t = begins.at_time in omega (arith, a, t)

    quiet-till : HasNoInstant project standing.known.time (standing.known.time + standing.late)
        → HasNoInstant project standing.known.time period.time
    quiet-till none e from to = none e from (let b = begins-by in omega (arith, b, to))

    known-start : standing.late ≡ 0 → standing.known.time ≡ period.time
    known-start none = let a = begins-after in let b = begins-by in omega (arith, none, a, b)

    -- the links as of its own start are those of the first second
    own-start : links_at project (begun_at standing.known period.time) ≡ links_at project standing.known
    own-start = elim kept.quiet [
      | inl none ↦ ap (λ t. links_at project (begun_at standing.known t)) (sym (known-start none))
      | inr quiet ↦ same_start project standing.known period.time quiet.0 begins-after (quiet-till quiet.1)
    ]

    grid-then : (tanks-links : IsGrid project standing.known.time standing.known.levels standing.known.tanks
        (links_at project standing.known) grid)
        → IsGrid project period.time standing.known.levels standing.known.tanks (links_at project standing.known) grid
    grid-then first = elim kept.quiet [
      | inl none ↦ subst (λ t. IsGrid project t standing.known.levels standing.known.tanks
          (links_at project standing.known) grid) (known-start none) first
      | inr quiet ↦ same_grid project sound standing.known.time period.time begins-after (quiet-till quiet.1)
          standing.known.levels standing.known.tanks (links_at project standing.known) grid first
    ]

    agrees-then : AgreesWith project S (begun_at standing.known time) time levels volumes commanded
    agrees-then = record {
      time_is = refl;
      levels_lie = agrees.levels_lie;
      volumes_lie = agrees.volumes_lie;
      tanks_are = agrees.tanks_are;
      commanded_are = agrees.commanded_are;
    }

    own-links : period.links ≡ links_at project (begun_at standing.known period.time)
    own-links = begins.links
        ∙ same_links project S time (begun_at standing.known time) levels volumes commanded some agrees-then
        kept.controls
        ∙ ap (λ t. links_at project (begun_at standing.known t)) (sym begins.at_time)

    its-links : period.links ≡ links_at project standing.known
    its-links = own-links ∙ own-start

    its-tanks : period.tanks ≡ standing.known.tanks
    its-tanks = begins.tanks ∙ agrees.tanks_are

    its-grid : IsGrid project period.time standing.known.levels period.tanks period.links grid
    its-grid =
        subst (λ ls. IsGrid project period.time standing.known.levels period.tanks ls grid) (sym its-links)
        (subst (λ ts. IsGrid project period.time standing.known.levels ts (links_at project standing.known) grid)
        (sym its-tanks) (grid-then valid.is_grid))

    its-sound : IsSoundGrid grid
    its-sound = IsSoundGrid-made project standing.known.time standing.known.levels standing.known.tanks
        (links_at project standing.known) grid valid.is_grid (record {
          emitters = sound.made.emitters;
          kinds = sound.made.links;
          sizes = sound.quantities.links;
          states = made-states project project.links.list (links_at project standing.known)
              (started_own project sound standing.known.time (acts_on standing.known.levels) standing.known.commanded
              kept.states);
        })

    pub is_under_openly : IsUnderOpenly project S period grid standing found.row
    is_under_openly = record {
      own = record {
        compared = record {
          some = some;
          is_grid = its-grid;
          sound = its-sound;
          lie = subst (LevelsLie S standing.known.levels) (sym begins.at_levels) agrees.levels_lie;
          assigned = is.obeys;
        };
        volumes = subst (VolumesLie S standing.known.volumes) (sym begins.at_volumes) agrees.volumes_lie;
        certificates = valid.certificates;
        time = refl;
        tanks = its-tanks;
        links = own-links;
        controls = kept.controls;
        vessels = vessels project sound;
      };
      after = begins-after;
      by = begins-by;
      links = its-links;
      quiet = kept.quiet;
    }

    module _ (continues : ContinuesOpenly project grid standing found next)
        (not_last : standing.known.time ≢ project.times.duration) where
      pub ends : EndsSo period standing continues.way
      ends = ends_so project sound S period grid standing found.row is_under_openly not_last is.lasts continues.way
          continues.ends

      pub lasts_from : found.shortest ≤ period.length
      lasts_from = let a = ends.from in let b = continues.shortest in omega (arith, a, b)

      pub lasts_to : period.length ≤ found.row.length
      lasts_to = let a = ends.to in let b = continues.longest in omega (arith, a, b)

      come : (k : ℕ) (tank : Tank) → slice_get project.tanks.list k ≡ Some tank
          → AllHaveCome S (walls_of project tank) tank (inflow_of_tank project grid found.row k)
          (stock_at_start period k)
          (tank_inflow project k period.assignment.flows) period.length
          (arrival_of found.shortest continues.reached k)
      come = all_come project sound S period grid standing found.row is_under_openly not_last is.lasts continues.way
          continues.reached continues.ends continues.arrives found.shortest lasts_from

      module _ (after_levels after_volumes : List ℤ) (are : AreNextStocks project S period after_levels after_volumes)
          (keeps : (control : Control) (k : ℕ) (above : Bool) (ticks : ℤ) (tank : Tank)
          → Contains project.controls.list control → control.when ≡ AtLevel k above ticks
          → slice_get project.tanks.list k ≡ Some tank
          → reaches S above ticks (carried_after project S period k tank period.length) ≡ true
          → reaches S above ticks (whole (slice_index_or after_levels k (pos 0))) ≡ true) where
        abbrev after-stock : ℕ → Stock
        after-stock k = record {
          level = slice_index_or after_levels k (pos 0);
          volume = slice_index_or after_volumes k (pos 0);
        }

        next-stock : (k : ℕ) (tank : Tank) → slice_get project.tanks.list k ≡ Some tank
            → StockLies S (stocks_left project grid standing.known found continues.reached k tank) (after-stock k)
        next-stock k tank at =
            next_end_lies S (walls_of project tank) tank (stocks_of_tank standing.known k)
            (inflow_of_tank project grid found.row k) found.shortest period.length found.row.length
            (arrival_of found.shortest continues.reached k) (stock_at_start period k)
            (tank_inflow project k period.assignment.flows) (after-stock k) some (vessels project sound k tank at)
            (stock_lies project S period grid (begun_at standing.known period.time) found.row is_under_openly.own k)
            (inflow_within project S period grid (begun_at standing.known period.time) found.row is_under_openly.own k
            tank at) lasts_from lasts_to (come k tank at) (are.each k tank at)

        next-level : (k : ℕ) (tank : Tank) → slice_get project.tanks.list k ≡ Some tank
            → LiesIn S (level_left project grid standing.known found continues.reached k tank)
            (slice_index_or after_levels k (pos 0))
        next-level k tank at =
            let carried = carried_left project grid standing.known found continues.reached k tank in
            kept_lies S k carried (slice_index_or after_levels k (pos 0)) project.controls.list
            (stocks_left project grid standing.known found continues.reached k tank).level (next-stock k tank at).level
            (λ control above ticks contained when yes. keeps control k above ticks tank contained when at
            (carried_meets S carried (carried_after project S period k tank period.length) above ticks
            (carried_end_lies S (walls_of project tank) tank (stocks_of_tank standing.known k)
            (inflow_of_tank project grid found.row k) found.shortest period.length found.row.length
            (arrival_of found.shortest continues.reached k) (stock_at_start period k)
            (tank_inflow project k period.assignment.flows) some (vessels project sound k tank at)
            (stock_lies project S period grid (begun_at standing.known period.time) found.row is_under_openly.own k)
            (inflow_within project S period grid (begun_at standing.known period.time) found.row is_under_openly.own k
            tank at) lasts_from lasts_to (come k tank at)) yes))

        levels-lie : LevelsLie S next.known.levels after_levels
        levels-lie =
            subst (λ ls. LevelsLie S ls after_levels) (sym continues.levels)
            (zip-from S (level_left project grid standing.known found continues.reached) 0 project.tanks.list
            after_levels are.level_each
            (λ k tank at. let n : k ≡ 0 + k = omega arith in
            subst (λ m. LiesIn S (level_left project grid standing.known found continues.reached m tank)
            (slice_index_or after_levels k (pos 0))) n (next-level k tank at)))

        volumes-lie : VolumesLie S next.known.volumes after_volumes
        volumes-lie =
            subst (λ vs. VolumesLie S vs after_volumes) (sym continues.volumes)
            (zip-from S (λ k tank. (stocks_left project grid standing.known found continues.reached k tank).volume)
            0 project.tanks.list after_volumes are.volume_each
            (λ k tank at. let n : k ≡ 0 + k = omega arith in
            subst (λ m. LiesIn S (stocks_left project grid standing.known found continues.reached m tank).volume
            (slice_index_or after_volumes k (pos 0))) n (next-stock k tank at).volume))

        -- the step
        pub agrees_on : AgreesFrom project S next (period.time + period.length) after_levels after_volumes
            (commanded_after project S period)
        agrees_on = record {
          after = let a = ends.ends_from in let t = continues.time in omega (arith, a, t);
          by = let a = ends.ends_by in let t = continues.time in let l = continues.late in omega (arith, a, t, l);
          levels_lie = levels-lie;
          volumes_lie = volumes-lie;
          tanks_are = states_agree S (λ k. slice_index_or next.known.levels k nowhere)
              0 project.tanks.list after_levels next.known.tanks some (sym are.level_each)
              (λ k. let n : k ≡ 0 + k = omega arith in
              subst (λ m. LiesIn S (slice_index_or next.known.levels m nowhere) (slice_index_or after_levels k (pos 0)))
              n (lies_at S next.known.levels after_levels k levels-lie))
              continues.tanks;
          commanded_are = links_so project sound S period grid standing found.row is_under_openly not_last is.lasts
              continues.way continues.ends ∙ sym continues.commanded;
        }
