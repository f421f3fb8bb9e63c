-- A period that begins where a history agrees with a standing is under each record that is valid there, and where the
-- record leads on, the history agrees with the next standing.
use Rattle.std.proofs.Common.{◌≡◌, ℕ, zero, suc, ◌+◌, ◌<◌, ℤ, pos, refl, sym, ap, subst, ◌∙◌, arith, List, [], ◌∷◌}
use Rattle.std.proofs.Common.{length, map}
use Rattle.std.specs.Prelude.{Some, slice_get, slice_index_or, All}
use Rattle.std.specs.List.{AllZip}
use Rattle.hyd_net.specs.RoundedFileNumbers.{IsStateMade}
use Rattle.hyd_net.specs.Sound.{IsSound}
use Rattle.hyd_spec.specs.ProgramTypes.{Project, Tank, Link, LinkState}
use Rattle.hyd_spec.specs.Lists.{Each, map_from}
use Rattle.hyd_spec_certificates.specs.Interval.{Interval, exactly}
use Rattle.hyd_spec.specs.Tank.{Stock, walls_of, level_bounds, tank_inflow, IsNextStock}
use Rattle.hyd_spec.specs.PeriodLength.{Period, stock_at_start}
use Rattle.hyd_spec.specs.History.{Begins, IsPeriod, AreNextStocks, commanded_after}
use Rattle.hyd_spec_certificates.specs.PeriodNetwork.{Grid, IsGrid}
use Rattle.hyd_spec_certificates.specs.ThreeValuedLogic.{is_yes}
use Rattle.hyd_spec_certificates.specs.RecordAndStanding.{Record, Standing, initial_standing}
use Rattle.hyd_spec_certificates.specs.Decided.{links_at, acts_on, level_of_tank, stocks_of_tank, inflow_of_tank}
use Rattle.hyd_spec_certificates.specs.Decided.{nowhere, rule_truths}
use Rattle.hyd_spec_certificates.specs.Valid.{IsValid, Continues, LeavesLinks, by_rules, by_clock, stocks_next}
use Rattle.hyd_theorems_on_definitions.specs.LyingInIntervals.{LiesIn, LevelsLie, StockLies, IsWithin}
use Rattle.hyd_theorems_on_definitions.specs.SoundLawsAndGrids.{IsSoundGrid}
use Rattle.hyd_lemmas.proofs.ListsOptionsAndResults.{same_item}
use Rattle.hyd_theorems_on_definitions.proofs.LawsOfGrids.{IsSoundGrid-made}
use Rattle.hyd_theorems_on_definitions.proofs.StocksInIntervals.{next_lies, next_within}
use Rattle.hyd_theorems_on_histories.specs.Agreement.{IsUnder, VolumesLie, AgreesWith, IsOwnState, IsKept}
use Rattle.hyd_theorems_on_histories.proofs.ListsByPlace.{lies_at, numbered_from_start}
use Rattle.hyd_theorems_on_histories.proofs.RuleReadingsBetweenEnds.{stock_lies, inflow_within}
use Rattle.hyd_theorems_on_histories.proofs.LengthAndLinkStates.{length_and_links}
use Rattle.hyd_theorems_on_histories.proofs.AgreementAtStart.{same_links, states_agree, decided_at_start}
use Rattle.hyd_theorems_on_histories.proofs.CommandedLinkStates.{started_own, acted_own, initial_own}
use Rattle.hyd_theorems_on_definitions.proofs.SoundTankLemmas.{vessels, sound_tank}

-- ---- the grid's capacities

pub made-states : (project : Project) (links : List Link) (states : List LinkState)
    → AllZip (IsOwnState project) links states → All (IsStateMade project.options.unit) states
made-states project [] [] all k d le = absurd (omega (arith, le))
made-states project [] (s ∷ states) all k d le = absurd all
made-states project (l ∷ links) [] all k d le = absurd all
made-states project (l ∷ links) (s ∷ states) all zero d le = all.0.made
made-states project (l ∷ links) (s ∷ states) all (suc k) d le = made-states project links states all.1 k d
    (omega (arith, le))

-- ---- levels

zip-from : (S : ℕ) (f : ℕ → Tank → Interval) (from : ℕ) (tanks : List Tank) (levels : List ℤ)
    → length levels ≡ length tanks
    → ((k : ℕ) (tank : Tank) → slice_get tanks k ≡ Some tank
    → LiesIn S (f (from + k) tank) (slice_index_or levels k (pos 0)))
    → LevelsLie S (map_from f from tanks) levels
zip-from S f from [] [] same lie = tt
zip-from S f from [] (z ∷ levels) same lie = absurd (omega (arith, same))
zip-from S f from (tank ∷ tanks) [] same lie = absurd (omega (arith, same))
zip-from S f from (tank ∷ tanks) (z ∷ levels) same lie = (
  (let n : from + 0 ≡ from = omega arith in subst (λ m. LiesIn S (f m tank) z) n (lie 0 tank refl)),
  zip-from S f (suc from) tanks levels (omega (arith, same)) (λ k other at.
      let n : from + suc k ≡ suc from + k = omega arith in
      subst (λ m. LiesIn S (f m other) (slice_index_or levels k (pos 0))) n (lie (suc k) other at)),
)

module _ (project : Project) (sound : IsSound project) where
  -- what every standing keeps
  pub kept_at_start : IsKept project (initial_standing project)
  kept_at_start = record {
    controls = decided_at_start project;
    levels = bounded-at-start;
    states =
        initial_own project sound;
  }
    where
      initial-at : (tanks : List Tank) (k : ℕ) (tank : Tank) → slice_get tanks k ≡ Some tank
          → slice_index_or (map (λ (t : Tank). exactly t.initial) tanks) k nowhere ≡ exactly tank.initial
      initial-at [] k tank at = absurd (cc)
      initial-at (t ∷ tanks) zero tank at = ap (λ (u : Tank). exactly u.initial) (same_item Tank t tank at)
      initial-at (t ∷ tanks) (suc k) tank at = initial-at tanks k tank at

      bounded-at-start : Each project.tanks.list (λ k (tank : Tank). IsWithin (level_bounds tank)
          (level_of_tank (initial_standing project) k))
      bounded-at-start k tank at =
          let r = (sound_tank project sound k tank at).ranges.initial in
          subst (IsWithin (level_bounds tank)) (sym (initial-at project.tanks.list k tank at))
          (record { lo_above = r.at_least; lo_below = r.at_most; hi_above = r.at_least; hi_below = r.at_most })

  left-own : (grid : Grid) (standing : Standing) (row : Record) (seconds : ℕ) (links : List LinkState)
      → IsKept project standing → LeavesLinks project grid standing row seconds links
      → AllZip (IsOwnState project) project.links.list links
  left-own grid standing row seconds _ kept (by_rules e) =
      acted_own project sound (map is_yes (rule_truths project grid standing row seconds)) (links_at project standing)
      (started_own project sound standing.time (acts_on standing.levels) standing.commanded kept.states)
  left-own grid standing row seconds _ kept (by_clock e) = started_own project sound standing.time
      (acts_on standing.levels) standing.commanded kept.states

  pub kept_next : (grid : Grid) (standing : Standing) (row : Record) (next : Standing) → IsKept project standing
      → Continues project grid standing row next → IsKept project next
  kept_next grid standing row next kept continues = record {
    controls = continues.controls;
    levels = λ k tank at.
        let e : level_of_tank next k ≡ (stocks_next project grid standing row row.length k tank).level =
        ap (λ ls. slice_index_or ls k nowhere) continues.levels
        ∙ numbered_from_start Tank Interval (λ n t. (stocks_next project grid standing row row.length n t).level)
        project.tanks.list k tank nowhere at in
        subst (IsWithin (level_bounds tank)) (sym e)
        (next_within (walls_of project tank) tank (stocks_of_tank standing k) (inflow_of_tank project grid row k)
        row.length (vessels project sound k tank at));
    states = left-own grid standing row row.length next.commanded kept continues.leaves_links;
  }

  -- ---- a period

  module _ (S : ℕ) (some : 0 < S) (grid : Grid) (standing : Standing) (row : Record) (next : Standing)
      (kept : IsKept project standing) (valid : IsValid project standing grid row next)
      (time : ℕ) (levels volumes : List ℤ) (commanded : List LinkState)
      (agrees : AgreesWith project S standing time levels volumes commanded)
      (period : Period) (begins : Begins project S time levels volumes commanded period)
      (is : IsPeriod project S period) where
    its-links : period.links ≡ links_at project standing
    its-links = begins.links ∙ same_links project S time standing levels volumes commanded some agrees kept.controls

    its-time : period.time ≡ standing.time
    its-time = begins.at_time ∙ agrees.time_is

    its-tanks : period.tanks ≡ standing.tanks
    its-tanks = begins.tanks ∙ agrees.tanks_are

    its-grid : IsGrid project period.time standing.levels period.tanks period.links grid
    its-grid =
        subst (λ ls. IsGrid project period.time standing.levels period.tanks ls grid) (sym its-links)
        (subst (λ ts. IsGrid project period.time standing.levels ts (links_at project standing) grid) (sym its-tanks)
        (subst (λ t. IsGrid project t standing.levels standing.tanks (links_at project standing) grid)
        (sym its-time) valid.is_grid))

    pub its_states : AllZip (IsOwnState project) project.links.list (links_at project standing)
    its_states = started_own project sound standing.time (acts_on standing.levels) standing.commanded kept.states

    pub its_sound : IsSoundGrid grid
    its_sound = IsSoundGrid-made project standing.time standing.levels standing.tanks (links_at project standing)
        grid valid.is_grid (record {
          emitters = sound.made.emitters;
          kinds = sound.made.links;
          sizes = sound.quantities.links;
          states = made-states project project.links.list (links_at project standing) its_states;
        })

    pub is_under : IsUnder project S period grid standing row
    is_under = record {
      compared = record {
        some = some;
        is_grid = its-grid;
        sound = its_sound;
        lie = subst (LevelsLie S standing.levels) (sym begins.at_levels) agrees.levels_lie;
        assigned = is.obeys;
      };
      volumes = subst (VolumesLie S standing.volumes) (sym begins.at_volumes) agrees.volumes_lie;
      certificates = valid.certificates;
      time = its-time;
      tanks = its-tanks;
      links = its-links;
      controls = kept.controls;
      vessels = vessels project sound;
    }

    pub lasts_so : Continues project grid standing row next
        → (period.length ≡ row.length) × (commanded_after project S period ≡ next.commanded)
    lasts_so continues = length_and_links project sound S period grid standing row is_under continues.not_last is.lasts
        row.length next.commanded continues.leaves_links

    module _ (continues : Continues project grid standing row next) (after_levels after_volumes : List ℤ)
        (are : AreNextStocks project S period after_levels after_volumes) where
      -- each next stock lies in the next intervals
      next-stock : (k : ℕ) (tank : Tank) → slice_get project.tanks.list k ≡ Some tank
          → StockLies S (stocks_next project grid standing row row.length k tank)
          (record {
            level = slice_index_or after_levels k (pos 0);
            volume =
                slice_index_or after_volumes k (pos 0);
          })
      next-stock k tank at =
          let after : Stock = record {
            level = slice_index_or after_levels k (pos 0);
            volume =
                slice_index_or after_volumes k (pos 0);
          } in
          next_lies S (walls_of project tank) tank (stocks_of_tank standing k) (inflow_of_tank project grid row k)
          row.length (stock_at_start period k)
          (tank_inflow project k period.assignment.flows) after some (vessels project sound k tank at)
          (stock_lies project S period grid standing row is_under k)
          (inflow_within project S period grid standing row is_under k tank at)
          (subst (λ s. IsNextStock S (walls_of project tank) tank (stock_at_start period k)
          (tank_inflow project k period.assignment.flows) s after) (lasts_so continues).0 (are.each k tank at))

      levels-lie : LevelsLie S next.levels after_levels
      levels-lie =
          subst (λ ls. LevelsLie S ls after_levels) (sym continues.levels)
          (zip-from S (λ k tank. (stocks_next project grid standing row row.length k tank).level)
          0 project.tanks.list after_levels are.level_each
          (λ k tank at. let n : k ≡ 0 + k = omega arith in
          subst (λ m. LiesIn S (stocks_next project grid standing row row.length m tank).level
          (slice_index_or after_levels k (pos 0))) n (next-stock k tank at).level))

      volumes-lie : VolumesLie S next.volumes after_volumes
      volumes-lie =
          subst (λ vs. VolumesLie S vs after_volumes) (sym continues.volumes)
          (zip-from S (λ k tank. (stocks_next project grid standing row row.length k tank).volume)
          0 project.tanks.list after_volumes are.volume_each
          (λ k tank at. let n : k ≡ 0 + k = omega arith in
          subst (λ m. LiesIn S (stocks_next project grid standing row row.length m tank).volume
          (slice_index_or after_volumes k (pos 0))) n (next-stock k tank at).volume))

      -- the step
      pub agrees_next : AgreesWith project S next (period.time + period.length) after_levels after_volumes
          (commanded_after project S period)
      agrees_next = record {
        time_is = let t = its-time in let l = (lasts_so continues).0 in let n = continues.time in
            omega (arith, t, l, n);
        levels_lie = levels-lie;
        volumes_lie = volumes-lie;
        tanks_are = states_agree S (λ k. slice_index_or next.levels k nowhere)
            0 project.tanks.list after_levels next.tanks some (sym are.level_each)
            (λ k. let n : k ≡ 0 + k = omega arith in
            subst (λ m. LiesIn S (slice_index_or next.levels m nowhere) (slice_index_or after_levels k (pos 0))) n
            (lies_at S next.levels after_levels k levels-lie))
            continues.tanks;
        commanded_are = (lasts_so continues).1;
      }
