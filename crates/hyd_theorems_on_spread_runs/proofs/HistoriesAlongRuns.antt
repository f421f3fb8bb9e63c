-- Every history within a spread agrees with every run for it.
use Rattle.std.proofs.Common.{◌≡◌, ℕ, suc, ◌+◌, ◌<◌, ℤ, pos, refl, sym, subst, ◌∙◌, arith, List, [], ◌∷◌, length}
use Rattle.std.specs.Prelude.{Some, slice_get, slice_index_or, ⊤}
use Rattle.hyd_net.specs.Sound.{IsSound}
use Rattle.hyd_spec.specs.ProgramTypes.{Project, LinkState, Tank}
use Rattle.hyd_spec.specs.Lists.{map_from}
use Rattle.hyd_spec.specs.Tank.{Stock, walls_of, tank_inflow, IsNextStock}
use Rattle.hyd_spec.specs.PeriodLength.{Period, HasItsLength, at_end, before_end, stock_at_start}
use Rattle.hyd_spec.specs.History.{Begins, AreNextStocks, commanded_after, initial_links}
use Rattle.hyd_spec_certificates.specs.declared.Problem.TheVariants.{Main}
use Rattle.hyd_spec_certificates.specs.declared.Side.TheVariants.{Upper, Lower}
use Rattle.hyd_spec_certificates.specs.Interval.{Interval}
use Rattle.hyd_spec_certificates.specs.RecordAndStanding.{Standing}
use Rattle.hyd_spec_certificates.specs.Decided.{stocks_of_tank, inflow_of_tank, nowhere}
use Rattle.hyd_spec_certificates.specs.Valid.{Continues, LeadsOn, continues, finishes, stocks_next}
use Rattle.hyd_spec_spread.specs.Spreads.{Spread, IsSpread}
use Rattle.hyd_spec_spread.specs.NetworksWithin.{NodeData, with_data}
use Rattle.hyd_spec_spread.specs.HistoriesWithin.{IsPeriodWithin, GoesOnWithin}
use Rattle.hyd_spec_spread_runs.specs.OutermostPairs.{spanned, spanning}
use Rattle.hyd_spec_spread_runs.specs.RunsForSpreads.{FoundOver, IsValidOver, IsRunOverFrom, none, more, IsRunOver}
use Rattle.hyd_spec_spread_runs.specs.RunsForSpreads.{standing_within}
use Rattle.hyd_spec_spread_runs.specs.AgreementWithin.{AgreesOver, AllAgreeOver, EveryHistoryWithinAgrees}
use Rattle.hyd_theorems_on_definitions.specs.LyingInIntervals.{LiesIn, LevelsLie, StockLies}
use Rattle.hyd_theorems_on_definitions.proofs.StocksInIntervals.{next_lies}
use Rattle.hyd_theorems_on_definitions.proofs.SoundTankLemmas.{vessels}
use Rattle.hyd_theorems_on_histories.specs.Agreement.{VolumesLie, AgreesWith, IsKept}
use Rattle.hyd_theorems_on_histories.proofs.AgreementAtStart.{states_agree}
use Rattle.hyd_theorems_on_histories.proofs.AgreementAfterPeriod.{kept_next}
use Rattle.hyd_theorems_on_histories.proofs.ListsByPlace.{lies_at}
use Rattle.hyd_theorems_on_spread.proofs.HeadsWithin.{heads-below, heads-above}
use Rattle.hyd_theorems_on_spread_runs.specs.BoundedPeriods.{IsBounded}
use Rattle.hyd_theorems_on_spread_runs.proofs.BoundedReadings.{stock_lies}
use Rattle.hyd_theorems_on_spread_runs.proofs.BoundedLengths.{length_and_links}
use Rattle.hyd_theorems_on_spread_runs.proofs.BoundedByRecords.{IsCertifiedAt, certified, is_bounded}
use Rattle.hyd_theorems_on_spread_runs.proofs.BoundedByRecords.{its_assignment, its_pair}
use Rattle.hyd_theorems_on_spread_runs.proofs.OutflowsWithin.{outflow_lies}
use Rattle.hyd_theorems_on_spread_runs.proofs.StartsWithin.{agrees_at_start, kept_at_start}

-- the periods of a history from one on
abbrev StartsAt : Project → Spread → ℕ → ℕ → List ℤ → List ℤ → List LinkState → List Period → Type 0
StartsAt project spread S time levels volumes commanded [] = ⊤
StartsAt project spread S time levels volumes commanded (period ∷ rest) =
    Begins project S time levels volumes commanded period
    × ((nodes : NodeData) × (IsPeriodWithin project spread S period nodes
    × GoesOnWithin project spread S nodes period rest))

nothing-found : (project : Project) (S : ℕ) (periods : List Period) → AllAgreeOver project S periods []
nothing-found project S [] = tt
nothing-found project S (period ∷ periods) = tt

pub no-length : (project : Project) (S : ℕ) (period : Period) → period.time ≡ project.times.duration
    → HasItsLength project S period → period.length ≡ 0
no-length project S period last (at_end is zero_long) = zero_long
no-length project S period last (before_end other least) = absurd (other last)

pub zip-from : (S : ℕ) (f : ℕ → Tank → Interval) (from : ℕ) (tanks : List Tank) (levels : List ℤ)
    → length levels ≡ length tanks
    → ((k : ℕ) (tank : Tank) → slice_get tanks k ≡ Some tank
    → LiesIn S (f (from + k) tank) (slice_index_or levels k (pos 0)))
    → LevelsLie S (map_from f from tanks) levels
zip-from S f from [] [] same lie = tt
zip-from S f from [] (z ∷ levels) same lie = absurd (omega (arith, same))
zip-from S f from (tank ∷ tanks) [] same lie = absurd (omega (arith, same))
zip-from S f from (tank ∷ tanks) (z ∷ levels) same lie = (
  (let n : from + 0 ≡ from = omega arith in subst (λ m. LiesIn S (f m tank) z) n (lie 0 tank refl)),
  zip-from S f (suc from) tanks levels (omega (arith, same)) (λ k other at.
      let n : from + suc k ≡ suc from + k = omega arith in
      subst (λ m. LiesIn S (f m other) (slice_index_or levels k (pos 0))) n (lie (suc k) other at)),
)

module _ (project : Project) (sound : IsSound project) (spread : Spread) (S : ℕ) (some : 0 < S) where
  module _ (found : FoundOver)
      (valid : IsValidOver project spread found.standing found.pair found.row found.next)
      (kept : IsKept project found.standing)
      (time : ℕ) (levels volumes : List ℤ) (commanded : List LinkState)
      (agrees : AgreesWith project S found.standing time levels volumes commanded)
      (period : Period) (begins : Begins project S time levels volumes commanded period) (nodes : NodeData)
      (is : IsPeriodWithin project spread S period nodes) where
    its-certificates : IsCertifiedAt project spread found.standing found.pair found.row
    its-certificates = certified project spread found.standing found.pair found.row found.next kept valid

    bounded : IsBounded project nodes S period (spanned found.pair) found.standing (spanning found.pair found.row)
    bounded = is_bounded project sound spread S some found.pair found.standing found.row its-certificates time levels
        volumes commanded agrees period begins nodes is

    lasts-so : Continues project (spanned found.pair) found.standing (spanning found.pair found.row) found.next
        → (period.length ≡ found.row.length) × (commanded_after (with_data project nodes) S period
        ≡ found.next.commanded)
    lasts-so c =
        length_and_links project sound nodes S period (spanned found.pair) found.standing
        (spanning found.pair found.row) bounded c.not_last is.is_period.lasts found.row.length found.next.commanded
        c.leaves_links

    length-is : LeadsOn project (spanned found.pair) found.standing (spanning found.pair found.row) found.next
        → period.length ≡ found.row.length
    length-is (continues c) = (lasts-so c).0
    length-is (finishes f) = no-length (with_data project nodes) S period (bounded.time ∙ f.is_last) is.is_period.lasts
        ∙ sym f.no_length

    -- ---- what was found

    period-agrees : AgreesOver project S period found
    period-agrees =
        let its = its_assignment project sound spread S some found.pair found.standing found.row its-certificates time
        levels volumes commanded agrees period begins nodes is in
        let pair = its_pair project sound spread S some found.pair found.standing found.row its-certificates time levels
        volumes commanded agrees period begins nodes is in
        let above = valid.certificates.each Main Upper tt in
        let below = valid.certificates.each Main Lower tt in
        record {
          time = bounded.time ∙ sym valid.time;
          length_is = length-is valid.leads_on;
          tanks = bounded.tanks;
          links = bounded.links;
          above_lower = heads-above project spread S period.time found.standing.levels period.levels period.tanks
              period.links nodes period.assignment its found.pair.lower found.row.main.lower
              (pair Lower) below;
          below_upper = heads-below project spread S period.time found.standing.levels period.levels period.tanks
              period.links nodes period.assignment its found.pair.upper found.row.main.upper
              (pair Upper) above;
          flows = λ l link at. let x = bounded.flows l link at in record { low = x.low; high = x.high };
          inflows = λ k tank at. let x = bounded.inflows k tank at in record { low = x.low; high = x.high };
          outflows = λ j upper lower at_upper at_lower.
              let x = outflow_lies project spread S period.time found.standing.levels period.levels period.tanks
              period.links nodes period.assignment its found.pair.upper found.pair.lower (pair Upper)
              (pair Lower) found.row.main.upper found.row.main.lower above below j upper lower at_upper at_lower in
              record { low = x.low; high = x.high };
        }

    -- ---- what follows

    module _ (c : Continues project (spanned found.pair) found.standing (spanning found.pair found.row) found.next)
        (after_levels after_volumes : List ℤ) (are : AreNextStocks project S period after_levels after_volumes) where
      next-stock : (k : ℕ) (tank : Tank) → slice_get project.tanks.list k ≡ Some tank
          → StockLies S (stocks_next project (spanned found.pair) found.standing (spanning found.pair found.row)
          found.row.length k tank)
          (record {
            level = slice_index_or after_levels k (pos 0);
            volume =
                slice_index_or after_volumes k (pos 0);
          })
      next-stock k tank at =
          let after : Stock = record {
            level = slice_index_or after_levels k (pos 0);
            volume =
                slice_index_or after_volumes k (pos 0);
          } in
          next_lies S (walls_of project tank) tank (stocks_of_tank found.standing k)
          (inflow_of_tank project (spanned found.pair) (spanning found.pair found.row) k)
          found.row.length (stock_at_start period k)
          (tank_inflow project k period.assignment.flows) after some (vessels project sound k tank at)
          (stock_lies project nodes S period (spanned found.pair) found.standing (spanning found.pair found.row)
          bounded k)
          (bounded.inflows k tank at)
          (subst (λ s. IsNextStock S (walls_of project tank) tank (stock_at_start period k)
          (tank_inflow project k period.assignment.flows) s after) (lasts-so c).0 (are.each k tank at))

      levels-lie : LevelsLie S found.next.levels after_levels
      levels-lie =
          subst (λ ls. LevelsLie S ls after_levels) (sym c.levels)
          (zip-from S (λ k tank. (stocks_next project (spanned found.pair) found.standing
          (spanning found.pair found.row) found.row.length k tank).level)
          0 project.tanks.list after_levels are.level_each
          (λ k tank at. let n : k ≡ 0 + k = omega arith in
          subst (λ m. LiesIn S (stocks_next project (spanned found.pair) found.standing
          (spanning found.pair found.row) found.row.length m tank).level
          (slice_index_or after_levels k (pos 0))) n (next-stock k tank at).level))

      volumes-lie : VolumesLie S found.next.volumes after_volumes
      volumes-lie =
          subst (λ vs. VolumesLie S vs after_volumes) (sym c.volumes)
          (zip-from S (λ k tank. (stocks_next project (spanned found.pair) found.standing
          (spanning found.pair found.row) found.row.length k tank).volume)
          0 project.tanks.list after_volumes are.volume_each
          (λ k tank at. let n : k ≡ 0 + k = omega arith in
          subst (λ m. LiesIn S (stocks_next project (spanned found.pair) found.standing
          (spanning found.pair found.row) found.row.length m tank).volume
          (slice_index_or after_volumes k (pos 0))) n (next-stock k tank at).volume))

      agrees-next : AgreesWith project S found.next (period.time + period.length) after_levels after_volumes
          (commanded_after (with_data project nodes) S period)
      agrees-next = record {
        time_is = let t = bounded.time in let l = (lasts-so c).0 in let n = c.time in omega (arith, t, l, n);
        levels_lie = levels-lie;
        volumes_lie = volumes-lie;
        tanks_are = states_agree S (λ k. slice_index_or found.next.levels k nowhere)
            0 project.tanks.list after_levels found.next.tanks some (sym are.level_each)
            (λ k. let n : k ≡ 0 + k = omega arith in
            subst (λ m. LiesIn S (slice_index_or found.next.levels m nowhere) (slice_index_or after_levels k (pos 0))) n
            (lies_at S found.next.levels after_levels k levels-lie))
            c.tanks;
        commanded_are = (lasts-so c).1;
      }

    -- what comes after it agrees with what was found after, where a history does that agrees with the next standing
    after-it : (rest : List FoundOver)
        → (IsKept project found.next → (now : ℕ) (at with_volumes : List ℤ) (left : List LinkState)
        (periods : List Period) → AgreesWith project S found.next now at with_volumes left
        → StartsAt project spread S now at with_volumes left periods → AllAgreeOver project S periods rest)
        → (periods : List Period) → GoesOnWithin project spread S nodes period periods
        → AllAgreeOver project S periods rest
    after-it rest go [] goes = tt
    after-it rest go (p ∷ ps) goes = by-case valid.leads_on
      where
        by-case : LeadsOn project (spanned found.pair) found.standing (spanning found.pair found.row) found.next
            → AllAgreeOver project S (p ∷ ps) rest
        by-case (continues c) =
            go (kept_next project sound (spanned found.pair) found.standing (spanning found.pair found.row) found.next
            kept c)
            (period.time + period.length) p.levels p.volumes (commanded_after (with_data project nodes) S period)
            (p ∷ ps) (agrees-next c p.levels p.volumes goes.0.stocks) (goes.0.begins, goes.1)
        by-case (finishes f) = absurd (goes.0.not_last (begins.at_time ∙ agrees.time_is ∙ f.is_last))

  run-agrees : (standing : Standing) (founds : List FoundOver) (last : Standing)
      → IsRunOverFrom project spread standing founds last → IsKept project standing
      → (time : ℕ) (levels volumes : List ℤ) (commanded : List LinkState) (periods : List Period)
      → AgreesWith project S standing time levels volumes commanded
      → StartsAt project spread S time levels volumes commanded periods → AllAgreeOver project S periods founds
  run-agrees _ _ last none kept time levels volumes commanded periods agrees starts = nothing-found project S periods
  run-agrees _ _ last (more {found = found} {rest = rest} is go) kept time levels volumes commanded [] agrees starts =
      tt
  run-agrees _ _ last (more {found = found} {rest = rest} is go) kept time levels volumes commanded (period ∷ periods)
      agrees starts = (
        period-agrees found is kept time levels volumes commanded agrees period starts.0 starts.1.0 starts.1.1.0,
        after-it found is kept time levels volumes commanded agrees period starts.0 starts.1.0 starts.1.1.0 rest
            (λ next now at with_volumes left others. run-agrees found.next rest last go next now at with_volumes left
            others) periods starts.1.1.1,
      )

pub every_history : (project : Project) → IsSound project → (spread : Spread) → IsSpread project spread
    → (founds : List FoundOver) (last : Standing) → IsRunOver project spread founds last
    → EveryHistoryWithinAgrees project spread founds
every_history project sound spread is founds last run S some [] history = tt
every_history project sound spread is founds last run S some (first ∷ rest) history =
    run-agrees project sound spread S (omega (arith, some)) (standing_within project spread) founds last run.run
    (kept_at_start project sound spread is run.start) 0 first.levels first.volumes (initial_links project)
    (first ∷ rest)
    (agrees_at_start project spread S (omega (arith, some)) run.start first history.0)
    (history.0.begins, history.1)
