-- Where a history within a spread begins, it agrees with what is known at the start of a run for it.
use Rattle.std.proofs.Common.{◌≡◌, ℕ, suc, ◌+◌, ◌<◌, ℤ, pos, refl, sym, subst, arith, List, [], ◌∷◌, length}
use Rattle.std.specs.Prelude.{slice_index_or}
use Rattle.std.specs.List.{AllZip}
use Rattle.std.proofs.lemmas.Int.{ints}
use Rattle.hyd_net.specs.Sound.{IsSound}
use Rattle.hyd_spec.specs.ProgramTypes.{Project, Tank}
use Rattle.hyd_spec.specs.Lists.{Each, map_from}
use Rattle.hyd_spec.specs.Tank.{level_bounds}
use Rattle.hyd_spec.specs.PeriodLength.{Period}
use Rattle.hyd_spec.specs.History.{initial_links}
use Rattle.hyd_spec_certificates.specs.Interval.{Interval}
use Rattle.hyd_spec_certificates.specs.Decided.{level_of_tank, nowhere}
use Rattle.hyd_spec_spread.specs.Spreads.{Spread, IsSpread, level_interval}
use Rattle.hyd_spec_spread.specs.IntervalsOfData.{known_levels}
use Rattle.hyd_spec_spread.specs.HistoriesWithin.{HoldsParts, BeginsWithin}
use Rattle.hyd_spec_spread_runs.specs.RunsForSpreads.{standing_within, StartIsDecided}
use Rattle.hyd_theorems_on_definitions.specs.LyingInIntervals.{LiesIn, LevelsLie, IsWithin}
use Rattle.hyd_theorems_on_histories.specs.Agreement.{AgreesWith, IsKept}
use Rattle.hyd_theorems_on_histories.proofs.AgreementAtStart.{states_agree}
use Rattle.hyd_theorems_on_histories.proofs.CommandedLinkStates.{initial_own}
use Rattle.hyd_theorems_on_histories.proofs.ListsByPlace.{lies_at, numbered_from_start}
use Rattle.hyd_theorems_on_spread.proofs.ZippedLists.{zip-long}

all-lie : (S : ℕ) (xs : List Interval) (zs : List ℤ) → AllZip (HoldsParts S) xs zs → LevelsLie S xs zs
all-lie S [] [] all = tt
all-lie S [] (z ∷ zs) all = absurd all
all-lie S (x ∷ xs) [] all = absurd all
all-lie S (x ∷ xs) (z ∷ zs) all = (record { low = all.0.low; high = all.0.high }, all-lie S xs zs all.1)

numbered-long : (f : ℕ → Tank → Interval) (from : ℕ) (tanks : List Tank) → length (map_from f from tanks) ≡ length tanks
numbered-long f from [] = refl
numbered-long f from (t ∷ tanks) = let e = numbered-long f (suc from) tanks in omega (arith, e)

pub agrees_at_start : (project : Project) (spread : Spread) (S : ℕ) → 0 < S → StartIsDecided project spread
    → (first : Period) → BeginsWithin project spread S first
    → AgreesWith project S (standing_within project spread) 0 first.levels first.volumes (initial_links project)
agrees_at_start project spread S some start first begins =
    let lie = all-lie S (known_levels project spread) first.levels begins.levels in
    record {
      time_is = refl;
      levels_lie = lie;
      volumes_lie = all-lie S _ first.volumes begins.volumes;
      tanks_are = states_agree S (λ k. slice_index_or (known_levels project spread) k nowhere) 0 project.tanks.list
          first.levels (standing_within project spread).tanks some
          (let a = zip-long (LiesIn S) (known_levels project spread) first.levels lie in
          let b = numbered-long (level_interval spread) 0 project.tanks.list in omega (arith, a, b))
          (λ k. let n : k ≡ 0 + k = omega arith in
          subst (λ m. LiesIn S (slice_index_or (known_levels project spread) m nowhere)
          (slice_index_or first.levels k (pos 0))) n (lies_at S (known_levels project spread) first.levels k lie))
          start.states;
      commanded_are = refl;
    }

pub kept_at_start : (project : Project) → IsSound project → (spread : Spread) → IsSpread project spread
    → StartIsDecided project spread → IsKept project (standing_within project spread)
kept_at_start project sound spread is start = record {
  controls = start.controls;
  levels = bounded;
  states = initial_own project sound;
}
  where
    bounded : Each project.tanks.list (λ k (tank : Tank). IsWithin (level_bounds tank)
        (level_of_tank (standing_within project spread) k))
    bounded k tank at =
        let e = numbered_from_start Tank Interval (level_interval spread) project.tanks.list k tank nowhere at in
        let r = is.levels k tank at in
        let a = r.above_least in
        let b = r.own.low in
        let c = r.own.high in
        let d = r.below_most in
        subst (IsWithin (level_bounds tank)) (sym e) (record {
          lo_above = a;
          lo_below = omega (arith, ints, b, c, d);
          hi_above = omega (arith, ints, a, b, c);
          hi_below = d;
        })
