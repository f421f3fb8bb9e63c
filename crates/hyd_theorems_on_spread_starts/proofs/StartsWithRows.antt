-- A text leaves a tank open at the start only by a row that counts for it.
use Rattle.std.proofs.Common.{◌≡◌, ℕ, suc, ◌+◌, ◌<◌, refl, sym, ap, subst, ◌∙◌, arith, pos, List, [], ◌∷◌}
use Rattle.std.proofs.Common.{length, map, ◌⊎◌, inl, inr}
use Rattle.std.specs.Prelude.{Option, Some, None, slice_get, slice_index_or}
use Rattle.std.specs.Option.{option_map}
use Rattle.std.proofs.lemmas.Int.{ints}
use Rattle.std.proofs.lemmas.Option.{slice_get_within}
use Rattle.hyd_net.specs.Sound.{IsSound}
use Rattle.hyd_net.specs.declared.refusal_cause.Cause.{Cause}
use Rattle.hyd_net.specs.declared.refusal_cause.Cause.TheVariants.{Range}
use Rattle.hyd_spec.specs.ProgramTypes.{Project, Tank}
use Rattle.hyd_spec.specs.declared.TankState.{TankState}
use Rattle.hyd_spec.specs.Lists.{map_from}
use Rattle.hyd_spec.specs.Scale.{at_scale}
use Rattle.hyd_spec.specs.NodeNumbers.{tank_node}
use Rattle.hyd_spec.specs.History.{initial_levels}
use Rattle.hyd_spec_certificates.specs.Interval.{Interval, exactly}
use Rattle.hyd_spec_certificates.specs.RecordAndStanding.{initial_standing}
use Rattle.hyd_spec_certificates.specs.Decided.{nowhere}
use Rattle.hyd_spec_certificates.specs.Valid.{AreStates}
use Rattle.hyd_spec_lines.specs.WordsOfLines.{text_lines}
use Rattle.hyd_spec_spread.specs.Spreads.{Spread, IsSpread, IsLevelInterval, level_interval}
use Rattle.hyd_spec_spread.specs.IntervalsOfData.{known_levels}
use Rattle.hyd_spec_spread_rows.specs.declared.Subject.TheVariants.{Level}
use Rattle.hyd_spec_spread_rows.specs.declared.Ends.{Ends}
use Rattle.hyd_spec_spread_rows.specs.RowsOfSpreads.{ends_of}
use Rattle.hyd_spec_spread_rows.specs.TextsOfSpreads.{HasNoFault, rows_of, row_for, spread_in, ends_for, ends_or}
use Rattle.hyd_spec_spread_rows.specs.TextsOfSpreads.{at_both, interval_from}
use Rattle.hyd_spec_spread_runs.specs.RunsForSpreads.{StartIsDecided}
use Rattle.hyd_lemmas.proofs.ListsOptionsAndResults.{as_long, item_there, mapped}
use Rattle.hyd_theorems_on_definitions.specs.LyingInIntervals.{LiesIn, LevelsLie}
use Rattle.hyd_theorems_on_histories.proofs.AgreementAtStart.{agrees_at_start, states_agree}
use Rattle.hyd_theorems_on_histories.proofs.ListsByPlace.{lies_at, numbered_from_start}
use Rattle.hyd_theorems_on_spread_rows.proofs.SpreadsOfTexts.{is-spread}
use Rattle.hyd_spec_spread_starts.specs.StartsOfSpreads.{place_for, IsOpenTank, IsFaultAtStart}
use Rattle.hyd_theorems_on_spread_starts.proofs.LastRows.{row-there, no-row-there}
use Rattle.hyd_theorems_on_spread_starts.proofs.OpenTanks.{Matters, all_decided, one_open, judged, none-is-open, wide}
use Rattle.hyd_theorems_on_spread_starts.proofs.OpenTanks.{same-tank, tank-there}

-- ---- states at the start

-- the file's own levels lie in the intervals
own-lie : (level : ℕ → Tank → Interval) (from : ℕ) (tanks : List Tank)
    → ((k : ℕ) (tank : Tank) → slice_get tanks k ≡ Some tank → IsLevelInterval tank (level (from + k) tank))
    → LevelsLie 1 (map_from level from tanks) (map (λ (tank : Tank). at_scale 1 tank.initial) tanks)
own-lie level from [] each = tt
own-lie level from (tank ∷ tanks) each =
    let n : from + 0 ≡ from = omega arith in
    let own = (subst (λ (m : ℕ). IsLevelInterval tank (level m tank)) n (each 0 tank refl)).own in
    let low = own.low in
    let high = own.high in (
      record { low = omega (arith, ints, low); high = omega (arith, ints, high) },
      own-lie level (suc from) tanks (λ k t at.
          let m : from + suc k ≡ suc from + k = omega arith in
          subst (λ (p : ℕ). IsLevelInterval t (level p t)) m (each (suc k) t at)),
    )

-- decided states are those at the file's own levels
pub states-own : (project : Project) (spread : Spread) → IsSpread project spread → (states : List TankState)
    → AreStates project (known_levels project spread) states → states ≡ (initial_standing project).tanks
states-own project spread is states are =
    let levels = known_levels project spread in
    let own = initial_levels project 1 in
    let lie = own-lie (level_interval spread) 0 project.tanks.list (λ k tank at.
    let n : k ≡ 0 + k = omega arith in
    subst (λ (m : ℕ). IsLevelInterval tank (level_interval spread m tank)) n (is.levels k tank at)) in
    let long : length project.tanks.list ≡ length own =
    sym (mapped-long (λ (tank : Tank). at_scale 1 tank.initial) project.tanks.list) in
    sym (states_agree 1 (λ k. slice_index_or levels k nowhere) 0 project.tanks.list own states (omega arith) long
    (λ k. let n : k ≡ 0 + k = omega arith in
    subst (λ (m : ℕ). LiesIn 1 (slice_index_or levels m nowhere) (slice_index_or own k (pos 0))) n
    (lies_at 1 levels own k lie)) are)
    ∙ (agrees_at_start project 1 (omega arith)).tanks_are
  where
    mapped-long : {X Y : Type 0} (f : X → Y) (xs : List X) → length (map f xs) ≡ length xs
    mapped-long f [] = refl
    mapped-long f (x ∷ xs) = ap suc (mapped-long f xs)

-- ---- rows

module _ (project : Project) (sound : IsSound project) (text : List ℕ) where
  abbrev rows : List (List (List ℕ))
  rows = rows_of (text_lines text)

  abbrev levels : List Interval
  levels = known_levels project (spread_in project text)

  abbrev level-ends : ℕ → Tank → Ends
  level-ends k tank = ends_for project Level rows (at_both tank.initial) (tank_node project k)

  -- the level interval of a tank is what the row says that counts for it
  level-is : (k : ℕ) (tank : Tank) → slice_get project.tanks.list k ≡ Some tank
      → slice_index_or levels k nowhere ≡ interval_from (level-ends k tank)
  level-is k tank at =
      let spread = spread_in project text in
      let inside : k < length (map_from level-ends 0 project.tanks.list) =
      (let long = as_long {X = Tank} {Y = Ends} level-ends 0 project.tanks.list in
      let here = within k tank at in omega (arith, long, here)) in
      numbered_from_start Tank Interval (level_interval spread) project.tanks.list k tank nowhere at
      ∙ mapped interval_from (map_from level-ends 0 project.tanks.list) k (exactly tank.initial)
      (at_both tank.initial) inside
      ∙ ap interval_from (numbered_from_start Tank Ends level-ends project.tanks.list k tank (at_both tank.initial) at)
    where
      within : (n : ℕ) (t : Tank) → slice_get project.tanks.list n ≡ Some t → n < length project.tanks.list
      within n t there = slice_get_within project.tanks.list n t there

  -- without such a row it is the file's own level alone
  pub own-level : (k : ℕ) (tank : Tank) → slice_get project.tanks.list k ≡ Some tank
      → row_for project Level rows (tank_node project k) ≡ None → slice_index_or levels k nowhere ≡ exactly tank.initial
  own-level k tank at none =
      level-is k tank at
      ∙ ap (λ (o : Option (List (List ℕ))). interval_from (ends_or (at_both tank.initial)
      (option_map (ends_of project Level) o))) none

  -- so there is a row that counts for an open tank
  pub row-of-open : (k : ℕ) → IsOpenTank project levels k
      → (place : ℕ) × (place_for project Level rows (tank_node project k) ≡ Some place)
  row-of-open k open_tank = by (place_for project Level rows (tank_node project k)) refl
    where
      by : (o : Option ℕ) → place_for project Level rows (tank_node project k) ≡ o
          → (place : ℕ) × (place_for project Level rows (tank_node project k) ≡ Some place)
      by (Some place) e = (place, e)
      by None e =
          let there = item_there project.tanks.list k (tank-there project levels sound k open_tank) in
          absurd (wide project levels sound k open_tank there.0.initial
          (own-level k there.0 there.1 (no-row-there project Level rows (tank_node project k) e)))

  -- ---- the start

  fault-of : HasNoFault project text → (k : ℕ) → IsOpenTank project levels k
      → (number : ℕ) × IsFaultAtStart project text number Range
  fault-of none k open_tank =
      let row = row-of-open k open_tank in (
        suc row.0,
        record {
          no_other = none;
          tank = k;
          is_open = open_tank;
          place = row.0;
          counts = row.1;
          number_is = refl;
          cause_is = refl;
        },
      )

pub decided-or-fault : (project : Project) → IsSound project → (text : List ℕ) → HasNoFault project text
    → StartIsDecided project (spread_in project text) ⊎ ((number : ℕ) × IsFaultAtStart project text number Range)
decided-or-fault project sound text none = by (judged project (known_levels project (spread_in project text)))
  where
    by : Matters project (known_levels project (spread_in project text))
        → StartIsDecided project (spread_in project text) ⊎ ((number : ℕ) × IsFaultAtStart project text number Range)
    by (all_decided states are controls) = inl (record {
      states = subst (AreStates project (known_levels project (spread_in project text)))
          (states-own project (spread_in project text) (is-spread project sound text none) states are) are;
      controls = controls;
    })
    by (one_open k open_tank) = inr (fault-of project sound text none k open_tank)

pub not-decided : (project : Project) (text : List ℕ) (number : ℕ) (cause : Cause)
    → IsFaultAtStart project text number cause → StartIsDecided project (spread_in project text) → ⊥
not-decided project text number cause fault start =
    none-is-open project (known_levels project (spread_in project text)) (initial_standing project).tanks start.states
    start.controls fault.tank fault.is_open

pub one-line : (project : Project) (text : List ℕ) (number other : ℕ) (cause also : Cause)
    → IsFaultAtStart project text number cause → IsFaultAtStart project text other also → number ≡ other
one-line project text number other cause also one two =
    let rows = rows_of (text_lines text) in
    let tank = same-tank project (known_levels project (spread_in project text)) one.tank two.tank one.is_open
    two.is_open in
    let places : ◌≡◌ {A = Option ℕ} (Some one.place) (Some two.place) =
    sym one.counts ∙ ap (λ (k : ℕ). place_for project Level rows (tank_node project k)) tank ∙ two.counts in
    let place : one.place ≡ two.place = cc in
    one.number_is ∙ ap suc place ∙ sym two.number_is

pub decided-alone : (project : Project) → IsSound project → (text : List ℕ) → HasNoFault project text
    → ((node : ℕ) → row_for project Level (rows_of (text_lines text)) node ≡ None)
    → StartIsDecided project (spread_in project text)
decided-alone project sound text none silent = elim (decided-or-fault project sound text none) [
  | inl start ↦ start
  | inr fault ↦
      let f = fault.1 in
      let there = row-there project Level (rows_of (text_lines text)) (tank_node project f.tank) f.place f.counts in
      absurd (let n : ◌≡◌ {A = Option (List (List ℕ))} None (Some there.0) =
      sym (silent (tank_node project f.tank)) ∙ there.1 in cc)
]
