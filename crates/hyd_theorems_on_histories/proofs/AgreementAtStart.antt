-- A period that begins where a history agrees with a standing begins as the standing says.
use Rattle.std.proofs.Common.{◌≡◌, ℕ, zero, suc, ◌+◌, ◌<◌, ℤ, pos, refl, sym, subst, ◌∙◌, arith, Bool, true, false}
use Rattle.std.proofs.Common.{List, [], ◌∷◌, length, map}
use Rattle.std.specs.Prelude.{Option, Some, slice_index_or, slice_set, fold, Contains, if◌then◌else◌}
use Rattle.std.proofs.lemmas.Int.{ints}
use Rattle.hyd_num.specs.Rational.{whole}
use Rattle.hyd_spec.specs.ProgramTypes.{Project, Tank, Control, When, AtLevel, AtTime, AtClock, LinkState}
use Rattle.hyd_spec.specs.declared.TankState.{TankState}
use Rattle.hyd_spec.specs.declared.TankState.TheVariants.{Full, Between, Empty}
use Rattle.hyd_spec.specs.Lists.{map_from}
use Rattle.hyd_spec.specs.Scale.{at_scale}
use Rattle.hyd_spec_certificates.specs.Interval.{Interval, exactly}
use Rattle.hyd_spec.specs.Tank.{walls_of, kept_volume, tank_state, reaches}
use Rattle.hyd_spec.specs.PumpPatternsAndSimpleControls.{started, patterned, control_acts, acts_at}
use Rattle.hyd_spec.specs.History.{tank_states, initial_levels, initial_volumes, initial_links}
use Rattle.hyd_spec_certificates.specs.Stocks.{state_of, shared_state}
use Rattle.hyd_spec_certificates.specs.ThreeValuedLogic.{at_both_ends, is_unknown}
use Rattle.hyd_spec_certificates.specs.RecordAndStanding.{Standing, initial_standing}
use Rattle.hyd_spec_certificates.specs.Decided.{acts_on, control_truth, links_at, nowhere}
use Rattle.hyd_spec_certificates.specs.Valid.{ControlsAreDecided}
use Rattle.hyd_theorems_on_definitions.specs.LyingInIntervals.{LiesIn, LevelsLie}
use Rattle.hyd_theorems_on_definitions.proofs.DecidedByEnds.{control_tells}
use Rattle.hyd_theorems_on_definitions.proofs.StocksInIntervals.{state_holds}
use Rattle.hyd_theorems_on_histories.specs.Agreement.{AgreesWith}
use Rattle.hyd_theorems_on_histories.proofs.ListsByPlace.{lies_at}
use Rattle.hyd_theorems_on_histories.proofs.TruthsAndRuleValues.{first-known}
use Rattle.hyd_theorems_on_histories.proofs.WatchedLevels.{contains-here, contains-later}

-- ---- controls

pub same_acts : (project : Project) (S time : ℕ) (intervals : List Interval) (levels : List ℤ) → 0 < S
    → LevelsLie S intervals levels → ControlsAreDecided project intervals
    → (each : Control) → Contains project.controls.list each → control_acts project time (acts_at S levels) each.when
    ≡ control_acts project time (acts_on intervals) each.when
same_acts project S time intervals levels some lie decided each contained = by-when each.when refl
  where
    by-when : (w : When) → each.when ≡ w → control_acts project time (acts_at S levels) w ≡ control_acts project time
        (acts_on intervals) w
    by-when (AtLevel tank above ticks) is =
        sym (first-known (control_truth (slice_index_or intervals tank nowhere) above ticks)
        (reaches S above ticks (whole (slice_index_or levels tank (pos 0))))
        (decided each tank above ticks contained is)
        (control_tells S (slice_index_or intervals tank nowhere) above ticks (slice_index_or levels tank (pos 0)) some
        (lies_at S intervals levels tank lie)))
    by-when (AtTime t) is = refl
    by-when (AtClock t) is = refl

abbrev carry : Project → ℕ → (ℕ → Bool → ℤ → Bool) → List LinkState → Control → List LinkState
carry project time acts links control =
    if control_acts project time acts control.when then slice_set links control.link control.to else links

same-fold : (project : Project) (time : ℕ) (acts others : ℕ → Bool → ℤ → Bool) (controls : List Control)
    → ((each : Control) → Contains controls each → control_acts project time acts each.when
    ≡ control_acts project time others each.when)
    → (links : List LinkState) → fold (carry project time acts) links controls ≡ fold (carry project time others)
    links controls
same-fold project time acts others [] same links = refl
same-fold project time acts others (c ∷ controls) same links =
    let first = same c (contains-here Control c controls) in
    (λ i. fold (carry project time acts) (if first i then slice_set links c.link c.to else links) controls)
    ∙ same-fold project time acts others controls
    (λ each contained. same each (contains-later Control each c controls contained))
    (carry project time others links c)

pub same_links : (project : Project) (S time : ℕ) (standing : Standing) (levels volumes : List ℤ)
    (commanded : List LinkState) → 0 < S → AgreesWith project S standing time levels volumes commanded
    → ControlsAreDecided project standing.levels → started project time (acts_at S levels) commanded
    ≡ links_at project standing
same_links project S time standing levels volumes commanded some agrees decided =
    same-fold project time (acts_at S levels) (acts_on standing.levels) project.controls.list
    (same_acts project S time standing.levels levels some agrees.levels_lie decided) (patterned project time commanded)
    ∙ (λ i. started project (agrees.time_is i) (acts_on standing.levels) (agrees.commanded_are i))

-- ---- states

pub states_agree : (S : ℕ) (level : ℕ → Interval) (from : ℕ) (tanks : List Tank) (levels : List ℤ)
    (states : List TankState) → 0 < S → length tanks ≡ length levels
    → ((k : ℕ) → LiesIn S (level (from + k)) (slice_index_or levels k (pos 0)))
    → map_from (λ k tank. state_of tank (level k)) from tanks ≡ map Some states
    → tank_states S tanks levels ≡ states
states_agree S level from [] [] [] some same lie e = refl
states_agree S level from [] [] (s ∷ states) some same lie e = absurd (cc)
states_agree S level from [] (z ∷ levels) states some same lie e = absurd (omega (arith, same))
states_agree S level from (tank ∷ tanks) [] states some same lie e = absurd (omega (arith, same))
states_agree S level from (tank ∷ tanks) (z ∷ levels) [] some same lie e = absurd (cc)
states_agree S level from (tank ∷ tanks) (z ∷ levels) (s ∷ states) some same lie e =
    let first : state_of tank (level from) ≡ Some s = cc in
    let others : map_from (λ k tank. state_of tank (level k)) (suc from) tanks
    ≡ map {B = Option TankState} Some states = cc in
    let n : from + 0 ≡ from = omega arith in
    let here = state_holds S tank (level from) z s some (subst (λ m. LiesIn S (level m) z) n (lie 0)) first in
    let rest = states_agree S level (suc from) tanks levels states some (omega (arith, same))
    (λ k. let m : from + suc k ≡ suc from + k = omega arith in
    subst (λ p. LiesIn S (level p) (slice_index_or levels k (pos 0))) m (lie (suc k))) others in
    λ i. here i ∷ rest i

-- ---- the start of the run

exact-lies : (S : ℕ) (z : ℤ) → LiesIn S (exactly z) (at_scale S z)
exact-lies S z = record { low = omega (arith, ints); high = omega (arith, ints) }

initial-lie : (S : ℕ) (f : Tank → ℤ) (tanks : List Tank) → LevelsLie S (map (λ (tank : Tank). exactly (f tank)) tanks)
    (map (λ (tank : Tank). at_scale S (f tank)) tanks)
initial-lie S f [] = tt
initial-lie S f (tank ∷ tanks) = (exact-lies S (f tank), initial-lie S f tanks)

pub shared-same : (s : TankState) → shared_state s s ≡ Some s
shared-same Full = refl
shared-same Between = refl
shared-same Empty = refl

initial-states : (S : ℕ) (tanks : List Tank) → 0 < S
    → tank_states S tanks (map (λ (tank : Tank). at_scale S tank.initial) tanks)
    ≡ map (λ (tank : Tank). tank_state 1 tank tank.initial) tanks
initial-states S [] some = refl
initial-states S (tank ∷ tanks) some =
    let here = state_holds S tank (exactly tank.initial) (at_scale S tank.initial) (tank_state 1 tank tank.initial) some
    (exact-lies S tank.initial) (shared-same (tank_state 1 tank tank.initial)) in
    let rest = initial-states S tanks some in
    λ i. here i ∷ rest i

pub agrees_at_start : (project : Project) (S : ℕ) → 0 < S → AgreesWith project S (initial_standing project) 0
    (initial_levels project S) (initial_volumes project S) (initial_links project)
agrees_at_start project S some = record {
  time_is = refl;
  levels_lie = initial-lie S (λ tank. tank.initial) project.tanks.list;
  volumes_lie = initial-lie S (λ tank. kept_volume (walls_of project tank) tank.initial) project.tanks.list;
  tanks_are = initial-states S project.tanks.list some;
  commanded_are = refl;
}

both-same : (b : Bool) → is_unknown (at_both_ends b b) ≡ false
both-same true = refl
both-same false = refl

exact-known : (tanks : List Tank) (k : ℕ) (above : Bool) (ticks : ℤ)
    → is_unknown (control_truth (slice_index_or (map (λ (tank : Tank). exactly tank.initial) tanks) k nowhere)
    above ticks) ≡ false
exact-known [] k above ticks = both-same (reaches 1 above ticks (whole (pos 0)))
exact-known (tank ∷ tanks) zero above ticks = both-same (reaches 1 above ticks (whole tank.initial))
exact-known (tank ∷ tanks) (suc k) above ticks = exact-known tanks k above ticks

pub decided_at_start : (project : Project) → ControlsAreDecided project (initial_standing project).levels
decided_at_start project each tank above ticks contained is = exact-known project.tanks.list tank above ticks
