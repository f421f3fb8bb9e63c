-- Open tanks, as the code finds them.
use Rattle.std.proofs.Common.{◌≡◌, ℕ, suc, ◌<◌, sym, ap, subst, ◌∙◌, List, length, true}
use Rattle.std.proofs.lemmas.Option.{slice_get_within}
use Rattle.std.specs.Prelude.{Option, Some, None, position, slice_get, Result, Ok, Err, IfErr, OnOk, is_err}
use Rattle.std.specs.Option.{option_map}
use Rattle.hyd_net.specs.Sound.{IsSound}
use Rattle.hyd_net.specs.declared.refusal_cause.Cause.TheVariants.{Range}
use Rattle.hyd_spec.specs.ProgramTypes.{Project, Control}
use Rattle.hyd_spec.specs.NodeNumbers.{tank_node}
use Rattle.hyd_spec_certificates.specs.Interval.{Interval}
use Rattle.hyd_spec_certificates.specs.RecordAndStanding.{initial_standing}
use Rattle.hyd_spec_certificates.specs.Stops.{open_states, is_open_control}
use Rattle.hyd_spec_certificates.specs.declared.LevelSpan.{LevelSpan}
use Rattle.hyd_spec_lines.specs.WordsOfLines.{text_lines}
use Rattle.hyd_spec_spread.specs.Spreads.{Spread}
use Rattle.hyd_spec_spread.specs.IntervalsOfData.{known_levels}
use Rattle.hyd_spec_spread_rows.specs.declared.Subject.TheVariants.{Level}
use Rattle.hyd_spec_spread_rows.specs.TextsOfSpreads.{HasNoFault, rows_of, spread_in}
use Rattle.hyd_spec_spread_starts.specs.StartsOfSpreads.{place_for, IsOpenTank, IsOpenByControl, IsFaultAtStart}
use Rattle.hyd_spec_spread_runs.specs.RunsForSpreads.{StartIsDecided}
use Rattle.hyd_theorems_on_spread_starts.proofs.OpenTanks.{none-is-open}
use Rattle.hyd_theorems_on_spread_starts.proofs.StartsWithRows.{row-of-open}
use Rattle.hyd_lemmas.proofs.ListsOptionsAndResults.{same_some}
use Rattle.hyd_controls_and_rules.specs.PumpPatternsAndSimpleControls.{IsFirstOpen as IsFirstOpenControl}
use Rattle.hyd_controls_and_rules.specs.declared.pump_patterns_and_simple_controls.LevelOpen.{LevelOpen}
use Rattle.hyd_spread_rows.specs.SpreadsRead.{IfFault}
use Rattle.hyd_spread_rows.specs.declared.fault.SpreadFault.{SpreadFault}
use Rattle.hyd_spread_rows.specs.declared.fault.SpreadRefused.{SpreadRefused}
use Rattle.hyd_spread_rows.specs.declared.fault.SpreadRefused.TheVariants.{OutOfMemory, Fault}
use Rattle.hyd_spread_start.specs.StartsOver.{IsOfLevel, IsTankOf}

pub by-control : (project : Project) (levels : List Interval) (number tank : ℕ)
    → position (λ is_open. is_open) (open_states project levels) ≡ None
    → position (is_open_control levels) project.controls.list ≡ Some number → IsTankOf project number tank
    → IsOpenByControl project levels tank
by-control project levels number tank none first is = record {
  states_decided = none;
  number = number;
  first = first;
  control = is.control;
  is_control = is.is_control;
  above = is.above;
  ticks = is.ticks;
  is_level = is.is_level;
}

-- the first open control is there, and of a level
pub control-there : (project : Project) (levels : List LevelSpan) (found : LevelOpen)
    → IsFirstOpenControl project levels found → found.control < length project.controls.list
control-there project levels found is =
    slice_get_within project.controls.list found.control is.control is.is_control

pub control-of-level : (project : Project) (levels : List LevelSpan) (found : LevelOpen)
    → IsFirstOpenControl project levels found → (control : Control)
    → slice_get project.controls.list found.control ≡ Some control → IsOfLevel control.when
control-of-level project levels found is control at =
    let same = same_some (slice_get project.controls.list found.control) is.control control is.is_control at in
    subst IsOfLevel (sym (ap (λ (c : Control). c.when) (sym same) ∙ is.level.is_level)) tt

-- the line that was found is that of the fault
pub line-is : (project : Project) (text : List ℕ) (tank line : ℕ) → IsSound project → HasNoFault project text
    → IsOpenTank project (known_levels project (spread_in project text)) tank
    → Some line ≡ option_map (λ (place : ℕ). suc place) (place_for project Level (rows_of (text_lines text))
    (tank_node project tank)) → IsFaultAtStart project text line Range
line-is project text tank line sound none open_tank e =
    let row = row-of-open project sound text tank open_tank in
    let same : ◌≡◌ {A = Option ℕ} (Some line) (Some (suc row.0)) =
    e ∙ ap (λ (o : Option ℕ). option_map (λ (place : ℕ). suc place) o) row.1 in
    record {
      no_other = none;
      tank = tank;
      is_open = open_tank;
      place = row.0;
      counts = row.1;
      number_is = (let n : line ≡ suc row.0 = cc in n);
      cause_is = λ i. Range;
    }

pub line-there : (project : Project) (text : List ℕ) (tank : ℕ) → IsSound project
    → IsOpenTank project (known_levels project (spread_in project text)) tank
    → None ≡ option_map (λ (place : ℕ). suc place) (place_for project Level (rows_of (text_lines text))
    (tank_node project tank)) → ⊥
line-there project text tank sound open_tank e =
    let row = row-of-open project sound text tank open_tank in
    let same : ◌≡◌ {A = Option ℕ} None (Some (suc row.0)) =
    e ∙ ap (λ (o : Option ℕ). option_map (λ (place : ℕ). suc place) o) row.1 in
    absurd (cc)

-- ---- starts without a doubt

-- no tank is found open there
never-open : (project : Project) (spread : Spread) → StartIsDecided project spread → (tank : ℕ)
    → IsOpenTank project (known_levels project spread) tank → ⊥
never-open project spread start tank open_tank =
    none-is-open project (known_levels project spread) (initial_standing project).tanks start.states start.controls
    tank open_tank

pub no-error : (project : Project) (spread : Spread) (result : Result (Unit {0}) ℕ) → StartIsDecided project spread
    → IfErr result (IsOpenTank project (known_levels project spread)) → is_err result ≡ true → ⊥
no-error project spread (Ok x) start open_tank e = absurd (cc)
no-error project spread (Err tank) start open_tank e = never-open project spread start tank open_tank

-- so there is an answer
pub ok-there : (project : Project) (spread : Spread) (result : Result (Unit {0}) ℕ) → StartIsDecided project spread
    → IfErr result (IsOpenTank project (known_levels project spread)) → (P : Type 0) → OnOk result P → P
ok-there project spread (Ok x) start open_tank P p = p
ok-there project spread (Err tank) start open_tank P p = absurd (never-open project spread start tank open_tank)

-- ---- faults of a text

pub fault-weaker : (refused : SpreadRefused) (P Q : SpreadFault → Type 0) → ((f : SpreadFault) → P f → Q f)
    → IfFault refused P → IfFault refused Q
fault-weaker OutOfMemory P Q more p = tt
fault-weaker (Fault f) P Q more p = more f p
