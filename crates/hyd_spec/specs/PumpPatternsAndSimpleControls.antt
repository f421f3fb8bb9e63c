-- The start of a period: pump patterns, then simple controls.
-- Source: EPANET 2.2 User Manual, chapter 3 (controls) and appendix C ([CONTROLS], [PUMPS]); that a pump takes its
-- pattern's multiplier at time 0 and where a step of the patterns begins, and at no other time, is this program's.
use Rattle.std.specs.Prelude.{ℕ, ◌+◌, ◌%◌, ℤ, pos, Bool, ◌||◌, ◌==◌, List, [], ◌∷◌, Option, Some, None, fold, slice_set}
use Rattle.std.specs.Prelude.{slice_index_or, int_le, if◌then◌else◌}
use Rattle.hyd_spec.specs.ProgramTypes.{Project, Link, LinkKind, PipeLink, CheckPipe, PumpLink, CurvePump, Tcv, Fcv}
use Rattle.hyd_spec.specs.ProgramTypes.{Gpv}
use Rattle.hyd_spec.specs.ProgramTypes.{LinkState, Closed, Speed, When, AtLevel, AtTime, AtClock}
use Rattle.hyd_num.specs.Rational.{whole}
use Rattle.hyd_spec.specs.Tank.{reaches}
use Rattle.hyd_spec.specs.DemandsHeadsAndPumpLifts.{multiplier_at}

-- ---- the clock

-- A day, in seconds.
abbrev pub day : ℕ
day = 86400

-- What the clock shows at a time.
abbrev pub clock_at : Project → ℕ → ℕ
clock_at project time = (time + project.times.start_clock) % day

-- ---- pump patterns

-- A pump at a speed, in nano. A pump at speed 0 is closed.
abbrev pub speed_state : ℤ → LinkState
speed_state speed = if int_le speed (pos 0) then Closed else Speed speed

-- Pumps take their pattern's multiplier at time 0 and where a step of the patterns begins.
abbrev pub is_pattern_boundary : Project → ℕ → Bool
is_pattern_boundary project time =
    (time == 0) || ((time + project.times.pattern_start) % project.times.pattern == 0)

-- The state of a link at time 0 or where a step of the patterns begins: a pump with a pattern takes its multiplier as
-- speed.
abbrev pub patterned_state : Project → ℕ → Link → LinkState → LinkState
patterned_state project time link state = by_kind link.kind
  where
    by_pattern : Option ℕ → LinkState
    by_pattern (Some pattern) = speed_state (multiplier_at project pattern time)
    by_pattern None = state

    by_kind : LinkKind → LinkState
    by_kind (PipeLink capacity) = state
    by_kind (CheckPipe capacity) = state
    by_kind (PumpLink capacity shutoff head pattern) = by_pattern pattern
    by_kind (CurvePump bend pattern) = by_pattern pattern
    by_kind (Tcv valve) = state
    by_kind (Fcv valve) = state
    by_kind (Gpv bend) = state

-- The states of all links at such a time.
abbrev pub after_patterns : Project → ℕ → List Link → List LinkState → List LinkState
after_patterns project time [] states = states
after_patterns project time (link ∷ links) [] = []
after_patterns project time (link ∷ links) (state ∷ states) =
    patterned_state project time link state ∷ after_patterns project time links states

-- The states of all links after pump patterns at the start of a period.
abbrev pub patterned : Project → ℕ → List LinkState → List LinkState
patterned project time states =
    if is_pattern_boundary project time then after_patterns project time project.links.list states else states

-- ---- simple controls

-- A control acts at a time, where `acts` says whether a level control does.
abbrev pub control_acts : Project → ℕ → (ℕ → Bool → ℤ → Bool) → When → Bool
control_acts project time acts (AtLevel tank above ticks) = acts tank above ticks
control_acts project time acts (AtTime at) = at == time
control_acts project time acts (AtClock at) = at == clock_at project time

-- The link states after the controls, carried out in order, a later one overriding.
abbrev pub controlled : Project → ℕ → (ℕ → Bool → ℤ → Bool) → List LinkState → List LinkState
controlled project time acts states =
    fold (λ links control. if control_acts project time acts control.when then slice_set links control.link control.to
    else links)
    states project.controls.list

-- The link states of a period that starts at `time`, from those commanded before.
abbrev pub started : Project → ℕ → (ℕ → Bool → ℤ → Bool) → List LinkState → List LinkState
started project time acts states = controlled project time acts (patterned project time states)

-- Whether a level control acts at the levels of a history (S-th parts of a tick): ABOVE means at least, BELOW at
-- most.
abbrev pub acts_at : ℕ → List ℤ → ℕ → Bool → ℤ → Bool
acts_at S levels tank above ticks = reaches S above ticks (whole (slice_index_or levels tank (pos 0)))
