-- The lines of options and times, each judged by itself.
-- Source: EPANET 2.2 User Manual, appendix C ([OPTIONS], [TIMES]); what is unused or refused is this program's choice.
use Rattle.std.specs.Prelude.{ℕ, ◌*◌, ◌^◌, List, [], ◌∷◌, codes, Option, Some, None, if◌then◌else◌, pos}
use Rattle.hyd_spec_input.specs.Columns.{Column, id, one_of, meant, not_negative, up_to, only, units, supported}
use Rattle.hyd_spec_input.specs.Columns.{or_else, first, needed, ends, word, word_is}
use Rattle.hyd_spec_input.specs.Keywords.{flow_unit, option_word, time_word}
use Rattle.hyd_spec_input.specs.TimesAndClockTimes.{time, clock}
use Rattle.hyd_spec_input.specs.declared.OptionWord.{OptionWord}
use Rattle.hyd_spec_input.specs.declared.OptionWord.TheVariants.{Units, HeadLoss, Pattern, Demand, Minimum, Required}
use Rattle.hyd_spec_input.specs.declared.OptionWord.TheVariants.{Pressure, Emitter, Specific, Unused}
use Rattle.hyd_spec_input.specs.declared.TimeWord.{TimeWord}
use Rattle.hyd_spec_input.specs.declared.TimeWord.TheVariants as at
use Rattle.hyd_net.specs.declared.refusal_cause.Cause.{Cause}
use Rattle.hyd_net.specs.declared.refusal_cause.Cause.TheVariants.{Syntax}

-- ---- options

abbrev pub units_line : List (List ℕ) → Option Cause
units_line words = first (needed (meant flow_unit) 1 words ∷ ends 2 words ∷ [])

-- Chezy-Manning and Hazen-Williams; Darcy-Weisbach isn't supported
abbrev pub loss_formulas : List (List ℕ)
loss_formulas = codes "C-M" ∷ codes "H-W" ∷ codes "D-W" ∷ []

abbrev pub head_loss_line : List (List ℕ) → Option Cause
head_loss_line words =
    first (needed (supported loss_formulas (codes "D-W" ∷ []) 1) 1 words ∷ ends 2 words ∷ [])

abbrev pub pattern_line : List (List ℕ) → Option Cause
pattern_line words = first (needed id 1 words ∷ ends 2 words ∷ [])

-- DEMAND MULTIPLIER and a number, or DEMAND MODEL and DDA or PDA
abbrev pub demand_words : List (List ℕ)
demand_words = codes "MULTIPLIER" ∷ codes "MODEL" ∷ []

abbrev pub demand_value : List (List ℕ) → Column
demand_value words = if word_is 1 (codes "MULTIPLIER") words then up_to (10 ^ 6)
    else one_of (codes "DDA" ∷ codes "PDA" ∷ [])

abbrev pub demand_line : List (List ℕ) → Option Cause
demand_line words =
    first (needed (one_of demand_words) 1 words ∷ needed (demand_value words) 2 words ∷ ends 3 words ∷ [])

-- MINIMUM PRESSURE or REQUIRED PRESSURE and a number
abbrev pub bound_line : List (List ℕ) → Option Cause
bound_line words =
    first (needed (one_of (codes "PRESSURE" ∷ [])) 1 words ∷ needed not_negative 2 words ∷ ends 3 words ∷ [])

-- an exponent of a half
abbrev pub half : ℕ → Column
half reason = only (pos (5 * 10 ^ 8)) reason

-- PRESSURE EXPONENT, or a unit of pressure, which isn't used, since the flow unit decides it
abbrev pub pressure_units : List (List ℕ)
pressure_units = codes "PSI" ∷ codes "METERS" ∷ codes "KPA" ∷ []

abbrev pub pressure_line : List (List ℕ) → Option Cause
pressure_line words =
    if word_is 1 (codes "EXPONENT") words then first (needed (half 6) 2 words ∷ ends 3 words ∷ [])
    else first (needed (supported pressure_units (codes "KPA" ∷ []) 13) 1 words ∷ ends 2 words ∷ [])

abbrev pub emitter_line : List (List ℕ) → Option Cause
emitter_line words = first (needed (one_of (codes "EXPONENT" ∷ [])) 1 words ∷ needed (half 5) 2 words ∷ ends 3 words
    ∷ [])

abbrev pub specific_line : List (List ℕ) → Option Cause
specific_line words =
    first (needed (one_of (codes "GRAVITY" ∷ [])) 1 words ∷ needed (only (units 1) 7) 2 words ∷ ends 3 words ∷ [])

abbrev pub option_about : Option OptionWord → List (List ℕ) → Option Cause
option_about None words = Some Syntax
option_about (Some Units) words = units_line words
option_about (Some HeadLoss) words = head_loss_line words
option_about (Some Pattern) words = pattern_line words
option_about (Some Demand) words = demand_line words
option_about (Some Minimum) words = bound_line words
option_about (Some Required) words = bound_line words
option_about (Some Pressure) words = pressure_line words
option_about (Some Emitter) words = emitter_line words
option_about (Some Specific) words = specific_line words
option_about (Some Unused) words = None

-- a line of OPTIONS
abbrev pub option : List (List ℕ) → Option Cause
option words = option_about (option_word (word 0 words)) words

-- ---- times

-- TIMESTEP and a time of at least a second
abbrev pub step_line : List (List ℕ) → Option Cause
step_line words = or_else (needed (one_of (codes "TIMESTEP" ∷ [])) 1 words) (time 1 2 words)

-- TIMESTEP and a time of at least a second, or START and a time
abbrev pub step_or_start_line : List (List ℕ) → Option Cause
step_or_start_line words =
    or_else (needed (one_of (codes "TIMESTEP" ∷ codes "START" ∷ [])) 1 words)
    (time (if word_is 1 (codes "TIMESTEP") words then 1 else 0) 2 words)

-- START CLOCKTIME and a time of day
abbrev pub start_line : List (List ℕ) → Option Cause
start_line words = or_else (needed (one_of (codes "CLOCKTIME" ∷ [])) 1 words) (clock 2 words)

abbrev pub time_about : Option TimeWord → List (List ℕ) → Option Cause
time_about None words = Some Syntax
time_about (Some at.Duration) words = time 0 1 words
time_about (Some at.Hydraulic) words = step_line words
time_about (Some at.Pattern) words = step_or_start_line words
time_about (Some at.Report) words = step_or_start_line words
time_about (Some at.Rule) words = step_line words
time_about (Some at.Start) words = start_line words
time_about (Some at.Quality) words = needed (one_of (codes "TIMESTEP" ∷ [])) 1 words
time_about (Some at.Statistic) words = None

-- a line of TIMES
abbrev pub time_line : List (List ℕ) → Option Cause
time_line words = time_about (time_word (word 0 words)) words
