-- The options and times that a file has in force: a later line wins.
-- Source: EPANET 2.2 User Manual, appendix C ([OPTIONS], [TIMES]), with its defaults; that the rule step is a tenth of
-- the hydraulic one, cut to whole seconds and at least 1, is this program's.
use Rattle.std.specs.Prelude.{ℕ, ◌/◌, ◌^◌, Bool, true, false, ◌&&◌, List, [], ◌∷◌, min, max, codes, Option, Some, None}
use Rattle.std.specs.Prelude.{unwrap_or, if◌then◌else◌, ℤ, pos}
use Rattle.hyd_num.specs.declared.flow_units.FlowUnit.{FlowUnit}
use Rattle.hyd_num.specs.declared.flow_units.FlowUnit.TheVariants.{Gpm}
use Rattle.hyd_spec_lines.specs.Lines.{Row}
use Rattle.hyd_spec_lines.specs.declared.section.Section.TheVariants.{Options, Times}
use Rattle.hyd_spec_input.specs.Columns.{word, word_is, amount}
use Rattle.hyd_spec_input.specs.Keywords.{flow_unit}
use Rattle.hyd_spec_input.specs.TimesAndClockTimes.{time_seconds, clock_seconds}
use Rattle.hyd_spec_input.specs.SectionsAndTables.{rows_of}

-- what comes later, where it is there
abbrev pub or_earlier : Option Row → Option Row → Option Row
or_earlier (Some later) earlier = Some later
or_earlier None earlier = earlier

-- a row where it passes
abbrev pub where_passes : (Row → Bool) → Row → Option Row
where_passes passes row = if passes row then Some row else None

-- the last row that passes
abbrev pub last_where : (Row → Bool) → List Row → Option Row
last_where passes [] = None
last_where passes (row ∷ rows) = or_earlier (last_where passes rows) (where_passes passes row)

-- a row begins with one word, or with two
abbrev pub begins : List ℕ → Row → Bool
begins key row = word_is 0 key row.words

abbrev pub begins_both : List ℕ → List ℕ → Row → Bool
begins_both key second row = word_is 0 key row.words && word_is 1 second row.words

-- what a row says, or a default
abbrev pub say : {A : Type 0} → A → (Row → A) → Option Row → A
say default read None = default
say default read (Some row) = read row

-- ---- options

abbrev pub option_row : List ℕ → List Row → Option Row
option_row key rows = last_where (begins key) (rows_of Options rows)

abbrev pub option_row_of : List ℕ → List ℕ → List Row → Option Row
option_row_of key second rows = last_where (begins_both key second) (rows_of Options rows)

-- the unit of flows: gallons a minute where none is named
abbrev pub unit : List Row → FlowUnit
unit rows = say Gpm (λ row. unwrap_or (flow_unit (word 1 row.words)) Gpm) (option_row (codes "UNITS") rows)

-- a head loss formula is named
abbrev pub names_head_loss : List Row → Bool
names_head_loss rows = say false (λ row. true) (option_row (codes "HEADLOSS") rows)

-- losses are by Hazen-Williams
abbrev pub has_hazen_williams : List Row → Bool
has_hazen_williams rows = say false (λ row. word_is 1 (codes "H-W") row.words) (option_row (codes "HEADLOSS") rows)

abbrev pub depends_on_pressure : List Row → Bool
depends_on_pressure rows = say false (λ row. word_is 2 (codes "PDA") row.words)
    (option_row_of (codes "DEMAND") (codes "MODEL") rows)

abbrev pub demand_multiplier : List Row → ℤ
demand_multiplier rows = say (pos (10 ^ 9)) (λ row. amount 2 row.words)
    (option_row_of (codes "DEMAND") (codes "MULTIPLIER") rows)

abbrev pub minimum_pressure : List Row → ℤ
minimum_pressure rows = say (pos 0) (λ row. amount 2 row.words) (option_row (codes "MINIMUM") rows)

abbrev pub required_pressure : List Row → ℤ
required_pressure rows = say (pos (10 ^ 8)) (λ row. amount 2 row.words) (option_row (codes "REQUIRED") rows)

-- the name of the pattern of demands that name none
abbrev pub default_pattern : List Row → List ℕ
default_pattern rows = say (codes "1") (λ row. word 1 row.words) (option_row (codes "PATTERN") rows)

-- the greater line of the two pressures, 0 where neither is given
abbrev pub pressure_line : List Row → ℕ
pressure_line rows =
    max (say 0 (λ row. row.number) (option_row (codes "MINIMUM") rows))
    (say 0 (λ row. row.number) (option_row (codes "REQUIRED") rows))

-- ---- times

abbrev pub time_row : List ℕ → List Row → Option Row
time_row key rows = last_where (begins key) (rows_of Times rows)

abbrev pub time_row_of : List ℕ → List ℕ → List Row → Option Row
time_row_of key second rows = last_where (begins_both key second) (rows_of Times rows)

-- the seconds of a time that one word or two words name
abbrev pub duration : List Row → ℕ
duration rows = say 0 (λ row. time_seconds 1 row.words) (time_row (codes "DURATION") rows)

abbrev pub seconds_of : ℕ → List ℕ → List ℕ → List Row → ℕ
seconds_of default key second rows = say default (λ row. time_seconds 2 row.words) (time_row_of key second rows)

abbrev pub written_step : List Row → ℕ
written_step rows = seconds_of 3600 (codes "HYDRAULIC") (codes "TIMESTEP") rows

abbrev pub pattern_step : List Row → ℕ
pattern_step rows = seconds_of 3600 (codes "PATTERN") (codes "TIMESTEP") rows

abbrev pub report_step : List Row → ℕ
report_step rows = seconds_of 3600 (codes "REPORT") (codes "TIMESTEP") rows

-- the time of patterns at the start, and the first report
abbrev pub pattern_start : List Row → ℕ
pattern_start rows = seconds_of 0 (codes "PATTERN") (codes "START") rows

abbrev pub report_start : List Row → ℕ
report_start rows = seconds_of 0 (codes "REPORT") (codes "START") rows

-- the hydraulic step is reduced to the pattern step and the report step
abbrev pub hydraulic_step : List Row → ℕ
hydraulic_step rows = min (written_step rows) (min (pattern_step rows) (report_step rows))

-- a tenth of the hydraulic step as written, where none is given; then reduced to the hydraulic step
abbrev pub rule_step : List Row → ℕ
rule_step rows = min (seconds_of (max 1 (written_step rows / 10)) (codes "RULE") (codes "TIMESTEP") rows)
    (hydraulic_step rows)

abbrev pub start_clock : List Row → ℕ
start_clock rows = say 0 (λ row. clock_seconds 2 row.words) (time_row_of (codes "START") (codes "CLOCKTIME") rows)
