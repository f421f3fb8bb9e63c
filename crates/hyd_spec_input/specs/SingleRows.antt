-- A row that is wrong by itself.
-- Source: EPANET 2.2 User Manual, appendix C.
use Rattle.std.specs.Prelude.{◌≡◌, ℕ, ◌+◌, Bool, List, take, drop, Option, Some, slice_get, if◌then◌else◌}
use Rattle.hyd_spec_lines.specs.Lines.{Row}
use Rattle.hyd_spec_lines.specs.declared.section.Section.{Section}
use Rattle.hyd_spec_lines.specs.declared.section.Section.TheVariants.{Junctions, Reservoirs, Tanks, Pipes, Pumps}
use Rattle.hyd_spec_lines.specs.declared.section.Section.TheVariants.{Valves, Demands, Emitters, Curves, Patterns}
use Rattle.hyd_spec_lines.specs.declared.section.Section.TheVariants.{Status, Controls, Rules, Options, Times}
use Rattle.hyd_spec_input.specs.NodeAndLinkRows.{junction, reservoir, tank, pipe, pipe_by, pump, valve}
use Rattle.hyd_spec_input.specs.DemandEmitterCurvePatternAndStatusRows.{demand, emitter, curve, pattern, status}
use Rattle.hyd_spec_input.specs.OptionAndTimeRows.{option, time_line}
use Rattle.hyd_spec_input.specs.ControlRows.{control}
use Rattle.hyd_spec_input.specs.RuleRows.{rule_line}
use Rattle.hyd_spec_input.specs.OptionsAndTimesInForce.{has_hazen_williams}
use Rattle.hyd_spec_input.specs.SectionsAndTables.{is_of, words_of}
use Rattle.hyd_net.specs.declared.refusal_cause.Cause.{Cause}

-- what is wrong with the words of a row of a section, where it stands between earlier and later lines of rules
abbrev pub section_fault : Section → List (List (List ℕ)) → List (List ℕ) → List (List (List ℕ)) → Option Cause
section_fault Junctions earlier words later = junction words
section_fault Reservoirs earlier words later = reservoir words
section_fault Tanks earlier words later = tank words
section_fault Pipes earlier words later = pipe words
section_fault Pumps earlier words later = pump words
section_fault Valves earlier words later = valve words
section_fault Demands earlier words later = demand words
section_fault Emitters earlier words later = emitter words
section_fault Curves earlier words later = curve words
section_fault Patterns earlier words later = pattern words
section_fault Status earlier words later = status words
section_fault Controls earlier words later = control words
section_fault Rules earlier words later = rule_line earlier words later
section_fault Options earlier words later = option words
section_fault Times earlier words later = time_line words

-- what is wrong with a row by itself, among all rows, where losses are by Hazen-Williams or not
abbrev pub row_fault_by : Bool → List Row → ℕ → Row → Option Cause
row_fault_by by_power rows k row =
    if is_of Pipes row then pipe_by by_power row.words
    else section_fault row.section (words_of Rules (take k rows)) row.words (words_of Rules (drop (k + 1) rows))

-- the row of a number is wrong by itself
pub record IsWrongBy (by_power : Bool) (rows : List Row) (k : ℕ) (cause : Cause) : Type 0 where
  pub row : Row
  pub row_is : slice_get rows k ≡ Some row
  pub fault : row_fault_by by_power rows k row ≡ Some cause

-- by the formula in force
abbrev pub row_fault : List Row → ℕ → Row → Option Cause
row_fault rows k row = row_fault_by (has_hazen_williams rows) rows k row

abbrev pub IsWrongByItself : List Row → ℕ → Cause → Type 0
IsWrongByItself rows k cause = IsWrongBy (has_hazen_williams rows) rows k cause
