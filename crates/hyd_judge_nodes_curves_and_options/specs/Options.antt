-- The pressures that a file has in force, and rows of options among all rows.
use Rattle.std.specs.Prelude.{◌≡◌, ℕ, ◌*◌, ◌^◌, ◌==◌, ◌&&◌, true, List, [], ◌∷◌, codes, Option, Some, None}
use Rattle.std.specs.Prelude.{if◌then◌else◌, ℤ, pos, ◌+ℤ◌, ⊤}
use lib.Signed.{le_z}
use Rattle.hyd_num.specs.FileQuantity.{is_us_unit, pressure_numerator, pressure_denominator}
use Rattle.hyd_num.specs.declared.flow_units.FlowUnit.{FlowUnit}
use Rattle.hyd_spec_lines.specs.Lines.{Row, Reading}
use Rattle.hyd_spec_lines.specs.declared.line.Line.{Line}
use Rattle.hyd_option_and_rule_lines.specs.FaultOrValue.{words_at}
use Rattle.hyd_spec_input.specs.Columns.{or_else, unless, needed, number, amount, word_is_of}
use Rattle.hyd_spec_input.specs.OptionsAndTimesInForce as force
use Rattle.hyd_net.specs.NumberRanges.{head_limit}
use Rattle.hyd_net.specs.declared.refusal_cause.Cause.{Cause}
use Rattle.hyd_net.specs.declared.refusal_cause.Cause.TheVariants.{Range}
use Rattle.hyd_judge_nodes_curves_and_options.specs.declared.options.Pressures.{Pressures}

pub record ArePressures (rows : List Row) (p : Pressures) : Type 0 where
  pub depends : p.depends ≡ force.depends_on_pressure rows
  pub minimum : p.minimum.nano ≡ force.minimum_pressure rows
  pub required : p.required.nano ≡ force.required_pressure rows
  pub line : p.line ≡ force.pressure_line rows

-- the number that a row has as its third word
abbrev pub amount_2 : Row → ℤ
amount_2 row = amount 2 row.words

abbrev pub line_number : Row → ℕ
line_number row = row.number

-- a line that may be there has a number as its third word
abbrev pub HasAmount : Reading → Option Line → Type 0
HasAmount text None = ⊤
HasAmount text (Some line) = needed number 2 (words_at text line) ≡ None

abbrev pub bound_words : List (List ℕ)
bound_words = codes "MINIMUM" ∷ codes "REQUIRED" ∷ []

-- a line of a pressure has a number as its third word
abbrev pub IsBound : List (List ℕ) → Type 0
IsBound words = word_is_of 0 bound_words words ≡ true → needed number 2 words ≡ None

abbrev pub pressure_fault : FlowUnit → ℤ → Option Cause
pressure_fault unit nano =
    unless (le_z (pressure_numerator (is_us_unit unit) nano) (pos (head_limit * pressure_denominator
    (is_us_unit unit)))) Range

-- what is asked of the two pressures at a line
abbrev pub apart_fault : Pressures → ℕ → Option Cause
apart_fault p line =
    if p.depends && (line == p.line) then unless (le_z (p.minimum.nano +ℤ pos (10 ^ 8)) p.required.nano) Range else None

-- what a row of options is asked, by the unit and the pressures in force
abbrev pub option_fault : FlowUnit → Pressures → ℕ → List (List ℕ) → Option Cause
option_fault unit p line words =
    if word_is_of 0 bound_words words then or_else (pressure_fault unit (amount 2 words)) (apart_fault p line) else None
