-- What the lines of options, times, controls and rules say, as the results of their readers.
use Rattle.std.specs.Prelude.{◌≡◌, ℕ, ◌+◌, Bool, true, false, List, codes, Option, Some, None, unwrap_or, if◌then◌else◌}
use Rattle.std.specs.Prelude.{ℤ}
use Rattle.hyd_num.specs.Numeral.{nano_of}
use Rattle.hyd_num.specs.declared.flow_units.FlowUnit.TheVariants.{Gpm}
use Rattle.hyd_spec_lines.specs.WordsOfLines.{is_keyword}
use Rattle.hyd_spec_lines.specs.Headings.{is_one_of}
use Rattle.hyd_spec_input.specs.Columns.{word, amount, word_is, status_words}
use Rattle.hyd_spec_input.specs.Keywords.{flow_unit, option_word, time_word, link_word, node_word, object_word}
use Rattle.hyd_spec_input.specs.Keywords.{attribute_word, relation_word}
use Rattle.hyd_spec_input.specs.TimesAndClockTimes.{time_seconds, clock_seconds}
use Rattle.hyd_spec_input.specs.RuleRows.{begins_with, attribute_place}
use Rattle.hyd_spec_input.specs.declared.OptionWord.{OptionWord}
use Rattle.hyd_spec_input.specs.declared.OptionWord.TheVariants as option
use Rattle.hyd_spec_input.specs.declared.TimeWord.{TimeWord}
use Rattle.hyd_spec_input.specs.declared.TimeWord.TheVariants as time
use Rattle.hyd_spec_input.specs.declared.ObjectWord.{ObjectWord}
use Rattle.hyd_spec_input.specs.declared.ObjectWord.TheVariants as object
use Rattle.hyd_spec_input.specs.declared.Attribute.{Attribute}
use Rattle.hyd_spec_input.specs.declared.Attribute.TheVariants as attribute
use Rattle.hyd_spec_input.specs.declared.RuleWord.TheVariants as rule
use Rattle.hyd_option_and_rule_lines.specs.declared.options.OptionSet.{OptionSet}
use Rattle.hyd_option_and_rule_lines.specs.declared.options.OptionSet.TheVariants.{Unit as UnitSet, Formula}
use Rattle.hyd_option_and_rule_lines.specs.declared.options.OptionSet.TheVariants.{Pattern}
use Rattle.hyd_option_and_rule_lines.specs.declared.options.OptionSet.TheVariants.{Multiplier}
use Rattle.hyd_option_and_rule_lines.specs.declared.options.OptionSet.TheVariants.{Pda, MinimumPressure}
use Rattle.hyd_option_and_rule_lines.specs.declared.options.OptionSet.TheVariants.{RequiredPressure}
use Rattle.hyd_option_and_rule_lines.specs.declared.options.OptionSet.TheVariants.{Unused}
use Rattle.hyd_option_and_rule_lines.specs.declared.times.TimeSet.{TimeSet}
use Rattle.hyd_option_and_rule_lines.specs.declared.times.TimeSet.TheVariants as set
use Rattle.hyd_option_and_rule_lines.specs.declared.controls.Asked.{Asked}
use Rattle.hyd_option_and_rule_lines.specs.declared.controls.Asked.TheVariants.{Open, Closed, Number}
use Rattle.hyd_option_and_rule_lines.specs.declared.controls.WhenLine.{WhenLine}
use Rattle.hyd_option_and_rule_lines.specs.declared.controls.WhenLine.TheVariants.{Level, Time, Clock}
use Rattle.hyd_option_and_rule_lines.specs.declared.controls.ControlLine.{ControlLine}
use Rattle.hyd_option_and_rule_lines.specs.declared.rules.Object.{Object}
use Rattle.hyd_option_and_rule_lines.specs.declared.rules.Object.TheVariants.{System, Node, Link}
use Rattle.hyd_option_and_rule_lines.specs.declared.rules.Value.{Value}
use Rattle.hyd_option_and_rule_lines.specs.declared.rules.Value.TheVariants as value
use Rattle.hyd_option_and_rule_lines.specs.declared.rules.ClauseLine.{ClauseLine}
use Rattle.hyd_option_and_rule_lines.specs.declared.rules.ActionLine.{ActionLine}
use Rattle.hyd_option_and_rule_lines.specs.declared.rules.RuleLine.{RuleLine}
use Rattle.hyd_option_and_rule_lines.specs.declared.rules.RuleLine.TheVariants.{Rule, If, And, Or, Then, Else, Further}
use Rattle.hyd_option_and_rule_lines.specs.declared.rules.RuleLine.TheVariants.{Priority}

-- ---- options

-- a multiplier of so many billionths; pressures likewise
abbrev pub IsMultiplier : ℤ → OptionSet → Type 0
IsMultiplier nano (Multiplier number) = number.nano ≡ nano
IsMultiplier nano _ = ⊥

abbrev pub IsMinimum : ℤ → OptionSet → Type 0
IsMinimum nano (MinimumPressure number) = number.nano ≡ nano
IsMinimum nano _ = ⊥

abbrev pub IsRequired : ℤ → OptionSet → Type 0
IsRequired nano (RequiredPressure number) = number.nano ≡ nano
IsRequired nano _ = ⊥

-- DEMAND MULTIPLIER or DEMAND MODEL, by the second word
abbrev pub IsDemandSet : Bool → List (List ℕ) → OptionSet → Type 0
IsDemandSet true words set = IsMultiplier (amount 2 words) set
IsDemandSet false words set = set ≡ Pda (word_is 2 (codes "PDA") words)

-- what a line of an option sets; an ID is the number of its word
abbrev pub OptionSays : Option OptionWord → List (List ℕ) → OptionSet → Type 0
OptionSays (Some option.Units) words set = set ≡ UnitSet (unwrap_or (flow_unit (word 1 words)) Gpm)
OptionSays (Some option.HeadLoss) words set = set ≡ Formula (word_is 1 (codes "H-W") words)
OptionSays (Some option.Pattern) words set = set ≡ Pattern 1
OptionSays (Some option.Demand) words set = IsDemandSet (word_is 1 (codes "MULTIPLIER") words) words set
OptionSays (Some option.Minimum) words set = IsMinimum (amount 2 words) set
OptionSays (Some option.Required) words set = IsRequired (amount 2 words) set
OptionSays (Some _) words set = set ≡ Unused
OptionSays None words set = ⊥

abbrev pub IsOptionSet : List (List ℕ) → OptionSet → Type 0
IsOptionSet words set = OptionSays (option_word (word 0 words)) words set

-- ---- times

abbrev pub either_set : Bool → TimeSet → TimeSet → TimeSet
either_set true step start = step
either_set false step start = start

-- what a line of a time sets
abbrev pub time_said : Option TimeWord → List (List ℕ) → TimeSet
time_said (Some time.Duration) words = set.Duration (time_seconds 1 words)
time_said (Some time.Hydraulic) words = set.Hydraulic (time_seconds 2 words)
time_said (Some time.Pattern) words =
    either_set (word_is 1 (codes "TIMESTEP") words) (set.Pattern (time_seconds 2 words))
    (set.PatternStart (time_seconds 2 words))
time_said (Some time.Report) words =
    either_set (word_is 1 (codes "TIMESTEP") words) (set.Report (time_seconds 2 words))
    (set.ReportStart (time_seconds 2 words))
time_said (Some time.Rule) words = set.Rule (time_seconds 2 words)
time_said (Some time.Start) words = set.StartClock (clock_seconds 2 words)
time_said _ words = set.Unused

abbrev pub time_set : List (List ℕ) → TimeSet
time_set words = time_said (time_word (word 0 words)) words

-- ---- controls

-- OPEN, CLOSED or a number
abbrev pub IsAsked : List ℕ → Asked → Type 0
IsAsked word Open = is_keyword (codes "OPEN") word ≡ true
IsAsked word Closed = is_keyword (codes "CLOSED") word ≡ true
IsAsked word (Number number) = (is_one_of status_words word ≡ false) × (number.nano ≡ nano_of word)

-- IF and a node's level, or AT and a time or a time of day
abbrev pub IsWhen : List (List ℕ) → WhenLine → Type 0
IsWhen words (Level object node above level) =
    (word_is 3 (codes "IF") words ≡ true) × (node_word (word 4 words) ≡ Some object) × (node ≡ 5)
    × (above ≡ word_is 6 (codes "ABOVE") words) × (level.nano ≡ amount 7 words)
IsWhen words (Time seconds) =
    (word_is 3 (codes "IF") words ≡ false) × (word_is 4 (codes "CLOCKTIME") words ≡ false)
    × (seconds ≡ time_seconds 5 words)
IsWhen words (Clock seconds) =
    (word_is 3 (codes "IF") words ≡ false) × (word_is 4 (codes "CLOCKTIME") words ≡ true)
    × (seconds ≡ clock_seconds 5 words)

pub record IsControlLine (words : List (List ℕ)) (line : ControlLine) : Type 0 where
  pub object : link_word (word 0 words) ≡ Some line.object
  pub link : line.link ≡ 1
  pub to : IsAsked (word 2 words) line.to
  pub when : IsWhen words line.when

-- ---- rules

-- the third word is the object's ID, unless it is the system
abbrev pub object_at : ObjectWord → Object
object_at object.System = System
object_at (object.Node kind) = Node kind 2
object_at (object.Link kind) = Link kind 2

abbrev pub status_value : List ℕ → Value
status_value word =
    if is_keyword (codes "OPEN") word then value.Open
    else (if is_keyword (codes "CLOSED") word then value.Closed else value.Active)

-- a number of so many billionths
abbrev pub IsNumberValue : ℤ → Value → Type 0
IsNumberValue nano (value.Number number) = number.nano ≡ nano
IsNumberValue nano _ = ⊥

-- what a clause compares an attribute with, from a word on
abbrev pub IsValue : Attribute → ℕ → List (List ℕ) → Value → Type 0
IsValue attribute.Time k words found = found ≡ value.Seconds (time_seconds k words)
IsValue attribute.Clock k words found = found ≡ value.Seconds (clock_seconds k words)
IsValue attribute.Status k words found = found ≡ status_value (word k words)
IsValue _ k words found = IsNumberValue (amount k words) found

-- a clause about an object, whose attribute is this word
pub record IsComparison (k : ℕ) (words : List (List ℕ)) (line : ClauseLine) : Type 0 where
  pub what : attribute_word (word k words) ≡ Some line.what
  pub relation : relation_word (word (k + 1) words) ≡ Some line.relation
  pub value : IsValue line.what (k + 2) words line.value

abbrev pub ClauseSays : Option ObjectWord → List (List ℕ) → ClauseLine → Type 0
ClauseSays None words line = ⊥
ClauseSays (Some object) words line = (line.object ≡ object_at object)
    × IsComparison (attribute_place object) words line

abbrev pub IsClauseLine : List (List ℕ) → ClauseLine → Type 0
IsClauseLine words line = ClauseSays (object_word (word 1 words)) words line

-- the attribute of an action
abbrev pub set_attribute : Bool → Attribute
set_attribute true = attribute.Setting
set_attribute false = attribute.Status

-- STATUS and OPEN or CLOSED, or SETTING and a number
abbrev pub IsSet : List (List ℕ) → Asked → Type 0
IsSet words Open = (attribute_word (word 3 words) ≡ Some attribute.Status) × (word_is 5 (codes "OPEN") words ≡ true)
IsSet words Closed = (attribute_word (word 3 words) ≡ Some attribute.Status) × (word_is 5 (codes "OPEN") words ≡ false)
IsSet words (Number number) = (attribute_word (word 3 words) ≡ Some attribute.Setting) × (number.nano ≡ amount 5 words)

pub record IsActionLine (words : List (List ℕ)) (line : ActionLine) : Type 0 where
  pub object : link_word (word 1 words) ≡ Some line.object
  pub link : line.link ≡ 2
  pub to : IsSet words line.to

-- what a line of a rule says, where an AND line holds an action or not
abbrev pub IsRuleLine : Bool → List (List ℕ) → RuleLine → Type 0
IsRuleLine acting words (Rule id) = (begins_with words ≡ Some rule.Rule) × (id ≡ 1)
IsRuleLine acting words (If clause) = (begins_with words ≡ Some rule.If) × IsClauseLine words clause
IsRuleLine acting words (And clause) = (begins_with words ≡ Some rule.And) × (acting ≡ false)
    × IsClauseLine words clause
IsRuleLine acting words (Or clause) = (begins_with words ≡ Some rule.Or) × IsClauseLine words clause
IsRuleLine acting words (Then action) = (begins_with words ≡ Some rule.Then) × IsActionLine words action
IsRuleLine acting words (Else action) = (begins_with words ≡ Some rule.Else) × IsActionLine words action
IsRuleLine acting words (Further action) =
    (begins_with words ≡ Some rule.And) × (acting ≡ true) × IsActionLine words action
IsRuleLine acting words (Priority number) = (begins_with words ≡ Some rule.Priority) × (number.nano ≡ amount 1 words)
