-- The keywords that stand for something.
-- Source: EPANET 2.2 User Manual, appendix C.
use Rattle.std.specs.Prelude.{ℕ, List, [], ◌∷◌, codes, Option, Some, None, if◌then◌else◌}
use Rattle.hyd_spec_lines.specs.WordsOfLines.{is_keyword}
use Rattle.hyd_spec_lines.specs.Headings.{is_one_of, first_named, either}
use Rattle.hyd_num.specs.declared.flow_units.FlowUnit.{FlowUnit}
use Rattle.hyd_num.specs.declared.flow_units.FlowUnit.TheVariants.{Cfs, Gpm, Mgd, Imgd, Afd, Lps, Lpm, Mld, Cmh, Cmd}
use Rattle.hyd_net.specs.declared.rules.Relation.{Relation}
use Rattle.hyd_net.specs.declared.rules.Relation.TheVariants.{Less, AtMost, More, AtLeast, Equal, Unequal}
use Rattle.hyd_spec_input.specs.declared.OptionWord.{OptionWord}
use Rattle.hyd_spec_input.specs.declared.OptionWord.TheVariants as option
use Rattle.hyd_spec_input.specs.declared.TimeWord.{TimeWord}
use Rattle.hyd_spec_input.specs.declared.TimeWord.TheVariants as time
use Rattle.hyd_spec_input.specs.declared.LinkWord.{LinkWord}
use Rattle.hyd_spec_input.specs.declared.LinkWord.TheVariants as link
use Rattle.hyd_spec_input.specs.declared.NodeWord.{NodeWord}
use Rattle.hyd_spec_input.specs.declared.NodeWord.TheVariants as node
use Rattle.hyd_spec_input.specs.declared.ObjectWord.{ObjectWord}
use Rattle.hyd_spec_input.specs.declared.ObjectWord.TheVariants as object
use Rattle.hyd_spec_input.specs.declared.Attribute.{Attribute}
use Rattle.hyd_spec_input.specs.declared.Attribute.TheVariants as attribute
use Rattle.hyd_spec_input.specs.declared.RuleWord.{RuleWord}
use Rattle.hyd_spec_input.specs.declared.RuleWord.TheVariants as rule

-- ---- units

-- units that go with feet, and units that go with metres
abbrev pub us_units : List (List ℕ × FlowUnit)
us_units =
    (codes "CFS", Cfs) ∷ (codes "GPM", Gpm) ∷ (codes "MGD", Mgd) ∷ (codes "IMGD", Imgd) ∷ (codes "AFD", Afd) ∷ []

abbrev pub metric_units : List (List ℕ × FlowUnit)
metric_units =
    (codes "LPS", Lps) ∷ (codes "LPM", Lpm) ∷ (codes "MLD", Mld) ∷ (codes "CMH", Cmh) ∷ (codes "CMD", Cmd) ∷ []

unfoldable pub flow_unit : List ℕ → Option FlowUnit
flow_unit word = either (first_named us_units word) (first_named metric_units word)

-- ---- options and times

abbrev pub option_words : List (List ℕ × OptionWord)
option_words =
    (codes "UNITS", option.Units) ∷ (codes "HEADLOSS", option.HeadLoss) ∷ (codes "PATTERN", option.Pattern)
    ∷ (codes "DEMAND", option.Demand) ∷ (codes "MINIMUM", option.Minimum) ∷ []

abbrev pub more_option_words : List (List ℕ × OptionWord)
more_option_words =
    (codes "REQUIRED", option.Required) ∷ (codes "PRESSURE", option.Pressure) ∷ (codes "EMITTER", option.Emitter)
    ∷ (codes "SPECIFIC", option.Specific) ∷ []

-- options that are read over, with any words: of water quality, and of how EPANET solves
abbrev pub unused_words : List (List ℕ)
unused_words =
    codes "VISCOSITY" ∷ codes "DIFFUSIVITY" ∷ codes "TRIALS" ∷ codes "ACCURACY" ∷ codes "UNBALANCED" ∷ []

abbrev pub more_unused_words : List (List ℕ)
more_unused_words =
    codes "TOLERANCE" ∷ codes "CHECKFREQ" ∷ codes "MAXCHECK" ∷ codes "DAMPLIMIT" ∷ codes "HEADERROR" ∷ []

abbrev pub last_unused_words : List (List ℕ)
last_unused_words = codes "FLOWCHANGE" ∷ codes "QUALITY" ∷ codes "HYDRAULICS" ∷ codes "MAP" ∷ []

abbrev pub unused_option : List ℕ → Option OptionWord
unused_option word =
    if is_one_of unused_words word then Some option.Unused
    else (if is_one_of more_unused_words word then Some option.Unused
    else (if is_one_of last_unused_words word then Some option.Unused else None))

-- the option that a line is about
unfoldable pub option_word : List ℕ → Option OptionWord
option_word word =
    either (first_named option_words word) (either (first_named more_option_words word) (unused_option word))

abbrev pub time_words : List (List ℕ × TimeWord)
time_words =
    (codes "DURATION", time.Duration) ∷ (codes "HYDRAULIC", time.Hydraulic) ∷ (codes "PATTERN", time.Pattern)
    ∷ (codes "REPORT", time.Report) ∷ []

abbrev pub more_time_words : List (List ℕ × TimeWord)
more_time_words =
    (codes "RULE", time.Rule) ∷ (codes "START", time.Start) ∷ (codes "QUALITY", time.Quality)
    ∷ (codes "STATISTIC", time.Statistic) ∷ []

-- the time that a line is about
unfoldable pub time_word : List ℕ → Option TimeWord
time_word word = either (first_named time_words word) (first_named more_time_words word)

-- ---- controls and rules

abbrev pub link_words : List (List ℕ × LinkWord)
link_words = (codes "LINK", link.Link) ∷ (codes "PIPE", link.Pipe) ∷ (codes "PUMP", link.Pump)
    ∷ (codes "VALVE", link.Valve) ∷ []

unfoldable pub link_word : List ℕ → Option LinkWord
link_word word = first_named link_words word

abbrev pub node_words : List (List ℕ × NodeWord)
node_words =
    (codes "NODE", node.Node) ∷ (codes "JUNCTION", node.Junction) ∷ (codes "TANK", node.Tank)
    ∷ (codes "RESERVOIR", node.Reservoir) ∷ []

unfoldable pub node_word : List ℕ → Option NodeWord
node_word word = first_named node_words word

-- a node, a link or the system
abbrev pub node_object : Option NodeWord → Option ObjectWord
node_object None = None
node_object (Some word) = Some (object.Node word)

abbrev pub link_object : Option LinkWord → Option ObjectWord
link_object None = None
link_object (Some word) = Some (object.Link word)

unfoldable pub object_word : List ℕ → Option ObjectWord
object_word word =
    if is_keyword (codes "SYSTEM") word then Some object.System
    else either (node_object (node_word word)) (link_object (link_word word))

abbrev pub attribute_words : List (List ℕ × Attribute)
attribute_words =
    (codes "HEAD", attribute.Head) ∷ (codes "PRESSURE", attribute.Pressure) ∷ (codes "LEVEL", attribute.Level)
    ∷ (codes "FLOW", attribute.Flow) ∷ []

abbrev pub more_attribute_words : List (List ℕ × Attribute)
more_attribute_words =
    (codes "SETTING", attribute.Setting) ∷ (codes "STATUS", attribute.Status) ∷ (codes "TIME", attribute.Time)
    ∷ (codes "CLOCKTIME", attribute.Clock) ∷ []

unfoldable pub attribute_word : List ℕ → Option Attribute
attribute_word word = either (first_named attribute_words word) (first_named more_attribute_words word)

-- less or more
abbrev pub order_words : List (List ℕ × Relation)
order_words =
    (codes "<", Less) ∷ (codes "<=", AtMost) ∷ (codes ">", More) ∷ (codes ">=", AtLeast) ∷ (codes "ABOVE", More)
    ∷ (codes "BELOW", Less) ∷ []

-- equal or not
abbrev pub equality_words : List (List ℕ × Relation)
equality_words = (codes "IS", Equal) ∷ (codes "=", Equal) ∷ (codes "NOT", Unequal) ∷ (codes "<>", Unequal) ∷ []

unfoldable pub relation_word : List ℕ → Option Relation
relation_word word = either (first_named order_words word) (first_named equality_words word)

abbrev pub rule_words : List (List ℕ × RuleWord)
rule_words = (codes "RULE", rule.Rule) ∷ (codes "IF", rule.If) ∷ (codes "AND", rule.And) ∷ (codes "OR", rule.Or) ∷ []

abbrev pub more_rule_words : List (List ℕ × RuleWord)
more_rule_words = (codes "THEN", rule.Then) ∷ (codes "ELSE", rule.Else) ∷ (codes "PRIORITY", rule.Priority) ∷ []

unfoldable pub rule_word : List ℕ → Option RuleWord
rule_word word = either (first_named rule_words word) (first_named more_rule_words word)
