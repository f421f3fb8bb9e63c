-- The lines of rules: their order, and each judged by itself.
-- Source: EPANET 2.2 User Manual, appendix C ([RULES]).
use Rattle.std.specs.Prelude.{ℕ, ◌+◌, Bool, true, false, ◌||◌, not, List, [], ◌∷◌, fold, codes, Option, Some, None}
use Rattle.std.specs.Prelude.{if◌then◌else◌}
use Rattle.hyd_spec_lines.specs.Headings.{is_one_of}
use Rattle.hyd_spec_input.specs.Columns.{Column, id, one_of, meant, number, or_else, first, unless, needed, ends, word}
use Rattle.hyd_spec_input.specs.Keywords.{object_word, attribute_word, relation_word, link_word, rule_word}
use Rattle.hyd_spec_input.specs.TimesAndClockTimes.{time, clock}
use Rattle.hyd_spec_input.specs.declared.RuleWord.{RuleWord}
use Rattle.hyd_spec_input.specs.declared.RuleWord.TheVariants.{Rule, If, And, Or, Then, Else, Priority}
use Rattle.hyd_spec_input.specs.declared.ObjectWord.{ObjectWord}
use Rattle.hyd_spec_input.specs.declared.ObjectWord.TheVariants.{System, Node as NodeObject, Link as LinkObject}
use Rattle.hyd_spec_input.specs.declared.NodeWord.TheVariants.{Node, Junction, Tank}
use Rattle.hyd_spec_input.specs.declared.LinkWord.{LinkWord}
use Rattle.hyd_spec_input.specs.declared.LinkWord.TheVariants.{Pump, Valve}
use Rattle.hyd_spec_input.specs.declared.Attribute.{Attribute}
use Rattle.hyd_spec_input.specs.declared.Attribute.TheVariants.{Head, Pressure, Level, Flow, Setting, Status, Time}
use Rattle.hyd_spec_input.specs.declared.Attribute.TheVariants.{Clock}
use Rattle.hyd_spec_input.specs.declared.Stage.{Stage}
use Rattle.hyd_spec_input.specs.declared.Stage.TheVariants.{Outside, Named, Asking, Acting, Otherwise, Closed}
use Rattle.hyd_net.specs.declared.rules.Relation.{Relation}
use Rattle.hyd_net.specs.declared.rules.Relation.TheVariants.{Equal, Unequal}
use Rattle.hyd_net.specs.declared.refusal_cause.Cause.{Cause}
use Rattle.hyd_net.specs.declared.refusal_cause.Cause.TheVariants.{Syntax, Unsupported}

-- ---- the order of a rule's lines

-- the first words that may follow
abbrev pub may_follow : Stage → RuleWord → Bool
may_follow stage Rule = true
may_follow Named If = true
may_follow Asking And = true
may_follow Asking Or = true
may_follow Asking Then = true
may_follow Acting And = true
may_follow Acting Else = true
may_follow Acting Priority = true
may_follow Otherwise And = true
may_follow Otherwise Priority = true
may_follow stage first = false

-- the stage after a line
abbrev pub stage_by : Stage → Option RuleWord → Stage
stage_by stage (Some Rule) = Named
stage_by stage (Some If) = Asking
stage_by stage (Some Then) = Acting
stage_by stage (Some Else) = Otherwise
stage_by stage (Some Priority) = Closed
stage_by stage _ = stage

-- what a line's first word is
abbrev pub begins_with : List (List ℕ) → Option RuleWord
begins_with words = rule_word (word 0 words)

-- the stage after lines
abbrev pub stage_after : List (List (List ℕ)) → Stage
stage_after lines = fold (λ stage words. stage_by stage (begins_with words)) Outside lines

-- an AND line holds an action
abbrev pub is_acting : Stage → Bool
is_acting Acting = true
is_acting Otherwise = true
is_acting _ = false

-- ---- clauses

-- which objects have an attribute
abbrev pub can_have : ObjectWord → Attribute → Bool
can_have (NodeObject word) Head = true
can_have (NodeObject Node) Pressure = true
can_have (NodeObject Junction) Pressure = true
can_have (NodeObject Tank) Pressure = true
can_have (NodeObject Tank) Level = true
can_have (LinkObject word) Flow = true
can_have (LinkObject word) Status = true
can_have (LinkObject Pump) Setting = true
can_have (LinkObject Valve) Setting = true
can_have System Time = true
can_have System Clock = true
can_have object attribute = false

abbrev pub unsupported_attributes : List (List ℕ)
unsupported_attributes = codes "DEMAND" ∷ codes "FILLTIME" ∷ codes "DRAINTIME" ∷ []

-- an attribute that its object can have; some that EPANET has aren't supported, whatever the object
abbrev pub attribute_of : ObjectWord → Option Attribute → List ℕ → Option Cause
attribute_of object (Some attribute) word = unless (can_have object attribute) Syntax
attribute_of object None word = if is_one_of unsupported_attributes word then Some (Unsupported 10) else Some Syntax

abbrev pub attribute : ObjectWord → Column
attribute object word = attribute_of object (attribute_word word) word

abbrev pub is_equality : Relation → Bool
is_equality Equal = true
is_equality Unequal = true
is_equality _ = false

-- a status is equal or not, a time compares in all ways, all else is less or more
abbrev pub relates : Option Attribute → Relation → Option Cause
relates (Some Status) relation = unless (is_equality relation) Syntax
relates (Some Time) relation = None
relates (Some Clock) relation = None
relates _ relation = unless (not (is_equality relation)) (Unsupported 10)

abbrev pub relation_of : Option Attribute → Option Relation → Option Cause
relation_of attribute None = Some Syntax
relation_of attribute (Some relation) = relates attribute relation

abbrev pub relation : Option Attribute → Column
relation attribute word = relation_of attribute (relation_word word)

-- the value behind a relation, from a word on to the end
abbrev pub value : Option Attribute → ℕ → List (List ℕ) → Option Cause
value (Some Time) k words = time 0 k words
value (Some Clock) k words = clock k words
value (Some Status) k words =
    first (needed (one_of (codes "OPEN" ∷ codes "CLOSED" ∷ codes "ACTIVE" ∷ [])) k words ∷ ends (k + 1) words ∷ [])
value _ k words = first (needed number k words ∷ ends (k + 1) words ∷ [])

-- the word of a clause's attribute: the system has no ID before it
abbrev pub attribute_place : ObjectWord → ℕ
attribute_place System = 2
attribute_place object = 3

-- attribute, relation and value, from a word on
abbrev pub comparison : ObjectWord → ℕ → List (List ℕ) → Option Cause
comparison object k words =
    first (needed (attribute object) k words ∷ needed (relation (attribute_word (word k words))) (k + 1) words
    ∷ value (attribute_word (word k words)) (k + 2) words ∷ [])

abbrev pub clause_about : Option ObjectWord → List (List ℕ) → Option Cause
clause_about None words = Some Syntax
clause_about (Some System) words = comparison System 2 words
clause_about (Some object) words = or_else (needed id 2 words) (comparison object 3 words)

-- IF, AND or OR; an object, its ID unless it is SYSTEM, and a comparison
abbrev pub clause : List (List ℕ) → Option Cause
clause words = clause_about (object_word (word 1 words)) words

-- ---- actions

-- a number is the setting of a pump or a valve
abbrev pub has_setting : Option LinkWord → Bool
has_setting (Some Pump) = true
has_setting (Some Valve) = true
has_setting _ = false

-- STATUS or SETTING, as the object has it
abbrev pub action_attribute : Option LinkWord → Option Attribute → Option Cause
action_attribute object (Some Status) = None
action_attribute object (Some Setting) = unless (has_setting object) Syntax
action_attribute object _ = Some Syntax

abbrev pub set_attribute : List (List ℕ) → Column
set_attribute words name = action_attribute (link_word (word 1 words)) (attribute_word name)

-- OPEN or CLOSED, or a number
abbrev pub set_value : Option Attribute → Column
set_value (Some Setting) = number
set_value _ = one_of (codes "OPEN" ∷ codes "CLOSED" ∷ [])

-- THEN, ELSE or AND; a link, its ID, STATUS or SETTING, IS, and a value
abbrev pub action : List (List ℕ) → Option Cause
action words =
    first (needed (meant link_word) 1 words ∷ needed id 2 words ∷ needed (set_attribute words) 3 words
    ∷ needed (one_of (codes "IS" ∷ codes "=" ∷ [])) 4 words ∷ needed (set_value (attribute_word (word 3 words))) 5 words
    ∷ ends 6 words ∷ [])

-- ---- lines

-- the words of a line by its first word, where an AND line holds an action or not
abbrev pub words_about : Option RuleWord → Bool → List (List ℕ) → Option Cause
words_about None acting words = Some Syntax
words_about (Some Rule) acting words = first (needed id 1 words ∷ ends 2 words ∷ [])
words_about (Some Priority) acting words = first (needed number 1 words ∷ ends 2 words ∷ [])
words_about (Some Then) acting words = action words
words_about (Some Else) acting words = action words
words_about (Some And) acting words = if acting then action words else clause words
words_about (Some If) acting words = clause words
words_about (Some Or) acting words = clause words

-- the words of a line, whatever stands before it
abbrev pub words_of_rule_line : Bool → List (List ℕ) → Option Cause
words_of_rule_line acting words = words_about (begins_with words) acting words

-- the first word may follow
abbrev pub in_order : Stage → Option RuleWord → Option Cause
in_order stage None = Some Syntax
in_order stage (Some first) = unless (may_follow stage first) Syntax

abbrev pub is_rule : Option RuleWord → Bool
is_rule (Some Rule) = true
is_rule _ = false

abbrev pub is_then : Option RuleWord → Bool
is_then (Some Then) = true
is_then _ = false

-- lines up to the next rule
abbrev pub until_rule : List (List (List ℕ)) → List (List (List ℕ))
until_rule [] = []
until_rule (words ∷ lines) = if is_rule (begins_with words) then [] else words ∷ until_rule lines

-- a line begins with THEN
abbrev pub some_then : List (List (List ℕ)) → Bool
some_then [] = false
some_then (words ∷ lines) = is_then (begins_with words) || some_then lines

-- a rule that ends before its THEN is wrong at its RULE line
abbrev pub gets_then : List (List ℕ) → List (List (List ℕ)) → Bool
gets_then words later = if is_rule (begins_with words) then some_then (until_rule later) else true

-- a line of a rule by itself, between the earlier and the later lines of rules: the order of lines is seen at its
-- first word
abbrev pub rule_line : List (List (List ℕ)) → List (List ℕ) → List (List (List ℕ)) → Option Cause
rule_line earlier words later =
    first (in_order (stage_after earlier) (begins_with words) ∷ words_of_rule_line (is_acting (stage_after earlier))
    words
    ∷ unless (gets_then words later) Syntax ∷ [])
