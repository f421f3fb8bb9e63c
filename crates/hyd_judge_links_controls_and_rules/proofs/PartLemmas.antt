-- Clauses and actions of rules.
use Rattle.std.proofs.Common.{◌≡◌, ℕ, List, [], ◌∷◌, Option, Some, None, refl, codes, inl, inr}
use Rattle.std.proofs.lemmas.Bool.{cases_Bool}
use Rattle.hyd_spec_lines.specs.Headings.{is_one_of}
use Rattle.hyd_spec_lines.specs.Lines.{Row}
use Rattle.hyd_net.specs.declared.refusal_cause.Cause.{Cause}
use Rattle.hyd_net.specs.declared.refusal_cause.Cause.TheVariants.{Syntax}
use Rattle.hyd_spec_input.specs.CapacitiesOutOfRange.{IsRefusedSetting}
use Rattle.hyd_spec_input.specs.Columns.{id, one_of, meant, number, asked, needed, ends, word, status_words}
use Rattle.hyd_spec_input.specs.Keywords.{link_word, attribute_word}
use Rattle.hyd_spec_input.specs.RuleRows as form
use Rattle.hyd_spec_input.specs.RuleRows.{set_attribute, set_value}
use Rattle.hyd_spec_input.specs.SectionsAndTables.{link_named}
use Rattle.hyd_spec_input.specs.FaultsWithOtherRows as others
use Rattle.hyd_spec_input.specs.declared.Attribute.{Attribute}
use Rattle.hyd_spec_input.specs.declared.Attribute.TheVariants.{Head, Pressure, Level, Flow, Setting, Status, Time}
use Rattle.hyd_spec_input.specs.declared.Attribute.TheVariants.{Clock}
use Rattle.hyd_spec_input.specs.declared.LinkWord.{LinkWord}
use Rattle.hyd_theorems_on_input.proofs.RowsWithoutFault.{all_none, needed_none, unless_none}
use Rattle.hyd_rows_and_tables.specs.WrongInSection.{IsFaultThen}
use Rattle.hyd_judge_links_controls_and_rules.proofs.CommandLemmas.{command_unknown, command_known}

-- ---- the state of an action

status_asked : (w : List ℕ) → one_of status_words w ≡ None → asked w ≡ None
status_asked w e = rw (unless_none (is_one_of status_words w) Syntax e) refl

number_asked : (w : List ℕ) → number w ≡ None → asked w ≡ None
number_asked w e = elim (cases_Bool (is_one_of status_words w)) [
  | inl t ↦ rw t refl
  | inr f ↦ rw f e
]

set_asked : (attribute : Option Attribute) (w : List ℕ) → set_value attribute w ≡ None → asked w ≡ None
set_asked (Some Setting) w e = number_asked w e
set_asked (Some Head) w e = status_asked w e
set_asked (Some Pressure) w e = status_asked w e
set_asked (Some Level) w e = status_asked w e
set_asked (Some Flow) w e = status_asked w e
set_asked (Some Status) w e = status_asked w e
set_asked (Some Time) w e = status_asked w e
set_asked (Some Clock) w e = status_asked w e
set_asked None w e = status_asked w e

-- the sixth word of an action asks for a state
pub action_asks : (words : List (List ℕ)) → form.action words ≡ None → needed asked 5 words ≡ None
action_asks words e =
    let each = all_none (needed (meant link_word) 1 words ∷ needed id 2 words ∷ needed (set_attribute words) 3 words
    ∷ needed (one_of (codes "IS" ∷ codes "=" ∷ [])) 4 words
    ∷ needed (set_value (attribute_word (word 3 words))) 5 words ∷ ends 6 words ∷ []) e in
    let there = needed_none (set_value (attribute_word (word 3 words))) 5 words each.1.1.1.1.0 in
    rw there.is (set_asked (attribute_word (word 3 words)) (word 5 words) there.right)

-- ---- an action among all rows

pub action_unknown : (rows : List Row) (words : List (List ℕ)) (kind : LinkWord) (name : List ℕ) (cause : Cause)
    → link_word (word 1 words) ≡ Some kind → name ≡ word 2 words
    → others.link_by_word rows (Some kind) name ≡ Some cause
    → IsFaultThen (others.action rows words) (IsRefusedSetting rows (link_named rows (word 2 words)) (word 5 words))
    (Some cause)
action_unknown rows words kind name cause k n unknown =
    let at : others.link_by_word rows (link_word (word 1 words)) (word 2 words) ≡ Some cause = rw (k, ← n) unknown in
    command_unknown rows (link_word (word 1 words)) (word 2 words) (word 5 words) cause at

pub action_known : (rows : List Row) (words : List (List ℕ)) (kind : LinkWord) (name : List ℕ) (link : Row)
    (cause : Option Cause) → link_word (word 1 words) ≡ Some kind → name ≡ word 2 words
    → others.link_by_word rows (Some kind) name ≡ None → link_named rows name ≡ Some link
    → IsFaultThen (others.set_link rows (Some link) (word 5 words) None)
    (IsRefusedSetting rows (Some link) (word 5 words)) cause
    → IsFaultThen (others.action rows words) (IsRefusedSetting rows (link_named rows (word 2 words)) (word 5 words))
    cause
action_known rows words kind name link cause k n known named then =
    let at : others.link_by_word rows (link_word (word 1 words)) (word 2 words) ≡ None = rw (k, ← n) known in
    let here : link_named rows (word 2 words) ≡ Some link = rw (← n) named in
    command_known rows (link_word (word 1 words)) (word 2 words) (word 5 words) link cause at here then
