-- What clap finds in words gives the command that they are.
use Rattle.std.proofs.Common.{◌≡◌, ◌∙◌, ◌+◌, ◌||◌, Bool, true, false, cond, List, [], ◌∷◌, map, fold, Option, Some}
use Rattle.std.proofs.Common.{None, arith, refl, sym, ap, subst, String, string_bytes, MatchOption, ◌≢◌, true≢false}
use Rattle.std.specs.List.{list_all}
use Rattle.std.proofs.lemmas.Str.{IsUtf8-string_bytes}
use Rattle.clap.specs.Kinds.{Kinds, or_else}
use Rattle.clap.specs.Faults.{defaults_fault, fault_of, given_default_fault, is_simple_and_free, settle_fault}
use Rattle.clap.specs.Faults.{walk_fault}
use Rattle.clap.specs.Simple.{App, HasMatchesOf, built, matches_of}
use Rattle.clap.proofs.FaultLemmas.{leaf_fault}
use Rattle.clap.proofs.SimpleLemmas.{is_nil}
use Rattle.clap.proofs.WalkLemmas.{both}
use Rattle.clap.specs.Matches.{found_of}
use Rattle.clap.specs.declared.parser.matches.ArgMatches.{ArgMatches}
use Rattle.hyd_command_words.specs.ClapParser.{words_command, said_of, has_dash_behind_flows}
use Rattle.clap.specs.Walk.{Row, Rule, Walk, default_rows, has_row, idle, is_empty, reading_by, rows_of, with_default}
use Rattle.hyd_command_words.specs.OptionsAndNames.{Word, Said, said}
use Rattle.hyd_command_words.specs.CommandGrammar.{Order, order_of, order_named}
use Rattle.hyd_lemmas.proofs.BooleanTests.{or-true}
use Rattle.hyd_command_words.proofs.SaidLemmas.{joined}
use Rattle.hyd_command_words.proofs.MatchRowLemmas.{rules}
use Rattle.hyd_command_words.proofs.WalkSteps.{shape, held, at}
use Rattle.hyd_command_words.proofs.WalkEnds.{end_of, fault_from, order_if, rows_at_end, wrong_is_none}
use Rattle.hyd_command_words.proofs.DashBehindFlows.{dash_is_wrong}
use Rattle.hyd_command_words.proofs.WalkGivesCommands.{AreTexts, simulated}

-- ---- clap's faults and matches at these words

-- what the command of clap finds is what it should
pub found_is : (a : App) (words : List Word) (m : ArgMatches) → a ≡ words_command → HasMatchesOf a words m
    → (is_simple_and_free a ≡ true → fault_of a words ≡ [])
    → (fault_of words_command words ≡ []) × (rows_of (found_of m) ≡ matches_of words_command words)
found_is a words m is matches kinds =
    let faultless : is_simple_and_free words_command ≡ true → fault_of words_command words ≡ [] =
    subst (λ (b : App). is_simple_and_free b ≡ true → fault_of b words ≡ []) is kinds in
    let found : HasMatchesOf words_command words m = subst (λ (b : App). HasMatchesOf b words m) is matches in
    (faultless refl, (found refl).0)

same_both : {X : Type 0} (b : Bool) (x : X) → cond b x x ≡ x
same_both true x = refl
same_both false x = refl

or_nothing : (f : Kinds) → or_else f [] ≡ f
or_nothing [] = refl
or_nothing (k ∷ ks) = refl

no_defaults_fault : (rows : List Row) (rs : List Rule) → list_all (λ a. is_empty a.defaults) rs ≡ true
    → defaults_fault rows rs ≡ []
unfolding defaults_fault
no_defaults_fault rows [] e = refl
no_defaults_fault rows (a ∷ rest) e =
    let parts = both (is_empty a.defaults) (list_all (λ r. is_empty r.defaults) rest) e in
    (λ i. or_else (cond (has_row a.id rows || parts.0 i) [] (given_default_fault a a.defaults))
    (defaults_fault (with_default rows a) rest))
    ∙ (λ i. or_else (cond (or-true (has_row a.id rows) i) [] (given_default_fault a a.defaults))
    (defaults_fault (with_default rows a) rest))
    ∙ no_defaults_fault (with_default rows a) rest parts.1

no_defaults : (rows : List Row) (rs : List Rule) → list_all (λ a. is_empty a.defaults) rs ≡ true
    → fold with_default rows rs ≡ rows
no_defaults rows [] e = refl
no_defaults rows (a ∷ rest) e =
    let parts = both (is_empty a.defaults) (list_all (λ r. is_empty r.defaults) rest) e in
    let none : a.defaults ≡ [] = is_nil a.defaults parts.0 in
    let here : with_default rows a ≡ rows =
    (λ i. cond (has_row a.id rows) rows (default_rows a.id (reading_by a) (none i) rows))
    ∙ same_both (has_row a.id rows) rows in
    ap (λ (rs : List Row). fold with_default rs rest) here ∙ no_defaults rows rest parts.1

abbrev start : Walk
start = at false [] None idle

faults_are : (words : List Word) → fault_of words_command words ≡ fault_from start words
faults_are words =
    leaf_fault (built words_command) (held [] None) words refl
    ∙ (λ i. or_else (walk_fault shape [] start words) (or_else (settle_fault rules false (end_of start words))
    (or_else (no_defaults_fault (rows_at_end start words) rules refl i) [])))
    ∙ ap (or_else (walk_fault shape [] start words)) (or_nothing (settle_fault rules false (end_of start words)))

matches_are : (words : List Word) → matches_of words_command words ≡ rows_at_end start words
matches_are words = no_defaults (rows_at_end start words) rules refl

nothing_first : (s : Said) → joined (said_of []) s ≡ s
nothing_first s =
    let count : 0 + s.tight_count ≡ s.tight_count = omega arith in
    λ i. record s { tight_count = count i }

-- where clap takes the words, its matches give the command, and where it doesn't they aren't one
pub clap_orders : (words : List Word) → AreTexts words → has_dash_behind_flows false words ≡ false → (named : Word)
    → order_if (fault_of words_command words) (order_named named (said_of (matches_of words_command words)))
    ≡ order_named named (said words)
clap_orders words u dashless named =
    (λ i. order_if (faults_are words i) (order_named named (said_of (matches_are words i))))
    ∙ (simulated words u).0 dashless [] None idle (λ w h. refl) refl named
    ∙ ap (order_named named) (nothing_first (said words))

pub texts_of : {Z : Type 0} (words : List (String Z)) → AreTexts (map string_bytes words)
texts_of [] = tt
texts_of (word ∷ rest) = (IsUtf8-string_bytes word, texts_of rest)

-- no fault: the matches give the command
pub taken_orders : {Z : Type 0} (words : List (String Z)) (rows : List Row) (named : Word)
    → has_dash_behind_flows false (map string_bytes words) ≡ false
    → fault_of words_command (map string_bytes words) ≡ [] → rows ≡ matches_of words_command (map string_bytes words)
    → order_named named (said_of rows) ≡ order_named named (said (map string_bytes words))
taken_orders words rows named dashless none is =
    ap (λ (rs : List Row). order_named named (said_of rs)) is
    ∙ (λ i. order_if (sym none i) (order_named named (said_of (matches_of words_command (map string_bytes words)))))
    ∙ clap_orders (map string_bytes words) (texts_of words) dashless named

none_if_some : (f : Kinds) (order : Option Order) → (f ≡ [] → ⊥) → None ≡ order_if f order
none_if_some [] order h = absurd (h refl)
none_if_some (k ∷ ks) order h = refl

-- a fault: they are no command
pub refused_orders : {Z : Type 0} (words : List (String Z)) (named : Word)
    → has_dash_behind_flows false (map string_bytes words) ≡ false
    → (fault_of words_command (map string_bytes words) ≡ [] → ⊥)
    → None ≡ order_named named (said (map string_bytes words))
refused_orders words named dashless some =
    none_if_some _ _ some ∙ clap_orders (map string_bytes words) (texts_of words) dashless named

-- what clap finds, as the parser hands it out
abbrev pub IsFound : {Z : Type 0} → List (String Z) → Option ArgMatches → Type 0
IsFound words found = MatchOption found (fault_of words_command (map string_bytes words) ≢ [])
    (λ m. (fault_of words_command (map string_bytes words) ≡ [])
    × (rows_of (found_of m) ≡ matches_of words_command (map string_bytes words)))

pub none_found : {Z : Type 0} (all words : List (String Z)) (first : String Z) (found : Option ArgMatches)
    → all ≡ first ∷ words → has_dash_behind_flows false (map string_bytes words) ≡ false → IsFound words found
    → found ≡ None → None ≡ order_of (map string_bytes all)
none_found {Z = Z} all words first found parted dashless is none =
    refused_orders words (string_bytes first) dashless (subst (IsFound words) none is)
    ∙ ap (λ (ws : List (String Z)). order_of (map string_bytes ws)) (sym parted)

pub some_found : {Z : Type 0} (all words : List (String Z)) (first : String Z) (found : Option ArgMatches)
    (m : ArgMatches)
    → all ≡ first ∷ words → has_dash_behind_flows false (map string_bytes words) ≡ false → IsFound words found
    → found ≡ Some m
    → order_named (string_bytes first) (said_of (rows_of (found_of m))) ≡ order_of (map string_bytes all)
some_found {Z = Z} all words first found m parted dashless is some =
    let facts : IsFound words (Some m) = subst (IsFound words) some is in
    taken_orders words (rows_of (found_of m)) (string_bytes first) dashless facts.0 facts.1
    ∙ ap (λ (ws : List (String Z)). order_of (map string_bytes ws)) (sym parted)

-- `-` right behind `--flows`: they are no command
pub dash_found : {Z : Type 0} (all words : List (String Z)) (first : String Z) → all ≡ first ∷ words
    → has_dash_behind_flows false (map string_bytes words) ≡ true → None ≡ order_of (map string_bytes all)
dash_found {Z = Z} all words first parted dash =
    sym (wrong_is_none (said (map string_bytes words)) (dash_is_wrong (map string_bytes words) None false
    (λ e n. true≢false (sym e)) dash) (string_bytes first))
    ∙ ap (λ (ws : List (String Z)). order_of (map string_bytes ws)) (sym parted)
