-- One step of clap's walk over the words.
use Rattle.std.proofs.Common.{◌≡◌, ◌∙◌, Bool, true, false, cond, List, [], ◌∷◌, length, Option, Some, None, refl, sym}
use Rattle.std.proofs.Common.{ap, subst, codes, bytes_eq}
use Rattle.std.specs.Option.{option_map_or}
use Rattle.clap.specs.Kinds.{Kinds, or_else}
use Rattle.clap.specs.Faults.{bundle_fault, bundle_step_fault, flag_word_fault, flags_fault, long_fault, other_fault}
use Rattle.clap.specs.Faults.{settle_fault, step_fault, turn_fault, word_fault}
use Rattle.clap.specs.Simple.{Shape, built}
use Rattle.clap.specs.Walk.{Held, Row, Step, Text, Waiting, Walk, after_flag, after_step, arg_by_long, idle, long_met}
use Rattle.clap.specs.Walk.{long_or_other, option, plain_word, positional, short_or_plain, subcommand_met}
use Rattle.clap.specs.Walk.{subcommand_or_other, settled_rows, trailing, value, walked, word_met}
use Rattle.clap.specs.declared.error.kind.ErrorKind.TheVariants.{UnknownArgument}
use Rattle.hyd_command_words.specs.OptionsAndNames.{Word}
use Rattle.hyd_command_words.specs.ClapParser.{words_command}
use Rattle.hyd_lemmas.proofs.BooleanTests.{and-false}
use Rattle.hyd_command_words.proofs.MatchRowLemmas.{rules}
use Rattle.hyd_command_words.proofs.KindsOfWords.{IsPlain, IsShort, IsLong}

abbrev pub shape : Shape
shape = (built words_command).top

abbrev pub Pending : Type 0
Pending = Option (Text × List Text)

abbrev pub held : List Row → Pending → Held
held rows p = record { rows = rows; pending = p; skip = 0 }

abbrev pub at : Bool → List Row → Pending → Waiting → Walk
at is_trailing rows p waiting =
    record { held = held rows p; waiting = waiting; position = 1; is_trailing = is_trailing; stopped = None }

-- a word that is no flag, where no option waits, is for the names
abbrev pub IsFree : Waiting → Type 0
IsFree waiting = (word : Text) (h : Held) → plain_word rules waiting word h ≡ (h, value)

-- what is held has its value
abbrev pub IsWhole : List Row → Pending → Type 0
IsWhole rows p = settle_fault rules false (held rows p) ≡ []

abbrev pub IsFault : Kinds → Type 0
IsFault [] = ⊥
IsFault (k ∷ ks) = Unit {0}

abbrev pub turn : Walk → Word → Kinds
turn w word = turn_fault shape [] w word

abbrev pub step : Walk → Word → Walk
step w word = walked rules [] w word

pub first_faults : (f g : Kinds) → IsFault f → IsFault (or_else f g)
first_faults [] g h = absurd h
first_faults (k ∷ ks) g h = tt

no_subcommand : (waiting : Waiting) (word : Text) → subcommand_met [] waiting word ≡ None
no_subcommand idle word = refl
no_subcommand (option id) word = refl
no_subcommand positional word = refl

abbrev pub name_held : Text → Pending
name_held word = Some (codes "names", word ∷ [])

-- ---- a word for the names

pub name_step : (is_trailing : Bool) (rows : List Row) (p : Pending) (waiting : Waiting) (word : Word)
    → after_step rules word (at is_trailing rows p waiting) (held rows p) value
    ≡ at is_trailing (settled_rows rules p rows) (name_held word) positional
name_step true rows None waiting word = refl
name_step false rows None waiting word = refl
name_step true rows (Some q) waiting word = rw (and-false (bytes_eq q.0 (codes "names"))) refl
name_step false rows (Some q) waiting word = rw (and-false (bytes_eq q.0 (codes "names"))) refl

pub name_fault : (rows : List Row) (p : Pending)
    → step_fault shape 1 (held rows p) value ≡ settle_fault rules false (held rows p)
name_fault rows None = refl
name_fault rows (Some q) = rw (and-false (bytes_eq q.0 (codes "names"))) refl

pub trailing_turn : (rows : List Row) (p : Pending) (waiting : Waiting) (word : Word)
    → turn (at true rows p waiting) word ≡ settle_fault rules false (held rows p)
trailing_turn rows p waiting word = name_fault rows p

pub trailing_step : (rows : List Row) (p : Pending) (waiting : Waiting) (word : Word)
    → step (at true rows p waiting) word ≡ at true (settled_rows rules p rows) (name_held word) positional
unfolding walked
trailing_step rows p waiting word = name_step true rows p waiting word

-- ---- before `--`

module _ (rows : List Row) (p : Pending) (waiting : Waiting) (word : Word) where
  abbrev here : Held
  here = held rows p

  pub turn_from : (after : Held) (s : Step) → word_fault shape [] false waiting word here ≡ []
      → word_met rules [] false waiting 1 word here ≡ (after, s)
      → turn (at false rows p waiting) word ≡ step_fault shape 1 after s
  turn_from after s passed met = λ i. or_else (passed i) (step_fault shape 1 (met i).0 (met i).1)

  pub step_from : (after : Held) (s : Step) → word_met rules [] false waiting 1 word here ≡ (after, s)
      → step (at false rows p waiting) word ≡ after_step rules word (at false rows p waiting) after s
  unfolding walked
  step_from after s met = ap (λ (m : Held × Step). after_step rules word (at false rows p waiting) m.0 m.1) met

  pub word_fails : IsFault (word_fault shape [] false waiting word here) → IsFault (turn (at false rows p waiting) word)
  word_fails h = first_faults _ _ h

  met_other : word_met rules [] false waiting 1 word here ≡ subcommand_or_other rules None waiting 1 word here
  met_other = ap (λ (o : Option Text). subcommand_or_other rules o waiting 1 word here) (no_subcommand waiting word)

  fault_other : word_fault shape [] false waiting word here ≡ other_fault shape None word here
  fault_other = ap (λ (o : Option Text). other_fault shape o word here) (no_subcommand waiting word)

  pub plain_met : IsPlain word → word_met rules [] false waiting 1 word here ≡ plain_word rules waiting word here
  plain_met k = met_other
      ∙ (λ i. cond (k.0 i) (here, trailing 1) (long_or_other rules waiting word (k.1 i) here))
      ∙ (λ i. short_or_plain rules waiting word (k.2 i) here)

  pub plain_fault : IsPlain word → word_fault shape [] false waiting word here ≡ []
  plain_fault k = fault_other ∙ (λ i. cond (k.0 i) [] (flag_word_fault rules false (k.1 i) word here))
      ∙ (λ i. option_map_or (λ flags. bundle_fault rules false flags here) (k.2 i) [])

  pub short_fails : IsShort word → IsFault (turn (at false rows p waiting) word)
  unfolding flags_fault
  short_fails k =
      let s = k.3 in
      let is : word_fault shape [] false waiting word here ≡ UnknownArgument ∷ [] =
      fault_other ∙ (λ i. cond (s.0 i) [] (flag_word_fault rules false (s.1 i) word here))
      ∙ (λ i. option_map_or (λ flags. bundle_fault rules false flags here) (s.2 i) [])
      ∙ (λ i. bundle_step_fault rules false (s.3 i) (k.0 ∷ k.1) 0 here (flags_fault rules false (length k.1))) in
      word_fails (subst IsFault (sym is) tt)

  pub long_fault_is : (k : IsLong word)
      → word_fault shape [] false waiting word here ≡ long_fault rules false (arg_by_long rules k.0) k.1 here
  long_fault_is k = fault_other ∙ (λ i. cond (k.2.0 i) [] (flag_word_fault rules false (k.2.1 i) word here))

  pub long_met_is : (k : IsLong word) → word_met rules [] false waiting 1 word here
      ≡ after_flag rules waiting word (long_met rules (arg_by_long rules k.0) k.1 here).0
      (long_met rules (arg_by_long rules k.0) k.1 here).1
  long_met_is k = met_other ∙ (λ i. cond (k.2.0 i) (here, trailing 1) (long_or_other rules waiting word (k.2.1 i) here))

pub closing_turn : (rows : List Row) (p : Pending) (waiting : Waiting)
    → turn (at false rows p waiting) (codes "--") ≡ []
closing_turn rows p waiting = turn_from rows p waiting (codes "--") (held rows p) (trailing 1)
    (ap (λ (o : Option Text). other_fault shape o (codes "--") (held rows p)) (no_subcommand waiting (codes "--")))
    (ap (λ (o : Option Text). subcommand_or_other rules o waiting 1 (codes "--") (held rows p))
    (no_subcommand waiting (codes "--")))

pub closing_step : (rows : List Row) (p : Pending) (waiting : Waiting)
    → step (at false rows p waiting) (codes "--") ≡ at true rows p waiting
closing_step rows p waiting = step_from rows p waiting (codes "--") (held rows p) (trailing 1)
    (ap (λ (o : Option Text). subcommand_or_other rules o waiting 1 (codes "--") (held rows p))
    (no_subcommand waiting (codes "--")))
