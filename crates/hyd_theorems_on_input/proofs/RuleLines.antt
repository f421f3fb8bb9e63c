-- The lines of rules in a file without a fault, each at the stage at which it stands.
use Rattle.std.proofs.Common.{◌≡◌, ℕ, ◌+◌, ◌≤◌, zero, suc, Bool, true, false, List, [], ◌∷◌, ◌++◌, map, length, take}
use Rattle.std.proofs.Common.{drop, Option, Some, None, refl, sym, ap, ◌∙◌, subst, inl, inr, true≢false, append_assoc}
use Rattle.std.specs.Prelude.{slice_get, filter, All, ⊤, if◌then◌else◌}
use Rattle.std.specs.List.{AllByRecursion}
use Rattle.std.proofs.lemmas.Bool.{cases_Bool}
use Rattle.std.proofs.lemmas.List.{take_at, take-map}
use Rattle.std.proofs.lemmas.List.Sums.{fold-append}
use Rattle.hyd_spec_lines.specs.Lines.{Row}
use Rattle.hyd_spec_lines.specs.declared.section.Section.TheVariants.{Rules as RulesSection}
use Rattle.hyd_net.specs.declared.refusal_cause.Cause.TheVariants.{Syntax}
use Rattle.hyd_spec_input.specs.Columns.{first, unless, needed, ends, id}
use Rattle.hyd_spec_input.specs.declared.RuleWord.{RuleWord}
use Rattle.hyd_spec_input.specs.declared.RuleWord.TheVariants.{Rule, If, And, Or, Then, Else, Priority}
use Rattle.hyd_spec_input.specs.declared.Stage.{Stage}
use Rattle.hyd_spec_input.specs.declared.Stage.TheVariants.{Outside, Named, Asking, Acting, Otherwise, Closed}
use Rattle.hyd_spec_input.specs.RuleRows as alone
use Rattle.hyd_spec_input.specs.RuleRows.{stage_by, begins_with, stage_after, is_acting, words_of_rule_line}
use Rattle.hyd_spec_input.specs.RuleRows.{words_about}
use Rattle.hyd_spec_input.specs.RuleRows.{in_order, is_rule, until_rule, gets_then}
use Rattle.hyd_spec_input.specs.SectionsAndTables.{is_of, rows_of, words_of, words_of_row}
use Rattle.hyd_spec_input.specs.MeaningsAcrossRows.{rule_groups, lines_at, is_asking, is_doing, is_otherwise}
use Rattle.hyd_spec_input.specs.FaultsWithOtherRows as others
use Rattle.hyd_spec_input.specs.FaultsWithOtherRows.{passes, is_part_word, is_action_word}
use Rattle.hyd_theorems_on_input.proofs.ListsByPlace.{source}
use Rattle.hyd_theorems_on_input.proofs.RowsWithoutFault.{AreRight, right_alone, right_among, all_none}

-- ---- one line

-- what no fault says of a line that stands at a stage
pub record LineRight (rows : List Row) (stage : Stage) (words : List (List ℕ)) : Type 0 where
  pub order : in_order stage (begins_with words) ≡ None
  pub by_itself : words_of_rule_line (is_acting stage) words ≡ None
  pub with_others : is_part_word (begins_with words) ≡ true
      → (if is_action_word (begins_with words) (is_acting stage) then others.action rows words else
      others.clause rows words) ≡ None
  pub not_empty : All (λ w. 1 ≤ length w) words

-- lines that go on from a stage
abbrev pub RightFrom : List Row → Stage → List (List (List ℕ)) → Type 0
RightFrom rows stage [] = ⊤
RightFrom rows stage (words ∷ lines) = LineRight rows stage words × RightFrom rows
    (stage_by stage (begins_with words)) lines

-- ---- the place of a line in the file

record KeptAt {X : Type 0} (p : X → Bool) (xs : List X) (n : ℕ) (x : X) : Type 0 where
  place : ℕ
  is : slice_get xs place ≡ Some x
  passes : p x ≡ true
  before : filter p (take place xs) ≡ take n (filter p xs)

kept_first : {X : Type 0} (p : X → Bool) (y : X) (ys : List X) (n : ℕ) (x : X) → p y ≡ true
    → slice_get (y ∷ filter p ys) n ≡ Some x
    → ((m : ℕ) → slice_get (filter p ys) m ≡ Some x → KeptAt p ys m x) → KeptAt p (y ∷ ys) n x
kept_first p y ys zero x t e rest =
    let same : y ≡ x = cc in record { place = 0; is = e; passes = subst (λ z. p z ≡ true) same t; before = refl }
kept_first p y ys (suc m) x t e rest =
    let found = rest m e in
    record {
      place = suc found.place;
      is = found.is;
      passes = found.passes;
      before =
          rw t (ap (λ zs. y ∷ zs) found.before);
    }

kept_at : {X : Type 0} (p : X → Bool) (xs : List X) (n : ℕ) (x : X) → slice_get (filter p xs) n ≡ Some x
    → KeptAt p xs n x
kept_at p [] n x e = absurd (let y : ⊥ = cc in y)
kept_at p (y ∷ ys) n x e = elim (cases_Bool (p y)) [
  | inl t ↦ kept_first p y ys n x t (rw t at e) (λ m f. kept_at p ys m x f)
  | inr f ↦ (let found = kept_at p ys n x (rw f at e) in
      record { place = suc found.place; is = found.is; passes = found.passes; before = rw f found.before })
]

-- the line behind others is right at the stage after them
pub not_rule : (o : Option RuleWord) → is_part_word o ≡ true → is_rule o ≡ false
not_rule (Some Rule) e = absurd (true≢false (sym e))
not_rule (Some If) e = refl
not_rule (Some And) e = refl
not_rule (Some Or) e = refl
not_rule (Some Then) e = refl
not_rule (Some Else) e = refl
not_rule (Some Priority) e = absurd (true≢false (sym e))
not_rule None e = refl

row_line : (rows : List Row) (k : ℕ) (row : Row) → AreRight rows → slice_get rows k ≡ Some row
    → is_of RulesSection row ≡ true
    → LineRight rows (stage_after (words_of RulesSection (take k rows))) row.words
row_line rows k row right is of =
    let earlier = words_of RulesSection (take k rows) in
    let later = words_of RulesSection (drop (k + 1) rows) in
    let each =
    all_none (in_order (stage_after earlier) (begins_with row.words) ∷ words_of_rule_line
    (is_acting (stage_after earlier)) row.words
    ∷ unless (gets_then row.words later) Syntax ∷ []) (right_alone rows RulesSection k row right is of) in
    record {
      order = each.0;
      by_itself = each.1.0;
      with_others = λ part.
          let line : first (others.part_faults rows k row) ≡ None =
          rw (not_rule (begins_with row.words) part, part) at (right_among rows RulesSection k row right is of) in
          (all_none (others.part_faults rows k row) line).1.0;
      not_empty = right.not_empty k row is;
    }

placed_line : (rows : List Row) (before : List (List (List ℕ))) (words : List (List ℕ)) (after : List (List (List ℕ)))
    → AreRight rows
    → words_of RulesSection rows ≡ before ++ words ∷ after → LineRight rows (stage_after before) words
placed_line rows before words after right e =
    let n = length before in
    let there : slice_get (words_of RulesSection rows) n ≡ Some words = rw e (at_end before) in
    let line = source words_of_row (rows_of RulesSection rows) n words there in
    let found = kept_at (is_of RulesSection) rows n line.item line.is in
    let front : words_of RulesSection (take found.place rows) ≡ before =
    ap (map words_of_row) found.before ∙ sym (take-map words_of_row n (rows_of RulesSection rows)) ∙ ap (take n) e
    ∙ take_at before (words ∷ after) n refl in
    let P : List (List (List ℕ)) → List (List ℕ) → Type 0 = λ b w. LineRight rows (stage_after b) w in
    subst (λ w. P before w) line.gives (subst (λ b. P b line.item.words) front
    (row_line rows found.place line.item right found.is found.passes))
  where
    at_end : (xs : List (List (List ℕ))) → slice_get (xs ++ words ∷ after) (length xs) ≡ Some words
    at_end [] = refl
    at_end (x ∷ xs) = at_end xs

pub stage_more : (before : List (List (List ℕ))) (words : List (List ℕ)) → stage_after (before ++ words ∷ []) ≡ stage_by
    (stage_after before) (begins_with words)
stage_more before words = fold-append (λ stage line. stage_by stage (begins_with line)) Outside before (words ∷ [])

lines_right : (rows : List Row) (before lines : List (List (List ℕ))) → AreRight rows
    → words_of RulesSection rows ≡ before ++ lines → RightFrom rows (stage_after before) lines
lines_right rows before [] right e = tt
lines_right rows before (words ∷ lines) right e = (
  placed_line rows before words lines right e,
  subst (λ (s : Stage). RightFrom rows s lines) (stage_more before words)
      (lines_right rows (before ++ words ∷ []) lines right (e ∙ sym (append_assoc before (words ∷ []) lines))),
)

pub all_lines : (rows : List Row) → AreRight rows → RightFrom rows Outside (words_of RulesSection rows)
all_lines rows right = lines_right rows [] (words_of RulesSection rows) right refl

-- ---- the lines of one rule

until_right : (rows : List Row) (stage : Stage) (lines : List (List (List ℕ))) → RightFrom rows stage lines
    → RightFrom rows stage (until_rule lines)
until_right rows stage [] right = tt
until_right rows stage (words ∷ lines) right = elim (cases_Bool (is_rule (begins_with words))) [
  | inl t ↦ rw t tt
  | inr f ↦ rw f (right.0, until_right rows (stage_by stage (begins_with words)) lines right.1)
]

pub rule_is : (o : Option RuleWord) → is_rule o ≡ true → o ≡ Some Rule
rule_is (Some Rule) e = refl
rule_is (Some If) e = absurd (true≢false (sym e))
rule_is (Some And) e = absurd (true≢false (sym e))
rule_is (Some Or) e = absurd (true≢false (sym e))
rule_is (Some Then) e = absurd (true≢false (sym e))
rule_is (Some Else) e = absurd (true≢false (sym e))
rule_is (Some Priority) e = absurd (true≢false (sym e))
rule_is None e = absurd (true≢false (sym e))

-- a line that names a rule may stand anywhere
anywhere : (rows : List Row) (stage : Stage) (words : List (List ℕ)) → is_rule (begins_with words) ≡ true
    → LineRight rows stage words → LineRight rows Outside words
anywhere rows stage words is line =
    let e = rule_is (begins_with words) is in
    let own : first (needed id 1 words ∷ ends 2 words ∷ []) ≡ None = rw e at line.by_itself in
    record {
      order = rw e refl;
      by_itself = rw e own;
      with_others = λ part. absurd (true≢false (sym is ∙ not_rule (begins_with words) part));
      not_empty = line.not_empty;
    }

-- the lines of a rule, from its first on
pub record GroupRight (rows : List Row) (group : List (List (List ℕ))) : Type 0 where
  pub head : List (List ℕ)
  pub rest : List (List (List ℕ))
  pub group_is : group ≡ head ∷ rest
  pub names : is_rule (begins_with head) ≡ true
  pub lines : RightFrom rows Outside group

same_stage : (stage : Stage) (o : Option RuleWord) → is_rule o ≡ true → stage_by stage o ≡ stage_by Outside o
same_stage stage o is = rw (rule_is o is) refl

group_first : (rows : List Row) (stage : Stage) (words : List (List ℕ)) (lines : List (List (List ℕ))) (n : ℕ)
    (group : List (List (List ℕ)))
    → is_rule (begins_with words) ≡ true → LineRight rows stage words
    → RightFrom rows (stage_by stage (begins_with words)) lines
    → slice_get ((words ∷ until_rule lines) ∷ rule_groups lines) n ≡ Some group
    → ((m : ℕ) → slice_get (rule_groups lines) m ≡ Some group → GroupRight rows group) → GroupRight rows group
group_first rows stage words lines zero group is line rest e later =
    let same : words ∷ until_rule lines ≡ group = cc in
    let begun : RightFrom rows (stage_by Outside (begins_with words)) lines =
    subst (λ (s : Stage). RightFrom rows s lines) (same_stage stage (begins_with words) is) rest in
    let whole : RightFrom rows Outside (words ∷ until_rule lines) =
    (anywhere rows stage words is line, until_right rows (stage_by Outside (begins_with words)) lines begun) in
    record {
      head = words;
      rest = until_rule lines;
      group_is = sym same;
      names = is;
      lines =
          subst (RightFrom rows Outside) same whole;
    }
group_first rows stage words lines (suc m) group is line rest e later = later m e

pub group_right : (rows : List Row) (stage : Stage) (lines : List (List (List ℕ))) (n : ℕ)
    (group : List (List (List ℕ))) → RightFrom rows stage lines
    → slice_get (rule_groups lines) n ≡ Some group → GroupRight rows group
group_right rows stage [] n group right e = absurd (let x : ⊥ = cc in x)
group_right rows stage (words ∷ lines) n group right e = elim (cases_Bool (is_rule (begins_with words))) [
  | inl t ↦ group_first rows stage words lines n group t right.0 right.1 (rw t at e)
      (λ m f. group_right rows (stage_by stage (begins_with words)) lines m group right.1 f)
  | inr f ↦ group_right rows (stage_by stage (begins_with words)) lines n group right.1 (rw f at e)
]

-- ---- the lines of a part of a rule

-- a line after which a rule stands at a stage that passes
pub record LineAt (rows : List Row) (passes : Stage → Bool) (words : List (List ℕ)) : Type 0 where
  pub stage : Stage
  pub line : LineRight rows stage words
  pub after : passes (stage_by stage (begins_with words)) ≡ true

at_first : (rows : List Row) (passes : Stage → Bool) (stage : Stage) (words : List (List ℕ))
    (lines : List (List (List ℕ))) (n : ℕ) (found : List (List ℕ))
    → passes (stage_by stage (begins_with words)) ≡ true → LineRight rows stage words
    → slice_get (words ∷ lines_at passes (stage_by stage (begins_with words)) lines) n ≡ Some found
    → ((m : ℕ) → slice_get (lines_at passes (stage_by stage (begins_with words)) lines) m ≡ Some found
    → LineAt rows passes found) → LineAt rows passes found
at_first rows passes stage words lines zero found t line e later =
    let same : words ≡ found = cc in
    subst (LineAt rows passes) same (record { stage = stage; line = line; after = t })
at_first rows passes stage words lines (suc m) found t line e later = later m e

pub line_at : (rows : List Row) (passes : Stage → Bool) (stage : Stage) (lines : List (List (List ℕ))) (n : ℕ)
    (found : List (List ℕ)) → RightFrom rows stage lines
    → slice_get (lines_at passes stage lines) n ≡ Some found → LineAt rows passes found
line_at rows passes stage [] n found right e = absurd (let x : ⊥ = cc in x)
line_at rows passes stage (words ∷ lines) n found right e =
    elim (cases_Bool (passes (stage_by stage (begins_with words)))) [
      | inl t ↦ at_first rows passes stage words lines n found t right.0 (rw t at e)
          (λ m f. line_at rows passes (stage_by stage (begins_with words)) lines m found right.1 f)
      | inr f ↦ line_at rows passes (stage_by stage (begins_with words)) lines n found right.1 (rw f at e)
    ]

-- what holds of each line at any stage holds of all
pub each_line : (rows : List Row) (P : List (List ℕ) → Type 0)
    → ((stage : Stage) (words : List (List ℕ)) → LineRight rows stage words → P words)
    → (stage : Stage) (lines : List (List (List ℕ))) → RightFrom rows stage lines → AllByRecursion P lines
each_line rows P each stage [] right = tt
each_line rows P each stage (words ∷ lines) right =
    (each stage words right.0, each_line rows P each (stage_by stage (begins_with words)) lines right.1)

-- ---- clauses and actions

-- a line by itself and with the others
pub record ClauseLine (rows : List Row) (words : List (List ℕ)) : Type 0 where
  pub by_itself : alone.clause words ≡ None
  pub with_others : others.clause rows words ≡ None

pub record ActionLine (rows : List Row) (words : List (List ℕ)) : Type 0 where
  pub by_itself : alone.action words ≡ None
  pub with_others : others.action rows words ≡ None

-- what a line after which a rule asks holds, by its first word and the stage before it
asks : (rows : List Row) (stage : Stage) (words : List (List ℕ)) (o : Option RuleWord) → in_order stage o ≡ None
    → words_about o (is_acting stage) words ≡ None
    → (is_part_word o ≡ true → (if is_action_word o (is_acting stage) then others.action rows words else
    others.clause rows words) ≡ None)
    → is_asking (stage_by stage o) ≡ true → ClauseLine rows words
asks rows stage words None order line part e = absurd (let x : ⊥ = cc in x)
asks rows stage words (Some Rule) order line part e = absurd (true≢false (sym e))
asks rows stage words (Some Then) order line part e = absurd (true≢false (sym e))
asks rows stage words (Some Else) order line part e = absurd (true≢false (sym e))
asks rows stage words (Some Priority) order line part e = absurd (true≢false (sym e))
asks rows stage words (Some If) order line part e = record { by_itself = line; with_others = part refl }
asks rows stage words (Some Or) order line part e = record { by_itself = line; with_others = part refl }
asks rows Asking words (Some And) order line part e = record { by_itself = line; with_others = part refl }
asks rows Outside words (Some And) order line part e = absurd (true≢false (sym e))
asks rows Named words (Some And) order line part e = absurd (true≢false (sym e))
asks rows Acting words (Some And) order line part e = absurd (true≢false (sym e))
asks rows Otherwise words (Some And) order line part e = absurd (true≢false (sym e))
asks rows Closed words (Some And) order line part e = absurd (true≢false (sym e))

acts : (rows : List Row) (stage : Stage) (words : List (List ℕ)) (o : Option RuleWord) → in_order stage o ≡ None
    → words_about o (is_acting stage) words ≡ None
    → (is_part_word o ≡ true → (if is_action_word o (is_acting stage) then others.action rows words else
    others.clause rows words) ≡ None)
    → is_acting (stage_by stage o) ≡ true → ActionLine rows words
acts rows stage words None order line part e = absurd (let x : ⊥ = cc in x)
acts rows stage words (Some Rule) order line part e = absurd (true≢false (sym e))
acts rows stage words (Some If) order line part e = absurd (true≢false (sym e))
acts rows stage words (Some Priority) order line part e = absurd (true≢false (sym e))
acts rows stage words (Some Then) order line part e = record { by_itself = line; with_others = part refl }
acts rows stage words (Some Else) order line part e = record { by_itself = line; with_others = part refl }
acts rows Acting words (Some And) order line part e = record { by_itself = line; with_others = part refl }
acts rows Otherwise words (Some And) order line part e = record { by_itself = line; with_others = part refl }
acts rows Outside words (Some And) order line part e = absurd (true≢false (sym e))
acts rows Named words (Some And) order line part e = absurd (true≢false (sym e))
acts rows Asking words (Some And) order line part e = absurd (true≢false (sym e))
acts rows Closed words (Some And) order line part e = absurd (true≢false (sym e))
acts rows Acting words (Some Or) order line part e = absurd (let x : ⊥ = cc in x)
acts rows Otherwise words (Some Or) order line part e = absurd (let x : ⊥ = cc in x)
acts rows Outside words (Some Or) order line part e = absurd (true≢false (sym e))
acts rows Named words (Some Or) order line part e = absurd (true≢false (sym e))
acts rows Asking words (Some Or) order line part e = absurd (true≢false (sym e))
acts rows Closed words (Some Or) order line part e = absurd (true≢false (sym e))

pub clause_line : (rows : List Row) (words : List (List ℕ)) → LineAt rows is_asking words → ClauseLine rows words
clause_line rows words at = asks rows at.stage words (begins_with words) at.line.order at.line.by_itself
    at.line.with_others at.after

doing_acts : (stage : Stage) → is_doing stage ≡ true → is_acting stage ≡ true
doing_acts Acting e = refl
doing_acts Outside e = absurd (true≢false (sym e))
doing_acts Named e = absurd (true≢false (sym e))
doing_acts Asking e = absurd (true≢false (sym e))
doing_acts Otherwise e = absurd (true≢false (sym e))
doing_acts Closed e = absurd (true≢false (sym e))

otherwise_acts : (stage : Stage) → is_otherwise stage ≡ true → is_acting stage ≡ true
otherwise_acts Otherwise e = refl
otherwise_acts Outside e = absurd (true≢false (sym e))
otherwise_acts Named e = absurd (true≢false (sym e))
otherwise_acts Asking e = absurd (true≢false (sym e))
otherwise_acts Acting e = absurd (true≢false (sym e))
otherwise_acts Closed e = absurd (true≢false (sym e))

pub then_line : (rows : List Row) (words : List (List ℕ)) → LineAt rows is_doing words → ActionLine rows words
then_line rows words at = acts rows at.stage words (begins_with words) at.line.order at.line.by_itself
    at.line.with_others (doing_acts (stage_by at.stage (begins_with words)) at.after)

pub else_line : (rows : List Row) (words : List (List ℕ)) → LineAt rows is_otherwise words → ActionLine rows words
else_line rows words at =
    acts rows at.stage words (begins_with words) at.line.order at.line.by_itself at.line.with_others
    (otherwise_acts (stage_by at.stage (begins_with words)) at.after)
