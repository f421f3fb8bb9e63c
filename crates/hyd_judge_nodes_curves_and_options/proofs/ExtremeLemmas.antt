-- The extremes of multipliers, one row further.
use Rattle.std.proofs.Common.{◌≡◌, ◌+◌, ◌*◌, ◌^◌, ◌<◌, ◌≤◌, ◌++◌, ◌⊎◌, ℕ, Bool, true, false, ◌&&◌, List, [], ◌∷◌}
use Rattle.std.proofs.Common.{length, take, drop, position, Option, Some, None, slice_get, refl, sym, ap, ◌∙◌, subst}
use Rattle.std.proofs.Common.{arith, ◌==◌, true≢false, get_or, inl, inr, append-nil, append_assoc, nat_lt, ltb-true}
use Rattle.std.proofs.Common.{ltb-false}
use Rattle.std.specs.Prelude.{slice_set, ℤ, pos, neg_ℤ, ◌≤ℤ◌, ◌*ℤ◌, unsigned_abs, flat_map}
use Rattle.std.specs.List.{All, list_all}
use Rattle.std.specs.Str.{bytes_eq}
use Rattle.std.specs.Cmp.Lexicographic.{bytes_decides}
use Rattle.std.proofs.lemmas.Bool.{cases_Bool, and_parts}
use Rattle.std.proofs.lemmas.Int.{ints, unsigned_abs-mul}
use Rattle.std.proofs.lemmas.Grind.{flat_map-append}
use Rattle.std.proofs.Math.Nat.{mul-le-mul_left}
use Rattle.std.proofs.Math.ListN.{get_or-eq_default}
use Rattle.std.proofs.lemmas.Option.{get_or_from_slice_get, slice_get-get_or}
use Rattle.std.proofs.lemmas.List.{get_or-set_same, get_or-set_other, length-set}
use Rattle.std.proofs.lemmas.List.Elements.{filter-append, All-push, All-nil, All-contains, Contains-push}
use Rattle.std.proofs.lemmas.List.Elements.{Contains-append_left}
use Rattle.std.proofs.lemmas.List.Sums.{AllPass-from_list_all, list_all-from_AllPass}
use lib.Signed.{le_z, lt_z}
use Rattle.hyd_spec_lines.specs.Lines.{Row}
use Rattle.hyd_spec_lines.specs.declared.line.Line.{Line}
use Rattle.hyd_spec_lines.specs.declared.section.Section.{Section}
use Rattle.hyd_spec_lines.specs.declared.section.Section.TheVariants.{Patterns as InPatterns}
use Rattle.hyd_spec_input.specs.SingleRows as itself
use Rattle.hyd_spec_input.specs.SingleRows.{IsWrongByItself}
use Rattle.hyd_spec_input.specs.Columns.{needed, any, id, within}
use Rattle.hyd_spec_input.specs.Curves.{is_within}
use Rattle.hyd_spec_input.specs.DemandEmitterCurvePatternAndStatusRows as row_form
use Rattle.hyd_spec_input.specs.DemandEmitterCurvePatternAndStatusRows.{multipliers}
use Rattle.hyd_spec_input.specs.Faults.{NoneIs}
use Rattle.hyd_spec_input.specs.MeaningsAcrossRows.{number_in}
use Rattle.hyd_spec_input.specs.SectionsAndTables.{place, is_of, rows_of, rows_with, own_id, pattern_named}
use Rattle.hyd_spec_input.specs.SectionsAndTables.{row_multipliers}
use Rattle.hyd_spec_input.specs.SectionsAndTables.{row_with, has_id}
use Rattle.hyd_spec_input.specs.FaultsWithOtherRows.{multipliers_of}
use Rattle.hyd_lemmas.proofs.BooleanTests.{and-true, lt_z-no}
use Rattle.hyd_theorems_on_input.proofs.RowsWithoutFault.{all_none, none_alone}
use Rattle.hyd_rows_and_tables.specs.IdTables.{AreFirsts, AreNone}
use Rattle.hyd_rows_and_tables.proofs.FirstWrongRowLemmas.{filter_more, filter_same, one_name, has_more, not_named}
use Rattle.hyd_rows_and_tables.proofs.WrongInSectionLemmas.{all_rows}
use Rattle.hyd_rows_and_tables.specs.RowsOfLines.{rows_at}
use Rattle.hyd_rows_and_tables.proofs.TableLemmas.{not_found, has_id-is, even}
use Rattle.hyd_judge_nodes_curves_and_options.specs.Extremes.{Bounds, bounds, Enclose, AreExtremes, pass, is_between}
use Rattle.hyd_judge_nodes_curves_and_options.specs.Extremes.{widened, all_widened, bounds_of, AreWidened}
use Rattle.hyd_judge_nodes_curves_and_options.specs.Patterns.{ArePatterns}
use Rattle.hyd_judge_nodes_curves_and_options.specs.declared.pattern_extremes.Extremes.{Extremes}
use Rattle.hyd_judge_nodes_curves_and_options.specs.declared.patterns.Patterns.{Patterns}

-- ---- the extremes of numbers

-- a number that is in range by two others
le_both : (a b c : ℤ) → lt_z a b ≡ true → b ≤ℤ c → a ≤ℤ c
le_both a b c l m = grind (arith, ints)

le_other : (a b c : ℤ) → lt_z a b ≡ true → c ≤ℤ a → c ≤ℤ b
le_other a b c l m = grind (arith, ints)

le_itself : (a : ℤ) → a ≤ℤ a
le_itself a = grind (arith, ints)

All-from : (P Q : ℤ → Type 0) (xs : List ℤ) → ((v : ℤ) → P v → Q v) → All P xs → All Q xs
All-from P Q xs each all k d l = each (get_or xs k d) (all k d l)

one_more : (values : List ℤ) (n : ℤ) (b : Bounds) → Enclose values b → AreExtremes (values ++ n ∷ []) (widened
    (Some b) n)
one_more values n b e = elim (cases_Bool (lt_z n b.least)) [
  | inl t ↦ rw t (record {
    least_is_there = Contains-push values n;
    greatest_is_there = Contains-append_left values (n ∷ []) b.greatest e.greatest_is_there;
    at_least = All-push (λ v. n ≤ℤ v) values n (All-from (λ v. b.least ≤ℤ v) (λ v. n ≤ℤ v) values
        (λ v l. le_both n b.least v t l) e.at_least) (le_itself n);
    at_most = All-push (λ v. v ≤ℤ b.greatest) values n e.at_most (le_both n b.least b.greatest t (All-contains
        (λ v. b.least ≤ℤ v) values b.greatest e.at_least e.greatest_is_there));
  })
  | inr f ↦ elim (cases_Bool (lt_z b.greatest n)) [
    | inl t ↦ rw (f, t) (record {
      least_is_there = Contains-append_left values (n ∷ []) b.least e.least_is_there;
      greatest_is_there = Contains-push values n;
      at_least = All-push (λ v. b.least ≤ℤ v) values n e.at_least (lt_z-no n b.least f);
      at_most = All-push (λ v. v ≤ℤ n) values n (All-from (λ v. v ≤ℤ b.greatest) (λ v. v ≤ℤ n) values
          (λ v l. le_other b.greatest n v t l) e.at_most) (le_itself n);
    })
    | inr g ↦ rw (f, g) (record {
      least_is_there = Contains-append_left values (n ∷ []) b.least e.least_is_there;
      greatest_is_there = Contains-append_left values (n ∷ []) b.greatest e.greatest_is_there;
      at_least = All-push (λ v. b.least ≤ℤ v) values n e.at_least (lt_z-no n b.least f);
      at_most = All-push (λ v. v ≤ℤ b.greatest) values n e.at_most (lt_z-no b.greatest n g);
    })
  ]
]

first_one : (n : ℤ) → Enclose (n ∷ []) (record { least = n; greatest = n })
first_one n = record {
  least_is_there = Contains-push [] n;
  greatest_is_there = Contains-push [] n;
  at_least = All-push (λ v. n ≤ℤ v) [] n (All-nil (λ v. n ≤ℤ v)) (le_itself n);
  at_most = All-push (λ v. v ≤ℤ n) [] n (All-nil (λ v. v ≤ℤ n)) (le_itself n);
}

step : (values : List ℤ) (n : ℤ) (o : Option Bounds) → AreExtremes values o → AreExtremes (values ++ n ∷ [])
    (widened o n)
step values n None e = let P : List ℤ → Type 0 = λ vs. Enclose (vs ++ n ∷ []) (record { least = n; greatest = n }) in
    subst P (sym e) (first_one n)
step values n (Some b) e = one_more values n b e

all_steps : (values more : List ℤ) (o : Option Bounds) → AreExtremes values o
    → AreExtremes (values ++ more) (all_widened o more)
all_steps values [] o e = let P : List ℤ → Type 0 = λ vs. AreExtremes vs o in subst P (sym (append-nil values)) e
all_steps values (n ∷ more) o e =
    let P : List ℤ → Type 0 = λ vs. AreExtremes vs (all_widened (widened o n) more) in
    subst P (append_assoc values (n ∷ []) more) (all_steps (values ++ n ∷ []) more (widened o n) (step values n o e))

pub are_extremes : (values : List ℤ) → AreExtremes values (all_widened None values)
are_extremes values = all_steps [] values None refl

-- ---- tests

-- what lies between two numbers that pass passes
abbrev pub IsConvex : (ℤ → Bool) → Type 0
IsConvex test = (a v b : ℤ) → a ≤ℤ v → v ≤ℤ b → test a ≡ true → test b ≡ true → test v ≡ true

enclosed_test : (test : ℤ → Bool) → IsConvex test → (values : List ℤ) (b : Bounds) → Enclose values b
    → list_all test values ≡ (test b.least && test b.greatest)
enclosed_test test convex values b e = elim (cases_Bool (test b.least && test b.greatest)) [
  | inl t ↦ (let parts = and_parts (test b.least) (test b.greatest) t in
      list_all-from_AllPass test values (λ k d l. convex b.least (get_or values k d) b.greatest (e.at_least k d l)
      (e.at_most k d l) parts.0 parts.1) ∙ sym t)
  | inr f ↦ elim (cases_Bool (list_all test values)) [
    | inl t ↦ (let all = AllPass-from_list_all test values t in
        let low : test b.least ≡ true = All-contains (λ v. test v ≡ true) values b.least all e.least_is_there in
        let high : test b.greatest ≡ true = All-contains
        (λ v. test v ≡ true) values b.greatest all e.greatest_is_there in
        absurd (true≢false (sym (and-true (test b.least) (test b.greatest) low high) ∙ f)))
    | inr g ↦ g ∙ sym f
  ]
]

-- a test that has no gaps passes all numbers where it passes their extremes
pub test_of_all : (test : ℤ → Bool) → IsConvex test → (values : List ℤ) (o : Option Bounds) → AreExtremes values o
    → list_all test values ≡ pass test o
test_of_all test convex values None e = rw e refl
test_of_all test convex values (Some b) e = enclosed_test test convex values b e

pub between_is_convex : (low high : ℤ) → IsConvex (is_between low high)
between_is_convex low high a v b l m s t =
    let p = and_parts (le_z low a) (le_z a high) s in
    let q = and_parts (le_z low b) (le_z b high) t in
    and-true (le_z low v) (le_z v high) (grind (arith, ints, p.0)) (grind (arith, ints, q.1))

-- ---- products

within_abs : (most : ℕ) (z : ℤ) → is_within most z ≡ true → unsigned_abs z ≤ most
within_abs most z e =
    let p = and_parts (le_z (neg_ℤ (pos most)) z) (le_z z (pos most)) e in
    grind (arith, ints, p.0, p.1)

abs_within : (most : ℕ) (z : ℤ) → unsigned_abs z ≤ most → is_within most z ≡ true
abs_within most z l = and-true (le_z (neg_ℤ (pos most)) z) (le_z z (pos most)) (grind (arith, ints)) (grind
    (arith, ints))

one_is_greater : (a v b : ℤ) → a ≤ℤ v → v ≤ℤ b → (unsigned_abs v ≤ unsigned_abs a) ⊎ (unsigned_abs v ≤ unsigned_abs b)
one_is_greater a v b l m = elim (cases_Bool (le_z (pos 0) v)) [
  | inl t ↦ inr (grind (arith, ints))
  | inr f ↦ inl (grind (arith, ints))
]

abs_times : (h v : ℤ) (most : ℕ) (w : ℤ) → unsigned_abs v ≤ unsigned_abs w → unsigned_abs (h *ℤ w) ≤ most
    → unsigned_abs (h *ℤ v) ≤ most
abs_times h v most w l m =
    let p : unsigned_abs (h *ℤ v) ≡ unsigned_abs h * unsigned_abs v = unsigned_abs-mul h v in
    let q : unsigned_abs (h *ℤ w) ≡ unsigned_abs h * unsigned_abs w = unsigned_abs-mul h w in
    let r : unsigned_abs h * unsigned_abs v ≤ unsigned_abs h * unsigned_abs w = mul-le-mul_left (unsigned_abs h) l in
    omega (arith, p, q, r, m)

pub times_is_convex : (most : ℕ) (h : ℤ) → IsConvex (λ v. is_within most (h *ℤ v))
times_is_convex most h a v b l m s t = abs_within most (h *ℤ v) (elim (one_is_greater a v b l m) [
  | inl x ↦ abs_times h v most a x (within_abs most (h *ℤ a) s)
  | inr y ↦ abs_times h v most b y (within_abs most (h *ℤ b) t)
])

-- ---- one row more

all_widened_more : (o : Option Bounds) (xs ys : List ℤ) → all_widened o (xs ++ ys) ≡ all_widened (all_widened o xs) ys
all_widened_more o [] ys = refl
all_widened_more o (x ∷ xs) ys = all_widened_more (widened o x) xs ys

more_here : (rows : List Row) (k : ℕ) (row : Row) (name : List ℕ) → slice_get rows k ≡ Some row
    → is_of InPatterns row ≡ true → bytes_eq name (own_id row) ≡ true
    → pattern_named (take (k + 1) rows) name ≡ pattern_named (take k rows) name ++ multipliers row.words
more_here rows k row name is member same =
    let before = rows_of InPatterns (take k rows) in
    let kept : rows_with name (before ++ row ∷ []) ≡ rows_with name before ++ row ∷ [] =
    filter-append (λ (r : Row). bytes_eq name (own_id r)) before (row ∷ []) ∙ rw same refl in
    let all : pattern_named (take (k + 1) rows) name ≡ flat_map row_multipliers (rows_with name (before ++ row ∷ [])) =
    ap (λ (rs : List Row). flat_map row_multipliers (rows_with name rs)) (filter_more
    (is_of InPatterns) rows k row is member) in
    all ∙ ap (flat_map row_multipliers) kept ∙ flat_map-append row_multipliers (rows_with name before) (row ∷ [])
    ∙ ap (λ ms. pattern_named (take k rows) name ++ ms) (append-nil (multipliers row.words))

none_here : (rows : List Row) (k : ℕ) (row : Row) (name : List ℕ) → slice_get rows k ≡ Some row
    → is_of InPatterns row ≡ true → bytes_eq name (own_id row) ≡ false
    → pattern_named (take (k + 1) rows) name ≡ pattern_named (take k rows) name
none_here rows k row name is member other =
    let before = rows_of InPatterns (take k rows) in
    let kept : rows_with name (before ++ row ∷ []) ≡ rows_with name before =
    filter-append (λ (r : Row). bytes_eq name (own_id r)) before (row ∷ [])
    ∙ rw other (append-nil (rows_with name before)) in
    let all : pattern_named (take (k + 1) rows) name ≡ flat_map row_multipliers (rows_with name (before ++ row ∷ [])) =
    ap (λ (rs : List Row). flat_map row_multipliers (rows_with name rs)) (filter_more
    (is_of InPatterns) rows k row is member) in
    all ∙ ap (flat_map row_multipliers) kept

-- the bounds of a number that a name may have
bounds_more : (rows : List Row) (k : ℕ) (row : Row) (names : List (List ℕ)) (each : List (Option Extremes))
    (number : ℕ) (value : Option Extremes) (name : List ℕ) → slice_get rows k ≡ Some row → is_of InPatterns row ≡ true
    → position (bytes_eq (own_id row)) names ≡ Some number → number < length each
    → bounds value ≡ all_widened (bounds (get_or each number None)) (multipliers row.words)
    → (found : Option ℕ) → found ≡ number_in names name
    → bounds_of each found ≡ all_widened None (pattern_named (take k rows) name)
    → bounds_of (slice_set each number value) found ≡ all_widened None (pattern_named (take (k + 1) rows) name)
bounds_more rows k row names each number value name is member there l v None f was =
    elim (cases_Bool (bytes_eq name (own_id row))) [
      | inl t ↦ (let e : name ≡ own_id row = not_named name row t in
          let g : None ≡ Some number = f ∙ rw e there in
          absurd (let x : ⊥ = cc in x))
      | inr o ↦ was ∙ ap (all_widened None) (sym (none_here rows k row name is member o))
    ]
bounds_more rows k row names each number value name is member there l v (Some found) f was =
    elim (cases_Bool (bytes_eq name (own_id row))) [
      | inl t ↦ (let e : name ≡ own_id row = not_named name row t in
          let g : Some found ≡ Some number = f ∙ rw e there in
          let n : found ≡ number = cc in
          let old : bounds (get_or each number None) ≡ all_widened None (pattern_named
          (take k rows) name) = rw n at was in
          rw n (ap bounds (get_or-set_same each number value None l) ∙ v
          ∙ ap (λ o. all_widened o (multipliers row.words)) old
          ∙ sym (all_widened_more None (pattern_named (take k rows) name) (multipliers row.words))
          ∙ ap (all_widened None) (sym (more_here rows k row name is member t))))
      | inr o ↦ ap bounds (get_or-set_other each number found value None (λ n.
          let e : name ≡ own_id row = one_name names name (own_id row) found (sym f) (there ∙ ap Some (sym n)) in
          true≢false (sym ((bytes_decides name (own_id row)).1 e) ∙ o)))
          ∙ was ∙ ap (all_widened None) (sym (none_here rows k row name is member o))
    ]

pub add_row : (rows : List Row) (k : ℕ) (row : Row) (names : List (List ℕ)) (each : List (Option Extremes))
    (number : ℕ) (old value : Option Extremes) → AreWidened rows k names each → slice_get rows k ≡ Some row
    → is_of InPatterns row ≡ true → position (bytes_eq (own_id row)) names ≡ Some number → number < length each
    → old ≡ get_or each number old → bounds value ≡ all_widened (bounds old) (multipliers row.words)
    → AreWidened rows (k + 1) names (slice_set each number value)
add_row rows k row names each number old value before is member there l o v = record {
  even = length-set each number value ∙ before.even;
  named = λ name. bounds_more rows k row names each number value name is member there l
      (v ∙ ap (λ (x : Option Extremes). all_widened (bounds x) (multipliers row.words)) (o
      ∙ same_read each number old l))
      (number_in names name) refl (before.named name);
}
  where
    same_read : (xs : List (Option Extremes)) (i : ℕ) (d : Option Extremes) → i < length xs
        → get_or xs i d ≡ get_or xs i None
    same_read xs i d l = sym (get_or_from_slice_get xs i (get_or xs i d) None (slice_get-get_or xs i d l))

pub skip_row : (rows : List Row) (k : ℕ) (row : Row) (names : List (List ℕ)) (each : List (Option Extremes))
    → AreWidened rows k names each → slice_get rows k ≡ Some row → is_of InPatterns row ≡ false
    → AreWidened rows (k + 1) names each
skip_row rows k row names each before is other =
    let same : rows_of InPatterns (take (k + 1) rows) ≡ rows_of InPatterns (take k rows) =
    filter_same (is_of InPatterns) rows k row is other in
    record {
      even = before.even;
      named = λ name. before.named name
          ∙ sym (ap (λ (rs : List Row). all_widened None (flat_map row_multipliers (rows_with name rs))) same);
    }

-- before the first row
none_at : (each : List (Option Extremes)) (k : ℕ) → All (λ (e : Option Extremes). e ≡ None) each
    → bounds (get_or each k None) ≡ None
none_at each k none = elim (cases_Bool (nat_lt k (length each))) [
  | inl t ↦ ap bounds (none k None (ltb-true k (length each) t))
  | inr f ↦ ap bounds (get_or-eq_default each None (ltb-false k (length each) f))
]

none_of_names : (each : List (Option Extremes)) → All (λ (e : Option Extremes). e ≡ None) each → (found : Option ℕ)
    → bounds_of each found ≡ None
none_of_names each none None = refl
none_of_names each none (Some k) = none_at each k none

pub before_rows : (text : List ℕ) (rows : List Row) (names : List (List ℕ)) (firsts : List Line)
    (each : List (Option Extremes)) → AreFirsts text (rows_of InPatterns rows) names firsts → AreNone each
    (length firsts)
    → AreWidened rows 0 names each
before_rows text rows names firsts each table none = record {
  even = none.count_is ∙ sym (even text (rows_of InPatterns rows) names firsts table);
  named = λ name. none_of_names each none.none (number_in names name);
}

-- after the last one
pub after_rows : (text : List ℕ) (lines : List Line) (k : ℕ) (names : List (List ℕ)) (each : List (Option Extremes))
    → AreWidened (rows_at text lines) k names each → length lines ≤ k
    → AreWidened (rows_at text lines) (length lines) names each
after_rows text lines k names each widened l =
    let P : List Row → Type 0 = λ rs. (name : List ℕ) → bounds_of each (number_in names name)
    ≡ all_widened None (pattern_named rs name) in
    record {
      even = widened.even;
      named = subst P (all_rows text lines k l ∙ sym (all_rows text lines (length lines) (omega arith))) widened.named;
    }

-- ---- a row of patterns

by_itself : (section : Section) (earlier : List (List (List ℕ))) (words : List (List ℕ)) (later : List (List (List ℕ)))
    → (place section == 9) ≡ true → itself.section_fault section earlier words later ≡ row_form.pattern words
by_itself InPatterns earlier words later h = refl
by_itself _ earlier words later h = absurd (true≢false (sym h))

-- it is right by itself
pub pattern_is_right : (rows : List Row) (k : ℕ) (row : Row) → NoneIs (IsWrongByItself rows)
    → slice_get rows k ≡ Some row → is_of InPatterns row ≡ true → row_form.pattern row.words ≡ None
pattern_is_right rows k row right is member =
    sym (by_itself row.section _ row.words _ member)
    ∙ none_alone rows k row right is

pub multipliers_are_right : (words : List (List ℕ)) → row_form.pattern words ≡ None
    → row_form.each (within (10 ^ 6)) (drop 1 words) ≡ None
multipliers_are_right words e =
    let each = all_none (needed id 0 words ∷ needed any 1 words ∷ row_form.each (within (10 ^ 6))
    (drop 1 words) ∷ []) e in
    each.1.1.0

-- its ID is in the table
pub number_is_there : (text : List ℕ) (rows : List Row) (k : ℕ) (row : Row) (names : List (List ℕ))
    (firsts : List Line) → AreFirsts text (rows_of InPatterns rows) names firsts → slice_get rows k ≡ Some row
    → is_of InPatterns row ≡ true → position (bytes_eq (own_id row)) names ≡ None → ⊥
number_is_there text rows k row names firsts table is member none =
    let no : row_with (own_id row) (rows_of InPatterns rows) ≡ None =
    not_found text (rows_of InPatterns rows) names firsts (own_id row) table none in
    let there : has_id (own_id row) (rows_of InPatterns rows) ≡ true = has_more
    (is_of InPatterns) rows k row is member in
    let gone : has_id (own_id row) (rows_of InPatterns rows) ≡ false =
    has_id-is (own_id row) (rows_of InPatterns rows) ∙ rw no refl in
    true≢false (sym there ∙ gone)

-- ---- the patterns of a file

pub patterns_of : (text : List ℕ) (rows : List Row) (count : ℕ) (patterns : Patterns) → rows ≡ take count rows
    → AreFirsts text (rows_of InPatterns rows) patterns.table.names patterns.table.firsts.items
    → AreWidened rows count patterns.table.names patterns.extremes.items → ArePatterns text rows patterns
patterns_of text rows count patterns all table widened = record {
  table = table;
  extremes = λ name.
      let e : bounds_of patterns.extremes.items (number_in patterns.table.names name)
      ≡ all_widened None (pattern_named rows name) =
      widened.named name ∙ ap (λ (rs : List Row). all_widened None (pattern_named rs name)) (sym all) in
      subst (AreExtremes (pattern_named rows name)) (sym e) (are_extremes (pattern_named rows name));
}

pub named_extremes : (text : List ℕ) (rows : List Row) (patterns : Patterns) (name : List ℕ) (number : Option ℕ)
    (o : Option Bounds) → number ≡ number_in patterns.table.names name → o ≡ bounds_of patterns.extremes.items number
    → ArePatterns text rows patterns → AreExtremes (multipliers_of rows (Some name)) o
named_extremes text rows patterns name number o n e are =
    subst (AreExtremes (pattern_named rows name)) (sym (e ∙ ap (bounds_of patterns.extremes.items) n))
    (are.extremes name)

pub named_between : (text : List ℕ) (rows : List Row) (patterns : Patterns) (name : List ℕ) (number : Option ℕ)
    (o : Option Bounds) → number ≡ number_in patterns.table.names name → o ≡ bounds_of patterns.extremes.items number
    → ArePatterns text rows patterns → (low high : ℤ)
    → list_all (is_between low high) (multipliers_of rows (Some name)) ≡ pass (is_between low high) o
named_between text rows patterns name number o n e are low high =
    test_of_all (is_between low high) (between_is_convex low high) (multipliers_of rows (Some name)) o
    (named_extremes text rows patterns name number o n e are)
