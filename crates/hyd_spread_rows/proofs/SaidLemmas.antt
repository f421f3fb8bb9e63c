-- What rows say of a subject, with one row more.
use Rattle.std.proofs.Common.{◌≡◌, ◌≢◌, ℕ, ◌<◌, refl, sym, ap, subst, ◌∙◌, arith, Bool, true, false, List}
use Rattle.std.proofs.Common.{[], ◌∷◌, ◌++◌, length, get_or, get_or-set_same, get_or-set_other}
use Rattle.std.specs.Prelude.{Option, Some, None, slice_index_or, slice_set, if◌then◌else◌, vec_len}
use Rattle.std.specs.Option.{option_map}
use Rattle.std.specs.Str.{bytes_eq}
use Rattle.std.specs.Cmp.Lexicographic.{bytes_decides}
use Rattle.std.proofs.lemmas.Bool.{cases_Bool, cases_eq, cases_lt}
use Rattle.std.proofs.Common.{inl, inr}
use Rattle.std.proofs.lemmas.Option.{slice_get_within, get_or_from_slice_get}
use Rattle.hyd_net.specs.Ids.{AreDistinct}
use Rattle.hyd_net.proofs.IdLemmas.{place_of_id}
use Rattle.hyd_spec.specs.ProgramTypes.{Project}
use Rattle.hyd_spec_lines.specs.Headings.{either}
use Rattle.hyd_spec_input.specs.Columns.{word}
use Rattle.hyd_spec_spread_rows.specs.declared.Subject.{Subject}
use Rattle.hyd_spec_spread_rows.specs.declared.Subject.TheVariants.{Demand, Emitter, Head, Level}
use Rattle.hyd_spec_spread_rows.specs.RowsOfSpreads.{subject_of, is_all, is_of, is_known, node_named, ends_of}
use Rattle.hyd_spec_spread_rows.specs.TextsOfSpreads.{last_of, is_subject, names, names_all}
use Rattle.hyd_spread_rows.specs.RowsRead.{IsRow, node_meant}
use Rattle.hyd_spread_rows.specs.RowsSaid.{IsSaid, all_after, named_after}
use Rattle.hyd_spread_rows.specs.declared.rows.Row.{Row}
use Rattle.hyd_spread_rows.specs.declared.said.Said.{Said}

-- ---- the last row that a test picks

either-none : {X : Type 0} (o : Option X) → either o None ≡ o
either-none None = refl
either-none (Some x) = refl

either-assoc : {X : Type 0} (b : Bool) (row : X) (o p : Option X)
    → either (if b then Some row else o) p ≡ (if b then Some row else either o p)
either-assoc true row o p = refl
either-assoc false row o p = refl

pub last-more : (test : List (List ℕ) → Bool) (rows : List (List (List ℕ))) (row : List (List ℕ))
    → last_of test (rows ++ row ∷ []) ≡ (if test row then Some row else last_of test rows)
last-more test [] row = refl
last-more test (x ∷ rows) row =
    ap (λ o. either o (if test x then Some x else None)) (last-more test rows row)
    ∙ either-assoc (test row) row (last_of test rows) (if test x then Some x else None)

last-picked : (test : List (List ℕ) → Bool) (rows : List (List (List ℕ))) (row : List (List ℕ)) → test row ≡ true
    → last_of test (rows ++ row ∷ []) ≡ Some row
last-picked test rows row e = last-more test rows row ∙ rw e refl

last-passed : (test : List (List ℕ) → Bool) (rows : List (List (List ℕ))) (row : List (List ℕ)) → test row ≡ false
    → last_of test (rows ++ row ∷ []) ≡ last_of test rows
last-passed test rows row e = last-more test rows row ∙ rw e refl

-- ---- a row about something else, or none

pub said-other : (project : Project) (subject : Subject) (rows : List (List (List ℕ))) (words : List (List ℕ))
    (said : Said) → is_subject (subject_of words) subject ≡ false → IsSaid project subject rows said
    → IsSaid project subject (rows ++ words ∷ []) said
said-other project subject rows words said other is = record {
  all = is.all ∙ ap (option_map (ends_of project subject))
      (sym (last-passed (names_all subject) rows words (rw other refl)));
  named = λ node lt. is.named node lt ∙ ap (option_map (ends_of project subject))
      (sym (last-passed (names subject (slice_index_or project.node_ids node [])) rows words (rw other refl)));
}

-- ---- a row about it

same-subject : (s : Subject) → is_subject (Some s) s ≡ true
same-subject Demand = refl
same-subject Emitter = refl
same-subject Head = refl
same-subject Level = refl

is-same : (s t : Subject) → is_subject (Some s) t ≡ true → s ≡ t
is-same Demand Demand e = refl
is-same Demand Emitter e = absurd (cc)
is-same Demand Head e = absurd (cc)
is-same Demand Level e = absurd (cc)
is-same Emitter Demand e = absurd (cc)
is-same Emitter Emitter e = refl
is-same Emitter Head e = absurd (cc)
is-same Emitter Level e = absurd (cc)
is-same Head Demand e = absurd (cc)
is-same Head Emitter e = absurd (cc)
is-same Head Head e = refl
is-same Head Level e = absurd (cc)
is-same Level Demand e = absurd (cc)
is-same Level Emitter e = absurd (cc)
is-same Level Head e = absurd (cc)
is-same Level Level e = refl

-- what a name means: all, or one node
data Means (project : Project) (subject : Subject) (name : List ℕ) (node : Option ℕ) : Type 0 where
  all_of_them : is_all name ≡ true → node ≡ None → Means project subject name node
  one_of_them : (n : ℕ) → is_all name ≡ false → node_named project name ≡ Some n → node ≡ Some n
      → Means project subject name node

found : (project : Project) (subject : Subject) (o : Option ℕ) → is_of project subject o ≡ true
    → (n : ℕ) × (o ≡ Some n)
found project subject None e = absurd (cc)
found project subject (Some n) e = (n, refl)

means : (project : Project) (subject : Subject) (name : List ℕ) (place : Option ℕ)
    → is_known project subject name ≡ true → place ≡ node_meant project name → Means project subject name place
means project subject name place known is = elim (cases_Bool (is_all name)) [
  | inl whole ↦ all_of_them whole (is ∙ rw whole refl)
  | inr single ↦
      let there : is_of project subject (node_named project name) ≡ true = rw single at known in
      let f = found project subject (node_named project name) there in
      one_of_them f.0 single f.1
      (is ∙ (let e : node_meant project name ≡ node_named project name = rw single refl in e) ∙ f.1)
]

-- the node that is named is there
pub place-there : (project : Project) (words : List (List ℕ)) (row : Row) → IsRow project words row → (n : ℕ)
    → row.node ≡ Some n → n < length project.node_ids
place-there project words row is n at =
    by-case (means project row.subject (word 1 words) row.node is.known is.node)
  where
    by-case : Means project row.subject (word 1 words) row.node → n < length project.node_ids
    by-case (all_of_them whole none) = absurd (let e : ◌≡◌ {A = Option ℕ} None (Some n) = sym none ∙ at in cc)
    by-case (one_of_them m single named node) =
        let e : ◌≡◌ {A = Option ℕ} (Some m) (Some n) = sym node ∙ at in
        let same : m ≡ n = cc in
        subst (λ k. k < length project.node_ids) same
        (slice_get_within project.node_ids m (word 1 words) (place_of_id (word 1 words) project.node_ids m named))

not-equal : (xs ys : List ℕ) → xs ≢ ys → bytes_eq xs ys ≡ false
not-equal xs ys other = elim (cases_Bool (bytes_eq xs ys)) [
  | inl whole ↦ absurd (other ((bytes_decides xs ys).0 whole))
  | inr single ↦ single
]

distinct-places : (ids : List (List ℕ)) → AreDistinct ids → (m n : ℕ) → m < length ids → n < length ids → m ≢ n
    → get_or ids m [] ≢ get_or ids n []
distinct-places ids distinct m n lm ln other same = elim (cases_lt m n) [
  | inl lt ↦ distinct m n [] lt ln same
  | inr ge ↦ distinct n m [] (omega (arith, ge, other)) lm (sym same)
]

pub said-same : (project : Project) (subject : Subject) (rows : List (List (List ℕ))) (words : List (List ℕ))
    (row : Row) (old new : Said) → AreDistinct project.node_ids → IsRow project words row
    → is_subject (Some row.subject) subject ≡ true → vec_len old.named ≡ length project.node_ids
    → new.all ≡ all_after row.node old.all row.ends → new.named.items ≡ named_after row.node old.named.items row.ends
    → IsSaid project subject rows old → IsSaid project subject (rows ++ words ∷ []) new
said-same project subject rows words row old new distinct is about places all named said =
    by-case (means project row.subject (word 1 words) row.node is.known is.node)
  where
    mine : is_subject (subject_of words) subject ≡ true
    mine = rw is.subject about

    own : row.ends ≡ ends_of project subject words
    own = is.ends ∙ (λ i. ends_of project (is-same row.subject subject about i) words)

    by-case : Means project row.subject (word 1 words) row.node → IsSaid project subject (rows ++ words ∷ []) new
    by-case (all_of_them whole none) = record {
      all = all ∙ (λ i. all_after (none i) old.all row.ends) ∙ ap Some own
          ∙ ap (option_map (ends_of project subject))
          (sym (last-picked (names_all subject) rows words (rw (mine, whole) refl)));
      named = λ node lt. ap (λ xs. slice_index_or xs node None) (named ∙ (λ i. named_after (none i) old.named.items
          row.ends)) ∙ said.named node lt
          ∙ ap (option_map (ends_of project subject))
          (sym (last-passed (names subject (slice_index_or project.node_ids node [])) rows words
          (rw (mine, whole) refl)));
    }
    by-case (one_of_them n single at node_is) =
        let place = place_of_id (word 1 words) project.node_ids n at in
        let inside : n < length project.node_ids = slice_get_within project.node_ids n (word 1 words) place in
        let there : n < length old.named.items = omega (arith, inside, places) in
        let itself : get_or project.node_ids n [] ≡ word 1 words =
        get_or_from_slice_get project.node_ids n (word 1 words) [] place in
        let changed : new.named.items ≡ slice_set old.named.items n (Some row.ends) =
        named ∙ (λ i. named_after (node_is i) old.named.items row.ends) in
        record {
          all = all ∙ (λ i. all_after (node_is i) old.all row.ends) ∙ said.all
              ∙ ap (option_map (ends_of project subject))
              (sym (last-passed (names_all subject) rows words (rw (mine, single) refl)));
          named = λ node lt. elim (cases_eq node n) [
            | inl same ↦
                let picked : names subject (get_or project.node_ids node []) words ≡ true =
                rw (mine, single, same, itself) ((bytes_decides (word 1 words) (word 1 words)).1 refl) in
                ap (λ xs. slice_index_or xs node None) changed
                ∙ ap (λ k. get_or (slice_set old.named.items n (Some row.ends)) k None) same
                ∙ get_or-set_same old.named.items n (Some row.ends) None there
                ∙ ap Some own
                ∙ ap (option_map (ends_of project subject))
                (sym (last-picked (names subject (get_or project.node_ids node [])) rows words picked))
            | inr other ↦
                let apart : bytes_eq (get_or project.node_ids node []) (word 1 words) ≡ false =
                not-equal _ _ (λ e. distinct-places project.node_ids distinct node n lt inside other
                (e ∙ sym itself)) in
                let passed : names subject (get_or project.node_ids node []) words ≡ false =
                rw (mine, single, apart) refl in
                ap (λ xs. slice_index_or xs node None) changed
                ∙ get_or-set_other old.named.items n node (Some row.ends) None other
                ∙ said.named node lt
                ∙ ap (option_map (ends_of project subject))
                (sym (last-passed (names subject (get_or project.node_ids node [])) rows words passed))
          ];
        }
