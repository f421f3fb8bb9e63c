-- Look-ups in tables of IDs.
use Rattle.std.proofs.Common.{◌≡◌, ◌+◌, ◌<◌, ◌≤◌, ◌++◌, ℕ, Bool, true, false, not, List, [], ◌∷◌, map, length}
use Rattle.std.proofs.Common.{slice_get, position, Option, Some, None, Contains, refl, sym, ap, ◌∙◌, subst, true≢false}
use Rattle.std.proofs.Common.{arith, nat_lt, ltb-true, ltb-false, get_or, inl, inr, one-add, suc}
use Rattle.std.specs.Prelude.{◌↔◌}
use Rattle.std.specs.List.{list_any, position_or_len}
use Rattle.std.specs.Str.{bytes_eq}
use Rattle.std.specs.Option.{option_map}
use Rattle.std.specs.Cmp.Lexicographic.{bytes_decides, nat_list_eq_equiv}
use Rattle.std.proofs.lemmas.Bool.{cases_Bool}
use Rattle.std.proofs.lemmas.List.Elements.{All-push, All-get_or}
use Rattle.std.proofs.lemmas.List.{map-append, length-map}
use Rattle.std.proofs.lemmas.Option.{slice_get-map, slice_get_read}
use Rattle.std.proofs.lemmas.Map.Views.{Contains-from_any, list_any-from_Contains}
use Rattle.hyd_spec_lines.specs.Lines.{Row, row_of, LiesIn}
use Rattle.hyd_spec_lines.specs.declared.line.Line.{Line}
use Rattle.hyd_spec_input.specs.SectionsAndTables.{own_id, row_with, has_id}
use Rattle.hyd_spec_input.specs.OptionsAndTimesInForce.{or_earlier}
use Rattle.hyd_rows_and_tables.specs.RowsOfLines.{rows_at}
use Rattle.hyd_rows_and_tables.specs.IdTables.{AreFirsts}

abbrev pub is_there : Option Row → Bool
is_there None = false
is_there (Some row) = true

-- among more rows
pub row_with-append : (name : List ℕ) (xs ys : List Row) → row_with name (xs ++ ys) ≡ or_earlier (row_with name xs)
    (row_with name ys)
row_with-append name [] ys = refl
row_with-append name (x ∷ xs) ys = elim (cases_Bool (bytes_eq name (own_id x))) [
  | inl t ↦ rw t refl
  | inr f ↦ rw f (row_with-append name xs ys)
]

pub has_id-is : (name : List ℕ) (xs : List Row) → has_id name xs ≡ is_there (row_with name xs)
has_id-is name [] = refl
has_id-is name (x ∷ xs) = elim (cases_Bool (bytes_eq name (own_id x))) [
  | inl t ↦ rw t refl
  | inr f ↦ rw f (has_id-is name xs)
]

-- the IDs of rows
among_ids : (name : List ℕ) (xs : List Row) → list_any (bytes_eq name) (map own_id xs) ≡ is_there (row_with name xs)
among_ids name [] = refl
among_ids name (x ∷ xs) = elim (cases_Bool (bytes_eq name (own_id x))) [
  | inl t ↦ rw t refl
  | inr f ↦ rw f (among_ids name xs)
]

-- an ID is there, or is new
pub new_is : (name : List ℕ) (xs rows : List Row) (ids : List (List ℕ)) (new : Bool) → ids ≡ map own_id xs
    → ((q : List ℕ) → row_with q xs ≡ row_with q rows)
    → ((new ≡ false) ↔ Contains ids name) → new ≡ not (has_id name rows)
new_is name xs rows ids new e same present =
    let there : list_any (bytes_eq name) ids ≡ has_id name rows = rw e (among_ids name xs
    ∙ ap is_there (same name) ∙ sym (has_id-is name rows)) in
    elim (cases_Bool (has_id name rows)) [
      | inl t ↦ rw t (present.1 (Contains-from_any (λ x y h. (bytes_decides x y).0 h) name ids (there ∙ t)))
      | inr f ↦ rw f (elim (cases_Bool new) [
        | inl n ↦ n
        | inr n ↦ absurd (true≢false (sym (list_any-from_Contains nat_list_eq_equiv name ids (present.0 n))
            ∙ there ∙ f))
      ])
    ]

-- a row joins both lists
pub same_after_new : (xs ys : List Row) (row : Row) → ((q : List ℕ) → row_with q xs ≡ row_with q ys)
    → (q : List ℕ) → row_with q (xs ++ row ∷ []) ≡ row_with q (ys ++ row ∷ [])
same_after_new xs ys row same q =
    row_with-append q xs (row ∷ []) ∙ ap (λ o. or_earlier o (row_with q (row ∷ []))) (same q)
    ∙ sym (row_with-append q ys (row ∷ []))

-- what is found stays found
kept : (q : List ℕ) (ys : List Row) (row : Row) → has_id (own_id row) ys ≡ true → (o : Option Row)
    → o ≡ row_with q ys → or_earlier o (row_with q (row ∷ [])) ≡ o
kept q ys row there (Some found) e = refl
kept q ys row there None e = elim (cases_Bool (bytes_eq q (own_id row))) [
  | inl t ↦ (let same : q ≡ own_id row = (bytes_decides q (own_id row)).0 t in
      let none : has_id (own_id row) ys ≡ false = rw (← same) (has_id-is q ys ∙ ap is_there (sym e)) in
      absurd (true≢false (sym there ∙ none)))
  | inr f ↦ rw f refl
]

-- a row whose ID is there joins one
pub same_after_old : (xs ys : List Row) (row : Row) → has_id (own_id row) ys ≡ true → ((q : List ℕ)
    → row_with q xs ≡ row_with q ys)
    → (q : List ℕ) → row_with q xs ≡ row_with q (ys ++ row ∷ [])
same_after_old xs ys row there same q = same q ∙ sym (row_with-append q ys (row ∷ [])
    ∙ kept q ys row there (row_with q ys) refl)

-- a place among IDs is that of the row
pub row_at_place : (name : List ℕ) (xs : List Row) → position_or_len (bytes_eq name) (map own_id xs) < length xs
    → row_with name xs ≡ slice_get xs (position_or_len (bytes_eq name) (map own_id xs))
row_at_place name [] l = absurd (omega arith)
row_at_place name (x ∷ xs) l = elim (cases_Bool (bytes_eq name (own_id x))) [
  | inl t ↦ rw t refl
  | inr f ↦ (let p = position_or_len (bytes_eq name) (map own_id xs) in
      let m : 1 + p < suc (length xs) = rw f at l in
      rw (f, one-add) (row_at_place name xs (omega arith)))
]

pub no_row : (name : List ℕ) (xs : List Row) → length xs ≤ position_or_len (bytes_eq name) (map own_id xs)
    → row_with name xs ≡ None
no_row name [] l = refl
no_row name (x ∷ xs) l = elim (cases_Bool (bytes_eq name (own_id x))) [
  | inl t ↦ (let m : suc (length xs) ≤ 0 = rw t at l in absurd (omega arith))
  | inr f ↦ (let p = position_or_len (bytes_eq name) (map own_id xs) in
      let m : suc (length xs) ≤ 1 + p = rw f at l in
      rw f (no_row name xs (omega arith)))
]

-- a table with a new ID
pub firsts_push : (text : List ℕ) (rows : List Row) (names ids : List (List ℕ)) (firsts lines : List Line)
    (id : List ℕ) (line : Line)
    → AreFirsts text rows names firsts → id ≡ own_id (row_of text line) → LiesIn text line
    → ids ≡ names ++ id ∷ [] → lines ≡ firsts ++ line ∷ [] → AreFirsts text (rows ++ row_of text line ∷ []) ids lines
firsts_push text rows names ids firsts lines id line is e lies n l =
    let m : rows_at text lines ≡ rows_at text firsts ++ row_of text line ∷ [] =
    rw l (map-append (row_of text) firsts (line ∷ [])) in
    record {
      aligned = rw m (n ∙ rw (is.aligned, e) (sym (map-append own_id (rows_at text firsts) (row_of text line ∷ []))));
      same = rw m (same_after_new (rows_at text firsts) rows (row_of text line) is.same);
      lie = rw l (All-push (LiesIn text) firsts line is.lie lies);
    }

-- a table without a new ID
pub firsts_keep : (text : List ℕ) (rows : List Row) (names ids : List (List ℕ)) (firsts : List Line) (line : Line)
    → AreFirsts text rows names firsts → ids ≡ names → has_id (own_id (row_of text line)) rows ≡ true
    → AreFirsts text (rows ++ row_of text line ∷ []) ids firsts
firsts_keep text rows names ids firsts line is n there = record {
  aligned = n ∙ is.aligned;
  same = same_after_old (rows_at text firsts) rows (row_of text line) there is.same;
  lie = is.lie;
}

pub not_false : {b : Bool} → false ≡ not b → b ≡ true
not_false {b} e = elim (cases_Bool b) [
  | inl t ↦ t
  | inr f ↦ absurd (true≢false (sym (rw f at e)))
]

-- a place that is found is the first one
place_of : (p : List ℕ → Bool) (ids : List (List ℕ)) (k : ℕ) → position p ids ≡ Some k
    → (position_or_len p ids ≡ k) × (k < length ids)
place_of p ids k e = elim (cases_Bool (nat_lt (position_or_len p ids) (length ids))) [
  | inl t ↦ (let f : Some (position_or_len p ids) ≡ Some k = rw t at e in
      let g : position_or_len p ids ≡ k = cc in
      let l : position_or_len p ids < length ids = ltb-true (position_or_len p ids) (length ids) t in
      (g, omega arith))
  | inr f ↦ (let h : None ≡ Some k = rw f at e in absurd (let x : ⊥ = cc in x))
]

no_place : (p : List ℕ → Bool) (ids : List (List ℕ)) → position p ids ≡ None → length ids ≤ position_or_len p ids
no_place p ids e = elim (cases_Bool (nat_lt (position_or_len p ids) (length ids))) [
  | inl t ↦ (let f : Some (position_or_len p ids) ≡ None = rw t at e in absurd (let x : ⊥ = cc in x))
  | inr f ↦ ltb-false (position_or_len p ids) (length ids) f
]

-- a name is there
pub found_at : (text : List ℕ) (rows : List Row) (names : List (List ℕ)) (firsts : List Line) (name : List ℕ)
    (k : ℕ) (line : Line)
    → AreFirsts text rows names firsts → position (bytes_eq name) names ≡ Some k → line ≡ get_or firsts k line
    → row_with name rows ≡ Some (row_of text line)
found_at text rows names firsts name k line is p l =
    let rs = rows_at text firsts in
    let q : position (bytes_eq name) (map own_id rs) ≡ Some k = rw (← is.aligned) p in
    let s = place_of (bytes_eq name) (map own_id rs) k q in
    let n : length (map own_id rs) ≡ length rs = length-map rs own_id in
    let m : length rs ≡ length firsts = length-map firsts (row_of text) in
    let at : slice_get firsts k ≡ Some line = slice_get_read firsts (length firsts) k line refl (omega (arith, s.1))
    l in
    sym (is.same name) ∙ row_at_place name rs (omega (arith, s.0, s.1)) ∙ ap (slice_get rs) s.0
    ∙ slice_get-map (row_of text) firsts k ∙ ap (option_map (row_of text)) at

-- the line of a name lies in the text
pub found_lies : (text : List ℕ) (rows : List Row) (names : List (List ℕ)) (firsts : List Line) (name : List ℕ)
    (k : ℕ) (line : Line)
    → AreFirsts text rows names firsts → position (bytes_eq name) names ≡ Some k → line ≡ get_or firsts k line
    → LiesIn text line
found_lies text rows names firsts name k line is p l =
    let s = place_of (bytes_eq name) names k p in
    let even = ap length is.aligned ∙ length-map (rows_at text firsts) own_id ∙ length-map firsts (row_of text) in
    let P : Line → Type 0 = LiesIn text in
    subst P (sym l) (All-get_or P firsts k line (omega (arith, s.1, even)) is.lie)

pub not_found : (text : List ℕ) (rows : List Row) (names : List (List ℕ)) (firsts : List Line) (name : List ℕ)
    → AreFirsts text rows names firsts → position (bytes_eq name) names ≡ None → row_with name rows ≡ None
not_found text rows names firsts name is p =
    let rs = rows_at text firsts in
    let q : position (bytes_eq name) (map own_id rs) ≡ None = rw (← is.aligned) p in
    let n : length (map own_id rs) ≡ length rs = length-map rs own_id in
    sym (is.same name) ∙ no_row name rs (omega (arith, no_place (bytes_eq name) (map own_id rs) q))

-- a table of rows has a line for each ID
pub even : (text : List ℕ) (rows : List Row) (names : List (List ℕ)) (firsts : List Line)
    → AreFirsts text rows names firsts → length names ≡ length firsts
even text rows names firsts is =
    ap length is.aligned ∙ length-map (rows_at text firsts) own_id ∙ length-map firsts (row_of text)
