-- How many distinct IDs stand in rows, one row more.
use Rattle.std.proofs.Common.{◌≡◌, ◌+◌, ◌++◌, ℕ, Bool, true, false, not, List, [], ◌∷◌, if◌then◌else◌, refl, arith, inl}
use Rattle.std.proofs.Common.{inr, append-nil}
use Rattle.std.proofs.lemmas.Bool.{cases_Bool}
use Rattle.std.proofs.lemmas.List.{append_assoc}
use Rattle.hyd_spec_lines.specs.Lines.{Row}
use Rattle.hyd_spec_input.specs.SectionsAndTables.{own_id, has_id, one_if_new, distinct, distinct_after}

after_more : (earlier rows : List Row) (row : Row)
    → distinct_after earlier (rows ++ row ∷ []) ≡ distinct_after earlier rows + one_if_new (earlier ++ rows) row
after_more earlier [] row = rw (append-nil earlier) (omega arith)
after_more earlier (next ∷ rows) row =
    let rest = after_more (earlier ++ next ∷ []) rows row in
    let all : (earlier ++ next ∷ []) ++ rows ≡ earlier ++ next ∷ rows = append_assoc earlier (next ∷ []) rows in
    let more : distinct_after (earlier ++ next ∷ []) (rows ++ row ∷ [])
    ≡ distinct_after (earlier ++ next ∷ []) rows + one_if_new (earlier ++ next ∷ rows) row = rw (← all) rest in
    omega (arith, more)

-- a table of IDs counts them
pub distinct_more : (rows : List Row) (row : Row) (count next : ℕ) (new : Bool) → count ≡ distinct rows
    → new ≡ not (has_id (own_id row) rows) → next ≡ (if new then count + 1 else count)
    → next ≡ distinct (rows ++ row ∷ [])
distinct_more rows row count next new before e n = elim (cases_Bool (has_id (own_id row) rows)) [
  | inl t ↦ (let old : new ≡ false = rw t at e in
      let same : next ≡ count = rw old at n in
      let none : one_if_new rows row ≡ 0 = rw t refl in
      omega (arith, after_more [] rows row, before, same, none))
  | inr f ↦ (let fresh : new ≡ true = rw f at e in
      let more : next ≡ count + 1 = rw fresh at n in
      let one : one_if_new rows row ≡ 1 = rw f refl in
      omega (arith, after_more [] rows row, before, more, one))
]
