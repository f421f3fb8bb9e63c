-- Patterns of a file without a fault have multipliers, each in range.
use Rattle.std.proofs.Common.{◌≡◌, ℕ, ◌*◌, ◌^◌, ◌≤◌, true, List, [], ◌∷◌, length, drop, Some, None, sym, subst, arith}
use Rattle.std.proofs.Common.{inl, inr, true≢false}
use Rattle.std.specs.Prelude.{slice_get, All, neg_ℤ}
use Rattle.std.specs.List.{flat_map}
use Rattle.std.specs.Str.{bytes_eq}
use Rattle.std.proofs.lemmas.Bool.{cases_Bool}
use Rattle.std.proofs.lemmas.List.{length-append, length-map, length-drop}
use Rattle.std.proofs.lemmas.List.Elements.{All-nil, All-cons, All-head, All-tail, All-filter, All-map, All-weaker}
use Rattle.std.proofs.lemmas.Option.{slice_get_within}
use Rattle.hyd_num.specs.Numeral.{nano_of}
use Rattle.hyd_spec_lines.specs.Lines.{Row}
use Rattle.hyd_spec_lines.specs.declared.section.Section.TheVariants.{Patterns}
use Rattle.hyd_net.specs.NumberRanges.{LiesWithin}
use Rattle.hyd_net.specs.Sound as sound
use Rattle.hyd_net.specs.declared.patterns.Pattern.{Pattern}
use Rattle.hyd_net.specs.declared.project.Project.{Project}
use Rattle.hyd_spec_input.specs.Columns as column
use Rattle.hyd_spec_input.specs.Columns.{Column, first, needed, id, any, units, word}
use Rattle.hyd_spec_input.specs.DemandEmitterCurvePatternAndStatusRows.{each, multipliers}
use Rattle.hyd_spec_input.specs.SectionsAndTables.{rows_of, rows_with, own_id, row_multipliers, pattern_named}
use Rattle.hyd_spec_input.specs.MeaningsAcrossRows.{is_among, pattern_ids}
use Rattle.hyd_spec_input.specs.Project as project
use Rattle.hyd_spec_input.specs.Project.{IsProject}
use Rattle.hyd_theorems_on_input.proofs.ListsByPlace.{match_all}
use Rattle.hyd_theorems_on_input.proofs.RowsWithoutFault.{AreRight, right_alone, or_none, all_none, needed_none, within}
use Rattle.hyd_theorems_on_input.proofs.OccurrencesOfNames.{new_among}
use Rattle.hyd_theorems_on_input.proofs.Names.{own_ids}
use Rattle.hyd_theorems_on_input.proofs.NodeRanges.{each_row}
use Rattle.hyd_theorems_on_input.proofs.CountsWithinLimits.{all_flat}

-- ---- one row

-- a row has a multiplier, and each is in range
record RowRight (row : Row) : Type 0 where
  some : 1 ≤ length (row_multipliers row)
  range : All (LiesWithin (10 ^ 6 * 10 ^ 9)) (row_multipliers row)

each_none : (test : Column) (words : List (List ℕ)) → each test words ≡ None → All (λ w. test w ≡ None) words
each_none test [] e = All-nil (λ w. test w ≡ None)
each_none test (w ∷ words) e =
    let both = or_none (test w) (each test words) e in All-cons (λ v. test v ≡ None) w words both.0
    (each_none test words both.1)

row_right : (words : List (List ℕ)) → first
    (needed id 0 words ∷ needed any 1 words ∷ each (column.within (10 ^ 6)) (drop 1 words) ∷ []) ≡ None
    → (1 ≤ length (multipliers words)) × All (LiesWithin (10 ^ 6 * 10 ^ 9)) (multipliers words)
row_right words e =
    let faults = all_none (needed id 0 words ∷ needed any 1 words ∷ each (column.within (10 ^ 6)) (drop 1 words) ∷ [])
    e in
    let second = slice_get_within words 1 (word 1 words) (needed_none any 1 words faults.1.0).is in (
      omega (arith, second, length-map (drop 1 words) nano_of, length-drop 1 words),
      All-map (LiesWithin (10 ^ 6 * 10 ^ 9)) nano_of (drop 1 words)
          (All-weaker (λ w. column.within (10 ^ 6) w ≡ None) (λ w. LiesWithin (10 ^ 6 * 10 ^ 9) (nano_of w))
          (λ w f. within (neg_ℤ (units (10 ^ 6))) (units (10 ^ 6)) w f)
          (drop 1 words) (each_none (column.within (10 ^ 6)) (drop 1 words) faults.1.1.0)),
    )

rows_right : (rows : List Row) → AreRight rows → All RowRight (rows_of Patterns rows)
rows_right rows right = each_row rows Patterns RowRight (λ k row is of.
    let both = row_right row.words (right_alone rows Patterns k row right is of) in
    record { some = both.0; range = both.1 })

-- ---- one pattern

named_some : (name : List ℕ) (xs : List Row) → All RowRight xs → is_among name (own_ids xs) ≡ true
    → 1 ≤ length (flat_map row_multipliers (rows_with name xs))
named_some name [] all e = absurd (true≢false (sym e))
named_some name (x ∷ xs) all e = elim (cases_Bool (bytes_eq name (own_id x))) [
  | inl t ↦ (let here = (All-head RowRight x xs all).some in
      rw t (omega (arith, here, length-append (row_multipliers x) (flat_map row_multipliers (rows_with name xs)))))
  | inr f ↦ rw f (named_some name xs (All-tail RowRight x xs all) (rw f at e))
]

pattern_right : (rows : List Row) (k : ℕ) (name : List ℕ) (q : Pattern) → AreRight rows
    → slice_get (pattern_ids rows) k ≡ Some name → project.IsPattern rows name q
    → sound.IsPattern q
pattern_right rows k name q right is made =
    let all = rows_right rows right in
    let some : 1 ≤ length (pattern_named rows name) =
    named_some name (rows_of Patterns rows) all (new_among name [] (own_ids (rows_of Patterns rows)) k is) in
    let range : All (LiesWithin (10 ^ 6 * 10 ^ 9)) (pattern_named rows name) =
    all_flat (LiesWithin (10 ^ 6 * 10 ^ 9)) row_multipliers (rows_with name (rows_of Patterns rows))
    (All-weaker RowRight (λ r. All (LiesWithin (10 ^ 6 * 10 ^ 9)) (row_multipliers r)) (λ r h. h.range)
    (rows_with name (rows_of Patterns rows))
    (All-filter (λ r. bytes_eq name (own_id r)) RowRight (rows_of Patterns rows) all)) in
    record {
      not_empty = subst (λ list. 1 ≤ length list) (sym made) some;
      range = subst (λ list. All (LiesWithin (10 ^ 6 * 10 ^ 9)) list) (sym made) range;
    }

pub patterns_right : (rows : List Row) (p : Project) → AreRight rows → IsProject rows p
    → All sound.IsPattern p.patterns.list
patterns_right rows p right of =
    match_all (project.IsPattern rows) sound.IsPattern (pattern_ids rows) p.patterns.list of.patterns
    (λ k name q is _ made. pattern_right rows k name q right is made)
