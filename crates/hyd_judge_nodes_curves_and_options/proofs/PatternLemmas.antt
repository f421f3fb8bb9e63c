-- The patterns, one row further.
use Rattle.std.proofs.Common.{◌≡◌, ◌+◌, ◌-◌, ◌≤◌, ◌++◌, ℕ, Bool, true, false, not, List, [], ◌∷◌, take, drop, length}
use Rattle.std.proofs.Common.{slice_get, Option, Some, if◌then◌else◌, refl, sym, ◌∙◌, subst, arith, ◌==◌, nat_le}
use Rattle.std.proofs.Common.{true≢false}
use Rattle.std.specs.Prelude.{min}
use Rattle.std.proofs.lemmas.Bool.Decides.{nat_tests}
use Rattle.std.proofs.lemmas.List.{length-map, length-drop}
use Rattle.std.proofs.lemmas.List.Sums.{sum_by-append}
use Rattle.hyd_num.specs.Numeral.{nano_of}
use Rattle.hyd_spec_lines.specs.Lines.{Row}
use Rattle.hyd_spec_lines.specs.declared.section.Section.{Section}
use Rattle.hyd_spec_lines.specs.declared.section.Section.TheVariants.{Patterns as InPatterns}
use Rattle.hyd_spec_input.specs.CapacitiesOutOfRange.{IsRefusedIn}
use Rattle.hyd_spec_input.specs.Columns.{first}
use Rattle.hyd_spec_input.specs.DemandEmitterCurvePatternAndStatusRows.{multipliers}
use Rattle.hyd_spec_input.specs.SectionsAndTables.{place, is_of, rows_of, own_id, has_id, distinct}
use Rattle.hyd_spec_input.specs.FaultsWithOtherRows as others
use Rattle.hyd_spec_input.specs.FaultsWithOtherRows.{passes, multiplier_count}
use Rattle.hyd_net.specs.declared.refusal_cause.Cause.{Cause}
use Rattle.hyd_rows_and_tables.specs.FirstWrongRow.{kept}
use Rattle.hyd_rows_and_tables.specs.IdTables.{AreFirsts}
use Rattle.hyd_rows_and_tables.proofs.FirstWrongRowLemmas.{filter_more, filter_same, found_skip, found_kept}
use Rattle.hyd_rows_and_tables.proofs.TableLemmas.{even}
use Rattle.hyd_judge_nodes_curves_and_options.specs.Patterns.{AreCounted, most_counted}
use Rattle.hyd_rows_and_tables.specs.WrongInSection.{IsWrongIn}
use Rattle.hyd_judge_nodes_curves_and_options.specs.declared.patterns.Counted.{Counted}
use Rattle.hyd_judge_nodes_curves_and_options.proofs.DistinctIdCounts.{distinct_more}
use Rattle.hyd_rows_and_tables.proofs.WrongInSectionLemmas.{verdict_without_capacity, other_section}

-- ---- counts up to one above the most that are allowed

-- the words behind the first, counted up to a number
pub behind_first : (words : List (List ℕ)) → min (length words) 1000002 - 1 ≡ min (length
    (multipliers words)) most_counted
behind_first words =
    let n : length (multipliers words) ≡ length words - 1 = length-map (drop 1 words) nano_of ∙ length-drop 1 words in
    grind (arith, n)

count_more : (rows : List Row) (row : Row) (count next more : ℕ) → count ≡ min (multiplier_count rows) most_counted
    → more ≡ min (length (multipliers row.words)) most_counted → next ≡ min (count + more) most_counted
    → next ≡ min (multiplier_count (rows ++ row ∷ [])) most_counted
count_more rows row count next more before m n =
    let all : multiplier_count (rows ++ row ∷ []) ≡ multiplier_count rows + multiplier_count (row ∷ []) =
    sum_by-append (λ (row : Row). length (multipliers row.words)) rows (row ∷ []) in
    let one : multiplier_count (row ∷ []) ≡ length (multipliers row.words) = omega arith in
    grind (arith, all, one, before, m, n)

passes_alike : (total count : ℕ) → count ≡ min total most_counted → passes 1000000 8 count ≡ passes 1000000 8 total
passes_alike total count e =
    let same : nat_le count 1000000 ≡ nat_le total 1000000 = grind (arith, nat_tests, e) in
    rw same refl

-- ---- rows

fault_is : (section : Section) (rows : List Row) (k : ℕ) (row : Row) → (place section == 9) ≡ true
    → others.section_fault section rows k row ≡ others.pattern rows k row
fault_is InPatterns rows k row h = refl
fault_is _ rows k row h = absurd (true≢false (sym h))

no_capacity : (section : Section) (rows : List Row) (acting : Bool) (row : Row) → (place section == 9) ≡ true
    → IsRefusedIn section rows acting row → ⊥
no_capacity InPatterns rows acting row h refused = refused
no_capacity _ rows acting row h refused = absurd (true≢false (sym h))

pub skip_row : (text : List ℕ) (rows : List Row) (k : ℕ) (row : Row) (patterns : Counted)
    → AreCounted text rows k patterns → slice_get rows k ≡ Some row → is_of InPatterns row ≡ false
    → AreCounted text rows (k + 1) patterns
skip_row text rows k row patterns before is other =
    let same : rows_of InPatterns (take (k + 1) rows) ≡ rows_of InPatterns (take k rows) =
    filter_same (is_of InPatterns) rows k row is other in
    record {
      count = rw same before.count;
      table = (let P : List Row → Type 0 = λ rs. AreFirsts text rs patterns.table.names patterns.table.firsts.items in
          subst P (sym same) before.table);
      distinct = rw same before.distinct;
      few = omega (arith, before.few);
      found = found_skip rows (IsWrongIn InPatterns rows) k patterns.found before.found
          (other_section InPatterns rows k row is other);
    }

pub add_row : (text : List ℕ) (rows : List Row) (k : ℕ) (row : Row) (patterns next : Counted) (new : Bool)
    (more : ℕ) (fault : Option Cause) → AreCounted text rows k patterns → slice_get rows k ≡ Some row
    → is_of InPatterns row ≡ true
    → AreFirsts text (rows_of InPatterns (take k rows) ++ row ∷ []) next.table.names next.table.firsts.items
    → new ≡ not (has_id (own_id row) (rows_of InPatterns (take k rows)))
    → length next.table.names ≡ (if new then length patterns.table.names + 1 else length patterns.table.names)
    → length next.table.names ≤ length patterns.table.names + 1
    → more ≡ min (length (multipliers row.words)) most_counted → next.count ≡ min (patterns.count + more) most_counted
    → fault ≡ first (passes 1000 8 (length next.table.firsts.items) ∷ passes 1000000 8 next.count ∷ [])
    → next.found ≡ kept patterns.found k row.number fault → AreCounted text rows (k + 1) next
add_row text rows k row patterns next new more fault before is member table e names longer m n f found =
    let all : rows_of InPatterns (take (k + 1) rows) ≡ rows_of InPatterns (take k rows) ++ row ∷ [] =
    filter_more (is_of InPatterns) rows k row is member in
    let count : next.count ≡ min (multiplier_count (rows_of InPatterns (take (k + 1) rows))) most_counted =
    rw all (count_more (rows_of InPatterns (take k rows)) row patterns.count next.count more before.count m n) in
    let ids : length next.table.names ≡ distinct (rows_of InPatterns (take (k + 1) rows)) =
    rw all (distinct_more (rows_of InPatterns (take k rows)) row (length patterns.table.names)
    (length next.table.names) new before.distinct e names) in
    let lines : length next.table.firsts.items ≡ distinct (rows_of InPatterns (take (k + 1) rows)) =
    sym (even text _ next.table.names next.table.firsts.items table) ∙ ids in
    let counted : passes 1000000 8 next.count ≡ passes 1000000 8 (multiplier_count (rows_of InPatterns (take
    (k + 1) rows))) =
    passes_alike (multiplier_count (rows_of InPatterns (take (k + 1) rows))) next.count count in
    let verdict : fault ≡ others.row_fault rows k row =
    f ∙ rw (lines, counted) (sym (fault_is row.section rows k row member)) in
    record {
      count = count;
      table = (let P : List Row → Type 0 = λ rs. AreFirsts text rs next.table.names next.table.firsts.items in
          subst P (sym all) table);
      distinct = ids;
      few = omega (arith, before.few, longer);
      found = rw found (found_kept rows (IsWrongIn InPatterns rows) k row patterns.found fault before.found is
          (verdict_without_capacity InPatterns rows k row fault is member
          (no_capacity row.section rows (others.holds_action (take k rows) row) row member) verdict));
    }
