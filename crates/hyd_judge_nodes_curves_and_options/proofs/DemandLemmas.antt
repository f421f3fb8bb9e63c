-- The demands, one row further.
use Rattle.std.proofs.Common.{◌≡◌, ◌+◌, ◌++◌, ℕ, Bool, true, false, List, [], ◌∷◌, take, length, slice_get, Option}
use Rattle.std.proofs.Common.{Some, None, refl, sym, ap, ◌∙◌, arith, ◌==◌, true≢false, length-append}
use Rattle.hyd_num.specs.declared.flow_units.FlowUnit.{FlowUnit}
use Rattle.hyd_spec_lines.specs.Lines.{Row}
use Rattle.hyd_spec_lines.specs.declared.section.Section.{Section}
use Rattle.hyd_spec_lines.specs.declared.section.Section.TheVariants.{Demands as InDemands}
use Rattle.hyd_spec_input.specs.SingleRows as itself
use Rattle.hyd_spec_input.specs.SingleRows.{IsWrongByItself}
use Rattle.hyd_spec_input.specs.CapacitiesOutOfRange.{IsRefusedIn}
use Rattle.hyd_spec_input.specs.DemandEmitterCurvePatternAndStatusRows as row_form
use Rattle.hyd_spec_input.specs.Faults.{NoneIs}
use Rattle.hyd_spec_input.specs.OptionsAndTimesInForce as force
use Rattle.hyd_spec_input.specs.SectionsAndTables.{place, is_of, rows_of}
use Rattle.hyd_spec_input.specs.FaultsWithOtherRows as others
use Rattle.hyd_net.specs.declared.refusal_cause.Cause.{Cause}
use Rattle.hyd_rows_and_tables.specs.FirstWrongRow.{kept}
use Rattle.hyd_rows_and_tables.proofs.FirstWrongRowLemmas.{filter_more, filter_same, found_skip, found_kept}
use Rattle.hyd_judge_nodes_curves_and_options.specs.Demands.{AreDemands, demand_fault}
use Rattle.hyd_rows_and_tables.specs.WrongInSection.{IsWrongIn}
use Rattle.hyd_judge_nodes_curves_and_options.specs.declared.demands.Demands.{Demands}
use Rattle.hyd_rows_and_tables.proofs.WrongInSectionLemmas.{verdict_without_capacity, other_section}
use Rattle.hyd_theorems_on_input.proofs.RowsWithoutFault.{none_alone}

by_itself : (section : Section) (earlier : List (List (List ℕ))) (words : List (List ℕ)) (later : List (List (List ℕ)))
    → (place section == 6) ≡ true → itself.section_fault section earlier words later ≡ row_form.demand words
by_itself InDemands earlier words later h = refl
by_itself _ earlier words later h = absurd (true≢false (sym h))

pub demand_is_right : (rows : List Row) (k : ℕ) (row : Row) → NoneIs (IsWrongByItself rows)
    → slice_get rows k ≡ Some row → is_of InDemands row ≡ true → row_form.demand row.words ≡ None
demand_is_right rows k row right is member =
    sym (by_itself row.section _ row.words _ member)
    ∙ none_alone rows k row right is

fault_is : (section : Section) (rows : List Row) (k : ℕ) (row : Row) → (place section == 6) ≡ true
    → others.section_fault section rows k row ≡ others.demand rows k row
fault_is InDemands rows k row h = refl
fault_is _ rows k row h = absurd (true≢false (sym h))

no_capacity : (section : Section) (rows : List Row) (acting : Bool) (row : Row) → (place section == 6) ≡ true
    → IsRefusedIn section rows acting row → ⊥
no_capacity InDemands rows acting row h refused = refused
no_capacity _ rows acting row h refused = absurd (true≢false (sym h))

demand_fault_is : (rows : List Row) (k : ℕ) (row : Row) (unit : FlowUnit) (count : ℕ) → unit ≡ force.unit rows
    → count ≡ length (rows_of InDemands (take (k + 1) rows))
    → demand_fault rows unit count row.words ≡ others.demand rows k row
demand_fault_is rows k row unit count u n = rw (u, n) refl

pub skip_row : (rows : List Row) (k : ℕ) (row : Row) (demands : Demands) → AreDemands rows k demands
    → slice_get rows k ≡ Some row → is_of InDemands row ≡ false → AreDemands rows (k + 1) demands
skip_row rows k row demands before is other =
    let same : rows_of InDemands (take (k + 1) rows) ≡ rows_of InDemands (take k rows) =
    filter_same (is_of InDemands) rows k row is other in
    record {
      count = rw same before.count;
      small = omega (arith, before.small);
      found = found_skip rows (IsWrongIn InDemands rows) k demands.found before.found
          (other_section InDemands rows k row is other);
    }

pub add_row : (rows : List Row) (k : ℕ) (row : Row) (demands next : Demands) (unit : FlowUnit) (fault : Option Cause)
    → AreDemands rows k demands → slice_get rows k ≡ Some row → is_of InDemands row ≡ true → unit ≡ force.unit rows
    → next.count ≡ demands.count + 1 → fault ≡ demand_fault rows unit next.count row.words
    → next.found ≡ kept demands.found k row.number fault → AreDemands rows (k + 1) next
add_row rows k row demands next unit fault before is member u n f found =
    let more : rows_of InDemands (take (k + 1) rows) ≡ rows_of InDemands (take k rows) ++ row ∷ [] =
    filter_more (is_of InDemands) rows k row is member in
    let count : next.count ≡ length (rows_of InDemands (take (k + 1) rows)) =
    rw more (n ∙ ap (λ m. m + 1) before.count
    ∙ sym (length-append (rows_of InDemands (take k rows)) (row ∷ []))) in
    let verdict : fault ≡ others.row_fault rows k row =
    f ∙ demand_fault_is rows k row unit next.count u count ∙ sym (fault_is row.section rows k row member) in
    record {
      count = count;
      small = omega (arith, before.small, n);
      found = rw found (found_kept rows (IsWrongIn InDemands rows) k row demands.found fault before.found is
          (verdict_without_capacity InDemands rows k row fault is member
          (no_capacity row.section rows (others.holds_action (take k rows) row) row member) verdict));
    }
