-- The links, one row further.
use Rattle.std.proofs.Common.{◌≡◌, ◌+◌, ◌≤◌, ◌++◌, ℕ, Bool, true, false, not, List, [], ◌∷◌, take, length, slice_get}
use Rattle.std.proofs.Common.{Option, Some, None, refl, sym, ap, ◌∙◌, subst, arith, ◌==◌, ◌||◌, true≢false}
use Rattle.std.specs.Prelude.{if◌then◌else◌}
use Rattle.std.proofs.Common.{length-append}
use Rattle.hyd_num.specs.declared.flow_units.FlowUnit.{FlowUnit}
use Rattle.hyd_spec_lines.specs.Lines.{Row}
use Rattle.hyd_spec_lines.specs.declared.section.Section.{Section}
use Rattle.hyd_spec_lines.specs.declared.section.Section.TheVariants.{Pipes, Pumps, Valves}
use Rattle.hyd_net.specs.declared.refusal_cause.Cause.{Cause}
use Rattle.hyd_spec_input.specs.SingleRows as itself
use Rattle.hyd_spec_input.specs.SingleRows.{IsWrongByItself}
use Rattle.hyd_spec_input.specs.CapacitiesOutOfRange.{IsRefusedIn, IsRefusedRow}
use Rattle.hyd_spec_input.specs.Faults.{NoneIs}
use Rattle.hyd_spec_input.specs.NodeAndLinkRows.{pipe_by}
use Rattle.hyd_spec_input.specs.OptionsAndTimesInForce as force
use Rattle.hyd_spec_input.specs.SectionsAndTables.{place, is_of, is_link, link_rows, own_id, has_id}
use Rattle.hyd_spec_input.specs.FaultsWithOtherRows as others
use Rattle.hyd_rows_and_tables.specs.FirstWrongRow.{IsVerdict, kept}
use Rattle.hyd_rows_and_tables.specs.WrongInSection.{IsFaultThen, IsWrongIn}
use Rattle.hyd_rows_and_tables.specs.IdTables.{AreFirsts}
use Rattle.hyd_rows_and_tables.proofs.FirstWrongRowLemmas.{filter_more, filter_same, found_skip, found_kept}
use Rattle.hyd_rows_and_tables.proofs.WrongInSectionLemmas.{verdict_with_capacity, fault_then_alike}
use Rattle.hyd_judge_links_controls_and_rules.specs.LinksSoFar.{AreLinks, IsWrongLink}
use Rattle.hyd_judge_links_controls_and_rules.specs.LinkFaults.{link_alone, fault_among, IsRefusedLink}
use Rattle.hyd_judge_links_controls_and_rules.specs.declared.links.Links.{Links}
use Rattle.hyd_theorems_on_input.proofs.RowsWithoutFault.{none_from}
use Rattle.hyd_theorems_on_input.proofs.ListsByPlace.{own_section}
use Rattle.hyd_judge_links_controls_and_rules.specs.AskedStatesOfLinks.{is_link_section}

-- ---- a link that is right by itself

by_itself : (by_power : Bool) (section : Section) (earlier : List (List (List ℕ))) (words : List (List ℕ))
    (later : List (List (List ℕ))) → (if place section == place Pipes then pipe_by by_power words
    else itself.section_fault section earlier words later) ≡ None → link_alone by_power section words ≡ None
by_itself by_power Pipes earlier words later e = e
by_itself by_power Pumps earlier words later e = e
by_itself by_power Valves earlier words later e = e
by_itself by_power _ earlier words later e = refl

pub link_is_right : (rows : List Row) (k : ℕ) (row : Row) → NoneIs (IsWrongByItself rows)
    → slice_get rows k ≡ Some row → link_alone (force.has_hazen_williams rows) row.section row.words ≡ None
link_is_right rows k row right is =
    by_itself (force.has_hazen_williams rows) row.section _ row.words _
    (none_from (itself.row_fault rows k row) (λ cause f. right k cause (record { row = row; row_is = is; fault = f })))

-- ---- a link among all rows

links_are : (section : Section) → ((place section == 3) || ((place section == 4) || (place section == 5)))
    ≡ is_link_section section
links_are Pipes = refl
links_are Pumps = refl
links_are Valves = refl
links_are _ = refl

fault_is : (section : Section) (rows : List Row) (k : ℕ) (row : Row) (unit : FlowUnit) (count : ℕ) (new : Bool)
    → is_link_section section ≡ true → unit ≡ force.unit rows → count ≡ length (link_rows (take (k + 1) rows))
    → new ≡ not (has_id (own_id row) (link_rows (take k rows)))
    → fault_among section rows unit count new row.words ≡ others.section_fault section rows k row
fault_is Pipes rows k row unit count new h u n e = rw (n, e) refl
fault_is Pumps rows k row unit count new h u n e = rw (n, e) refl
fault_is Valves rows k row unit count new h u n e = rw (u, n, e) refl
fault_is _ rows k row unit count new h u n e = absurd (true≢false (sym h))

refused_in : (section : Section) (rows : List Row) (acting : Bool) (row : Row) (unit : FlowUnit)
    → is_link_section section ≡ true → unit ≡ force.unit rows
    → (IsRefusedLink section rows unit row.words → IsRefusedIn section rows acting row)
    × (IsRefusedIn section rows acting row → IsRefusedLink section rows unit row.words)
refused_in Pipes rows acting row unit h u = rw u (λ x. x, λ x. x)
refused_in Pumps rows acting row unit h u = (λ x. x, λ x. x)
refused_in Valves rows acting row unit h u = rw u (λ x. x, λ x. x)
refused_in _ rows acting row unit h u = absurd (true≢false (sym h))

-- a verdict on a row of a section is one on a row of links
among_links : (rows : List Row) (k : ℕ) (row : Row) (cause : Option Cause) → slice_get rows k ≡ Some row
    → is_link row ≡ true → IsVerdict (IsWrongIn row.section rows k) cause → IsVerdict (IsWrongLink rows k) cause
among_links rows k row (Some cause) is member verdict =
    let same : verdict.row ≡ row = cc in
    record { row = verdict.row; row_is = verdict.row_is; member = rw same member; wrong = verdict.wrong }
among_links rows k row None is member verdict = λ cause w.
    let same : w.row ≡ row = cc in
    let member : is_of row.section w.row ≡ true = rw same (own_section row.section) in
    verdict cause (record { row = w.row; row_is = w.row_is; member = member; wrong = w.wrong })

link_verdict : (rows : List Row) (k : ℕ) (row : Row) (unit : FlowUnit) (count : ℕ) (new : Bool) (cause : Option Cause)
    → slice_get rows k ≡ Some row → is_link row ≡ true → unit ≡ force.unit rows
    → count ≡ length (link_rows (take (k + 1) rows)) → new ≡ not (has_id (own_id row) (link_rows (take k rows)))
    → IsFaultThen (fault_among row.section rows unit count new row.words)
    (IsRefusedLink row.section rows unit row.words) cause
    → IsVerdict (IsWrongLink rows k) cause
link_verdict rows k row unit count new cause is member u n e verdict =
    let h : is_link_section row.section ≡ true = sym (links_are row.section) ∙ member in
    let both = refused_in row.section rows (others.holds_action (take k rows) row) row unit h u in
    among_links rows k row cause is member
    (verdict_with_capacity row.section rows k row (fault_among row.section rows unit count new row.words) cause is
    (own_section row.section) (fault_is row.section rows k row unit count new h u n e)
    (fault_then_alike (fault_among row.section rows unit count new row.words)
    (IsRefusedLink row.section rows unit row.words) (IsRefusedRow rows (take k rows) row) cause both.0 both.1 verdict))

-- ---- rows

pub skip_row : (text : List ℕ) (rows : List Row) (k : ℕ) (row : Row) (links : Links) → AreLinks text rows k links
    → slice_get rows k ≡ Some row → is_link row ≡ false → AreLinks text rows (k + 1) links
skip_row text rows k row links before is other =
    let same : link_rows (take (k + 1) rows) ≡ link_rows (take k rows) = filter_same is_link rows k row is other in
    record {
      count = rw same before.count;
      small = omega (arith, before.small);
      table = (let P : List Row → Type 0 = λ rs. AreFirsts text rs links.table.names links.table.firsts.items in
          subst P (sym same) before.table);
      few = omega (arith, before.few);
      found = found_skip rows (IsWrongLink rows) k links.found before.found (λ cause w.
          let alike : w.row ≡ row = cc in
          let member : is_link row ≡ true = rw (← alike) w.member in
          true≢false (sym member ∙ other));
    }

pub add_row : (text : List ℕ) (rows : List Row) (k : ℕ) (row : Row) (links next : Links) (unit : FlowUnit) (new : Bool)
    (cause : Option Cause) → AreLinks text rows k links → slice_get rows k ≡ Some row → is_link row ≡ true
    → unit ≡ force.unit rows → next.count ≡ links.count + 1
    → AreFirsts text (link_rows (take k rows) ++ row ∷ []) next.table.names next.table.firsts.items
    → length next.table.names ≤ length links.table.names + 1
    → new ≡ not (has_id (own_id row) (link_rows (take k rows)))
    → IsFaultThen (fault_among row.section rows unit next.count new row.words)
    (IsRefusedLink row.section rows unit row.words) cause
    → next.found ≡ kept links.found k row.number cause → AreLinks text rows (k + 1) next
add_row text rows k row links next unit new cause before is member u n table longer e verdict found =
    let more : link_rows (take (k + 1) rows) ≡ link_rows (take k rows) ++ row ∷ [] =
    filter_more is_link rows k row is member in
    let count : next.count ≡ length (link_rows (take (k + 1) rows)) =
    rw more (n ∙ ap (λ m. m + 1) before.count ∙ sym (length-append (link_rows (take k rows)) (row ∷ []))) in
    record {
      count = count;
      small = omega (arith, before.small, n);
      table = (let P : List Row → Type 0 = λ rs. AreFirsts text rs next.table.names next.table.firsts.items in
          subst P (sym more) table);
      few = omega (arith, before.few, longer);
      found = rw found (found_kept rows (IsWrongLink rows) k row links.found cause before.found is
          (link_verdict rows k row unit next.count new cause is member u count e verdict));
    }
