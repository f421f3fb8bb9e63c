-- The nodes, one row further.
use Rattle.std.proofs.Common.{◌≡◌, ◌+◌, ◌≤◌, ◌++◌, ℕ, Bool, true, false, not, List, [], ◌∷◌, take, length, slice_get}
use Rattle.std.proofs.Common.{Option, Some, None, refl, sym, ap, ◌∙◌, subst, arith, ◌==◌, ◌||◌, true≢false}
use Rattle.std.proofs.Common.{length-append}
use Rattle.std.specs.Prelude.{ℤ, pos, ◌^◌}
use Rattle.hyd_num.specs.FileQuantity.{is_us_unit, head_ticks}
use Rattle.hyd_num.specs.declared.flow_units.FlowUnit.{FlowUnit}
use Rattle.hyd_spec_lines.specs.Lines.{Row}
use Rattle.hyd_spec_lines.specs.declared.section.Section.{Section}
use Rattle.hyd_spec_lines.specs.declared.section.Section.TheVariants.{Junctions, Reservoirs, Tanks}
use Rattle.hyd_net.specs.declared.refusal_cause.Cause.{Cause}
use Rattle.hyd_net.specs.declared.refusal_cause.Cause.TheVariants.{Range}
use Rattle.hyd_spec_input.specs.SingleRows as itself
use Rattle.hyd_spec_input.specs.SingleRows.{IsWrongByItself}
use Rattle.hyd_spec_input.specs.CapacitiesOutOfRange.{IsRefusedIn}
use Rattle.hyd_spec_input.specs.Columns.{or_else, unless, amount, amount_or}
use Rattle.hyd_spec_input.specs.Faults.{NoneIs}
use Rattle.hyd_spec_input.specs.OptionsAndTimesInForce as force
use Rattle.hyd_spec_input.specs.NodeAndLinkRows.{tank_curve}
use Rattle.hyd_spec_input.specs.SectionsAndTables.{place, is_of, is_node, rows_of, node_rows, own_id, has_id}
use Rattle.hyd_spec_input.specs.FaultsWithOtherRows as others
use Rattle.hyd_spec_input.specs.FaultsWithOtherRows.{multipliers_of}
use Rattle.hyd_rows_and_tables.specs.FirstWrongRow.{IsVerdict, kept}
use Rattle.hyd_rows_and_tables.specs.QuantityRanges.{head_fault, flow_fault}
use Rattle.hyd_rows_and_tables.specs.WrongInSection.{IsWrongIn}
use Rattle.hyd_rows_and_tables.specs.IdTables.{AreFirsts}
use Rattle.hyd_rows_and_tables.proofs.FirstWrongRowLemmas.{filter_more, filter_same, found_skip, found_kept}
use Rattle.hyd_rows_and_tables.proofs.WrongInSectionLemmas.{verdict_without_capacity}
use Rattle.hyd_judge_nodes_curves_and_options.specs.Extremes.{Bounds, AreExtremes}
use Rattle.hyd_judge_nodes_curves_and_options.specs.NodeFaults.{junction_fault, is_head_times, times_fault, heads_fault}
use Rattle.hyd_judge_nodes_curves_and_options.specs.NodeFaults.{reservoir_fault, tank_fault}
use Rattle.hyd_curves.proofs.VolumeCurveLemmas.{volume_curve_is}
use Rattle.hyd_judge_nodes_curves_and_options.specs.JudgedNodes.{IsWrongNode, counted, node_alone, fault_among}
use Rattle.hyd_judge_nodes_curves_and_options.specs.JudgedNodes.{AreCounts, AreNodes}
use Rattle.hyd_judge_nodes_curves_and_options.specs.declared.nodes.Counts.{Counts}
use Rattle.hyd_judge_nodes_curves_and_options.specs.declared.nodes.Nodes.{Nodes}
use Rattle.hyd_theorems_on_input.proofs.RowsWithoutFault.{none_alone}
use Rattle.hyd_theorems_on_input.proofs.ListsByPlace.{own_section}
use Rattle.hyd_judge_nodes_curves_and_options.proofs.ExtremeLemmas.{test_of_all, times_is_convex}

-- ---- heads times multipliers

pub heads_are : (rows : List Row) (unit : FlowUnit) (nano : ℤ) (pattern : Option (List ℕ)) (extremes : Option Bounds)
    → head_fault unit nano ≡ None → AreExtremes (multipliers_of rows pattern) extremes
    → times_fault unit nano extremes ≡ heads_fault rows unit nano pattern
heads_are rows unit nano pattern extremes right are =
    rw right (ap (λ b. unless b Range) (sym (test_of_all (is_head_times unit nano)
    (times_is_convex (10 ^ 26) (head_ticks (is_us_unit unit) nano)) (multipliers_of rows pattern) extremes are)))

-- ---- a node that is right by itself

by_itself : (section : Section) (earlier : List (List (List ℕ))) (words : List (List ℕ)) (later : List (List (List ℕ)))
    → itself.section_fault section earlier words later ≡ None → node_alone section words ≡ None
by_itself Junctions earlier words later e = e
by_itself Reservoirs earlier words later e = e
by_itself Tanks earlier words later e = e
by_itself _ earlier words later e = refl

pub node_is_right : (rows : List Row) (k : ℕ) (row : Row) → NoneIs (IsWrongByItself rows)
    → slice_get rows k ≡ Some row → node_alone row.section row.words ≡ None
node_is_right rows k row right is =
    by_itself row.section _ row.words _
    (none_alone rows k row right is)

-- ---- a node among all rows

abbrev is_node_section : Section → Bool
is_node_section Junctions = true
is_node_section Reservoirs = true
is_node_section Tanks = true
is_node_section _ = false

nodes_are : (section : Section) → ((place section == 0) || ((place section == 1) || (place section == 2)))
    ≡ is_node_section section
nodes_are Junctions = refl
nodes_are Reservoirs = refl
nodes_are Tanks = refl
nodes_are _ = refl

in_turn : (one two next : Option Cause) → or_else (or_else one two) next ≡ or_else one (or_else two next)
in_turn None two next = refl
in_turn (Some cause) two next = refl

-- the faults before the quantities
abbrev before : List Row → ℕ → ℕ → List Row → Row → Option Cause → Option Cause → Option Cause
before earlier most detail same row named next =
    or_else (others.passes most detail (length same)) (or_else (others.new_in earlier row) (or_else named next))

junction_is : (rows : List Row) (k : ℕ) (row : Row) → junction_fault rows (force.unit rows)
    (length (rows_of Junctions (take (k + 1) rows))) (not (has_id (own_id row) (node_rows (take k rows)))) row.words
    ≡ others.junction rows k row
junction_is rows k row =
    ap (before (node_rows (take k rows)) 10000 4 (rows_of Junctions (take (k + 1) rows)) row
    (others.known_pattern rows (slice_get row.words 3)))
    (in_turn (head_fault (force.unit rows) (amount 1 row.words))
    (flow_fault (force.unit rows) (amount_or (pos 0) 2 row.words)) None)

reservoir_is : (rows : List Row) (k : ℕ) (row : Row) → reservoir_fault rows (force.unit rows)
    (length (rows_of Reservoirs (take (k + 1) rows))) (not (has_id (own_id row) (node_rows (take k rows)))) row.words
    ≡ others.reservoir rows k row
reservoir_is rows k row =
    ap (before (node_rows (take k rows)) 1000 5 (rows_of Reservoirs (take (k + 1) rows)) row
    (others.known_pattern rows (slice_get row.words 2)))
    (in_turn (head_fault (force.unit rows) (amount 1 row.words)) (others.each_multiplier
    (others.is_head_times rows (amount 1 row.words)) rows (slice_get row.words 2)) None)

levels_are : (a b c d e : Option Cause) → d ≡ e
    → or_else (or_else a (or_else b (or_else c d))) None ≡ or_else a (or_else b (or_else c (or_else e None)))
levels_are None None None d e s = rw s refl
levels_are None None (Some cause) d e s = refl
levels_are None (Some cause) c d e s = refl
levels_are (Some cause) b c d e s = refl

tank_is : (rows : List Row) (k : ℕ) (row : Row) → tank_fault rows (force.unit rows)
    (length (rows_of Tanks (take (k + 1) rows))) (not (has_id (own_id row) (node_rows (take k rows)))) row.words
    ≡ others.tank rows k row
tank_is rows k row =
    ap (before (node_rows (take k rows)) 32 6 (rows_of Tanks (take (k + 1) rows)) row
    (others.known_curve rows (tank_curve row.words)))
    (levels_are (others.head rows (amount 1 row.words)) (others.levels_apart rows row) _ _ _
    (volume_curve_is rows row (tank_curve row.words)))

fault_is : (section : Section) (rows : List Row) (k : ℕ) (row : Row) (unit : FlowUnit) (counts : Counts) (new : Bool)
    → is_node_section section ≡ true → unit ≡ force.unit rows → AreCounts rows (k + 1) counts
    → new ≡ not (has_id (own_id row) (node_rows (take k rows)))
    → fault_among section rows unit counts new row.words ≡ others.section_fault section rows k row
fault_is Junctions rows k row unit counts new h u n e = rw (u, n.junctions, e) (junction_is rows k row)
fault_is Reservoirs rows k row unit counts new h u n e = rw (u, n.reservoirs, e) (reservoir_is rows k row)
fault_is Tanks rows k row unit counts new h u n e = rw (u, n.tanks, e) (tank_is rows k row)
fault_is _ rows k row unit counts new h u n e = absurd (true≢false (sym h))

no_capacity : (section : Section) (rows : List Row) (acting : Bool) (row : Row) → is_node_section section ≡ true
    → IsRefusedIn section rows acting row → ⊥
no_capacity Junctions rows acting row h refused = refused
no_capacity Reservoirs rows acting row h refused = refused
no_capacity Tanks rows acting row h refused = refused
no_capacity _ rows acting row h refused = absurd (true≢false (sym h))

-- a verdict on a row of a section is one on a row of nodes
among_nodes : (rows : List Row) (k : ℕ) (row : Row) (cause : Option Cause) → slice_get rows k ≡ Some row
    → is_node row ≡ true → IsVerdict (IsWrongIn row.section rows k) cause → IsVerdict (IsWrongNode rows k) cause
among_nodes rows k row (Some cause) is member verdict =
    let same : verdict.row ≡ row = cc in
    record { row = verdict.row; row_is = verdict.row_is; member = rw same member; wrong = verdict.wrong }
among_nodes rows k row None is member verdict = λ cause w.
    let same : w.row ≡ row = cc in
    verdict cause (record {
      row = w.row;
      row_is = w.row_is;
      member = rw same
          (own_section row.section);
      wrong = w.wrong;
    })

node_verdict : (rows : List Row) (k : ℕ) (row : Row) (unit : FlowUnit) (counts : Counts) (new : Bool)
    (cause : Option Cause) → slice_get rows k ≡ Some row → is_node row ≡ true → unit ≡ force.unit rows
    → AreCounts rows (k + 1) counts → new ≡ not (has_id (own_id row) (node_rows (take k rows)))
    → cause ≡ fault_among row.section rows unit counts new row.words → IsVerdict (IsWrongNode rows k) cause
node_verdict rows k row unit counts new cause is member u n e c =
    let h : is_node_section row.section ≡ true = sym (nodes_are row.section) ∙ member in
    among_nodes rows k row cause is member
    (verdict_without_capacity row.section rows k row cause is (own_section row.section)
    (no_capacity row.section rows (others.holds_action (take k rows) row) row h)
    (c ∙ fault_is row.section rows k row unit counts new h u n e))

-- ---- counts

count_here : (section : Section) (rows : List Row) (k n : ℕ) (row : Row) → slice_get rows k ≡ Some row
    → is_of section row ≡ true → n ≡ length (rows_of section (take k rows))
    → n + 1 ≡ length (rows_of section (take (k + 1) rows))
count_here section rows k n row is member e =
    ap (λ m. m + 1) e ∙ sym (length-append (rows_of section (take k rows)) (row ∷ []))
    ∙ ap length (sym (filter_more (is_of section) rows k row is member))

count_there : (section : Section) (rows : List Row) (k n : ℕ) (row : Row) → slice_get rows k ≡ Some row
    → is_of section row ≡ false → n ≡ length (rows_of section (take k rows))
    → n ≡ length (rows_of section (take (k + 1) rows))
count_there section rows k n row is other e = e ∙ ap length (sym (filter_same (is_of section) rows k row is other))

counts_in : (section : Section) (rows : List Row) (k : ℕ) (row : Row) (counts : Counts) → row.section ≡ section
    → slice_get rows k ≡ Some row → AreCounts rows k counts → AreCounts rows (k + 1) (counted section counts)
counts_in Junctions rows k row counts s is c = record {
  junctions = count_here Junctions rows k counts.junctions row is (rw s refl) c.junctions;
  reservoirs = count_there Reservoirs rows k counts.reservoirs row is (rw s refl) c.reservoirs;
  tanks = count_there Tanks rows k counts.tanks row is (rw s refl) c.tanks;
  few_junctions = omega (arith, c.few_junctions);
  few_reservoirs = omega (arith, c.few_reservoirs);
  few_tanks = omega (arith, c.few_tanks);
}
counts_in Reservoirs rows k row counts s is c = record {
  junctions = count_there Junctions rows k counts.junctions row is (rw s refl) c.junctions;
  reservoirs = count_here Reservoirs rows k counts.reservoirs row is (rw s refl) c.reservoirs;
  tanks = count_there Tanks rows k counts.tanks row is (rw s refl) c.tanks;
  few_junctions = omega (arith, c.few_junctions);
  few_reservoirs = omega (arith, c.few_reservoirs);
  few_tanks = omega (arith, c.few_tanks);
}
counts_in Tanks rows k row counts s is c = record {
  junctions = count_there Junctions rows k counts.junctions row is (rw s refl) c.junctions;
  reservoirs = count_there Reservoirs rows k counts.reservoirs row is (rw s refl) c.reservoirs;
  tanks = count_here Tanks rows k counts.tanks row is (rw s refl) c.tanks;
  few_junctions = omega (arith, c.few_junctions);
  few_reservoirs = omega (arith, c.few_reservoirs);
  few_tanks = omega (arith, c.few_tanks);
}
counts_in _ rows k row counts s is c = record {
  junctions = count_there Junctions rows k counts.junctions row is (rw s refl) c.junctions;
  reservoirs = count_there Reservoirs rows k counts.reservoirs row is (rw s refl) c.reservoirs;
  tanks = count_there Tanks rows k counts.tanks row is (rw s refl) c.tanks;
  few_junctions = omega (arith, c.few_junctions);
  few_reservoirs = omega (arith, c.few_reservoirs);
  few_tanks = omega (arith, c.few_tanks);
}

-- ---- rows

-- a row of another section is none of nodes
uncounted : (section : Section) (counts : Counts) → is_node_section section ≡ false → counted section counts ≡ counts
uncounted Junctions counts h = absurd (true≢false h)
uncounted Reservoirs counts h = absurd (true≢false h)
uncounted Tanks counts h = absurd (true≢false h)
uncounted _ counts h = refl

pub skip_row : (text : List ℕ) (rows : List Row) (k : ℕ) (row : Row) (nodes : Nodes) → AreNodes text rows k nodes
    → slice_get rows k ≡ Some row → is_node row ≡ false → AreNodes text rows (k + 1) nodes
skip_row text rows k row nodes before is other =
    let same : node_rows (take (k + 1) rows) ≡ node_rows (take k rows) = filter_same is_node rows k row is other in
    record {
      counts = subst (AreCounts rows (k + 1)) (uncounted row.section nodes.counts (sym (nodes_are row.section) ∙ other))
          (counts_in row.section rows k row nodes.counts refl is before.counts);
      table = (let P : List Row → Type 0 = λ rs. AreFirsts text rs nodes.table.names nodes.table.firsts.items in
          subst P (sym same) before.table);
      few = omega (arith, before.few);
      found = found_skip rows (IsWrongNode rows) k nodes.found before.found (λ cause w.
          let alike : w.row ≡ row = cc in
          let member : is_node row ≡ true = rw (← alike) w.member in
          true≢false (sym member ∙ other));
    }

pub add_row : (text : List ℕ) (rows : List Row) (k : ℕ) (row : Row) (nodes next : Nodes) (unit : FlowUnit) (new : Bool)
    (cause : Option Cause) → AreNodes text rows k nodes → slice_get rows k ≡ Some row → is_node row ≡ true
    → unit ≡ force.unit rows → next.counts ≡ counted row.section nodes.counts
    → AreFirsts text (node_rows (take k rows) ++ row ∷ []) next.table.names next.table.firsts.items
    → length next.table.names ≤ length nodes.table.names + 1
    → new ≡ not (has_id (own_id row) (node_rows (take k rows)))
    → cause ≡ fault_among row.section rows unit next.counts new row.words
    → next.found ≡ kept nodes.found k row.number cause → AreNodes text rows (k + 1) next
add_row text rows k row nodes next unit new cause before is member u n table longer e c found =
    let more : node_rows (take (k + 1) rows) ≡ node_rows (take k rows) ++ row ∷ [] =
    filter_more is_node rows k row is member in
    let counts : AreCounts rows (k + 1) next.counts =
    subst (AreCounts rows (k + 1)) (sym n) (counts_in row.section rows k row nodes.counts refl is before.counts) in
    record {
      counts = counts;
      table = (let P : List Row → Type 0 = λ rs. AreFirsts text rs next.table.names next.table.firsts.items in
          subst P (sym more) table);
      few = omega (arith, before.few, longer);
      found = rw found (found_kept rows (IsWrongNode rows) k row nodes.found cause before.found is
          (node_verdict rows k row unit next.counts new cause is member u counts e c));
    }
