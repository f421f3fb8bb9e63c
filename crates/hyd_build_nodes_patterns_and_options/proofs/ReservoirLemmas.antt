-- Reservoirs of a file without a fault.
use Rattle.std.proofs.Common.{◌≡◌, ◌*◌, ◌^◌, ◌≤◌, ℕ, true, List, Option, Some, None, refl, ◌∙◌, slice_get}
use Rattle.std.specs.Prelude.{unsigned_abs}
use Rattle.hyd_num.specs.FileQuantity.{is_us_unit, head_ticks}
use Rattle.hyd_num.specs.declared.flow_units.FlowUnit.{FlowUnit}
use Rattle.hyd_spec_lines.specs.Lines.{Row}
use Rattle.hyd_spec_lines.specs.declared.section.Section.TheVariants.{Reservoirs}
use Rattle.hyd_net.specs.declared.nodes.Reservoir.{Reservoir}
use Rattle.hyd_spec_input.specs.Columns.{amount}
use Rattle.hyd_spec_input.specs.Faults.{NoneIs, IsWrongWithOthers}
use Rattle.hyd_spec_input.specs.OptionsAndTimesInForce as force
use Rattle.hyd_spec_input.specs.MeaningsAcrossRows.{pattern_ids, pattern_number}
use Rattle.hyd_spec_input.specs.Project.{IsReservoir}
use Rattle.hyd_spec_input.specs.SectionsAndTables.{is_of}
use Rattle.hyd_spec_input.specs.FaultsWithOtherRows as others
use Rattle.hyd_theorems_on_input.proofs.RowsWithoutFault.{all_none}
use Rattle.hyd_theorems_on_input.proofs.NodeRanges.{head_right}
use Rattle.hyd_build_nodes_patterns_and_options.specs.ReservoirsAndTanks.{number_of, IsReservoirOf}
use Rattle.hyd_build_nodes_patterns_and_options.proofs.RowsWithoutFault.{among, small_head}

pub pattern_is : (rows : List Row) (name : Option (List ℕ)) → number_of
    (pattern_ids rows) name ≡ pattern_number rows name
pattern_is rows None = refl
pattern_is rows (Some name) = refl

pub reservoir_is : (rows : List Row) (row : Row) (r : Reservoir) (unit : FlowUnit) (patterns : List (List ℕ))
    → unit ≡ force.unit rows → patterns ≡ pattern_ids rows → IsReservoirOf unit patterns row.words r
    → IsReservoir rows row r
reservoir_is rows row r unit patterns u p of = record {
  head = rw (← u) of.head;
  pattern = of.pattern ∙ rw p (pattern_is rows (slice_get row.words 2));
}

pub head_is_small : (rows : List Row) (k : ℕ) (row : Row) (unit : FlowUnit) → NoneIs (IsWrongWithOthers rows)
    → slice_get rows k ≡ Some row → is_of Reservoirs row ≡ true → unit ≡ force.unit rows
    → unsigned_abs (head_ticks (is_us_unit unit) (amount 1 row.words)) ≤ 2 * 10 ^ 17
head_is_small rows k row unit right is of u =
    let each = all_none (others.reservoir_faults rows k row) (among Reservoirs rows k row right is of) in
    rw u (small_head _ (head_right rows (amount 1 row.words) each.1.1.1.0))
