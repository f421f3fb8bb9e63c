-- The demands among the first rows of a file.
use Rattle.std.specs.Prelude.{◌≡◌, ℕ, ◌≤◌, List, [], ◌∷◌, length, take, slice_get, Option}
use Rattle.hyd_num.specs.declared.flow_units.FlowUnit.{FlowUnit}
use Rattle.hyd_spec_lines.specs.Lines.{Row}
use Rattle.hyd_spec_lines.specs.declared.section.Section.TheVariants.{Demands as InDemands}
use Rattle.hyd_spec_input.specs.Columns.{first, word, amount}
use Rattle.hyd_spec_input.specs.SectionsAndTables.{rows_of}
use Rattle.hyd_spec_input.specs.FaultsWithOtherRows.{passes, known_junction, known_pattern}
use Rattle.hyd_net.specs.CountLimits.{most_demands}
use Rattle.hyd_net.specs.declared.refusal_cause.Cause.{Cause}
use Rattle.hyd_rows_and_tables.specs.FirstWrongRow.{HasFound}
use Rattle.hyd_rows_and_tables.specs.QuantityRanges.{flow_fault}
use Rattle.hyd_rows_and_tables.specs.WrongInSection.{IsWrongIn}
use Rattle.hyd_judge_nodes_curves_and_options.specs.declared.demands.Demands.{Demands}

-- what a row of demands is asked, by the unit and its count
abbrev pub demand_fault : List Row → FlowUnit → ℕ → List (List ℕ) → Option Cause
demand_fault rows unit count words =
    first (passes most_demands 10 count ∷ known_junction rows (word 0 words) ∷ known_pattern rows (slice_get words 2)
    ∷ flow_fault unit (amount 1 words) ∷ [])

pub record AreDemands (rows : List Row) (k : ℕ) (demands : Demands) : Type 0 where
  pub count : demands.count ≡ length (rows_of InDemands (take k rows))
  pub small : demands.count ≤ k
  pub found : HasFound rows (IsWrongIn InDemands rows) k demands.found
