-- Links whose states are asked for.
use Rattle.std.specs.Prelude.{◌≡◌, ◌^◌, Bool, true, false, ◌&&◌, not, [], ◌∷◌, Option, None, ℤ, pos, ◌≤ℤ◌}
use lib.Signed.{le_z}
use Rattle.hyd_num.specs.declared.decimals.Decimal.{Decimal}
use Rattle.hyd_num.specs.FileQuantity.{is_us_unit}
use Rattle.hyd_num.specs.declared.flow_units.FlowUnit.{FlowUnit}
use Rattle.hyd_spec_lines.specs.Lines.{Row}
use Rattle.hyd_spec_lines.specs.declared.section.Section.TheVariants.{Pipes, Pumps, Valves}
use Rattle.hyd_spec_lines.specs.declared.section.Section.{Section}
use Rattle.hyd_option_and_rule_lines.specs.declared.controls.Asked.{Asked}
use Rattle.hyd_option_and_rule_lines.specs.declared.controls.Asked.TheVariants.{Number}
use Rattle.hyd_spec_input.specs.SingleRows.{section_fault}
use Rattle.hyd_spec_input.specs.CapacitiesOutOfRange.{IsRefusedValve}
use Rattle.hyd_spec_input.specs.Columns.{amount, or_else, first, unless, units}
use Rattle.hyd_spec_input.specs.NodeAndLinkRows.{has_check_valve, is_throttle, is_general}
use Rattle.hyd_spec_input.specs.Project.{IsOpenValve}
use Rattle.hyd_spec_input.specs.SectionsAndTables.{is_link}
use Rattle.hyd_spec_input.specs.FaultsWithOtherRows.{is_speed}
use Rattle.hyd_net.specs.declared.refusal_cause.Cause.{Cause}
use Rattle.hyd_net.specs.declared.refusal_cause.Cause.TheVariants.{Syntax, Range, Unsupported}
use Rattle.hyd_net.specs.declared.links.LinkState.{LinkState}
use Rattle.hyd_net.specs.declared.links.LinkState.TheVariants.{Open, Speed, Throttle}
use Rattle.hyd_rows_and_tables.specs.QuantityRanges.{flow_fault}
use Rattle.hyd_judge_links_controls_and_rules.specs.declared.link_types.LinkType.{LinkType}
use Rattle.hyd_judge_links_controls_and_rules.specs.declared.link_types.LinkType.TheVariants.{Pipe, CheckPipe, Pump, Tcv, Fcv, Gpv}

-- ---- links

-- the row of a link, right by itself
pub record IsRightLink (row : Row) : Type 0 where
  pub link : is_link row ≡ true
  pub right : section_fault row.section [] row.words [] ≡ None

-- what the row of a link is
abbrev pub IsType : Row → LinkType → Type 0
IsType row Pipe = (row.section ≡ Pipes) × (has_check_valve row.words ≡ false)
IsType row CheckPipe = (row.section ≡ Pipes) × (has_check_valve row.words ≡ true)
IsType row Pump = row.section ≡ Pumps
IsType row Tcv = (row.section ≡ Valves) × (is_general row.words ≡ false) × (is_throttle row.words ≡ true)
IsType row Fcv = (row.section ≡ Valves) × (is_general row.words ≡ false) × (is_throttle row.words ≡ false)
IsType row Gpv = (row.section ≡ Valves) × (is_general row.words ≡ true)

-- ---- what is asked of them

abbrev pub speed_fault : ℤ → Option Cause
speed_fault nano = unless (is_speed nano) Range

abbrev pub coefficient_fault : ℤ → Option Cause
coefficient_fault nano = unless (le_z (pos 0) nano && le_z nano (units (10 ^ 6))) Range

abbrev pub limit_fault : FlowUnit → ℤ → Option Cause
limit_fault unit nano = or_else (unless (le_z (pos 0) nano) Range) (flow_fault unit nano)

-- pumps, throttle control valves and flow control valves take a number
abbrev pub takes_number : LinkType → Bool
takes_number Pump = true
takes_number Tcv = true
takes_number Fcv = true
takes_number _ = false

abbrev pub takes : LinkType → Asked → Bool
takes link (Number number) = takes_number link
takes link _ = true

abbrev pub number_fault : FlowUnit → LinkType → ℤ → Option Cause
number_fault unit Pump nano = speed_fault nano
number_fault unit Tcv nano = coefficient_fault nano
number_fault unit _ nano = limit_fault unit nano

abbrev pub range_fault : FlowUnit → LinkType → Asked → Option Cause
range_fault unit link (Number number) = number_fault unit link number.nano
range_fault unit link _ = None

abbrev pub is_check_pipe : LinkType → Bool
is_check_pipe CheckPipe = true
is_check_pipe _ = false

-- what is wrong with a state that is asked of a link of a type
abbrev pub type_fault : FlowUnit → LinkType → Asked → Option Cause → Option Cause
type_fault unit link asked between =
    first (unless (takes link asked) Syntax ∷ between
    ∷ unless (not (is_check_pipe link)) (Unsupported 11) ∷ range_fault unit link asked ∷ [])

-- ---- right states

-- a throttle's loss coefficient: at least 0, at most a million
pub record IsThrottleCoefficient (number : Decimal) : Type 0 where
  pub not_negative : pos 0 ≤ℤ number.nano
  pub at_most : number.nano ≤ℤ units (10 ^ 6)

-- OPEN: of a pump, speed 1
abbrev pub open_state : LinkType → LinkState
open_state Pump = Speed (units 1)
open_state _ = Open

-- a throttle control valve of a diameter, throttled to a coefficient, both in billionths
abbrev pub IsThrottled : Bool → ℤ → ℤ → LinkState → Type 0
IsThrottled us diameter nano (Throttle coefficient law) = (coefficient ≡ nano) × IsOpenValve us diameter nano law
IsThrottled us diameter nano _ = ⊥

-- nothing is wrong with a state that is asked of a link, its capacity aside
pub record IsAllowed (unit : FlowUnit) (row : Row) (asked : Asked) : Type 0 where
  pub link : LinkType
  pub type_is : IsType row link
  pub right : type_fault unit link asked None ≡ None

-- the capacity of a throttle's setting is out of range; no other state has a capacity of its own
abbrev pub IsRefusedAsked : FlowUnit → Row → LinkType → Asked → Type 0
IsRefusedAsked unit row Tcv (Number number) = IsRefusedValve (amount 3 row.words) number.nano (is_us_unit unit)
IsRefusedAsked unit row _ _ = ⊥

-- nor is its capacity out of range
pub record IsSettable (unit : FlowUnit) (row : Row) (asked : Asked) : Type 0 where
  pub link : LinkType
  pub type_is : IsType row link
  pub right : type_fault unit link asked None ≡ None
  pub free : IsRefusedAsked unit row link asked → ⊥

-- a section of links
abbrev pub is_link_section : Section → Bool
is_link_section Pipes = true
is_link_section Pumps = true
is_link_section Valves = true
is_link_section _ = false
