-- A row whose numbers make no capacity in range.
-- Source: the ranges of capacities are this program's.
use Rattle.std.specs.Prelude.{◌≡◌, ℕ, Bool, true, false, ◌&&◌, not, List, Option, Some, None, ◌⊎◌, ℤ, pos, ◌<ℤ◌}
use Rattle.hyd_num.specs.Numeral.{nano_of}
use Rattle.hyd_num.specs.declared.decimals.Decimal.{Decimal}
use Rattle.hyd_num.specs.declared.flow_units.FlowUnit.{FlowUnit}
use Rattle.hyd_num.specs.declared.link_capacities.Origin.TheVariants.{Pipe, Valve, Pump, Emitter}
use Rattle.hyd_num.specs.CapacityRange.{IsRefused}
use Rattle.hyd_spec_power_laws.specs.PowerCapacities.{IsRefused as IsPowerRefused}
use Rattle.hyd_spec_lines.specs.Lines.{Row}
use Rattle.hyd_spec_lines.specs.declared.section.Section.{Section}
use Rattle.hyd_spec_lines.specs.declared.section.Section.TheVariants.{Pipes, Pumps, Valves, Emitters, Status, Controls}
use Rattle.hyd_spec_lines.specs.declared.section.Section.TheVariants.{Rules}
use Rattle.hyd_spec_input.specs.Columns.{word, amount}
use Rattle.hyd_spec_input.specs.NodeAndLinkRows.{pipe_minor, pump_curve, is_throttle, is_general, valve_minor}
use Rattle.hyd_spec_input.specs.SectionsAndTables.{is_of, link_named, curve_named}
use Rattle.hyd_spec_input.specs.OptionsAndTimesInForce.{unit, has_hazen_williams}
use Rattle.hyd_spec_input.specs.Curves.{Drop, drop_of, is_bent}
use Rattle.hyd_spec_input.specs.FaultsWithOtherRows.{us, is_status, holds_action}

-- ---- numbers in billionths

pub record IsRefusedPipe (length diameter roughness minor : ℤ) (us : Bool) : Type 0 where
  pub l : Decimal
  pub l_is : l.nano ≡ length
  pub d : Decimal
  pub d_is : d.nano ≡ diameter
  pub n : Decimal
  pub n_is : n.nano ≡ roughness
  pub k : Decimal
  pub k_is : k.nano ≡ minor
  pub refused : IsRefused (Pipe us l d n k)

-- with Hazen-Williams losses
pub record IsRefusedPowerPipe (length diameter coefficient minor : ℤ) (us : Bool) : Type 0 where
  pub l : Decimal
  pub l_is : l.nano ≡ length
  pub d : Decimal
  pub d_is : d.nano ≡ diameter
  pub c : Decimal
  pub c_is : c.nano ≡ coefficient
  pub k : Decimal
  pub k_is : k.nano ≡ minor
  pub refused : IsPowerRefused (record { length = l; diameter = d; coefficient = c; minor = k; us = us })

-- by the formula in force
abbrev pub IsRefusedPipeBy : Bool → (length diameter roughness minor : ℤ) → Bool → Type 0
IsRefusedPipeBy true length diameter roughness minor us = IsRefusedPowerPipe length diameter roughness minor us
IsRefusedPipeBy false length diameter roughness minor us = IsRefusedPipe length diameter roughness minor us

-- a coefficient of 0 makes a linear law, and no capacity
pub record IsRefusedValve (diameter coefficient : ℤ) (us : Bool) : Type 0 where
  pub above : pos 0 <ℤ coefficient
  pub d : Decimal
  pub d_is : d.nano ≡ diameter
  pub k : Decimal
  pub k_is : k.nano ≡ coefficient
  pub refused : IsRefused (Valve d k us)

pub record IsRefusedPump (drop : Drop) (unit : FlowUnit) : Type 0 where
  pub q : Decimal
  pub q_is : q.nano ≡ drop.flow
  pub h : Decimal
  pub h_is : h.nano ≡ drop.drop
  pub refused : IsRefused (Pump q h drop.thirds unit)

-- a coefficient of 0 is no emitter
pub record IsRefusedEmitter (coefficient : ℤ) (unit : FlowUnit) : Type 0 where
  pub above : pos 0 <ℤ coefficient
  pub c : Decimal
  pub c_is : c.nano ≡ coefficient
  pub refused : IsRefused (Emitter c unit)

-- ---- rows

-- a pump's curve of one point or three; one of four and more has no capacity
abbrev pub IsRefusedCurve : List Row → Option (List ℕ) → Type 0
IsRefusedCurve rows None = ⊥
IsRefusedCurve rows (Some name) =
    (is_bent (curve_named rows name) ≡ false) × IsRefusedPump (drop_of (curve_named rows name)) (unit rows)

-- a throttle control valve with a number as its setting
abbrev pub IsRefusedSetting : List Row → Option Row → List ℕ → Type 0
IsRefusedSetting rows None word = ⊥
IsRefusedSetting rows (Some link) word =
    ((is_of Valves link && (is_throttle link.words && not (is_status word))) ≡ true)
    × IsRefusedValve (amount 3 link.words) (nano_of word) (us rows)

-- a general purpose valve has no capacity
abbrev pub IsRefusedKind : List Row → Row → Type 0
IsRefusedKind rows row =
    (is_general row.words ≡ false)
    × (IsRefusedValve (amount 3 row.words) (valve_minor row.words) (us rows)
    ⊎ ((is_throttle row.words ≡ true) × IsRefusedValve (amount 3 row.words) (amount 5 row.words) (us rows)))

-- the capacity of a row of a section, or of the state that it asks for, where it may be the line of an action
abbrev pub IsRefusedIn : Section → List Row → Bool → Row → Type 0
IsRefusedIn Pipes rows acting row =
    IsRefusedPipeBy (has_hazen_williams rows) (amount 3 row.words) (amount 4 row.words) (amount 5 row.words)
    (pipe_minor row.words) (us rows)
IsRefusedIn Pumps rows acting row = IsRefusedCurve rows (pump_curve row.words)
IsRefusedIn Valves rows acting row = IsRefusedKind rows row
IsRefusedIn Emitters rows acting row = IsRefusedEmitter (amount 1 row.words) (unit rows)
IsRefusedIn Status rows acting row = IsRefusedSetting rows (link_named rows (word 0 row.words)) (word 1 row.words)
IsRefusedIn Controls rows acting row = IsRefusedSetting rows (link_named rows (word 1 row.words)) (word 2 row.words)
IsRefusedIn Rules rows acting row =
    (acting ≡ true) × IsRefusedSetting rows (link_named rows (word 2 row.words)) (word 5 row.words)
IsRefusedIn _ rows acting row = ⊥

-- a row whose capacity, or that of the state that it asks for, is out of range
abbrev pub IsRefusedRow : List Row → List Row → Row → Type 0
IsRefusedRow rows earlier row = IsRefusedIn row.section rows (holds_action earlier row) row
