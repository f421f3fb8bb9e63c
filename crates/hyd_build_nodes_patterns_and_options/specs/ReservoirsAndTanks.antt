-- Reservoirs and tanks as their rows make them, and the numbers of names.
use Rattle.std.specs.Prelude.{◌≡◌, ℕ, ◌≤◌, ◌*◌, ◌^◌, List, [], ◌∷◌, ◌++◌, Option, Some, None, slice_get, ℤ, pos, ◌≤ℤ◌}
use Rattle.std.specs.Prelude.{unsigned_abs}
use Rattle.hyd_num.specs.FileQuantity.{is_us_unit, head_ticks}
use Rattle.hyd_num.specs.declared.flow_units.FlowUnit.{FlowUnit}
use Rattle.hyd_net.specs.NumberRanges.{head_limit}
use Rattle.hyd_net.specs.RoundedFileNumbers.{IsAreaMade}
use Rattle.hyd_net.specs.declared.nodes.Reservoir.{Reservoir}
use Rattle.hyd_net.specs.declared.nodes.Tank.{Tank}
use Rattle.hyd_spec_input.specs.Columns.{amount}
use Rattle.hyd_spec_input.specs.MeaningsAcrossRows.{number_in}
use Rattle.hyd_network_rows.specs.Rows.{IsTankRow}
use Rattle.hyd_network_rows.specs.declared.tanks.TankRow.{TankRow}
use Rattle.hyd_spec_lines.specs.WordsOfLines.{text_of}

-- the number of a name that may be given
abbrev pub number_of : List (List ℕ) → Option (List ℕ) → Option ℕ
number_of names None = None
number_of names (Some name) = number_in names name

pub record IsReservoirOf (unit : FlowUnit) (patterns : List (List ℕ)) (words : List (List ℕ))
    (r : Reservoir) : Type 0 where
  pub head : r.head ≡ head_ticks (is_us_unit unit) (amount 1 words)
  pub pattern : r.pattern ≡ number_of patterns (slice_get words 2)

-- ---- tanks

-- a head or level whose ticks fit
abbrev pub IsSmall : FlowUnit → ℤ → Type 0
IsSmall unit nano = unsigned_abs (head_ticks (is_us_unit unit) nano) ≤ 2 * head_limit

-- the quantities of a row of tanks fit
pub record AreSmall (unit : FlowUnit) (words : List (List ℕ)) : Type 0 where
  pub bottom : IsSmall unit (amount 1 words)
  pub initial : IsSmall unit (amount 2 words)
  pub minimum : IsSmall unit (amount 3 words)
  pub maximum : IsSmall unit (amount 4 words)
  pub across_at_least : pos 0 ≤ℤ amount 5 words
  pub across_at_most : amount 5 words ≤ℤ pos (1000 * 10 ^ 9)

-- the tank of what a row says
pub record IsTankBy (unit : FlowUnit) (shapes : List (List ℕ)) (row : TankRow) (t : Tank) : Type 0 where
  pub bottom : t.bottom ≡ head_ticks (is_us_unit unit) row.bottom.nano
  pub initial : t.initial ≡ head_ticks (is_us_unit unit) row.initial.nano
  pub minimum : t.minimum ≡ head_ticks (is_us_unit unit) row.minimum.nano
  pub maximum : t.maximum ≡ head_ticks (is_us_unit unit) row.maximum.nano
  pub diameter : t.diameter.nano ≡ row.diameter.nano
  pub area : IsAreaMade unit t
  pub shape : t.shape ≡ number_of shapes (text_of row.curve)
  pub overflow : t.overflow ≡ row.overflows

-- the tank of a row's words
pub record IsTankOf (unit : FlowUnit) (shapes : List (List ℕ)) (words : List (List ℕ)) (t : Tank) : Type 0 where
  pub row : TankRow
  pub says : IsTankRow words row
  pub by_row : IsTankBy unit shapes row t

-- a list has one tank more
pub record HasTankMore (unit : FlowUnit) (shapes : List (List ℕ)) (words : List (List ℕ))
    (before after : List Tank) : Type 0 where
  pub tank : Tank
  pub made : IsTankOf unit shapes words tank
  pub more : after ≡ before ++ tank ∷ []
