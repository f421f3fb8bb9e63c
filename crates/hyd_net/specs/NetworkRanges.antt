-- The ranges of a network's quantities, in ticks or in the file's units.
-- Source: EPANET 2.2 User Manual, appendix C; the ranges are this program's.
use Rattle.std.specs.Prelude.{◌≡◌, ℕ, ◌-◌, ◌*◌, ◌^◌, Bool, true, List, length, Option, is_some, IfSome, ℤ, pos, ◌+ℤ◌}
use Rattle.std.specs.Prelude.{◌-ℤ◌, ◌*ℤ◌, ◌≤ℤ◌, ⊤, if◌then◌else◌}
use Rattle.std.specs.List.{All, HoldsAt}
use Rattle.hyd_num.specs.FileQuantity.{is_us_unit, head_ticks, flow_ticks, pressure_numerator, pressure_denominator}
use Rattle.hyd_num.specs.declared.flow_units.FlowUnit.{FlowUnit}
use Rattle.hyd_num.specs.declared.decimals.Decimal.{Decimal}
use Rattle.hyd_num.specs.declared.link_capacities.Origin.{Origin}
use Rattle.hyd_num.specs.declared.link_capacities.Origin.TheVariants.{Pipe as PipeOrigin, Valve as ValveOrigin}
use Rattle.hyd_num.specs.declared.link_capacities.Origin.TheVariants.{Pump as PumpOrigin, Emitter as EmitterOrigin}
use Rattle.hyd_spec_power_laws.specs.declared.power_capacities.HazenWilliamsPipe.{HazenWilliamsPipe}
use Rattle.hyd_net.specs.NumberRanges.{Lies, LiesWithin, head_limit, shutoff_head_limit, least_level_difference, IsHead}
use Rattle.hyd_net.specs.NumberRanges.{least_volume_difference, IsFlow, IsUpTo, IsNumberUpTo, IsPositiveUpTo, Numbers}
use Rattle.hyd_net.specs.ListView.{ListView}
use Rattle.hyd_net.specs.Curves.{volume_at, IsVolumeCurve, IsPumpCurve, IsLossCurve}
use Rattle.hyd_net.specs.declared.curves.VolumePoint.{VolumePoint}
use Rattle.hyd_net.specs.declared.curves.HeadPoint.{HeadPoint}
use Rattle.hyd_net.specs.declared.options.Options.{Options}
use Rattle.hyd_net.specs.declared.nodes.Demand.{Demand}
use Rattle.hyd_net.specs.declared.nodes.Junction.{Junction}
use Rattle.hyd_net.specs.declared.nodes.Reservoir.{Reservoir}
use Rattle.hyd_net.specs.declared.nodes.Tank.{Tank}
use Rattle.hyd_net.specs.declared.links.OpenValve.{OpenValve}
use Rattle.hyd_net.specs.declared.links.OpenValve.TheVariants.{Quadratic, Linear}
use Rattle.hyd_net.specs.declared.links.ShutoffHead.{ShutoffHead}
use Rattle.hyd_net.specs.declared.links.ShutoffHead.TheVariants.{FourThirds, Given}
use Rattle.hyd_net.specs.declared.links.PipeLoss.{PipeLoss}
use Rattle.hyd_net.specs.declared.links.PipeLoss.TheVariants.{Manning, HazenWilliams}
use Rattle.hyd_net.specs.declared.links.LinkKind.{LinkKind}
use Rattle.hyd_net.specs.declared.links.LinkKind.TheVariants.{Pipe, CheckPipe, Pump, CurvePump, Tcv, Fcv, Gpv}
use Rattle.hyd_net.specs.declared.patterns.Pattern.{Pattern}
use Rattle.hyd_net.specs.declared.project.Project.{Project}

-- where a pattern is named, it is there and each of its multipliers has this property
abbrev pub HasPattern : (ℤ → Type 0) → List Pattern → Option ℕ → Type 0
HasPattern P patterns named = IfSome named (Numbers (λ (p : Pattern). All P p.multipliers.list) patterns)

-- ---- options

-- a pressure: at least 0, and at most the limit of heads as a height of water
pub record IsPressure (unit : FlowUnit) (pressure : Decimal) : Type 0 where
  pub not_negative : pos 0 ≤ℤ pressure.nano
  pub at_most : pressure_numerator (is_us_unit unit) pressure.nano
      ≤ℤ pos (head_limit * pressure_denominator (is_us_unit unit))

-- the numbers of the options are in range
pub record HasOptions (options : Options) (patterns : List Pattern) : Type 0 where
  pub multiplier : IsNumberUpTo (10 ^ 6) options.multiplier
  pub minimum : IsPressure options.unit options.p0
  pub required : IsPressure options.unit options.pf
  -- where demands depend on pressure, the required pressure exceeds the minimum by at least a tenth of a unit
  pub apart : options.pda ≡ true → (options.p0.nano +ℤ pos (10 ^ 8)) ≤ℤ options.pf.nano
  pub default_pattern : HasPattern (λ _. ⊤) patterns options.default_pattern

-- ---- nodes

-- a base demand is a flow, and its pattern is there
pub record IsDemand (patterns : List Pattern) (demand : Demand) : Type 0 where
  pub base : IsFlow demand.base
  pub pattern : HasPattern (λ _. ⊤) patterns demand.pattern

-- an emitter's coefficient: above 0 and at most 10^6, in the network's unit
pub record IsEmitterNumber (unit : FlowUnit) (coefficient : Decimal) (own : FlowUnit) : Type 0 where
  pub range : IsPositiveUpTo (10 ^ 6) coefficient
  pub same_unit : own ≡ unit

-- an emitter's coefficient is above 0 and at most 10^6, in the file's unit
abbrev pub IsEmitter : FlowUnit → Origin → Type 0
IsEmitter unit (EmitterOrigin coefficient own) = IsEmitterNumber unit coefficient own
IsEmitter unit _ = ⊥

-- the numbers of a junction are in range
pub record IsJunction (unit : FlowUnit) (patterns : List Pattern) (junction : Junction) : Type 0 where
  pub elevation : IsHead junction.elevation
  pub demands : All (IsDemand patterns) junction.demands.list
  pub emitter : IfSome junction.emitter (λ cap. IsEmitter unit cap.origin)

-- a reservoir's head is one, also times each multiplier of its pattern, before that is cut
pub record IsReservoir (patterns : List Pattern) (reservoir : Reservoir) : Type 0 where
  pub head : IsHead reservoir.head
  pub pattern : HasPattern (λ multiplier. LiesWithin (head_limit * 10 ^ 9) (reservoir.head *ℤ multiplier)) patterns
      reservoir.pattern

-- a tank's volume curve goes from its minimum or below to its maximum or above; from the minimum to the maximum it
-- holds the least difference of volumes or more
pub record IsShapeOf (tank : Tank) (shape : List VolumePoint) : Type 0 where
  pub curve : IsVolumeCurve shape
  pub from_minimum : HoldsAt (λ (p : VolumePoint). p.level ≤ℤ tank.minimum) shape 0
  pub to_maximum : HoldsAt (λ (p : VolumePoint). tank.maximum ≤ℤ p.level) shape (length shape - 1)
  pub apart : pos least_volume_difference ≤ℤ (volume_at shape tank.maximum -ℤ volume_at shape tank.minimum)

-- levels are at least 0 and in order, the least and the greatest apart by the least level difference or more; the
-- bottom is a head, and so is the greatest level above it; the diameter is 0.1 to 1,000 feet or metres, or 0 to 1,000
-- where there is a volume curve
pub record IsTank (shapes : List (ListView VolumePoint)) (tank : Tank) : Type 0 where
  pub bottom : IsHead tank.bottom
  pub lowest : pos 0 ≤ℤ tank.minimum
  pub initial : Lies tank.minimum tank.maximum tank.initial
  pub apart : pos least_level_difference ≤ℤ (tank.maximum -ℤ tank.minimum)
  pub top : IsHead (tank.bottom +ℤ tank.maximum)
  pub diameter : Lies (pos (if is_some tank.shape then 0 else 10 ^ 8)) (pos (1000 * 10 ^ 9)) tank.diameter.nano
  pub shape : IfSome tank.shape (Numbers (λ (shape : ListView VolumePoint). IsShapeOf tank shape.list) shapes)

-- ---- links

-- a pipe's numbers, in feet and inches or in metres and millimetres as the network says
pub record IsPipeNumbers (unit : FlowUnit) (length diameter roughness minor : Decimal) (us : Bool) : Type 0 where
  pub long : IsPositiveUpTo (10 ^ 6) length
  pub across : IsPositiveUpTo (10 ^ 4) diameter
  pub rough : IsPositiveUpTo 10 roughness
  pub fittings : IsNumberUpTo (10 ^ 6) minor
  pub same_system : us ≡ is_us_unit unit

-- the numbers of a pipe are in range
abbrev pub IsPipe : FlowUnit → Origin → Type 0
IsPipe unit (PipeOrigin us length diameter roughness minor) = IsPipeNumbers unit length diameter roughness minor us
IsPipe unit _ = ⊥

-- those of a pipe with a Hazen-Williams coefficient, in the same units
pub record IsHazenWilliamsNumbers (unit : FlowUnit) (pipe : HazenWilliamsPipe) : Type 0 where
  pub long : IsPositiveUpTo (10 ^ 6) pipe.length
  pub across : IsPositiveUpTo (10 ^ 4) pipe.diameter
  pub coefficient : IsPositiveUpTo (10 ^ 4) pipe.coefficient
  pub fittings : IsNumberUpTo (10 ^ 6) pipe.minor
  pub same_system : pipe.us ≡ is_us_unit unit

-- the numbers of which a pipe's loss is made are in range
abbrev pub IsPipeLoss : FlowUnit → PipeLoss → Type 0
IsPipeLoss unit (Manning cap) = IsPipe unit cap.origin
IsPipeLoss unit (HazenWilliams cap) = IsHazenWilliamsNumbers unit cap.pipe

-- a valve's diameter in inches or millimetres and its loss coefficient, which is above 0
pub record IsValveNumbers (unit : FlowUnit) (diameter k : Decimal) (us : Bool) : Type 0 where
  pub across : IsPositiveUpTo (10 ^ 4) diameter
  pub coefficient : IsPositiveUpTo (10 ^ 6) k
  pub same_system : us ≡ is_us_unit unit

-- the numbers of a valve with a loss coefficient are in range
abbrev pub IsValveOrigin : FlowUnit → Origin → Type 0
IsValveOrigin unit (ValveOrigin diameter k us) = IsValveNumbers unit diameter k us
IsValveOrigin unit _ = ⊥

-- an open valve's numbers are in range; a linear one has none
abbrev pub IsValve : FlowUnit → OpenValve → Type 0
IsValve unit (Quadratic cap) = IsValveOrigin unit cap.origin
IsValve unit Linear = ⊤

-- a curve's flow and its drop (of a curve of one point: its head) are above 0, the flow cut to ticks is a flow
pub record IsPumpNumbers (unit : FlowUnit) (flow drop : Decimal) (own : FlowUnit) : Type 0 where
  pub flows : pos 1 ≤ℤ flow.nano
  pub flow_range : IsFlow (flow_ticks unit flow.nano)
  pub drops : pos 1 ≤ℤ drop.nano
  pub same_unit : own ≡ unit

-- a curve of one point: a third of its head, which is above 0, is lost at its flow; four thirds of it are at most the
-- limit of such heads
pub record IsOnePoint (unit : FlowUnit) (head drop : Decimal) (thirds : ℕ) : Type 0 where
  pub above : pos 1 ≤ℤ head.nano
  pub lost : drop.nano ≡ head.nano
  pub in_thirds : thirds ≡ 3
  pub range : (pos 4 *ℤ head_ticks (is_us_unit unit) head.nano) ≤ℤ pos (3 * shutoff_head_limit)

-- a curve of three points: the shutoff head is at most the limit of such heads up or down
pub record IsThreePoints (unit : FlowUnit) (head : Decimal) (thirds : ℕ) : Type 0 where
  pub whole : thirds ≡ 1
  pub range : LiesWithin shutoff_head_limit (head_ticks (is_us_unit unit) head.nano)

-- a pump curve of one or of three points
abbrev pub IsCurve : FlowUnit → ShutoffHead → Decimal → ℕ → Type 0
IsCurve unit (FourThirds head) drop thirds = IsOnePoint unit head drop thirds
IsCurve unit (Given head) drop thirds = IsThreePoints unit head thirds

-- the numbers of a pump are in range
abbrev pub IsPumpOrigin : FlowUnit → ShutoffHead → Origin → Type 0
IsPumpOrigin unit head (PumpOrigin flow drop thirds own) = IsPumpNumbers unit flow drop own × IsCurve unit head drop
    thirds
IsPumpOrigin unit head _ = ⊥

-- the curve by straight lines of this number is there and has this property
abbrev pub HasBend : (List HeadPoint → Type 0) → List (ListView HeadPoint) → ℕ → Type 0
HasBend P bends bend = Numbers (λ (b : ListView HeadPoint). P b.list) bends bend

-- what a link is made of; the multipliers of a pump's pattern are speeds of 0 to 10
abbrev pub HasSizes : FlowUnit → List Pattern → List (ListView HeadPoint) → LinkKind → Type 0
HasSizes unit patterns bends (Pipe loss) = IsPipeLoss unit loss
HasSizes unit patterns bends (CheckPipe loss) = IsPipeLoss unit loss
HasSizes unit patterns bends (Pump cap shutoff head pattern) = IsPumpOrigin unit head cap.origin
    × HasPattern (IsUpTo 10) patterns pattern
HasSizes unit patterns bends (CurvePump bend pattern) = HasBend IsPumpCurve bends bend × HasPattern (IsUpTo 10)
    patterns pattern
HasSizes unit patterns bends (Tcv valve) = IsValve unit valve
HasSizes unit patterns bends (Fcv valve) = IsValve unit valve
HasSizes unit patterns bends (Gpv bend) = HasBend IsLossCurve bends bend

-- ---- all of them

-- all quantities of a network are in range
pub record HasQuantities (p : Project) : Type 0 where
  pub options : HasOptions p.options p.patterns.list
  pub junctions : All (IsJunction p.options.unit p.patterns.list) p.junctions.list
  pub reservoirs : All (IsReservoir p.patterns.list) p.reservoirs.list
  pub tanks : All (IsTank p.shapes.list) p.tanks.list
  pub links : All (λ l. HasSizes p.options.unit p.patterns.list p.bends.list l.kind) p.links.list
