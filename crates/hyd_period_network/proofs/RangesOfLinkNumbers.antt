-- Ranges of a link's numbers, by its kind.
use Rattle.std.proofs.Common.{◌≡◌, ℤ, pos, ◌≤ℤ◌, Bool, true, false, List, refl, arith}
use Rattle.std.proofs.lemmas.Int.{ints}
use Rattle.hyd_num.specs.FileQuantity.{is_us_unit, head_ticks}
use Rattle.hyd_net.specs.ListView.{ListView}
use Rattle.hyd_net.specs.declared.curves.HeadPoint.{HeadPoint}
use Rattle.hyd_net.specs.declared.patterns.Pattern.{Pattern}
use Rattle.hyd_net.specs.NetworkRanges.{HasSizes, IsPumpOrigin}
use Rattle.hyd_net.specs.NumberRanges.{IsFlow}
use Rattle.hyd_net.specs.LinkStates.{CanHave, IsSpeed}
use Rattle.hyd_spec.specs.ProgramTypes.{FlowUnit, Origin, Pipe, Valve, Pump, Emitter, PressureDemand, LinkKind}
use Rattle.hyd_spec.specs.ProgramTypes.{PipeLink}
use Rattle.hyd_spec.specs.ProgramTypes.{CheckPipe, PumpLink, CurvePump, Tcv, Fcv, Gpv, Closed, Speed, Limit}
use Rattle.hyd_spec.specs.ProgramTypes.{ShutoffHead}
use Rattle.hyd_spec.specs.ProgramTypes.{FourThirds, Given}
use Rattle.hyd_spec.specs.Law.{Shut}
use Rattle.hyd_spec.specs.LinkLaw.{own_law}
use Rattle.hyd_period_network.specs.LawsInSettings.{IsShutoff, HasShutoff}

pub speed_of : (kind : LinkKind) (nano : ℤ) → CanHave kind (Speed nano) → IsSpeed nano
speed_of (PipeLink cap) nano can = absurd can
speed_of (CheckPipe cap) nano can = absurd can
speed_of (PumpLink cap shutoff head pattern) nano can = can
speed_of (CurvePump bend pattern) nano can = can
speed_of (Tcv valve) nano can = absurd can
speed_of (Fcv valve) nano can = absurd can
speed_of (Gpv bend) nano can = absurd can

head_from : (us : Bool) (z : ℤ) → pos 1 ≤ℤ z → pos 0 ≤ℤ head_ticks us z
head_from true z some = omega (arith, ints, some)
head_from false z some = omega (arith, ints, some)

shutoff_by : (unit : FlowUnit) (head : ShutoffHead) (o : Origin) → IsPumpOrigin unit head o
    → IsShutoff (is_us_unit unit) head
shutoff_by unit head (Pipe us length diameter roughness minor) is = absurd is
shutoff_by unit head (Valve diameter k us) is = absurd is
shutoff_by unit (FourThirds h) (Pump flow drop thirds own) is =
    let a = head_from (is_us_unit unit) h.nano is.1.above in omega (arith, ints, is.1.range, a)
shutoff_by unit (Given h) (Pump flow drop thirds own) is = omega (arith, ints, is.1.range.at_least, is.1.range.at_most)
shutoff_by unit head (Emitter coefficient own) is = absurd is
shutoff_by unit head (PressureDemand demand minimum required us) is = absurd is

pub shutoff_of : (unit : FlowUnit) (patterns : List Pattern) (bends : List (ListView HeadPoint)) (kind : LinkKind)
    → HasSizes unit patterns bends kind → HasShutoff (is_us_unit unit) kind
shutoff_of unit patterns bends (PipeLink cap) sizes = tt
shutoff_of unit patterns bends (CheckPipe cap) sizes = tt
shutoff_of unit patterns bends (PumpLink cap shutoff head pattern) sizes = shutoff_by unit head cap.origin sizes.0
shutoff_of unit patterns bends (CurvePump bend pattern) sizes = tt
shutoff_of unit patterns bends (Tcv valve) sizes = tt
shutoff_of unit patterns bends (Fcv valve) sizes = tt
shutoff_of unit patterns bends (Gpv bend) sizes = tt

pub closed_is : (us : Bool) (bends : List (ListView HeadPoint)) (kind : LinkKind) → own_law us bends kind Closed ≡ Shut
closed_is us bends (PipeLink cap) = refl
closed_is us bends (CheckPipe cap) = refl
closed_is us bends (PumpLink cap shutoff head pattern) = refl
closed_is us bends (CurvePump bend pattern) = refl
closed_is us bends (Tcv valve) = refl
closed_is us bends (Fcv valve) = refl
closed_is us bends (Gpv bend) = refl

pub flow_of : (kind : LinkKind) (nano ticks : ℤ) → CanHave kind (Limit nano ticks) → IsFlow ticks
flow_of (PipeLink cap) nano ticks can = absurd can
flow_of (CheckPipe cap) nano ticks can = absurd can
flow_of (PumpLink cap shutoff head pattern) nano ticks can = absurd can
flow_of (CurvePump bend pattern) nano ticks can = absurd can
flow_of (Tcv valve) nano ticks can = absurd can
flow_of (Fcv valve) nano ticks can = can.flow
flow_of (Gpv bend) nano ticks can = absurd can
