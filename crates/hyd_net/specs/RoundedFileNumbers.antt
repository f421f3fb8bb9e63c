-- That each rounded form is the one that the numbers of the file beside it make. The digits of pi are this program's.
use Rattle.std.specs.Prelude.{◌≡◌, ℕ, ◌*◌, ◌^◌, ◌<◌, length, IfSome, ℤ, pos, ◌*ℤ◌, ⊤}
use Rattle.std.specs.List.{All, HoldsAt}
use Rattle.hyd_num.specs.CapacityPairs.{IsMade}
use Rattle.hyd_num.specs.QuotientsAndRoots.{IsFloor, IsCeiling}
use Rattle.hyd_num.specs.FileQuantity.{is_us_unit, head_ticks, flow_ticks, pressure_numerator, pressure_denominator}
use Rattle.hyd_num.specs.declared.flow_units.FlowUnit.{FlowUnit}
use Rattle.hyd_num.specs.declared.spans.Span.{Span}
use Rattle.hyd_num.specs.declared.link_capacities.Origin.{Origin}
use Rattle.hyd_num.specs.declared.link_capacities.Origin.TheVariants.{Valve as ValveOrigin}
use Rattle.hyd_spec_power_laws.specs.PowerCapacities.{IsMade as IsPowerMade}
use Rattle.hyd_net.specs.NetworkRanges.{IsValve}
use Rattle.hyd_net.specs.declared.nodes.Tank.{Tank}
use Rattle.hyd_net.specs.declared.links.OpenValve.{OpenValve}
use Rattle.hyd_net.specs.declared.links.OpenValve.TheVariants.{Quadratic, Linear}
use Rattle.hyd_net.specs.declared.links.ShutoffHead.{ShutoffHead}
use Rattle.hyd_net.specs.declared.links.ShutoffHead.TheVariants.{FourThirds, Given}
use Rattle.hyd_net.specs.declared.links.PipeLoss.{PipeLoss}
use Rattle.hyd_net.specs.declared.links.PipeLoss.TheVariants.{Manning, HazenWilliams}
use Rattle.hyd_net.specs.declared.links.LinkKind.{LinkKind}
use Rattle.hyd_net.specs.declared.links.LinkKind.TheVariants.{Pipe, CheckPipe, Pump, CurvePump, Tcv, Fcv, Gpv}
use Rattle.hyd_net.specs.declared.links.LinkState.{LinkState}
use Rattle.hyd_net.specs.declared.links.LinkState.TheVariants.{Open, Closed, Speed, Throttle, Limit}
use Rattle.hyd_net.specs.declared.links.Link.{Link}
use Rattle.hyd_net.specs.declared.rules.What.{What}
use Rattle.hyd_net.specs.declared.rules.What.TheVariants.{Head, Pressure, Level, Flow, Setting, Status, Time, Clock}
use Rattle.hyd_net.specs.declared.rules.Value.{Value}
use Rattle.hyd_net.specs.declared.rules.Value.TheVariants.{Amount}
use Rattle.hyd_net.specs.declared.rules.Rule.{Rule}
use Rattle.hyd_net.specs.declared.project.Project.{Project}

-- ---- spans

-- the ends are the floor and the ceiling of n / d
pub record IsRounded (n : ℤ) (d : ℕ) (span : Span) : Type 0 where
  pub floor : IsFloor n (pos d) span.lo
  pub ceiling : IsCeiling n (pos d) span.hi

-- both ends are z
pub record IsExactly (z : ℤ) (span : Span) : Type 0 where
  pub low : span.lo ≡ z
  pub high : span.hi ≡ z

-- both ends are the seconds of a number, which are whole
pub record IsSeconds (nano : ℤ) (span : Span) : Type 0 where
  pub whole : nano ≡ (pos (10 ^ 9) *ℤ span.lo)
  pub high : span.hi ≡ span.lo

-- the amount of a clause: heads and levels are exact, pressures rounded both ways, flows cut, settings in billionths,
-- times in seconds
abbrev pub IsAmount : FlowUnit → What → ℤ → Span → Type 0
IsAmount unit (Head node) nano span = IsExactly (head_ticks (is_us_unit unit) nano) span
IsAmount unit (Pressure node) nano span = IsRounded (pressure_numerator (is_us_unit unit) nano)
    (pressure_denominator (is_us_unit unit)) span
IsAmount unit (Level tank) nano span = IsExactly (head_ticks (is_us_unit unit) nano) span
IsAmount unit (Flow link) nano span = IsExactly (flow_ticks unit nano) span
IsAmount unit (Setting link) nano span = IsExactly nano span
IsAmount unit (Status link) nano span = ⊥
IsAmount unit Time nano span = IsSeconds nano span
IsAmount unit Clock nano span = IsSeconds nano span

-- what a clause compares with is made of its number
abbrev pub IsValueMade : FlowUnit → What → Value → Type 0
IsValueMade unit what (Amount span number) = IsAmount unit what number.nano span
IsValueMade unit what _ = ⊤

-- ---- tanks

-- a tank's area in 10^-9 square metres, cut: pi (3.141592654) times the squared diameter, over 4
abbrev pub IsAreaMade : FlowUnit → Tank → Type 0
IsAreaMade unit tank =
    let across = head_ticks (is_us_unit unit) tank.diameter.nano in
    IsFloor (pos 3141592654 *ℤ (across *ℤ across)) (pos (4 * 10 ^ 26)) tank.area

-- ---- links

-- a pump's shutoff head in ticks, rounded both ways
abbrev pub IsShutoffMade : FlowUnit → ShutoffHead → Span → Type 0
IsShutoffMade unit (FourThirds head) shutoff = IsRounded (pos 4 *ℤ head_ticks (is_us_unit unit) head.nano) 3 shutoff
IsShutoffMade unit (Given head) shutoff = IsExactly (head_ticks (is_us_unit unit) head.nano) shutoff

-- the law of an open valve is made of its numbers
abbrev pub IsValveMade : OpenValve → Type 0
IsValveMade (Quadratic cap) = IsMade cap
IsValveMade Linear = ⊤

-- a pipe's loss is made of its numbers
abbrev pub IsLossMade : PipeLoss → Type 0
IsLossMade (Manning cap) = IsMade cap
IsLossMade (HazenWilliams cap) = IsPowerMade cap

-- what a link is, is made of its numbers; the points of a curve by straight lines are ticks, and nothing is rounded
-- beside them
abbrev pub IsKindMade : FlowUnit → LinkKind → Type 0
IsKindMade unit (Pipe loss) = IsLossMade loss
IsKindMade unit (CheckPipe loss) = IsLossMade loss
IsKindMade unit (Pump cap shutoff head pattern) = IsMade cap × IsShutoffMade unit head shutoff
IsKindMade unit (CurvePump bend pattern) = ⊤
IsKindMade unit (Tcv valve) = IsValveMade valve
IsKindMade unit (Fcv valve) = IsValveMade valve
IsKindMade unit (Gpv bend) = ⊤

-- the loss coefficient of an origin is a setting in billionths
abbrev pub HasCoefficient : ℤ → Origin → Type 0
HasCoefficient nano (ValveOrigin diameter k us) = k.nano ≡ nano
HasCoefficient nano _ = ⊥

-- the law of an open valve with this loss coefficient: linear only at 0 (a quadratic one's coefficient is above 0 by
-- its range)
abbrev pub HasLaw : ℤ → OpenValve → Type 0
HasLaw nano (Quadratic cap) = HasCoefficient nano cap.origin
HasLaw nano Linear = nano ≡ pos 0

-- what a state is made of: a throttle's law is that of its coefficient, a limit's ticks are its flow, cut
abbrev pub IsStateMade : FlowUnit → LinkState → Type 0
IsStateMade unit Open = ⊤
IsStateMade unit Closed = ⊤
IsStateMade unit (Speed nano) = ⊤
IsStateMade unit (Throttle nano law) = HasLaw nano law × IsValve unit law × IsValveMade law
IsStateMade unit (Limit nano ticks) = ticks ≡ flow_ticks unit nano

-- ---- one diameter for each valve

-- an origin is that of a valve of this diameter, in billionths
abbrev pub IsOriginAcross : ℤ → Origin → Type 0
IsOriginAcross across (ValveOrigin diameter k us) = diameter.nano ≡ across
IsOriginAcross across _ = ⊥

-- the law of a valve of this diameter; a linear law has none
abbrev pub IsLawAcross : ℤ → OpenValve → Type 0
IsLawAcross across (Quadratic cap) = IsOriginAcross across cap.origin
IsLawAcross across Linear = ⊤

-- a valve has this diameter; the law of a general purpose valve has none
abbrev pub IsKindAcross : ℤ → LinkKind → Type 0
IsKindAcross across (Pipe cap) = ⊤
IsKindAcross across (CheckPipe cap) = ⊤
IsKindAcross across (Pump cap shutoff head pattern) = ⊤
IsKindAcross across (CurvePump bend pattern) = ⊤
IsKindAcross across (Tcv valve) = IsLawAcross across valve
IsKindAcross across (Fcv valve) = IsLawAcross across valve
IsKindAcross across (Gpv bend) = ⊤

-- a throttled valve's law has this diameter
abbrev pub IsStateAcross : ℤ → LinkState → Type 0
IsStateAcross across Open = ⊤
IsStateAcross across Closed = ⊤
IsStateAcross across (Speed nano) = ⊤
IsStateAcross across (Throttle nano law) = IsLawAcross across law
IsStateAcross across (Limit nano ticks) = ⊤

-- the fully open valve and each of its settings, from the start, by a control or by a rule, have this diameter
pub record IsAcross (p : Project) (number : ℕ) (across : ℤ) : Type 0 where
  pub link : HoldsAt (λ (l : Link). IsKindAcross across l.kind × IsStateAcross across l.start) p.links.list number
  pub controls : All (λ c. c.link ≡ number → IsStateAcross across c.to) p.controls.list
  pub yes : All (λ (r : Rule). All (λ a. a.link ≡ number → IsStateAcross across a.to) r.yes.list) p.rules.list
  pub no : All (λ (r : Rule). All (λ a. a.link ≡ number → IsStateAcross across a.to) r.no.list) p.rules.list

-- ---- all of them

-- the amounts and states of a rule are made of their numbers
pub record IsRuleMade (unit : FlowUnit) (r : Rule) : Type 0 where
  pub clauses : All (λ c. IsValueMade unit c.clause.what c.clause.value) r.clauses.list
  pub yes : All (λ a. IsStateMade unit a.to) r.yes.list
  pub no : All (λ a. IsStateMade unit a.to) r.no.list

-- each rounded form of a network is made of its numbers
pub record IsAllMade (p : Project) : Type 0 where
  pub emitters : All (λ j. IfSome j.emitter IsMade) p.junctions.list
  pub areas : All (IsAreaMade p.options.unit) p.tanks.list
  pub links : All (λ l. IsKindMade p.options.unit l.kind) p.links.list
  pub starts : All (λ l. IsStateMade p.options.unit l.start) p.links.list
  pub controls : All (λ c. IsStateMade p.options.unit c.to) p.controls.list
  pub rules : All (IsRuleMade p.options.unit) p.rules.list
  -- each valve has one diameter
  pub diameters : (number : ℕ) → number < length p.links.list → (across : ℤ) × IsAcross p number across
