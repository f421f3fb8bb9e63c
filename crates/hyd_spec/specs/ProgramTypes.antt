-- The types of the program that definitions speak of, under one roof. Variants whose name another type or definition
-- has too have a name of their own here.
pub use Rattle.hyd_num.specs.declared.decimals.Decimal.{Decimal}
pub use Rattle.hyd_num.specs.declared.flow_units.FlowUnit.{FlowUnit}
pub use Rattle.hyd_num.specs.declared.flow_units.FlowUnit.TheVariants.{Cmd}
pub use Rattle.hyd_num.specs.declared.link_capacities.Capacity.{Capacity}
pub use Rattle.hyd_num.specs.declared.link_capacities.Origin.{Origin}
pub use Rattle.hyd_num.specs.declared.link_capacities.Origin.TheVariants.{Pipe, Valve, Pump, Emitter, PressureDemand}
pub use Rattle.hyd_net.specs.declared.project.Project.{Project}
pub use Rattle.hyd_net.specs.declared.options.Options.{Options}
pub use Rattle.hyd_net.specs.declared.options.Times.{Times}
pub use Rattle.hyd_net.specs.declared.nodes.Demand.{Demand}
pub use Rattle.hyd_net.specs.declared.nodes.Junction.{Junction}
pub use Rattle.hyd_net.specs.declared.nodes.Reservoir.{Reservoir}
pub use Rattle.hyd_net.specs.declared.nodes.Tank.{Tank}
pub use Rattle.hyd_net.specs.declared.curves.VolumePoint.{VolumePoint}
pub use Rattle.hyd_net.specs.declared.curves.HeadPoint.{HeadPoint}
pub use Rattle.hyd_net.specs.declared.links.Link.{Link}
pub use Rattle.hyd_net.specs.PowerLawsOfPipes.{HazenWilliamsPipe}
pub use Rattle.hyd_net.specs.PowerLawsOfPipes.{PowerCapacity}
pub use Rattle.hyd_net.specs.declared.links.PipeLoss.{PipeLoss}
pub use Rattle.hyd_net.specs.declared.links.PipeLoss.TheVariants.{Manning, HazenWilliams}
pub use Rattle.hyd_net.specs.declared.links.LinkKind.{LinkKind}
pub use Rattle.hyd_net.specs.declared.links.LinkKind.TheVariants.{Pipe as PipeLink, CheckPipe, Pump as PumpLink}
pub use Rattle.hyd_net.specs.declared.links.LinkKind.TheVariants.{CurvePump, Tcv, Fcv, Gpv}
pub use Rattle.hyd_net.specs.declared.links.LinkState.{LinkState}
pub use Rattle.hyd_net.specs.declared.links.LinkState.TheVariants.{Open, Closed, Speed, Throttle, Limit}
pub use Rattle.hyd_net.specs.declared.links.OpenValve.{OpenValve}
pub use Rattle.hyd_net.specs.declared.links.OpenValve.TheVariants.{Quadratic, Linear}
pub use Rattle.hyd_net.specs.declared.links.ShutoffHead.{ShutoffHead}
pub use Rattle.hyd_net.specs.declared.links.ShutoffHead.TheVariants.{FourThirds, Given}
pub use Rattle.hyd_net.specs.declared.patterns.Pattern.{Pattern}
pub use Rattle.hyd_net.specs.declared.controls.Control.{Control}
pub use Rattle.hyd_net.specs.declared.controls.When.{When}
pub use Rattle.hyd_net.specs.declared.controls.When.TheVariants.{Level as AtLevel, Time as AtTime, Clock as AtClock}
pub use Rattle.hyd_net.specs.declared.rules.Rule.{Rule}
pub use Rattle.hyd_net.specs.declared.rules.RuleClause.{RuleClause}
pub use Rattle.hyd_net.specs.declared.rules.Joined.{Joined}
pub use Rattle.hyd_net.specs.declared.rules.Joined.TheVariants.{And, Or}
pub use Rattle.hyd_net.specs.declared.rules.Clause.{Clause}
pub use Rattle.hyd_net.specs.declared.rules.What.{What}
pub use Rattle.hyd_net.specs.declared.rules.What.TheVariants.{Head, Pressure, Level, Flow, Setting, Status, Time, Clock}
pub use Rattle.hyd_net.specs.declared.rules.Relation.{Relation}
pub use Rattle.hyd_net.specs.declared.rules.Relation.TheVariants.{Less, AtMost as NotMore, More, AtLeast as NotLess}
pub use Rattle.hyd_net.specs.declared.rules.Relation.TheVariants.{Equal, Unequal}
pub use Rattle.hyd_net.specs.declared.rules.Value.{Value}
pub use Rattle.hyd_net.specs.declared.rules.Value.TheVariants.{Amount, Open as ValueOpen, Closed as ValueClosed}
pub use Rattle.hyd_net.specs.declared.rules.Value.TheVariants.{Active as ValueActive}
pub use Rattle.hyd_net.specs.declared.rules.Action.{Action}
pub use Rattle.hyd_spec.specs.declared.Source.{Source}
pub use Rattle.hyd_spec.specs.declared.Source.TheVariants.{Control as ByControl, Rule as ByRule}
pub use Rattle.hyd_spec.specs.declared.Change.{Change}
pub use Rattle.hyd_spec.specs.declared.TankState.{TankState}
pub use Rattle.hyd_spec.specs.declared.TankState.TheVariants.{Empty, Between, Full}
