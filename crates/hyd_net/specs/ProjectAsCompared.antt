-- A network without what the comparison of two networks leaves aside: the numbers of the file that are kept beside a
-- rounded form, and the spare of its lists. Each such number is put to 0 here, and each spare too.
use Rattle.std.specs.Prelude.{map, pos, false}
use Rattle.std.specs.Option.{option_map}
use Rattle.std.proofs.Common.{lit≤}
use Rattle.hyd_num.specs.declared.decimals.Decimal.{Decimal}
use Rattle.hyd_num.specs.declared.flow_units.FlowUnit.TheVariants.{Cmd}
use Rattle.hyd_num.specs.declared.link_capacities.Capacity.{Capacity}
use Rattle.hyd_num.specs.declared.link_capacities.Origin.{Origin}
use Rattle.hyd_num.specs.declared.link_capacities.Origin.TheVariants.{Emitter}
use Rattle.hyd_spec_power_laws.specs.declared.power_capacities.HazenWilliamsPipe.{HazenWilliamsPipe}
use Rattle.hyd_spec_power_laws.specs.declared.power_capacities.PowerCapacity.{PowerCapacity}
use Rattle.hyd_net.specs.ListView.{ListView}
use Rattle.hyd_net.specs.declared.links.OpenValve.{OpenValve}
use Rattle.hyd_net.specs.declared.links.OpenValve.TheVariants.{Quadratic, Linear}
use Rattle.hyd_net.specs.declared.links.ShutoffHead.{ShutoffHead}
use Rattle.hyd_net.specs.declared.links.ShutoffHead.TheVariants.{Given}
use Rattle.hyd_net.specs.declared.links.PipeLoss.{PipeLoss}
use Rattle.hyd_net.specs.declared.links.PipeLoss.TheVariants.{Manning, HazenWilliams}
use Rattle.hyd_net.specs.declared.links.LinkKind.{LinkKind}
use Rattle.hyd_net.specs.declared.links.LinkKind.TheVariants.{Pipe, CheckPipe, Pump, CurvePump, Tcv, Fcv, Gpv}
use Rattle.hyd_net.specs.declared.links.LinkState.{LinkState}
use Rattle.hyd_net.specs.declared.links.LinkState.TheVariants.{Open, Closed, Speed, Throttle, Limit}
use Rattle.hyd_net.specs.declared.links.Link.{Link}
use Rattle.hyd_net.specs.declared.nodes.Junction.{Junction}
use Rattle.hyd_net.specs.declared.nodes.Tank.{Tank}
use Rattle.hyd_net.specs.declared.patterns.Pattern.{Pattern}
use Rattle.hyd_net.specs.declared.controls.Control.{Control}
use Rattle.hyd_net.specs.declared.rules.Value.{Value}
use Rattle.hyd_net.specs.declared.rules.Value.TheVariants.{Amount, Open as OpenValue, Closed as ClosedValue, Active}
use Rattle.hyd_net.specs.declared.rules.Clause.{Clause}
use Rattle.hyd_net.specs.declared.rules.RuleClause.{RuleClause}
use Rattle.hyd_net.specs.declared.rules.Action.{Action}
use Rattle.hyd_net.specs.declared.rules.Rule.{Rule}
use Rattle.hyd_net.specs.declared.project.Project.{Project}

-- the number that stands for one that is left aside
abbrev pub no_number : Decimal
no_number = record { nano = pos 0; bounded = lit≤ tt }

-- the numbers that stand for those of a capacity
abbrev pub no_origin : Origin
no_origin = Emitter no_number Cmd

-- the numbers that stand for those of a pipe with Hazen-Williams losses
abbrev pub no_pipe : HazenWilliamsPipe
no_pipe = record {
  length = no_number;
  diameter = no_number;
  coefficient = no_number;
  minor = no_number;
  us = false;
}

-- the number that stands for that of a pump curve
abbrev pub no_head : ShutoffHead
no_head = Given no_number

-- the items of a list, each in the form that is compared, and no spare
abbrev pub compared_list : {T : Type 0} → (T → T) → ListView T → ListView T
compared_list form v = record { list = map form v.list; spare = 0 }

-- the items of a list as they are, and no spare
abbrev pub bare_list : {T : Type 0} → ListView T → ListView T
bare_list v = record { list = v.list; spare = 0 }

-- a capacity without its numbers
abbrev pub compared_capacity : Capacity → Capacity
compared_capacity c = record c { origin = no_origin }

-- a capacity by powers without its numbers
abbrev pub compared_power : PowerCapacity → PowerCapacity
compared_power c = record c { pipe = no_pipe }

-- a pipe's loss without its numbers
abbrev pub compared_loss : PipeLoss → PipeLoss
compared_loss (Manning c) = Manning (compared_capacity c)
compared_loss (HazenWilliams c) = HazenWilliams (compared_power c)

-- an open valve without its numbers
abbrev pub compared_valve : OpenValve → OpenValve
compared_valve (Quadratic c) = Quadratic (compared_capacity c)
compared_valve Linear = Linear

-- a link's kind without its numbers
abbrev pub compared_kind : LinkKind → LinkKind
compared_kind (Pipe loss) = Pipe (compared_loss loss)
compared_kind (CheckPipe loss) = CheckPipe (compared_loss loss)
compared_kind (Pump c shutoff head pattern) = Pump (compared_capacity c) shutoff no_head pattern
compared_kind (CurvePump bend pattern) = CurvePump bend pattern
compared_kind (Tcv valve) = Tcv (compared_valve valve)
compared_kind (Fcv valve) = Fcv (compared_valve valve)
compared_kind (Gpv bend) = Gpv bend

-- a link's state without its numbers
abbrev pub compared_state : LinkState → LinkState
compared_state Open = Open
compared_state Closed = Closed
compared_state (Speed nano) = Speed nano
compared_state (Throttle nano law) = Throttle nano (compared_valve law)
compared_state (Limit nano ticks) = Limit nano ticks

-- a link without its numbers
abbrev pub compared_link : Link → Link
compared_link l = record l { kind = compared_kind l.kind; start = compared_state l.start }

-- a junction without its emitter's numbers
abbrev pub compared_junction : Junction → Junction
compared_junction j = record j { demands = bare_list j.demands; emitter = option_map compared_capacity j.emitter }

-- a tank without its diameter
abbrev pub compared_tank : Tank → Tank
compared_tank t = record t { diameter = no_number }

-- a pattern without a spare
abbrev pub compared_pattern : Pattern → Pattern
compared_pattern p = record { multipliers = bare_list p.multipliers }

-- a control without its state's numbers
abbrev pub compared_control : Control → Control
compared_control c = record c { to = compared_state c.to }

-- what a clause compares with, without the file's number
abbrev pub compared_value : Value → Value
compared_value (Amount span number) = Amount span no_number
compared_value OpenValue = OpenValue
compared_value ClosedValue = ClosedValue
compared_value Active = Active

-- a clause without the file's number
abbrev pub compared_clause : Clause → Clause
compared_clause c = record c { value = compared_value c.value }

-- a clause with how it is joined, without the file's number
abbrev pub compared_rule_clause : RuleClause → RuleClause
compared_rule_clause c = record c { clause = compared_clause c.clause }

-- an action without its state's numbers
abbrev pub compared_action : Action → Action
compared_action a = record a { to = compared_state a.to }

-- a rule without numbers of the file and spares
abbrev pub compared_rule : Rule → Rule
compared_rule r = record {
  id = bare_list r.id;
  clauses = compared_list compared_rule_clause r.clauses;
  yes = compared_list compared_action r.yes;
  no = compared_list compared_action r.no;
  priority = r.priority;
}

-- the network with all that is left aside put to 0
abbrev pub compared_project : Project → Project
compared_project p =
    record {
      options = p.options;
      times = p.times;
      node_ids = p.node_ids;
      link_ids = p.link_ids;
      junctions = compared_list compared_junction p.junctions;
      reservoirs = bare_list p.reservoirs;
      tanks = compared_list compared_tank p.tanks;
      links = compared_list compared_link p.links;
      patterns = compared_list compared_pattern p.patterns;
      shapes = compared_list bare_list p.shapes;
      bends = compared_list bare_list p.bends;
      controls = compared_list compared_control p.controls;
      rules = compared_list compared_rule p.rules;
    }
