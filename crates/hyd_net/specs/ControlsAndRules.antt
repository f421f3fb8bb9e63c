-- Controls and rules: what they name, and the ranges of what they compare with.
-- Source: EPANET 2.2 User Manual, appendix C ([CONTROLS], [RULES]); the ranges are this program's.
use Rattle.std.specs.Prelude.{ℕ, ◌+◌, ◌^◌, ◌<◌, ◌≤◌, ◌⊎◌, length, IfSome, pos, ⊤}
use Rattle.std.specs.List.{All}
use Rattle.hyd_net.specs.Ids.{IsId}
use Rattle.hyd_net.specs.NumberRanges.{Lies, LiesWithin, IsHead, Numbers}
use Rattle.hyd_net.specs.LinkStates.{CanBeSet}
use Rattle.hyd_net.specs.declared.links.LinkKind.{LinkKind}
use Rattle.hyd_net.specs.declared.links.LinkKind.TheVariants.{Pipe, CheckPipe, Pump, CurvePump, Tcv, Fcv, Gpv}
use Rattle.hyd_net.specs.declared.links.LinkState.{LinkState}
use Rattle.hyd_net.specs.declared.links.Link.{Link}
use Rattle.hyd_net.specs.declared.controls.When.{When}
use Rattle.hyd_net.specs.declared.controls.When.TheVariants.{Level as LevelAt, Time as TimeAt, Clock as ClockAt}
use Rattle.hyd_net.specs.declared.controls.Control.{Control}
use Rattle.hyd_net.specs.declared.rules.What.{What}
use Rattle.hyd_net.specs.declared.rules.What.TheVariants.{Head, Pressure, Level, Flow, Setting, Status, Time, Clock}
use Rattle.hyd_net.specs.declared.rules.Relation.{Relation}
use Rattle.hyd_net.specs.declared.rules.Relation.TheVariants.{Equal, Unequal}
use Rattle.hyd_net.specs.declared.rules.Value.{Value}
use Rattle.hyd_net.specs.declared.rules.Value.TheVariants.{Amount}
use Rattle.hyd_net.specs.declared.rules.Clause.{Clause}
use Rattle.hyd_net.specs.declared.rules.Rule.{Rule}
use Rattle.hyd_net.specs.declared.project.Project.{Project}

-- the number of nodes: junctions, reservoirs and tanks
abbrev pub node_count : Project → ℕ
node_count p = length p.junctions.list + length p.reservoirs.list + length p.tanks.list

-- a link is there, and can be set to this state
abbrev pub CanCommand : Project → ℕ → LinkState → Type 0
CanCommand p link to = Numbers (λ (l : Link). CanBeSet l.kind to) p.links.list link

-- ---- controls

-- a level of one of the tanks is a head; a time is at most 10^8 seconds, a time of day below a day
abbrev pub IsMoment : Project → When → Type 0
IsMoment p (LevelAt tank above ticks) = (tank < length p.tanks.list) × IsHead ticks
IsMoment p (TimeAt seconds) = seconds ≤ 10 ^ 8
IsMoment p (ClockAt seconds) = seconds < 86400

-- a control sets a link that is there to a state that it can have, at a moment in range
pub record IsControl (p : Project) (control : Control) : Type 0 where
  pub command : CanCommand p control.link control.to
  pub moment : IsMoment p control.when

-- ---- rules

-- a junction or a tank, by the number of the node
pub record HasPressure (p : Project) (node : ℕ) : Type 0 where
  pub in_range : node < node_count p
  pub no_reservoir : (node < length p.junctions.list) ⊎ (length p.junctions.list + length p.reservoirs.list ≤ node)

-- a pump or a valve
abbrev pub HasSetting : LinkKind → Type 0
HasSetting (Pipe cap) = ⊥
HasSetting (CheckPipe cap) = ⊥
HasSetting (Pump cap shutoff head pattern) = ⊤
HasSetting (CurvePump bend pattern) = ⊤
HasSetting (Tcv valve) = ⊤
HasSetting (Fcv valve) = ⊤
HasSetting (Gpv bend) = ⊤

-- what a clause speaks of is there
abbrev pub SpeaksOf : Project → What → Type 0
SpeaksOf p (Head node) = node < node_count p
SpeaksOf p (Pressure node) = HasPressure p node
SpeaksOf p (Level tank) = tank < length p.tanks.list
SpeaksOf p (Flow link) = link < length p.links.list
SpeaksOf p (Setting link) = Numbers (λ (l : Link). HasSetting l.kind) p.links.list link
SpeaksOf p (Status link) = link < length p.links.list
SpeaksOf p Time = ⊤
SpeaksOf p Clock = ⊤

-- statuses are equal or not; heads, pressures, levels, flows and settings are less or more; times compare in all ways
abbrev pub Compares : What → Relation → Type 0
Compares Time relation = ⊤
Compares Clock relation = ⊤
Compares (Status link) Equal = ⊤
Compares (Status link) Unequal = ⊤
Compares (Status link) _ = ⊥
Compares _ Equal = ⊥
Compares _ Unequal = ⊥
Compares _ _ = ⊤

-- statuses are compared with words, all else with amounts; a time is at most 10^8 seconds, a time of day below a day
abbrev pub IsComparedWith : What → Value → Type 0
IsComparedWith (Status link) (Amount span number) = ⊥
IsComparedWith (Status link) _ = ⊤
IsComparedWith Time (Amount span number) = Lies (pos 0) (pos (10 ^ 8)) span.lo
IsComparedWith Clock (Amount span number) = Lies (pos 0) (pos 86399) span.lo
IsComparedWith _ (Amount span number) = ⊤
IsComparedWith _ _ = ⊥

-- a clause speaks of what is there, and compares it as it can be compared
pub record IsClause (p : Project) (clause : Clause) : Type 0 where
  pub what : SpeaksOf p clause.what
  pub relation : Compares clause.what clause.relation
  pub value : IsComparedWith clause.what clause.value

-- a rule's ID, clauses, actions and priority are in range
pub record IsRule (p : Project) (rule : Rule) : Type 0 where
  pub id : IsId rule.id.list
  pub clauses : All (λ c. IsClause p c.clause) rule.clauses.list
  pub yes : All (λ a. CanCommand p a.link a.to) rule.yes.list
  pub no : All (λ a. CanCommand p a.link a.to) rule.no.list
  -- a number of the file, in billionths
  pub priority : IfSome rule.priority (LiesWithin (10 ^ 21))
