-- The network that a file without a fault describes, item by item: each junction, link, control and rule is that of
-- its row.
-- Source: EPANET 2.2 User Manual, appendix C.
use Rattle.std.specs.Prelude.{◌≡◌, ℕ, ◌+◌, Bool, true, false, ◌&&◌, not, List, [], ◌∷◌, ◌++◌, codes, Option, Some, None}
use Rattle.std.specs.Prelude.{slice_get, if◌then◌else◌, ℤ, pos, ◌<ℤ◌, ◌*ℤ◌, ⊤}
use Rattle.std.specs.Ordering.{int_eq}
use Rattle.hyd_num.specs.Numeral.{nano_of}
use Rattle.hyd_num.specs.FileQuantity.{head_ticks, flow_ticks}
use Rattle.hyd_num.specs.CapacityPairs.{IsMade}
use Rattle.hyd_spec_power_laws.specs.PowerCapacities.{IsMade as IsPowerMade}
use Rattle.hyd_spec_power_laws.specs.declared.power_capacities.PowerCapacity.{PowerCapacity}
use Rattle.hyd_num.specs.declared.decimals.Decimal.{Decimal}
use Rattle.hyd_num.specs.declared.flow_units.FlowUnit.{FlowUnit}
use Rattle.hyd_num.specs.declared.link_capacities.Capacity.{Capacity}
use Rattle.hyd_num.specs.declared.link_capacities.Origin.TheVariants.{Pipe as PipeOrigin, Valve as ValveOrigin}
use Rattle.hyd_num.specs.declared.link_capacities.Origin.TheVariants.{Pump as PumpOrigin, Emitter as EmitterOrigin}
use Rattle.hyd_spec_lines.specs.WordsOfLines.{is_keyword}
use Rattle.hyd_spec_lines.specs.Lines.{Row}
use Rattle.hyd_spec_lines.specs.declared.section.Section.TheVariants.{Junctions, Reservoirs, Tanks, Pipes, Pumps}
use Rattle.hyd_spec_lines.specs.declared.section.Section.TheVariants.{Valves, Controls, Rules}
use Rattle.hyd_spec_input.specs.Columns.{word, or_empty, amount, word_is, units}
use Rattle.hyd_spec_input.specs.Keywords.{object_word, attribute_word, relation_word}
use Rattle.hyd_spec_input.specs.TimesAndClockTimes.{time_seconds, clock_seconds}
use Rattle.hyd_spec_input.specs.NodeAndLinkRows.{tank_curve, tank_overflows, pipe_minor, has_check_valve}
use Rattle.hyd_spec_input.specs.NodeAndLinkRows.{is_closed_pipe}
use Rattle.hyd_spec_input.specs.NodeAndLinkRows.{pump_curve, pump_pattern, pump_speed, is_throttle, is_general}
use Rattle.hyd_spec_input.specs.NodeAndLinkRows.{valve_curve}
use Rattle.hyd_spec_input.specs.NodeAndLinkRows.{valve_minor}
use Rattle.hyd_spec_input.specs.RuleRows.{begins_with, attribute_place}
use Rattle.hyd_spec_input.specs.SectionsAndTables.{Point, is_of, rows_of, words_of, link_named, pattern_named}
use Rattle.hyd_spec_input.specs.SectionsAndTables.{curve_named}
use Rattle.hyd_spec_input.specs.OptionsAndTimesInForce as force
use Rattle.hyd_spec_input.specs.OptionsAndTimesInForce.{unit}
use Rattle.hyd_spec_input.specs.Curves.{Drop, drop_of, is_bent, head_points, volume_points}
use Rattle.hyd_spec_input.specs.FaultsWithOtherRows.{us}
use Rattle.hyd_spec_input.specs.MeaningsAcrossRows.{node_ids, tank_ids, link_ids, number_in, pattern_ids}
use Rattle.hyd_spec_input.specs.MeaningsAcrossRows.{pattern_number}
use Rattle.hyd_spec_input.specs.MeaningsAcrossRows.{shape_names, bend_names, demands_of, emitter_of, status_row_of}
use Rattle.hyd_spec_input.specs.MeaningsAcrossRows.{rule_groups}
use Rattle.hyd_spec_input.specs.MeaningsAcrossRows.{clause_lines, then_lines, else_lines, rule_id, priority_of}
use Rattle.hyd_spec_input.specs.declared.ObjectWord.{ObjectWord}
use Rattle.hyd_spec_input.specs.declared.Attribute.{Attribute}
use Rattle.hyd_spec_input.specs.declared.Attribute.TheVariants as attribute
use Rattle.hyd_spec_input.specs.declared.RuleWord.{RuleWord}
use Rattle.hyd_spec_input.specs.declared.RuleWord.TheVariants as rule
use Rattle.hyd_net.specs.RoundedFileNumbers.{IsAreaMade, IsShutoffMade, IsAmount}
use Rattle.hyd_net.specs.declared.curves.VolumePoint.{VolumePoint}
use Rattle.hyd_net.specs.declared.curves.HeadPoint.{HeadPoint}
use Rattle.hyd_net.specs.declared.options.Options.{Options}
use Rattle.hyd_net.specs.declared.options.Times.{Times}
use Rattle.hyd_net.specs.declared.nodes.Junction.{Junction}
use Rattle.hyd_net.specs.declared.nodes.Reservoir.{Reservoir}
use Rattle.hyd_net.specs.declared.nodes.Tank.{Tank}
use Rattle.hyd_net.specs.declared.links.Link.{Link}
use Rattle.hyd_net.specs.declared.links.PipeLoss.{PipeLoss}
use Rattle.hyd_net.specs.declared.links.PipeLoss.TheVariants.{Manning, HazenWilliams}
use Rattle.hyd_net.specs.declared.links.LinkKind.{LinkKind}
use Rattle.hyd_net.specs.declared.links.LinkKind.TheVariants.{Pipe, CheckPipe, Pump, CurvePump, Tcv, Fcv, Gpv}
use Rattle.hyd_net.specs.declared.links.LinkState.{LinkState}
use Rattle.hyd_net.specs.declared.links.LinkState.TheVariants.{Open, Closed, Speed, Throttle, Limit}
use Rattle.hyd_net.specs.declared.links.OpenValve.{OpenValve}
use Rattle.hyd_net.specs.declared.links.OpenValve.TheVariants.{Quadratic, Linear}
use Rattle.hyd_net.specs.declared.links.ShutoffHead.{ShutoffHead}
use Rattle.hyd_net.specs.declared.links.ShutoffHead.TheVariants.{FourThirds, Given}
use Rattle.hyd_net.specs.declared.patterns.Pattern.{Pattern}
use Rattle.hyd_net.specs.declared.controls.When.{When}
use Rattle.hyd_net.specs.declared.controls.When.TheVariants.{Level as LevelAt, Time as TimeAt, Clock as ClockAt}
use Rattle.hyd_net.specs.declared.controls.Control.{Control}
use Rattle.hyd_net.specs.declared.rules.Joined.{Joined}
use Rattle.hyd_net.specs.declared.rules.Joined.TheVariants.{And, Or}
use Rattle.hyd_net.specs.declared.rules.What.{What}
use Rattle.hyd_net.specs.declared.rules.What.TheVariants.{Head, Pressure, Level, Flow, Setting, Status, Time, Clock}
use Rattle.hyd_net.specs.declared.rules.Value.{Value}
use Rattle.hyd_net.specs.declared.rules.Value.TheVariants as value
use Rattle.hyd_net.specs.declared.rules.RuleClause.{RuleClause}
use Rattle.hyd_net.specs.declared.rules.Action.{Action}
use Rattle.hyd_net.specs.declared.rules.Rule.{Rule}
use Rattle.hyd_net.specs.declared.project.Project.{Project}

-- ---- item by item

-- the items of two lists, in order, are related
abbrev pub Match : {A B : Type 0} → (A → B → Type 0) → List A → List B → Type 0
Match R [] [] = ⊤
Match R (x ∷ xs) (y ∷ ys) = R x y × Match R xs ys
Match R _ _ = ⊥

-- the one fact where a test passes, else the other
abbrev pub Where : Bool → Type 0 → Type 0 → Type 0
Where true P Q = P
Where false P Q = Q

-- ---- options and times

pub record IsOptions (rows : List Row) (o : Options) : Type 0 where
  pub unit_is : o.unit ≡ unit rows
  pub pda : o.pda ≡ force.depends_on_pressure rows
  pub minimum : o.p0.nano ≡ force.minimum_pressure rows
  pub required : o.pf.nano ≡ force.required_pressure rows
  pub multiplier : o.multiplier.nano ≡ force.demand_multiplier rows
  -- a pattern that isn't there means a multiplier of 1
  pub default_pattern : o.default_pattern ≡ number_in (pattern_ids rows) (force.default_pattern rows)

pub record IsTimes (rows : List Row) (t : Times) : Type 0 where
  pub duration : t.duration ≡ force.duration rows
  pub hydraulic : t.hydraulic ≡ force.hydraulic_step rows
  pub pattern : t.pattern ≡ force.pattern_step rows
  pub pattern_start : t.pattern_start ≡ force.pattern_start rows
  pub report : t.report ≡ force.report_step rows
  pub report_start : t.report_start ≡ force.report_start rows
  pub rule : t.rule ≡ force.rule_step rows
  pub start_clock : t.start_clock ≡ force.start_clock rows

-- ---- nodes

-- the capacity of an emitter of so many billionths
pub record IsEmitterOf (unit : FlowUnit) (nano : ℤ) (cap : Capacity) : Type 0 where
  pub made : IsMade cap
  pub c : Decimal
  pub c_is : c.nano ≡ nano
  pub origin : cap.origin ≡ EmitterOrigin c unit

-- a coefficient of 0 is no emitter
abbrev pub IsEmitter : FlowUnit → ℤ → Option Capacity → Type 0
IsEmitter unit nano None = nano ≡ pos 0
IsEmitter unit nano (Some cap) = (pos 0 <ℤ nano) × IsEmitterOf unit nano cap

pub record IsJunction (rows : List Row) (row : Row) (j : Junction) : Type 0 where
  pub elevation : j.elevation ≡ head_ticks (us rows) (amount 1 row.words)
  pub demands : j.demands.list ≡ demands_of rows row
  pub emitter : IsEmitter (unit rows) (emitter_of rows row) j.emitter

pub record IsReservoir (rows : List Row) (row : Row) (r : Reservoir) : Type 0 where
  pub head : r.head ≡ head_ticks (us rows) (amount 1 row.words)
  pub pattern : r.pattern ≡ pattern_number rows (slice_get row.words 2)

-- the number of a tank's volume curve, where it has one
abbrev pub shape_number : List Row → Option (List ℕ) → Option ℕ
shape_number rows None = None
shape_number rows (Some name) = number_in (shape_names rows) name

pub record IsTank (rows : List Row) (row : Row) (t : Tank) : Type 0 where
  pub bottom : t.bottom ≡ head_ticks (us rows) (amount 1 row.words)
  pub initial : t.initial ≡ head_ticks (us rows) (amount 2 row.words)
  pub minimum : t.minimum ≡ head_ticks (us rows) (amount 3 row.words)
  pub maximum : t.maximum ≡ head_ticks (us rows) (amount 4 row.words)
  pub diameter : t.diameter.nano ≡ amount 5 row.words
  pub area : IsAreaMade (unit rows) t
  pub shape : t.shape ≡ shape_number rows (tank_curve row.words)
  pub overflow : t.overflow ≡ tank_overflows row.words

-- ---- pipes

-- the ends of a link are the numbers of the nodes that it names
pub record HasEnds (rows : List Row) (row : Row) (l : Link) : Type 0 where
  pub from : number_in (node_ids rows) (word 1 row.words) ≡ Some l.from
  pub to : number_in (node_ids rows) (word 2 row.words) ≡ Some l.to

-- the capacity of a pipe of these numbers, in billionths
pub record IsPipeOf (us : Bool) (length diameter roughness minor : ℤ) (cap : Capacity) : Type 0 where
  pub made : IsMade cap
  pub l : Decimal
  pub l_is : l.nano ≡ length
  pub d : Decimal
  pub d_is : d.nano ≡ diameter
  pub n : Decimal
  pub n_is : n.nano ≡ roughness
  pub k : Decimal
  pub k_is : k.nano ≡ minor
  pub origin : cap.origin ≡ PipeOrigin us l d n k

-- the capacity by powers of a pipe of these numbers
pub record IsPowerPipeOf (us : Bool) (length diameter coefficient minor : ℤ) (cap : PowerCapacity) : Type 0 where
  pub made : IsPowerMade cap
  pub length_is : cap.pipe.length.nano ≡ length
  pub diameter_is : cap.pipe.diameter.nano ≡ diameter
  pub coefficient_is : cap.pipe.coefficient.nano ≡ coefficient
  pub minor_is : cap.pipe.minor.nano ≡ minor
  pub us_is : cap.pipe.us ≡ us

-- the loss of a pipe, by the formula in force
abbrev pub IsPipeRow : List Row → Row → PipeLoss → Type 0
IsPipeRow rows row (Manning cap) =
    (force.has_hazen_williams rows ≡ false)
    × IsPipeOf (us rows) (amount 3 row.words) (amount 4 row.words) (amount 5 row.words) (pipe_minor row.words) cap
IsPipeRow rows row (HazenWilliams cap) =
    (force.has_hazen_williams rows ≡ true)
    × IsPowerPipeOf (us rows) (amount 3 row.words) (amount 4 row.words) (amount 5 row.words) (pipe_minor row.words) cap

abbrev pub IsPipeKind : List Row → Row → LinkKind → Type 0
IsPipeKind rows row (Pipe loss) = (has_check_valve row.words ≡ false) × IsPipeRow rows row loss
IsPipeKind rows row (CheckPipe loss) = (has_check_valve row.words ≡ true) × IsPipeRow rows row loss
IsPipeKind rows row _ = ⊥

-- ---- pumps

-- the capacity of a pump's curve of one point or three
pub record IsPumpOf (drop : Drop) (unit : FlowUnit) (cap : Capacity) : Type 0 where
  pub made : IsMade cap
  pub q : Decimal
  pub q_is : q.nano ≡ drop.flow
  pub h : Decimal
  pub h_is : h.nano ≡ drop.drop
  pub origin : cap.origin ≡ PumpOrigin q h drop.thirds unit

-- the head at no flow: four thirds of the head of one point, or the first head of three
abbrev pub IsShutoffOf : List Point → ShutoffHead → Type 0
IsShutoffOf (a ∷ []) (FourThirds head) = head.nano ≡ a.y
IsShutoffOf (a ∷ b ∷ points) (Given head) = head.nano ≡ a.y
IsShutoffOf _ _ = ⊥

abbrev pub pump_points : List Row → Row → List Point
pump_points rows row = curve_named rows (or_empty (pump_curve row.words))

abbrev pub IsPumpKind : List Row → Row → LinkKind → Type 0
IsPumpKind rows row (Pump cap shutoff head pattern) =
    (is_bent (pump_points rows row) ≡ false) × IsPumpOf (drop_of (pump_points rows row)) (unit rows) cap
    × IsShutoffOf (pump_points rows row) head × IsShutoffMade (unit rows) head shutoff
    × (pattern ≡ pattern_number rows (pump_pattern row.words))
IsPumpKind rows row (CurvePump bend pattern) =
    (is_bent (pump_points rows row) ≡ true) × (number_in (bend_names rows) (or_empty (pump_curve row.words))
    ≡ Some bend)
    × (pattern ≡ pattern_number rows (pump_pattern row.words))
IsPumpKind rows row _ = ⊥

-- ---- valves

-- the capacity of a valve of a diameter and a coefficient, in billionths
pub record IsValveOf (us : Bool) (diameter coefficient : ℤ) (cap : Capacity) : Type 0 where
  pub made : IsMade cap
  pub d : Decimal
  pub d_is : d.nano ≡ diameter
  pub k : Decimal
  pub k_is : k.nano ≡ coefficient
  pub origin : cap.origin ≡ ValveOrigin d k us

-- a coefficient of 0 makes a linear law
abbrev pub IsOpenValve : Bool → ℤ → ℤ → OpenValve → Type 0
IsOpenValve us diameter coefficient (Quadratic cap) = (pos 0 <ℤ coefficient) × IsValveOf us diameter coefficient cap
IsOpenValve us diameter coefficient Linear = coefficient ≡ pos 0

-- the law of a valve's row with a coefficient
abbrev pub IsLaw : List Row → Row → ℤ → OpenValve → Type 0
IsLaw rows row coefficient law = IsOpenValve (us rows) (amount 3 row.words) coefficient law

abbrev pub IsValveKind : List Row → Row → LinkKind → Type 0
IsValveKind rows row (Tcv valve) = (is_throttle row.words ≡ true) × IsLaw rows row (valve_minor row.words) valve
IsValveKind rows row (Fcv valve) =
    (is_throttle row.words ≡ false) × (is_general row.words ≡ false) × IsLaw rows row (valve_minor row.words) valve
IsValveKind rows row (Gpv bend) =
    (is_general row.words ≡ true) × (number_in (bend_names rows) (or_empty (valve_curve row.words)) ≡ Some bend)
IsValveKind rows row _ = ⊥

-- ---- states

-- a speed in billionths; speed 0 is closed
abbrev pub speed_state : ℤ → LinkState
speed_state nano = if int_eq nano (pos 0) then Closed else Speed nano

-- OPEN: of a pump, speed 1
abbrev pub open_state : Row → LinkState
open_state row = if is_of Pumps row then Speed (units 1) else Open

-- a throttle control valve of a coefficient in billionths
abbrev pub IsThrottle : List Row → Row → ℤ → LinkState → Type 0
IsThrottle rows row nano (Throttle coefficient law) = (coefficient ≡ nano) × IsLaw rows row nano law
IsThrottle rows row nano _ = ⊥

-- a number as the state of a pump or a valve: a speed, a coefficient, or a flow
abbrev pub IsNumberState : List Row → Row → ℤ → LinkState → Type 0
IsNumberState rows row nano state =
    Where (is_of Pumps row) (state ≡ speed_state nano)
    (Where (is_throttle row.words) (IsThrottle rows row nano state) (state ≡ Limit nano (flow_ticks (unit rows) nano)))

-- the state of a link that a word asks for
abbrev pub IsState : List Row → Row → List ℕ → LinkState → Type 0
IsState rows row asked state =
    Where (is_keyword (codes "OPEN") asked) (state ≡ open_state row)
    (Where (is_keyword (codes "CLOSED") asked) (state ≡ Closed) (IsNumberState rows row (nano_of asked) state))

abbrev pub IsStateOf : List Row → Option Row → List ℕ → LinkState → Type 0
IsStateOf rows None asked state = ⊥
IsStateOf rows (Some row) asked state = IsState rows row asked state

-- the state of a link's own row: a pipe's status, a pump's speed, a valve's setting; a general purpose valve is open
abbrev pub IsOwnState : List Row → Row → LinkState → Type 0
IsOwnState rows row state =
    Where (is_of Pipes row) (state ≡ (if is_closed_pipe row.words then Closed else Open))
    (Where (is_of Pumps row) (state ≡ speed_state (pump_speed row.words))
    (Where (is_general row.words) (state ≡ Open) (IsNumberState rows row (amount 5 row.words) state)))

-- a link starts by the last row of STATUS that names it, else by its own
abbrev pub IsStart : List Row → Row → Option Row → LinkState → Type 0
IsStart rows row None state = IsOwnState rows row state
IsStart rows row (Some status) state = IsState rows row (word 1 status.words) state

-- ---- links

abbrev pub IsKind : List Row → Row → LinkKind → Type 0
IsKind rows row kind =
    Where (is_of Pipes row) (IsPipeKind rows row kind)
    (Where (is_of Pumps row) (IsPumpKind rows row kind) (IsValveKind rows row kind))

pub record IsLink (rows : List Row) (row : Row) (l : Link) : Type 0 where
  pub ends : HasEnds rows row l
  pub kind : IsKind rows row l.kind
  pub start : IsStart rows row (status_row_of rows row) l.start

-- ---- patterns and curves

abbrev pub IsPattern : List Row → List ℕ → Pattern → Type 0
IsPattern rows id p = p.multipliers.list ≡ pattern_named rows id

-- the points of a named curve, in ticks
abbrev pub shape_points : List Row → List ℕ → List VolumePoint
shape_points rows name = volume_points (us rows) (curve_named rows name)

abbrev pub bend_points : List Row → List ℕ → List HeadPoint
bend_points rows name = head_points (unit rows) (us rows) (curve_named rows name)

-- ---- controls

-- IF and the level of a tank, by its number among the tanks; AT and a time or a time of day
abbrev pub IsWhen : List Row → List (List ℕ) → When → Type 0
IsWhen rows words (LevelAt tank above ticks) =
    (word_is 3 (codes "IF") words ≡ true) × (number_in (tank_ids rows) (word 5 words) ≡ Some tank)
    × (above ≡ word_is 6 (codes "ABOVE") words) × (ticks ≡ head_ticks (us rows) (amount 7 words))
IsWhen rows words (TimeAt seconds) =
    ((word_is 3 (codes "AT") words && not (word_is 4 (codes "CLOCKTIME") words)) ≡ true)
    × (seconds ≡ time_seconds 5 words)
IsWhen rows words (ClockAt seconds) =
    ((word_is 3 (codes "AT") words && word_is 4 (codes "CLOCKTIME") words) ≡ true) × (seconds ≡ clock_seconds 5 words)

pub record IsControl (rows : List Row) (words : List (List ℕ)) (c : Control) : Type 0 where
  pub link : number_in (link_ids rows) (word 1 words) ≡ Some c.link
  pub to : IsStateOf rows (link_named rows (word 1 words)) (word 2 words) c.to
  pub when : IsWhen rows words c.when

-- ---- rules

-- OR, or else AND: how the first clause is joined means nothing
abbrev pub joined_by : Option RuleWord → Joined
joined_by (Some rule.Or) = Or
joined_by _ = And

-- the number of a node, a tank or a link that the third word names
abbrev pub IsNumber : List (List ℕ) → List (List ℕ) → ℕ → Type 0
IsNumber ids words number = number_in ids (word 2 words) ≡ Some number

-- what a clause speaks of, by its attribute
abbrev pub IsWhat : List Row → List (List ℕ) → Option Attribute → What → Type 0
IsWhat rows words (Some attribute.Head) (Head node) = IsNumber (node_ids rows) words node
IsWhat rows words (Some attribute.Pressure) (Pressure node) = IsNumber (node_ids rows) words node
IsWhat rows words (Some attribute.Level) (Level tank) = IsNumber (tank_ids rows) words tank
IsWhat rows words (Some attribute.Flow) (Flow link) = IsNumber (link_ids rows) words link
IsWhat rows words (Some attribute.Setting) (Setting link) = IsNumber (link_ids rows) words link
IsWhat rows words (Some attribute.Status) (Status link) = IsNumber (link_ids rows) words link
IsWhat rows words (Some attribute.Time) Time = ⊤
IsWhat rows words (Some attribute.Clock) Clock = ⊤
IsWhat rows words _ _ = ⊥

-- the number that a clause compares with, in billionths: that of a word, or whole seconds
abbrev pub compared : What → ℕ → List (List ℕ) → ℤ
compared Time k words = pos (time_seconds k words) *ℤ units 1
compared Clock k words = pos (clock_seconds k words) *ℤ units 1
compared _ k words = amount k words

abbrev pub status_value : List ℕ → Value
status_value name =
    if is_keyword (codes "OPEN") name then value.Open
    else (if is_keyword (codes "CLOSED") name then value.Closed else value.Active)

-- what a clause compares with: a status, or an amount
abbrev pub IsValue : FlowUnit → What → ℕ → List (List ℕ) → Value → Type 0
IsValue unit (Status link) k words found = found ≡ status_value (word k words)
IsValue unit what k words (value.Amount span number) = (number.nano ≡ compared what k words)
    × IsAmount unit what number.nano span
IsValue unit what k words _ = ⊥

-- the place of a clause's attribute
abbrev pub place_of : Option ObjectWord → ℕ
place_of None = 3
place_of (Some object) = attribute_place object

-- a clause whose attribute is the word of a number
pub record IsClauseAt (rows : List Row) (k : ℕ) (words : List (List ℕ)) (c : RuleClause) : Type 0 where
  pub joined : c.joined ≡ joined_by (begins_with words)
  pub what : IsWhat rows words (attribute_word (word k words)) c.clause.what
  pub relation : relation_word (word (k + 1) words) ≡ Some c.clause.relation
  pub value_is : IsValue (unit rows) c.clause.what (k + 2) words c.clause.value

abbrev pub IsClause : List Row → List (List ℕ) → RuleClause → Type 0
IsClause rows words c = IsClauseAt rows (place_of (object_word (word 1 words))) words c

pub record IsAction (rows : List Row) (words : List (List ℕ)) (a : Action) : Type 0 where
  pub link : number_in (link_ids rows) (word 2 words) ≡ Some a.link
  pub to : IsStateOf rows (link_named rows (word 2 words)) (word 5 words) a.to

-- a rule is that of its lines
pub record IsRule (rows : List Row) (group : List (List (List ℕ))) (r : Rule) : Type 0 where
  pub id : r.id.list ≡ rule_id group
  pub clauses : Match (IsClause rows) (clause_lines group) r.clauses.list
  pub yes : Match (IsAction rows) (then_lines group) r.yes.list
  pub no : Match (IsAction rows) (else_lines group) r.no.list
  pub priority : r.priority ≡ priority_of group

-- ---- all of it

-- pipes, then pumps, then valves
abbrev pub numbered_links : List Row → List Row
numbered_links rows = rows_of Pipes rows ++ rows_of Pumps rows ++ rows_of Valves rows

pub record IsProject (rows : List Row) (p : Project) : Type 0 where
  pub options : IsOptions rows p.options
  pub times : IsTimes rows p.times
  pub node_ids_are : p.node_ids ≡ node_ids rows
  pub link_ids_are : p.link_ids ≡ link_ids rows
  pub junctions : Match (IsJunction rows) (rows_of Junctions rows) p.junctions.list
  pub reservoirs : Match (IsReservoir rows) (rows_of Reservoirs rows) p.reservoirs.list
  pub tanks : Match (IsTank rows) (rows_of Tanks rows) p.tanks.list
  pub links : Match (IsLink rows) (numbered_links rows) p.links.list
  pub patterns : Match (IsPattern rows) (pattern_ids rows) p.patterns.list
  pub shapes : Match (λ name list. list.list ≡ shape_points rows name) (shape_names rows) p.shapes.list
  pub bends : Match (λ name list. list.list ≡ bend_points rows name) (bend_names rows) p.bends.list
  pub controls : Match (IsControl rows) (words_of Controls rows) p.controls.list
  pub rules : Match (IsRule rows) (rule_groups (words_of Rules rows)) p.rules.list
