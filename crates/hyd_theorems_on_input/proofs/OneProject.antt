-- Rows describe one network: any two of them are the same, apart from what the comparison of networks leaves
-- aside.
use Rattle.std.proofs.Common.{◌≡◌, ℕ, ◌+◌, ◌*◌, ◌^◌, ℤ, pos, Bool, true, false, List, [], ◌∷◌, Option, Some, None, refl}
use Rattle.std.proofs.Common.{sym, ap, ◌∙◌, subst, arith, true≢false}
use Rattle.std.specs.Prelude.{slice_get, codes, ◌<ℤ◌, ◌*ℤ◌, if◌then◌else◌}
use Rattle.std.specs.Option.{option_map}
use Rattle.std.proofs.lemmas.Bool.{and_parts, not-true}
use Rattle.std.proofs.lemmas.Int.{ints}
use Rattle.hyd_num.specs.declared.decimals.Decimal.{Decimal}
use Rattle.hyd_num.specs.declared.spans.Span.{Span}
use Rattle.hyd_num.specs.declared.flow_units.FlowUnit.{FlowUnit}
use Rattle.hyd_num.specs.declared.link_capacities.Capacity.{Capacity}
use Rattle.hyd_num.specs.declared.link_capacities.Origin.TheVariants.{Pipe as PipeOrigin, Valve as ValveOrigin}
use Rattle.hyd_num.specs.declared.link_capacities.Origin.TheVariants.{Pump as PumpOrigin, Emitter as EmitterOrigin}
use Rattle.hyd_num.specs.Numeral.{nano_of}
use Rattle.hyd_num.specs.QuotientsAndRoots.{IsFloor}
use Rattle.hyd_num.specs.FileQuantity.{is_us_unit, head_ticks, flow_ticks}
use Rattle.hyd_num.proofs.Floors.{one_ceiling, one_floor}
use Rattle.hyd_spec_power_laws.specs.declared.power_capacities.PowerCapacity.{PowerCapacity}
use Rattle.hyd_power_capacities.proofs.OnePowerCapacity as power
use Rattle.hyd_spec_lines.specs.WordsOfLines.{is_keyword}
use Rattle.hyd_spec_lines.specs.Lines.{Row}
use Rattle.hyd_spec_lines.specs.declared.section.Section.TheVariants.{Junctions, Reservoirs, Tanks, Pipes, Pumps}
use Rattle.hyd_spec_lines.specs.declared.section.Section.TheVariants.{Controls, Rules}
use Rattle.hyd_net.proofs.EqualValues.{Decimal-equal, Span-equal}
use Rattle.hyd_net.specs.RoundedFileNumbers.{IsRounded, IsExactly, IsSeconds, IsAmount, IsAreaMade, IsShutoffMade}
use Rattle.hyd_net.specs.ProjectAsCompared.{bare_list, compared_capacity, compared_link, compared_junction}
use Rattle.hyd_net.specs.ProjectAsCompared.{compared_tank, compared_pattern, compared_control, compared_rule_clause}
use Rattle.hyd_net.specs.ProjectAsCompared.{compared_action, compared_rule, compared_project}
use Rattle.hyd_net.specs.declared.options.Options.{Options}
use Rattle.hyd_net.specs.declared.options.Times.{Times}
use Rattle.hyd_net.specs.declared.nodes.Junction.{Junction}
use Rattle.hyd_net.specs.declared.nodes.Reservoir.{Reservoir}
use Rattle.hyd_net.specs.declared.nodes.Tank.{Tank}
use Rattle.hyd_net.specs.declared.links.Link.{Link}
use Rattle.hyd_net.specs.declared.links.PipeLoss.{PipeLoss}
use Rattle.hyd_net.specs.declared.links.PipeLoss.TheVariants.{Manning, HazenWilliams}
use Rattle.hyd_net.specs.declared.links.LinkKind.{LinkKind}
use Rattle.hyd_net.specs.declared.links.LinkKind.TheVariants.{Pipe, CheckPipe, Pump, CurvePump, Tcv, Fcv, Gpv}
use Rattle.hyd_net.specs.declared.links.LinkState.{LinkState}
use Rattle.hyd_net.specs.declared.links.LinkState.TheVariants.{Open, Closed, Throttle, Limit}
use Rattle.hyd_net.specs.declared.links.OpenValve.{OpenValve}
use Rattle.hyd_net.specs.declared.links.OpenValve.TheVariants.{Quadratic, Linear}
use Rattle.hyd_net.specs.declared.links.ShutoffHead.{ShutoffHead}
use Rattle.hyd_net.specs.declared.links.ShutoffHead.TheVariants.{FourThirds, Given}
use Rattle.hyd_net.specs.declared.patterns.Pattern.{Pattern}
use Rattle.hyd_net.specs.declared.controls.When.{When}
use Rattle.hyd_net.specs.declared.controls.When.TheVariants.{Level as LevelAt, Time as TimeAt, Clock as ClockAt}
use Rattle.hyd_net.specs.declared.controls.Control.{Control}
use Rattle.hyd_net.specs.declared.rules.What.{What}
use Rattle.hyd_net.specs.declared.rules.What.TheVariants.{Head, Pressure, Level, Flow, Setting, Status, Time, Clock}
use Rattle.hyd_net.specs.declared.rules.Value.{Value}
use Rattle.hyd_net.specs.declared.rules.Value.TheVariants.{Amount}
use Rattle.hyd_net.specs.declared.rules.RuleClause.{RuleClause}
use Rattle.hyd_net.specs.declared.rules.Action.{Action}
use Rattle.hyd_net.specs.declared.rules.Rule.{Rule}
use Rattle.hyd_net.specs.declared.project.Project.{Project}
use Rattle.hyd_spec_input.specs.Columns.{word, amount, word_is}
use Rattle.hyd_spec_input.specs.NodeAndLinkRows.{is_throttle, is_general, is_closed_pipe, pump_speed, valve_minor}
use Rattle.hyd_spec_input.specs.SectionsAndTables.{Point, is_of, rows_of, words_of, link_named}
use Rattle.hyd_spec_input.specs.OptionsAndTimesInForce.{unit}
use Rattle.hyd_spec_input.specs.Curves.{Drop, drop_of}
use Rattle.hyd_spec_input.specs.MeaningsAcrossRows.{emitter_of, status_row_of, pattern_ids, shape_names, bend_names}
use Rattle.hyd_spec_input.specs.MeaningsAcrossRows.{rule_groups, clause_lines, then_lines, else_lines}
use Rattle.hyd_spec_input.specs.FaultsWithOtherRows.{us}
use Rattle.hyd_spec_input.specs.Project as project_of
use Rattle.hyd_spec_input.specs.Project.{Where, IsOptions, IsTimes, IsEmitter, IsEmitterOf, IsPipeOf, IsPipeRow}
use Rattle.hyd_spec_input.specs.Project.{IsPowerPipeOf}
use Rattle.hyd_spec_input.specs.Project.{IsPipeKind}
use Rattle.hyd_spec_input.specs.Project.{IsPumpOf, IsShutoffOf, pump_points, IsPumpKind, IsValveOf, IsOpenValve}
use Rattle.hyd_spec_input.specs.Project.{IsValveKind, speed_state, open_state, IsThrottle, IsNumberState, IsState}
use Rattle.hyd_spec_input.specs.Project.{IsStateOf, IsOwnState, IsStart, IsKind, IsLink, IsWhen, IsWhat, IsValue}
use Rattle.hyd_spec_input.specs.Project.{IsClauseAt, IsClause, IsAction, numbered_links, shape_points, bend_points}
use Rattle.hyd_spec_input.specs.Project.{IsProject}
use Rattle.hyd_spec_input.specs.declared.Attribute.{Attribute}
use Rattle.hyd_spec_input.specs.declared.Attribute.TheVariants as attribute
use Rattle.hyd_lemmas.proofs.ListsOptionsAndResults.{same_some}
use Rattle.hyd_lemmas.proofs.OneCapacity.{one_capacity}
use Rattle.hyd_theorems_on_input.proofs.ControlLines.{word_apart, at_not_if}
use Rattle.hyd_theorems_on_input.proofs.MatchedLists.{one_image, one_list}

-- ---- the parts of a fact

pub one_where : (b : Bool) (P Q R S C : Type 0) → (P → R → C) → (Q → S → C) → Where b P Q → Where b R S → C
one_where true P Q R S C first second f g = first f g
one_where false P Q R S C first second f g = second f g

pub one_rounded : (n : ℤ) (d : ℕ) (s t : Span) → IsRounded n d s → IsRounded n d t → s ≡ t
one_rounded n d s t f g =
    Span-equal s t (one_floor n (pos d) s.lo t.lo f.floor g.floor) (one_ceiling n (pos d) s.hi t.hi f.ceiling g.ceiling)

pub one_exactly : (z : ℤ) (s t : Span) → IsExactly z s → IsExactly z t → s ≡ t
one_exactly z s t f g = Span-equal s t (f.low ∙ sym g.low) (f.high ∙ sym g.high)

pub one_seconds : (z : ℤ) (s t : Span) → IsSeconds z s → IsSeconds z t → s ≡ t
one_seconds z s t f g =
    let low : s.lo ≡ t.lo = omega (arith, ints, f.whole, g.whole) in
    Span-equal s t low (f.high ∙ low ∙ sym g.high)

pub not_above : (z : ℤ) → pos 0 <ℤ z → z ≡ pos 0 → ⊥
not_above z l e = absurd (omega (arith, ints, l, e))

-- ---- options and times

pub one_options : (rows : List Row) (o p : Options) → IsOptions rows o → IsOptions rows p → o ≡ p
one_options rows o p f g =
    let minimum = Decimal-equal o.p0 p.p0 (f.minimum ∙ sym g.minimum) in
    let required = Decimal-equal o.pf p.pf (f.required ∙ sym g.required) in
    let multiplier = Decimal-equal o.multiplier p.multiplier (f.multiplier ∙ sym g.multiplier) in
    let units = f.unit_is ∙ sym g.unit_is in
    let pda = f.pda ∙ sym g.pda in
    let pattern = f.default_pattern ∙ sym g.default_pattern in
    λ i. record {
      unit = units i;
      pda = pda i;
      p0 = minimum i;
      pf = required i;
      multiplier = multiplier i;
      default_pattern = pattern i;
    }

pub one_times : (rows : List Row) (s t : Times) → IsTimes rows s → IsTimes rows t → s ≡ t
one_times rows s t f g =
    let duration = f.duration ∙ sym g.duration in
    let hydraulic = f.hydraulic ∙ sym g.hydraulic in
    let pattern = f.pattern ∙ sym g.pattern in
    let pattern_start = f.pattern_start ∙ sym g.pattern_start in
    let report = f.report ∙ sym g.report in
    let report_start = f.report_start ∙ sym g.report_start in
    let rule = f.rule ∙ sym g.rule in
    let start_clock = f.start_clock ∙ sym g.start_clock in
    λ i. record {
      duration = duration i;
      hydraulic = hydraulic i;
      pattern = pattern i;
      pattern_start = pattern_start i;
      report = report i;
      report_start = report_start i;
      start_clock = start_clock i;
      rule = rule i;
    }

-- ---- nodes

pub one_emitter : (u : FlowUnit) (nano : ℤ) (a b : Option Capacity) → IsEmitter u nano a → IsEmitter u nano b
    → a ≡ b
one_emitter u nano None None f g = refl
one_emitter u nano None (Some b) f g = absurd (not_above nano g.0 f)
one_emitter u nano (Some a) None f g = absurd (not_above nano f.0 g)
one_emitter u nano (Some a) (Some b) f g =
    let x : IsEmitterOf u nano a = f.1 in
    let y : IsEmitterOf u nano b = g.1 in
    let c = Decimal-equal x.c y.c (x.c_is ∙ sym y.c_is) in
    let origins : EmitterOrigin x.c u ≡ EmitterOrigin y.c u = λ i. EmitterOrigin (c i) u in
    ap Some (one_capacity a b (x.origin ∙ origins ∙ sym y.origin) x.made y.made)

one_junction : (rows : List Row) (row : Row) (j k : Junction) → project_of.IsJunction rows row j
    → project_of.IsJunction rows row k → compared_junction j ≡ compared_junction k
one_junction rows row j k f g =
    let elevation = f.elevation ∙ sym g.elevation in
    let demands = f.demands ∙ sym g.demands in
    let emitter = ap (option_map compared_capacity)
    (one_emitter (unit rows) (emitter_of rows row) j.emitter k.emitter f.emitter g.emitter) in
    λ i. record { elevation = elevation i; demands = record { list = demands i; spare = 0 }; emitter = emitter i }

pub one_reservoir : (rows : List Row) (row : Row) (r s : Reservoir) → project_of.IsReservoir rows row r
    → project_of.IsReservoir rows row s → r ≡ s
one_reservoir rows row r s f g =
    let head = f.head ∙ sym g.head in
    let pattern = f.pattern ∙ sym g.pattern in
    λ i. record { head = head i; pattern = pattern i }

pub one_area : (u : FlowUnit) (s t : Tank) → s.diameter.nano ≡ t.diameter.nano → IsAreaMade u s → IsAreaMade u t
    → s.area ≡ t.area
one_area u s t same f g =
    let Area : ℤ → Type 0 = λ d. IsFloor
    (pos 3141592654 *ℤ (head_ticks (is_us_unit u) d *ℤ head_ticks (is_us_unit u) d)) (pos (4 * 10 ^ 26)) s.area in
    one_floor _ _ s.area t.area (subst Area same f) g

pub one_tank : (rows : List Row) (row : Row) (s t : Tank) → project_of.IsTank rows row s → project_of.IsTank rows row t
    → s ≡ t
one_tank rows row s t f g =
    let bottom = f.bottom ∙ sym g.bottom in
    let initial = f.initial ∙ sym g.initial in
    let minimum = f.minimum ∙ sym g.minimum in
    let maximum = f.maximum ∙ sym g.maximum in
    let diameter = Decimal-equal s.diameter t.diameter (f.diameter ∙ sym g.diameter) in
    let area = one_area (unit rows) s t (f.diameter ∙ sym g.diameter) f.area g.area in
    let shape = f.shape ∙ sym g.shape in
    let overflow = f.overflow ∙ sym g.overflow in
    λ i. record {
      bottom = bottom i;
      initial = initial i;
      minimum = minimum i;
      maximum = maximum i;
      area = area i;
      diameter = diameter i;
      shape = shape i;
      overflow = overflow i;
    }

-- ---- what links are

one_pipe : (u : Bool) (l d n k : ℤ) (a b : Capacity) → IsPipeOf u l d n k a → IsPipeOf u l d n k b
    → a ≡ b
one_pipe u l d n k a b f g =
    let long = Decimal-equal f.l g.l (f.l_is ∙ sym g.l_is) in
    let across = Decimal-equal f.d g.d (f.d_is ∙ sym g.d_is) in
    let rough = Decimal-equal f.n g.n (f.n_is ∙ sym g.n_is) in
    let minor = Decimal-equal f.k g.k (f.k_is ∙ sym g.k_is) in
    let origins : PipeOrigin u f.l f.d f.n f.k ≡ PipeOrigin u g.l g.d g.n g.k =
    λ i. PipeOrigin u (long i) (across i) (rough i) (minor i) in
    one_capacity a b (f.origin ∙ origins ∙ sym g.origin) f.made g.made

one_power_pipe : (u : Bool) (l d n k : ℤ) (a b : PowerCapacity) → IsPowerPipeOf u l d n k a
    → IsPowerPipeOf u l d n k b → a ≡ b
one_power_pipe u l d n k a b f g =
    let long = Decimal-equal a.pipe.length b.pipe.length (f.length_is ∙ sym g.length_is) in
    let across = Decimal-equal a.pipe.diameter b.pipe.diameter (f.diameter_is ∙ sym g.diameter_is) in
    let rough = Decimal-equal a.pipe.coefficient b.pipe.coefficient (f.coefficient_is ∙ sym g.coefficient_is) in
    let minor = Decimal-equal a.pipe.minor b.pipe.minor (f.minor_is ∙ sym g.minor_is) in
    let system = f.us_is ∙ sym g.us_is in
    power.one_capacity a b (λ i. record {
      length = long i;
      diameter = across i;
      coefficient = rough i;
      minor = minor i;
      us = system i;
    }) f.made g.made

one_valve : (u : Bool) (d k : ℤ) (a b : Capacity) → IsValveOf u d k a → IsValveOf u d k b
    → a ≡ b
one_valve u d k a b f g =
    let across = Decimal-equal f.d g.d (f.d_is ∙ sym g.d_is) in
    let minor = Decimal-equal f.k g.k (f.k_is ∙ sym g.k_is) in
    let origins : ValveOrigin f.d f.k u ≡ ValveOrigin g.d g.k u = λ i. ValveOrigin (across i) (minor i) u in
    one_capacity a b (f.origin ∙ origins ∙ sym g.origin) f.made g.made

one_pump : (drop : Drop) (u : FlowUnit) (a b : Capacity) → IsPumpOf drop u a → IsPumpOf drop u b
    → a ≡ b
one_pump drop u a b f g =
    let flow = Decimal-equal f.q g.q (f.q_is ∙ sym g.q_is) in
    let head = Decimal-equal f.h g.h (f.h_is ∙ sym g.h_is) in
    let origins : PumpOrigin f.q f.h drop.thirds u ≡ PumpOrigin g.q g.h drop.thirds u =
    λ i. PumpOrigin (flow i) (head i) drop.thirds u in
    one_capacity a b (f.origin ∙ origins ∙ sym g.origin) f.made g.made

one_law : (u : Bool) (d k : ℤ) (a b : OpenValve) → IsOpenValve u d k a → IsOpenValve u d k b
    → a ≡ b
one_law u d k (Quadratic a) (Quadratic b) f g = ap Quadratic (one_valve u d k a b f.1 g.1)
one_law u d k (Quadratic a) Linear f g = absurd (not_above k f.0 g)
one_law u d k Linear (Quadratic b) f g = absurd (not_above k g.0 f)
one_law u d k Linear Linear f g = refl

-- the shutoff head of one number
pub shutoff_by : (u : FlowUnit) (z : ℤ) (h t : ShutoffHead) (s r : Span) → h ≡ t → IsShutoffMade u h s
    → IsShutoffMade u t r → s ≡ r
shutoff_by u z h t s r same f g = by t (subst (λ (x : ShutoffHead). IsShutoffMade u x s) same f) g
  where
    by : (x : ShutoffHead) → IsShutoffMade u x s → IsShutoffMade u x r → s ≡ r
    by (FourThirds x) f g = one_rounded _ 3 s r f g
    by (Given x) f g = one_exactly _ s r f g

pub one_shutoff_head : (points : List Point) (h t : ShutoffHead) → IsShutoffOf points h → IsShutoffOf points t → h ≡ t
one_shutoff_head [] h t f g = absurd f
one_shutoff_head (a ∷ []) (FourThirds h) (FourThirds t) f g = ap FourThirds (Decimal-equal h t (f ∙ sym g))
one_shutoff_head (a ∷ []) (FourThirds h) (Given t) f g = absurd g
one_shutoff_head (a ∷ []) (Given h) t f g = absurd f
one_shutoff_head (a ∷ b ∷ points) (FourThirds h) t f g = absurd f
one_shutoff_head (a ∷ b ∷ points) (Given h) (FourThirds t) f g = absurd g
one_shutoff_head (a ∷ b ∷ points) (Given h) (Given t) f g = ap Given (Decimal-equal h t (f ∙ sym g))

one_loss : (rows : List Row) (row : Row) (a b : PipeLoss) → IsPipeRow rows row a → IsPipeRow rows row b → a ≡ b
one_loss rows row (Manning a) (Manning b) f g = ap Manning (one_pipe _ _ _ _ _ a b f.1 g.1)
one_loss rows row (Manning a) (HazenWilliams b) f g = absurd (true≢false (sym g.0 ∙ f.0))
one_loss rows row (HazenWilliams a) (Manning b) f g = absurd (true≢false (sym f.0 ∙ g.0))
one_loss rows row (HazenWilliams a) (HazenWilliams b) f g =
    ap HazenWilliams (one_power_pipe _ _ _ _ _ a b f.1 g.1)

one_pipe_kind : (rows : List Row) (row : Row) (a b : LinkKind) → IsPipeKind rows row a → IsPipeKind rows row b
    → a ≡ b
one_pipe_kind rows row (Pipe a) (Pipe b) f g = ap Pipe (one_loss rows row a b f.1 g.1)
one_pipe_kind rows row (Pipe a) (CheckPipe b) f g = absurd (true≢false (sym g.0 ∙ f.0))
one_pipe_kind rows row (CheckPipe a) (Pipe b) f g = absurd (true≢false (sym f.0 ∙ g.0))
one_pipe_kind rows row (CheckPipe a) (CheckPipe b) f g = ap CheckPipe (one_loss rows row a b f.1 g.1)
one_pipe_kind rows row (Pipe a) _ f g = absurd g
one_pipe_kind rows row (CheckPipe a) _ f g = absurd g
one_pipe_kind rows row _ _ f g = absurd f

one_pump_kind : (rows : List Row) (row : Row) (a b : LinkKind) → IsPumpKind rows row a → IsPumpKind rows row b
    → a ≡ b
one_pump_kind rows row (Pump a s h p) (Pump b r t q) f g =
    let caps = one_pump (drop_of (pump_points rows row)) (unit rows) a b f.1 g.1 in
    let heads = one_shutoff_head (pump_points rows row) h t f.2 g.2 in
    let spans = shutoff_by (unit rows) (pos 0) h t s r heads f.3 g.3 in
    let patterns = f.4 ∙ sym g.4 in
    λ i. Pump (caps i) (spans i) (heads i) (patterns i)
one_pump_kind rows row (Pump a s h p) (CurvePump m q) f g = absurd (true≢false (sym g.0 ∙ f.0))
one_pump_kind rows row (CurvePump l p) (Pump b r t q) f g = absurd (true≢false (sym f.0 ∙ g.0))
one_pump_kind rows row (CurvePump l p) (CurvePump m q) f g =
    let bends = same_some _ l m f.1 g.1 in
    let patterns = f.2 ∙ sym g.2 in
    λ i. CurvePump (bends i) (patterns i)
one_pump_kind rows row (Pump a s h p) _ f g = absurd g
one_pump_kind rows row (CurvePump l p) _ f g = absurd g
one_pump_kind rows row _ _ f g = absurd f

pub general_not_throttle : is_keyword (codes "GPV") (codes "TCV") ≡ false
unfolding is_keyword
general_not_throttle = refl

pub never_both : (words : List (List ℕ)) → is_throttle words ≡ true → is_general words ≡ true → ⊥
never_both words t g =
    true≢false (sym g ∙ word_apart (codes "TCV") (codes "GPV") (slice_get words 4) t general_not_throttle)

one_valve_kind : (rows : List Row) (row : Row) (a b : LinkKind) → IsValveKind rows row a → IsValveKind rows row b
    → a ≡ b
one_valve_kind rows row (Tcv a) (Tcv b) f g =
    ap Tcv (one_law (us rows) (amount 3 row.words) (valve_minor row.words) a b f.1 g.1)
one_valve_kind rows row (Tcv a) (Fcv b) f g = absurd (true≢false (sym f.0 ∙ g.0))
one_valve_kind rows row (Tcv a) (Gpv m) f g = absurd (never_both row.words f.0 g.0)
one_valve_kind rows row (Fcv a) (Tcv b) f g = absurd (true≢false (sym g.0 ∙ f.0))
one_valve_kind rows row (Fcv a) (Fcv b) f g =
    ap Fcv (one_law (us rows) (amount 3 row.words) (valve_minor row.words) a b f.2 g.2)
one_valve_kind rows row (Fcv a) (Gpv m) f g = absurd (true≢false (sym g.0 ∙ f.1))
one_valve_kind rows row (Gpv l) (Tcv b) f g = absurd (never_both row.words g.0 f.0)
one_valve_kind rows row (Gpv l) (Fcv b) f g = absurd (true≢false (sym f.0 ∙ g.1))
one_valve_kind rows row (Gpv l) (Gpv m) f g = ap Gpv (same_some _ l m f.1 g.1)
one_valve_kind rows row (Tcv a) _ f g = absurd g
one_valve_kind rows row (Fcv a) _ f g = absurd g
one_valve_kind rows row (Gpv l) _ f g = absurd g
one_valve_kind rows row _ _ f g = absurd f

one_kind : (rows : List Row) (row : Row) (a b : LinkKind) → IsKind rows row a → IsKind rows row b
    → a ≡ b
one_kind rows row a b =
    one_where (is_of Pipes row) (IsPipeKind rows row a)
    (Where (is_of Pumps row) (IsPumpKind rows row a) (IsValveKind rows row a)) (IsPipeKind rows row b)
    (Where (is_of Pumps row) (IsPumpKind rows row b) (IsValveKind rows row b)) (a ≡ b)
    (one_pipe_kind rows row a b)
    (one_where (is_of Pumps row) (IsPumpKind rows row a) (IsValveKind rows row a) (IsPumpKind rows row b)
    (IsValveKind rows row b) (a ≡ b) (one_pump_kind rows row a b) (one_valve_kind rows row a b))

-- ---- states

as_said : (x a b : LinkState) → a ≡ x → b ≡ x → a ≡ b
as_said x a b f g = f ∙ sym g

one_throttle : (rows : List Row) (row : Row) (nano : ℤ) (a b : LinkState) → IsThrottle rows row nano a
    → IsThrottle rows row nano b → a ≡ b
one_throttle rows row nano (Throttle c a) (Throttle d b) f g =
    let coefficients = f.0 ∙ sym g.0 in
    let laws = one_law (us rows) (amount 3 row.words) nano a b f.1 g.1 in
    λ i. Throttle (coefficients i) (laws i)
one_throttle rows row nano (Throttle c a) _ f g = absurd g
one_throttle rows row nano _ _ f g = absurd f

one_number_state : (rows : List Row) (row : Row) (nano : ℤ) (a b : LinkState) → IsNumberState rows row nano a
    → IsNumberState rows row nano b → a ≡ b
one_number_state rows row nano a b =
    let limit = Limit nano (flow_ticks (unit rows) nano) in
    one_where (is_of Pumps row) (a ≡ speed_state nano)
    (Where (is_throttle row.words) (IsThrottle rows row nano a) (a ≡ limit)) (b ≡ speed_state nano)
    (Where (is_throttle row.words) (IsThrottle rows row nano b) (b ≡ limit)) (a ≡ b)
    (as_said (speed_state nano) a b)
    (one_where (is_throttle row.words) (IsThrottle rows row nano a) (a ≡ limit) (IsThrottle rows row nano b)
    (b ≡ limit) (a ≡ b) (one_throttle rows row nano a b) (as_said limit a b))

one_state : (rows : List Row) (row : Row) (asked : List ℕ) (a b : LinkState) → IsState rows row asked a
    → IsState rows row asked b → a ≡ b
one_state rows row asked a b =
    let nano = nano_of asked in
    one_where (is_keyword (codes "OPEN") asked) (a ≡ open_state row)
    (Where (is_keyword (codes "CLOSED") asked) (a ≡ Closed) (IsNumberState rows row nano a)) (b ≡ open_state row)
    (Where (is_keyword (codes "CLOSED") asked) (b ≡ Closed) (IsNumberState rows row nano b))
    (a ≡ b)
    (as_said (open_state row) a b)
    (one_where (is_keyword (codes "CLOSED") asked) (a ≡ Closed) (IsNumberState rows row nano a) (b ≡ Closed)
    (IsNumberState rows row nano b) (a ≡ b) (as_said Closed a b)
    (one_number_state rows row nano a b))

one_state_of : (rows : List Row) (o : Option Row) (asked : List ℕ) (a b : LinkState) → IsStateOf rows o asked a
    → IsStateOf rows o asked b → a ≡ b
one_state_of rows None asked a b f g = absurd f
one_state_of rows (Some row) asked a b f g = one_state rows row asked a b f g

one_own_state : (rows : List Row) (row : Row) (a b : LinkState) → IsOwnState rows row a → IsOwnState rows row b
    → a ≡ b
one_own_state rows row a b =
    let status = if is_closed_pipe row.words then Closed else Open in
    let speed = speed_state (pump_speed row.words) in
    let setting = amount 5 row.words in
    one_where (is_of Pipes row) (a ≡ status)
    (Where (is_of Pumps row) (a ≡ speed)
    (Where (is_general row.words) (a ≡ Open) (IsNumberState rows row setting a))) (b ≡ status)
    (Where (is_of Pumps row) (b ≡ speed)
    (Where (is_general row.words) (b ≡ Open) (IsNumberState rows row setting b)))
    (a ≡ b) (as_said status a b)
    (one_where (is_of Pumps row) (a ≡ speed)
    (Where (is_general row.words) (a ≡ Open) (IsNumberState rows row setting a)) (b ≡ speed)
    (Where (is_general row.words) (b ≡ Open) (IsNumberState rows row setting b))
    (a ≡ b) (as_said speed a b)
    (one_where (is_general row.words) (a ≡ Open) (IsNumberState rows row setting a) (b ≡ Open)
    (IsNumberState rows row setting b) (a ≡ b) (as_said Open a b)
    (one_number_state rows row setting a b)))

one_start : (rows : List Row) (row : Row) (o : Option Row) (a b : LinkState) → IsStart rows row o a
    → IsStart rows row o b → a ≡ b
one_start rows row None a b f g = one_own_state rows row a b f g
one_start rows row (Some status) a b f g = one_state rows row (word 1 status.words) a b f g

pub one_link : (rows : List Row) (row : Row) (l m : Link) → IsLink rows row l → IsLink rows row m
    → l ≡ m
one_link rows row l m f g =
    let from = same_some _ l.from m.from f.ends.from g.ends.from in
    let to = same_some _ l.to m.to f.ends.to g.ends.to in
    let kind = one_kind rows row l.kind m.kind f.kind g.kind in
    let start = one_start rows row (status_row_of rows row) l.start m.start f.start g.start in
    λ i. record { from = from i; to = to i; kind = kind i; start = start i }

-- ---- patterns and controls

pub one_pattern : (rows : List Row) (id : List ℕ) (p q : Pattern) → project_of.IsPattern rows id p
    → project_of.IsPattern rows id q → compared_pattern p ≡ compared_pattern q
one_pattern rows id p q f g =
    let multipliers = f ∙ sym g in λ i. record { multipliers = record { list = multipliers i; spare = 0 } }

pub never_if_at : (words : List (List ℕ)) → word_is 3 (codes "IF") words ≡ true → word_is 3 (codes "AT") words ≡ true
    → ⊥
never_if_at words first second =
    true≢false (sym first ∙ word_apart (codes "AT") (codes "IF") (slice_get words 3) second at_not_if)

pub one_when : (rows : List Row) (words : List (List ℕ)) (a b : When) → IsWhen rows words a → IsWhen rows words b → a
    ≡ b
one_when rows words (LevelAt t a l) (LevelAt u b m) f g =
    let tanks = same_some _ t u f.1 g.1 in
    let above = f.2 ∙ sym g.2 in
    let ticks = f.3 ∙ sym g.3 in
    λ i. LevelAt (tanks i) (above i) (ticks i)
one_when rows words (LevelAt t a l) (TimeAt s) f g =
    absurd (never_if_at words f.0 (and_parts (word_is 3 (codes "AT") words) _ g.0).0)
one_when rows words (LevelAt t a l) (ClockAt s) f g =
    absurd (never_if_at words f.0 (and_parts (word_is 3 (codes "AT") words) _ g.0).0)
one_when rows words (TimeAt s) (LevelAt u b m) f g =
    absurd (never_if_at words g.0 (and_parts (word_is 3 (codes "AT") words) _ f.0).0)
one_when rows words (ClockAt s) (LevelAt u b m) f g =
    absurd (never_if_at words g.0 (and_parts (word_is 3 (codes "AT") words) _ f.0).0)
one_when rows words (TimeAt s) (TimeAt t) f g = ap TimeAt (f.1 ∙ sym g.1)
one_when rows words (ClockAt s) (ClockAt t) f g = ap ClockAt (f.1 ∙ sym g.1)
one_when rows words (TimeAt s) (ClockAt t) f g =
    let off = not-true _ (and_parts (word_is 3 (codes "AT") words) _ f.0).1 in
    absurd (true≢false (sym (and_parts (word_is 3 (codes "AT") words) _ g.0).1 ∙ off))
one_when rows words (ClockAt s) (TimeAt t) f g =
    let off = not-true _ (and_parts (word_is 3 (codes "AT") words) _ g.0).1 in
    absurd (true≢false (sym (and_parts (word_is 3 (codes "AT") words) _ f.0).1 ∙ off))

pub one_control : (rows : List Row) (words : List (List ℕ)) (c d : Control) → project_of.IsControl rows words c
    → project_of.IsControl rows words d → c ≡ d
one_control rows words c d f g =
    let link = same_some _ c.link d.link f.link g.link in
    let to = one_state_of rows (link_named rows (word 1 words)) (word 2 words) c.to d.to f.to g.to in
    let when = one_when rows words c.when d.when f.when g.when in
    λ i. record { link = link i; to = to i; when = when i }

-- ---- rules

pub one_what : (rows : List Row) (words : List (List ℕ)) (o : Option Attribute) (v w : What) → IsWhat rows words o v
    → IsWhat rows words o w → v ≡ w
one_what rows words (Some attribute.Head) (Head m) (Head n) f g = ap Head (same_some _ m n f g)
one_what rows words (Some attribute.Pressure) (Pressure m) (Pressure n) f g = ap Pressure (same_some _ m n f g)
one_what rows words (Some attribute.Level) (Level m) (Level n) f g = ap Level (same_some _ m n f g)
one_what rows words (Some attribute.Flow) (Flow m) (Flow n) f g = ap Flow (same_some _ m n f g)
one_what rows words (Some attribute.Setting) (Setting m) (Setting n) f g = ap Setting (same_some _ m n f g)
one_what rows words (Some attribute.Status) (Status m) (Status n) f g = ap Status (same_some _ m n f g)
one_what rows words (Some attribute.Time) Time Time f g = refl
one_what rows words (Some attribute.Clock) Clock Clock f g = refl
one_what rows words (Some attribute.Head) (Head m) _ f g = absurd g
one_what rows words (Some attribute.Pressure) (Pressure m) _ f g = absurd g
one_what rows words (Some attribute.Level) (Level m) _ f g = absurd g
one_what rows words (Some attribute.Flow) (Flow m) _ f g = absurd g
one_what rows words (Some attribute.Setting) (Setting m) _ f g = absurd g
one_what rows words (Some attribute.Status) (Status m) _ f g = absurd g
one_what rows words (Some attribute.Time) Time _ f g = absurd g
one_what rows words (Some attribute.Clock) Clock _ f g = absurd g
one_what rows words _ _ _ f g = absurd f

pub one_amount : (u : FlowUnit) (what : What) (nano : ℤ) (s t : Span) → IsAmount u what nano s → IsAmount u what nano t
    → s ≡ t
one_amount u (Head n) nano s t f g = one_exactly _ s t f g
one_amount u (Pressure n) nano s t f g = one_rounded _ _ s t f g
one_amount u (Level n) nano s t f g = one_exactly _ s t f g
one_amount u (Flow n) nano s t f g = one_exactly _ s t f g
one_amount u (Setting n) nano s t f g = one_exactly _ s t f g
one_amount u (Status n) nano s t f g = absurd f
one_amount u Time nano s t f g = one_seconds nano s t f g
one_amount u Clock nano s t f g = one_seconds nano s t f g

amounts : (u : FlowUnit) (what : What) (nano : ℤ) (s t : Span) (m n : Decimal)
    → (m.nano ≡ nano) × IsAmount u what m.nano s → (n.nano ≡ nano) × IsAmount u what n.nano t
    → Amount s m ≡ Amount t n
amounts u what nano s t m n f g =
    let first : IsAmount u what nano s = subst (λ (z : ℤ). IsAmount u what z s) f.0 f.1 in
    let second : IsAmount u what nano t = subst (λ (z : ℤ). IsAmount u what z t) g.0 g.1 in
    let spans = one_amount u what nano s t first second in
    let numbers = Decimal-equal m n (f.0 ∙ sym g.0) in
    λ i. Amount (spans i) (numbers i)

one_value : (u : FlowUnit) (what : What) (k : ℕ) (words : List (List ℕ)) (a b : Value) → IsValue u what k words a
    → IsValue u what k words b → a ≡ b
one_value u (Status l) k words a b f g = f ∙ sym g
one_value u (Head l) k words (Amount s m) (Amount t n) f g = amounts u (Head l) _ s t m n f g
one_value u (Pressure l) k words (Amount s m) (Amount t n) f g = amounts u (Pressure l) _ s t m n f g
one_value u (Level l) k words (Amount s m) (Amount t n) f g = amounts u (Level l) _ s t m n f g
one_value u (Flow l) k words (Amount s m) (Amount t n) f g = amounts u (Flow l) _ s t m n f g
one_value u (Setting l) k words (Amount s m) (Amount t n) f g = amounts u (Setting l) _ s t m n f g
one_value u Time k words (Amount s m) (Amount t n) f g = amounts u Time _ s t m n f g
one_value u Clock k words (Amount s m) (Amount t n) f g = amounts u Clock _ s t m n f g
one_value u (Head l) k words (Amount s m) _ f g = absurd g
one_value u (Pressure l) k words (Amount s m) _ f g = absurd g
one_value u (Level l) k words (Amount s m) _ f g = absurd g
one_value u (Flow l) k words (Amount s m) _ f g = absurd g
one_value u (Setting l) k words (Amount s m) _ f g = absurd g
one_value u Time k words (Amount s m) _ f g = absurd g
one_value u Clock k words (Amount s m) _ f g = absurd g
one_value u _ k words _ _ f g = absurd f

pub one_clause_at : (rows : List Row) (k : ℕ) (words : List (List ℕ)) (c d : RuleClause) → IsClauseAt rows k words c
    → IsClauseAt rows k words d → c ≡ d
one_clause_at rows k words c d f g =
    let joined = f.joined ∙ sym g.joined in
    let what = one_what rows words _ c.clause.what d.clause.what f.what g.what in
    let relation = same_some _ c.clause.relation d.clause.relation f.relation g.relation in
    let other : IsValue (unit rows) c.clause.what (k + 2) words d.clause.value =
    subst (λ (w : What). IsValue (unit rows) w (k + 2) words d.clause.value) (sym what) g.value_is in
    let value = one_value (unit rows) c.clause.what (k + 2) words c.clause.value d.clause.value f.value_is other in
    λ i. record { joined = joined i; clause = record { what = what i; relation = relation i; value = value i } }

pub one_action : (rows : List Row) (words : List (List ℕ)) (a b : Action) → IsAction rows words a
    → IsAction rows words b → a ≡ b
one_action rows words a b f g =
    let link = same_some _ a.link b.link f.link g.link in
    let to = one_state_of rows (link_named rows (word 2 words)) (word 5 words) a.to b.to f.to g.to in
    λ i. record { link = link i; to = to i }

one_rule : (rows : List Row) (group : List (List (List ℕ))) (r s : Rule) → project_of.IsRule rows group r
    → project_of.IsRule rows group s → compared_rule r ≡ compared_rule s
one_rule rows group r s f g =
    let id = f.id ∙ sym g.id in
    let clauses = one_image (IsClause rows) compared_rule_clause (clause_lines group) r.clauses.list s.clauses.list
    (λ words c d x y. ap compared_rule_clause (one_clause_at rows _ words c d x y)) f.clauses g.clauses in
    let actions = one_image (IsAction rows) compared_action (then_lines group) r.yes.list s.yes.list
    (λ words a b x y. ap compared_action (one_action rows words a b x y)) f.yes g.yes in
    let otherwise = one_image (IsAction rows) compared_action (else_lines group) r.no.list s.no.list
    (λ words a b x y. ap compared_action (one_action rows words a b x y)) f.no g.no in
    let priority = f.priority ∙ sym g.priority in
    λ i. record {
      id = record { list = id i; spare = 0 };
      clauses = record { list = clauses i; spare = 0 };
      yes = record { list = actions i; spare = 0 };
      no = record { list = otherwise i; spare = 0 };
      priority = priority i;
    }

-- ---- all of it

pub one_project : (rows : List Row) (p q : Project) → IsProject rows p → IsProject rows q
    → compared_project p ≡ compared_project q
one_project rows p q f g =
    let options = one_options rows p.options q.options f.options g.options in
    let times = one_times rows p.times q.times f.times g.times in
    let node_ids = f.node_ids_are ∙ sym g.node_ids_are in
    let link_ids = f.link_ids_are ∙ sym g.link_ids_are in
    let junctions = one_image (project_of.IsJunction rows) compared_junction (rows_of Junctions rows) p.junctions.list
    q.junctions.list (one_junction rows) f.junctions g.junctions in
    let reservoirs = one_list (project_of.IsReservoir rows) (rows_of Reservoirs rows) p.reservoirs.list
    q.reservoirs.list
    (one_reservoir rows) f.reservoirs g.reservoirs in
    let tanks = one_image (project_of.IsTank rows) compared_tank (rows_of Tanks rows) p.tanks.list q.tanks.list
    (λ row s t x y. ap compared_tank (one_tank rows row s t x y)) f.tanks g.tanks in
    let links = one_image (IsLink rows) compared_link (numbered_links rows) p.links.list q.links.list
    (λ row l m x y. ap compared_link (one_link rows row l m x y)) f.links g.links in
    let patterns = one_image (project_of.IsPattern rows) compared_pattern (pattern_ids rows) p.patterns.list
    q.patterns.list (one_pattern rows) f.patterns g.patterns in
    let shapes = one_image (λ name list. list.list ≡ shape_points rows name) bare_list (shape_names rows)
    p.shapes.list q.shapes.list (λ name a b x y. ap (λ xs. record { list = xs; spare = 0 }) (x ∙ sym y)) f.shapes
    g.shapes in
    let bends = one_image (λ name list. list.list ≡ bend_points rows name) bare_list (bend_names rows) p.bends.list
    q.bends.list (λ name a b x y. ap (λ xs. record { list = xs; spare = 0 }) (x ∙ sym y)) f.bends g.bends in
    let controls = one_image (project_of.IsControl rows) compared_control (words_of Controls rows) p.controls.list
    q.controls.list (λ words c d x y. ap compared_control (one_control rows words c d x y)) f.controls g.controls in
    let rules = one_image (project_of.IsRule rows) compared_rule (rule_groups (words_of Rules rows)) p.rules.list
    q.rules.list
    (one_rule rows) f.rules g.rules in
    λ i. record {
      options = options i;
      times = times i;
      node_ids = node_ids i;
      link_ids = link_ids i;
      junctions = record { list = junctions i; spare = 0 };
      reservoirs = record { list = reservoirs i; spare = 0 };
      tanks = record { list = tanks i; spare = 0 };
      links = record { list = links i; spare = 0 };
      patterns = record { list = patterns i; spare = 0 };
      shapes = record { list = shapes i; spare = 0 };
      bends = record { list = bends i; spare = 0 };
      controls = record { list = controls i; spare = 0 };
      rules = record { list = rules i; spare = 0 };
    }
