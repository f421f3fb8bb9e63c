-- The reports of a record and their text are the same of alike parts.
use Rattle.std.proofs.Common.{◌≡◌, ℕ, suc, ◌+◌, ℤ, Bool, true, false, MatchBool, List, [], ◌∷◌, ◌++◌, map, refl, sym}
use Rattle.std.proofs.Common.{ap}
use Rattle.std.proofs.Common.{ap₂, subst, ◌∙◌}
use Rattle.std.specs.Prelude.{if◌then◌else◌, slice_set, slice_index_or, codes}
use Rattle.std.specs.Fmt.{decimal}
use Rattle.hyd_num.specs.PrintedDecimals.{flow_quantity}
use Rattle.hyd_net.specs.ListView.{ListView}
use Rattle.hyd_spec.specs.ProgramTypes.{Project, Link, HeadPoint, LinkKind, PipeLink, CheckPipe, PumpLink, CurvePump}
use Rattle.hyd_spec.specs.ProgramTypes.{Tcv, Fcv, Gpv, LinkState, Open, Closed, Speed, Throttle, Limit, Tank, Control}
use Rattle.hyd_spec.specs.ProgramTypes.{Rule}
use Rattle.hyd_spec.specs.declared.Change.{Change}
use Rattle.hyd_spec.specs.declared.Source.TheVariants.{Control as ByControl}
use Rattle.hyd_spec.specs.Lists.{map_from, joined, present}
use Rattle.hyd_spec.specs.DemandsHeadsAndPumpLifts.{is_us, points_of, pump_knots}
use Rattle.hyd_spec.specs.PumpPatternsAndSimpleControls.{patterned, control_acts}
use Rattle.hyd_spec.specs.Rules.{is_same_state, state_of_link}
use Rattle.hyd_spec_certificates.specs.Interval.{Interval}
use Rattle.hyd_spec_certificates.specs.PeriodNetwork.{Grid, GridJunction}
use Rattle.hyd_spec_certificates.specs.FlowIntervals.{difference}
use Rattle.hyd_spec_certificates.specs.RecordAndStanding.{Record, Standing}
use Rattle.hyd_spec_certificates.specs.Decided.{heads_below, heads_above, links_at, acts_on, decided_changes}
use Rattle.hyd_spec_certificates.specs.declared.Event.{Event}
use Rattle.hyd_spec_certificates.specs.declared.StatusWord.{StatusWord}
use Rattle.hyd_spec_certificates.specs.CertificateText.{line}
use Rattle.hyd_spec_reports.specs.ReportLine.{ReportLine, ControlLine, TimeLine, JunctionLine, ReservoirLine, TankLine}
use Rattle.hyd_spec_reports.specs.ReportLine.{LinkLine, FilledLine, EmptiedLine, ReachedLine, RuleLine, line_words}
use Rattle.hyd_spec_reports.specs.ReportLine.{tank_id, reservoir_id, rule_id, tank_words, reservoir_words}
use Rattle.hyd_spec_reports.specs.ReportLine.{event_words, given_words, link_id, clock_text, line_text, report_text}
use Rattle.hyd_spec_certificates.specs.PrintedIntervals.{Prints}
use Rattle.hyd_spec_reports.specs.Report.{LineEach}
use Rattle.hyd_spec_certificates.specs.ChangesAtStart.{control_changes, changes_at}
use Rattle.hyd_spec_reports.specs.Report.{change_line, control_lines}
use Rattle.hyd_spec_certificates.specs.PrintedIntervals.{is_report_time}
use Rattle.hyd_spec_reports.specs.Report.{IsJunctionLine, IsReservoirLine, IsTankLine}
use Rattle.hyd_spec_certificates.specs.StatusesOfLinks.{by_knots, status_of}
use Rattle.hyd_spec_reports.specs.Report.{IsLinkLine, AreStateLines}
use Rattle.hyd_spec_certificates.specs.EndsOfPeriods.{tank_events, control_event, events_of}
use Rattle.hyd_spec_certificates.specs.EndsOfPeriods.{EndBrings, at_end, by_rules, by_clock}
use Rattle.hyd_spec_reports.specs.Report.{AreEndLines, IsReport}
use Rattle.hyd_theorems_on_rereading.proofs.PartsWithSpares.{Inner, with_inner, IsLikeRule, AreAlike}
use Rattle.hyd_theorems_on_rereading.proofs.SameQuantities.{same_map, same_count, same_node}
use Rattle.hyd_theorems_on_rereading.proofs.SameLinkStatesAtStart.{same_patterned, same_links_at}
use Rattle.hyd_theorems_on_rereading.proofs.SameDecidedMatters.{zip_map, same_inflow, same_carried, same_decided}
use Rattle.hyd_theorems_on_rereading.proofs.SamePeriodEnds.{ends_by_rules, ends_without}

-- ---- status words

same_status : (us : Bool) (xs ys : List (ListView HeadPoint)) → ((k : ℕ) → points_of xs k ≡ points_of ys k)
    → (kind : LinkKind) (state : LinkState) (d : Interval) → status_of us xs kind state d ≡ status_of us ys kind state d
same_status us xs ys same (PipeLink capacity) Open d = refl
same_status us xs ys same (PipeLink capacity) Closed d = refl
same_status us xs ys same (PipeLink capacity) (Speed speed) d = refl
same_status us xs ys same (PipeLink capacity) (Throttle setting law) d = refl
same_status us xs ys same (PipeLink capacity) (Limit setting ticks) d = refl
same_status us xs ys same (CheckPipe capacity) Open d = refl
same_status us xs ys same (CheckPipe capacity) Closed d = refl
same_status us xs ys same (CheckPipe capacity) (Speed speed) d = refl
same_status us xs ys same (CheckPipe capacity) (Throttle setting law) d = refl
same_status us xs ys same (CheckPipe capacity) (Limit setting ticks) d = refl
same_status us xs ys same (PumpLink capacity shutoff head pattern) Open d = refl
same_status us xs ys same (PumpLink capacity shutoff head pattern) Closed d = refl
same_status us xs ys same (PumpLink capacity shutoff head pattern) (Speed speed) d = refl
same_status us xs ys same (PumpLink capacity shutoff head pattern) (Throttle setting law) d = refl
same_status us xs ys same (PumpLink capacity shutoff head pattern) (Limit setting ticks) d = refl
same_status us xs ys same (CurvePump bend pattern) Open d = refl
same_status us xs ys same (CurvePump bend pattern) Closed d = refl
same_status us xs ys same (CurvePump bend pattern) (Speed speed) d =
    ap (λ points. by_knots (pump_knots points speed) d) (same bend)
same_status us xs ys same (CurvePump bend pattern) (Throttle setting law) d = refl
same_status us xs ys same (CurvePump bend pattern) (Limit setting ticks) d = refl
same_status us xs ys same (Tcv valve) Open d = refl
same_status us xs ys same (Tcv valve) Closed d = refl
same_status us xs ys same (Tcv valve) (Speed speed) d = refl
same_status us xs ys same (Tcv valve) (Throttle setting law) d = refl
same_status us xs ys same (Tcv valve) (Limit setting ticks) d = refl
same_status us xs ys same (Fcv valve) Open d = refl
same_status us xs ys same (Fcv valve) Closed d = refl
same_status us xs ys same (Fcv valve) (Speed speed) d = refl
same_status us xs ys same (Fcv valve) (Throttle setting law) d = refl
same_status us xs ys same (Fcv valve) (Limit setting ticks) d = refl
same_status us xs ys same (Gpv bend) Open d = refl
same_status us xs ys same (Gpv bend) Closed d = refl
same_status us xs ys same (Gpv bend) (Speed speed) d = refl
same_status us xs ys same (Gpv bend) (Throttle setting law) d = refl
same_status us xs ys same (Gpv bend) (Limit setting ticks) d = refl

-- ---- lines of a list

each_on : {X : Type 0} (P Q : ℕ → X → ReportLine → Type 0)
    → ((k : ℕ) (x : X) (l : ReportLine) → P k x l → Q k x l) → (k : ℕ) (xs : List X) (ls : List ReportLine)
    → LineEach P k xs ls → LineEach Q k xs ls
each_on P Q on k [] [] is = tt
each_on P Q on k [] (l ∷ ls) is = absurd is
each_on P Q on k (x ∷ xs) [] is = absurd is
each_on P Q on k (x ∷ xs) (l ∷ ls) is = (on k x l is.0, each_on P Q on (suc k) xs ls is.1)

module _ (p : Project) (x y : Inner) (alike : AreAlike x y) where
  -- ---- controls at the start

  same_control_changes : (time : ℕ) (acts : ℕ → Bool → ℤ → Bool) (k : ℕ) (controls : List Control)
      (links : List LinkState)
      → control_changes (with_inner p x) time acts k controls links
      ≡ control_changes (with_inner p y) time acts k controls links
  same_control_changes time acts k [] links = refl
  same_control_changes time acts k (control ∷ rest) links =
      ap₂ (λ (set left : List Change). if control_acts (with_inner p x) time acts control.when
      then (if is_same_state (state_of_link links control.link) control.to then []
      else record { source = ByControl k; link = control.link; to = control.to } ∷ []) ++ set
      else left)
      (same_control_changes time acts (suc k) rest (slice_set links control.link control.to))
      (same_control_changes time acts (suc k) rest links)

  pub same_changes_at : (standing : Standing)
      → changes_at (with_inner p x) standing ≡ changes_at (with_inner p y) standing
  same_changes_at standing =
      ap (λ (links : List LinkState). control_changes (with_inner p x) standing.time (acts_on standing.levels) 0
      p.controls.list links) (same_patterned p x y alike standing.time standing.commanded)
      ∙ same_control_changes standing.time (acts_on standing.levels) 0 p.controls.list
      (patterned (with_inner p y) standing.time standing.commanded)

  same_control_lines : (standing : Standing)
      → control_lines (with_inner p x) standing ≡ control_lines (with_inner p y) standing
  same_control_lines standing =
      ap (λ (changes : List Change). map (change_line standing.time) changes) (same_changes_at standing)

  module _ (grid : Grid) (standing : Standing) (row : Record) where
    -- ---- nodes and links

    junction_line_on : (j : ℕ) (junction : GridJunction) (each : ReportLine)
        → IsJunctionLine (with_inner p x) grid row j junction each
        → IsJunctionLine (with_inner p y) grid row j junction each
    junction_line_on j junction each is = record {
      heads = is.heads;
      heads_are = is.heads_are;
      head = is.head;
      pressure = is.pressure;
      outflow = is.outflow;
      is_line = is.is_line;
      head_is = is.head_is;
      pressure_is = is.pressure_is;
      outflow_is = is.outflow_is;
    }

    reservoir_line_on : (r : ℕ) (height : ℤ) (each : ReportLine) → IsReservoirLine (with_inner p x) r height each
        → IsReservoirLine (with_inner p y) r height each
    reservoir_line_on r height each is = record { head = is.head; is_line = is.is_line; head_is = is.head_is }

    tank_line_on : (k : ℕ) (tank : Tank) (each : ReportLine)
        → IsTankLine (with_inner p x) grid standing row k tank each
        → IsTankLine (with_inner p y) grid standing row k tank each
    tank_line_on k tank each is = record {
      head = is.head;
      level = is.level;
      inflow = is.inflow;
      state = is.state;
      is_line = is.is_line;
      head_is = is.head_is;
      level_is = is.level_is;
      inflow_is = subst (λ (flow : Interval). Prints (flow_quantity p.options.unit) flow is.inflow)
          (same_inflow p x y alike grid standing row k) is.inflow_is;
      state_is = is.state_is;
    }

    same_word : (l : ℕ) (link : Link) (d : Interval)
        → status_of (is_us p) x.bends.list link.kind (state_of_link (links_at (with_inner p x) standing) l) d
        ≡ status_of (is_us p) y.bends.list link.kind (state_of_link (links_at (with_inner p y) standing) l) d
    same_word l link d =
        same_status (is_us p) x.bends.list y.bends.list alike.bends link.kind
        (state_of_link (links_at (with_inner p x) standing) l) d
        ∙ ap (λ (links : List LinkState). status_of (is_us p) y.bends.list link.kind (state_of_link links l) d)
        (same_links_at p x y alike standing)

    link_line_on : (l : ℕ) (link : Link) (each : ReportLine)
        → IsLinkLine (with_inner p x) grid standing row l link each
        → IsLinkLine (with_inner p y) grid standing row l link each
    link_line_on l link each is = record {
      place = is.place;
      place_is = is.place_is;
      box = is.box;
      box_is = is.box_is;
      flow = is.flow;
      flow_is = is.flow_is;
      is_line = is.is_line
          ∙ ap (λ (word : StatusWord). LinkLine l is.flow word)
          (same_word l link (difference is.place (heads_below grid row) (heads_above grid row)));
    }

    state_lines_on : (lines : List ReportLine) → AreStateLines (with_inner p x) grid standing row lines
        → AreStateLines (with_inner p y) grid standing row lines
    state_lines_on lines are = record {
      junctions = are.junctions;
      reservoirs = are.reservoirs;
      tanks = are.tanks;
      links = are.links;
      junctions_are = each_on (IsJunctionLine (with_inner p x) grid row) (IsJunctionLine (with_inner p y) grid row)
          junction_line_on 0 grid.junctions are.junctions are.junctions_are;
      reservoirs_are = each_on (IsReservoirLine (with_inner p x)) (IsReservoirLine (with_inner p y)) reservoir_line_on 0
          grid.reservoirs are.reservoirs are.reservoirs_are;
      tanks_are = each_on (IsTankLine (with_inner p x) grid standing row) (IsTankLine (with_inner p y) grid standing
          row) tank_line_on 0 p.tanks.list are.tanks are.tanks_are;
      links_are = each_on (IsLinkLine (with_inner p x) grid standing row) (IsLinkLine (with_inner p y) grid standing
          row) link_line_on 0 p.links.list are.links are.links_are;
      lines_are = are.lines_are;
    }

    pub state_by : (told : Bool) (lines : List ReportLine)
        → MatchBool told (AreStateLines (with_inner p x) grid standing row lines) (lines ≡ [])
        → MatchBool told (AreStateLines (with_inner p y) grid standing row lines) (lines ≡ [])
    state_by true lines are = state_lines_on lines are
    state_by false lines are = are

    -- ---- the end

    same_events : events_of (with_inner p x) grid standing row ≡ events_of (with_inner p y) grid standing row
    same_events =
        ap (λ (carried : List Interval). tank_events 0 p.tanks.list standing.tanks carried
        ++ present (map_from (control_event standing.levels carried) 0 p.controls.list))
        (same_carried p x y alike grid standing row row.length)

    brings_on : (events : List Event) (changes : List Change)
        → EndBrings (with_inner p x) grid standing row events changes
        → EndBrings (with_inner p y) grid standing row events changes
    brings_on _ _ (at_end is) = at_end is
    brings_on _ _ (by_rules ends) =
        subst (λ (es : List Event). EndBrings (with_inner p y) grid standing row es
        (decided_changes (with_inner p x) grid standing row row.length)) (sym same_events)
        (subst (λ (cs : List Change). EndBrings (with_inner p y) grid standing row
        (events_of (with_inner p y) grid standing row) cs)
        (sym (same_decided p x y alike grid standing row row.length))
        (by_rules (ends_by_rules p grid standing row x y alike row.length ends)))
    brings_on _ _ (by_clock ends) =
        subst (λ (es : List Event). EndBrings (with_inner p y) grid standing row es []) (sym same_events)
        (by_clock (ends_without p grid standing row x y alike row.length ends))

    end_lines_on : (lines : List ReportLine) → AreEndLines (with_inner p x) grid standing row lines
        → AreEndLines (with_inner p y) grid standing row lines
    end_lines_on lines are = record {
      events = are.events;
      changes = are.changes;
      brings = brings_on are.events are.changes are.brings;
      lines_are = are.lines_are;
    }

    -- ---- all lines

    pub report_on : (lines : List ReportLine) → IsReport (with_inner p x) grid standing row lines
        → IsReport (with_inner p y) grid standing row lines
    report_on lines is = record {
      state = is.state;
      state_are = state_by (is_report_time (with_inner p x) standing.time) is.state is.state_are;
      at_end = is.at_end;
      at_end_are = end_lines_on is.at_end is.at_end_are;
      lines_are = is.lines_are
          ∙ ap (λ (ls : List ReportLine). ls ++ (is.state ++ is.at_end)) (same_control_lines standing);
    }

  -- ---- texts

  pub same_tank_id : (k : ℕ) → tank_id (with_inner p x) k ≡ tank_id (with_inner p y) k
  same_tank_id k = ap (λ (node : ℕ). slice_index_or p.node_ids node []) (same_node p x y alike k)

  same_reservoir_id : (r : ℕ) → reservoir_id (with_inner p x) r ≡ reservoir_id (with_inner p y) r
  same_reservoir_id r = ap (λ (n : ℕ). slice_index_or p.node_ids (n + r) []) (same_count p x y alike)

  same_rule_id : (rule : ℕ) → rule_id (with_inner p x) rule ≡ rule_id (with_inner p y) rule
  same_rule_id rule =
      ap (λ (ids : List (List ℕ)). slice_index_or ids rule []) (zip_map IsLikeRule (λ (r : Rule). r.id.list)
      (λ (r : Rule). r.id.list) (λ a b like. like.id) x.rules.list y.rules.list alike.rules)

  pub same_words : (each : ReportLine) → line_words (with_inner p x) each ≡ line_words (with_inner p y) each
  same_words (ControlLine time number link state) = refl
  same_words (TimeLine time) = refl
  same_words (JunctionLine j head pressure outflow) = refl
  same_words (ReservoirLine r head) = ap (λ (id : List ℕ). reservoir_words id head) (same_reservoir_id r)
  same_words (TankLine k head level inflow state) =
      ap (λ (id : List ℕ). tank_words id head level inflow state) (same_tank_id k)
  same_words (LinkLine l flow status) = refl
  same_words (FilledLine time tank) =
      ap (λ (id : List ℕ). event_words id time (codes "FULL" ∷ [])) (same_tank_id tank)
  same_words (EmptiedLine time tank) =
      ap (λ (id : List ℕ). event_words id time (codes "EMPTY" ∷ [])) (same_tank_id tank)
  same_words (ReachedLine time tank control) =
      ap (λ (id : List ℕ). event_words id time (codes "CONTROL" ∷ (decimal (control + 1) ∷ []))) (same_tank_id tank)
  same_words (RuleLine time rule link state) =
      ap (λ (id : List ℕ). codes "RULE" ∷ (id ∷ (clock_text time ∷ given_words (link_id (with_inner p x) link) state)))
      (same_rule_id rule)

  same_line : (each : ReportLine) → line_text (with_inner p x) each ≡ line_text (with_inner p y) each
  same_line each = ap line (same_words each)

  pub same_report : (lines : List ReportLine) (last : List ℕ)
      → report_text (with_inner p x) lines last ≡ report_text (with_inner p y) lines last
  same_report lines last =
      ap (λ (texts : List (List ℕ)). line (codes "HYD" ∷ (decimal 1 ∷ [])) ++ (joined texts ++ last))
      (same_map (line_text (with_inner p x)) (line_text (with_inner p y)) same_line lines)
