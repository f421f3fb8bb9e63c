-- The lines that the program makes are the report of the period.
use Rattle.std.proofs.Common.{◌≡◌, ℕ, suc, ◌+◌, ℤ, Bool, true, false, MatchBool, List, [], ◌∷◌, ◌++◌, length, map}
use Rattle.std.proofs.Common.{take, drop, Option, Some, if◌then◌else◌, refl, ap, subst, ◌∙◌, arith}
use Rattle.std.specs.Prelude.{slice_get, slice_index_or}
use Rattle.std.specs.Option.{option_map}
use Rattle.std.proofs.lemmas.Option.{slice_get_within, slice_get-get_or, slice_get-map}
use Rattle.hyd_spec.specs.ProgramTypes.{Project, Tank, Link, LinkState}
use Rattle.hyd_spec.specs.Lists.{map_from}
use Rattle.hyd_spec.specs.DemandsHeadsAndPumpLifts.{is_us}
use Rattle.hyd_spec.specs.Assignment.{head_at}
use Rattle.hyd_spec.specs.Rules.{state_of_link}
use Rattle.hyd_spec.specs.declared.TankState.{TankState}
use Rattle.hyd_spec.specs.declared.TankState.TheVariants.{Between}
use Rattle.hyd_spec_certificates.specs.SpansAsIntervals.{levels_of, flows_of}
use Rattle.hyd_spec_certificates.specs.Interval.{Interval, shifted}
use Rattle.hyd_spec_certificates.specs.PeriodNetwork.{Grid, GridLink, GridJunction}
use Rattle.hyd_spec_certificates.specs.FlowIntervals.{difference, flow_box}
use Rattle.hyd_spec_certificates.specs.RecordAndStanding.{Record, Standing}
use Rattle.hyd_spec_certificates.specs.Decided.{heads_below, heads_above, nowhere, inflow_of_tank, level_of_tank}
use Rattle.hyd_spec_reports.specs.ReportLine.{ReportLine, TimeLine, LinkLine}
use Rattle.hyd_spec_certificates.specs.PrintedIntervals.{Prints}
use Rattle.hyd_spec_reports.specs.Report.{LineEach, IsJunctionLine, IsReservoirLine, IsTankLine, IsLinkLine}
use Rattle.hyd_spec_reports.specs.Report.{AreStateLines, AreEndLines, IsReport, event_line}
use Rattle.hyd_spec_certificates.specs.PrintedIntervals.{is_report_time}
use Rattle.hyd_spec_reports.specs.Report.{change_line}
use Rattle.hyd_spec_certificates.specs.StatusesOfLinks.{status_of}
use Rattle.hyd_spec_certificates.specs.ChangesAtStart.{changes_at}
use Rattle.hyd_period_facts.specs.declared.facts.Facts.{Facts}
use Rattle.hyd_period_facts.specs.FactsOfPeriod.{AreFacts}
use Rattle.hyd_report.specs.PrintedIntervals.{printed, quantity_in}
use Rattle.hyd_report.specs.declared.printed_intervals.Quantity.TheVariants.{Head, Pressure, Flow}
use Rattle.hyd_report.specs.EventTextsAndChangesByRules.{before_rules}
use Rattle.hyd_report.specs.NodeAndLinkLines.{junction_line, reservoir_line, tank_line, no_link, link_line}
use Rattle.hyd_report.specs.PeriodLines.{AreTankFacts, state_lines, middle_lines, end_lines, lines_of}
use Rattle.hyd_report.proofs.PrintLemmas.{prints}
use Rattle.hyd_report.proofs.ChangeLemmas.{changes_apart}
use Rattle.hyd_lemmas.proofs.ListsOptionsAndResults.{numbered_at}

each_line : {X : Type 0} (P : ℕ → X → ReportLine → Type 0) (f : ℕ → X → ReportLine) (n : ℕ) (xs : List X)
    → ((k : ℕ) (x : X) → slice_get xs k ≡ Some x → P (n + k) x (f (n + k) x)) → LineEach P n xs (map_from f n xs)
each_line P f n [] each = tt
each_line P f n (x ∷ xs) each =
    let here : n + 0 ≡ n = omega arith in (
      subst (λ m. P m x (f m x)) here (each 0 x refl),
      each_line P f (suc n) xs (λ k y at. let m : n + suc k ≡ suc n + k = omega arith in subst (λ j. P j y (f j y)) m
          (each (suc k) y at)),
    )

every_line : {X : Type 0} (P : ℕ → X → ReportLine → Type 0) (f : ℕ → X → ReportLine) (xs : List X)
    → ((k : ℕ) (x : X) → slice_get xs k ≡ Some x → P k x (f k x)) → LineEach P 0 xs (map_from f 0 xs)
every_line P f xs each = each_line P f 0 xs (λ k x at. let m : k ≡ 0 + k = omega arith in subst (λ j. P j x (f j x)) m
    (each k x at))

module _ (project : Project) (grid : Grid) (states : List LinkState) (standing : Standing) (row : Record)
    (facts : Facts)
    (are : AreFacts project grid standing row facts) (tanks : AreTankFacts project facts) (same : states
    ≡ facts.links.list)
    (each : length grid.links ≡ length project.links.list) where
  junction : (j : ℕ) (here : GridJunction)
      → IsJunctionLine project grid row j here (junction_line project row.main.lower row.main.upper j here)
  junction j here = record {
    heads = record { lo = head_at row.main.lower j; hi = head_at row.main.upper j };
    heads_are = refl;
    head = _;
    pressure = _;
    outflow = _;
    is_line = refl;
    head_is = prints project Head _;
    pressure_is = prints project Pressure _;
    outflow_is = prints project Flow _;
  }

  reservoir : (r : ℕ) (height : ℤ) → IsReservoirLine project r height (reservoir_line project r height)
  reservoir r height = record { head = _; is_line = refl; head_is = prints project Head _ }

  level_is : (k : ℕ) → slice_index_or (map levels_of facts.levels.list) k nowhere ≡ level_of_tank standing k
  level_is k = ap (λ (xs : List Interval). slice_index_or xs k nowhere) are.levels

  inflow_is : (k : ℕ) (tank : Tank) → slice_get project.tanks.list k ≡ Some tank
      → slice_index_or (map flows_of facts.inflows.list) k nowhere ≡ inflow_of_tank project grid row k
  inflow_is k tank at =
      let m : 0 + k ≡ k = omega arith in
      ap (λ (xs : List Interval). slice_index_or xs k nowhere) are.inflows
      ∙ (numbered_at (λ (j : ℕ) (t : Tank). inflow_of_tank project grid row j) 0 project.tanks.list k tank nowhere at
      ∙ ap (inflow_of_tank project grid row) m)

  tank_here : (k : ℕ) (tank : Tank) → slice_get project.tanks.list k ≡ Some tank
      → IsTankLine project grid standing row k tank (tank_line project facts.levels.list facts.inflows.list
      facts.tanks.list k tank)
  tank_here k tank at =
      let within = slice_get_within project.tanks.list k tank at in
      let few = tanks.states in
      let level = slice_index_or (map levels_of facts.levels.list) k nowhere in
      let inflow = slice_index_or (map flows_of facts.inflows.list) k nowhere in
      record {
        head = printed (quantity_in project Head) (shifted tank.bottom level);
        level = printed (quantity_in project Head) level;
        inflow = printed (quantity_in project Flow) inflow;
        state = slice_index_or facts.tanks.list k Between;
        is_line = refl;
        head_is = subst (λ (l : Interval). Prints (quantity_in project Head) (shifted tank.bottom l) (printed
            (quantity_in project Head) (shifted tank.bottom level)))
            (level_is k) (prints project Head (shifted tank.bottom level));
        level_is = subst (λ (l : Interval). Prints (quantity_in project Head) l (printed
            (quantity_in project Head) level)) (level_is k) (prints project Head level);
        inflow_is = subst (λ (i : Interval). Prints (quantity_in project Flow) i (printed
            (quantity_in project Flow) inflow)) (inflow_is k tank at) (prints project Flow inflow);
        state_is = subst (λ (xs : List TankState). slice_get xs k ≡ Some
            (slice_index_or facts.tanks.list k Between)) are.tanks
            (slice_get-get_or facts.tanks.list k Between (omega (arith, within, few)));
      }

  link_here : (l : ℕ) (link : Link) → slice_get project.links.list l ≡ Some link
      → IsLinkLine project grid standing row l link (link_line project grid (heads_below grid row)
      (heads_above grid row) states l link)
  link_here l link at =
      let within = slice_get_within project.links.list l link at in
      let place = slice_index_or grid.links l no_link in
      let place_at : slice_get grid.links l ≡ Some place = slice_get-get_or grid.links l no_link (omega
      (arith, within, each)) in
      let box : GridLink → Interval = λ g. flow_box g (heads_below grid row) (heads_above grid row) in
      record {
        place = place;
        place_is = place_at;
        box = box place;
        box_is = slice_get-map box grid.links l ∙ ap (λ (o : Option GridLink). option_map box o) place_at;
        flow = printed (quantity_in project Flow) (box place);
        flow_is = prints project Flow (box place);
        is_line = ap (λ (ss : List LinkState). LinkLine l (printed (quantity_in project Flow) (box place))
            (status_of (is_us project) project.bends.list link.kind (state_of_link ss l) (difference place
            (heads_below grid row) (heads_above grid row))))
            (same ∙ are.links);
      }

  state_are : AreStateLines project grid standing row (state_lines project grid states row facts)
  state_are = record {
    junctions = map_from (junction_line project row.main.lower row.main.upper) 0 grid.junctions;
    reservoirs = map_from (reservoir_line project) 0 grid.reservoirs;
    tanks = map_from (tank_line project facts.levels.list facts.inflows.list facts.tanks.list) 0 project.tanks.list;
    links = map_from (link_line project grid (heads_below grid row) (heads_above grid row) states) 0 project.links.list;
    junctions_are = every_line (IsJunctionLine project grid row) (junction_line project row.main.lower row.main.upper)
        grid.junctions (λ j here at. junction j here);
    reservoirs_are = every_line (IsReservoirLine project) (reservoir_line project) grid.reservoirs
        (λ r height at. reservoir r height);
    tanks_are = every_line (IsTankLine project grid standing row) (tank_line project facts.levels.list
        facts.inflows.list facts.tanks.list) project.tanks.list tank_here;
    links_are = every_line (IsLinkLine project grid standing row) (link_line project grid (heads_below grid row)
        (heads_above grid row) states) project.links.list link_here;
    lines_are = ap (λ (t : ℕ). TimeLine t ∷ (map_from (junction_line project row.main.lower row.main.upper) 0
        grid.junctions
        ++ (map_from (reservoir_line project) 0 grid.reservoirs
        ++ (map_from (tank_line project facts.levels.list facts.inflows.list facts.tanks.list) 0 project.tanks.list
        ++ map_from (link_line project grid (heads_below grid row) (heads_above grid row) states) 0
        project.links.list)))) are.time;
  }

  where_reported : (b : Bool) (state : List ReportLine) → AreStateLines project grid standing row state
      → MatchBool b (AreStateLines project grid standing row (if b then state else [])) ((if b then state else []) ≡ [])
  where_reported true state is = is
  where_reported false state is = refl

  apart : (take (before_rules facts.changes.list) facts.changes.list ≡ changes_at project standing)
      × (drop (before_rules facts.changes.list) facts.changes.list ≡ are.by_rules)
  apart = changes_apart project grid standing row facts.events.list facts.changes.list are.by_rules are.changes
      are.brings

  end_is : facts.time + facts.length ≡ standing.time + row.length
  end_is = ap (λ (t : ℕ). t + facts.length) are.time ∙ ap (λ (s : ℕ). standing.time + s) are.length

  ends_are : AreEndLines project grid standing row (end_lines facts)
  ends_are = record {
    events = facts.events.list;
    changes = are.by_rules;
    brings = are.brings;
    lines_are = ap (λ (t : ℕ). map (event_line t) facts.events.list ++ map (change_line t) (drop
        (before_rules facts.changes.list) facts.changes.list)) end_is
        ∙ ap (λ xs. map (event_line (standing.time + row.length)) facts.events.list ++ map (change_line
        (standing.time + row.length)) xs) apart.1;
  }

  pub lines_are_report : IsReport project grid standing row (lines_of project grid states row facts)
  lines_are_report = record {
    state = middle_lines project grid states row facts;
    state_are = subst (λ (t : ℕ). MatchBool (is_report_time project t) (AreStateLines project grid standing row
        (middle_lines project grid states row facts))
        (middle_lines project grid states row facts ≡ [])) are.time
        (where_reported (is_report_time project facts.time) (state_lines project grid states row facts) state_are);
    at_end = end_lines facts;
    at_end_are = ends_are;
    lines_are = ap (λ (t : ℕ). map (change_line t) (take (before_rules facts.changes.list) facts.changes.list)
        ++ (middle_lines project grid states row facts ++ end_lines facts)) are.time
        ∙ ap (λ xs. map (change_line standing.time) xs ++ (middle_lines project grid states row facts ++ end_lines
        facts)) apart.0;
  }
