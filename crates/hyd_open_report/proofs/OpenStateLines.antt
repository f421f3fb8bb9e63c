-- The lines of a report time that the program makes are those of the period.
use Rattle.std.proofs.Common.{◌<◌, ◌<ℤ◌, pos, neg_ℤ}
use Rattle.std.proofs.Common.{◌≡◌, ℕ, suc, ◌+◌, ℤ, List, [], ◌∷◌, ◌++◌, length, map}
use Rattle.std.proofs.Common.{Option, Some, refl, ap, subst, ◌∙◌, arith}
use Rattle.std.specs.Prelude.{slice_get, slice_index_or}
use Rattle.std.specs.Option.{option_map}
use Rattle.std.proofs.lemmas.Int.{ints}
use Rattle.std.proofs.lemmas.Option.{slice_get_within, slice_get-get_or, slice_get-map}
use Rattle.hyd_num.specs.Rational.{Rational, negated, floor, ceiling}
use Rattle.hyd_num.specs.PrintedDecimals.{head_quantity, pressure_quantity, flow_quantity}
use Rattle.hyd_num.proofs.Floors.{floor_is, ceiling_is}
use Rattle.hyd_spec.specs.ProgramTypes.{Project, Tank, Link, LinkState}
use Rattle.hyd_spec.specs.Lists.{map_from}
use Rattle.hyd_spec.specs.DemandsHeadsAndPumpLifts.{is_us}
use Rattle.hyd_spec.specs.Assignment.{head_at}
use Rattle.hyd_spec.specs.Rules.{state_of_link}
use Rattle.hyd_spec.specs.declared.TankState.{TankState}
use Rattle.hyd_spec.specs.declared.TankState.TheVariants.{Between}
use Rattle.hyd_spec_certificates.specs.declared.Event.{Event}
use Rattle.hyd_spec_certificates.specs.SpansAsIntervals.{levels_of, flows_of}
use Rattle.hyd_spec_certificates.specs.Interval.{Interval, shifted}
use Rattle.hyd_spec_certificates.specs.PeriodNetwork.{Grid, GridLink, GridJunction}
use Rattle.hyd_spec_certificates.specs.FlowIntervals.{difference, flow_box}
use Rattle.hyd_spec_certificates.specs.Decided.{heads_below, heads_above, nowhere, inflow_of_tank, level_of_tank}
use Rattle.hyd_spec_certificates.specs.PrintedIntervals.{Prints}
use Rattle.hyd_spec_certificates.specs.StatusesOfLinks.{status_of}
use Rattle.hyd_spec_reports.specs.ReportLine.{ReportLine, TimeLine, LinkLine}
use Rattle.hyd_spec_reports.specs.Report.{LineEach, IsJunctionLine, IsReservoirLine, IsTankLine, IsLinkLine}
use Rattle.hyd_spec_reports.specs.Report.{AreStateLines}
use Rattle.hyd_spec_open_ends.specs.OpenStandings.{OpenStanding, OpenRecord}
use Rattle.hyd_period_facts.specs.declared.facts.Facts.{Facts}
use Rattle.hyd_open_facts.specs.FactsOfOpenPeriod.{AreOpenFacts}
use Rattle.hyd_report.specs.PrintedIntervals.{in_ten_thousandths, printed}
use Rattle.hyd_report.specs.NodeAndLinkLines.{junction_line, reservoir_line, tank_line, no_link, link_line}
use Rattle.hyd_report.specs.PeriodLines.{AreTankFacts, state_lines}
use Rattle.hyd_lemmas.proofs.DenominatorsAboveZero.{flow_above, head_above, pressure_above}
use Rattle.hyd_lemmas.proofs.ListsOptionsAndResults.{numbered_at}

-- ---- printed ends

-- the ends that print an interval do, of quantities with denominators above 0
pub prints : (quantity : ℤ → Rational) → ((t : ℤ) → 0 < (quantity t).den) → (ticks : Interval)
    → Prints quantity ticks (printed quantity ticks)
unfolding printed
prints quantity above ticks =
    let x = in_ten_thousandths (quantity ticks.lo) in
    let y = in_ten_thousandths (quantity ticks.hi) in
    let low : pos 0 <ℤ pos x.den = (let p = above ticks.lo in omega (arith, ints, p)) in
    let high : pos 0 <ℤ pos y.den = (let p = above ticks.hi in omega (arith, ints, p)) in
    record {
      down = floor_is x.num (pos x.den) (floor x) low refl;
      up = ceiling_is y.num (neg_ℤ y.num) (pos y.den) (floor (negated y)) (ceiling y) high refl refl
          (floor_is (neg_ℤ y.num) (pos y.den) (floor (negated y)) high refl);
    }

-- ---- lines

each_line : {X : Type 0} (P : ℕ → X → ReportLine → Type 0) (f : ℕ → X → ReportLine) (n : ℕ) (xs : List X)
    → ((k : ℕ) (x : X) → slice_get xs k ≡ Some x → P (n + k) x (f (n + k) x)) → LineEach P n xs (map_from f n xs)
each_line P f n [] each = tt
each_line P f n (x ∷ xs) each =
    let here : n + 0 ≡ n = omega arith in (
      subst (λ m. P m x (f m x)) here (each 0 x refl),
      each_line P f (suc n) xs (λ k y at. let m : n + suc k ≡ suc n + k = omega arith in subst (λ j. P j y (f j y)) m
          (each (suc k) y at)),
    )

pub every_line : {X : Type 0} (P : ℕ → X → ReportLine → Type 0) (f : ℕ → X → ReportLine) (xs : List X)
    → ((k : ℕ) (x : X) → slice_get xs k ≡ Some x → P k x (f k x)) → LineEach P 0 xs (map_from f 0 xs)
every_line P f xs each = each_line P f 0 xs (λ k x at. let m : k ≡ 0 + k = omega arith in subst (λ j. P j x (f j x)) m
    (each k x at))

module _ (project : Project) (grid : Grid) (states : List LinkState) (standing : OpenStanding) (found : OpenRecord)
    (first late : ℕ) (events : List Event) (facts : Facts)
    (are : AreOpenFacts project grid standing found first late events facts) (tanks : AreTankFacts project facts)
    (same : states ≡ facts.links.list) (each : length grid.links ≡ length project.links.list) where
  head_prints : (ticks : Interval) → Prints (head_quantity (is_us project)) ticks (printed
      (head_quantity (is_us project)) ticks)
  head_prints ticks = prints (head_quantity (is_us project)) (head_above (is_us project)) ticks

  flow_prints : (ticks : Interval) → Prints (flow_quantity project.options.unit) ticks (printed
      (flow_quantity project.options.unit) ticks)
  flow_prints ticks = prints (flow_quantity project.options.unit) (flow_above project.options.unit) ticks

  junction : (j : ℕ) (here : GridJunction)
      → IsJunctionLine project grid found.row j here
      (junction_line project found.row.main.lower found.row.main.upper j here)
  junction j here = record {
    heads = record { lo = head_at found.row.main.lower j; hi = head_at found.row.main.upper j };
    heads_are = refl;
    head = _;
    pressure = _;
    outflow = _;
    is_line = refl;
    head_is = head_prints _;
    pressure_is = prints (pressure_quantity (is_us project)) (pressure_above (is_us project)) _;
    outflow_is = flow_prints _;
  }

  reservoir : (r : ℕ) (height : ℤ) → IsReservoirLine project r height (reservoir_line project r height)
  reservoir r height = record { head = _; is_line = refl; head_is = head_prints _ }

  level_is : (k : ℕ) → slice_index_or (map levels_of facts.levels.list) k nowhere ≡ level_of_tank standing.known k
  level_is k = ap (λ (xs : List Interval). slice_index_or xs k nowhere) are.levels

  inflow_is : (k : ℕ) (tank : Tank) → slice_get project.tanks.list k ≡ Some tank
      → slice_index_or (map flows_of facts.inflows.list) k nowhere ≡ inflow_of_tank project grid found.row k
  inflow_is k tank at =
      let m : 0 + k ≡ k = omega arith in
      ap (λ (xs : List Interval). slice_index_or xs k nowhere) are.inflows
      ∙ (numbered_at (λ (j : ℕ) (t : Tank). inflow_of_tank project grid found.row j) 0 project.tanks.list k tank nowhere
      at
      ∙ ap (inflow_of_tank project grid found.row) m)

  pub tank_here : (k : ℕ) (tank : Tank) → slice_get project.tanks.list k ≡ Some tank
      → IsTankLine project grid standing.known found.row k tank (tank_line project facts.levels.list facts.inflows.list
      facts.tanks.list k tank)
  tank_here k tank at =
      let within = slice_get_within project.tanks.list k tank at in
      let few = tanks.states in
      let level = slice_index_or (map levels_of facts.levels.list) k nowhere in
      let inflow = slice_index_or (map flows_of facts.inflows.list) k nowhere in
      record {
        head = printed (head_quantity (is_us project)) (shifted tank.bottom level);
        level = printed (head_quantity (is_us project)) level;
        inflow = printed (flow_quantity project.options.unit) inflow;
        state = slice_index_or facts.tanks.list k Between;
        is_line = refl;
        head_is = subst (λ (l : Interval). Prints (head_quantity (is_us project)) (shifted tank.bottom l) (printed
            (head_quantity (is_us project)) (shifted tank.bottom level)))
            (level_is k) (head_prints (shifted tank.bottom level));
        level_is = subst (λ (l : Interval). Prints (head_quantity (is_us project)) l (printed
            (head_quantity (is_us project)) level)) (level_is k) (head_prints level);
        inflow_is = subst (λ (i : Interval). Prints (flow_quantity project.options.unit) i (printed
            (flow_quantity project.options.unit) inflow)) (inflow_is k tank at) (flow_prints inflow);
        state_is = subst (λ (xs : List TankState). slice_get xs k ≡ Some
            (slice_index_or facts.tanks.list k Between)) are.tanks
            (slice_get-get_or facts.tanks.list k Between (omega (arith, within, few)));
      }

  pub link_here : (l : ℕ) (link : Link) → slice_get project.links.list l ≡ Some link
      → IsLinkLine project grid standing.known found.row l link (link_line project grid (heads_below grid found.row)
      (heads_above grid found.row) states l link)
  link_here l link at =
      let within = slice_get_within project.links.list l link at in
      let place = slice_index_or grid.links l no_link in
      let place_at : slice_get grid.links l ≡ Some place = slice_get-get_or grid.links l no_link (omega
      (arith, within, each)) in
      let box : GridLink → Interval = λ g. flow_box g (heads_below grid found.row) (heads_above grid found.row) in
      record {
        place = place;
        place_is = place_at;
        box = box place;
        box_is = slice_get-map box grid.links l ∙ ap (λ (o : Option GridLink). option_map box o) place_at;
        flow = printed (flow_quantity project.options.unit) (box place);
        flow_is = flow_prints (box place);
        is_line = ap (λ (ss : List LinkState). LinkLine l (printed (flow_quantity project.options.unit) (box place))
            (status_of (is_us project) project.bends.list link.kind (state_of_link ss l) (difference place
            (heads_below grid found.row) (heads_above grid found.row))))
            (same ∙ are.links);
      }

  pub state_are : AreStateLines project grid standing.known found.row (state_lines project grid states found.row facts)
  state_are = record {
    junctions = map_from (junction_line project found.row.main.lower found.row.main.upper) 0 grid.junctions;
    reservoirs = map_from (reservoir_line project) 0 grid.reservoirs;
    tanks = map_from (tank_line project facts.levels.list facts.inflows.list facts.tanks.list) 0 project.tanks.list;
    links = map_from (link_line project grid (heads_below grid found.row) (heads_above grid found.row) states) 0
        project.links.list;
    junctions_are = every_line (IsJunctionLine project grid found.row)
        (junction_line project found.row.main.lower found.row.main.upper) grid.junctions
        (λ j here at. junction j here);
    reservoirs_are = every_line (IsReservoirLine project) (reservoir_line project) grid.reservoirs
        (λ r height at. reservoir r height);
    tanks_are = every_line (IsTankLine project grid standing.known found.row) (tank_line project facts.levels.list
        facts.inflows.list facts.tanks.list) project.tanks.list tank_here;
    links_are = every_line (IsLinkLine project grid standing.known found.row) (link_line project grid
        (heads_below grid found.row) (heads_above grid found.row) states) project.links.list link_here;
    lines_are = ap (λ (t : ℕ). TimeLine t ∷ (map_from
        (junction_line project found.row.main.lower found.row.main.upper) 0 grid.junctions
        ++ (map_from (reservoir_line project) 0 grid.reservoirs
        ++ (map_from (tank_line project facts.levels.list facts.inflows.list facts.tanks.list) 0 project.tanks.list
        ++ map_from (link_line project grid (heads_below grid found.row) (heads_above grid found.row) states) 0
        project.links.list)))) are.time;
  }
