-- What the lines of a report time say holds of a period of a network within a spread: its heads lie between the vectors
-- of the two sides, its data between those of the outermost grids, and its flows in the boxes of both.
use Rattle.std.proofs.Common.{◌≡◌, ℕ, zero, suc, ◌<◌, ℤ, pos, ◌+ℤ◌, ◌-ℤ◌, ◌≤ℤ◌, ◌<ℤ◌, sym, ap}
use Rattle.std.proofs.Common.{subst, ◌∙◌, arith, List, [], ◌∷◌, length}
use Rattle.std.specs.Prelude.{Some, slice_get}
use Rattle.std.specs.List.{AllByRecursion, AllZip}
use Rattle.std.proofs.lemmas.Int.{ints}
use Rattle.std.proofs.lemmas.Option.{slice_get-get_or, slice_get_within, get_or_from_slice_get}
use Rattle.hyd_num.proofs.Integers.{times_plus, times_minus, times_rises}
use Rattle.hyd_num.specs.PrintedDecimals.{head_quantity, pressure_quantity, flow_quantity}
use Rattle.hyd_net.specs.NetworkRanges.{HasSizes}
use Rattle.hyd_net.specs.RoundedFileNumbers.{IsKindMade}
use Rattle.hyd_net.specs.Sound.{IsSound}
use Rattle.hyd_spec.specs.ProgramTypes.{Project, Tank, Link, LinkState, Closed}
use Rattle.hyd_spec.specs.declared.TankState.{TankState}
use Rattle.hyd_spec.specs.Scale.{at_scale}
use Rattle.hyd_spec.specs.LinkLaw.{law_of}
use Rattle.hyd_spec.specs.DemandsHeadsAndPumpLifts.{is_us, reservoir_head}
use Rattle.hyd_spec.specs.Assignment.{head_at, flow_at, node_heads}
use Rattle.hyd_spec.specs.Tank.{tank_inflow}
use Rattle.hyd_spec.specs.Rules.{state_of_link}
use Rattle.hyd_spec.specs.PeriodLength.{Period, level_at_start}
use Rattle.hyd_spec_certificates.specs.declared.Problem.TheVariants.{Main}
use Rattle.hyd_spec_certificates.specs.declared.Side.{Side}
use Rattle.hyd_spec_certificates.specs.declared.Side.TheVariants.{Upper, Lower}
use Rattle.hyd_spec_certificates.specs.Interval.{Interval, shifted}
use Rattle.hyd_spec_certificates.specs.PeriodNetwork.{Grid, GridLink, GridJunction, grid_links, end_on}
use Rattle.hyd_spec_certificates.specs.FlowIntervals.{flow_box, difference}
use Rattle.hyd_spec_certificates.specs.RecordAndStanding.{Record}
use Rattle.hyd_spec_certificates.specs.Decided.{heads_below, heads_above, level_of_tank, inflow_of_tank, links_at}
use Rattle.hyd_spec_certificates.specs.Decided.{acts_on}
use Rattle.hyd_spec_certificates.specs.PrintedIntervals.{FlowLies}
use Rattle.hyd_spec_certificates.specs.StatusesOfLinks.{StatusHolds, status_of}
use Rattle.hyd_spec_reports.specs.ReportLine.{ReportLine}
use Rattle.hyd_spec_reports.specs.Report.{IsTankLine, IsLinkLine}
use Rattle.hyd_spec_reports.specs.Claims.{LineHolds, difference_along}
use Rattle.hyd_spec_open_ends.specs.OpenStandings.{OpenStanding}
use Rattle.hyd_spec_spread.specs.Spreads.{Spread}
use Rattle.hyd_spec_spread.specs.IntervalsOfData.{known_junctions, known_heads}
use Rattle.hyd_spec_spread.specs.NetworksWithin.{NodeData, with_data, IsJunctionWithin, HasHeadWithin}
use Rattle.hyd_spec_spread.specs.OutermostGrids.{IsOutermostGrid, IsOutermostJunction}
use Rattle.hyd_spec_spread_runs.specs.OutermostPairs.{Pair, grid_on, spanned, spanning, outflow_over}
use Rattle.hyd_spec_spread_runs.specs.RunsForSpreads.{AreCertificatesOver}
use Rattle.hyd_spec_spread_reports.specs.SpreadReport.{IsJunctionLineOver, IsReservoirLineOver, AreStateLinesOver}
use Rattle.hyd_theorems_on_definitions.specs.LyingInIntervals.{LiesIn}
use Rattle.hyd_lemmas.proofs.ListsOptionsAndResults.{same_item}
use Rattle.hyd_theorems_on_definitions.proofs.StatusWords.{status_holds}
use Rattle.hyd_theorems_on_histories.specs.Agreement.{IsOwnState}
use Rattle.hyd_theorems_on_histories.proofs.CommandedLinkStates.{started_own}
use Rattle.hyd_theorems_on_histories.proofs.ListsByPlace.{mapped_at, all_after, lies_at}
use Rattle.hyd_theorems_on_histories.proofs.PrintedValues.{prints_hold, head_proportional, pressure_proportional}
use Rattle.hyd_theorems_on_histories.proofs.PrintedValues.{flow_proportional}
use Rattle.hyd_theorems_on_runs.proofs.ReportTimeLinesHold.{every_line}
use Rattle.hyd_theorems_on_spread.specs.AssignmentsWithin.{IsAssignmentWithin}
use Rattle.hyd_theorems_on_spread.proofs.ZippedLists.{zip-long, beside-first, item-at}
use Rattle.hyd_theorems_on_spread.proofs.HeadsWithin.{heads-below, heads-above}
use Rattle.hyd_theorems_on_spread.proofs.RulesAlike.{inflows-alike}
use Rattle.hyd_theorems_on_spread_runs.proofs.OutflowsWithin.{outflow_lies}
use Rattle.hyd_theorems_on_open_spreads.specs.BoundedOpenly.{IsBoundedOpenly}

-- ---- intervals

lowered : (S : ℕ) (x : Interval) (e other z : ℤ) → e ≡ other → LiesIn S x z
    → LiesIn S (record { lo = x.lo -ℤ e; hi = x.hi -ℤ e }) (z -ℤ at_scale S other)
lowered S x e other z same lies = rw same (record {
  low = let l = lies.low in omega (arith, ints, l, times_minus S x.lo other);
  high = let h = lies.high in omega (arith, ints, h, times_minus S x.hi other);
})

raised : (S : ℕ) (b : ℤ) (x : Interval) (z : ℤ) → LiesIn S x z → LiesIn S (shifted b x) (at_scale S b +ℤ z)
raised S b x z lies = record {
  low = let l = lies.low in omega (arith, ints, l, times_plus S x.lo b);
  high = let h = lies.high in omega (arith, ints, h, times_plus S x.hi b);
}

-- ---- a link of the grid

-- its ends are those of the network's link
same-ends : (project : Project) (tanks : List TankState) (links : List Link) (states : List LinkState) (l : ℕ)
    (link : Link) (place : GridLink) → slice_get links l ≡ Some link
    → slice_get (grid_links project tanks links states) l ≡ Some place
    → (place.from ≡ link.from) × (place.to ≡ link.to)
same-ends project tanks [] states l link place at is = absurd (cc)
same-ends project tanks (x ∷ links) [] l link place at is = absurd (cc)
same-ends project tanks (x ∷ links) (s ∷ states) zero link place at is =
    let a = same_item Link x link at in
    let b = same_item GridLink (record { from = x.from; to = x.to; law = law_of project tanks x s }) place is in
    ((λ i. (sym b i).from) ∙ ap (λ (y : Link). y.from) a, (λ i. (sym b i).to) ∙ ap (λ (y : Link). y.to) a)
same-ends project tanks (x ∷ links) (s ∷ states) (suc l) link place at is =
    same-ends project tanks links states l link place at is

-- ---- lines

module _ (project : Project) (sound : IsSound project) (spread : Spread) (S : ℕ) (commanded : List LinkState)
    (period : Period) (nodes : NodeData) (pair : Pair) (standing : OpenStanding) (row : Record)
    (its : IsAssignmentWithin project spread S period.time standing.known.levels period.levels period.tanks period.links
    nodes period.assignment)
    (are : (side : Side) → IsOutermostGrid project spread side period.time standing.known.levels period.tanks
    period.links (grid_on side pair))
    (certificates : AreCertificatesOver project pair row)
    (states : AllZip (IsOwnState project) project.links.list standing.known.commanded)
    (bounded : IsBoundedOpenly project nodes S period (spanned pair) standing (spanning pair row)) where
  abbrev network : Project
  network = with_data project nodes

  abbrev grid : Grid
  grid = spanned pair

  abbrev wide : Record
  wide = spanning pair row

  abbrev Holds : ReportLine → Type 0
  Holds told = LineHolds network S commanded period told

  -- ---- junctions and reservoirs

  junction-line : (j : ℕ) (upper : GridJunction) (each : ReportLine) → slice_get pair.upper.junctions j ≡ Some upper
      → IsJunctionLineOver project pair row j upper each → Holds each
  junction-line j upper each at line =
      let knowns = known_junctions project spread period.time in
      let long = zip-long (IsOutermostJunction project Upper) knowns pair.upper.junctions (are Upper).junctions in
      let place = slice_get_within pair.upper.junctions j upper at in
      let known = item-at knowns j (omega (arith, long, place)) in
      let x = beside-first (IsOutermostJunction project Upper) knowns pair.upper.junctions (are Upper).junctions j
      known.0 known.1 in
      let y = beside-first (IsJunctionWithin network period.time) knowns nodes.junctions.list its.within.junctions j
      known.0 known.1 in
      let same : x.beside ≡ upper = same_item GridJunction x.beside upper (sym x.is_beside ∙ at) in
      let elevation : upper.elevation ≡ y.beside.elevation =
      (λ i. (sym same i).elevation) ∙ (x.holds.elevation ∙ sym y.holds.elevation) in
      let within = slice_get_within nodes.junctions.list j y.beside y.is_beside in
      let inside : j < length period.assignment.heads =
      (let e = its.assigned.head_each in omega (arith, within, e)) in
      let found = slice_get-get_or period.assignment.heads j (pos 0) inside in
      let h = head_at period.assignment.heads j in
      let below : at_scale S (head_at row.main.lower j) <ℤ h =
      heads-above project spread S period.time standing.known.levels period.levels period.tanks period.links nodes
      period.assignment its pair.lower row.main.lower (are Lower) (certificates.each Main Lower tt) j h found in
      let above : h <ℤ at_scale S (head_at row.main.upper j) =
      heads-below project spread S period.time standing.known.levels period.levels period.tanks period.links nodes
      period.assignment its pair.upper row.main.upper (are Upper) (certificates.each Main Upper tt) j h found in
      let head : LiesIn S line.heads h =
      subst (λ (z : Interval). LiesIn S z h) (sym line.heads_are) (record {
        low = omega (arith, ints, below);
        high = omega (arith, ints, above);
      }) in
      let q = flow_at period.assignment.demands j +ℤ flow_at period.assignment.emitters j in
      let outflow : LiesIn S (outflow_over upper line.lower line.heads.lo line.heads.hi) q =
      subst (λ (z : Interval). LiesIn S (outflow_over upper line.lower z.lo z.hi) q) (sym line.heads_are)
      (outflow_lies project spread S period.time standing.known.levels period.levels period.tanks period.links nodes
      period.assignment its pair.upper pair.lower (are Upper) (are Lower) row.main.upper row.main.lower
      (certificates.each Main Upper tt) (certificates.each Main Lower tt) j upper line.lower at line.lower_is) in
      subst Holds (sym line.is_line) (record {
        junction = y.beside;
        is_junction = y.is_beside;
        head_lies = prints_hold S (head_quantity (is_us project)) (head_proportional (is_us project)) line.heads
            line.head h line.head_is head;
        pressure_lies = prints_hold S (pressure_quantity (is_us project)) (pressure_proportional (is_us project)) _
            line.pressure (h -ℤ at_scale S y.beside.elevation) line.pressure_is
            (lowered S line.heads upper.elevation y.beside.elevation h elevation head);
        outflow_lies = prints_hold S (flow_quantity project.options.unit) (flow_proportional project.options.unit) _
            line.outflow q line.outflow_is outflow;
      })

  reservoir-line : (r : ℕ) (greatest : ℤ) (each : ReportLine) → slice_get pair.upper.reservoirs r ≡ Some greatest
      → IsReservoirLineOver project pair r greatest each → Holds each
  reservoir-line r greatest each at line =
      let knowns = known_heads project spread period.time in
      let top = mapped_at Interval ℤ (end_on Upper) knowns r greatest
      (subst (λ (hs : List ℤ). slice_get hs r ≡ Some greatest) (are Upper).reservoirs at) in
      let bottom = mapped_at Interval ℤ (end_on Lower) knowns r line.least
      (subst (λ (hs : List ℤ). slice_get hs r ≡ Some line.least) (are Lower).reservoirs line.least_is) in
      let same : bottom.item ≡ top.item = same_item Interval bottom.item top.item (sym bottom.is_item ∙ top.is_item) in
      let least : top.item.lo ≡ line.least = (λ i. (sym same i).lo) ∙ bottom.same in
      let most : top.item.hi ≡ greatest = top.same in
      let found = beside-first (HasHeadWithin network period.time) knowns nodes.reservoirs.list its.within.reservoirs r
      top.item top.is_item in
      let z = reservoir_head network period.time found.beside in
      let from : line.least ≤ℤ z = (let l = found.holds.low in omega (arith, ints, l, least)) in
      let to : z ≤ℤ greatest = (let h = found.holds.high in omega (arith, ints, h, most)) in
      subst Holds (sym line.is_line) (record {
        reservoir = found.beside;
        is_reservoir = found.is_beside;
        head_lies = prints_hold S (head_quantity (is_us project)) (head_proportional (is_us project))
            (record { lo = line.least; hi = greatest }) line.head (at_scale S z) line.head_is
            (record { low = times_rises S line.least z from; high = times_rises S z greatest to });
      })

  -- ---- tanks

  tank-line : (k : ℕ) (tank : Tank) (each : ReportLine) → slice_get project.tanks.list k ≡ Some tank
      → IsTankLine project grid standing.known wide k tank each → Holds each
  tank-line k tank each at line =
      let level : LiesIn S (level_of_tank standing.known k) (level_at_start period k) =
      lies_at S standing.known.levels period.levels k bounded.own.levels in
      subst Holds (sym line.is_line) (record {
        tank = tank;
        is_tank = at;
        head_lies = prints_hold S (head_quantity (is_us project)) (head_proportional (is_us project))
            (shifted tank.bottom (level_of_tank standing.known k)) line.head
            (at_scale S tank.bottom +ℤ level_at_start period k) line.head_is
            (raised S tank.bottom (level_of_tank standing.known k) (level_at_start period k) level);
        level_lies = prints_hold S (head_quantity (is_us project)) (head_proportional (is_us project))
            (level_of_tank standing.known k) line.level (level_at_start period k) line.level_is level;
        inflow_lies = subst (FlowLies project S line.inflow)
            (sym (inflows-alike project nodes bounded.own.numbers bounded.own.elevations k period.assignment.flows))
            (prints_hold S (flow_quantity project.options.unit) (flow_proportional project.options.unit)
            (inflow_of_tank project grid wide k) line.inflow (tank_inflow project k period.assignment.flows)
            line.inflow_is (bounded.own.inflows k tank at));
        state_is = ap (λ (ts : List TankState). slice_get ts k) bounded.own.tanks ∙ line.state_is;
      })

  -- ---- links

  difference-lies : (link : Link) (place : GridLink) → place.from ≡ link.from → place.to ≡ link.to
      → LiesIn S (difference place (heads_below grid wide) (heads_above grid wide))
      (difference_along network S period link)
  difference-lies link place from to =
      let between = bounded.own.heads in
      let heads = node_heads network S period.time period.levels period.assignment.heads in
      subst (λ m. LiesIn S (difference place (heads_below grid wide) (heads_above grid wide))
      (head_at heads m -ℤ head_at heads link.to)) from
      (subst (λ m. LiesIn S (difference place (heads_below grid wide) (heads_above grid wide))
      (head_at heads place.from -ℤ head_at heads m)) to
      (record {
        low =
            let l = (between place.from).low in
            let h = (between place.to).high in
            let e = times_minus S (head_at (heads_below grid wide) place.from)
            (head_at (heads_above grid wide) place.to) in
            omega (arith, ints, l, h, e);
        high =
            let l = (between place.to).low in
            let h = (between place.from).high in
            let e = times_minus S (head_at (heads_above grid wide) place.from)
            (head_at (heads_below grid wide) place.to) in
            omega (arith, ints, l, h, e);
      }))

  link-made : (l : ℕ) (link : Link) → slice_get project.links.list l ≡ Some link
      → IsKindMade project.options.unit link.kind
  link-made l link at =
      subst (λ (x : Link). IsKindMade project.options.unit x.kind)
      (get_or_from_slice_get project.links.list l link link at)
      (sound.made.links l link (slice_get_within project.links.list l link at))

  link-sizes : (l : ℕ) (link : Link) → slice_get project.links.list l ≡ Some link
      → HasSizes project.options.unit project.patterns.list project.bends.list link.kind
  link-sizes l link at =
      subst (λ (x : Link). HasSizes project.options.unit project.patterns.list project.bends.list x.kind)
      (get_or_from_slice_get project.links.list l link link at)
      (sound.quantities.links l link (slice_get_within project.links.list l link at))

  own-states : AllZip (IsOwnState project) project.links.list (links_at project standing.known)
  own-states = started_own project sound standing.known.time (acts_on standing.known.levels) standing.known.commanded
      states

  link-line : (l : ℕ) (link : Link) (each : ReportLine) → slice_get project.links.list l ≡ Some link
      → IsLinkLine project grid standing.known wide l link each → Holds each
  link-line l link each at line =
      let x = beside-first (IsOwnState project) project.links.list (links_at project standing.known) own-states l link
      at in
      let same : state_of_link (links_at project standing.known) l ≡ x.beside =
      get_or_from_slice_get (links_at project standing.known) l x.beside Closed x.is_beside in
      let ends = same-ends project period.tanks project.links.list period.links l link line.place at
      (subst (λ (ls : List GridLink). slice_get ls l ≡ Some line.place) (are Upper).links_are line.place_is) in
      let d = difference line.place (heads_below grid wide) (heads_above grid wide) in
      let found = mapped_at GridLink Interval (λ (g : GridLink). flow_box g (heads_below grid wide)
      (heads_above grid wide)) grid.links l line.box line.box_is in
      let flow : LiesIn S line.box (flow_at period.assignment.flows l) =
      subst (λ (b : Interval). LiesIn S b (flow_at period.assignment.flows l)) found.same
      (bounded.own.flows l found.item found.is_item) in
      subst Holds (sym line.is_line) (record {
        link = link;
        is_link = at;
        state = x.beside;
        is_state = ap (λ (ls : List LinkState). slice_get ls l) bounded.links ∙ x.is_beside;
        flow_lies = prints_hold S (flow_quantity project.options.unit) (flow_proportional project.options.unit) line.box
            line.flow (flow_at period.assignment.flows l) line.flow_is flow;
        status_holds =
            subst (λ s. StatusHolds (is_us project) project.bends.list
            (status_of (is_us project) project.bends.list link.kind s d) link.kind x.beside S
            (difference_along network S period link)) (sym same)
            (status_holds project.options.unit (is_us project) project.patterns.list project.bends.list link.kind
            x.beside S d (difference_along network S period link) bounded.own.some
            (link-made l link at) (link-sizes l link at) (difference-lies link line.place ends.0 ends.1));
      })

  -- ---- all lines

  pub state_holds : (state : List ReportLine) → AreStateLinesOver project pair standing.known row state
      → standing.late ≡ 0 → AllByRecursion Holds state
  state_holds state told known =
      let junctions = every_line GridJunction (IsJunctionLineOver project pair row) Holds pair.upper.junctions
      told.junctions told.junctions_are junction-line in
      let reservoirs = every_line ℤ (IsReservoirLineOver project pair) Holds pair.upper.reservoirs told.reservoirs
      told.reservoirs_are reservoir-line in
      let tanks = every_line Tank (IsTankLine project grid standing.known wide) Holds project.tanks.list told.tanks
      told.tanks_are tank-line in
      let links = every_line Link (IsLinkLine project grid standing.known wide) Holds project.links.list told.links
      told.links_are link-line in
      subst (AllByRecursion Holds) (sym told.lines_are) (
        (let a = bounded.after in let b = bounded.by in omega (arith, known, a, b)),
        all_after ReportLine Holds told.junctions _ junctions
            (all_after ReportLine Holds told.reservoirs _ reservoirs
            (all_after ReportLine Holds told.tanks _ tanks links)),
      )
