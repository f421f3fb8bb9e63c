-- What the lines of a report time say holds of a period whose heads lie between the record's vectors.
use Rattle.std.proofs.Common.{◌≡◌, ℕ, suc, ◌+◌, ◌<◌, ℤ, pos, ◌+ℤ◌, ◌-ℤ◌, ◌<ℤ◌, List, [], ◌∷◌, length, map, refl, sym}
use Rattle.std.proofs.Common.{subst, ◌∙◌, arith}
use Rattle.std.specs.Prelude.{Some, slice_get}
use Rattle.std.specs.List.{AllByRecursion}
use Rattle.std.proofs.lemmas.Int.{ints}
use Rattle.std.proofs.lemmas.Option.{slice_get-get_or, slice_get_within}
use Rattle.hyd_num.proofs.Integers.{times_minus}
use Rattle.hyd_num.specs.PrintedDecimals.{head_quantity, pressure_quantity, flow_quantity}
use Rattle.hyd_spec.specs.ProgramTypes.{Project, Reservoir, Tank, Link, LinkState}
use Rattle.hyd_spec_certificates.specs.declared.Problem.TheVariants.{Main}
use Rattle.hyd_spec_certificates.specs.declared.Side.TheVariants.{Upper, Lower}
use Rattle.hyd_spec_certificates.specs.Interval.{Interval, exactly}
use Rattle.hyd_spec.specs.Scale.{at_scale}
use Rattle.hyd_spec.specs.DemandsHeadsAndPumpLifts.{is_us, reservoir_head}
use Rattle.hyd_spec.specs.Assignment.{head_at, flow_at}
use Rattle.hyd_spec.specs.PeriodLength.{Period}
use Rattle.hyd_spec_certificates.specs.PeriodNetwork.{Grid, GridLink, GridJunction, IsJunctionOf}
use Rattle.hyd_spec_certificates.specs.FlowIntervals.{flow_box, out_box}
use Rattle.hyd_spec_certificates.specs.Certificate.{IsCertificate}
use Rattle.hyd_spec_certificates.specs.RecordAndStanding.{Record, Standing}
use Rattle.hyd_spec_certificates.specs.Decided.{heads_below, heads_above, flow_boxes}
use Rattle.hyd_spec_reports.specs.ReportLine.{ReportLine}
use Rattle.hyd_spec_certificates.specs.PrintedIntervals.{Prints, FlowLies}
use Rattle.hyd_spec_reports.specs.Report.{LineEach, IsJunctionLine, IsReservoirLine, IsTankLine, IsLinkLine}
use Rattle.hyd_spec_reports.specs.Report.{AreStateLines}
use Rattle.hyd_spec_reports.specs.Claims.{LineHolds}
use Rattle.hyd_theorems_on_definitions.specs.LyingInIntervals.{LiesIn, IsCompared}
use Rattle.hyd_lemmas.proofs.ListsOptionsAndResults.{same_item}
use Rattle.hyd_theorems_on_definitions.proofs.ComparisonPrinciple.{below_main, above_main, place_at}
use Rattle.hyd_theorems_on_definitions.proofs.FlowsInBoxes.{heads_between, flow_lies, outflow_lies}
use Rattle.hyd_theorems_on_histories.proofs.PrintedValues.{prints_hold, head_proportional, pressure_proportional}
use Rattle.hyd_theorems_on_histories.proofs.PrintedValues.{flow_proportional}
use Rattle.hyd_theorems_on_histories.proofs.ListsByPlace.{mapped_at, all_after}

-- what holds of the line of each item holds of all lines
pub each_line : (X : Type 0) (P : ℕ → X → ReportLine → Type 0) (Q : ReportLine → Type 0) (from : ℕ) (xs : List X)
    (lines : List ReportLine)
    → LineEach P from xs lines → ((k : ℕ) (x : X) (each : ReportLine) → slice_get xs k ≡ Some x → P (from + k) x each
    → Q each)
    → AllByRecursion Q lines
each_line X P Q from [] [] h one = tt
each_line X P Q from [] (l ∷ ls) h one = absurd h
each_line X P Q from (x ∷ xs) [] h one = absurd h
each_line X P Q from (x ∷ xs) (l ∷ ls) h one = (
  one 0 x l refl (subst (λ (n : ℕ). P n x l) (let e : from ≡ from + 0 = omega arith in e) h.0),
  each_line X P Q (suc from) xs ls h.1 (λ k y each at is.
      one (suc k) y each at (subst (λ (n : ℕ). P n y each) (let e : suc from + k ≡ from + suc k = omega arith in
      e) is)),
)

pub every_line : (X : Type 0) (P : ℕ → X → ReportLine → Type 0) (Q : ReportLine → Type 0) (xs : List X)
    (lines : List ReportLine)
    → LineEach P 0 xs lines → ((k : ℕ) (x : X) (each : ReportLine) → slice_get xs k ≡ Some x → P k x each → Q each)
    → AllByRecursion Q lines
every_line X P Q xs lines h one =
    each_line X P Q 0 xs lines h (λ k x each at is. one k x each at (subst (λ (n : ℕ). P n x each) (let e : 0 + k ≡ k =
    omega arith in e) is))

-- ---- intervals

lowered : (S : ℕ) (x : Interval) (e other z : ℤ) → e ≡ other → LiesIn S x z
    → LiesIn S (record { lo = x.lo -ℤ e; hi = x.hi -ℤ e }) (z -ℤ at_scale S other)
lowered S x e other z same lies = rw same (record {
  low = let l = lies.low in omega (arith, ints, l, times_minus S x.lo other);
  high = let h = lies.high in omega (arith, ints, h, times_minus S x.hi other);
})

exactly_lies : (S : ℕ) (t : ℤ) → LiesIn S (exactly t) (at_scale S t)
exactly_lies S t = record { low = omega (arith, ints); high = omega (arith, ints) }

-- ---- lines

-- A period on a grid, with levels in the standing's intervals, and a record whose vectors with all tanks alike are
-- certificates.
pub record IsCovered (project : Project) (S : ℕ) (period : Period) (grid : Grid) (standing : Standing)
    (row : Record) : Type 0 where
  pub compared : IsCompared project S period.time standing.levels period.levels period.tanks period.links
      period.assignment grid
  pub lower : IsCertificate grid Main Lower row.main.lower
  pub upper : IsCertificate grid Main Upper row.main.upper

module _ (project : Project) (S : ℕ) (commanded : List LinkState) (period : Period) (grid : Grid) (standing : Standing)
    (row : Record)
    (covered : IsCovered project S period grid standing row) where
  pub junction_holds : (j : ℕ) (here : GridJunction) (each : ReportLine) → slice_get grid.junctions j ≡ Some here
      → IsJunctionLine project grid row j here each → LineHolds project S commanded period each
  junction_holds j here each at line =
      let c = covered.compared in
      let place = place_at (IsJunctionOf project period.time) project.junctions.list grid.junctions c.is_grid.junctions
      j (slice_get_within grid.junctions j here at) in
      let same : place.here ≡ here = same_item GridJunction place.here here (sym place.is_here ∙ at) in
      let is : IsJunctionOf project period.time place.junction here =
      subst (IsJunctionOf project period.time place.junction) same place.holds in
      let within = slice_get_within project.junctions.list j place.junction place.is_junction in
      let inside : j < length period.assignment.heads = (let e = c.assigned.head_each in omega (arith, within, e)) in
      let found = slice_get-get_or period.assignment.heads j (pos 0) inside in
      let h = head_at period.assignment.heads j in
      let below : at_scale S (head_at row.main.lower j) <ℤ h =
      above_main project S period.time standing.levels period.levels period.tanks period.links period.assignment grid
      row.main.lower c covered.lower j h found in
      let above : h <ℤ at_scale S (head_at row.main.upper j) =
      below_main project S period.time standing.levels period.levels period.tanks period.links period.assignment grid
      row.main.upper c covered.upper j h found in
      let head : LiesIn S line.heads h =
      subst (λ (x : Interval). LiesIn S x h) (sym line.heads_are) (record {
        low = omega (arith, ints, below);
        high =
            omega (arith, ints, above);
      }) in
      let q = flow_at period.assignment.demands j +ℤ flow_at period.assignment.emitters j in
      let outflow : LiesIn S (out_box here line.heads.lo line.heads.hi) q =
      subst (λ (x : Interval). LiesIn S (out_box here x.lo x.hi) q) (sym line.heads_are)
      (outflow_lies project S period.time standing.levels period.levels period.tanks period.links period.assignment grid
      row.main.lower row.main.upper c covered.lower covered.upper j here at) in
      subst (LineHolds project S commanded period) (sym line.is_line) (record {
        junction = place.junction;
        is_junction = place.is_junction;
        head_lies = prints_hold S (head_quantity (is_us project)) (head_proportional (is_us project))
            line.heads line.head h line.head_is head;
        pressure_lies = prints_hold S (pressure_quantity (is_us project)) (pressure_proportional (is_us project))
            _ line.pressure
            (h -ℤ at_scale S place.junction.elevation) line.pressure_is
            (lowered S line.heads here.elevation place.junction.elevation h is.elevation head);
        outflow_lies = prints_hold S (flow_quantity project.options.unit) (flow_proportional project.options.unit)
            _ line.outflow q line.outflow_is outflow;
      })

  pub reservoir_holds : (r : ℕ) (height : ℤ) (each : ReportLine) → slice_get grid.reservoirs r ≡ Some height
      → IsReservoirLine project r height each → LineHolds project S commanded period each
  reservoir_holds r height each at line =
      let listed : slice_get (map (reservoir_head project period.time) project.reservoirs.list) r ≡ Some height =
      subst (λ (hs : List ℤ). slice_get hs r ≡ Some height) covered.compared.is_grid.reservoirs at in
      let found = mapped_at Reservoir ℤ (reservoir_head project period.time) project.reservoirs.list r height listed in
      subst (LineHolds project S commanded period) (sym line.is_line) (record {
        reservoir = found.item;
        is_reservoir = found.is_item;
        head_lies = prints_hold S (head_quantity (is_us project)) (head_proportional (is_us project))
            (exactly height) line.head
            (at_scale S (reservoir_head project period.time found.item)) line.head_is
            (subst (λ (t : ℤ). LiesIn S (exactly height) (at_scale S t)) (sym found.same) (exactly_lies S height));
      })

  -- the flow of a link's line
  pub flow_holds : (l : ℕ) (box flow : Interval) → slice_get (flow_boxes grid row) l ≡ Some box
      → Prints (flow_quantity project.options.unit) box flow
      → FlowLies project S flow (flow_at period.assignment.flows l)
  flow_holds l box flow at prints =
      let c = covered.compared in
      let found = mapped_at GridLink Interval (λ (link : GridLink). flow_box link (heads_below grid row)
      (heads_above grid row)) grid.links l box at in
      let between = heads_between project S period.time standing.levels period.levels period.tanks period.links
      period.assignment grid row.main.lower row.main.upper c covered.lower covered.upper in
      let lies = flow_lies project S period.time standing.levels period.levels period.tanks period.links
      period.assignment grid (heads_below grid row) (heads_above grid row) c between l found.item found.is_item in
      prints_hold S (flow_quantity project.options.unit) (flow_proportional project.options.unit) box flow
      (flow_at period.assignment.flows l) prints
      (subst (λ (x : Interval). LiesIn S x (flow_at period.assignment.flows l)) found.same lies)

  -- all lines of a report time hold where those of tanks and of links do
  pub state_lines_hold : (lines : List ReportLine) → AreStateLines project grid standing row lines
      → period.time ≡ standing.time
      → ((k : ℕ) (tank : Tank) (each : ReportLine) → slice_get project.tanks.list k ≡ Some tank
      → IsTankLine project grid standing row k tank each → LineHolds project S commanded period each)
      → ((l : ℕ) (link : Link) (each : ReportLine) → slice_get project.links.list l ≡ Some link
      → IsLinkLine project grid standing row l link each → LineHolds project S commanded period each)
      → AllByRecursion (LineHolds project S commanded period) lines
  state_lines_hold lines are time tank_holds link_holds =
      let Q : ReportLine → Type 0 = LineHolds project S commanded period in
      let junctions = every_line GridJunction (IsJunctionLine project grid row)
      Q grid.junctions are.junctions are.junctions_are junction_holds in
      let reservoirs = every_line ℤ (IsReservoirLine project) Q grid.reservoirs are.reservoirs are.reservoirs_are
      reservoir_holds in
      let tanks = every_line Tank (IsTankLine project grid standing row) Q project.tanks.list are.tanks are.tanks_are
      tank_holds in
      let links = every_line Link (IsLinkLine project grid standing row) Q project.links.list are.links are.links_are
      link_holds in
      subst (AllByRecursion Q) (sym are.lines_are) (
        time,
        all_after ReportLine Q are.junctions _ junctions (all_after ReportLine Q are.reservoirs _ reservoirs
            (all_after ReportLine Q are.tanks _ tanks links)),
      )
