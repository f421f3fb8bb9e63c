-- Each record that leads on from a standing of a run has a report.
use Rattle.std.proofs.Common.{◌≡◌, ℕ, zero, suc, ◌+◌, ◌^◌, ◌<◌, ℤ, pos, ◌*ℤ◌, ◌-ℤ◌, ◌<ℤ◌, neg_ℤ, refl, ap, subst, ◌∙◌}
use Rattle.std.proofs.Common.{arith, Bool, true, false, MatchBool, List, [], ◌∷◌, map}
use Rattle.std.specs.Prelude.{Some, slice_get}
use Rattle.std.specs.List.{AllZip}
use Rattle.std.specs.Int.{int_div_euclid}
use Rattle.std.proofs.lemmas.Int.{ints}
use Rattle.std.proofs.lemmas.Option.{slice_get_within}
use Rattle.hyd_num.specs.Rational.{Rational}
use Rattle.hyd_num.specs.PrintedDecimals.{head_quantity, pressure_quantity, flow_quantity}
use Rattle.hyd_num.proofs.Floors.{floor_is, ceiling_is}
use Rattle.hyd_net.specs.Sound.{IsSound}
use Rattle.hyd_spec.specs.ProgramTypes.{Project, Tank, Link, LinkState}
use Rattle.hyd_spec.specs.declared.TankState.{TankState}
use Rattle.hyd_spec.specs.DemandsHeadsAndPumpLifts.{is_us}
use Rattle.hyd_spec.specs.Assignment.{head_at}
use Rattle.hyd_spec_certificates.specs.Interval.{Interval, exactly, shifted}
use Rattle.hyd_spec_certificates.specs.PeriodNetwork.{Grid, GridLink, GridJunction, grid_links}
use Rattle.hyd_spec_certificates.specs.FlowIntervals.{flow_box, out_box}
use Rattle.hyd_spec_certificates.specs.RecordAndStanding.{Record, Standing}
use Rattle.hyd_spec_certificates.specs.Decided.{heads_below, heads_above, links_at, acts_on, level_of_tank}
use Rattle.hyd_spec_certificates.specs.Decided.{inflow_of_tank, decided_changes}
use Rattle.hyd_spec_certificates.specs.Valid.{IsGridAt, LeavesLinks, by_rules as left_by_rules}
use Rattle.hyd_spec_certificates.specs.Valid.{by_clock as left_by_clock, LeadsOn, continues, finishes}
use Rattle.hyd_spec_certificates.specs.declared.Event.{Event}
use Rattle.hyd_spec.specs.declared.Change.{Change}
use Rattle.hyd_spec_reports.specs.ReportLine.{ReportLine}
use Rattle.hyd_spec_certificates.specs.PrintedIntervals.{Prints, is_report_time}
use Rattle.hyd_spec_reports.specs.Report.{LineEach, IsJunctionLine, IsReservoirLine, IsTankLine}
use Rattle.hyd_spec_reports.specs.Report.{IsLinkLine, AreStateLines}
use Rattle.hyd_spec_certificates.specs.EndsOfPeriods.{events_of, EndBrings, at_end, by_rules, by_clock}
use Rattle.hyd_spec_reports.specs.Report.{IsReport}
use Rattle.hyd_lemmas.proofs.DenominatorsAboveZero.{flow_above, head_above, pressure_above}
use Rattle.hyd_theorems_on_definitions.proofs.OneStandingAndTightVector.{there}
use Rattle.hyd_theorems_on_histories.specs.Agreement.{IsOwnState, IsKept}
use Rattle.hyd_theorems_on_histories.proofs.CommandedLinkStates.{started_own}
use Rattle.hyd_theorems_on_nesting.specs.StandingsOfRuns.{IsTidy}

-- ---- printed intervals

prints : (quantity : ℤ → Rational) → ((t : ℤ) → 0 < (quantity t).den) → (ticks : Interval)
    → (ends : Interval) × Prints quantity ticks ends
prints quantity parts ticks =
    let n = pos (10 ^ 4) *ℤ (quantity ticks.lo).num in
    let c = pos (quantity ticks.lo).den in
    let m = pos (10 ^ 4) *ℤ (quantity ticks.hi).num in
    let d = pos (quantity ticks.hi).den in
    let low : pos 0 <ℤ c = (let p = parts ticks.lo in omega (arith, ints, p)) in
    let high : pos 0 <ℤ d = (let p = parts ticks.hi in omega (arith, ints, p)) in (
      record { lo = int_div_euclid n c; hi = neg_ℤ (int_div_euclid (neg_ℤ m) d) },
      record {
        down = floor_is n c (int_div_euclid n c) low refl;
        up = ceiling_is m (neg_ℤ m) d (int_div_euclid (neg_ℤ m) d) (neg_ℤ (int_div_euclid (neg_ℤ m) d)) high refl refl
            (floor_is (neg_ℤ m) d (int_div_euclid (neg_ℤ m) d) high refl);
      },
    )

-- ---- a line for each item

line-each : (X : Type 0) (P : ℕ → X → ReportLine → Type 0) (from : ℕ) (xs : List X)
    → ((k : ℕ) (x : X) → slice_get xs k ≡ Some x → (l : ReportLine) × P (from + k) x l)
    → (ls : List ReportLine) × LineEach P from xs ls
line-each X P from [] each = ([], tt)
line-each X P from (x ∷ xs) each =
    let n : from + 0 ≡ from = omega arith in
    let first : (l : ReportLine) × P from x l = subst (λ m. (l : ReportLine) × P m x l) n (each 0 x refl) in
    let rest = line-each X P (suc from) xs (λ k y at. let m : from + suc k ≡ suc from + k = omega arith in
    subst (λ p. (l : ReportLine) × P p y l) m (each (suc k) y at)) in
    (first.0 ∷ rest.0, (first.1, rest.1))

every : (X : Type 0) (P : ℕ → X → ReportLine → Type 0) (xs : List X)
    → ((k : ℕ) (x : X) → slice_get xs k ≡ Some x → (l : ReportLine) × P k x l)
    → (ls : List ReportLine) × LineEach P 0 xs ls
every X P xs each = line-each X P 0 xs (λ k x at. let n : k ≡ 0 + k = omega arith in
    subst (λ m. (l : ReportLine) × P m x l) n (each k x at))

mapped-there : (X Y : Type 0) (f : X → Y) (xs : List X) (k : ℕ) (x : X) → slice_get xs k ≡ Some x
    → slice_get (map f xs) k ≡ Some (f x)
mapped-there X Y f [] k x at = absurd (cc)
mapped-there X Y f (z ∷ xs) zero x at = ap (λ (y : X). Some (f y)) (let e : z ≡ x = cc in e)
mapped-there X Y f (z ∷ xs) (suc k) x at = mapped-there X Y f xs k x at

-- a link of the network has its place in the grid
place-there : (project : Project) (tanks : List TankState) (links : List Link) (states : List LinkState) (l : ℕ)
    (link : Link) → AllZip (IsOwnState project) links states
    → slice_get links l ≡ Some link → (place : GridLink) × (slice_get (grid_links project tanks links states) l
    ≡ Some place)
place-there project tanks [] states l link all at = absurd (cc)
place-there project tanks (x ∷ links) [] l link all at = absurd all
place-there project tanks (x ∷ links) (s ∷ states) zero link all at = (_, refl)
place-there project tanks (x ∷ links) (s ∷ states) (suc l) link all at =
    place-there project tanks links states l link all.1 at

module _ (project : Project) (sound : IsSound project) (grid : Grid) (standing : Standing) (row : Record)
    (kept : IsKept project standing) (tidy : IsTidy project standing)
    (is_grid : IsGridAt project standing grid) where
  abbrev us : Bool
  us = is_us project

  junction-line : (j : ℕ) (junction : GridJunction) → (l : ReportLine) × IsJunctionLine project grid row j junction l
  junction-line j junction =
      let heads : Interval = record { lo = head_at row.main.lower j; hi = head_at row.main.upper j } in
      let head = prints (head_quantity us) (head_above us) heads in
      let pressure = prints (pressure_quantity us) (pressure_above us)
      (record { lo = heads.lo -ℤ junction.elevation; hi = heads.hi -ℤ junction.elevation }) in
      let outflow = prints (flow_quantity project.options.unit) (flow_above project.options.unit)
      (out_box junction heads.lo heads.hi) in (
        _,
        record {
          heads = heads;
          heads_are = refl;
          head = head.0;
          pressure = pressure.0;
          outflow = outflow.0;
          is_line = refl;
          head_is = head.1;
          pressure_is = pressure.1;
          outflow_is = outflow.1;
        },
      )

  reservoir-line : (r : ℕ) (height : ℤ) → (l : ReportLine) × IsReservoirLine project r height l
  reservoir-line r height =
      let head = prints (head_quantity us) (head_above us) (exactly height) in
      (_, record { head = head.0; is_line = refl; head_is = head.1 })

  tank-line : (k : ℕ) (tank : Tank) → slice_get project.tanks.list k ≡ Some tank
      → (l : ReportLine) × IsTankLine project grid standing row k tank l
  tank-line k tank at =
      let each = tidy.tanks_each in
      let inside = slice_get_within project.tanks.list k tank at in
      let state = there TankState standing.tanks k (omega (arith, each, inside)) in
      let head = prints (head_quantity us) (head_above us) (shifted tank.bottom (level_of_tank standing k)) in
      let level = prints (head_quantity us) (head_above us) (level_of_tank standing k) in
      let inflow = prints (flow_quantity project.options.unit) (flow_above project.options.unit)
      (inflow_of_tank project grid row k) in (
        _,
        record {
          head = head.0;
          level = level.0;
          inflow = inflow.0;
          state = state.item;
          is_line = refl;
          head_is = head.1;
          level_is = level.1;
          inflow_is = inflow.1;
          state_is = state.is_item;
        },
      )

  link-line : (l : ℕ) (link : Link) → slice_get project.links.list l ≡ Some link
      → (each : ReportLine) × IsLinkLine project grid standing row l link each
  link-line l link at =
      let own = started_own project sound standing.time (acts_on standing.levels) standing.commanded kept.states in
      let found = place-there project standing.tanks project.links.list (links_at project standing) l link own at in
      let place_is : slice_get grid.links l ≡ Some found.0 = ap (λ ls. slice_get ls l) is_grid.links_are ∙ found.1 in
      let box = flow_box found.0 (heads_below grid row) (heads_above grid row) in
      let flow = prints (flow_quantity project.options.unit) (flow_above project.options.unit) box in (
        _,
        record {
          place = found.0;
          place_is = place_is;
          box = box;
          box_is = mapped-there GridLink Interval (λ link. flow_box link (heads_below grid row) (heads_above grid row))
              grid.links l found.0 place_is;
          flow = flow.0;
          flow_is = flow.1;
          is_line = refl;
        },
      )

  state-lines : (lines : List ReportLine) × AreStateLines project grid standing row lines
  state-lines =
      let junctions = every GridJunction (IsJunctionLine project grid row) grid.junctions
      (λ j junction at. junction-line j junction) in
      let reservoirs = every ℤ (IsReservoirLine project) grid.reservoirs (λ r height at. reservoir-line r height) in
      let tanks = every Tank (IsTankLine project grid standing row) project.tanks.list tank-line in
      let links = every Link (IsLinkLine project grid standing row) project.links.list link-line in (
        _,
        record {
          junctions = junctions.0;
          reservoirs = reservoirs.0;
          tanks = tanks.0;
          links = links.0;
          junctions_are = junctions.1;
          reservoirs_are = reservoirs.1;
          tanks_are = tanks.1;
          links_are = links.1;
          lines_are = refl;
        },
      )

  state-if : (b : Bool) → (lines : List ReportLine) × MatchBool b (AreStateLines project grid standing row lines)
      (lines ≡ [])
  state-if true = state-lines
  state-if false = ([], refl)

  -- ---- the end

  record Brings : Type 0 where
    events : List Event
    changes : List Change
    brings : EndBrings project grid standing row events changes

  by-leaving : (links : List LinkState) → LeavesLinks project grid standing row row.length links → Brings
  by-leaving _ (left_by_rules e) =
      record {
        events = events_of project grid standing row;
        changes =
            decided_changes project grid standing row row.length;
        brings = by_rules e;
      }
  by-leaving _ (left_by_clock e) = record {
    events = events_of project grid standing row;
    changes = [];
    brings =
        by_clock e;
  }

  brings-some : (next : Standing) → LeadsOn project grid standing row next → Brings
  brings-some next (continues c) = by-leaving next.commanded c.leaves_links
  brings-some next (finishes f) = record { events = []; changes = []; brings = at_end f.is_last }

  pub report_is : (next : Standing) → LeadsOn project grid standing row next
      → (lines : List ReportLine) × IsReport project grid standing row lines
  report_is next leads =
      let state = state-if (is_report_time project standing.time) in
      let ends = brings-some next leads in (
        _,
        record {
          state = state.0;
          state_are = state.1;
          at_end = _;
          at_end_are = record { events = ends.events; changes = ends.changes; brings = ends.brings; lines_are = refl };
          lines_are = refl;
        },
      )
