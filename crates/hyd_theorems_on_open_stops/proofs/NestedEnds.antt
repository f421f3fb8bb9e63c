-- What an inner record leaves at its end lies inside what the outer one leaves, so where that one's matters are
-- decided, so are those of the inner one.
use Rattle.std.proofs.Common.{◌≡◌, ℕ, suc, ◌+◌, ◌≤◌, ℤ, refl, sym, ap, subst, ◌∙◌, arith}
use Rattle.std.proofs.Common.{Bool, false, List, [], ◌∷◌, map}
use Rattle.std.specs.Prelude.{Option, Some, None, slice_get, slice_index_or}
use Rattle.std.proofs.lemmas.Int.{ints}
use Rattle.hyd_net.specs.Sound.{IsSound}
use Rattle.hyd_spec.specs.ProgramTypes.{Project, Tank}
use Rattle.hyd_spec.specs.declared.TankState.{TankState}
use Rattle.hyd_spec.specs.Lists.{map_from}
use Rattle.hyd_spec.specs.Tank.{walls_of}
use Rattle.hyd_spec_certificates.specs.Interval.{Interval}
use Rattle.hyd_spec_certificates.specs.Stocks.{Stocks, state_of}
use Rattle.hyd_spec_certificates.specs.ThreeValuedLogic.{is_unknown}
use Rattle.hyd_spec_certificates.specs.PeriodNetwork.{Grid}
use Rattle.hyd_spec_certificates.specs.RecordAndStanding.{Record}
use Rattle.hyd_spec_certificates.specs.Decided.{Watch, stocks_of_tank, inflow_of_tank, nowhere, control_truth}
use Rattle.hyd_spec_certificates.specs.Valid.{AreStates, ControlsAreDecided}
use Rattle.hyd_spec_open_ends.specs.OpenStandings.{OpenStanding, OpenRecord}
use Rattle.hyd_spec_open_ends.specs.OpenEnds.{Way, EndsIn, by_rules, by_instant, by_watched, shortest_length}
use Rattle.hyd_spec_open_ends.specs.OpenEnds.{longest_length}
use Rattle.hyd_spec_open_ends.specs.Arrivals.{Arrives, arrival_of}
use Rattle.hyd_spec_open_ends.specs.OpenRecords.{carried_left, stocks_left, level_left, levels_left}
use Rattle.hyd_theorems_on_definitions.specs.LyingInIntervals.{IsInside}
use Rattle.hyd_theorems_on_definitions.proofs.StocksInIntervals.{state_nests}
use Rattle.hyd_theorems_on_definitions.proofs.DecidedByEnds.{control_tells}
use Rattle.hyd_theorems_on_histories.proofs.ListsByPlace.{numbered_from_start}
use Rattle.hyd_theorems_on_nesting.specs.Nesting.{IsOrdered, AreNested}
use Rattle.hyd_theorems_on_nesting.proofs.NestedBoxes.{inflow_inside, inflow_ordered}
use Rattle.hyd_theorems_on_nesting.proofs.InnerRecordsDecide.{lies-one, widened-lies, ends-refine, known-same}
use Rattle.hyd_theorems_on_open_ends.specs.WaysInside.{IsWayInside}
use Rattle.hyd_theorems_on_open_ends.proofs.NarrowerStocks.{kept_narrower}
use Rattle.hyd_theorems_on_open_ends.proofs.NestedWays.{no_shorter, no_longer}
use Rattle.hyd_theorems_on_open_standings.proofs.StandingsAreFirm.{past, carried_there, level_there}
use Rattle.hyd_theorems_on_open_stops.proofs.NestedArrivals.{carried_end_inside, level_end_inside, CutsAsMuch}
use Rattle.hyd_theorems_on_open_stops.proofs.NestedArrivals.{cuts_as_much}

-- an inner record inside itself
pub inner_self : (project : Project) (standing : OpenStanding) (grid : Grid) (outer inner : Record)
    → AreNested project standing.known grid outer inner → AreNested project standing.known grid inner inner
inner_self project standing grid outer inner nested = record {
  is_grid = nested.is_grid;
  steady = nested.steady;
  levels_each = nested.levels_each;
  ordered = nested.ordered;
  outer_certificates = nested.inner_certificates;
  inner_certificates = nested.inner_certificates;
  about = record {
    upper = λ problem is i junction at. omega (arith, ints);
    lower = λ problem is i junction at. omega (arith, ints);
  };
  vessels = nested.vessels;
}

states-same : (f g : ℕ → Tank → Option TankState) (from : ℕ) (tanks : List Tank) (states : List TankState)
    → ((k : ℕ) (tank : Tank) (s : TankState) → slice_get tanks k ≡ Some tank → f (from + k) tank ≡ Some s
    → g (from + k) tank ≡ Some s)
    → map_from f from tanks ≡ map Some states → map_from g from tanks ≡ map Some states
states-same f g from [] states each e = e
states-same f g from (tank ∷ tanks) [] each e = absurd (cc)
states-same f g from (tank ∷ tanks) (s ∷ states) each e =
    let first : f from tank ≡ Some s = cc in
    let others : map_from f (suc from) tanks ≡ map {B = Option TankState} Some states = cc in
    let n : from + 0 ≡ from = omega arith in
    let here : g from tank ≡ Some s = subst (λ m. f m tank ≡ Some s → g m tank ≡ Some s) n (each 0 tank s refl)
    first in
    let rest = states-same f g (suc from) tanks states (λ k t u at. let m : from + suc k ≡ suc from + k =
    omega arith in subst (λ p. f p t ≡ Some u → g p t ≡ Some u) m (each (suc k) t u at)) others in
    λ i. here i ∷ rest i

module _ (project : Project) (sound : IsSound project) (standing : OpenStanding) (grid : Grid)
    (outer inner : OpenRecord) (nested : AreNested project standing.known grid outer.row inner.row)
    (way : Way) (reached : Option Watch) (arrives : Arrives project grid standing.known outer.row way reached)
    (is_short : outer.shortest ≡ shortest_length standing.late way)
    (is_long : outer.row.length ≡ longest_length way)
    (inside : Way) (ends_inside : EndsIn project grid standing inner.row inside) (reached_inside : Option Watch)
    (arrives_inside : Arrives project grid standing.known inner.row inside reached_inside)
    (is_short_inside : inner.shortest ≡ shortest_length standing.late inside)
    (is_long_inside : inner.row.length ≡ longest_length inside) (lies : IsWayInside inside way) where
  in-order : (w : Way) → EndsIn project grid standing inner.row w → shortest_length standing.late w ≤ longest_length w
  in-order _ (by_rules x first after in_time closed) = omega arith
  in-order _ (by_instant x same none) = omega arith
  in-order _ (by_watched x before none) = x.in_order

  abbrev level-out : ℕ → Tank → Interval
  level-out k tank = level_left project grid standing.known outer reached k tank

  abbrev level-in : ℕ → Tank → Interval
  level-in k tank = level_left project grid standing.known inner reached_inside k tank

  module _ (k : ℕ) (tank : Tank) (at : slice_get project.tanks.list k ≡ Some tank) where
    abbrev stocks : Stocks
    stocks = stocks_of_tank standing.known k

    flow : IsOrdered (inflow_of_tank project grid inner.row k)
    flow = inflow_ordered project standing.known grid outer.row inner.row nested k tank at

    less : IsInside (inflow_of_tank project grid inner.row k) (inflow_of_tank project grid outer.row k)
    less = inflow_inside project standing.known grid outer.row inner.row nested k tank at

    from : outer.shortest ≤ inner.shortest
    from = let a = no_shorter standing.late inside way lies in omega (arith, a, is_short, is_short_inside)

    order : inner.shortest ≤ inner.row.length
    order = let a = in-order inside ends_inside in omega (arith, a, is_short_inside, is_long_inside)

    to : inner.row.length ≤ outer.row.length
    to = let a = no_longer inside way lies in omega (arith, a, is_long, is_long_inside)

    cuts : CutsAsMuch (arrival_of inner.shortest reached_inside k)
        (arrival_of outer.shortest reached k)
    cuts =
        subst (λ n. CutsAsMuch (arrival_of n reached_inside k)
        (arrival_of outer.shortest reached k)) (sym is_short_inside)
        (subst (λ n. CutsAsMuch
        (arrival_of (shortest_length standing.late inside) reached_inside k) (arrival_of n reached k)) (sym is_short)
        (cuts_as_much project sound standing grid outer.row inner.row nested inside reached_inside ends_inside
        arrives_inside k tank at way reached lies arrives))

    carried-inside : IsInside (carried_left project grid standing.known inner reached_inside k tank)
        (carried_left project grid standing.known outer reached k tank)
    carried-inside =
        carried_end_inside tank stocks (inflow_of_tank project grid inner.row k)
        (inflow_of_tank project grid outer.row k) (nested.ordered k) flow less outer.shortest outer.row.length
        inner.shortest inner.row.length from order to (walls_of project tank)
        (arrival_of inner.shortest reached_inside k) (arrival_of outer.shortest reached k) (nested.vessels k tank at)
        cuts

    stock-inside : IsInside (stocks_left project grid standing.known inner reached_inside k tank).level
        (stocks_left project grid standing.known outer reached k tank).level
    stock-inside =
        level_end_inside tank stocks (inflow_of_tank project grid inner.row k)
        (inflow_of_tank project grid outer.row k) (nested.ordered k) flow less outer.shortest outer.row.length
        inner.shortest inner.row.length from order to (walls_of project tank)
        (arrival_of inner.shortest reached_inside k) (arrival_of outer.shortest reached k) (nested.vessels k tank at)
        cuts

    inner-nested : AreNested project standing.known grid inner.row inner.row
    inner-nested = inner_self project standing grid outer.row inner.row nested

    pub level_inside : IsInside (level-in k tank) (level-out k tank)
    level_inside =
        kept_narrower k (carried_left project grid standing.known inner reached_inside k tank)
        (carried_left project grid standing.known outer reached k tank)
        (carried_there project sound grid standing inner inner-nested inside ends_inside reached_inside arrives_inside
        is_short_inside is_long_inside k tank at) carried-inside project.controls.list
        (stocks_left project grid standing.known inner reached_inside k tank).level
        (stocks_left project grid standing.known outer reached k tank).level stock-inside

    inner-there : IsOrdered (level-in k tank)
    inner-there = level_there project sound grid standing inner inner-nested inside ends_inside reached_inside
        arrives_inside is_short_inside is_long_inside k tank at

    control-known : (above : Bool) (ticks : ℤ) → is_unknown (control_truth (level-out k tank) above ticks) ≡ false
        → is_unknown (control_truth (level-in k tank) above ticks) ≡ false
    control-known above ticks known =
        let o = level-out k tank in let n = level-in k tank in
        let lo = widened-lies n o n.lo level_inside (lies-one n n.lo (omega (arith, ints)) inner-there) in
        let hi = widened-lies n o n.hi level_inside (lies-one n n.hi inner-there (omega (arith, ints))) in
        let refines = ends-refine (control_truth o above ticks) _ _
        (control_tells 1 o above ticks n.lo (omega arith) lo) (control_tells 1 o above ticks n.hi (omega arith) hi) in
        ap is_unknown (sym (known-same (control_truth o above ticks) (control_truth n above ticks) known refines))
        ∙ known

  -- ---- over all tanks

  abbrev levels-out : List Interval
  levels-out = levels_left project grid standing.known outer reached

  abbrev levels-in : List Interval
  levels-in = levels_left project grid standing.known inner reached_inside

  at-out : (k : ℕ) (tank : Tank) → slice_get project.tanks.list k ≡ Some tank
      → slice_index_or levels-out k nowhere ≡ level-out k tank
  at-out k tank at = numbered_from_start Tank Interval level-out project.tanks.list k tank nowhere at

  at-in : (k : ℕ) (tank : Tank) → slice_get project.tanks.list k ≡ Some tank
      → slice_index_or levels-in k nowhere ≡ level-in k tank
  at-in k tank at = numbered_from_start Tank Interval level-in project.tanks.list k tank nowhere at

  pub inner_states : (states : List TankState) → AreStates project levels-out states
      → AreStates project levels-in states
  inner_states states =
      states-same (λ k tank. state_of tank (slice_index_or levels-out k nowhere))
      (λ k tank. state_of tank (slice_index_or levels-in k nowhere)) 0 project.tanks.list states
      (λ k tank s at. let n : k ≡ 0 + k = omega arith in
      subst (λ m. state_of tank (slice_index_or levels-out m nowhere) ≡ Some s
      → state_of tank (slice_index_or levels-in m nowhere) ≡ Some s) n
      (λ e. ap (state_of tank) (at-in k tank at)
      ∙ state_nests tank (level-in k tank) (level-out k tank) s (inner-there k tank at) (level_inside k tank at)
      (ap (state_of tank) (sym (at-out k tank at)) ∙ e)))

  pub inner_controls : ControlsAreDecided project levels-out → ControlsAreDecided project levels-in
  inner_controls decided each k above ticks contained is = by-place (slice_get project.tanks.list k) refl
    where
      known : is_unknown (control_truth (slice_index_or levels-out k nowhere) above ticks) ≡ false
      known = decided each k above ticks contained is

      by-place : (o : Option Tank) → slice_get project.tanks.list k ≡ o
          → is_unknown (control_truth (slice_index_or levels-in k nowhere) above ticks) ≡ false
      by-place None at =
          let a = past level-out 0 project.tanks.list k at in
          let b = past level-in 0 project.tanks.list k at in
          ap (λ x. is_unknown (control_truth x above ticks)) (b ∙ sym a) ∙ known
      by-place (Some tank) at =
          ap (λ x. is_unknown (control_truth x above ticks)) (at-in k tank at)
          ∙ control-known k tank at above ticks (ap (λ x. is_unknown (control_truth x above ticks))
          (sym (at-out k tank at)) ∙ known)
