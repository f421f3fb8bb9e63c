-- What has just been reached of a tank under an outer record has been under each record inside it, so its stocks are
-- cut there at the same level, and what an inner record leaves lies inside what the outer one does.
use Rattle.std.proofs.Common.{◌≡◌, ℕ, ◌+◌, ◌<◌, ◌≤◌, ℤ, pos, ◌*ℤ◌, ◌≤ℤ◌, refl, sym, ap, subst, ◌∙◌, arith, Bool, true}
use Rattle.std.proofs.Common.{false}
use Rattle.std.proofs.Common.{◌⊎◌, inl, inr, ◌==◌, nat_le}
use Rattle.std.specs.Prelude.{Option, Some, None, ⊤, slice_get, if◌then◌else◌}
use Rattle.std.proofs.lemmas.Int.{ints}
use Rattle.std.proofs.lemmas.Bool.{cases_Bool, cond_both, eqb-true, leb-true, leb-false}
use Rattle.hyd_num.proofs.Integers.{one_times}
use Rattle.hyd_num.specs.Rational.{whole}
use Rattle.hyd_net.specs.Sound.{IsSound}
use Rattle.hyd_spec.specs.ProgramTypes.{Project, Tank}
use Rattle.hyd_spec.specs.Scale.{missed_stock_ticks}
use Rattle.hyd_spec.specs.Tank.{Walls, Cylinder, Curve, walls_of}
use Rattle.hyd_spec_certificates.specs.Interval.{Interval}
use Rattle.hyd_spec_certificates.specs.Stocks.{Stocks, least_stock, greatest_stock, may_reach}
use Rattle.hyd_spec_certificates.specs.PeriodNetwork.{Grid}
use Rattle.hyd_spec_certificates.specs.RecordAndStanding.{Record}
use Rattle.hyd_spec_certificates.specs.Decided.{Watch, SomeMayReach, stocks_of_tank, inflow_of_tank}
use Rattle.hyd_spec_open_ends.specs.OpenStandings.{OpenStanding}
use Rattle.hyd_spec_open_ends.specs.StocksOverLengths.{Arrival, Ends, level_ends, content_ends, cut_where_reached}
use Rattle.hyd_spec_open_ends.specs.StocksOverLengths.{carried_at_end, contents_at_end, stocks_at_end}
use Rattle.hyd_spec_open_ends.specs.OpenEnds.{Way, ByRules, ByInstant, ByWatched, EndsIn, AreSeconds}
use Rattle.hyd_spec_open_ends.specs.OpenEnds.{by_watched, shortest_length}
use Rattle.hyd_spec_open_ends.specs.Arrivals.{MayComeBy, IsNoFarther, IsArrival, Arrives, by_rules, by_instant, one}
use Rattle.hyd_spec_open_ends.specs.Arrivals.{competing, arrival_of}
use Rattle.hyd_theorems_on_definitions.specs.LyingInIntervals.{IsInside, AreInside, HasStock}
use Rattle.hyd_theorems_on_definitions.specs.SoundTanks.{IsVessel}
use Rattle.hyd_lemmas.proofs.ListsOptionsAndResults.{same_some}
use Rattle.hyd_theorems_on_definitions.proofs.ValuesAtTwoScales.{Leads}
use Rattle.hyd_theorems_on_definitions.proofs.StocksInIntervals.{lower-levels, upper-levels}
use Rattle.hyd_theorems_on_definitions.proofs.DecidedByEnds.{may_nests}
use Rattle.hyd_theorems_on_nesting.specs.Nesting.{IsOrdered, AreNested}
use Rattle.hyd_theorems_on_nesting.proofs.NestedBoxes.{inflow_inside}
use Rattle.hyd_theorems_on_open_ends.specs.WaysInside.{IsWayInside}
use Rattle.hyd_theorems_on_open_ends.proofs.ContentsAtGoals.{IsMeasured, nearer, measured}
use Rattle.hyd_theorems_on_open_ends.proofs.NarrowerStocks.{AreRising, level_ends_rise, content_ends_rise}
use Rattle.hyd_theorems_on_open_ends.proofs.NarrowerStocks.{carried_narrower, contents_narrower, cut_narrower}
use Rattle.hyd_theorems_on_open_standings.proofs.StocksInOrder.{cut_inside}
use Rattle.hyd_theorems_on_open_stops.proofs.ArrivalsDecided.{one_level}

-- ---- intervals

pub inside_self : (x : Interval) → IsInside x x
inside_self x = record { low = omega (arith, ints); high = omega (arith, ints) }

pub inside_through : (x y z : Interval) → IsInside x y → IsInside y z → IsInside x z
inside_through x y z p q = record {
  low = let a = p.low in let b = q.low in omega (arith, ints, a, b);
  high = let a = p.high in let b = q.high in omega (arith, ints, a, b);
}

-- ---- cuts

-- Where a tank is cut by what was reached under the outer record, it is cut under the inner one at the same level, and
-- on the other side wherever it is there.
abbrev pub CutsAsMuch : Option Arrival → Option Arrival → Type 0
CutsAsMuch inner None = ⊤
CutsAsMuch inner (Some outer) =
    (sooner : Bool)
    × ((inner ≡ Some (record { target = outer.target; rising = outer.rising; not_before = sooner }))
    × (outer.not_before ≡ true → sooner ≡ true))

-- the cut of an interval lies inside that of a wider one
cut-less : (ends : Ends) → AreRising ends → (walls : Walls) (tank : Tank) → IsVessel walls tank
    → (inflow more : Interval) → IsInside inflow more → (inner outer : Option Arrival) → CutsAsMuch inner outer
    → (x y : Interval) → IsInside x y
    → IsInside (cut_where_reached ends walls tank inflow inner x) (cut_where_reached ends walls tank more outer y)
cut-less ends rising walls tank vessel inflow more less None None cuts x y inside = inside
cut-less ends rising walls tank vessel inflow more less (Some inner) None cuts x y inside =
    inside_through _ x _ (cut_inside walls tank inflow ends inner x) inside
cut-less ends rising walls tank vessel inflow more less inner (Some outer) cuts x y inside =
    subst (λ (o : Option Arrival). IsInside (cut_where_reached ends walls tank inflow o x)
    (cut_where_reached ends walls tank more (Some outer) y)) (sym cuts.1.0)
    (cut_narrower ends rising walls tank vessel inflow more outer.target outer.rising cuts.0 outer.not_before x y less
    inside cuts.1.1)

module _ (tank : Tank) (stocks : Stocks) (inflow more : Interval) (has : HasStock stocks) (flow : IsOrdered inflow)
    (less : IsInside inflow more) (first last shortest longest : ℕ) (from : first ≤ shortest)
    (order : shortest ≤ longest) (to : longest ≤ last) where
  same-stocks : AreInside stocks stocks
  same-stocks = record { level = inside_self stocks.level; volume = inside_self stocks.volume }

  pub carried_end_inside : (walls : Walls) (inner outer : Option Arrival) → IsVessel walls tank
      → CutsAsMuch inner outer
      → IsInside (carried_at_end walls tank stocks inflow shortest longest inner)
      (carried_at_end walls tank stocks more first last outer)
  carried_end_inside walls inner outer vessel cuts =
      cut-less (level_ends (pos 0) walls tank) (level_ends_rise (pos 0) (omega (arith, ints)) walls tank vessel) walls
      tank vessel inflow more less inner outer cuts _ _
      (carried_narrower walls tank vessel stocks stocks inflow more has flow same-stocks less first last shortest
      longest from order to)

  contents-end-inside : (walls : Walls) (inner outer : Option Arrival) → IsVessel walls tank
      → CutsAsMuch inner outer
      → IsInside (contents_at_end walls tank stocks inflow shortest longest inner)
      (contents_at_end walls tank stocks more first last outer)
  contents-end-inside walls inner outer vessel cuts =
      cut-less (content_ends (pos missed_stock_ticks) walls tank)
      (content_ends_rise (pos missed_stock_ticks) (omega (arith, ints)) walls tank vessel) walls tank vessel inflow
      more less inner outer cuts _ _
      (contents_narrower walls tank vessel stocks stocks inflow more has flow same-stocks less first last shortest
      longest from order to (pos missed_stock_ticks) (omega (arith, ints)))

  pub level_end_inside : (walls : Walls) (inner outer : Option Arrival) → IsVessel walls tank
      → CutsAsMuch inner outer
      → IsInside (stocks_at_end walls tank stocks inflow shortest longest inner).level
      (stocks_at_end walls tank stocks more first last outer).level
  level_end_inside (Cylinder area) inner outer vessel cuts =
      contents-end-inside (Cylinder area) inner outer vessel cuts
  level_end_inside (Curve points) inner outer vessel cuts =
      let a = contents_at_end (Curve points) tank stocks inflow shortest longest inner in
      let b = contents_at_end (Curve points) tank stocks more first last outer in
      let at = contents-end-inside (Curve points) inner outer vessel cuts in
      record {
        low = lower-levels (Curve points) tank vessel (whole b.lo) (whole a.lo) (pos missed_stock_ticks)
            (omega (arith, ints)) (omega arith) (omega arith) (wholes b.lo a.lo at.low);
        high = upper-levels (Curve points) tank vessel (whole a.hi) (whole b.hi) (pos missed_stock_ticks)
            (omega (arith, ints)) (omega arith) (omega arith) (wholes a.hi b.hi at.high);
      }
    where
      wholes : (m n : ℤ) → m ≤ℤ n → Leads 1 1 (whole m) (whole n)
      wholes m n le = record {
        crossed = omega (
          arith,
          ints,
          le,
          one_times m,
          one_times n,
          one_times (pos 1 *ℤ m),
          one_times (pos 1 *ℤ n),
        );
      }

-- ---- arrivals under two records

-- where a farther level may have been reached, so may a nearer one
may-nearer : (walls : Walls) (tank : Tank) → IsMeasured walls tank → (stocks : Stocks) (inflow : Interval)
    (rising : Bool) (near far : ℤ) (s : ℕ) → IsNoFarther rising near far
    → may_reach walls tank stocks inflow far rising s ≡ true → may_reach walls tank stocks inflow near rising s ≡ true
may-nearer walls tank is stocks inflow true near far s le reached =
    nearer 1 (omega arith) tank (greatest_stock stocks) inflow.hi s walls is true near far le reached
may-nearer walls tank is stocks inflow false near far s le reached =
    nearer 1 (omega arith) tank (least_stock stocks) inflow.lo s walls is false near far le reached

module _ (project : Project) (sound : IsSound project) (standing : OpenStanding) (grid : Grid) (outer inner : Record)
    (nested : AreNested project standing.known grid outer inner) where
  comes-out : (later latest : ℕ) → later ≤ latest → (watch : Watch)
      → MayComeBy project grid standing.known inner watch later
      → MayComeBy project grid standing.known outer watch latest
  comes-out later latest le watch c = record {
    is_watched = c.is_watched;
    second = c.second;
    some = c.some;
    in_time = let l = c.in_time in omega (arith, l, le);
    tank = c.tank;
    is_tank = c.is_tank;
    reached = may_nests (walls_of project c.tank) c.tank (stocks_of_tank standing.known watch.tank)
        (stocks_of_tank standing.known watch.tank) (inflow_of_tank project grid inner watch.tank)
        (inflow_of_tank project grid outer watch.tank) watch.target watch.rising c.second
        (nested.vessels watch.tank c.tank c.is_tank)
        (record {
          level = inside_self (stocks_of_tank standing.known watch.tank).level;
          volume = inside_self (stocks_of_tank standing.known watch.tank).volume;
        })
        (inflow_inside project standing.known grid outer inner nested watch.tank c.tank c.is_tank) c.reached;
  }

  module _ (latest cap sooner later : ℕ) (seconds : AreSeconds project grid standing.known inner cap sooner later)
      (before : standing.late + later < cap) (le : later ≤ latest) (watch : Watch)
      (arrival : IsArrival project grid standing.known outer latest watch) (tank : Tank)
      (at : slice_get project.tanks.list watch.tank ≡ Some tank) where
    -- the earliest level under the inner record
    first-there : SomeMayReach project grid standing.known inner sooner
    first-there = by-case seconds.is_earliest.holds
      where
        by-case : (sooner ≡ cap) ⊎ ((sooner ≡ project.times.hydraulic)
            ⊎ ((1 ≤ sooner) × SomeMayReach project grid standing.known inner sooner))
            → SomeMayReach project grid standing.known inner sooner
        by-case (inl is) = absurd (let o = seconds.in_order in omega (arith, is, o, before))
        by-case (inr (inl is)) =
            absurd (let o = seconds.in_order in let l = arrival.step_later in omega (arith, is, o, le, l))
        by-case (inr (inr r)) = r.1

    some-second : 1 ≤ sooner
    some-second = by-case seconds.is_earliest.holds
      where
        by-case : (sooner ≡ cap) ⊎ ((sooner ≡ project.times.hydraulic)
            ⊎ ((1 ≤ sooner) × SomeMayReach project grid standing.known inner sooner)) → 1 ≤ sooner
        by-case (inl is) = absurd (let o = seconds.in_order in omega (arith, is, o, before))
        by-case (inr (inl is)) =
            absurd (let o = seconds.in_order in let l = arrival.step_later in omega (arith, is, o, le, l))
        by-case (inr (inr r)) = r.0

    comes-in : MayComeBy project grid standing.known inner watch later
    comes-in =
        let r = first-there in
        let there : MayComeBy project grid standing.known inner r.watch later = record {
          is_watched = r.is_watched;
          second = sooner;
          some = some-second;
          in_time = seconds.in_order;
          tank = r.tank;
          is_tank = r.is_tank;
          reached = r.reached;
        } in
        let out = comes-out later latest le r.watch there in
        let tanks = arrival.same_tank r.watch out in
        let ways = arrival.same_way r.watch out in
        let own : r.tank ≡ tank = same_some (slice_get project.tanks.list watch.tank) r.tank tank
        (subst (λ k. slice_get project.tanks.list k ≡ Some r.tank) tanks r.is_tank) at in
        let far : may_reach (walls_of project tank) tank (stocks_of_tank standing.known watch.tank)
        (inflow_of_tank project grid inner watch.tank) r.watch.target watch.rising sooner ≡ true =
        (λ i. may_reach (walls_of project (sym own i)) (sym own i) (stocks_of_tank standing.known (sym tanks i))
        (inflow_of_tank project grid inner (sym tanks i)) r.watch.target (sym ways i) sooner)
        ∙ r.reached in
        record {
          is_watched = arrival.comes.is_watched;
          second = sooner;
          some = some-second;
          in_time = seconds.in_order;
          tank = tank;
          is_tank = at;
          reached = may-nearer (walls_of project tank) tank (measured project sound watch.tank tank at)
              (stocks_of_tank standing.known watch.tank) (inflow_of_tank project grid inner watch.tank) watch.rising
              watch.target r.watch.target sooner (arrival.nearest r.watch out) far;
        }

    pub arrives_in : IsArrival project grid standing.known inner later watch
    arrives_in = record {
      comes = comes-in;
      step_later = let l = arrival.step_later in omega (arith, l, le);
      same_tank = λ other c. arrival.same_tank other (comes-out later latest le other c);
      same_way = λ other c. arrival.same_way other (comes-out later latest le other c);
      nearest = λ other c. arrival.nearest other (comes-out later latest le other c);
    }

    reached-in : (earliest : ℕ) (reached : Option Watch)
        → Arrives project grid standing.known inner (ByWatched earliest later) reached → reached ≡ Some watch
    reached-in earliest _ (one {watch = other} x) =
        ap Some (one_level project grid standing.known inner later other watch x arrives_in)
    reached-in earliest _ (competing none) = absurd (none watch arrives_in)

  module _ (inside : Way) (reached-inside : Option Watch) (ends-inside : EndsIn project grid standing inner inside)
      (arrives-inside : Arrives project grid standing.known inner inside reached-inside) (k : ℕ) (tank : Tank)
      (at : slice_get project.tanks.list k ≡ Some tank) where
    abbrev arrival-inside : Option Arrival
    arrival-inside = arrival_of (shortest_length standing.late inside) reached-inside k

    pub cuts_as_much : (way : Way) (reached : Option Watch) → IsWayInside inside way
        → Arrives project grid standing.known outer way reached
        → CutsAsMuch arrival-inside
        (arrival_of (shortest_length standing.late way) reached k)
    cuts_as_much _ _ lies by_rules = tt
    cuts_as_much _ _ lies by_instant = tt
    cuts_as_much _ _ lies (competing none) = tt
    cuts_as_much _ _ lies (one {earliest = earliest} {latest = latest} {watch = watch} arrival) =
        cond_both (watch.tank == k) (Some (record {
          target = watch.target;
          rising = watch.rising;
          not_before = nat_le 2 earliest;
        })) None (CutsAsMuch arrival-inside)
        (λ e. by-inside inside reached-inside ends-inside arrives-inside lies (eqb-true watch.tank k e) e)
        (λ e. tt)
      where
        by-inside : (i : Way) (r : Option Watch) → EndsIn project grid standing inner i
            → Arrives project grid standing.known inner i r → IsWayInside i (ByWatched earliest latest)
            → watch.tank ≡ k → (watch.tank == k) ≡ true
            → (sooner : Bool) × ((arrival_of (shortest_length standing.late i) r k ≡ Some (record {
              target = watch.target;
              rising = watch.rising;
              not_before = sooner;
            })) × (nat_le 2 earliest ≡ true → sooner ≡ true))
        by-inside _ r (by_watched {cap = cap} {earliest = e} {latest = l} seconds before none) arrives within same
            test =
            let is = reached-in latest cap e l seconds before within.1.1 watch arrival tank
            (subst (λ n. slice_get project.tanks.list n ≡ Some tank) (sym same) at) e r arrives in
            let f = within.0 in (
              nat_le 2 e,
              (
                ap (λ o. arrival_of e o k) is ∙ chosen (watch.tank == k) test e,
                λ two. later-two earliest e f two,
              ),
            )
          where
            chosen : (b : Bool) → b ≡ true → (n : ℕ)
                → ◌≡◌ {A = Option Arrival} (if b then Some (record {
                  target = watch.target;
                  rising = watch.rising;
                  not_before = nat_le 2 n;
                }) else None) (Some (record { target = watch.target; rising = watch.rising; not_before = nat_le 2 n }))
            chosen true e n = refl
            chosen false e n = absurd (cc)

            later-two : (a b : ℕ) → a ≤ b → nat_le 2 a ≡ true → nat_le 2 b ≡ true
            later-two a b le two = elim (cases_Bool (nat_le 2 b)) [
              | inl held ↦ held
              | inr fails ↦ absurd (let l = leb-true 2 a two in let m = leb-false 2 b fails in
                  omega (arith, le, l, m))
            ]
        by-inside (ByRules i) r ends arrives within same test = absurd within
        by-inside (ByInstant i) r ends arrives within same test = absurd within
