-- Periods of a witness that are all met are a history of the network.
use Rattle.std.proofs.Common.{◌≡◌, ℕ, zero, suc, ◌+◌, ◌%◌, ◌<◌, ℤ, ◌-ℤ◌, refl, ap, subst, arith, List, []}
use Rattle.std.proofs.Common.{◌∷◌, length, map, ◌==◌}
use Rattle.std.specs.Prelude.{Option, Some, None, slice_get, All}
use Rattle.std.specs.List.{AllByRecursion, AllZip}
use Rattle.std.specs.Option.{IfSome}
use Rattle.std.proofs.lemmas.Bool.{cond_both}
use Rattle.hyd_num.specs.CapacityPairs.{IsMade}
use Rattle.hyd_net.specs.Sound.{IsSound}
use Rattle.hyd_spec.specs.ProgramTypes.{Project, Junction, Tank, Link, LinkState, Capacity}
use Rattle.hyd_spec.specs.Scale.{at_scale}
use Rattle.hyd_spec.specs.DemandsHeadsAndPumpLifts.{reservoir_head}
use Rattle.hyd_spec.specs.Outflow.{FollowsDemand, FollowsEmitter}
use Rattle.hyd_spec.specs.Assignment.{JunctionObeys, head_at, flow_at}
use Rattle.hyd_spec.specs.PumpPatternsAndSimpleControls.{acts_at}
use Rattle.hyd_spec.specs.Rules.{acted}
use Rattle.hyd_spec.specs.PeriodLength.{Period, values_at}
use Rattle.hyd_spec.specs.History.{tank_states, IsPeriod, GoesOn, IsHistory, commanded_after}
use Rattle.hyd_spec_certificates.specs.PeriodNetwork.{Grid, GridJunction, IsGrid, IsJunctionOf, grid_links}
use Rattle.hyd_spec_certificates.specs.PeriodNetwork.{tank_intervals}
use Rattle.hyd_spec_witnesses.specs.MetFlows.{IsEmitterMetBy}
use Rattle.hyd_spec_witnesses.specs.MetPeriods.{Moment, HasItsLists, Reached, at_start, after_moment, commanded_at}
use Rattle.hyd_spec_witnesses.specs.MetPeriods.{period_of, IsMet, AreMetFrom, AreMet, periods_from, periods_of}
use Rattle.hyd_spec_witnesses.specs.MetPeriods.{heads_of}
use Rattle.hyd_theorems_on_definitions.specs.SoundLawsAndGrids.{IsSoundGrid, IsSoundCapacity}
use Rattle.hyd_theorems_on_definitions.proofs.EachLaw.{IsSoundCapacity-made}
use Rattle.hyd_theorems_on_definitions.proofs.LawsOfGrids.{IsSoundGrid-made}
use Rattle.hyd_theorems_on_histories.specs.Agreement.{IsOwnState}
use Rattle.hyd_theorems_on_histories.proofs.AgreementAfterPeriod.{made-states}
use Rattle.hyd_theorems_on_histories.proofs.CommandedLinkStates.{initial_own, started_own, acted_own}
use Rattle.hyd_theorems_on_witnesses.proofs.MetAssignments.{links-follow, emitter-follows, demand-follows}

-- ---- lists

pub zip-at : (X Y : Type 0) (P : X → Y → Type 0) (xs : List X) (ys : List Y) → AllZip P xs ys → (k : ℕ) (x : X)
    → slice_get xs k ≡ Some x → (y : Y) × ((slice_get ys k ≡ Some y) × P x y)
zip-at X Y P [] [] all k x at = absurd (cc)
zip-at X Y P [] (y ∷ ys) all k x at = absurd all
zip-at X Y P (z ∷ xs) [] all k x at = absurd all
zip-at X Y P (z ∷ xs) (y ∷ ys) all zero x at = let same : z ≡ x = cc in (y, (refl, subst (λ w. P w y) same all.0))
zip-at X Y P (z ∷ xs) (y ∷ ys) all (suc k) x at = zip-at X Y P xs ys all.1 k x at

zip-long : (X Y : Type 0) (P : X → Y → Type 0) (xs : List X) (ys : List Y) → AllZip P xs ys → length ys ≡ length xs
zip-long X Y P [] [] all = refl
zip-long X Y P [] (y ∷ ys) all = absurd all
zip-long X Y P (x ∷ xs) [] all = absurd all
zip-long X Y P (x ∷ xs) (y ∷ ys) all = ap suc (zip-long X Y P xs ys all.1)

states-long : (S : ℕ) (tanks : List Tank) (levels : List ℤ) → length levels ≡ length tanks
    → length (tank_states S tanks levels) ≡ length tanks
states-long S [] levels each = refl
states-long S (tank ∷ tanks) [] each = absurd (omega (arith, each))
states-long S (tank ∷ tanks) (level ∷ levels) each = ap suc (states-long S tanks levels (omega (arith, each)))

at-place : (X : Type 0) (P : X → Type 0) (xs : List X) → All P xs → (k : ℕ) (x : X) → slice_get xs k ≡ Some x → P x
at-place X P [] all k x at = absurd (cc)
at-place X P (y ∷ xs) all zero x at = let same : y ≡ x = cc in subst P same (all 0 y (omega arith))
at-place X P (y ∷ xs) all (suc k) x at = at-place X P xs (λ j d le. all (suc j) d (omega (arith, le))) k x at

-- ---- one period

emitter-sound : (e : Option Capacity) → IfSome e IsMade → IfSome e IsSoundCapacity
emitter-sound None made = tt
emitter-sound (Some c) made = IsSoundCapacity-made c made

module _ (project : Project) (sound : IsSound project) (S : ℕ) (some : 0 < S) where
  -- the links are in states of their own
  abbrev AreOwn : List LinkState → Type 0
  AreOwn states = AllZip (IsOwnState project) project.links.list states

  module _ (reached : Reached) (moment : Moment) (own : AreOwn (commanded_at project S reached.last))
      (lists : HasItsLists project moment) (met : IsMet project S reached moment) where
    abbrev period : Period
    period = period_of project S reached moment

    pub links-own : AreOwn period.links
    links-own = started_own project sound moment.time (acts_at S moment.levels)
        (commanded_at project S reached.last) own

    abbrev grid : Grid
    grid = record {
      junctions = met.junctions;
      reservoirs = map (reservoir_head project moment.time) project.reservoirs.list;
      tanks = tank_intervals project.tanks.list [];
      links = grid_links project period.tanks project.links.list period.links;
    }

    is-grid : IsGrid project moment.time [] period.tanks period.links grid
    is-grid = record { junctions = met.are_junctions; reservoirs = refl; tank_heads = refl; links_are = refl }

    sound-grid : IsSoundGrid grid
    sound-grid = IsSoundGrid-made project moment.time [] period.tanks period.links grid is-grid (record {
      emitters = sound.made.emitters;
      kinds = sound.made.links;
      sizes = sound.quantities.links;
      states = made-states project project.links.list period.links links-own;
    })

    obeys-at : (j : ℕ) (junction : Junction) → slice_get project.junctions.list j ≡ Some junction
        → JunctionObeys project moment.time S period.assignment j junction
    obeys-at j junction at =
        let found = zip-at Junction GridJunction (IsJunctionOf project moment.time) project.junctions.list met.junctions
        met.are_junctions j junction at in
        let here = found.0 in
        let is : IsJunctionOf project moment.time junction here = found.1.1 in
        record {
          demand = subst (λ (e : ℤ). FollowsDemand project moment.time junction S
              (head_at moment.heads j -ℤ at_scale S e) (flow_at moment.demands j)) is.elevation
              (demand-follows project moment.time junction here.demand S
              (head_at moment.heads j -ℤ at_scale S here.elevation) (flow_at moment.demands j) some is.demand
              (met.demands j here found.1.0));
          emitter = subst (λ (e : ℤ). FollowsEmitter junction S (head_at moment.heads j -ℤ at_scale S e)
              (flow_at moment.emitters j)) is.elevation
              (emitter-follows junction.emitter S (head_at moment.heads j -ℤ at_scale S here.elevation)
              (flow_at moment.emitters j) some
              (emitter-sound junction.emitter (at-place Junction (λ x. IfSome {T = Capacity} x.emitter IsMade)
              project.junctions.list sound.made.emitters j junction at))
              (subst (λ (e : Option Capacity). IsEmitterMetBy e S (head_at moment.heads j -ℤ at_scale S here.elevation)
              (flow_at moment.emitters j)) is.emitter (met.emitters j here found.1.0)));
          balance = met.balance j here found.1.0;
        }

    pub is-period : IsPeriod project S period
    is-period = record {
      obeys = record {
        scale = some;
        level_each = lists.level_each;
        tank_each = states-long S project.tanks.list moment.levels lists.level_each;
        head_each = lists.head_each;
        demand_each = lists.demand_each;
        emitter_each = lists.emitter_each;
        links_follow = links-follow project period.tanks S (heads_of project S period) some project.links.list
            period.links moment.flows
            (zip-long Link LinkState (IsOwnState project) project.links.list period.links links-own) lists.flow_each
            sound-grid.links met.links;
        junctions_obey = obeys-at;
      };
      lasts = met.lasts;
    }

  -- ---- one period after another

  own-after : (period : Period) → AreOwn period.links → AreOwn (commanded_after project S period)
  own-after period own =
      cond_both ((period.time + period.length) % project.times.rule == 0)
      (acted project (values_at project S period (period.time + period.length)) period.links) period.links AreOwn
      (λ e. acted_own project sound (values_at project S period (period.time + period.length)) period.links own)
      (λ e. own)

  goes-on : (count : ℕ) (before : Period) → AreOwn (commanded_after project S before) → (moments : List Moment)
      → AllByRecursion (HasItsLists project) moments
      → AreMetFrom project S (record { count = count; last = Some before }) moments
      → GoesOn project S before (periods_from project S (record { count = count; last = Some before }) moments)
  goes-on count before own [] lists met = tt
  goes-on count before own (moment ∷ rest) lists met =
      let reached : Reached = record { count = count; last = Some before } in (
        met.0.start.goes_on,
        (
          is-period reached moment own lists.0 met.0,
          goes-on (suc count) (period_of project S reached moment)
              (own-after (period_of project S reached moment) (links-own reached moment own lists.0 met.0)) rest
              lists.1 met.1,
        ),
      )

  pub met-history : (moments : List Moment) → AllByRecursion (HasItsLists project) moments
      → AreMet project S moments → IsHistory project S (periods_of project S moments)
  met-history [] lists met = tt
  met-history (moment ∷ rest) lists met = (
    met.0.start.goes_on,
    (
      is-period at_start moment (initial_own project sound) lists.0 met.0,
      goes-on 1 (period_of project S at_start moment)
          (own-after (period_of project S at_start moment)
          (links-own at_start moment (initial_own project sound) lists.0 met.0)) rest lists.1 met.1,
    ),
  )

-- ---- how many

pub as-many : (project : Project) (S : ℕ) (reached : Reached) (moments : List Moment)
    → length (periods_from project S reached moments) ≡ length moments
as-many project S reached [] = refl
as-many project S reached (moment ∷ rest) = ap suc (as-many project S (after_moment project S reached moment) rest)
