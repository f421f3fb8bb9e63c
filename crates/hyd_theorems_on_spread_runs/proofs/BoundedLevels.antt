-- What is watched under a record is what may end a period that it bounds by its levels.
use Rattle.std.proofs.Common.{◌≡◌, ◌≢◌, ℕ, zero, suc, ◌+◌, ◌<◌, ℤ, refl, sym, ap, subst, ◌∙◌, arith, Bool, true, false}
use Rattle.std.proofs.Common.{List, [], ◌∷◌, length, map, ◌⊎◌, inl, inr}
use Rattle.std.specs.Prelude.{Option, Some, None, slice_get, slice_index_or, Contains, if◌then◌else◌}
use Rattle.std.proofs.lemmas.Option.{slice_get_within, slice_get-get_or}
use Rattle.hyd_num.specs.Rational.{whole}
use Rattle.hyd_spec.specs.ProgramTypes.{Project, Tank, Control, When, AtLevel, AtTime, AtClock}
use Rattle.hyd_spec.specs.declared.TankState.{TankState}
use Rattle.hyd_spec.specs.declared.TankState.TheVariants.{Full, Between, Empty}
use Rattle.hyd_spec.specs.Lists.{present}
use Rattle.hyd_spec_certificates.specs.Interval.{Interval}
use Rattle.hyd_spec.specs.LinkLaw.{is_full, is_empty}
use Rattle.hyd_spec.specs.Tank.{walls_of, reaches, tank_inflow}
use Rattle.hyd_spec_certificates.specs.Stocks.{may_reach, must_reach}
use Rattle.hyd_spec.specs.PeriodLength.{Period, EndsByLevel, full, empty, control as at_control, level_at_start}
use Rattle.hyd_spec.specs.PeriodLength.{stock_at_start, reached_after}
use Rattle.hyd_spec_certificates.specs.PeriodNetwork.{Grid}
use Rattle.hyd_spec_certificates.specs.RecordAndStanding.{Record, Standing}
use Rattle.hyd_spec_certificates.specs.Decided.{Watch, tank_watches, watch_of, watches, acts_on, control_truth}
use Rattle.hyd_spec_certificates.specs.Decided.{level_of_tank, stocks_of_tank, inflow_of_tank, SomeMayReach}
use Rattle.hyd_spec_certificates.specs.Decided.{SomeMustReach}
use Rattle.hyd_lemmas.proofs.ListsOptionsAndResults.{same_item}
use Rattle.hyd_theorems_on_definitions.proofs.DecidedByEnds.{control_tells, reached_may, must_reached}
use Rattle.hyd_theorems_on_histories.proofs.TargetsReached.{reaches_maximum, reaches_minimum}
use Rattle.hyd_theorems_on_histories.proofs.WatchedLevels.{contains-here, contains-later, contains-cons, contains-none}
use Rattle.hyd_theorems_on_histories.proofs.WatchedLevels.{contains-left, contains-right, contains-split, isnt-full}
use Rattle.hyd_theorems_on_histories.proofs.WatchedLevels.{isnt-empty, not-yes, known-no}
use Rattle.hyd_spec_spread.specs.NetworksWithin.{NodeData}
use Rattle.hyd_theorems_on_spread_runs.specs.BoundedPeriods.{IsBounded}
use Rattle.hyd_theorems_on_spread_runs.proofs.BoundedReadings.{level_lies, stock_lies}

-- ---- watched tanks

pub data IsTankWatch (from : ℕ) (tanks : List Tank) (states : List TankState) : Watch → Type 0 where
  maximum : (k : ℕ) (tank : Tank) (state : TankState) → slice_get tanks k ≡ Some tank → slice_get states k ≡ Some state
      → is_full state ≡ false
      → IsTankWatch from tanks states (record { tank = from + k; target = tank.maximum; rising = true })
  minimum : (k : ℕ) (tank : Tank) (state : TankState) → slice_get tanks k ≡ Some tank → slice_get states k ≡ Some state
      → is_empty state ≡ false
      → IsTankWatch from tanks states (record { tank = from + k; target = tank.minimum; rising = false })

at-number : (m n : ℕ) (t : ℤ) (rising : Bool) → m ≡ n
    → ◌≡◌ {A = Watch} (record { tank = m; target = t; rising = rising })
    (record { tank = n; target = t; rising = rising })
at-number m n t rising e = ap (λ k. record { tank = k; target = t; rising = rising }) e

next-watch : (from : ℕ) (tank : Tank) (tanks : List Tank) (state : TankState) (states : List TankState) (w : Watch)
    → IsTankWatch (suc from) tanks states w
    → IsTankWatch from (tank ∷ tanks) (state ∷ states) w
next-watch from tank tanks state states _ (maximum k own s at is not) =
    subst (IsTankWatch from (tank ∷ tanks) (state ∷ states)) (at-number (from + suc k) (suc from + k) own.maximum true
    (omega arith)) (maximum (suc k) own s at is not)
next-watch from tank tanks state states _ (minimum k own s at is not) =
    subst (IsTankWatch from (tank ∷ tanks) (state ∷ states)) (at-number (from + suc k) (suc from + k) own.minimum false
    (omega arith)) (minimum (suc k) own s at is not)

unless-contains : (b : Bool) (v w : Watch) → Contains (if b then [] else v ∷ []) w → (b ≡ false) × (v ≡ w)
unless-contains true v w c = absurd (contains-none Watch w c)
unless-contains false v w c = elim (contains-cons Watch w v [] c) [
  | inl e ↦ (refl, e)
  | inr d ↦ absurd (contains-none Watch w d)
]

contains-unless : (b : Bool) (w : Watch) → b ≡ false → Contains (if b then [] else w ∷ []) w
contains-unless true w e = absurd (cc)
contains-unless false w e = contains-here Watch w []

pub tank-watched : (from : ℕ) (tanks : List Tank) (states : List TankState) (w : Watch)
    → Contains (tank_watches from tanks states) w → IsTankWatch from tanks states w
tank-watched from [] states w c = absurd (contains-none Watch w c)
tank-watched from (tank ∷ tanks) [] w c = absurd (contains-none Watch w c)
tank-watched from (tank ∷ tanks) (state ∷ states) w c =
    elim (contains-split Watch w (if is_full state then [] else record {
      tank = from;
      target = tank.maximum;
      rising =
          true;
    } ∷ []) _ c) [
      | inl d ↦ let u = unless-contains (is_full state) _ w d in
          subst (IsTankWatch from (tank ∷ tanks) (state ∷ states)) (at-number (from + 0) from tank.maximum true
          (omega arith) ∙ u.1) (maximum 0 tank state refl refl u.0)
      | inr d ↦ elim (contains-split Watch w (if is_empty state then [] else record {
        tank = from;
        target =
            tank.minimum;
        rising = false;
      } ∷ []) _ d) [
        | inl f ↦ let u = unless-contains (is_empty state) _ w f in
            subst (IsTankWatch from (tank ∷ tanks) (state ∷ states)) (at-number (from + 0) from tank.minimum false
            (omega arith) ∙ u.1) (minimum 0 tank state refl refl u.0)
        | inr f ↦ next-watch from tank tanks state states w (tank-watched (suc from) tanks states w f)
      ]
    ]

pub watches-maximum : (from : ℕ) (tanks : List Tank) (states : List TankState) (k : ℕ) (tank : Tank) (state : TankState)
    → slice_get tanks k ≡ Some tank → slice_get states k ≡ Some state → is_full state ≡ false
    → Contains (tank_watches from tanks states) (record { tank = from + k; target = tank.maximum; rising = true })
watches-maximum from [] states k tank state at is not = absurd (cc)
watches-maximum from (own ∷ tanks) [] k tank state at is not = absurd (cc)
watches-maximum from (own ∷ tanks) (s ∷ states) zero tank state at is not =
    let t = same_item Tank own tank at in let u = same_item TankState s state is in
    let n : from ≡ from + 0 = omega arith in
    let w : Watch = record { tank = from; target = own.maximum; rising = true } in
    let e : w ≡ record { tank = from + 0; target = tank.maximum; rising = true } =
    λ i. record { tank = n i; target = (t i).maximum; rising = true } in
    subst (λ v. Contains (tank_watches from (own ∷ tanks) (s ∷ states)) v) e
    (contains-left Watch w (if is_full s then [] else w ∷ []) _ (contains-unless (is_full s) w (ap is_full u ∙ not)))
watches-maximum from (own ∷ tanks) (s ∷ states) (suc k) tank state at is not =
    let e = at-number (suc from + k) (from + suc k) tank.maximum true (omega arith) in
    subst (λ v. Contains (tank_watches from (own ∷ tanks) (s ∷ states)) v) e
    (contains-right Watch _ (if is_full s then [] else record { tank = from; target = own.maximum; rising = true } ∷ [])
    _
    (contains-right Watch _ (if is_empty s then [] else record {
      tank = from;
      target = own.minimum;
      rising =
          false;
    } ∷ []) _
    (watches-maximum (suc from) tanks states k tank state at is not)))

pub watches-minimum : (from : ℕ) (tanks : List Tank) (states : List TankState) (k : ℕ) (tank : Tank) (state : TankState)
    → slice_get tanks k ≡ Some tank → slice_get states k ≡ Some state → is_empty state ≡ false
    → Contains (tank_watches from tanks states) (record { tank = from + k; target = tank.minimum; rising = false })
watches-minimum from [] states k tank state at is not = absurd (cc)
watches-minimum from (own ∷ tanks) [] k tank state at is not = absurd (cc)
watches-minimum from (own ∷ tanks) (s ∷ states) zero tank state at is not =
    let t = same_item Tank own tank at in let u = same_item TankState s state is in
    let n : from ≡ from + 0 = omega arith in
    let w : Watch = record { tank = from; target = own.minimum; rising = false } in
    let e : w ≡ record { tank = from + 0; target = tank.minimum; rising = false } =
    λ i. record { tank = n i; target = (t i).minimum; rising = false } in
    subst (λ v. Contains (tank_watches from (own ∷ tanks) (s ∷ states)) v) e
    (contains-right Watch w (if is_full s then [] else record { tank = from; target = own.maximum; rising = true } ∷ [])
    _
    (contains-left Watch w (if is_empty s then [] else w ∷ []) _
    (contains-unless (is_empty s) w (ap is_empty u ∙ not))))
watches-minimum from (own ∷ tanks) (s ∷ states) (suc k) tank state at is not =
    let e = at-number (suc from + k) (from + suc k) tank.minimum false (omega arith) in
    subst (λ v. Contains (tank_watches from (own ∷ tanks) (s ∷ states)) v) e
    (contains-right Watch _ (if is_full s then [] else record { tank = from; target = own.maximum; rising = true } ∷ [])
    _
    (contains-right Watch _ (if is_empty s then [] else record {
      tank = from;
      target = own.minimum;
      rising =
          false;
    } ∷ []) _
    (watches-minimum (suc from) tanks states k tank state at is not)))

-- ---- watched controls

pub data IsControlWatch (levels : List Interval) (controls : List Control) : Watch → Type 0 where
  level : (each : Control) (k : ℕ) (above : Bool) (ticks : ℤ) → Contains controls each
      → each.when ≡ AtLevel k above ticks → acts_on levels k above ticks ≡ false
      → IsControlWatch levels controls (record { tank = k; target = ticks; rising = above })

later-watch : (levels : List Interval) (c : Control) (controls : List Control) (w : Watch)
    → IsControlWatch levels controls w → IsControlWatch levels (c ∷ controls) w
later-watch levels c controls _ (level each k above ticks contained is not) =
    level each k above ticks (contains-later Control each c controls contained) is not

unless-some : (b : Bool) (v w : Watch) → ◌≡◌ {A = Option Watch} (if b then None else Some v) (Some w)
    → (b ≡ false) × (v ≡ w)
unless-some true v w e = absurd (cc)
unless-some false v w e = (refl, same_item Watch v w e)

watched-at : (levels : List Interval) (c : Control) (controls : List Control) (w : Watch) (v : When) → c.when ≡ v
    → watch_of levels c ≡ Some w → IsControlWatch levels (c ∷ controls) w
watched-at levels c controls w (AtLevel k above ticks) is e =
    let h : ◌≡◌ {A = Option Watch} (if acts_on levels k above ticks then None else Some
    (record { tank = k; target = ticks; rising = above })) (Some w) = rw is at e in
    let u = unless-some (acts_on levels k above ticks) _ w h in
    subst (IsControlWatch levels (c ∷ controls)) u.1 (level c k above ticks (contains-here Control c controls) is u.0)
watched-at levels c controls w (AtTime t) is e = absurd (let h : ◌≡◌ {A = Option Watch} None (Some w) = rw is at e in
    cc)
watched-at levels c controls w (AtClock t) is e = absurd (let h : ◌≡◌ {A = Option Watch} None (Some w) = rw is at e in
    cc)

present-cons : (o : Option Watch) (rest : List (Option Watch)) (w : Watch) → Contains (present (o ∷ rest)) w
    → (o ≡ Some w) ⊎ Contains (present rest) w
present-cons None rest w c = inr c
present-cons (Some v) rest w c = elim (contains-cons Watch w v (present rest) c) [
  | inl e ↦ inl (ap Some e)
  | inr d ↦ inr d
]

pub control-watched : (levels : List Interval) (controls : List Control) (w : Watch)
    → Contains (present (map (watch_of levels) controls)) w → IsControlWatch levels controls w
control-watched levels [] w c = absurd (contains-none Watch w c)
control-watched levels (each ∷ controls) w c =
    elim (present-cons (watch_of levels each) (map (watch_of levels) controls) w c) [
      | inl e ↦ watched-at levels each controls w each.when refl e
      | inr d ↦ later-watch levels each controls w (control-watched levels controls w d)
    ]

present-first : (o : Option Watch) (rest : List (Option Watch)) (w : Watch) → o ≡ Some w
    → Contains (present (o ∷ rest)) w
present-first None rest w e = absurd (cc)
present-first (Some v) rest w e = subst (λ z. Contains (v ∷ present rest) z) (same_item Watch v w e)
    (contains-here Watch v (present rest))

present-later : (o : Option Watch) (rest : List (Option Watch)) (w : Watch) → Contains (present rest) w
    → Contains (present (o ∷ rest)) w
present-later None rest w c = c
present-later (Some v) rest w c = contains-later Watch w v (present rest) c

watch-is : (levels : List Interval) (each : Control) (k : ℕ) (above : Bool) (ticks : ℤ)
    → each.when ≡ AtLevel k above ticks → acts_on levels k above ticks ≡ false
    → watch_of levels each ≡ Some (record { tank = k; target = ticks; rising = above })
watch-is levels each k above ticks is not = rw (is, not) refl

pub watches-control : (levels : List Interval) (controls : List Control) (each : Control) (k : ℕ) (above : Bool) (ticks : ℤ)
    → Contains controls each → each.when ≡ AtLevel k above ticks → acts_on levels k above ticks ≡ false
    → Contains (present (map (watch_of levels) controls)) (record { tank = k; target = ticks; rising = above })
watches-control levels [] each k above ticks contained is not = absurd (contains-none Control each contained)
watches-control levels (c ∷ controls) each k above ticks contained is not =
    elim (contains-cons Control each c controls contained) [
      | inl e ↦ present-first (watch_of levels c) (map (watch_of levels) controls) _ (ap (watch_of levels) e
          ∙ watch-is levels each k above ticks is not)
      | inr d ↦ present-later (watch_of levels c) (map (watch_of levels) controls) _
          (watches-control levels controls each k above ticks d is not)
    ]

-- ---- states and truths

pub not-full : (state : TankState) → ◌≢◌ {A = Option TankState} (Some state) (Some Full) → is_full state ≡ false
not-full Full other = absurd (other refl)
not-full Between other = refl
not-full Empty other = refl

pub not-empty : (state : TankState) → ◌≢◌ {A = Option TankState} (Some state) (Some Empty) → is_empty state ≡ false
not-empty Full other = refl
not-empty Between other = refl
not-empty Empty other = absurd (other refl)

-- ---- a bounded period

module _ (project : Project) (nodes : NodeData) (S : ℕ) (period : Period) (grid : Grid) (standing : Standing)
    (row : Record) (bounded : IsBounded project nodes S period grid standing row) where
  pub state-there : (k : ℕ) (tank : Tank) → slice_get project.tanks.list k ≡ Some tank
      → (state : TankState) × (slice_get period.tanks k ≡ Some state) × (slice_get standing.tanks k ≡ Some state)
  state-there k tank at =
      let inside : k < length period.tanks = (let a = slice_get_within project.tanks.list k tank at in
      let b = bounded.tank_each in omega (arith, a, b)) in
      let found = slice_get-get_or period.tanks k Between inside in (
        slice_index_or period.tanks k Between,
        found,
        ap (λ (ts : List TankState). slice_get ts k) (sym bounded.tanks)
            ∙ found,
      )

  pub from-zero : (k : ℕ) (t : ℤ) (rising : Bool) → ◌≡◌ {A = Watch} (record { tank = 0 + k; target = t; rising = rising })
      (record { tank = k; target = t; rising = rising })
  from-zero k t rising = at-number (0 + k) k t rising (omega arith)

  may-reach-level : (seconds k : ℕ) (tank : Tank) (target : ℤ) (rising : Bool)
      → slice_get project.tanks.list k ≡ Some tank
      → reached_after project S period k tank rising target seconds ≡ true
      → may_reach (walls_of project tank) tank (stocks_of_tank standing k) (inflow_of_tank project grid row k)
      target rising seconds ≡ true
  may-reach-level seconds k tank target rising at reached =
      reached_may S (walls_of project tank) tank (stocks_of_tank standing k) (inflow_of_tank project grid row k)
      target rising seconds (stock_at_start period k) (tank_inflow project k period.assignment.flows)
      bounded.some (bounded.vessels k tank at) (stock_lies project nodes S period grid standing row bounded k)
      (bounded.inflows k tank at) reached

  -- a level that ends the period may be seen to
  pub level_may : (seconds : ℕ) → EndsByLevel project S period seconds → SomeMayReach project grid standing row seconds
  level_may seconds (full k tank at other reached) =
      let s = state-there k tank at in
      record {
        watch = record { tank = k; target = tank.maximum; rising = true };
        is_watched = subst (λ w. Contains (watches project standing) w) (from-zero k tank.maximum true)
            (contains-left Watch _ (tank_watches 0 project.tanks.list standing.tanks) _
            (watches-maximum 0 project.tanks.list standing.tanks k tank s.0 at s.2
            (not-full s.0 (λ e. other (s.1 ∙ e)))));
        tank = tank;
        is_tank = at;
        reached = may-reach-level seconds k tank tank.maximum true at
            (reaches_maximum S (walls_of project tank) tank (stock_at_start period k)
            (tank_inflow project k period.assignment.flows) seconds ∙ reached);
      }
  level_may seconds (empty k tank at other reached) =
      let s = state-there k tank at in
      record {
        watch = record { tank = k; target = tank.minimum; rising = false };
        is_watched = subst (λ w. Contains (watches project standing) w) (from-zero k tank.minimum false)
            (contains-left Watch _ (tank_watches 0 project.tanks.list standing.tanks) _
            (watches-minimum 0 project.tanks.list standing.tanks k tank s.0 at s.2
            (not-empty s.0 (λ e. other (s.1 ∙ e)))));
        tank = tank;
        is_tank = at;
        reached = may-reach-level seconds k tank tank.minimum false at
            (reaches_minimum S (walls_of project tank) tank (stock_at_start period k)
            (tank_inflow project k period.assignment.flows) seconds ∙ reached);
      }
  level_may seconds (at_control each k above ticks tank contained is at before reached) =
      record {
        watch = record { tank = k; target = ticks; rising = above };
        is_watched = contains-right Watch _ (tank_watches 0 project.tanks.list standing.tanks) _
            (watches-control standing.levels project.controls.list each k above ticks contained is
            (not-yes (control_truth (level_of_tank standing k) above ticks)
            (reaches S above ticks (whole (level_at_start period k)))
            (control_tells S (level_of_tank standing k) above ticks (level_at_start period k) bounded.some
            (level_lies project nodes S period grid standing row bounded k)) before));
        tank = tank;
        is_tank = at;
        reached = may-reach-level seconds k tank ticks above at reached;
      }

  must-reach-level : (seconds k : ℕ) (tank : Tank) (target : ℤ) (rising : Bool)
      → slice_get project.tanks.list k ≡ Some tank
      → must_reach (walls_of project tank) tank (stocks_of_tank standing k) (inflow_of_tank project grid row k)
      target rising seconds ≡ true
      → reached_after project S period k tank rising target seconds ≡ true
  must-reach-level seconds k tank target rising at reached =
      must_reached S (walls_of project tank) tank (stocks_of_tank standing k) (inflow_of_tank project grid row k)
      target rising seconds (stock_at_start period k) (tank_inflow project k period.assignment.flows)
      bounded.some (bounded.vessels k tank at) (stock_lies project nodes S period grid standing row bounded k)
      (bounded.inflows k tank at) reached

  pub own-states : (k : ℕ) (state : TankState) → slice_get standing.tanks k ≡ Some state
      → slice_get period.tanks k ≡ Some state
  own-states k state is = ap (λ (ts : List TankState). slice_get ts k) bounded.tanks ∙ is

  tank-must : (seconds : ℕ) (w : Watch) → IsTankWatch 0 project.tanks.list standing.tanks w → (tank : Tank)
      → slice_get project.tanks.list w.tank ≡ Some tank
      → must_reach (walls_of project tank) tank (stocks_of_tank standing w.tank)
      (inflow_of_tank project grid row w.tank) w.target w.rising seconds ≡ true
      → EndsByLevel project S period seconds
  tank-must seconds _ (maximum k own state at is not) tank found reached =
      let n : 0 + k ≡ k = omega arith in
      let here : slice_get project.tanks.list k ≡ Some tank = subst (λ m. slice_get project.tanks.list m ≡ Some tank)
      n found in
      let same : tank ≡ own = same_item Tank tank own (sym here ∙ at) in
      let own-reached : must_reach (walls_of project tank) tank (stocks_of_tank standing k)
      (inflow_of_tank project grid row k) tank.maximum true seconds ≡ true =
      subst (λ (t : Tank). must_reach (walls_of project tank) tank (stocks_of_tank standing k)
      (inflow_of_tank project grid row k) t.maximum true seconds ≡ true) (sym same)
      (subst (λ m. must_reach (walls_of project tank) tank (stocks_of_tank standing m)
      (inflow_of_tank project grid row m) own.maximum true seconds ≡ true) n reached) in
      full k tank here (λ e. isnt-full state not (sym (own-states k state is) ∙ e))
      (sym (reaches_maximum S (walls_of project tank) tank (stock_at_start period k)
      (tank_inflow project k period.assignment.flows) seconds)
      ∙ must-reach-level seconds k tank tank.maximum true here own-reached)
  tank-must seconds _ (minimum k own state at is not) tank found reached =
      let n : 0 + k ≡ k = omega arith in
      let here : slice_get project.tanks.list k ≡ Some tank = subst (λ m. slice_get project.tanks.list m ≡ Some tank)
      n found in
      let same : tank ≡ own = same_item Tank tank own (sym here ∙ at) in
      let own-reached : must_reach (walls_of project tank) tank (stocks_of_tank standing k)
      (inflow_of_tank project grid row k) tank.minimum false seconds ≡ true =
      subst (λ (t : Tank). must_reach (walls_of project tank) tank (stocks_of_tank standing k)
      (inflow_of_tank project grid row k) t.minimum false seconds ≡ true) (sym same)
      (subst (λ m. must_reach (walls_of project tank) tank (stocks_of_tank standing m)
      (inflow_of_tank project grid row m) own.minimum false seconds ≡ true) n reached) in
      empty k tank here (λ e. isnt-empty state not (sym (own-states k state is) ∙ e))
      (sym (reaches_minimum S (walls_of project tank) tank (stock_at_start period k)
      (tank_inflow project k period.assignment.flows) seconds)
      ∙ must-reach-level seconds k tank tank.minimum false here own-reached)

  control-must : (seconds : ℕ) (w : Watch) → IsControlWatch standing.levels project.controls.list w → (tank : Tank)
      → slice_get project.tanks.list w.tank ≡ Some tank
      → must_reach (walls_of project tank) tank (stocks_of_tank standing w.tank)
      (inflow_of_tank project grid row w.tank) w.target w.rising seconds ≡ true
      → EndsByLevel project S period seconds
  control-must seconds _ (level each k above ticks contained is not) tank found reached =
      at_control each k above ticks tank contained is found
      (known-no (control_truth (level_of_tank standing k) above ticks)
      (reaches S above ticks (whole (level_at_start period k)))
      (control_tells S (level_of_tank standing k) above ticks (level_at_start period k) bounded.some
      (level_lies project nodes S period grid standing row bounded k))
      (bounded.controls each k above ticks contained is) not)
      (must-reach-level seconds k tank ticks above found reached)

  -- and one that must be seen to does
  pub must_level : (seconds : ℕ) → SomeMustReach project grid standing row seconds
      → EndsByLevel project S period seconds
  must_level seconds some =
      elim (contains-split Watch some.watch (tank_watches 0 project.tanks.list standing.tanks) _ some.is_watched) [
        | inl c ↦ tank-must seconds some.watch (tank-watched 0 project.tanks.list standing.tanks some.watch c)
            some.tank some.is_tank some.reached
        | inr c ↦ control-must seconds some.watch (control-watched standing.levels project.controls.list some.watch c)
            some.tank some.is_tank some.reached
      ]
