-- At each unfinished standing of a run a valid record leads on, or a cause of a stop holds.
use Rattle.std.proofs.Common.{◌≡◌, ◌≢◌, ℕ, zero, suc, ◌+◌, ◌<◌, ◌≤◌, ℤ, refl, subst, arith, Bool, true, false, List, []}
use Rattle.std.proofs.Common.{◌∷◌, length, map, ◌⊎◌, inl, inr}
use Rattle.std.specs.Prelude.{Option, Some, None, slice_index_or, nat_lt, unsigned_abs, is_none, Contains}
use Rattle.std.proofs.lemmas.Bool.{cases_eq, cases_lt}
use Rattle.std.proofs.lemmas.List.Elements.{All-from_recursion}
use Rattle.std.proofs.lemmas.Option.{slice_get_within, get_or_from_slice_get}
use Rattle.hyd_net.specs.ControlsAndRules.{IsControl, IsMoment}
use Rattle.hyd_net.specs.Sound.{IsSound}
use Rattle.hyd_spec.specs.ProgramTypes.{Project, Junction, Tank, LinkState, Control, When, AtLevel, AtTime, AtClock}
use Rattle.hyd_spec.specs.declared.TankState.{TankState}
use Rattle.hyd_spec.specs.Lists.{map_from}
use Rattle.hyd_spec.specs.NodeNumbers.{tank_count, junction_count}
use Rattle.hyd_spec.specs.DemandsHeadsAndPumpLifts.{demand_of}
use Rattle.hyd_spec.specs.Rules.{acted}
use Rattle.hyd_spec_certificates.specs.declared.Problem.{Problem}
use Rattle.hyd_spec_certificates.specs.declared.Problem.TheVariants.{Main, Pinned}
use Rattle.hyd_spec_certificates.specs.declared.Side.{Side}
use Rattle.hyd_spec_certificates.specs.declared.Side.TheVariants.{Upper, Lower}
use Rattle.hyd_spec_certificates.specs.Interval.{Interval}
use Rattle.hyd_spec_certificates.specs.Stocks.{state_of}
use Rattle.hyd_spec_certificates.specs.ThreeValuedLogic.{is_yes, is_unknown}
use Rattle.hyd_spec_certificates.specs.PeriodNetwork.{Grid, IsJunctionOf}
use Rattle.hyd_spec_certificates.specs.Certificate.{IsCertificate, IsTight}
use Rattle.hyd_spec_certificates.specs.RecordAndStanding.{Record, Standing, Vectors, no_vectors, vector_of}
use Rattle.hyd_spec_certificates.specs.Decided.{links_at, nowhere, control_truth, rule_truths, End, ByRules}
use Rattle.hyd_spec_certificates.specs.Decided.{WithoutRules, RuleIsOpen, EventIsOpen, EndsBy}
use Rattle.hyd_spec_certificates.specs.Valid.{IsProblem, IsGridAt, DemandsAreInRange, demand_limit, AreCertificates}
use Rattle.hyd_spec_certificates.specs.Valid.{LeavesLinks, by_rules, by_clock, levels_next, volumes_next, stocks_next}
use Rattle.hyd_spec_certificates.specs.Valid.{AreStates, ControlsAreDecided, continues, finishes, LeadsOn}
use Rattle.hyd_spec_certificates.specs.declared.StopCause.{StopCause}
use Rattle.hyd_spec_certificates.specs.declared.StopCause.TheVariants.{Demand as DemandOutOfRange, NoCertificate}
use Rattle.hyd_spec_certificates.specs.declared.StopCause.TheVariants.{RuleOpen}
use Rattle.hyd_spec_certificates.specs.declared.StopCause.TheVariants.{EventOpen, TankOpen, ControlOpen}
use Rattle.hyd_spec_certificates.specs.Stops.{IsTightRow, open_states, is_open_control}
use Rattle.hyd_spec_certificates.specs.TurnsOfProblems.{EarlierHaveCertificates, beginning}
use Rattle.hyd_spec_certificates.specs.Stops.{Stops}
use Rattle.hyd_theorems_on_definitions.specs.SoundLawsAndGrids.{IsSteady}
use Rattle.hyd_lemmas.proofs.BooleanTests.{nat-lt-no}
use Rattle.hyd_lemmas.proofs.ListsOptionsAndResults.{as_long}
use Rattle.hyd_theorems_on_definitions.proofs.ComparisonPrinciple.{place_long}
use Rattle.hyd_theorems_on_definitions.proofs.OneLength.{ends_again}
use Rattle.hyd_theorems_on_definitions.proofs.OneStandingAndTightVector.{there}
use Rattle.hyd_theorems_on_raises.proofs.SearchStarts.{start-end}
use Rattle.hyd_theorems_on_raises.proofs.RaisesAndTightVector.{tight-or-none}
use Rattle.hyd_theorems_on_histories.specs.Agreement.{IsKept}
use Rattle.hyd_theorems_on_histories.proofs.WatchedLevels.{contains-here, contains-later}
use Rattle.hyd_theorems_on_nesting.specs.GoingOnOrStopped.{IsReason, LeadsSomewhere, IsStopped}
use Rattle.hyd_theorems_on_nesting.proofs.FirstPassingItem.{IsFound, HasNone, find_or_none, all_contained}
use Rattle.hyd_theorems_on_nesting.proofs.TightVectorsDecide.{steady_at}
use Rattle.hyd_theorems_on_nesting.proofs.GridsExist.{grid_is}
use Rattle.hyd_theorems_on_nesting.proofs.EveryPeriodEnds.{some_end}

-- ---- lists

-- a list of what there is for each number below n, from a number on
record IsBuilt (P : ℕ → Vectors → Type 0) (from n : ℕ) : Type 0 where
  list : List Vectors
  one_each : length list ≡ n
  each : (j : ℕ) → j < n → P (from + j) (slice_index_or list j no_vectors)

build : (P : ℕ → Vectors → Type 0) (from n : ℕ) → ((j : ℕ) → j < n → (v : Vectors) × P (from + j) v) → IsBuilt P from n
build P from zero each = record { list = []; one_each = refl; each = λ j lt. absurd (omega (arith, lt)) }
build P from (suc n) each =
    let e : from + 0 ≡ from = omega arith in
    let first : (v : Vectors) × P from v = subst (λ m. (v : Vectors) × P m v) e (each 0 (omega arith)) in
    let rest = build P (suc from) n (λ j lt. let m : from + suc j ≡ suc from + j = omega arith in
    subst (λ p. (v : Vectors) × P p v) m (each (suc j) (omega (arith, lt)))) in
    record {
      list = first.0 ∷ rest.list;
      one_each = (let o = rest.one_each in omega (arith, o));
      each = at first rest;
    }
  where
    at : (first : (v : Vectors) × P from v) (rest : IsBuilt P (suc from) n) (j : ℕ) → j < suc n
        → P (from + j) (slice_index_or (first.0 ∷ rest.list) j no_vectors)
    at first rest zero lt = let e : from ≡ from + 0 = omega arith in subst (λ m. P m first.0) e first.1
    at first rest (suc j) lt =
        let m : suc from + j ≡ from + suc j = omega arith in
        subst (λ p. P p (slice_index_or rest.list j no_vectors)) m (rest.each j (omega (arith, lt)))

none-is : (X : Type 0) (o : Option X) → is_none o ≡ false → (x : X) × (o ≡ Some x)
none-is X None e = absurd (cc)
none-is X (Some x) e = (x, refl)

-- states of tanks, where none is open
states-of : (f : ℕ → Tank → Option TankState) (from : ℕ) (tanks : List Tank)
    → ((b : Bool) → Contains (map_from (λ k tank. is_none (f k tank)) from tanks) b → b ≡ false)
    → (states : List TankState) × (map_from f from tanks ≡ map Some states)
states-of f from [] closed = ([], refl)
states-of f from (tank ∷ tanks) closed =
    let first =
    none-is TankState (f from tank) (closed (is_none (f from tank)) (contains-here Bool (is_none (f from tank)) _))
    in
    let rest = states-of f (suc from) tanks (λ b c. closed b (contains-later Bool b (is_none (f from tank)) _ c)) in
    (first.0 ∷ rest.0, λ i. first.1 i ∷ rest.1 i)

lt-yes : (a b : ℕ) → nat_lt a b ≡ true → a < b
lt-yes a b e = grind arith

module _ (project : Project) (sound : IsSound project) (standing : Standing) (kept : IsKept project standing)
    (unfinished : standing.finished ≡ false) (rounds : ℕ) where
  abbrev Onward : Type 0
  Onward = LeadsSomewhere project standing ⊎ IsStopped project standing rounds

  stop : (cause : StopCause) → IsReason cause → Stops project standing rounds cause → Onward
  stop cause reason stops = inr (record { cause = cause; reason = reason; stops = stops })

  -- ---- demands

  abbrev demand-beyond : Junction → Bool
  demand-beyond junction = nat_lt demand_limit (unsigned_abs (demand_of project standing.time junction))

  out-of-range : IsFound Junction demand-beyond project.junctions.list → Onward
  out-of-range found = stop (DemandOutOfRange standing.number found.place (demand_of project standing.time found.item))
      tt (record {
        period_is = refl;
        holds = record {
          junction = found.item;
          is_junction = found.is_item;
          is_demand = refl;
          out_of_range = lt-yes demand_limit _ found.passes;
          first = λ k before lt at. nat-lt-no demand_limit _ (found.before k before lt at);
        };
      })

  in-range : HasNone Junction demand-beyond project.junctions.list → DemandsAreInRange project standing.time
  in-range none = All-from_recursion _ project.junctions.list
      (all_contained Junction (λ junction. unsigned_abs (demand_of project standing.time junction) ≤ demand_limit)
      project.junctions.list
      (λ junction c. nat-lt-no demand_limit _ (none.fails junction c)))

  module _ (range : DemandsAreInRange project standing.time) (grid : Grid)
      (is_grid : IsGridAt project standing grid) where
    steady : IsSteady grid
    steady = steady_at project sound standing grid kept is_grid

    -- ---- vectors

    abbrev Tight : Problem → Side → Type 0
    Tight problem side = (u : List ℤ) × IsTight grid problem side u

    abbrev HasNoVector : Problem → Side → Type 0
    HasNoVector problem side = (u : List ℤ) → IsCertificate grid problem side u → ⊥

    tight-or-not : (problem : Problem) (side : Side) → Tight problem side ⊎ HasNoVector problem side
    tight-or-not problem side = tight-or-none None grid steady problem side (beginning side (length grid.junctions))
        (start-end None grid problem side)

    -- where there is no junction the empty vector is a certificate
    some-junction : (problem : Problem) (side : Side) → HasNoVector problem side → 0 < junction_count project
    some-junction problem side none = elim (cases_lt 0 (junction_count project)) [
      | inl some ↦ some
      | inr nowhere-there ↦ absurd (none [] (record {
        one_each = (let e = place_long (IsJunctionOf project standing.time) project.junctions.list grid.junctions
            is_grid.junctions in omega (arith, e, nowhere-there));
        in_box = λ k d lt. absurd (omega (arith, lt));
        passes = λ i junction at.
            let inside = slice_get_within grid.junctions i junction at in
            let e = place_long (IsJunctionOf project standing.time) project.junctions.list grid.junctions
            is_grid.junctions in
            absurd (omega (arith, inside, e, nowhere-there));
      }))
    ]

    no-vector : (problem : Problem) (side : Side) → IsProblem project problem
        → EarlierHaveCertificates project grid problem side → HasNoVector problem side → Onward
    no-vector problem side is earlier none = stop (NoCertificate standing.number problem side 0) tt (record {
      period_is = refl;
      holds = (
        some-junction problem side none,
        record { in_range = range; is_problem = is; grid = grid; is_grid = is_grid; earlier = earlier; none = none },
      );
    })

    abbrev HasVector : Problem → Side → Type 0
    HasVector problem side = (u : List ℤ) × IsCertificate grid problem side u

    from-tight : (problem : Problem) (side : Side) → Tight problem side → HasVector problem side
    from-tight problem side t = (t.0, t.1.is_certificate)

    record BothTight (problem : Problem) : Type 0 where
      upper : Tight problem Upper
      lower : Tight problem Lower

    -- both sides of a problem that all before it have
    module _ (problem : Problem) (is : IsProblem project problem)
        (earlier : EarlierHaveCertificates project grid problem Upper)
        (then : Tight problem Upper → EarlierHaveCertificates project grid problem Lower) where
      both-or-stop : BothTight problem ⊎ Onward
      both-or-stop = elim (tight-or-not problem Upper) [
        | inr none ↦ inr (no-vector problem Upper is earlier none)
        | inl upper ↦ elim (tight-or-not problem Lower) [
          | inr none ↦ inr (no-vector problem Lower is (then upper) none)
          | inl lower ↦ inl (record { upper = upper; lower = lower })
        ]
      ]

    main-or-stop : BothTight Main ⊎ Onward
    main-or-stop = both-or-stop Main tt (λ p s of before. absurd (omega (arith, before))) before-lower
      where
        before-lower : Tight Main Upper → EarlierHaveCertificates project grid Main Lower
        before-lower upper Main Upper of before = from-tight Main Upper upper
        before-lower upper Main Lower of before = absurd (omega (arith, before))
        before-lower upper (Pinned k) Upper of before = absurd (omega (arith, before))
        before-lower upper (Pinned k) Lower of before = absurd (omega (arith, before))

    module _ (main : BothTight Main) where
      abbrev PinnedTight : ℕ → Type 0
      PinnedTight n = (k : ℕ) → k < n → BothTight (Pinned k)

      -- the tanks below n, and what comes before tank n
      before-upper : (n : ℕ) → PinnedTight n → EarlierHaveCertificates project grid (Pinned n) Upper
      before-upper n tight Main Upper of before = from-tight Main Upper main.upper
      before-upper n tight Main Lower of before = from-tight Main Lower main.lower
      before-upper n tight (Pinned k) Upper of before =
          from-tight (Pinned k) Upper (tight k (omega (arith, before))).upper
      before-upper n tight (Pinned k) Lower of before =
          from-tight (Pinned k) Lower (tight k (omega (arith, before))).lower

      before-lower : (n : ℕ) → PinnedTight n → Tight (Pinned n) Upper
          → EarlierHaveCertificates project grid (Pinned n) Lower
      before-lower n tight upper Main Upper of before = from-tight Main Upper main.upper
      before-lower n tight upper Main Lower of before = from-tight Main Lower main.lower
      before-lower n tight upper (Pinned k) Upper of before = elim (cases_lt k n) [
        | inl less ↦ from-tight (Pinned k) Upper (tight k less).upper
        | inr more ↦ let e : n ≡ k = omega (arith, before, more) in
            subst (λ m. HasVector (Pinned m) Upper) e (from-tight (Pinned n) Upper upper)
      ]
      before-lower n tight upper (Pinned k) Lower of before =
          from-tight (Pinned k) Lower (tight k (omega (arith, before))).lower

      pinned-or-stop : (n : ℕ) → n ≤ tank_count project → PinnedTight n ⊎ Onward
      pinned-or-stop zero le = inl (λ k lt. absurd (omega (arith, lt)))
      pinned-or-stop (suc n) le = elim (pinned-or-stop n (omega (arith, le))) [
        | inr onward ↦ inr onward
        | inl tight ↦ elim (both-or-stop (Pinned n) (omega (arith, le)) (before-upper n tight) (before-lower n tight)) [
          | inr onward ↦ inr onward
          | inl both ↦ inl (one-more n tight both)
        ]
      ]
        where
          one-more : (n : ℕ) → PinnedTight n → BothTight (Pinned n) → PinnedTight (suc n)
          one-more n tight both k lt = elim (cases_lt k n) [
            | inl less ↦ tight k less
            | inr more ↦ let e : n ≡ k = omega (arith, lt, more) in subst (λ m. BothTight (Pinned m)) e both
          ]

      -- ---- the tight record

      record AreTight (k : ℕ) (vectors : Vectors) : Type 0 where
        upper : IsTight grid (Pinned k) Upper vectors.upper
        lower : IsTight grid (Pinned k) Lower vectors.lower

      module _ (pinned : PinnedTight (tank_count project)) where
        built : IsBuilt AreTight 0 (tank_count project)
        built = build AreTight 0 (tank_count project) (λ j lt.
            let both = pinned j lt in (
              record { upper = both.upper.0; lower = both.lower.0 },
              let n : j ≡ 0 + j = omega arith in
                  subst (λ m. AreTight m (record { upper = both.upper.0; lower = both.lower.0 })) n
                  (record { upper = both.upper.1; lower = both.lower.1 }),
            ))

        -- with a length
        abbrev tight-row : ℕ → Record
        tight-row seconds = record {
          number = standing.number;
          time = standing.time;
          length = seconds;
          main = record { upper = main.upper.0; lower = main.lower.0 };
          pinned = built.list;
        }

        each-tight : (seconds : ℕ) (problem : Problem) (side : Side) → IsProblem project problem
            → IsTight grid problem side (vector_of (tight-row seconds) problem side)
        each-tight seconds Main Upper is = main.upper.1
        each-tight seconds Main Lower is = main.lower.1
        each-tight seconds (Pinned k) Upper is = let n : 0 + k ≡ k = omega arith in
            (subst (λ m. AreTight m (slice_index_or built.list k no_vectors)) n (built.each k is)).upper
        each-tight seconds (Pinned k) Lower is = let n : 0 + k ≡ k = omega arith in
            (subst (λ m. AreTight m (slice_index_or built.list k no_vectors)) n (built.each k is)).lower

        is-tight-row : (seconds : ℕ) → IsTightRow project standing grid (tight-row seconds)
        is-tight-row seconds = record {
          in_range = range;
          is_grid = is_grid;
          one_each = built.one_each;
          each =
              each-tight seconds;
        }

        certified : (seconds : ℕ) → AreCertificates project grid (tight-row seconds)
        certified seconds = record {
          pinned_each = built.one_each;
          each =
              λ problem side is. (each-tight seconds problem side is).is_certificate;
        }

        leads : (seconds : ℕ) (next : Standing) → LeadsOn project grid standing (tight-row seconds) next → Onward
        leads seconds next leads_on = inl (record {
          grid = grid;
          row = tight-row seconds;
          next = next;
          valid = record {
            unfinished = unfinished;
            number = refl;
            time = refl;
            demands = range;
            is_grid = is_grid;
            certificates = certified seconds;
            leads_on = leads_on;
          };
        })

        -- ---- the end of the run

        at-last : standing.time ≡ project.times.duration → Onward
        at-last is = leads 0 (record standing { number = suc standing.number; finished = true })
            (finishes (record { is_last = is; no_length = refl; next_is = refl }))

        -- ---- the end of the period

        module _ (seconds : ℕ) (links : List LinkState)
            (leaves : LeavesLinks project grid standing (tight-row seconds) seconds links)
            (not_last : standing.time ≢ project.times.duration) where
          abbrev levels : List Interval
          levels = levels_next project grid standing (tight-row seconds) seconds

          levels-long : length levels ≡ tank_count project
          levels-long =
              as_long {X = Tank} {Y = Interval}
              (λ k tank. (stocks_next project grid standing (tight-row seconds) seconds k tank).level)
              0 project.tanks.list

          abbrev Opens : ℕ → Tank → Bool
          Opens k tank = is_none (state_of tank (slice_index_or levels k nowhere))

          open-tank : IsFound Bool (λ is_open. is_open) (open_states project levels) → Onward
          open-tank found =
              let inside = slice_get_within (open_states project levels) found.place found.item found.is_item in
              let long : length (open_states project levels) ≡ tank_count project =
              as_long {X = Tank} {Y = Bool} Opens 0 project.tanks.list in
              let level = there Interval levels found.place (let l = levels-long in omega (arith, inside, long, l)) in
              stop (TankOpen standing.number found.place level.item.lo level.item.hi) tt (record {
                period_is = refl;
                holds = record {
                  levels = levels;
                  at_levels = record {
                    grid = grid;
                    row = tight-row seconds;
                    tight = is-tight-row seconds;
                    seconds =
                        seconds;
                    links = links;
                    ends = leaves;
                    levels_are = refl;
                  };
                  first = found.is_place;
                  level_is = level.is_item;
                };
              })

          level-control : (control : Control) → is_open_control levels control ≡ true → (w : When) → control.when ≡ w
              → (tank : ℕ) × (above : Bool) × (ticks : ℤ) × (control.when ≡ AtLevel tank above ticks)
          level-control control e (AtLevel tank above ticks) is = (tank, above, ticks, is)
          level-control control e (AtTime t) is = absurd (let h : false ≡ true = rw is at e in cc)
          level-control control e (AtClock t) is = absurd (let h : false ≡ true = rw is at e in cc)

          open-control : HasNone Bool (λ is_open. is_open) (open_states project levels)
              → IsFound Control (is_open_control levels) project.controls.list → Onward
          open-control none found =
              let (tank, above, ticks, is) = level-control found.item found.passes found.item.when refl in
              let number = found.place in
              let inside = slice_get_within project.controls.list number found.item found.is_item in
              let command : IsControl project found.item =
              subst (IsControl project)
              (get_or_from_slice_get project.controls.list number found.item found.item found.is_item)
              (sound.controls number found.item inside) in
              let moment : IsMoment project (AtLevel tank above ticks) = subst (IsMoment project) is command.moment in
              let within = moment.0 in
              let level = there Interval levels tank (let l = levels-long in omega (arith, within, l)) in
              stop (ControlOpen standing.number number level.item.lo level.item.hi) tt (record {
                period_is = refl;
                holds = record {
                  levels = levels;
                  at_levels = record {
                    grid = grid;
                    row = tight-row seconds;
                    tight = is-tight-row seconds;
                    seconds =
                        seconds;
                    links = links;
                    ends = leaves;
                    levels_are = refl;
                  };
                  tanks_decided = none.is_none;
                  first = found.is_place;
                  tank = tank;
                  above = above;
                  ticks = ticks;
                  control = found.item;
                  is_control = found.is_item;
                  is_level = is;
                  level_is = level.is_item;
                };
              })

          controls-decided : HasNone Control (is_open_control levels) project.controls.list
              → ControlsAreDecided project levels
          controls-decided none control tank above ticks contained is =
              let closed = none.fails control contained in
              let same : is_unknown (control_truth (slice_index_or levels tank nowhere) above ticks) ≡ false =
              rw is at closed in same

          go-on : (states : List TankState) → AreStates project levels states → ControlsAreDecided project levels
              → Onward
          go-on states are decided = leads seconds (record {
            number = suc standing.number;
            time = standing.time + seconds;
            levels = levels;
            volumes = volumes_next project grid standing (tight-row seconds) seconds;
            tanks = states;
            commanded = links;
            finished = false;
          }) (continues (record {
            not_last = not_last;
            leaves_links = leaves;
            levels = refl;
            volumes = refl;
            tanks = are;
            controls = decided;
            number = refl;
            time = refl;
            unfinished = refl;
          }))

          matters : Onward
          matters = elim (find_or_none Bool (λ is_open. is_open) (open_states project levels)) [
            | inl found ↦ open-tank found
            | inr none ↦ elim (find_or_none Control (is_open_control levels) project.controls.list) [
              | inl found ↦ open-control none found
              | inr closed ↦
                  let states = states-of (λ k tank. state_of tank (slice_index_or levels k nowhere))
                  0 project.tanks.list none.fails in
                  go-on states.0 states.1 (controls-decided closed)
            ]
          ]

        by-end : (e : End) → EndsBy project grid standing (tight-row 0) e → standing.time ≢ project.times.duration
            → Onward
        by-end (ByRules seconds) ends other =
            matters seconds (acted project (map is_yes (rule_truths project grid standing (tight-row seconds) seconds))
            (links_at project standing))
            (by_rules (ends_again project grid standing (tight-row 0) seconds (ByRules seconds) ends)) other
        by-end (WithoutRules seconds) ends other =
            matters seconds (links_at project standing)
            (by_clock (ends_again project grid standing (tight-row 0) seconds (WithoutRules seconds) ends)) other
        by-end (RuleIsOpen o) ends other = stop (RuleOpen standing.number o.rule o.clause o.lo o.hi) tt (record {
          period_is = refl;
          holds = record { grid = grid; row = tight-row 0; tight = is-tight-row 0; is_open = ends };
        })
        by-end (EventIsOpen earliest latest) ends other = stop (EventOpen standing.number earliest latest) tt (record {
          period_is = refl;
          holds = record { grid = grid; row = tight-row 0; tight = is-tight-row 0; is_open = ends };
        })

        tight-leads : Onward
        tight-leads = elim (cases_eq standing.time project.times.duration) [
          | inl last ↦ at-last last
          | inr other ↦ let e = some_end project grid standing (tight-row 0) sound.times.hydraulic other in
              by-end e.0 e.1 other
        ]

      tanks-lead : Onward
      tanks-lead = elim (pinned-or-stop (tank_count project) (omega arith)) [
        | inr onward ↦ onward
        | inl pinned ↦ tight-leads pinned
      ]

    grid-leads : Onward
    grid-leads = elim main-or-stop [
      | inr onward ↦ onward
      | inl main ↦ tanks-lead main
    ]

  -- a valid record leads on, or a stop holds
  pub goes_on : LeadsSomewhere project standing ⊎ IsStopped project standing rounds
  goes_on = elim (find_or_none Junction demand-beyond project.junctions.list) [
    | inl found ↦ out-of-range found
    | inr none ↦
        let range = in-range none in
        let grid = grid_is project sound standing range in
        grid-leads range grid.0 grid.1
  ]
