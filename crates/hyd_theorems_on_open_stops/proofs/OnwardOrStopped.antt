-- At each unfinished standing of a run whose ends may be open a valid record leads on, or a cause of a stop holds, and
-- not both.
use Rattle.std.proofs.Common.{◌≡◌, ◌≢◌, ℕ, suc, ◌+◌, ◌<◌, ◌≤◌, ℤ, refl, sym, ap, subst, ◌∙◌, arith, Bool, true, false}
use Rattle.std.proofs.Common.{List, [], ◌∷◌, length, map, ◌⊎◌, inl, inr}
use Rattle.std.specs.Prelude.{Option, Some, None, slice_index_or, unsigned_abs, is_none, Contains}
use Rattle.std.proofs.lemmas.Bool.{cases_eq, cases_lt}
use Rattle.std.proofs.lemmas.Option.{slice_get_within, get_or_from_slice_get}
use Rattle.hyd_net.specs.ControlsAndRules.{IsControl, IsMoment}
use Rattle.hyd_net.specs.Sound.{IsSound}
use Rattle.hyd_spec.specs.ProgramTypes.{Project, Junction, Tank, Control, When, AtLevel, AtTime, AtClock}
use Rattle.hyd_spec.specs.declared.TankState.{TankState}
use Rattle.hyd_spec.specs.Lists.{map_from}
use Rattle.hyd_spec.specs.NodeNumbers.{tank_count}
use Rattle.hyd_spec.specs.DemandsHeadsAndPumpLifts.{demand_of}
use Rattle.hyd_spec_certificates.specs.declared.Problem.{Problem}
use Rattle.hyd_spec_certificates.specs.declared.Problem.TheVariants.{Main, Pinned}
use Rattle.hyd_spec_certificates.specs.declared.Side.{Side}
use Rattle.hyd_spec_certificates.specs.declared.Side.TheVariants.{Upper, Lower}
use Rattle.hyd_spec_certificates.specs.Interval.{Interval}
use Rattle.hyd_spec_certificates.specs.Stocks.{state_of}
use Rattle.hyd_spec_certificates.specs.ThreeValuedLogic.{is_unknown}
use Rattle.hyd_spec_certificates.specs.PeriodNetwork.{Grid}
use Rattle.hyd_spec_certificates.specs.Certificate.{IsCertificate, IsTight}
use Rattle.hyd_spec_certificates.specs.RecordAndStanding.{Record, vector_of}
use Rattle.hyd_spec_certificates.specs.Decided.{Watch, nowhere, control_truth, End, RuleIsOpen, EventIsOpen}
use Rattle.hyd_spec_certificates.specs.Valid.{IsProblem, IsGridAt, demand_limit, AreCertificates}
use Rattle.hyd_spec_certificates.specs.Valid.{AreStates, ControlsAreDecided}
use Rattle.hyd_spec_certificates.specs.declared.StopCause.{StopCause}
use Rattle.hyd_spec_certificates.specs.declared.StopCause.TheVariants.{Demand as DemandOutOfRange, NoCertificate}
use Rattle.hyd_spec_certificates.specs.declared.StopCause.TheVariants.{RoundsSpent, RuleOpen, EventOpen, TankOpen}
use Rattle.hyd_spec_certificates.specs.declared.StopCause.TheVariants.{ControlOpen}
use Rattle.hyd_spec_certificates.specs.Stops.{IsTightRow, IsFirstDemand, HasNoCertificate, open_states, is_open_control}
use Rattle.hyd_spec_open_ends.specs.OpenStandings.{OpenStanding, OpenRecord}
use Rattle.hyd_spec_open_ends.specs.OpenEnds.{Way, EndsIn, first_end, late_at_end, shortest_length, longest_length}
use Rattle.hyd_spec_open_ends.specs.OpenEnds.{IsFirstOpen, rule_is_open, rule_parts, too_wide, rule_is_open_between}
use Rattle.hyd_spec_open_ends.specs.OpenEnds.{rule_acts_between, last_end, by_rules as in_by_rules}
use Rattle.hyd_spec_open_ends.specs.OpenEnds.{by_instant as in_by_instant, by_watched as in_by_watched}
use Rattle.hyd_spec_open_ends.specs.Arrivals.{Arrives}
use Rattle.hyd_spec_open_ends.specs.OpenRecords.{IsValidOpenly, ContinuesOpenly, FinishesOpenly, LeadsOnOpenly}
use Rattle.hyd_spec_open_ends.specs.OpenRecords.{continues, finishes, levels_left, volumes_left, links_left, level_left}
use Rattle.hyd_spec_open_ends.specs.OpenStops.{LeavesEndOpen, EndsAtOpenLevels, LeavesTankStateOpen}
use Rattle.hyd_spec_open_ends.specs.OpenStops.{LeavesLevelControlOpen}
use Rattle.hyd_spec_open_ends.specs.PromisesOfOpenRuns.{StopsOpenly}
use Rattle.hyd_lemmas.proofs.ListsOptionsAndResults.{as_long}
use Rattle.hyd_theorems_on_definitions.proofs.OneGrid.{one_grid}
use Rattle.hyd_theorems_on_definitions.proofs.OneRefusal.{states-decided, controls-decided}
use Rattle.hyd_theorems_on_definitions.proofs.OneStandingAndTightVector.{there}
use Rattle.hyd_theorems_on_definitions.proofs.SoundTankLemmas.{vessels}
use Rattle.hyd_theorems_on_histories.proofs.WatchedLevels.{contains-here, contains-later}
use Rattle.hyd_theorems_on_nesting.specs.Nesting.{AreNested}
use Rattle.hyd_theorems_on_nesting.specs.GoingOnOrStopped.{IsReason}
use Rattle.hyd_theorems_on_nesting.proofs.FirstPassingItem.{IsFound, HasNone, find_or_none}
use Rattle.hyd_theorems_on_nesting.proofs.TightVectorsDecide.{steady_at}
use Rattle.hyd_theorems_on_open_ends.specs.WaysInside.{HasFate, Ends, IsOpen, IsWayInside}
use Rattle.hyd_theorems_on_open_ends.proofs.OneOpenEnd.{one_way}
use Rattle.hyd_theorems_on_open_ends.proofs.NestedWays.{narrower}
use Rattle.hyd_theorems_on_open_ends.proofs.StopsAtTightVectors.{every_fate, inner_way, no_way_where_open}
use Rattle.hyd_theorems_on_open_standings.specs.FirmStandings.{IsFirm}
use Rattle.hyd_theorems_on_open_standings.proofs.StandingsAreFirm.{self_nested}
use Rattle.hyd_theorems_on_open_stops.specs.OnwardOpenly.{LeadsSomewhereOpenly, IsStoppedOpenly, LeadsOnWith}
use Rattle.hyd_theorems_on_open_stops.proofs.ArrivalsDecided.{arrival_is}
use Rattle.hyd_theorems_on_open_stops.proofs.LengthsOfRecords.{ends_too}
use Rattle.hyd_theorems_on_open_stops.proofs.NestedEnds.{inner_states, inner_controls}
use Rattle.hyd_theorems_on_open_stops.proofs.TightRows.{tight_or_stopped}

none-is : (X : Type 0) (o : Option X) → is_none o ≡ false → (x : X) × (o ≡ Some x)
none-is X None e = absurd (cc)
none-is X (Some x) e = (x, refl)

-- states of tanks, where none is open
states-of : (f : ℕ → Tank → Option TankState) (from : ℕ) (tanks : List Tank)
    → ((b : Bool) → Contains (map_from (λ k tank. is_none (f k tank)) from tanks) b → b ≡ false)
    → (states : List TankState) × (map_from f from tanks ≡ map Some states)
states-of f from [] closed = ([], refl)
states-of f from (tank ∷ tanks) closed =
    let first =
    none-is TankState (f from tank) (closed (is_none (f from tank)) (contains-here Bool (is_none (f from tank)) _))
    in
    let rest = states-of f (suc from) tanks (λ b c. closed b (contains-later Bool b (is_none (f from tank)) _ c)) in
    (first.0 ∷ rest.0, λ i. first.1 i ∷ rest.1 i)

strict : (m n : ℕ) → m ≤ n → m ≢ n → m < n
strict m n le other = elim (cases_lt m n) [
  | inl less ↦ less
  | inr ge ↦ absurd (other (omega (arith, le, ge)))
]

module _ (project : Project) (sound : IsSound project) (standing : OpenStanding) (firm : IsFirm project standing)
    (slack rounds : ℕ) where
  abbrev Onward : Type 0
  Onward = LeadsSomewhereOpenly project standing slack ⊎ IsStoppedOpenly project standing slack rounds

  stop : (cause : StopCause) → IsReason cause → StopsOpenly project standing slack rounds cause → Onward
  stop cause reason stops = inr (record { cause = cause; reason = reason; stops = stops })

  -- ---- under tight vectors

  module _ (unfinished : standing.known.finished ≡ false) (grid : Grid) (given : Record)
      (tightest : IsTightRow project standing.known grid given) where
    -- the record of these vectors, with a length
    abbrev tight-row : ℕ → Record
    tight-row n = record given { number = standing.known.number; time = standing.known.time; length = n }

    each-tight : (n : ℕ) (problem : Problem) (side : Side) → IsProblem project problem
        → IsTight grid problem side (vector_of (tight-row n) problem side)
    each-tight n Main side is = tightest.each Main side is
    each-tight n (Pinned k) side is = tightest.each (Pinned k) side is

    is-tight-row : (n : ℕ) → IsTightRow project standing.known grid (tight-row n)
    is-tight-row n = record {
      in_range = tightest.in_range;
      is_grid = tightest.is_grid;
      one_each = tightest.one_each;
      each = each-tight n;
    }

    certified : (n : ℕ) → AreCertificates project grid (tight-row n)
    certified n = record {
      pinned_each = tightest.one_each;
      each = λ problem side is. (each-tight n problem side is).is_certificate;
    }

    nested : (n : ℕ) → AreNested project standing.known grid (tight-row n) (tight-row n)
    nested n = self_nested project sound standing grid (tight-row n) firm tightest.is_grid (certified n)

    leads : (n shortest : ℕ) (next : OpenStanding) → next.late ≤ slack
        → LeadsOnOpenly project grid standing
        (record { row = tight-row n; late = standing.late; shortest = shortest }) next → Onward
    leads n shortest next within leads_on = inl (record {
      grid = grid;
      found = record { row = tight-row n; late = standing.late; shortest = shortest };
      next = next;
      valid = record {
        unfinished = unfinished;
        number = refl;
        time = refl;
        late = refl;
        demands = tightest.in_range;
        is_grid = tightest.is_grid;
        certificates = certified n;
        leads_on = leads_on;
      };
      within = within;
    })

    -- ---- the end of the run

    at-last : standing.known.time ≡ project.times.duration → Onward
    at-last is = leads 0 0
        (record { known = record standing.known { number = suc standing.known.number; finished = true }; late = 0 })
        (omega arith)
        (finishes (record {
          is_last = is;
          no_shortest = refl;
          no_length = refl;
          next_known = refl;
          next_late = refl;
        }))

    -- ---- an open end

    open-end : (end : End) → IsFirstOpen project grid standing (tight-row 0) slack end
        → LeavesEndOpen project standing slack end
    open-end end is = record { grid = grid; row = tight-row 0; tight = is-tight-row 0; is_open = is }

    at-open : (end : End) → IsFirstOpen project grid standing (tight-row 0) slack end → Onward
    at-open _ (rule_is_open {open_rule = o} x first le is) =
        stop (RuleOpen standing.known.number o.rule o.clause o.lo o.hi) tt (record {
          period_is = refl;
          holds = open-end (RuleIsOpen o) (rule_is_open x first le is);
        })
    at-open _ (rule_parts {cap = cap} {latest = latest} {seconds = i} x first le parts closed) =
        stop (EventOpen standing.known.number i (last_end standing.late latest cap)) tt (record {
          period_is = refl;
          holds = open-end (EventIsOpen i (last_end standing.late latest cap)) (rule_parts x first le parts closed);
        })
    at-open _ (too_wide {cap = cap} {earliest = earliest} {latest = latest} x none sooner wide) =
        stop (EventOpen standing.known.number earliest (last_end standing.late latest cap)) tt (record {
          period_is = refl;
          holds = open-end (EventIsOpen earliest (last_end standing.late latest cap)) (too_wide x none sooner wide);
        })
    at-open _ (rule_is_open_between {open_rule = o} x before narrow first later by is) =
        stop (RuleOpen standing.known.number o.rule o.clause o.lo o.hi) tt (record {
          period_is = refl;
          holds = open-end (RuleIsOpen o) (rule_is_open_between x before narrow first later by is);
        })
    at-open _ (rule_acts_between {cap = cap} {earliest = earliest} {latest = latest} x before narrow first later by
        closed) =
        stop (EventOpen standing.known.number earliest (last_end standing.late latest cap)) tt (record {
          period_is = refl;
          holds = open-end (EventIsOpen earliest (last_end standing.late latest cap))
              (rule_acts_between x before narrow first later by closed);
        })

    -- ---- a way

    module _ (way : Way) (ends-first : EndsIn project grid standing (tight-row 0) way)
        (within : late_at_end standing.late way ≤ slack) (not_last : standing.known.time ≢ project.times.duration)
      where
        abbrev found : OpenRecord
        found = record {
          row = tight-row (longest_length way);
          late = standing.late;
          shortest = shortest_length standing.late way;
        }

        ends : EndsIn project grid standing found.row way
        ends = ends_too project grid standing (tight-row 0) 0 (longest_length way) way ends-first

        arrival : (reached : Option Watch) × Arrives project grid standing.known found.row way reached
        arrival = arrival_is project grid standing.known found.row way

        abbrev levels : List Interval
        levels = levels_left project grid standing.known found arrival.0

        at-levels : EndsAtOpenLevels project standing slack levels
        at-levels = record {
          grid = grid;
          found = found;
          tight = is-tight-row (longest_length way);
          way = way;
          ends = ends;
          within = within;
          shortest = refl;
          longest = refl;
          reached = arrival.0;
          arrives = arrival.1;
          levels_are = refl;
        }

        levels-long : length levels ≡ tank_count project
        levels-long = as_long {X = Tank} {Y = Interval}
            (level_left project grid standing.known found arrival.0) 0 project.tanks.list

        abbrev Opens : ℕ → Tank → Bool
        Opens k tank = is_none (state_of tank (slice_index_or levels k nowhere))

        open-tank : IsFound Bool (λ is_open. is_open) (open_states project levels) → Onward
        open-tank passing =
            let inside = slice_get_within (open_states project levels) passing.place passing.item passing.is_item in
            let long : length (open_states project levels) ≡ tank_count project =
            as_long {X = Tank} {Y = Bool} Opens 0 project.tanks.list in
            let level = there Interval levels passing.place (let l = levels-long in omega (arith, inside, long, l)) in
            stop (TankOpen standing.known.number passing.place level.item.lo level.item.hi) tt (record {
              period_is = refl;
              holds = record {
                levels = levels;
                at_levels = at-levels;
                first = passing.is_place;
                level_is = level.is_item;
              };
            })

        level-control : (control : Control) → is_open_control levels control ≡ true → (w : When) → control.when ≡ w
            → (tank : ℕ) × (above : Bool) × (ticks : ℤ) × (control.when ≡ AtLevel tank above ticks)
        level-control control e (AtLevel tank above ticks) is = (tank, above, ticks, is)
        level-control control e (AtTime t) is = absurd (let h : false ≡ true = rw is at e in cc)
        level-control control e (AtClock t) is = absurd (let h : false ≡ true = rw is at e in cc)

        open-control : HasNone Bool (λ is_open. is_open) (open_states project levels)
            → IsFound Control (is_open_control levels) project.controls.list → Onward
        open-control none passing =
            let (tank, above, ticks, is) = level-control passing.item passing.passes passing.item.when refl in
            let number = passing.place in
            let inside = slice_get_within project.controls.list number passing.item passing.is_item in
            let command : IsControl project passing.item =
            subst (IsControl project)
            (get_or_from_slice_get project.controls.list number passing.item passing.item passing.is_item)
            (sound.controls number passing.item inside) in
            let moment : IsMoment project (AtLevel tank above ticks) = subst (IsMoment project) is command.moment in
            let in-list = moment.0 in
            let level = there Interval levels tank (let l = levels-long in omega (arith, in-list, l)) in
            stop (ControlOpen standing.known.number number level.item.lo level.item.hi) tt (record {
              period_is = refl;
              holds = record {
                levels = levels;
                at_levels = at-levels;
                tanks_decided = none.is_none;
                first = passing.is_place;
                tank = tank;
                above = above;
                ticks = ticks;
                control = passing.item;
                is_control = passing.is_item;
                is_level = is;
                level_is = level.is_item;
              };
            })

        controls-known : HasNone Control (is_open_control levels) project.controls.list
            → ControlsAreDecided project levels
        controls-known none control tank above ticks contained is =
            let closed = none.fails control contained in
            let same : is_unknown (control_truth (slice_index_or levels tank nowhere) above ticks) ≡ false =
            rw is at closed in same

        go-on : (states : List TankState) → AreStates project levels states → ControlsAreDecided project levels
            → Onward
        go-on states are decided = leads (longest_length way) (shortest_length standing.late way) (record {
          known = record {
            number = suc standing.known.number;
            time = standing.known.time + first_end way;
            levels = levels;
            volumes = volumes_left project grid standing.known found arrival.0;
            tanks = states;
            commanded = links_left project grid standing found.row way;
            finished = false;
          };
          late = late_at_end standing.late way;
        }) within (continues (record {
          not_last = not_last;
          way = way;
          ends = ends;
          reached = arrival.0;
          arrives = arrival.1;
          shortest = refl;
          longest = refl;
          levels = refl;
          volumes = refl;
          tanks = are;
          controls = decided;
          commanded = refl;
          number = refl;
          time = refl;
          late = refl;
          unfinished = refl;
        }))

        matters : Onward
        matters = elim (find_or_none Bool (λ is_open. is_open) (open_states project levels)) [
          | inl passing ↦ open-tank passing
          | inr none ↦ elim (find_or_none Control (is_open_control levels) project.controls.list) [
            | inl passing ↦ open-control none passing
            | inr closed ↦
                let states = states-of (λ k tank. state_of tank (slice_index_or levels k nowhere))
                0 project.tanks.list none.fails in
                go-on states.0 states.1 (controls-known closed)
          ]
        ]

    by-fate : standing.known.time ≢ project.times.duration → HasFate project grid standing (tight-row 0) slack → Onward
    by-fate other (Ends way ends within) = matters way ends within other
    by-fate other (IsOpen end is) = at-open end is

    tight-leads : Onward
    tight-leads = elim (cases_eq standing.known.time project.times.duration) [
      | inl last ↦ at-last last
      | inr other ↦ by-fate other (every_fate project grid standing (tight-row 0) (nested 0)
          (strict standing.known.time project.times.duration firm.tidy.in_time other) slack)
    ]

  -- a valid record leads on, or a stop holds
  pub goes_on_or_stops : standing.known.finished ≡ false → Onward
  goes_on_or_stops unfinished =
      elim (tight_or_stopped project sound standing firm.kept unfinished slack rounds) [
        | inr stopped ↦ inr stopped
        | inl tight ↦ tight-leads unfinished tight.grid tight.row tight.tight
      ]

  -- ---- not both

  module _ (grid : Grid) (outer : OpenRecord) (next : OpenStanding)
      (valid : IsValidOpenly project standing grid outer next) (narrow : next.late ≤ slack) where
    same-grid : (b : Grid) → IsGridAt project standing.known b → b ≡ grid
    same-grid b is = one_grid project standing.known b grid is valid.is_grid

    tight-here : (b : Grid) (row : Record) → IsTightRow project standing.known b row
        → IsTightRow project standing.known grid row
    tight-here b row is = subst (λ g. IsTightRow project standing.known g row) (same-grid b is.is_grid) is

    nested-with : (row : Record) → IsTightRow project standing.known grid row
        → AreNested project standing.known grid outer.row row
    nested-with row is = record {
      is_grid = valid.is_grid;
      steady = steady_at project sound standing.known grid firm.kept valid.is_grid;
      levels_each = firm.tidy.levels_each;
      ordered = firm.tidy.ordered;
      outer_certificates = valid.certificates;
      inner_certificates = record {
        pinned_each = is.one_each;
        each = λ problem side of. (is.each problem side of).is_certificate;
      };
      about = record {
        upper = λ problem of. (is.each problem Upper of).nearest (vector_of outer.row problem Upper)
            (valid.certificates.each problem Upper of);
        lower = λ problem of. (is.each problem Lower of).nearest (vector_of outer.row problem Lower)
            (valid.certificates.each problem Lower of);
      };
      vessels = vessels project sound;
    }

    before-end : ContinuesOpenly project grid standing outer next → standing.known.time < project.times.duration
    before-end c = strict standing.known.time project.times.duration firm.tidy.in_time c.not_last

    -- no end is open
    end-open : (end : End) → LeavesEndOpen project standing slack end
        → LeadsOnOpenly project grid standing outer next → ⊥
    end-open end is (continues c) =
        no_way_where_open project sound standing firm.kept firm.tidy grid outer.row valid.is_grid valid.certificates
        (before-end c) slack end is c.way c.ends (let l = c.late in omega (arith, l, narrow))
    end-open end is (finishes f) = not-at-last end is.is_open
      where
        not-at-last : (e : End) → IsFirstOpen project is.grid standing is.row slack e → ⊥
        not-at-last _ (rule_is_open x first le opens) = x.not_last f.is_last
        not-at-last _ (rule_parts x first le parts closed) = x.not_last f.is_last
        not-at-last _ (too_wide x none sooner wide) = x.not_last f.is_last
        not-at-last _ (rule_is_open_between x before wide first later by opens) = x.not_last f.is_last
        not-at-last _ (rule_acts_between x before wide first later by closed) = x.not_last f.is_last

    -- the levels at which a matter is left open are those at which the tight vectors decide all
    record AllDecided (levels : List Interval) : Type 0 where
      states : AreStates project levels next.known.tanks
      controls : ControlsAreDecided project levels

    decided-at : (inner : OpenRecord) → IsTightRow project standing.known grid inner.row
        → (c : ContinuesOpenly project grid standing outer next) → (way : Way)
        → EndsIn project grid standing inner.row way → inner.shortest ≡ shortest_length standing.late way
        → inner.row.length ≡ longest_length way → (reached : Option Watch)
        → Arrives project grid standing.known inner.row way reached
        → AllDecided (levels_left project grid standing.known inner reached)
    decided-at inner tight c way ends short long reached arrives =
        let nested-rows = nested-with inner.row tight in
        let inside = inner_way project sound standing grid outer.row inner.row nested-rows (before-end c) c.way c.ends
        in
        let same = one_way project grid standing inner.row inside.0 way inside.1.0 ends in
        let lies = subst (λ w. IsWayInside w c.way) same inside.1.1 in
        record {
          states = inner_states project sound standing grid outer inner nested-rows c.way c.reached c.arrives
              c.shortest c.longest way ends reached arrives short long lies next.known.tanks
              (subst (λ ls. AreStates project ls next.known.tanks) c.levels c.tanks);
          controls = inner_controls project sound standing grid outer inner nested-rows c.way c.reached c.arrives
              c.shortest c.longest way ends reached arrives short long lies
              (subst (ControlsAreDecided project) c.levels c.controls);
        }

    all-decided : (levels : List Interval) → EndsAtOpenLevels project standing slack levels
        → ContinuesOpenly project grid standing outer next → AllDecided levels
    all-decided ls at c =
        let same = same-grid at.grid at.tight.is_grid in
        subst AllDecided (sym (at.levels_are ∙ ap (λ g. levels_left project g standing.known at.found at.reached) same))
        (decided-at at.found (tight-here at.grid at.found.row at.tight) c at.way
        (subst (λ g. EndsIn project g standing at.found.row at.way) same at.ends) at.shortest at.longest at.reached
        (subst (λ g. Arrives project g standing.known at.found.row at.way at.reached) same at.arrives))

    -- a matter at levels isn't left open where the run ends
    levels-before : (levels : List Interval) → EndsAtOpenLevels project standing slack levels
        → standing.known.time ≢ project.times.duration
    levels-before ls at = by-way at.way at.ends
      where
        by-way : (w : Way) → EndsIn project at.grid standing at.found.row w
            → standing.known.time ≢ project.times.duration
        by-way _ (in_by_rules x first after in_time closed) = x.not_last
        by-way _ (in_by_instant x same none) = x.not_last
        by-way _ (in_by_watched x before none) = x.not_last

    tank-open : (tank : ℕ) (level : Interval) → LeavesTankStateOpen project standing slack tank level
        → LeadsOnOpenly project grid standing outer next → ⊥
    tank-open tank level is (continues c) =
        states-decided project is.levels next.known.tanks tank (all-decided is.levels is.at_levels c).states is.first
    tank-open tank level is (finishes f) = levels-before is.levels is.at_levels f.is_last

    control-open : (number : ℕ) (level : Interval) → LeavesLevelControlOpen project standing slack number level
        → LeadsOnOpenly project grid standing outer next → ⊥
    control-open number level is (continues c) =
        controls-decided project is.levels number (all-decided is.levels is.at_levels c).controls is.first
    control-open number level is (finishes f) = levels-before is.levels is.at_levels f.is_last

    demand-open : (j : ℕ) (demand : ℤ) → IsFirstDemand project standing.known.time j demand → ⊥
    demand-open j demand is =
        let inside = slice_get_within project.junctions.list j is.junction is.is_junction in
        let within : unsigned_abs (demand_of project standing.known.time is.junction) ≤ demand_limit =
        subst (λ (x : Junction). unsigned_abs (demand_of project standing.known.time x) ≤ demand_limit)
        (get_or_from_slice_get project.junctions.list j is.junction is.junction is.is_junction)
        (valid.demands j is.junction inside) in
        let over : demand_limit < unsigned_abs (demand_of project standing.known.time is.junction) =
        subst (λ d. demand_limit < unsigned_abs d) is.is_demand is.out_of_range in
        omega (arith, within, over)

    no-vector : (problem : Problem) (side : Side) → HasNoCertificate project standing.known problem side → ⊥
    no-vector problem side is =
        is.none (vector_of outer.row problem side)
        (subst (λ g. IsCertificate g problem side (vector_of outer.row problem side))
        (sym (same-grid is.grid is.is_grid)) (valid.certificates.each problem side is.is_problem))

    pub no_stop : (cause : StopCause) → IsReason cause → StopsOpenly project standing slack rounds cause → ⊥
    no_stop (DemandOutOfRange period j demand) reason stops = demand-open j demand stops.holds
    no_stop (NoCertificate period problem side j) reason stops = no-vector problem side stops.holds.1
    no_stop (RoundsSpent period problem side spent) reason stops = reason
    no_stop (RuleOpen period rule clause lo hi) reason stops =
        end-open (RuleIsOpen (record { rule = rule; clause = clause; lo = lo; hi = hi })) stops.holds valid.leads_on
    no_stop (EventOpen period m n) reason stops = end-open (EventIsOpen m n) stops.holds valid.leads_on
    no_stop (TankOpen period tank lo hi) reason stops =
        tank-open tank (record { lo = lo; hi = hi }) stops.holds valid.leads_on
    no_stop (ControlOpen period number lo hi) reason stops =
        control-open number (record { lo = lo; hi = hi }) stops.holds valid.leads_on

    -- ---- tight vectors lead on

    module _ (row : Record) (tightest : IsTightRow project standing.known grid row) where
      abbrev renumbered : ℕ → Record
      renumbered n = record row { number = standing.known.number; time = standing.known.time; length = n }

      renumbered-tight : (n : ℕ) (problem : Problem) (side : Side) → IsProblem project problem
          → IsTight grid problem side (vector_of (renumbered n) problem side)
      renumbered-tight n Main side is = tightest.each Main side is
      renumbered-tight n (Pinned k) side is = tightest.each (Pinned k) side is

      is-renumbered : (n : ℕ) → IsTightRow project standing.known grid (renumbered n)
      is-renumbered n = record {
        in_range = tightest.in_range;
        is_grid = tightest.is_grid;
        one_each = tightest.one_each;
        each = renumbered-tight n;
      }

      leads-with : (n shortest : ℕ) (after : OpenStanding)
          → LeadsOnOpenly project grid standing
          (record { row = renumbered n; late = standing.late; shortest = shortest }) after → after.late ≤ next.late
          → LeadsOnWith project standing grid row next.late
      leads-with n shortest after leads_on no-more = record {
        found = record { row = renumbered n; late = standing.late; shortest = shortest };
        next = after;
        main_is = refl;
        pinned_is = refl;
        valid = record {
          unfinished = valid.unfinished;
          number = refl;
          time = refl;
          late = refl;
          demands = valid.demands;
          is_grid = valid.is_grid;
          certificates = record {
            pinned_each = tightest.one_each;
            each = λ problem side is. (renumbered-tight n problem side is).is_certificate;
          };
          leads_on = leads_on;
        };
        within = no-more;
      }

      module _ (c : ContinuesOpenly project grid standing outer next) where
        inner : (way : Way) × (EndsIn project grid standing (renumbered 0) way × IsWayInside way c.way)
        inner = inner_way project sound standing grid outer.row (renumbered 0)
            (nested-with (renumbered 0) (is-renumbered 0)) (before-end c) c.way c.ends

        abbrev found-inside : OpenRecord
        found-inside = record {
          row = renumbered (longest_length inner.0);
          late = standing.late;
          shortest = shortest_length standing.late inner.0;
        }

        ends-inside : EndsIn project grid standing found-inside.row inner.0
        ends-inside = ends_too project grid standing (renumbered 0) 0 (longest_length inner.0) inner.0 inner.1.0

        arrival-inside : (reached : Option Watch) × Arrives project grid standing.known found-inside.row inner.0 reached
        arrival-inside = arrival_is project grid standing.known found-inside.row inner.0

        decided-inside : AllDecided (levels_left project grid standing.known found-inside arrival-inside.0)
        decided-inside = decided-at found-inside (is-renumbered (longest_length inner.0)) c inner.0 ends-inside refl
            refl arrival-inside.0 arrival-inside.1

        goes-on-tightly : LeadsOnWith project standing grid row next.late
        goes-on-tightly = leads-with (longest_length inner.0) (shortest_length standing.late inner.0) (record {
          known = record {
            number = suc standing.known.number;
            time = standing.known.time + first_end inner.0;
            levels = levels_left project grid standing.known found-inside arrival-inside.0;
            volumes = volumes_left project grid standing.known found-inside arrival-inside.0;
            tanks = next.known.tanks;
            commanded = links_left project grid standing found-inside.row inner.0;
            finished = false;
          };
          late = late_at_end standing.late inner.0;
        }) (continues (record {
          not_last = c.not_last;
          way = inner.0;
          ends = ends-inside;
          reached = arrival-inside.0;
          arrives = arrival-inside.1;
          shortest = refl;
          longest = refl;
          levels = refl;
          volumes = refl;
          tanks = decided-inside.states;
          controls = decided-inside.controls;
          commanded = refl;
          number = refl;
          time = refl;
          late = refl;
          unfinished = refl;
        }))
            (let n = narrower standing.late inner.0 c.way inner.1.1 in let l = c.late in omega (arith, n, l))

      finishes-tightly : FinishesOpenly standing outer project next → LeadsOnWith project standing grid row next.late
      finishes-tightly f = leads-with 0 0
          (record { known = record standing.known { number = suc standing.known.number; finished = true }; late = 0 })
          (finishes (record {
            is_last = f.is_last;
            no_shortest = refl;
            no_length = refl;
            next_known = refl;
            next_late = refl;
          }))
          (omega arith)

      by-lead : LeadsOnOpenly project grid standing outer next → LeadsOnWith project standing grid row next.late
      by-lead (continues c) = goes-on-tightly c
      by-lead (finishes f) = finishes-tightly f

      pub tight_leads_on : LeadsOnWith project standing grid row next.late
      tight_leads_on = by-lead valid.leads_on
