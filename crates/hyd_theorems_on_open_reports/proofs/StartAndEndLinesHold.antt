-- The lines of a period's start and of its end hold where the period begins, takes in water and ends as a standing, a
-- grid and a record say, whatever the demands of its network are.
use Rattle.std.proofs.Common.{◌≡◌, ◌≢◌, ℕ, zero, suc, ◌+◌, ◌-◌, ◌<◌, ◌≤◌, ℤ, pos, ◌*ℤ◌, ◌≤ℤ◌, ◌<ℤ◌, refl, sym, ap}
use Rattle.std.proofs.Common.{subst}
use Rattle.std.proofs.Common.{◌∙◌, arith, Bool, true, false, ◌&&◌, not, List, [], ◌∷◌, ◌++◌, length, map, inl, inr}
use Rattle.std.proofs.Common.{◌==◌, ◌%◌}
use Rattle.std.proofs.Common.{MatchBool}
use Rattle.std.specs.Prelude.{Option, Some, None, slice_get, slice_index_or, slice_set, Contains, int_le, if◌then◌else◌}
use Rattle.std.specs.Prelude.{IfSome, ⊤}
use Rattle.std.specs.Option.{option_and_then}
use Rattle.std.specs.List.{AllByRecursion, list_any}
use Rattle.std.proofs.lemmas.Int.{ints}
use Rattle.std.proofs.lemmas.Bool.{cases_Bool, cond_both, eqb-true}
use Rattle.std.proofs.lemmas.Option.{slice_get_within, get_or_from_slice_get}
use Rattle.hyd_num.proofs.Integers.{times_rises, times_reflects, one_times}
use Rattle.hyd_num.specs.Rational.{Rational, whole}
use Rattle.hyd_net.specs.ControlsAndRules.{IsControl, IsMoment}
use Rattle.hyd_net.specs.Sound.{IsSound}
use Rattle.hyd_spec.specs.ProgramTypes.{Project, Tank, LinkState, Control, When, AtLevel, AtTime, AtClock}
use Rattle.hyd_spec.specs.declared.TankState.{TankState}
use Rattle.hyd_spec.specs.declared.Change.{Change}
use Rattle.hyd_spec.specs.declared.Source.{Source}
use Rattle.hyd_spec.specs.declared.Source.TheVariants.{Control as ByControl, Rule as ByRule}
use Rattle.hyd_spec.specs.Lists.{Each, map_from, present}
use Rattle.hyd_spec.specs.LinkLaw.{is_full, is_empty}
use Rattle.hyd_spec.specs.Tank.{Walls, Cylinder, Curve, Stock, walls_of, reaches, tank_inflow, level_bounds}
use Rattle.hyd_spec.specs.Tank.{exact_content, carried_level, watched_level}
use Rattle.hyd_spec.specs.PumpPatternsAndSimpleControls.{acts_at, control_acts, patterned}
use Rattle.hyd_spec.specs.Rules.{Offer, is_same_state, state_of_link, best_offer, offers_from, change_by, change_of}
use Rattle.hyd_spec.specs.Rules.{rule_changes}
use Rattle.hyd_spec.specs.PeriodLength.{Period, level_at_start, stock_at_start, values_at}
use Rattle.hyd_spec_certificates.specs.declared.Event.{Event}
use Rattle.hyd_spec_certificates.specs.declared.EventKind.{EventKind}
use Rattle.hyd_spec_certificates.specs.declared.EventKind.TheVariants.{Full as BecomesFull, Empty as BecomesEmpty}
use Rattle.hyd_spec_certificates.specs.declared.EventKind.TheVariants.{Control as ReachesLevel}
use Rattle.hyd_spec_certificates.specs.Interval.{Interval}
use Rattle.hyd_spec_certificates.specs.ThreeValuedLogic.{at_both_ends, is_yes, is_unknown}
use Rattle.hyd_spec_certificates.specs.PeriodNetwork.{Grid}
use Rattle.hyd_spec_certificates.specs.PrintedIntervals.{is_report_time}
use Rattle.hyd_spec_certificates.specs.RecordAndStanding.{Record}
use Rattle.hyd_spec_certificates.specs.Decided.{Watch, links_at, acts_on, control_truth, nowhere, level_of_tank}
use Rattle.hyd_spec_certificates.specs.Decided.{stocks_of_tank, inflow_of_tank}
use Rattle.hyd_spec_certificates.specs.ChangesAtStart.{control_changes, start_changes, changes_at}
use Rattle.hyd_spec_certificates.specs.EndsOfPeriods.{tank_event, tank_events, control_event}
use Rattle.hyd_spec_reports.specs.ReportLine.{ReportLine}
use Rattle.hyd_spec_reports.specs.Report.{event_line, change_line}
use Rattle.hyd_spec_reports.specs.Claims.{LineHolds, ReachesControl, ReachesAtEnd, IsStartChange, IsEndChange}
use Rattle.hyd_spec_reports.specs.Claims.{Fills, Empties}
use Rattle.hyd_spec_open_ends.specs.OpenStandings.{OpenStanding, OpenRecord}
use Rattle.hyd_spec_open_ends.specs.RulesOverLengths.{open_rule_truths, open_changes}
use Rattle.hyd_spec_open_ends.specs.OpenEnds.{Way, ByRules, ByInstant, ByWatched, EndsIn, first_end}
use Rattle.hyd_spec_open_ends.specs.OpenEnds.{by_rules, by_instant, by_watched, shortest_length, longest_length}
use Rattle.hyd_spec_open_ends.specs.Arrivals.{Arrives, arrival_of}
use Rattle.hyd_spec_open_ends.specs.OpenRecords.{carried_left, LeadsOnOpenly, continues, finishes}
use Rattle.hyd_spec_open_reports.specs.OpenReportLine.{OpenLine, known_line}
use Rattle.hyd_spec_open_reports.specs.OpenReport.{open_control_lines, tells_state, all_carried_left, events_left}
use Rattle.hyd_spec_open_reports.specs.OpenReport.{changes_left, line_at_end, AreOpenEndLines, at_last, at_end}
use Rattle.hyd_spec_open_reports.specs.ClaimsOfOpenLines.{OpenLineHolds, later_by}
use Rattle.hyd_theorems_on_definitions.specs.LyingInIntervals.{LiesIn, LevelsLie, StockLies, LiesAround}
use Rattle.hyd_lemmas.proofs.BooleanTests.{le-from, le-yes, both-first, both-second}
use Rattle.hyd_theorems_on_definitions.proofs.ValuesByContent.{above-from, below-from, placed-is}
use Rattle.hyd_theorems_on_definitions.proofs.DecidedByEnds.{control_tells}
use Rattle.hyd_theorems_on_definitions.proofs.SoundTankLemmas.{sound_tank, vessels}
use Rattle.hyd_theorems_on_histories.specs.Agreement.{IsKept, VolumesLie}
use Rattle.hyd_theorems_on_histories.proofs.ListsByPlace.{numbered_from_start, all_after, lies_at}
use Rattle.hyd_theorems_on_histories.proofs.AgreementAtStart.{same_acts}
use Rattle.hyd_theorems_on_histories.proofs.WatchedLevels.{contains-here, contains-later, contains-cons, contains-none}
use Rattle.hyd_theorems_on_histories.proofs.WatchedLevels.{known-no, isnt-full, isnt-empty}
use Rattle.hyd_theorems_on_open_ends.specs.AgreementOverStarts.{HasQuietStart, EndsSo}
use Rattle.hyd_theorems_on_open_ends.proofs.StocksOverLengths.{AllHaveCome, carried_end_lies}
use Rattle.hyd_theorems_on_open_ends.proofs.OneOpenEnd.{one_way}
use Rattle.hyd_theorems_on_runs.proofs.ReportLinesHold.{same-changes}
use Rattle.hyd_theorems_on_open_reports.proofs.KnownLines.{claims_as_open}
use Rattle.hyd_theorems_on_open_reports.proofs.QuietChanges.{same_changes_at}

-- ---- what they rest on

-- The lines that speak of no demand claim the same of a network as of the file's.
pub record ClaimsAreAlike (project network : Project) (S : ℕ) (commanded : List LinkState) (period : Period) : Type 0
  where
    pub starts : (time : ℕ) (change : Change) → IsStartChange project S commanded period time change
        → IsStartChange network S commanded period time change
    pub ends : (time : ℕ) (change : Change) → time ≡ period.time + period.length → time % project.times.rule ≡ 0
        → Contains (rule_changes project (values_at network S period time) period.links) change
        → IsEndChange network S period time change
    pub fills : (time k : ℕ) → Fills project S period time k → Fills network S period time k
    pub empties : (time k : ℕ) → Empties project S period time k → Empties network S period time k
    pub reaches_level : (time k number : ℕ) → ReachesControl project S period time k number
        → ReachesControl network S period time k number

-- A period of a history begins in one of the seconds of a standing's start, after links were commanded so, with stocks
-- in its intervals, and each tank takes in what a grid and a record leave open.
pub record IsBegunOpenly (project : Project) (S : ℕ) (commanded : List LinkState) (period : Period) (grid : Grid)
    (standing : OpenStanding) (row : Record) : Type 0 where
  pub some : 0 < S
  pub after : standing.known.time ≤ period.time
  pub by : period.time ≤ standing.known.time + standing.late
  pub quiet : HasQuietStart project standing
  pub kept : IsKept project standing.known
  pub commanded_are : commanded ≡ standing.known.commanded
  pub levels : LevelsLie S standing.known.levels period.levels
  pub volumes : VolumesLie S standing.known.volumes period.volumes
  pub tanks : period.tanks ≡ standing.known.tanks
  pub inflows : Each project.tanks.list (λ k (tank : Tank). LiesIn S (inflow_of_tank project grid row k)
      (tank_inflow project k period.assignment.flows))

-- It ends in the way that is decided, where what is said to have been reached has come, and rules change what is
-- decided.
pub record EndsAsDecided (project network : Project) (S : ℕ) (period : Period) (grid : Grid) (standing : OpenStanding)
    (row : Record) : Type 0 where
  pub ends : standing.known.time ≢ project.times.duration → (way : Way) → EndsIn project grid standing row way
      → EndsSo period standing way
  pub come : standing.known.time ≢ project.times.duration → (way : Way) (reached : Option Watch)
      → EndsIn project grid standing row way → Arrives project grid standing.known row way reached → (shortest : ℕ)
      → shortest ≤ period.length → (k : ℕ) (tank : Tank) → slice_get project.tanks.list k ≡ Some tank
      → AllHaveCome S (walls_of project tank) tank (inflow_of_tank project grid row k) (stock_at_start period k)
      (tank_inflow project k period.assignment.flows) period.length (arrival_of shortest reached k)
  pub changes : (seconds : ℕ) → period.time ≤ standing.known.time + seconds
      → list_any is_unknown (open_rule_truths project grid standing row seconds) ≡ false
      → open_changes project grid standing row seconds
      ≡ rule_changes project (values_at network S period (standing.known.time + seconds)) period.links

-- ---- ways

-- a period that ends in a way isn't the last
pub not_last : (project : Project) (grid : Grid) (standing : OpenStanding) (row : Record) (way : Way)
    → EndsIn project grid standing row way → standing.known.time ≢ project.times.duration
not_last project grid standing row _ (by_rules seconds first after in_time closed) = seconds.not_last
not_last project grid standing row _ (by_instant seconds same none) = seconds.not_last
not_last project grid standing row _ (by_watched seconds before none) = seconds.not_last

-- a record that leads on has the lengths of each way in which its period ends
pub way_lengths : (project : Project) (grid : Grid) (standing : OpenStanding) (found : OpenRecord)
    (next : OpenStanding) → LeadsOnOpenly project grid standing found next → (way : Way)
    → EndsIn project grid standing found.row way
    → (found.shortest ≡ shortest_length standing.late way) × (found.row.length ≡ longest_length way)
way_lengths project grid standing found next (continues c) way ends =
    let same = one_way project grid standing found.row c.way way c.ends ends in
    (c.shortest ∙ ap (shortest_length standing.late) same, c.longest ∙ ap longest_length same)
way_lengths project grid standing found next (finishes f) way ends =
    absurd (not_last project grid standing found.row way ends f.is_last)

-- ---- lists

all-none : (X : Type 0) (Q : X → Type 0) (b : Bool) (xs : List X) → (b ≡ true → AllByRecursion Q xs) → (ys : List X)
    → (b ≡ false → AllByRecursion Q ys) → AllByRecursion Q (if b then xs else ys)
all-none X Q true xs p ys q = p refl
all-none X Q false xs p ys q = q refl

all-mapped : (X Y : Type 0) (Q : Y → Type 0) (f : X → Y) (xs : List X) → ((x : X) → Contains xs x → Q (f x))
    → AllByRecursion Q (map f xs)
all-mapped X Y Q f [] each = tt
all-mapped X Y Q f (x ∷ xs) each = (
  each x (contains-here X x xs),
  all-mapped X Y Q f xs
      (λ y c. each y (contains-later X y x xs c)),
)

all-present : (X Y : Type 0) (Q : Y → Type 0) (f : ℕ → X → Option Y) (from : ℕ) (xs : List X)
    → ((k : ℕ) (x : X) → slice_get xs k ≡ Some x → IfSome (f (from + k) x) Q)
    → AllByRecursion Q (present (map_from f from xs))
all-present X Y Q f from [] each = tt
all-present X Y Q f from (x ∷ xs) each =
    let n : from + 0 ≡ from = omega arith in
    let rest = all-present X Y Q f (suc from) xs (λ k y at. let m : from + suc k ≡ suc from + k = omega arith in
    subst (λ p. IfSome (f p y) Q) m (each (suc k) y at)) in
    by-case (f from x) (subst (λ m. IfSome (f m x) Q) n (each 0 x refl)) rest
  where
    by-case : (o : Option Y) → IfSome o Q → AllByRecursion Q (present (map_from f (suc from) xs))
        → AllByRecursion Q (present (o ∷ map_from f (suc from) xs))
    by-case None here rest = rest
    by-case (Some y) here rest = (here, rest)

all-lines : (X Y : Type 0) (P : X → Type 0) (Q : Y → Type 0) (f : X → Y) (xs : List X)
    → ((x : X) → P x → Q (f x)) → AllByRecursion P xs → AllByRecursion Q (map f xs)
all-lines X Y P Q f [] each all = tt
all-lines X Y P Q f (x ∷ xs) each all = (each x all.0, all-lines X Y P Q f xs each all.1)

in-all : (X : Type 0) (P : X → Type 0) (xs : List X) (x : X) → AllByRecursion P xs → Contains xs x → P x
in-all X P [] x all c = absurd (contains-none X x c)
in-all X P (y ∷ xs) x all c =
    elim (contains-cons X x y xs c) [ inl e ↦ subst P e all.0 | inr d ↦ in-all X P xs x all.1 d ]

-- ---- the sources of changes

abbrev IsByRule : Source → Type 0
IsByRule (ByRule rule) = ⊤
IsByRule (ByControl number) = ⊥

abbrev IsByControl : Source → Type 0
IsByControl (ByRule rule) = ⊥
IsByControl (ByControl number) = ⊤

-- what rules change, rules change
rules-change : (project : Project) (values : List Bool) (links : List LinkState)
    → AllByRecursion (λ (c : Change). IsByRule c.source) (rule_changes project values links)
rules-change project values links =
    all-present LinkState Change (λ c. IsByRule c.source) (change_of project values) 0 links
    (λ k state at. by-offer state (best_offer (0 + k) (offers_from 0 project.rules.list values)))
  where
    by-offer : (state : LinkState) (best : Option Offer)
        → IfSome (option_and_then (change_by state) best) (λ (c : Change). IsByRule c.source)
    by-offer state None = tt
    by-offer state (Some offer) =
        cond_both (is_same_state state offer.to) None
        (Some (record { source = ByRule offer.rule; link = offer.link; to = offer.to }))
        (λ o. IfSome o (λ (c : Change). IsByRule c.source)) (λ e. tt) (λ e. tt)

-- what controls change, controls change
controls-change : (project : Project) (time : ℕ) (acts : ℕ → Bool → ℤ → Bool) (k : ℕ) (controls : List Control)
    (links : List LinkState)
    → AllByRecursion (λ (c : Change). IsByControl c.source) (control_changes project time acts k controls links)
controls-change project time acts k [] links = tt
controls-change project time acts k (c ∷ controls) links =
    cond_both (control_acts project time acts c.when)
    ((if is_same_state (state_of_link links c.link) c.to then [] else record {
      source = ByControl k;
      link = c.link;
      to =
          c.to;
    } ∷ [])
    ++ control_changes project time acts (suc k) controls (slice_set links c.link c.to))
    (control_changes project time acts (suc k) controls links) (AllByRecursion (λ (x : Change). IsByControl x.source))
    (λ e. all_after Change (λ x. IsByControl x.source) _ _
    (cond_both (is_same_state (state_of_link links c.link) c.to) [] (record {
      source = ByControl k;
      link = c.link;
      to =
          c.to;
    } ∷ []) (AllByRecursion (λ (x : Change). IsByControl x.source)) (λ f. tt) (λ f. (tt, tt)))
    (controls-change project time acts (suc k) controls (slice_set links c.link c.to)))
    (λ e. controls-change project time acts (suc k) controls links)

-- ---- truths

not-parts : (a : Bool) → not a ≡ true → a ≡ false
not-parts true e = absurd (cc)
not-parts false e = refl

ends-yes : (a b : Bool) → is_yes (at_both_ends a b) ≡ true → (a ≡ true) × (b ≡ true)
ends-yes true true e = (refl, refl)
ends-yes true false e = absurd (cc)
ends-yes false true e = absurd (cc)
ends-yes false false e = absurd (cc)

yes-ends : (a b : Bool) → a ≡ true → b ≡ true → is_yes (at_both_ends a b) ≡ true
yes-ends true true e f = refl
yes-ends true false e f = f
yes-ends false b e f = absurd (cc)

not-true : (b : Bool) → (b ≡ true → ⊥) → b ≡ false
not-true true other = absurd (other refl)
not-true false other = refl

int-no : (a b : ℤ) → int_le a b ≡ false → b <ℤ a
int-no a b e = grind (arith, ints)

-- a whole level at a target
reached-above : (t z : ℤ) → t ≤ℤ z → reaches 1 true t (whole z) ≡ true
reached-above t z h = le-from ((pos 1 *ℤ t) *ℤ pos 1) (z *ℤ pos 1) (omega (arith, ints, h, one_times t))

reached-below : (t z : ℤ) → z ≤ℤ t → reaches 1 false t (whole z) ≡ true
reached-below t z h = le-from (z *ℤ pos 1) ((pos 1 *ℤ t) *ℤ pos 1) (omega (arith, ints, h, one_times t))

above-reached : (t z : ℤ) → reaches 1 true t (whole z) ≡ true → t ≤ℤ z
above-reached t z e = let a = le-yes ((pos 1 *ℤ t) *ℤ pos 1) (z *ℤ pos 1) e in omega (arith, ints, a, one_times t)

below-reached : (t z : ℤ) → reaches 1 false t (whole z) ≡ true → z ≤ℤ t
below-reached t z e = let a = le-yes (z *ℤ pos 1) ((pos 1 *ℤ t) *ℤ pos 1) e in omega (arith, ints, a, one_times t)

-- ---- a watched level by the carried one

module _ (S : ℕ) (tank : Tank) (stock : Stock) (q : ℤ) (length : ℕ) (some : 0 < S) (carried : Interval) where
  -- where the whole interval of carried levels has come up to a target above the minimum, the watched level has
  watched-up : (walls : Walls) (target : ℤ) → tank.minimum <ℤ target → target ≤ℤ carried.lo
      → LiesAround S carried (carried_level S walls tank stock q length)
      → reaches S true target (watched_level S walls tank stock q length) ≡ true
  watched-up (Cylinder area) target over reached lies =
      let x = exact_content (Cylinder area) stock q length in
      let up : (pos (carried_level S (Cylinder area) tank stock q length).den *ℤ (pos S *ℤ target))
      ≤ℤ (carried_level S (Cylinder area) tank stock q length).num =
      (let a = times_rises (carried_level S (Cylinder area) tank stock q length).den (pos S *ℤ target)
      (pos S *ℤ carried.lo) (times_rises S target carried.lo reached) in let b = lies.low in
      omega (arith, ints, a, b)) in
      above-from S target x
      (placed-is (λ (r : Rational). (pos r.den *ℤ (pos S *ℤ target)) ≤ℤ r.num
      → (pos x.den *ℤ (pos S *ℤ target)) ≤ℤ x.num) S (level_bounds tank) (level_bounds tank) x x
      (λ full h. let a = times_rises x.den (pos S *ℤ target) (pos S *ℤ tank.maximum)
      (omega (arith, ints, h, one_times (pos S *ℤ target))) in omega (arith, ints, a, full))
      (λ less empty h. absurd (no-room S tank.minimum target some over
      (omega (arith, ints, h, one_times (pos S *ℤ target)))))
      (λ less more h. h) up)
    where
      no-room : (n : ℕ) (a b : ℤ) → 0 < n → a <ℤ b → (pos n *ℤ b) ≤ℤ (pos n *ℤ a) → ⊥
      no-room n a b above lt le = let c = times_reflects n b a above le in absurd (omega (arith, ints, c, lt))
  watched-up (Curve points) target over reached lies =
      let x = carried_level S (Curve points) tank stock q length in
      above-from S target x (let a = times_rises x.den (pos S *ℤ target) (pos S *ℤ carried.lo)
      (times_rises S target carried.lo reached) in let b = lies.low in omega (arith, ints, a, b))

  -- where it has come down to a target below the maximum, the watched level has
  watched-down : (walls : Walls) (target : ℤ) → target <ℤ tank.maximum → carried.hi ≤ℤ target
      → LiesAround S carried (carried_level S walls tank stock q length)
      → reaches S false target (watched_level S walls tank stock q length) ≡ true
  watched-down (Cylinder area) target under reached lies =
      let x = exact_content (Cylinder area) stock q length in
      let down : (carried_level S (Cylinder area) tank stock q length).num
      ≤ℤ (pos (carried_level S (Cylinder area) tank stock q length).den *ℤ (pos S *ℤ target)) =
      (let a = times_rises (carried_level S (Cylinder area) tank stock q length).den (pos S *ℤ carried.hi)
      (pos S *ℤ target) (times_rises S carried.hi target reached) in let b = lies.high in
      omega (arith, ints, a, b)) in
      below-from S target x
      (placed-is (λ (r : Rational). r.num ≤ℤ (pos r.den *ℤ (pos S *ℤ target))
      → x.num ≤ℤ (pos x.den *ℤ (pos S *ℤ target))) S (level_bounds tank) (level_bounds tank) x x
      (λ full h. absurd (no-room S target tank.maximum some under
      (omega (arith, ints, h, one_times (pos S *ℤ target)))))
      (λ less empty h. let a = times_rises x.den (pos S *ℤ tank.minimum) (pos S *ℤ target)
      (omega (arith, ints, h, one_times (pos S *ℤ target))) in omega (arith, ints, a, empty))
      (λ less more h. h) down)
    where
      no-room : (n : ℕ) (a b : ℤ) → 0 < n → a <ℤ b → (pos n *ℤ b) ≤ℤ (pos n *ℤ a) → ⊥
      no-room n a b above lt le = let c = times_reflects n b a above le in absurd (omega (arith, ints, c, lt))
  watched-down (Curve points) target under reached lies =
      let x = carried_level S (Curve points) tank stock q length in
      below-from S target x (let a = times_rises x.den (pos S *ℤ carried.hi) (pos S *ℤ target)
      (times_rises S carried.hi target reached) in let b = lies.high in omega (arith, ints, a, b))

-- ---- a period

module _ (project : Project) (sound : IsSound project) (network : Project) (S : ℕ) (commanded : List LinkState)
    (period : Period) (grid : Grid) (standing : OpenStanding) (found : OpenRecord)
    (claims : ClaimsAreAlike project network S commanded period)
    (begun : IsBegunOpenly project S commanded period grid standing found.row)
    (ending : EndsAsDecided project network S period grid standing found.row) where
  abbrev Holds : OpenLine → Type 0
  Holds each = OpenLineHolds network S commanded period each

  abbrev KnownHolds : ReportLine → Type 0
  KnownHolds told = LineHolds network S commanded period told

  level-lies : (k : ℕ) → LiesIn S (level_of_tank standing.known k) (level_at_start period k)
  level-lies k = lies_at S standing.known.levels period.levels k begun.levels

  stock-lies : (k : ℕ) → StockLies S (stocks_of_tank standing.known k) (stock_at_start period k)
  stock-lies k = record {
    level = level-lies k;
    volume = lies_at S standing.known.volumes period.volumes k begun.volumes;
  }

  -- ---- the start

  -- what controls change at the period's start
  own-changes : changes_at project standing.known ≡ start_changes project period.time (acts_at S period.levels)
      commanded
  own-changes =
      as-of-then ∙ (λ i. start_changes project period.time (acts_on standing.known.levels) (sym begun.commanded_are i))
      ∙ sym (same-changes project period.time (acts_at S period.levels) (acts_on standing.known.levels) 0
      project.controls.list
      (same_acts project S period.time standing.known.levels period.levels begun.some
      begun.levels begun.kept.controls)
      (patterned project period.time commanded))
    where
      as-of-then : changes_at project standing.known
          ≡ start_changes project period.time (acts_on standing.known.levels) standing.known.commanded
      as-of-then = elim begun.quiet [
        | inl none ↦
            let same : standing.known.time ≡ period.time =
            (let a = begun.after in let b = begun.by in omega (arith, none, a, b)) in
            ap (λ t. start_changes project t (acts_on standing.known.levels) standing.known.commanded) same
        | inr quiet ↦ same_changes_at project standing.known.time period.time (acts_on standing.known.levels)
            standing.known.commanded quiet.0 begun.after
            (λ e from to. quiet.1 e from (let b = begun.by in omega (arith, b, to)))
      ]

  control-lines : AllByRecursion Holds (open_control_lines project standing)
  control-lines =
      all-mapped Change OpenLine Holds
      (λ change. record { line = change_line standing.known.time change; late = standing.late })
      (changes_at project standing.known)
      (λ change contained. by-source change contained change.source refl
      (in-all Change (λ c. IsByControl c.source) (changes_at project standing.known) change
      (controls-change project standing.known.time (acts_on standing.known.levels) 0 project.controls.list
      (patterned project standing.known.time standing.known.commanded)) contained))
    where
      by-source : (change : Change) → Contains (changes_at project standing.known) change → (s : Source)
          → change.source ≡ s → IsByControl s
          → Holds (record { line = change_line standing.known.time change; late = standing.late })
      by-source change contained (ByRule rule) is other = absurd other
      by-source change contained (ByControl number) is a-control =
          let same : change ≡ record { source = ByControl number; link = change.link; to = change.to } =
          λ i. record { source = is i; link = change.link; to = change.to } in
          subst (λ c. Holds (record { line = change_line standing.known.time c; late = standing.late })) (sym same)
          (record {
            seconds = period.time - standing.known.time;
            in_time = let b = begun.by in omega (arith, b);
            holds = claims.starts (standing.known.time + (period.time - standing.known.time))
                (record { source = ByControl number; link = change.link; to = change.to }) (record {
                  at_start = let a = begun.after in omega (arith, a);
                  is_change = subst (λ c. Contains (start_changes project period.time (acts_at S period.levels)
                      commanded) c) same (subst (λ cs. Contains cs change) own-changes contained);
                });
          })

  -- ---- the end

  module _ (way : Way) (reached : Option Watch) (ends : EndsIn project grid standing found.row way)
      (arrives : Arrives project grid standing.known found.row way reached)
      (other : standing.known.time ≢ project.times.duration)
      (is_short : found.shortest ≡ shortest_length standing.late way)
      (is_long : found.row.length ≡ longest_length way) where
    ends-then : EndsSo period standing way
    ends-then = ending.ends other way ends

    lasts-from : found.shortest ≤ period.length
    lasts-from = let a = ends-then.from in omega (arith, a, is_short)

    lasts-to : period.length ≤ found.row.length
    lasts-to = let a = ends-then.to in omega (arith, a, is_long)

    abbrev end : ℕ
    end = period.time + period.length

    -- how much later than it may the period ends
    abbrev after-first : ℕ
    after-first = end - (standing.known.time + first_end way)

    abbrev carried-of : ℕ → Tank → Interval
    carried-of k tank = carried_left project grid standing.known found reached k tank

    carried-lies : (k : ℕ) (tank : Tank) → slice_get project.tanks.list k ≡ Some tank
        → LiesAround S (carried-of k tank) (carried_level S (walls_of project tank) tank (stock_at_start period k)
        (tank_inflow project k period.assignment.flows) period.length)
    carried-lies k tank at =
        carried_end_lies S (walls_of project tank) tank (stocks_of_tank standing.known k)
        (inflow_of_tank project grid found.row k) found.shortest period.length found.row.length
        (arrival_of found.shortest reached k) (stock_at_start period k)
        (tank_inflow project k period.assignment.flows) begun.some (vessels project sound k tank at)
        (stock-lies k)
        (begun.inflows k tank at) lasts-from lasts-to
        (ending.come other way reached ends arrives found.shortest lasts-from k tank at)

    abbrev Happens : Event → Type 0
    Happens event = KnownHolds (event_line end event)

    carried-is : (k : ℕ) (tank : Tank) (level : Interval) → slice_get project.tanks.list k ≡ Some tank
        → slice_get (all_carried_left project grid standing.known found reached) k ≡ Some level
        → level ≡ carried-of k tank
    carried-is k tank level at is =
        sym (get_or_from_slice_get (all_carried_left project grid standing.known found reached) k level nowhere is)
        ∙ numbered_from_start Tank Interval carried-of project.tanks.list k tank nowhere at

    come-up : (k : ℕ) (tank : Tank) (target : ℤ) → slice_get project.tanks.list k ≡ Some tank
        → tank.minimum <ℤ target → target ≤ℤ (carried-of k tank).lo → ReachesAtEnd project S period end k true target
    come-up k tank target at over up = record {
      at_end = refl;
      tank = tank;
      is_tank = at;
      reached = watched-up S tank (stock_at_start period k) (tank_inflow project k period.assignment.flows)
          period.length begun.some (carried-of k tank) (walls_of project tank) target over up
          (carried-lies k tank at);
    }

    come-down : (k : ℕ) (tank : Tank) (target : ℤ) → slice_get project.tanks.list k ≡ Some tank
        → target <ℤ tank.maximum → (carried-of k tank).hi ≤ℤ target
        → ReachesAtEnd project S period end k false target
    come-down k tank target at below down = record {
      at_end = refl;
      tank = tank;
      is_tank = at;
      reached = watched-down S tank (stock_at_start period k) (tank_inflow project k period.assignment.flows)
          period.length begun.some (carried-of k tank) (walls_of project tank) target below down
          (carried-lies k tank at);
    }

    own-state : (k : ℕ) (state : TankState) → slice_get standing.known.tanks k ≡ Some state
        → slice_get period.tanks k ≡ Some state
    own-state k state is = ap (λ (ts : List TankState). slice_get ts k) begun.tanks ∙ is

    tank-event-holds : (k : ℕ) (tank : Tank) (state : TankState) (level : Interval)
        → slice_get project.tanks.list k ≡ Some tank → slice_get standing.known.tanks k ≡ Some state
        → level ≡ carried-of k tank → AllByRecursion Happens (tank_event k tank state level)
    tank-event-holds k tank state level at is same =
        let apart = (sound_tank project sound k tank at).ranges.apart in
        all-none Event Happens (not (is_full state) && int_le tank.maximum level.lo)
        (record { tank = k; what = BecomesFull } ∷ [])
        (λ e.
        let lo : tank.maximum ≤ℤ level.lo = le-yes tank.maximum level.lo
        (both-second (not (is_full state)) (int_le tank.maximum level.lo) e) in (
          claims.fills end k (record {
            tank = tank;
            is_tank = at;
            before = λ full. isnt-full state (not-parts (is_full state)
                (both-first (not (is_full state)) (int_le tank.maximum level.lo) e))
                (sym (own-state k state is) ∙ full);
            reaches_it = come-up k tank tank.maximum at (omega (arith, ints, apart))
                (subst (λ x. tank.maximum ≤ℤ x.lo) same lo);
          }),
          tt,
        ))
        (if not (is_empty state) && int_le level.hi tank.minimum then record { tank = k; what = BecomesEmpty } ∷ []
        else [])
        (λ e. all-none Event Happens (not (is_empty state) && int_le level.hi tank.minimum)
        (record { tank = k; what = BecomesEmpty } ∷ [])
        (λ f.
        let hi : level.hi ≤ℤ tank.minimum = le-yes level.hi tank.minimum
        (both-second (not (is_empty state)) (int_le level.hi tank.minimum) f) in (
          claims.empties end k (record {
            tank = tank;
            is_tank = at;
            before = λ empty. isnt-empty state (not-parts (is_empty state)
                (both-first (not (is_empty state)) (int_le level.hi tank.minimum) f))
                (sym (own-state k state is) ∙ empty);
            reaches_it = come-down k tank tank.minimum at (omega (arith, ints, apart))
                (subst (λ x. x.hi ≤ℤ tank.minimum) same hi);
          }),
          tt,
        ))
        [] (λ f. tt))

    all-tank-events : (from : ℕ) (tanks : List Tank) (states : List TankState) (levels : List Interval)
        → ((k : ℕ) (tank : Tank) (state : TankState) (level : Interval) → slice_get tanks k ≡ Some tank
        → slice_get states k ≡ Some state → slice_get levels k ≡ Some level
        → AllByRecursion Happens (tank_event (from + k) tank state level))
        → AllByRecursion Happens (tank_events from tanks states levels)
    all-tank-events from [] states levels each = tt
    all-tank-events from (tank ∷ tanks) [] levels each = tt
    all-tank-events from (tank ∷ tanks) (state ∷ states) [] each = tt
    all-tank-events from (tank ∷ tanks) (state ∷ states) (level ∷ levels) each =
        let n : from + 0 ≡ from = omega arith in
        all_after Event Happens (tank_event from tank state level) (tank_events (suc from) tanks states levels)
        (subst (λ m. AllByRecursion Happens (tank_event m tank state level)) n (each 0 tank state level refl refl refl))
        (all-tank-events (suc from) tanks states levels (λ k t s x at is in_place.
        let m : from + suc k ≡ suc from + k = omega arith in
        subst (λ p. AllByRecursion Happens (tank_event p t s x)) m (each (suc k) t s x at is in_place)))

    -- ---- level controls

    level-there : (number : ℕ) (control : Control) (k : ℕ) (above : Bool) (ticks : ℤ)
        → slice_get project.controls.list number ≡ Some control → control.when ≡ AtLevel k above ticks
        → (tank : Tank) × (slice_get project.tanks.list k ≡ Some tank)
    level-there number control k above ticks at is =
        let inside = slice_get_within project.controls.list number control at in
        let command : IsControl project control =
        subst (IsControl project) (get_or_from_slice_get project.controls.list number control control at)
        (sound.controls number control inside) in
        let moment : IsMoment project (AtLevel k above ticks) = subst (IsMoment project) is command.moment in
        there project.tanks.list k moment.0
      where
        there : (tanks : List Tank) (k : ℕ) → k < length tanks → (tank : Tank) × (slice_get tanks k ≡ Some tank)
        there [] k le = absurd (omega (arith, le))
        there (t ∷ tanks) zero le = (t, refl)
        there (t ∷ tanks) (suc k) le = there tanks k (omega (arith, le))

    contains-at : (number : ℕ) (control : Control) → slice_get project.controls.list number ≡ Some control
        → Contains project.controls.list control
    contains-at number control at = (
      number,
      slice_get_within project.controls.list number control at,
      get_or_from_slice_get project.controls.list number control control at,
    )

    -- where a control didn't act and its tank's whole interval of carried levels has reached its level, that level
    -- isn't the bound at which the tank would be held, since each level at the start would have reached it
    control-reached : (k : ℕ) (tank : Tank) (above : Bool) (ticks : ℤ) → slice_get project.tanks.list k ≡ Some tank
        → acts_on standing.known.levels k above ticks ≡ false
        → is_yes (control_truth (carried-of k tank) above ticks) ≡ true
        → ReachesAtEnd project S period end k above ticks
    control-reached k tank true ticks at before after =
        let level = level_of_tank standing.known k in
        let carried = carried-of k tank in
        let bounds = begun.kept.levels k tank at in
        let both = ends-yes (reaches 1 true ticks (whole carried.lo)) (reaches 1 true ticks (whole carried.hi)) after in
        elim (cases_Bool (int_le ticks tank.minimum)) [
          | inl low ↦ absurd (
              let l : ticks ≤ℤ tank.minimum = le-yes ticks tank.minimum low in
              let a = bounds.lo_above in let b = bounds.hi_above in
              let held : is_yes (control_truth level true ticks) ≡ true =
              yes-ends (reaches 1 true ticks (whole level.lo)) (reaches 1 true ticks (whole level.hi))
              (reached-above ticks level.lo (omega (arith, ints, l, a)))
              (reached-above ticks level.hi (omega (arith, ints, l, b))) in
              cc)
          | inr high ↦ come-up k tank ticks at (int-no ticks tank.minimum high) (above-reached ticks carried.lo both.0)
        ]
    control-reached k tank false ticks at before after =
        let level = level_of_tank standing.known k in
        let carried = carried-of k tank in
        let bounds = begun.kept.levels k tank at in
        let both = ends-yes (reaches 1 false ticks (whole carried.lo)) (reaches 1 false ticks (whole carried.hi)) after
        in
        elim (cases_Bool (int_le tank.maximum ticks)) [
          | inl high ↦ absurd (
              let l : tank.maximum ≤ℤ ticks = le-yes tank.maximum ticks high in
              let a = bounds.lo_below in let b = bounds.hi_below in
              let held : is_yes (control_truth level false ticks) ≡ true =
              yes-ends (reaches 1 false ticks (whole level.lo)) (reaches 1 false ticks (whole level.hi))
              (reached-below ticks level.lo (omega (arith, ints, l, a)))
              (reached-below ticks level.hi (omega (arith, ints, l, b))) in
              cc)
          | inr low ↦ come-down k tank ticks at (int-no tank.maximum ticks low) (below-reached ticks carried.hi both.1)
        ]

    abbrev all-carried : List Interval
    all-carried = all_carried_left project grid standing.known found reached

    control-event-holds : (number : ℕ) (control : Control) → slice_get project.controls.list number ≡ Some control
        → IfSome (control_event standing.known.levels all-carried number control) Happens
    control-event-holds number control at = by-when control.when refl
      where
        reaches-it : (k : ℕ) (above : Bool) (ticks : ℤ) → control.when ≡ AtLevel k above ticks
            → (not (acts_on standing.known.levels k above ticks) && is_yes
            (control_truth (slice_index_or all-carried k nowhere) above ticks)) ≡ true
            → ReachesControl project S period end k number
        reaches-it k above ticks is e =
            let there = level-there number control k above ticks at is in
            let tank = there.0 in
            let before = not-parts (acts_on standing.known.levels k above ticks)
            (both-first (not (acts_on standing.known.levels k above ticks))
            (is_yes (control_truth (slice_index_or all-carried k nowhere) above ticks)) e) in
            let same = numbered_from_start Tank Interval carried-of project.tanks.list k tank nowhere there.1 in
            record {
              control = control;
              is_control = at;
              above = above;
              ticks = ticks;
              is_level = is;
              before = known-no (control_truth (level_of_tank standing.known k) above ticks)
                  (reaches S above ticks (whole (level_at_start period k)))
                  (control_tells S (level_of_tank standing.known k) above ticks (level_at_start period k)
                  begun.some (level-lies k))
                  (begun.kept.controls control k above ticks (contains-at number control at) is) before;
              reaches_it = control-reached k tank above ticks there.1 before
                  (subst (λ (x : Interval). is_yes (control_truth x above ticks) ≡ true) same
                  (both-second (not (acts_on standing.known.levels k above ticks))
                  (is_yes (control_truth (slice_index_or all-carried k nowhere) above ticks)) e));
            }

        if-so : (b : Bool) (k : ℕ) → (b ≡ true → ReachesControl project S period end k number)
            → IfSome (if b then Some (record { tank = k; what = ReachesLevel number }) else None) Happens
        if-so true k h = claims.reaches_level end k number (h refl)
        if-so false k h = tt

        by-when : (w : When) → control.when ≡ w
            → IfSome (control_event standing.known.levels all-carried number control) Happens
        by-when (AtLevel k above ticks) is =
            let same : control_event standing.known.levels all-carried number control
            ≡ (if not (acts_on standing.known.levels k above ticks) && is_yes
            (control_truth (slice_index_or all-carried k nowhere) above ticks) then Some
            (record { tank = k; what = ReachesLevel number }) else None) = rw is refl in
            subst (λ o. IfSome o Happens) (sym same)
            (if-so (not (acts_on standing.known.levels k above ticks) && is_yes
            (control_truth (slice_index_or all-carried k nowhere) above ticks)) k (reaches-it k above ticks is))
        by-when (AtTime t) is =
            let same : control_event standing.known.levels all-carried number control ≡ None = rw is refl in
            subst (λ o. IfSome o Happens) (sym same) tt
        by-when (AtClock t) is =
            let same : control_event standing.known.levels all-carried number control ≡ None = rw is refl in
            subst (λ o. IfSome o Happens) (sym same) tt

    events-happen : AllByRecursion Happens (events_left project grid standing.known found reached)
    events-happen = all_after Event Happens _ _
        (all-tank-events 0 project.tanks.list standing.known.tanks all-carried
        (λ k tank state level at is in_place. let n : k ≡ 0 + k = omega arith in
        subst (λ m. AllByRecursion Happens (tank_event m tank state level)) n
        (tank-event-holds k tank state level at is (carried-is k tank level at in_place))))
        (all-present Control Event Happens (control_event standing.known.levels all-carried) 0 project.controls.list
        (λ k control at. let n : k ≡ 0 + k = omega arith in
        subst (λ m. IfSome (control_event standing.known.levels all-carried m control) Happens) n
        (control-event-holds k control at)))

    -- ---- lines of the end

    later-event : (seconds time : ℕ) (event : Event)
        → later_by seconds (event_line time event) ≡ event_line (time + seconds) event
    later-event seconds time event = by-kind event.what refl
      where
        by-kind : (what : EventKind) → event.what ≡ what
            → later_by seconds (event_line time event) ≡ event_line (time + seconds) event
        by-kind BecomesFull is = rw is refl
        by-kind BecomesEmpty is = rw is refl
        by-kind (ReachesLevel number) is = rw is refl

    event-at-end : (event : Event) → Happens event
        → Holds (line_at_end standing way (λ time. event_line time event))
    event-at-end event happens = record {
      seconds = after-first;
      in_time = let a = ends-then.ends_by in omega (arith, a);
      holds = subst KnownHolds
          (ap (λ t. event_line t event)
          (let l = ends-then.ends_from in let e : end ≡ (standing.known.time + first_end way) + after-first =
          omega (arith, l) in e)
          ∙ sym (later-event after-first (standing.known.time + first_end way) event)) happens;
    }

    event-lines : AllByRecursion Holds (map (λ event. line_at_end standing way (λ time. event_line time event))
        (events_left project grid standing.known found reached))
    event-lines = all-lines Event OpenLine Happens Holds
        (λ event. line_at_end standing way (λ time. event_line time event))
        (events_left project grid standing.known found reached) event-at-end events-happen

  -- ---- rules

  rule-lines : (i : ℕ) → EndsIn project grid standing found.row (ByRules i)
      → standing.known.time ≢ project.times.duration
      → AllByRecursion Holds (map (λ change. line_at_end standing (ByRules i) (λ time. change_line time change))
      (open_changes project grid standing found.row i))
  rule-lines i (by_rules seconds first after in_time closed) other =
      all-mapped Change OpenLine Holds (λ change. line_at_end standing (ByRules i) (λ time. change_line time change))
      (open_changes project grid standing found.row i)
      (λ change contained. by-source change contained change.source refl
      (in-all Change (λ c. IsByRule c.source) (open_changes project grid standing found.row i) change
      (rules-change project (map is_yes (open_rule_truths project grid standing found.row i))
      (links_at project standing.known)) contained))
    where
      ends-at : EndsSo period standing (ByRules i)
      ends-at = ending.ends other (ByRules i) (by_rules seconds first after in_time closed)

      same-changes-then : open_changes project grid standing found.row i
          ≡ rule_changes project (values_at network S period (standing.known.time + i)) period.links
      same-changes-then = ending.changes i (let b = begun.by in omega (arith, b, after))
          (not-true (list_any is_unknown (open_rule_truths project grid standing found.row i)) closed)

      by-source : (change : Change) → Contains (open_changes project grid standing found.row i) change → (s : Source)
          → change.source ≡ s → IsByRule s
          → Holds (line_at_end standing (ByRules i) (λ time. change_line time change))
      by-source change contained (ByControl number) is a-control = absurd a-control
      by-source change contained (ByRule rule) is a-rule =
          let same : change ≡ record { source = ByRule rule; link = change.link; to = change.to } =
          λ i. record { source = is i; link = change.link; to = change.to } in
          subst (λ c. Holds (line_at_end standing (ByRules i) (λ time. change_line time c))) (sym same) (record {
            seconds = 0;
            in_time = omega arith;
            holds = claims.ends (standing.known.time + i)
                (record { source = ByRule rule; link = change.link; to = change.to })
                (let a = ends-at.ends_from in let b = ends-at.ends_by in omega (arith, a, b))
                first.holds.tried.is_multiple
                (subst (λ c. Contains (rule_changes project (values_at network S period (standing.known.time + i))
                period.links) c) same (subst (λ cs. Contains cs change) same-changes-then contained));
          })

  change-lines : (way : Way) → EndsIn project grid standing found.row way
      → standing.known.time ≢ project.times.duration
      → AllByRecursion Holds (map (λ change. line_at_end standing way (λ time. change_line time change))
      (changes_left project grid standing found.row way))
  change-lines (ByRules i) ends other = rule-lines i ends other
  change-lines (ByInstant i) ends other = tt
  change-lines (ByWatched a b) ends other = tt

  -- ---- all lines

  -- the record has the lengths of each way in which it ends
  module _ (lengths : (way : Way) → EndsIn project grid standing found.row way
      → (found.shortest ≡ shortest_length standing.late way) × (found.row.length ≡ longest_length way)) where
    end-lines : (lines : List OpenLine) → AreOpenEndLines project grid standing found lines
        → AllByRecursion Holds lines
    end-lines _ (at_last last) = tt
    end-lines _ (at_end way reached ends arrives) =
        let other = not_last project grid standing found.row way ends in
        all_after OpenLine Holds _ _
        (event-lines way reached ends arrives other (lengths way ends).0 (lengths way ends).1)
        (change-lines way ends other)

    -- and so do all lines, where those of a report time do that are told at a known second
    pub told_lines_hold : (State : Type 0) (state : List ReportLine) (last lines : List OpenLine)
        → (standing.late ≡ 0 → State → AllByRecursion KnownHolds state)
        → MatchBool (tells_state project standing) State (state ≡ [])
        → AreOpenEndLines project grid standing found last
        → lines ≡ open_control_lines project standing ++ (map known_line state ++ last) → AllByRecursion Holds lines
    told_lines_hold State state last lines holds state_are last_are are =
        subst (AllByRecursion Holds) (sym are)
        (all_after OpenLine Holds _ _ control-lines
        (all_after OpenLine Holds _ _ (state-lines (tells_state project standing) refl state_are)
        (end-lines last last_are)))
      where
        state-lines : (b : Bool) → tells_state project standing ≡ b → MatchBool b State (state ≡ [])
            → AllByRecursion Holds (map known_line state)
        state-lines true e are =
            let none : standing.late ≡ 0 = eqb-true standing.late 0
            (both-first (standing.late == 0) (is_report_time project standing.known.time) e) in
            all-lines ReportLine OpenLine KnownHolds Holds known_line state
            (λ told held. claims_as_open network S commanded period told held) (holds none are)
        state-lines false e are = subst (λ ls. AllByRecursion Holds (map known_line ls)) (sym are) tt
