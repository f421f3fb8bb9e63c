-- Each line of a period's report holds of each period of a history that is under the record.
use Rattle.std.proofs.Common.{◌≡◌, ℕ, zero, suc, ◌+◌, ◌<◌, ℤ, pos, ◌+ℤ◌, ◌-ℤ◌, ◌*ℤ◌, ◌≤ℤ◌, ◌<ℤ◌, refl, sym, ap, subst}
use Rattle.std.proofs.Common.{◌∙◌, arith, Bool, true, false, ◌&&◌, not, List, [], ◌∷◌, ◌++◌, length, map, inl, inr}
use Rattle.std.specs.Prelude.{Option, Some, None, slice_get, slice_index_or, slice_set, Contains, int_le, if◌then◌else◌}
use Rattle.std.specs.Prelude.{IfSome, ⊤}
use Rattle.std.specs.List.{AllByRecursion, AllZip}
use Rattle.std.proofs.lemmas.Int.{ints}
use Rattle.std.proofs.lemmas.Bool.{cases_Bool, cond_both}
use Rattle.std.proofs.lemmas.Option.{slice_get_within, get_or_from_slice_get}
use Rattle.hyd_num.proofs.Integers.{times_plus, times_minus, one_times}
use Rattle.hyd_num.specs.Rational.{whole}
use Rattle.hyd_num.specs.PrintedDecimals.{head_quantity, flow_quantity}
use Rattle.hyd_net.specs.NetworkRanges.{HasSizes}
use Rattle.hyd_net.specs.RoundedFileNumbers.{IsKindMade}
use Rattle.hyd_net.specs.ControlsAndRules.{IsControl, IsMoment}
use Rattle.hyd_net.specs.Sound.{IsSound}
use Rattle.hyd_spec.specs.ProgramTypes.{Project, Tank, Link, LinkState, Closed, Control, When, AtLevel, AtTime, AtClock}
use Rattle.hyd_spec.specs.declared.TankState.{TankState}
use Rattle.hyd_spec_certificates.specs.declared.Problem.TheVariants.{Main}
use Rattle.hyd_spec_certificates.specs.declared.Side.TheVariants.{Upper, Lower}
use Rattle.hyd_spec.specs.Lists.{map_from, present}
use Rattle.hyd_spec.specs.Scale.{at_scale}
use Rattle.hyd_spec_certificates.specs.Interval.{Interval, shifted}
use Rattle.hyd_spec.specs.DemandsHeadsAndPumpLifts.{is_us}
use Rattle.hyd_spec.specs.LinkLaw.{law_of, is_full, is_empty}
use Rattle.hyd_spec.specs.Assignment.{head_at, node_heads}
use Rattle.hyd_spec.specs.Tank.{walls_of, reaches, tank_inflow}
use Rattle.hyd_spec.specs.PumpPatternsAndSimpleControls.{acts_at, control_acts, patterned}
use Rattle.std.specs.Option.{option_and_then}
use Rattle.hyd_spec.specs.declared.Change.{Change}
use Rattle.hyd_spec.specs.declared.Source.{Source}
use Rattle.hyd_spec.specs.declared.Source.TheVariants.{Control as ByControl, Rule as ByRule}
use Rattle.hyd_spec_certificates.specs.declared.Event.{Event}
use Rattle.hyd_spec_certificates.specs.declared.EventKind.TheVariants.{Full as BecomesFull, Empty as BecomesEmpty}
use Rattle.hyd_spec_certificates.specs.declared.EventKind.TheVariants.{Control as ReachesLevel}
use Rattle.hyd_spec.specs.Rules.{Offer, is_same_state, state_of_link, best_offer, offers_from, change_by, change_of}
use Rattle.hyd_spec.specs.Rules.{rule_changes}
use Rattle.hyd_spec.specs.PeriodLength.{Period, level_at_start, stock_at_start, watched_after, values_at}
use Rattle.hyd_spec_certificates.specs.Stocks.{carried_levels}
use Rattle.hyd_spec_certificates.specs.ThreeValuedLogic.{at_both_ends, is_yes}
use Rattle.hyd_spec_certificates.specs.PeriodNetwork.{Grid, GridLink, grid_links}
use Rattle.hyd_spec_certificates.specs.FlowIntervals.{difference}
use Rattle.hyd_spec_certificates.specs.RecordAndStanding.{Record, Standing}
use Rattle.hyd_spec_certificates.specs.Decided.{links_at, acts_on, control_truth, nowhere, level_of_tank}
use Rattle.hyd_spec_certificates.specs.Decided.{stocks_of_tank, inflow_of_tank, carried_at, heads_below, heads_above}
use Rattle.hyd_spec_certificates.specs.Decided.{decided_changes, rule_truths, EndsBy, ByRules}
use Rattle.hyd_spec_certificates.specs.Decided.{by_rules as decided_by_rules}
use Rattle.hyd_spec_reports.specs.ReportLine.{ReportLine}
use Rattle.hyd_spec_reports.specs.Report.{IsTankLine, IsLinkLine}
use Rattle.hyd_spec_certificates.specs.ChangesAtStart.{control_changes, start_changes, changes_at}
use Rattle.hyd_spec_certificates.specs.EndsOfPeriods.{tank_event, tank_events, control_event, events_of}
use Rattle.hyd_spec_reports.specs.Report.{change_line, control_lines}
use Rattle.hyd_spec_reports.specs.Report.{event_line}
use Rattle.hyd_spec_certificates.specs.StatusesOfLinks.{status_of}
use Rattle.hyd_spec_certificates.specs.EndsOfPeriods.{EndBrings, at_end as brings_last}
use Rattle.hyd_spec_certificates.specs.EndsOfPeriods.{by_rules as brings_by_rules, by_clock as brings_by_clock}
use Rattle.hyd_spec_reports.specs.Report.{AreEndLines}
use Rattle.hyd_spec_reports.specs.Claims.{LineHolds, ReachesControl, ReachesAtEnd, difference_along}
use Rattle.hyd_spec_certificates.specs.StatusesOfLinks.{StatusHolds}
use Rattle.hyd_theorems_on_definitions.specs.LyingInIntervals.{LiesIn}
use Rattle.hyd_lemmas.proofs.ListsOptionsAndResults.{same_item}
use Rattle.hyd_lemmas.proofs.BooleanTests.{le-from, le-yes}
use Rattle.hyd_theorems_on_definitions.proofs.FlowsInBoxes.{heads_between}
use Rattle.hyd_theorems_on_definitions.proofs.DecidedByEnds.{control_tells}
use Rattle.hyd_theorems_on_histories.specs.Agreement.{IsUnder, IsOwnState, IsKept}
use Rattle.hyd_theorems_on_histories.proofs.ListsByPlace.{numbered_from_start}
use Rattle.hyd_theorems_on_histories.proofs.TargetsReached.{watched_above, watched_below}
use Rattle.hyd_theorems_on_histories.proofs.RuleReadingsBetweenEnds.{level_lies, stock_lies, inflow_within}
use Rattle.hyd_theorems_on_histories.proofs.TruthsAndRuleValues.{changes_are}
use Rattle.hyd_theorems_on_histories.proofs.WatchedLevels.{contains-here, contains-later, contains-cons, contains-none}
use Rattle.hyd_theorems_on_histories.proofs.WatchedLevels.{known-no, isnt-full, isnt-empty}
use Rattle.hyd_theorems_on_definitions.proofs.SoundTankLemmas.{sound_tank}
use Rattle.hyd_theorems_on_histories.proofs.PrintedValues.{prints_hold, head_proportional, flow_proportional}
use Rattle.hyd_theorems_on_runs.proofs.ReportTimeLinesHold.{IsCovered, flow_holds}
use Rattle.hyd_theorems_on_histories.proofs.ListsByPlace.{all_after}
use Rattle.hyd_theorems_on_definitions.proofs.StatusWords.{status_holds}

-- ---- lists

all-none : (X : Type 0) (Q : X → Type 0) (b : Bool) (xs : List X) → (b ≡ true → AllByRecursion Q xs) → (ys : List X)
    → (b ≡ false → AllByRecursion Q ys) → AllByRecursion Q (if b then xs else ys)
all-none X Q true xs p ys q = p refl
all-none X Q false xs p ys q = q refl

all-mapped : (X Y : Type 0) (Q : Y → Type 0) (f : X → Y) (xs : List X) → ((x : X) → Contains xs x → Q (f x))
    → AllByRecursion Q (map f xs)
all-mapped X Y Q f [] each = tt
all-mapped X Y Q f (x ∷ xs) each = (
  each x (contains-here X x xs),
  all-mapped X Y Q f xs
      (λ y c. each y (contains-later X y x xs c)),
)

all-present : (X Y : Type 0) (Q : Y → Type 0) (f : ℕ → X → Option Y) (from : ℕ) (xs : List X)
    → ((k : ℕ) (x : X) → slice_get xs k ≡ Some x → IfSome (f (from + k) x) Q)
    → AllByRecursion Q (present (map_from f from xs))
all-present X Y Q f from [] each = tt
all-present X Y Q f from (x ∷ xs) each =
    let n : from + 0 ≡ from = omega arith in
    let rest = all-present X Y Q f (suc from) xs (λ k y at. let m : from + suc k ≡ suc from + k = omega arith in
    subst (λ p. IfSome (f p y) Q) m (each (suc k) y at)) in
    by-case (f from x) (subst (λ m. IfSome (f m x) Q) n (each 0 x refl)) rest
  where
    by-case : (o : Option Y) → IfSome o Q → AllByRecursion Q (present (map_from f (suc from) xs))
        → AllByRecursion Q (present (o ∷ map_from f (suc from) xs))
    by-case None here rest = rest
    by-case (Some y) here rest = (here, rest)

all-lines : (X : Type 0) (Q : ReportLine → Type 0) (f : X → ReportLine) (xs : List X)
    → AllByRecursion (λ (x : X). Q (f x)) xs → AllByRecursion Q (map f xs)
all-lines X Q f [] all = tt
all-lines X Q f (x ∷ xs) all = (all.0, all-lines X Q f xs all.1)

in-all : (X : Type 0) (P : X → Type 0) (xs : List X) (x : X) → AllByRecursion P xs → Contains xs x → P x
in-all X P [] x all c = absurd (contains-none X x c)
in-all X P (y ∷ xs) x all c =
    elim (contains-cons X x y xs c) [ inl e ↦ subst P e all.0 | inr d ↦ in-all X P xs x all.1 d ]

-- ---- the sources of changes

abbrev IsByRule : Source → Type 0
IsByRule (ByRule rule) = ⊤
IsByRule (ByControl number) = ⊥

abbrev IsByControl : Source → Type 0
IsByControl (ByRule rule) = ⊥
IsByControl (ByControl number) = ⊤

-- what rules change, rules change
rules-change : (project : Project) (values : List Bool) (links : List LinkState)
    → AllByRecursion (λ (c : Change). IsByRule c.source) (rule_changes project values links)
rules-change project values links =
    all-present LinkState Change (λ c. IsByRule c.source) (change_of project values) 0 links
    (λ k state at. by-offer state (best_offer (0 + k) (offers_from 0 project.rules.list values)))
  where
    by-offer : (state : LinkState) (best : Option Offer)
        → IfSome (option_and_then (change_by state) best) (λ (c : Change). IsByRule c.source)
    by-offer state None = tt
    by-offer state (Some offer) =
        cond_both (is_same_state state offer.to) None
        (Some (record { source = ByRule offer.rule; link = offer.link; to = offer.to }))
        (λ o. IfSome o (λ (c : Change). IsByRule c.source)) (λ e. tt) (λ e. tt)

-- what controls change, controls change
controls-change : (project : Project) (time : ℕ) (acts : ℕ → Bool → ℤ → Bool) (k : ℕ) (controls : List Control)
    (links : List LinkState)
    → AllByRecursion (λ (c : Change). IsByControl c.source) (control_changes project time acts k controls links)
controls-change project time acts k [] links = tt
controls-change project time acts k (c ∷ controls) links =
    cond_both (control_acts project time acts c.when)
    ((if is_same_state (state_of_link links c.link) c.to then [] else record {
      source = ByControl k;
      link = c.link;
      to =
          c.to;
    } ∷ [])
    ++ control_changes project time acts (suc k) controls (slice_set links c.link c.to))
    (control_changes project time acts (suc k) controls links) (AllByRecursion (λ (x : Change). IsByControl x.source))
    (λ e. all_after Change (λ x. IsByControl x.source) _ _
    (cond_both (is_same_state (state_of_link links c.link) c.to) [] (record {
      source = ByControl k;
      link = c.link;
      to =
          c.to;
    } ∷ []) (AllByRecursion (λ (x : Change). IsByControl x.source)) (λ f. tt) (λ f. (tt, tt)))
    (controls-change project time acts (suc k) controls (slice_set links c.link c.to)))
    (λ e. controls-change project time acts (suc k) controls links)

-- ---- controls

pub same-changes : (project : Project) (time : ℕ) (acts others : ℕ → Bool → ℤ → Bool) (k : ℕ) (controls : List Control)
    → ((each : Control) → Contains controls each → control_acts project time acts each.when
    ≡ control_acts project time others each.when)
    → (links : List LinkState) → control_changes project time acts k controls links
    ≡ control_changes project time others k controls links
same-changes project time acts others k [] same links = refl
same-changes project time acts others k (c ∷ controls) same links =
    let first = same c (contains-here Control c controls) in
    let later = λ (each : Control) (contained : Contains controls each). same each
    (contains-later Control each c controls contained) in
    let set = same-changes project time acts others (suc k) controls later (slice_set links c.link c.to) in
    let kept = same-changes project time acts others (suc k) controls later links in
    λ i. if first i
    then (if is_same_state (state_of_link links c.link) c.to then [] else record {
      source = ByControl k;
      link =
          c.link;
      to = c.to;
    } ∷ []) ++ set i
    else kept i

-- ---- a link of the grid

same-ends : (project : Project) (tanks : List TankState) (links : List Link) (states : List LinkState) (l : ℕ)
    (link : Link) (place : GridLink)
    → slice_get links l ≡ Some link → slice_get (grid_links project tanks links states) l ≡ Some place
    → (place.from ≡ link.from) × (place.to ≡ link.to)
same-ends project tanks [] states l link place at is = absurd (cc)
same-ends project tanks (x ∷ links) [] l link place at is = absurd (cc)
same-ends project tanks (x ∷ links) (s ∷ states) zero link place at is =
    let a = same_item Link x link at in
    let b = same_item GridLink (record { from = x.from; to = x.to; law = law_of project tanks x s }) place is in
    ((λ i. (sym b i).from) ∙ ap (λ (y : Link). y.from) a, (λ i. (sym b i).to) ∙ ap (λ (y : Link). y.to) a)
same-ends project tanks (x ∷ links) (s ∷ states) (suc l) link place at is =
    same-ends project tanks links states l link place at is

record IsZipped (X Y : Type 0) (P : X → Y → Type 0) (ys : List Y) (k : ℕ) (x : X) : Type 0 where
  other : Y
  is_other : slice_get ys k ≡ Some other
  holds : P x other

zipped-at : (X Y : Type 0) (P : X → Y → Type 0) (xs : List X) (ys : List Y) (k : ℕ) (x : X) → slice_get xs k ≡ Some x
    → AllZip P xs ys → IsZipped X Y P ys k x
zipped-at X Y P [] ys k x at all = absurd (cc)
zipped-at X Y P (z ∷ xs) [] k x at all = absurd all
zipped-at X Y P (z ∷ xs) (y ∷ ys) zero x at all = record {
  other = y;
  is_other = refl;
  holds =
      subst (λ w. P w y) (same_item X z x at) all.0;
}
zipped-at X Y P (z ∷ xs) (y ∷ ys) (suc k) x at all = let r = zipped-at X Y P xs ys k x at all.1 in
    record { other = r.other; is_other = r.is_other; holds = r.holds }

-- ---- truths

and-parts : (a b : Bool) → (a && b) ≡ true → (a ≡ true) × (b ≡ true)
and-parts true b e = (refl, e)
and-parts false b e = absurd (cc)

not-parts : (a : Bool) → not a ≡ true → a ≡ false
not-parts true e = absurd (cc)
not-parts false e = refl

ends-yes : (a b : Bool) → is_yes (at_both_ends a b) ≡ true → (a ≡ true) × (b ≡ true)
ends-yes true true e = (refl, refl)
ends-yes true false e = absurd (cc)
ends-yes false true e = absurd (cc)
ends-yes false false e = absurd (cc)

yes-ends : (a b : Bool) → a ≡ true → b ≡ true → is_yes (at_both_ends a b) ≡ true
yes-ends true true e f = refl
yes-ends true false e f = f
yes-ends false b e f = absurd (cc)

-- a whole level at a target
reached-above : (t z : ℤ) → t ≤ℤ z → reaches 1 true t (whole z) ≡ true
reached-above t z h = le-from ((pos 1 *ℤ t) *ℤ pos 1) (z *ℤ pos 1) (omega (arith, ints, h, one_times t))

reached-below : (t z : ℤ) → z ≤ℤ t → reaches 1 false t (whole z) ≡ true
reached-below t z h = le-from (z *ℤ pos 1) ((pos 1 *ℤ t) *ℤ pos 1) (omega (arith, ints, h, one_times t))

above-reached : (t z : ℤ) → reaches 1 true t (whole z) ≡ true → t ≤ℤ z
above-reached t z e = let a = le-yes ((pos 1 *ℤ t) *ℤ pos 1) (z *ℤ pos 1) e in omega (arith, ints, a, one_times t)

below-reached : (t z : ℤ) → reaches 1 false t (whole z) ≡ true → z ≤ℤ t
below-reached t z e = let a = le-yes (z *ℤ pos 1) ((pos 1 *ℤ t) *ℤ pos 1) e in omega (arith, ints, a, one_times t)

module _ (project : Project) (sound : IsSound project) (S : ℕ) (commanded : List LinkState) (period : Period)
    (grid : Grid) (standing : Standing) (row : Record)
    (under : IsUnder project S period grid standing row) (kept : IsKept project standing)
    (own : AllZip (IsOwnState project) project.links.list (links_at project standing))
    (from_standing : commanded ≡ standing.commanded) (lasts : period.length ≡ row.length) where
  abbrev Holds : ReportLine → Type 0
  Holds each = LineHolds project S commanded period each

  pub covered : IsCovered project S period grid standing row
  covered = record {
    compared = under.compared;
    lower = under.certificates.each Main Lower tt;
    upper =
        under.certificates.each Main Upper tt;
  }

  -- ---- tanks at a report time

  shifted-lies : (b : ℤ) (x : Interval) (z : ℤ) → LiesIn S x z → LiesIn S (shifted b x) (at_scale S b +ℤ z)
  shifted-lies b x z lies = record {
    low = let l = lies.low in omega (arith, ints, l, times_plus S x.lo b);
    high = let h = lies.high in omega (arith, ints, h, times_plus S x.hi b);
  }

  pub tank_holds : (k : ℕ) (tank : Tank) (each : ReportLine) → slice_get project.tanks.list k ≡ Some tank
      → IsTankLine project grid standing row k tank each → Holds each
  tank_holds k tank each at line =
      let level = level_lies project S period grid standing row under k in
      let inflow = inflow_within project S period grid standing row under k tank at in
      subst Holds (sym line.is_line) (record {
        tank = tank;
        is_tank = at;
        head_lies = prints_hold S (head_quantity (is_us project)) (head_proportional (is_us project))
            (shifted tank.bottom (level_of_tank standing k)) line.head
            (at_scale S tank.bottom +ℤ level_at_start period k) line.head_is
            (shifted-lies tank.bottom (level_of_tank standing k) (level_at_start period k) level);
        level_lies = prints_hold S (head_quantity (is_us project)) (head_proportional (is_us project))
            (level_of_tank standing k) line.level (level_at_start period k) line.level_is level;
        inflow_lies = prints_hold S (flow_quantity project.options.unit) (flow_proportional project.options.unit)
            (inflow_of_tank project grid row k) line.inflow (tank_inflow project k period.assignment.flows)
            line.inflow_is inflow;
        state_is = ap (λ (ts : List TankState). slice_get ts k) under.tanks ∙ line.state_is;
      })

  -- ---- links at a report time

  difference-lies : (link : Link) (place : GridLink) → place.from ≡ link.from → place.to ≡ link.to
      → LiesIn S (difference place (heads_below grid row) (heads_above grid row))
      (difference_along project S period link)
  difference-lies link place from to =
      let between = heads_between project S period.time standing.levels period.levels period.tanks period.links
      period.assignment grid row.main.lower row.main.upper under.compared covered.lower covered.upper in
      let heads = node_heads project S period.time period.levels period.assignment.heads in
      subst (λ m. LiesIn S (difference place (heads_below grid row) (heads_above grid row))
      (head_at heads m -ℤ head_at heads link.to)) from
      (subst (λ m. LiesIn S (difference place (heads_below grid row) (heads_above grid row))
      (head_at heads place.from -ℤ head_at heads m)) to
      (record {
        low = let l = (between place.from).low in let h = (between place.to).high in
            omega (
              arith,
              ints,
              l,
              h,
              times_minus S (head_at (heads_below grid row) place.from)
                  (head_at (heads_above grid row) place.to),
            );
        high = let l = (between place.to).low in let h = (between place.from).high in
            omega (
              arith,
              ints,
              l,
              h,
              times_minus S (head_at (heads_above grid row) place.from)
                  (head_at (heads_below grid row) place.to),
            );
      }))

  link-made : (l : ℕ) (link : Link) → slice_get project.links.list l ≡ Some link
      → IsKindMade project.options.unit link.kind
  link-made l link at =
      subst (λ (x : Link). IsKindMade project.options.unit x.kind)
      (get_or_from_slice_get project.links.list l link link at)
      (sound.made.links l link (slice_get_within project.links.list l link at))

  link-sizes : (l : ℕ) (link : Link) → slice_get project.links.list l ≡ Some link
      → HasSizes project.options.unit project.patterns.list project.bends.list link.kind
  link-sizes l link at =
      subst (λ (x : Link). HasSizes project.options.unit project.patterns.list project.bends.list x.kind)
      (get_or_from_slice_get project.links.list l link link at)
      (sound.quantities.links l link (slice_get_within project.links.list l link at))

  pub link_holds : (l : ℕ) (link : Link) (each : ReportLine) → slice_get project.links.list l ≡ Some link
      → IsLinkLine project grid standing row l link each → Holds each
  link_holds l link each at line =
      let found = zipped-at Link LinkState (IsOwnState project) project.links.list (links_at project standing)
      l link at own in
      let state = found.other in
      let same : state_of_link (links_at project standing) l ≡ state =
      get_or_from_slice_get (links_at project standing) l state Closed found.is_other in
      let ends = same-ends project period.tanks project.links.list period.links l link line.place at
      (subst (λ ls. slice_get ls l ≡ Some line.place) under.compared.is_grid.links_are line.place_is) in
      let d = difference line.place (heads_below grid row) (heads_above grid row) in
      subst Holds (sym line.is_line) (record {
        link = link;
        is_link = at;
        state = state;
        is_state = ap (λ (ls : List LinkState). slice_get ls l) under.links ∙ found.is_other;
        flow_lies = flow_holds project S commanded period grid standing row covered l line.box line.flow line.box_is
            line.flow_is;
        status_holds =
            subst (λ s. StatusHolds (is_us project) project.bends.list
            (status_of (is_us project) project.bends.list link.kind s d) link.kind state S
            (difference_along project S period link)) (sym same)
            (status_holds project.options.unit (is_us project) project.patterns.list project.bends.list link.kind state
            S d (difference_along project S period link) under.compared.some
            (link-made l link at) (link-sizes l link at) (difference-lies link line.place ends.0 ends.1));
      })

  -- ---- events

  end-time : standing.time + row.length ≡ period.time + period.length
  end-time = let t = under.time in omega (arith, t, lasts)

  carried-is : (k : ℕ) (tank : Tank) (level : Interval) → slice_get project.tanks.list k ≡ Some tank
      → slice_get (carried_at project grid standing row row.length) k ≡ Some level
      → level ≡ carried_levels (walls_of project tank) tank (stocks_of_tank standing k)
      (inflow_of_tank project grid row k) row.length
  carried-is k tank level at is =
      sym (get_or_from_slice_get (carried_at project grid standing row row.length) k level nowhere is)
      ∙ numbered_from_start Tank Interval (λ n t. carried_levels (walls_of project t) t (stocks_of_tank standing n)
      (inflow_of_tank project grid row n) row.length) project.tanks.list k tank nowhere at

  abbrev end : ℕ
  end = standing.time + row.length

  -- what holds of an event at the end
  abbrev Happens : Event → Type 0
  Happens event = Holds (event_line end event)

  reached-so : (k : ℕ) (tank : Tank) (above : Bool) (target : ℤ) → slice_get project.tanks.list k ≡ Some tank
      → reaches S above target (watched_after project S period k tank row.length) ≡ true
      → ReachesAtEnd project S period end k above target
  reached-so k tank above target at reached = record {
    at_end = end-time;
    tank = tank;
    is_tank = at;
    reached = subst (λ s. reaches S above target (watched_after project S period k tank s) ≡ true) (sym lasts) reached;
  }

  come-up : (k : ℕ) (tank : Tank) (target : ℤ) → slice_get project.tanks.list k ≡ Some tank → tank.minimum <ℤ target
      → target ≤ℤ (carried_levels (walls_of project tank) tank (stocks_of_tank standing k)
      (inflow_of_tank project grid row k) row.length).lo
      → ReachesAtEnd project S period end k true target
  come-up k tank target at over reached = reached-so k tank true target at
      (watched_above S (walls_of project tank) tank (stocks_of_tank standing k) (inflow_of_tank project grid row k)
      target row.length (stock_at_start period k)
      (tank_inflow project k period.assignment.flows) under.compared.some (under.vessels k tank at)
      (stock_lies project S period grid standing row under k)
      (inflow_within project S period grid standing row under k tank at) over reached)

  come-down : (k : ℕ) (tank : Tank) (target : ℤ) → slice_get project.tanks.list k ≡ Some tank → target <ℤ tank.maximum
      → (carried_levels (walls_of project tank) tank (stocks_of_tank standing k) (inflow_of_tank project grid row k)
      row.length).hi ≤ℤ target
      → ReachesAtEnd project S period end k false target
  come-down k tank target at below reached = reached-so k tank false target at
      (watched_below S (walls_of project tank) tank (stocks_of_tank standing k) (inflow_of_tank project grid row k)
      target row.length (stock_at_start period k)
      (tank_inflow project k period.assignment.flows) under.compared.some (under.vessels k tank at)
      (stock_lies project S period grid standing row under k)
      (inflow_within project S period grid standing row under k tank at) below reached)

  own-state : (k : ℕ) (state : TankState) → slice_get standing.tanks k ≡ Some state
      → slice_get period.tanks k ≡ Some state
  own-state k state is = ap (λ (ts : List TankState). slice_get ts k) under.tanks ∙ is

  tank-event-holds : (k : ℕ) (tank : Tank) (state : TankState) (level : Interval)
      → slice_get project.tanks.list k ≡ Some tank → slice_get standing.tanks k ≡ Some state
      → level ≡ carried_levels (walls_of project tank) tank (stocks_of_tank standing k)
      (inflow_of_tank project grid row k) row.length
      → AllByRecursion Happens (tank_event k tank state level)
  tank-event-holds k tank state level at is same =
      let apart = (sound_tank project sound k tank at).ranges.apart in
      all-none Event Happens (not (is_full state) && int_le tank.maximum level.lo)
      (record { tank = k; what = BecomesFull } ∷ [])
      (λ e.
      let parts = and-parts (not (is_full state)) (int_le tank.maximum level.lo) e in
      let lo : tank.maximum ≤ℤ level.lo = le-yes tank.maximum level.lo parts.1 in (
        record {
          tank = tank;
          is_tank = at;
          before = λ full. isnt-full state (not-parts (is_full state) parts.0) (sym (own-state k state is) ∙ full);
          reaches_it = come-up k tank tank.maximum at (omega (arith, ints, apart))
              (subst (λ x. tank.maximum ≤ℤ x.lo) same lo);
        },
        tt,
      ))
      (if not (is_empty state) && int_le level.hi tank.minimum then record {
        tank = k;
        what =
            BecomesEmpty;
      } ∷ [] else [])
      (λ e. all-none Event Happens (not (is_empty state) && int_le level.hi tank.minimum)
      (record { tank = k; what = BecomesEmpty } ∷ [])
      (λ f.
      let parts = and-parts (not (is_empty state)) (int_le level.hi tank.minimum) f in
      let hi : level.hi ≤ℤ tank.minimum = le-yes level.hi tank.minimum parts.1 in (
        record {
          tank = tank;
          is_tank = at;
          before = λ empty. isnt-empty state (not-parts (is_empty state) parts.0) (sym (own-state k state is) ∙ empty);
          reaches_it = come-down k tank tank.minimum at (omega (arith, ints, apart))
              (subst (λ x. x.hi ≤ℤ tank.minimum) same hi);
        },
        tt,
      ))
      [] (λ f. tt))

  all-tank-events : (from : ℕ) (tanks : List Tank) (states : List TankState) (levels : List Interval)
      → ((k : ℕ) (tank : Tank) (state : TankState) (level : Interval) → slice_get tanks k ≡ Some tank
      → slice_get states k ≡ Some state → slice_get levels k ≡ Some level
      → AllByRecursion Happens (tank_event (from + k) tank state level))
      → AllByRecursion Happens (tank_events from tanks states levels)
  all-tank-events from [] states levels each = tt
  all-tank-events from (tank ∷ tanks) [] levels each = tt
  all-tank-events from (tank ∷ tanks) (state ∷ states) [] each = tt
  all-tank-events from (tank ∷ tanks) (state ∷ states) (level ∷ levels) each =
      let n : from + 0 ≡ from = omega arith in
      all_after Event Happens (tank_event from tank state level) (tank_events (suc from) tanks states levels)
      (subst (λ m. AllByRecursion Happens (tank_event m tank state level)) n (each 0 tank state level refl refl refl))
      (all-tank-events (suc from) tanks states levels (λ k t s x at is in_place.
      let m : from + suc k ≡ suc from + k = omega arith in
      subst (λ p. AllByRecursion Happens (tank_event p t s x)) m (each (suc k) t s x at is in_place)))

  -- ---- level controls

  level-there : (number : ℕ) (control : Control) (k : ℕ) (above : Bool) (ticks : ℤ)
      → slice_get project.controls.list number ≡ Some control → control.when ≡ AtLevel k above ticks
      → (tank : Tank) × (slice_get project.tanks.list k ≡ Some tank)
  level-there number control k above ticks at is =
      let inside = slice_get_within project.controls.list number control at in
      let command : IsControl project control =
      subst (IsControl project) (get_or_from_slice_get project.controls.list number control control at)
      (sound.controls number control inside) in
      let moment : IsMoment project (AtLevel k above ticks) = subst (IsMoment project) is command.moment in
      there project.tanks.list k moment.0
    where
      there : (tanks : List Tank) (k : ℕ) → k < length tanks → (tank : Tank) × (slice_get tanks k ≡ Some tank)
      there [] k le = absurd (omega (arith, le))
      there (t ∷ tanks) zero le = (t, refl)
      there (t ∷ tanks) (suc k) le = there tanks k (omega (arith, le))

  contains-at : (number : ℕ) (control : Control) → slice_get project.controls.list number ≡ Some control
      → Contains project.controls.list control
  contains-at number control at = (
    number,
    slice_get_within project.controls.list number control at,
    get_or_from_slice_get project.controls.list
        number control control at,
  )

  int-no : (a b : ℤ) → int_le a b ≡ false → b <ℤ a
  int-no a b e = grind (arith, ints)

  -- where a control didn't act and its tank's whole interval of carried levels has reached its level, that level
  -- isn't the bound at which the tank would be held, since each level at the start would have reached it
  control-reached : (k : ℕ) (tank : Tank) (above : Bool) (ticks : ℤ) → slice_get project.tanks.list k ≡ Some tank
      → acts_on standing.levels k above ticks ≡ false
      → is_yes (control_truth (carried_levels (walls_of project tank) tank (stocks_of_tank standing k)
      (inflow_of_tank project grid row k) row.length) above ticks) ≡ true
      → ReachesAtEnd project S period end k above ticks
  control-reached k tank true ticks at before after =
      let level = level_of_tank standing k in
      let carried = carried_levels (walls_of project tank) tank (stocks_of_tank standing k)
      (inflow_of_tank project grid row k) row.length in
      let bounds = kept.levels k tank at in
      let ends = ends-yes (reaches 1 true ticks (whole carried.lo)) (reaches 1 true ticks (whole carried.hi)) after in
      elim (cases_Bool (int_le ticks tank.minimum)) [
        | inl low ↦ absurd (
            let l : ticks ≤ℤ tank.minimum = le-yes ticks tank.minimum low in
            let a = bounds.lo_above in let b = bounds.hi_above in
            let held : is_yes (control_truth level true ticks) ≡ true =
            yes-ends (reaches 1 true ticks (whole level.lo)) (reaches 1 true ticks (whole level.hi))
            (reached-above ticks level.lo (omega (arith, ints, l, a)))
            (reached-above ticks level.hi (omega (arith, ints, l, b))) in
            cc)
        | inr high ↦ come-up k tank ticks at (int-no ticks tank.minimum high) (above-reached ticks carried.lo ends.0)
      ]
  control-reached k tank false ticks at before after =
      let level = level_of_tank standing k in
      let carried = carried_levels (walls_of project tank) tank (stocks_of_tank standing k)
      (inflow_of_tank project grid row k) row.length in
      let bounds = kept.levels k tank at in
      let ends = ends-yes (reaches 1 false ticks (whole carried.lo)) (reaches 1 false ticks (whole carried.hi)) after in
      elim (cases_Bool (int_le tank.maximum ticks)) [
        | inl high ↦ absurd (
            let l : tank.maximum ≤ℤ ticks = le-yes tank.maximum ticks high in
            let a = bounds.lo_below in let b = bounds.hi_below in
            let held : is_yes (control_truth level false ticks) ≡ true =
            yes-ends (reaches 1 false ticks (whole level.lo)) (reaches 1 false ticks (whole level.hi))
            (reached-below ticks level.lo (omega (arith, ints, l, a)))
            (reached-below ticks level.hi (omega (arith, ints, l, b))) in
            cc)
        | inr low ↦ come-down k tank ticks at (int-no tank.maximum ticks low) (below-reached ticks carried.hi ends.1)
      ]

  abbrev carried : List Interval
  carried = carried_at project grid standing row row.length

  control-event-holds : (number : ℕ) (control : Control) → slice_get project.controls.list number ≡ Some control
      → IfSome (control_event standing.levels carried number control) Happens
  control-event-holds number control at = by-when control.when refl
    where
      reaches-it : (k : ℕ) (above : Bool) (ticks : ℤ) → control.when ≡ AtLevel k above ticks
          → (not (acts_on standing.levels k above ticks) && is_yes
          (control_truth (slice_index_or carried k nowhere) above ticks)) ≡ true
          → ReachesControl project S period end k number
      reaches-it k above ticks is e =
          let there = level-there number control k above ticks at is in
          let tank = there.0 in
          let parts = and-parts (not (acts_on standing.levels k above ticks))
          (is_yes (control_truth (slice_index_or carried k nowhere) above ticks)) e in
          let before = not-parts (acts_on standing.levels k above ticks) parts.0 in
          let same = numbered_from_start Tank Interval (λ n t. carried_levels (walls_of project t) t
          (stocks_of_tank standing n) (inflow_of_tank project grid row n) row.length)
          project.tanks.list k tank nowhere there.1 in
          record {
            control = control;
            is_control = at;
            above = above;
            ticks = ticks;
            is_level = is;
            before = known-no (control_truth (level_of_tank standing k) above ticks)
                (reaches S above ticks (whole (level_at_start period k)))
                (control_tells S (level_of_tank standing k) above ticks (level_at_start period k) under.compared.some
                (level_lies project S period grid standing row under k))
                (under.controls control k above ticks (contains-at number control at) is) before;
            reaches_it = control-reached k tank above ticks there.1 before
                (subst (λ (x : Interval). is_yes (control_truth x above ticks) ≡ true) same parts.1);
          }

      if-so : (b : Bool) (k : ℕ) → (b ≡ true → ReachesControl project S period end k number)
          → IfSome (if b then Some (record { tank = k; what = ReachesLevel number }) else None) Happens
      if-so true k h = h refl
      if-so false k h = tt

      by-when : (w : When) → control.when ≡ w → IfSome (control_event standing.levels carried number control) Happens
      by-when (AtLevel k above ticks) is =
          let same : control_event standing.levels carried number control
          ≡ (if not (acts_on standing.levels k above ticks) && is_yes
          (control_truth (slice_index_or carried k nowhere) above ticks) then Some
          (record { tank = k; what = ReachesLevel number }) else None) = rw is refl in
          subst (λ o. IfSome o Happens) (sym same)
          (if-so (not (acts_on standing.levels k above ticks) && is_yes
          (control_truth (slice_index_or carried k nowhere) above ticks)) k (reaches-it k above ticks is))
      by-when (AtTime t) is = let same : control_event standing.levels carried number control ≡ None = rw is refl in
          subst (λ o. IfSome o Happens) (sym same) tt
      by-when (AtClock t) is = let same : control_event standing.levels carried number control ≡ None = rw is refl in
          subst (λ o. IfSome o Happens) (sym same) tt

  pub events_happen : AllByRecursion Happens (events_of project grid standing row)
  events_happen = all_after Event Happens _ _
      (all-tank-events 0 project.tanks.list standing.tanks carried
      (λ k tank state level at is in_place. let n : k ≡ 0 + k = omega arith in
      subst (λ m. AllByRecursion Happens (tank_event m tank state level)) n (tank-event-holds k tank state level at is
      (carried-is k tank level at in_place))))
      (all-present Control Event Happens (control_event standing.levels carried) 0 project.controls.list
      (λ k control at. let n : k ≡ 0 + k = omega arith in
      subst (λ m. IfSome (control_event standing.levels carried m control) Happens) n
      (control-event-holds k control at)))

  event-lines-hold : AllByRecursion Holds (map (event_line end) (events_of project grid standing row))
  event-lines-hold = all-lines Event Holds (event_line end) (events_of project grid standing row) events_happen

  -- ---- rules

  rule-lines-hold : EndsBy project grid standing row (ByRules row.length)
      → AllByRecursion Holds (map (change_line end) (decided_changes project grid standing row row.length))
  rule-lines-hold (decided_by_rules first known) =
      let changes = decided_changes project grid standing row row.length in
      all-mapped Change ReportLine Holds (change_line end) changes
      (λ change contained. by-source change contained change.source refl
      (in-all Change (λ c. IsByRule c.source) changes change
      (rules-change project (map is_yes (rule_truths project grid standing row row.length))
      (links_at project standing)) contained))
    where
      by-source : (change : Change) → Contains (decided_changes project grid standing row row.length) change
          → (s : Source) → change.source ≡ s → IsByRule s → Holds (change_line end change)
      by-source change contained (ByControl number) is other = absurd other
      by-source change contained (ByRule rule) is own =
          let same : change ≡ record { source = ByRule rule; link = change.link; to = change.to } =
          λ i. record { source = is i; link = change.link; to = change.to } in
          subst (λ c. Holds (change_line end c)) (sym same) (record {
            at_end = end-time;
            is_tried = first.first.holds.tried.is_multiple;
            is_change = subst (λ c. Contains (rule_changes project (values_at project S period end) period.links) c)
                same
                (subst (λ cs. Contains cs change)
                (changes_are project sound S period grid standing row under row.length end refl known) contained);
          })

  -- ---- the start

  pub control_lines_hold : start_changes project standing.time (acts_on standing.levels) standing.commanded
      ≡ start_changes project period.time (acts_at S period.levels) commanded
      → AllByRecursion Holds (control_lines project standing)
  control_lines_hold agree =
      all-mapped Change ReportLine Holds (change_line standing.time) (changes_at project standing)
      (λ change contained. by-source change contained change.source refl
      (in-all Change (λ c. IsByControl c.source) (changes_at project standing) change
      (controls-change project standing.time (acts_on standing.levels) 0 project.controls.list
      (patterned project standing.time standing.commanded)) contained))
    where
      by-source : (change : Change) → Contains (changes_at project standing) change → (s : Source) → change.source ≡ s
          → IsByControl s → Holds (change_line standing.time change)
      by-source change contained (ByRule rule) is other = absurd other
      by-source change contained (ByControl number) is own =
          let same : change ≡ record { source = ByControl number; link = change.link; to = change.to } =
          λ i. record { source = is i; link = change.link; to = change.to } in
          subst (λ c. Holds (change_line standing.time c)) (sym same) (record {
            at_start = sym under.time;
            is_change = subst (λ c. Contains (start_changes project period.time (acts_at S period.levels) commanded) c)
                same (subst (λ cs. Contains cs change) agree contained);
          })

  -- ---- the end

  end-brings : (events : List Event) (changes : List Change) → EndBrings project grid standing row events changes
      → AllByRecursion Holds (map (event_line end) events ++ map (change_line end) changes)
  end-brings _ _ (brings_last e) = tt
  end-brings _ _ (brings_by_rules ends) = all_after ReportLine Holds _ _ event-lines-hold (rule-lines-hold ends)
  end-brings _ _ (brings_by_clock ends) = all_after ReportLine Holds _ _ event-lines-hold tt

  pub end_lines_hold : (lines : List ReportLine) → AreEndLines project grid standing row lines
      → AllByRecursion Holds lines
  end_lines_hold lines are = subst (AllByRecursion Holds) (sym are.lines_are)
      (end-brings are.events are.changes are.brings)
