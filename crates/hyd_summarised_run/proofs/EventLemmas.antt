-- The events among the lines of a period are those of its facts.
use Rattle.std.proofs.Common.{◌≡◌, ℕ, suc, ◌+◌, Bool, true, false, cond, List, [], ◌∷◌, ◌++◌, length, length-append}
use Rattle.std.proofs.Common.{map, refl, ap, ◌∙◌, arith, take, drop}
use Rattle.std.specs.Prelude.{filter, if◌then◌else◌}
use Rattle.std.proofs.lemmas.List.Elements.{filter-append}
use Rattle.hyd_spec.specs.ProgramTypes.{Project, LinkState}
use Rattle.hyd_spec.specs.Lists.{map_from}
use Rattle.hyd_spec.specs.declared.Change.{Change}
use Rattle.hyd_spec.specs.declared.Source.{Source}
use Rattle.hyd_spec.specs.declared.Source.TheVariants.{Control as ByControl, Rule as ByRule}
use Rattle.hyd_spec_certificates.specs.PeriodNetwork.{Grid}
use Rattle.hyd_spec_certificates.specs.RecordAndStanding.{Record}
use Rattle.hyd_spec_certificates.specs.declared.Event.{Event}
use Rattle.hyd_spec_certificates.specs.declared.EventKind.{EventKind}
use Rattle.hyd_spec_certificates.specs.declared.EventKind.TheVariants.{Full as BecomesFull, Empty as BecomesEmpty}
use Rattle.hyd_spec_certificates.specs.declared.EventKind.TheVariants.{Control as ReachesLevel}
use Rattle.hyd_spec_certificates.specs.PrintedIntervals.{is_report_time}
use Rattle.hyd_spec_reports.specs.Report.{event_line}
use Rattle.hyd_spec_reports.specs.Report.{change_line}
use Rattle.hyd_spec_reports.specs.ReportLine.{ReportLine, TimeLine}
use Rattle.hyd_spec_summary.specs.Summary.{is_event, event_count}
use Rattle.hyd_period_facts.specs.declared.facts.Facts.{Facts}
use Rattle.hyd_spec_certificates.specs.Decided.{heads_below, heads_above}
use Rattle.hyd_report.specs.NodeAndLinkLines.{junction_line, reservoir_line, tank_line, link_line}
use Rattle.hyd_report.specs.EventTextsAndChangesByRules.{before_rules}
use Rattle.hyd_report.specs.PeriodLines.{lines_of, state_lines, start_lines, middle_lines, end_lines}

pub events-append : (xs ys : List ReportLine) → event_count (xs ++ ys) ≡ event_count xs + event_count ys
events-append xs ys =
    ap length (filter-append is_event xs ys) ∙ length-append (filter is_event xs) (filter is_event ys)

with-none : {X : Type 0} (test : X → Bool) (x : X) (xs : List X) → test x ≡ false
    → length (filter test (x ∷ xs)) ≡ length (filter test xs)
with-none test x xs e = ap (λ (b : Bool). length (cond b (x ∷ filter test xs) (filter test xs))) e

with-one : {X : Type 0} (test : X → Bool) (x : X) (xs : List X) → test x ≡ true
    → length (filter test (x ∷ xs)) ≡ suc (length (filter test xs))
with-one test x xs e = ap (λ (b : Bool). length (cond b (x ∷ filter test xs) (filter test xs))) e

-- ---- lines that tell of none

no-events : {X : Type 0} (f : X → ReportLine) → ((x : X) → is_event (f x) ≡ false) → (xs : List X)
    → event_count (map f xs) ≡ 0
no-events f none [] = refl
no-events f none (x ∷ xs) = with-none is_event (f x) (map f xs) (none x) ∙ no-events f none xs

no-events-from : {X : Type 0} (f : ℕ → X → ReportLine) → ((k : ℕ) (x : X) → is_event (f k x) ≡ false) → (k : ℕ)
    (xs : List X) → event_count (map_from f k xs) ≡ 0
no-events-from f none k [] = refl
no-events-from f none k (x ∷ xs) =
    with-none is_event (f k x) (map_from f (suc k) xs) (none k x) ∙ no-events-from f none (suc k) xs

by-source : (source : Source) (time link : ℕ) (to : LinkState)
    → is_event (change_line time (record { source = source; link = link; to = to })) ≡ false
by-source (ByControl number) time link to = refl
by-source (ByRule rule) time link to = refl

changes : (time : ℕ) (list : List Change) → event_count (map (change_line time) list) ≡ 0
changes time list = no-events (change_line time) (λ change. by-source change.source time change.link change.to) list

none-then : (xs ys : List ReportLine) → event_count xs ≡ 0 → event_count (xs ++ ys) ≡ event_count ys
none-then xs ys e = (let a = events-append xs ys in omega (arith, a, e))

-- ---- lines that tell of one each

by-kind : (what : EventKind) (time tank : ℕ) → is_event (event_line time (record { tank = tank; what = what })) ≡ true
by-kind BecomesFull time tank = refl
by-kind BecomesEmpty time tank = refl
by-kind (ReachesLevel control) time tank = refl

events : (time : ℕ) (list : List Event) → event_count (map (event_line time) list) ≡ length list
events time [] = refl
events time (event ∷ list) =
    with-one is_event (event_line time event) (map (event_line time) list) (by-kind event.what time event.tank)
    ∙ ap suc (events time list)

-- ---- a period

states : (project : Project) (grid : Grid) (links : List LinkState) (row : Record) (facts : Facts)
    → event_count (state_lines project grid links row facts) ≡ 0
states project grid links row facts =
    let junctions = map_from (junction_line project row.main.lower row.main.upper) 0 grid.junctions in
    let reservoirs = map_from (reservoir_line project) 0 grid.reservoirs in
    let tanks = map_from (tank_line project facts.levels.list facts.inflows.list facts.tanks.list) 0
    project.tanks.list in
    let pipes = map_from (link_line project grid (heads_below grid row) (heads_above grid row) links) 0
    project.links.list in
    with-none is_event (TimeLine facts.time) (junctions ++ (reservoirs ++ (tanks ++ pipes))) refl
    ∙ (none-then junctions (reservoirs ++ (tanks ++ pipes))
    (no-events-from (junction_line project row.main.lower row.main.upper) (λ k x. refl) 0 grid.junctions)
    ∙ (none-then reservoirs (tanks ++ pipes)
    (no-events-from (reservoir_line project) (λ k x. refl) 0 grid.reservoirs)
    ∙ (none-then tanks pipes
    (no-events-from (tank_line project facts.levels.list facts.inflows.list facts.tanks.list) (λ k x. refl) 0
    project.tanks.list)
    ∙ no-events-from (link_line project grid (heads_below grid row) (heads_above grid row) links) (λ k x. refl) 0
    project.links.list)))

middle : (project : Project) (grid : Grid) (links : List LinkState) (row : Record) (facts : Facts) (b : Bool)
    → event_count (if b then state_lines project grid links row facts else []) ≡ 0
middle project grid links row facts false = refl
middle project grid links row facts true = states project grid links row facts

last : (facts : Facts) → event_count (end_lines facts) ≡ length facts.events.list
last facts =
    let end = facts.time + facts.length in
    let ruled = drop (before_rules facts.changes.list) facts.changes.list in
    events-append (map (event_line end) facts.events.list) (map (change_line end) ruled)
    ∙ (let e = events end facts.events.list in let c = changes end ruled in omega (arith, e, c))

-- the events of a period are those of its facts
pub period-events : (project : Project) (grid : Grid) (links : List LinkState) (row : Record) (facts : Facts)
    → event_count (lines_of project grid links row facts) ≡ length facts.events.list
period-events project grid links row facts =
    none-then (start_lines facts) (middle_lines project grid links row facts ++ end_lines facts)
    (changes facts.time (take (before_rules facts.changes.list) facts.changes.list))
    ∙ (none-then (middle_lines project grid links row facts) (end_lines facts)
    (middle project grid links row facts (is_report_time project facts.time)) ∙ last facts)
