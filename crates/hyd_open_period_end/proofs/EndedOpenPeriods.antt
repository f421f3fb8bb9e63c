-- A period that was ended by its vectors, whose start or end may be open: what holds of its facts and of what is left
-- behind it, and of what its vectors leave open.
use Rattle.std.proofs.Common.{◌≡◌, ◌≢◌, ℕ, ◌+◌, ◌<◌, ◌≤◌, inl, inr, List, [], ◌++◌, refl, sym, ap, subst, ◌∙◌}
use Rattle.std.proofs.Common.{arith, append-nil, ◌^◌, map}
use Rattle.std.specs.Prelude.{Option, Some, position}
use Rattle.std.proofs.lemmas.Bool.{cases_lt}
use Rattle.hyd_net.specs.Sound.{IsSound}
use Rattle.hyd_spec.specs.ProgramTypes.{Project}
use Rattle.hyd_spec.specs.declared.Change.{Change}
use Rattle.hyd_spec.specs.declared.TankState.{TankState}
use Rattle.hyd_spec_certificates.specs.SpansAsIntervals.{flows_of, levels_of}
use Rattle.hyd_spec_certificates.specs.Interval.{Interval}
use Rattle.hyd_spec_certificates.specs.declared.Event.{Event as Happens}
use Rattle.hyd_spec_certificates.specs.PeriodNetwork.{Grid}
use Rattle.hyd_spec_certificates.specs.RecordAndStanding.{Record}
use Rattle.hyd_spec_certificates.specs.Decided.{Watch, End, RuleIsOpen, EventIsOpen}
use Rattle.hyd_spec_certificates.specs.Valid.{AreStates, ControlsAreDecided}
use Rattle.hyd_spec_certificates.specs.Stops.{IsTightRow, open_states, is_open_control}
use Rattle.hyd_spec_open_ends.specs.InstantsOfClock.{AreSecondsToInstant, duration as is_duration}
use Rattle.hyd_spec_open_ends.specs.OpenStandings.{OpenStanding, OpenRecord}
use Rattle.hyd_spec_open_ends.specs.OpenEnds.{Way, ByRules, ByInstant, ByWatched, EndsIn, by_rules, by_instant}
use Rattle.hyd_spec_open_ends.specs.OpenEnds.{by_watched, AreSeconds, shortest_length, longest_length, first_end}
use Rattle.hyd_spec_open_ends.specs.OpenEnds.{late_at_end}
use Rattle.hyd_spec_open_ends.specs.OpenEnds as ends
use Rattle.hyd_spec_open_ends.specs.Arrivals.{Arrives}
use Rattle.hyd_spec_open_ends.specs.OpenRecords.{levels_left, volumes_left, links_left}
use Rattle.hyd_spec_open_reports.specs.OpenReport.{events_left}
use Rattle.hyd_spec_open_reports.specs.OpenReport as report
use Rattle.hyd_spec_open_refusals.specs.RefusedOpenRecords.{lasting, AreLevelsLeft, LeavesMatterOpen}
use Rattle.hyd_spec_open_refusals.specs.RefusedOpenRecords.{end as end_open, tank as tank_open}
use Rattle.hyd_spec_open_refusals.specs.RefusedOpenRecords.{control as control_open, HasLengths, HasOtherLengths}
use Rattle.hyd_spec_open_refusals.specs.RefusedOpenRecords.{before_end}
use Rattle.hyd_theorems_on_definitions.proofs.OneRefusal.{states-decided, controls-decided}
use Rattle.hyd_theorems_on_open_ends.proofs.OneOpenEnd.{not_both, one_way}
use Rattle.hyd_theorems_on_open_stops.proofs.ArrivalsDecided.{one_reached}
use Rattle.hyd_tank.specs.StockIntervals.{volumes_of}
use Rattle.hyd_period_facts.specs.declared.facts.Facts.{Facts}
use Rattle.hyd_period_facts.specs.FactsBeforeEnd.{AreStarted}
use Rattle.hyd_period_facts.specs.TankStart.{IsFirstOpen}
use Rattle.hyd_period_length.specs.TriedRules.{open_rule}
use Rattle.hyd_period_end.specs.FactsBeforeVectors.{AreBegun}
use Rattle.hyd_period_end.specs.OpenMatters.{SharesVectors, IsFirstControl}
use Rattle.hyd_period_end.specs.declared.undecided.Open.{Open}
use Rattle.hyd_period_end.specs.declared.undecided.Open.TheVariants.{Rule, Event, Tank, Control}
use Rattle.hyd_open_ends.specs.Ways.{changes_left}
use Rattle.hyd_open_facts.specs.FactsOfOpenPeriod.{EndBringsOpenly, at_known, at_open}
use Rattle.hyd_open_period_end.specs.declared.open_period_end.OpenPeriodEnd.{OpenPeriodEnd}
use Rattle.hyd_open_period_end.specs.EndOfOpenPeriod.{IsClosedOpenly}
use Rattle.hyd_open_period_end.specs.OpenMatters.{EndsOpenlyWith, IsOpenlyOpenAt, IsOpenAmong, IsLeftOpen}

-- ---- seconds

module _ (project : Project) (sound : IsSound project) (grid : Grid) (standing : OpenStanding) (row : Record)
    (before : standing.known.time < project.times.duration) where
  cap-in-time : (cap : ℕ) → AreSecondsToInstant project standing.known.time cap
      → standing.known.time + cap ≤ project.times.duration
  cap-in-time cap is = is.least project.times.duration (before, is_duration refl)

  some-cap : (cap : ℕ) → AreSecondsToInstant project standing.known.time cap → 0 < cap
  some-cap cap is = let later = is.holds.0 in omega (arith, later)

  earliest-by-cap : (cap earliest latest : ℕ) → AreSeconds project grid standing.known row cap earliest latest
      → earliest ≤ cap
  earliest-by-cap cap earliest latest x = x.is_earliest.least cap (inl refl)

  some-earliest : (cap earliest latest : ℕ) → AreSeconds project grid standing.known row cap earliest latest
      → 0 < earliest
  some-earliest cap earliest latest x = elim x.is_earliest.holds [
    | inl same ↦ let some = some-cap cap x.is_cap in omega (arith, same, some)
    | inr other ↦ elim other [
      | inl step ↦ let some = sound.times.hydraulic in omega (arith, step, some)
      | inr reached ↦ let some = reached.0 in omega (arith, some)
    ]
  ]

  -- it lasts a second at least
  pub later-end : (way : Way) → EndsIn project grid standing row way → 0 < first_end way
  later-end _ (by_rules x first after in_time closed) = omega arith
  later-end _ (by_instant {cap = cap} x same none) = some-cap cap x.is_cap
  later-end _ (by_watched {cap = cap} {earliest = e} {latest = l} x sooner none) = some-earliest cap e l x

  -- it has ended in each history by the end of the run
  pub end-in-time : (way : Way) → EndsIn project grid standing row way
      → (standing.known.time + first_end way) + late_at_end standing.late way ≤ project.times.duration
  end-in-time _ (by_rules {cap = cap} {earliest = e} {latest = l} x first after in_time closed) =
      let a = cap-in-time cap x.is_cap in
      let b = earliest-by-cap cap e l x in
      omega (arith, a, b, in_time)
  end-in-time _ (by_instant {cap = cap} x same none) = let a = cap-in-time cap x.is_cap in omega (arith, a)
  end-in-time _ (by_watched {cap = cap} {earliest = e} {latest = l} x sooner none) =
      let a = cap-in-time cap x.is_cap in
      let b = x.in_order in
      omega (arith, a, b, sooner)

  -- its shortest length isn't longer than the run
  short-enough : (way : Way) → EndsIn project grid standing row way
      → shortest_length standing.late way ≤ project.times.duration
  short-enough _ (by_rules {cap = cap} {earliest = e} {latest = l} x first after in_time closed) =
      let a = cap-in-time cap x.is_cap in
      let b = earliest-by-cap cap e l x in
      omega (arith, a, b, in_time)
  short-enough _ (by_instant {cap = cap} x same none) = let a = cap-in-time cap x.is_cap in omega (arith, a)
  short-enough _ (by_watched {cap = cap} {earliest = e} {latest = l} x sooner none) =
      let a = cap-in-time cap x.is_cap in
      let b = earliest-by-cap cap e l x in
      omega (arith, a, b)

  pub short-fits : (way : Way) → EndsIn project grid standing row way → (late shortest : ℕ) → standing.late ≡ late
      → shortest ≡ shortest_length late way → shortest ≤ 10 ^ 8
  short-fits way ends late shortest at_late is =
      let a = short-enough way ends in
      let b = sound.times.duration in
      let c = is ∙ ap (λ (n : ℕ). shortest_length n way) (sym at_late) in
      omega (arith, a, b, c)

  -- no end is open by more seconds than a run has
  pub any-slack : (slack : ℕ) → 10 ^ 8 ≤ slack → (way : Way) → EndsIn project grid standing row way
      → late_at_end standing.late way ≤ slack
  any-slack slack wide way ends =
      let a = end-in-time way ends in
      let b = sound.times.duration in
      omega (arith, a, b, wide)

-- ---- a period that is over

-- what the rules change stands behind what was changed before
behind : (project : Project) (grid : Grid) (standing : OpenStanding) (row : Record) (before : List Change) (way : Way)
    → changes_left project grid standing row before way ≡ before ++ report.changes_left project grid standing row way
behind project grid standing row before (ByRules seconds) = refl
behind project grid standing row before (ByInstant seconds) = sym (append-nil before)
behind project grid standing row before (ByWatched earliest latest) = sym (append-nil before)

module _ (project : Project) (sound : IsSound project) (grid : Grid) (standing : OpenStanding) (found : OpenRecord)
    (way : Way) (reached : Option Watch) (before : standing.known.time < project.times.duration)
    (ends_so : EndsIn project grid standing found.row way)
    (arrives : Arrives project grid standing.known found.row way reached) where
  -- what the end brings, known to the second or not
  brings-so : (events opened : List Happens) (first late : ℕ) → first ≡ first_end way → late ≡ late_at_end standing.late way
      → (late ≡ 0 → (events ≡ events_left project grid standing.known found reached) × (opened ≡ []))
      → (0 < late → (events ≡ []) × (opened ≡ events_left project grid standing.known found reached))
      → EndBringsOpenly project grid standing found first late events opened
      (report.changes_left project grid standing found.row way)
  brings-so events opened first late at_first at_late known parted = elim (cases_lt 0 late) [
    | inl some ↦
        let lists = parted some in
        let there : EndBringsOpenly project grid standing found (first_end way) (late_at_end standing.late way) []
        (events_left project grid standing.known found reached)
        (report.changes_left project grid standing found.row way) =
        at_open way reached ends_so arrives (omega (arith, some, at_late)) in
        rw (at_first, at_late, lists.0, lists.1) there
    | inr none ↦
        let zero : late ≡ 0 = omega (arith, none) in
        let lists = known zero in
        let there : EndBringsOpenly project grid standing found (first_end way) 0
        (events_left project grid standing.known found reached) []
        (report.changes_left project grid standing found.row way) =
        at_known way reached ends_so arrives (omega (arith, zero, at_late)) in
        rw (at_first, zero, lists.0, lists.1) there
  ]

  pub closed-of : (looked decided told : Facts) (close : OpenPeriodEnd)
      → found.shortest ≡ shortest_length standing.late way → found.row.length ≡ longest_length way
      → AreBegun project standing.known looked → AreStarted project grid standing.known found.row looked
      → decided ≡ record looked { changes = decided.changes }
      → told ≡ record decided { length = close.first; events = told.events }
      → close.commanded.items ≡ links_left project grid standing found.row way
      → decided.changes.list ≡ changes_left project grid standing found.row looked.changes.list way
      → (close.late ≡ 0 → (told.events.list ≡ events_left project grid standing.known found reached)
      × (close.opened.list ≡ []))
      → (0 < close.late → (told.events.list ≡ [])
      × (close.opened.list ≡ events_left project grid standing.known found reached))
      → map levels_of close.next.levels.list ≡ levels_left project grid standing.known found reached
      → map volumes_of close.next.volumes.list ≡ volumes_left project grid standing.known found reached
      → AreStates project (map levels_of close.next.levels.list) close.next.tanks.list
      → ControlsAreDecided project (map levels_of close.next.levels.list)
      → close.first ≡ first_end way → close.late ≡ late_at_end standing.late way
      → IsClosedOpenly project grid standing found told close
  closed-of looked decided told close shortest longest is started keep_decided keep_told links changes known opened
      levels volumes states controls first late =
      let some = later-end project sound grid standing found.row before way ends_so in
      let last = end-in-time project sound grid standing found.row before way ends_so in
      record {
        continues = record {
          not_last = λ same. omega (arith, before, same);
          way = way;
          ends = ends_so;
          reached = reached;
          arrives = arrives;
          shortest = shortest;
          longest = longest;
          levels = levels;
          volumes = volumes;
          tanks = states;
          controls = controls;
          commanded = links;
          number = refl;
          time = ap (λ (n : ℕ). standing.known.time + n) first;
          late = late;
          unfinished = refl;
        };
        later = omega (arith, some, first);
        in_time = omega (arith, last, first, late);
        facts_are = record {
          time = ap (λ (f : Facts). f.time) keep_told ∙ ap (λ (f : Facts). f.time) keep_decided ∙ started.time;
          length = ap (λ (f : Facts). f.length) keep_told;
          levels = ap (λ (f : Facts). map levels_of f.levels.list) keep_told
              ∙ ap (λ (f : Facts). map levels_of f.levels.list) keep_decided ∙ started.levels;
          volumes = ap (λ (f : Facts). map volumes_of f.volumes.list) keep_told
              ∙ ap (λ (f : Facts). map volumes_of f.volumes.list) keep_decided ∙ started.volumes;
          inflows = ap (λ (f : Facts). map flows_of f.inflows.list) keep_told
              ∙ ap (λ (f : Facts). map flows_of f.inflows.list) keep_decided ∙ started.inflows;
          tanks = ap (λ (f : Facts). f.tanks.list) keep_told ∙ ap (λ (f : Facts). f.tanks.list) keep_decided
              ∙ started.tanks;
          links = ap (λ (f : Facts). f.links.list) keep_told ∙ ap (λ (f : Facts). f.links.list) keep_decided
              ∙ started.links;
          by_rules = report.changes_left project grid standing found.row way;
          changes = ap (λ (f : Facts). f.changes.list) keep_told ∙ changes
              ∙ behind project grid standing found.row looked.changes.list way
              ∙ ap (λ (cs : List Change). cs ++ report.changes_left project grid standing found.row way)
              is.changes;
          brings = brings-so told.events.list close.opened.list close.first close.late first late known opened;
        };
      }

-- ---- no matter

module _ (project : Project) (grid : Grid) (standing : OpenStanding) (found : OpenRecord) (way : Way)
    (ends_so : EndsIn project grid standing found.row way) where
  -- the right lengths are those of the way
  pub other-lengths : (shortest longest : ℕ) → shortest ≡ shortest_length standing.late way → longest ≡ longest_length way
      → (HasLengths found shortest longest → ⊥) → HasOtherLengths project grid standing found
  other-lengths shortest longest least most other =
      before_end way ends_so (λ has. other (has.0 ∙ sym least, has.1 ∙ sym most))

  module _ (reached : Option Watch) (arrives : Arrives project grid standing.known found.row way reached)
      (levels : List Interval)
      (are : levels ≡ levels_left project grid standing.known (lasting standing found way) reached)
      (states : List TankState) (decided : AreStates project levels states)
      (controls : ControlsAreDecided project levels) where
    same-levels : (other : List Interval) → AreLevelsLeft project grid standing found other → other ≡ levels
    same-levels other left =
        let ways = one_way project grid standing found.row left.way way left.ends ends_so in
        let levels_reached = one_reached project grid standing.known found.row way left.reached reached
        (subst (λ w. Arrives project grid standing.known found.row w left.reached) ways left.arrives) arrives in
        left.levels_are
        ∙ ap (λ w. levels_left project grid standing.known (lasting standing found w) left.reached) ways
        ∙ ap (λ r. levels_left project grid standing.known (lasting standing found way) r) levels_reached ∙ sym are

    pub no-matter : LeavesMatterOpen project grid standing found → ⊥
    no-matter (end_open other none) = none way ends_so
    no-matter (tank_open ls number left is) = states-decided project levels states number decided
        (subst (λ l. position (λ is_open. is_open) (open_states project l) ≡ Some number) (same-levels ls left) is)
    no-matter (control_open ls number left is) = controls-decided project levels number controls
        (subst (λ l. position (is_open_control l) project.controls.list ≡ Some number) (same-levels ls left) is)

-- ---- what is open

module _ (project : Project) (grid : Grid) (standing : OpenStanding) (slack : ℕ) where
  -- a tank's state or a level control at the levels of the decided way
  pub open-at-levels : (found : OpenRecord) (way : Way) (reached : Option Watch) (levels : List Interval) (what : Open)
      → late_at_end standing.late way ≤ slack
      → ((other : Record) → SharesVectors other found.row → EndsIn project grid standing other way)
      → ((other : Record) → SharesVectors other found.row → Arrives project grid standing.known other way reached)
      → levels ≡ levels_left project grid standing.known (lasting standing found way) reached
      → IsOpenAmong project levels what → IsOpenlyOpenAt project grid standing slack found what
  open-at-levels found way reached levels (Rule rule) within ends_so arrives are among = absurd among
  open-at-levels found way reached levels (Event earliest latest) within ends_so arrives are among = absurd among
  open-at-levels found way reached levels (Tank tank) within ends_so arrives are among = record {
    way = way;
    reached = reached;
    within = within;
    ends = ends_so;
    arrives = arrives;
    at_levels = subst (λ (ls : List Interval). IsFirstOpen project ls tank) are among;
  }
  open-at-levels found way reached levels (Control control) within ends_so arrives are among = record {
    way = way;
    reached = reached;
    within = within;
    ends = ends_so;
    arrives = arrives;
    at_levels = subst (λ (ls : List Interval). IsFirstControl project ls control) are among;
  }

  -- ---- under the tight vectors

  module _ (row : Record) (tight : IsTightRow project standing.known grid row) where
    abbrev given : OpenRecord
    given = record { row = row; late = 0; shortest = 0 }

    tight-too : (n : ℕ) → IsTightRow project standing.known grid (record row { length = n })
    tight-too n = record {
      in_range = tight.in_range;
      is_grid = tight.is_grid;
      one_each = tight.one_each;
      each = tight.each;
    }

    pub left-open : (what : Open)
        → ((other : OpenRecord) → SharesVectors other.row row → IsOpenlyOpenAt project grid standing slack other what)
        → IsLeftOpen project standing slack what
    left-open (Rule rule) opens = record {
      grid = grid;
      row = row;
      tight = tight;
      is_open = opens given (record { main = refl; pinned = refl });
    }
    left-open (Event earliest latest) opens = record {
      grid = grid;
      row = row;
      tight = tight;
      is_open = opens given (record { main = refl; pinned = refl });
    }
    left-open (Tank found) opens =
        let at = opens given (record { main = refl; pinned = refl }) in
        let there = lasting standing given at.way in
        record {
          levels = levels_left project grid standing.known there at.reached;
          at_levels = record {
            grid = grid;
            found = there;
            tight = tight-too (longest_length at.way);
            way = at.way;
            ends = at.ends there.row (record { main = refl; pinned = refl });
            within = at.within;
            shortest = refl;
            longest = refl;
            reached = at.reached;
            arrives = at.arrives there.row (record { main = refl; pinned = refl });
            levels_are = refl;
          };
          first = at.at_levels.first;
          level_is = at.at_levels.level;
        }
    left-open (Control found) opens =
        let at = opens given (record { main = refl; pinned = refl }) in
        let there = lasting standing given at.way in
        record {
          levels = levels_left project grid standing.known there at.reached;
          at_levels = record {
            grid = grid;
            found = there;
            tight = tight-too (longest_length at.way);
            way = at.way;
            ends = at.ends there.row (record { main = refl; pinned = refl });
            within = at.within;
            shortest = refl;
            longest = refl;
            reached = at.reached;
            arrives = at.arrives there.row (record { main = refl; pinned = refl });
            levels_are = refl;
          };
          tanks_decided = at.at_levels.tanks_decided;
          first = at.at_levels.first;
          tank = at.at_levels.tank;
          above = at.at_levels.above;
          ticks = at.at_levels.ticks;
          control = at.at_levels.control;
          is_control = at.at_levels.is_control;
          is_level = at.at_levels.is_level;
          level_is = at.at_levels.level_is;
        }

  -- ---- whatever the slack

  module _ (sound : IsSound project) (before : standing.known.time < project.times.duration) (wide : 10 ^ 8 ≤ slack)
      (found : OpenRecord) where
    not-last : standing.known.time ≢ project.times.duration
    not-last same = omega (arith, before, same)

    none-ends : (end : End) → ends.IsFirstOpen project grid standing found.row slack end
        → LeavesMatterOpen project grid standing found
    none-ends end is = end_open not-last (λ way ends_so. not_both project grid standing found.row slack way end ends_so
        (any-slack project sound grid standing found.row before slack wide way ends_so) is)

    left-at : (holds : List Interval → Type 0) → (at : EndsOpenlyWith project grid standing slack found holds)
        → AreLevelsLeft project grid standing found
        (levels_left project grid standing.known (lasting standing found at.way) at.reached)
    left-at holds at = record {
      way = at.way;
      ends = at.ends found.row (record { main = refl; pinned = refl });
      reached = at.reached;
      arrives = at.arrives found.row (record { main = refl; pinned = refl });
      levels_are = refl;
    }

    pub matter-open : (what : Open) → IsOpenlyOpenAt project grid standing slack found what
        → LeavesMatterOpen project grid standing found
    matter-open (Rule rule) is = none-ends (RuleIsOpen (open_rule rule)) is
    matter-open (Event earliest latest) is = none-ends (EventIsOpen earliest latest) is
    matter-open (Tank tank) is =
        tank_open _ tank.tank (left-at (λ levels. IsFirstOpen project levels tank) is) is.at_levels.first
    matter-open (Control control) is =
        control_open _ control.control (left-at (λ levels. IsFirstControl project levels control) is)
        is.at_levels.first
