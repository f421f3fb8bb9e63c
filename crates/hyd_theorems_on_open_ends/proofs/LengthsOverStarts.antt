-- A period of a history whose start is open ends in the way that its record decides: its length and its end lie between
-- those of the way, and it leaves the links as the way says.
use Rattle.std.proofs.Common.{◌≡◌, ◌≢◌, ℕ, ◌+◌, ◌-◌, ◌%◌, ◌<◌, ◌≤◌, refl, sym, ap, subst, ◌∙◌, arith, Bool, true}
use Rattle.std.proofs.Common.{false}
use Rattle.std.proofs.Common.{◌==◌, List, [], map, ◌⊎◌, inl, inr}
use Rattle.std.specs.Prelude.{if◌then◌else◌}
use Rattle.std.specs.List.{list_any}
use Rattle.std.proofs.lemmas.Bool.{cases_Bool, cases_lt, eqb-true, eq-eqb}
use Rattle.hyd_net.specs.Sound.{IsSound}
use Rattle.hyd_spec.specs.ProgramTypes.{Project, LinkState}
use Rattle.hyd_spec.specs.declared.Change.{Change}
use Rattle.hyd_spec.specs.Rules.{rule_changes, acted}
use Rattle.hyd_spec.specs.PeriodLength.{Period, IsLeast, EndsByClock, step, duration, pattern, report, control_time}
use Rattle.hyd_spec.specs.PeriodLength.{control_clock, EndsByLevel, EndsByRules, MayEnd, by_clock, by_level, by_rules}
use Rattle.hyd_spec.specs.PeriodLength.{HasItsLength, at_end, before_end, values_at}
use Rattle.hyd_spec.specs.History.{commanded_after}
use Rattle.hyd_spec_certificates.specs.ThreeValuedLogic.{is_yes, is_unknown}
use Rattle.hyd_spec_certificates.specs.PeriodNetwork.{Grid}
use Rattle.hyd_spec_certificates.specs.RecordAndStanding.{Record, Standing}
use Rattle.hyd_spec_certificates.specs.Decided.{SomeMayReach, SomeMustReach, IsTried, links_at}
use Rattle.hyd_spec_open_ends.specs.InstantsOfClock.{IsInstant, duration as is_duration, pattern as is_pattern}
use Rattle.hyd_spec_open_ends.specs.InstantsOfClock.{report as is_report, control_time as is_control_time}
use Rattle.hyd_spec_open_ends.specs.InstantsOfClock.{control_clock as is_control_clock}
use Rattle.hyd_spec_open_ends.specs.OpenStandings.{OpenStanding}
use Rattle.hyd_spec_open_ends.specs.RulesOverLengths.{open_rule_truths, open_changes, RulesMatterOver}
use Rattle.hyd_spec_open_ends.specs.RulesOverLengths.{NoRuleMattersUpTo, SomeRuleIsOpen}
use Rattle.hyd_spec_open_ends.specs.OpenEnds.{AreSeconds, Way, EndsIn}
use Rattle.hyd_spec_open_ends.specs.OpenEnds.{by_rules as in_by_rules, by_instant as in_by_instant}
use Rattle.hyd_spec_open_ends.specs.OpenEnds.{by_watched as in_by_watched}
use Rattle.hyd_spec_open_ends.specs.OpenRecords.{links_left}
use Rattle.hyd_theorems_on_histories.proofs.WatchedLevels.{level_may, must_level}
use Rattle.hyd_theorems_on_histories.proofs.LengthAndLinkStates.{is-empty, unchanged}
use Rattle.hyd_theorems_on_open_ends.specs.AgreementOverStarts.{begun_at, IsUnderOpenly, EndsSo}
use Rattle.hyd_theorems_on_open_ends.proofs.RulesOverStarts.{values_over, changes_over}

-- ---- ends by the clock

-- the clock ends a period a hydraulic step after its start, or at an instant
pub data ClockEnd (project : Project) (time e : ℕ) : Type 0 where
  by_step : e ≡ time + project.times.hydraulic → ClockEnd project time e
  by_instant : time < e → IsInstant project e → ClockEnd project time e

pub clock-end : (project : Project) (time e : ℕ) → EndsByClock project time e → ClockEnd project time e
clock-end project time e (step later is) = by_step is
clock-end project time e (duration later is) = by_instant later (is_duration is)
clock-end project time e (pattern later is) = by_instant later (is_pattern is)
clock-end project time e (report later from is) = by_instant later (is_report from is)
clock-end project time e (control_time each contained is later) = by_instant later (is_control_time each contained is)
clock-end project time e (control_clock each at contained is shows later) =
    by_instant later (is_control_clock each at contained is shows)

pub instant-ends : (project : Project) (time e : ℕ) → time < e → IsInstant project e → EndsByClock project time e
instant-ends project time e later (is_duration is) = duration later is
instant-ends project time e later (is_pattern is) = pattern later is
instant-ends project time e later (is_report from is) = report later from is
instant-ends project time e later (is_control_time each contained is) = control_time each contained is later
instant-ends project time e later (is_control_clock each at contained is shows) =
    control_clock each at contained is shows later

-- ---- the same matters from a standing and from its start in a history

may-from : (project : Project) (grid : Grid) (standing : Standing) (row : Record) (time seconds : ℕ)
    → SomeMayReach project grid (begun_at standing time) row seconds → SomeMayReach project grid standing row seconds
may-from project grid standing row time seconds some = record {
  watch = some.watch;
  is_watched = some.is_watched;
  tank = some.tank;
  is_tank = some.is_tank;
  reached = some.reached;
}

must-at : (project : Project) (grid : Grid) (standing : Standing) (row : Record) (time seconds : ℕ)
    → SomeMustReach project grid standing row seconds → SomeMustReach project grid (begun_at standing time) row seconds
must-at project grid standing row time seconds some = record {
  watch = some.watch;
  is_watched = some.is_watched;
  tank = some.tank;
  is_tank = some.is_tank;
  reached = some.reached;
}

not-true : (b : Bool) → (b ≡ true → ⊥) → b ≡ false
not-true true other = absurd (other refl)
not-true false other = refl

-- ---- the period

-- A period goes to the first instant at which it may end.
pub record GoesTo (project : Project) (S : ℕ) (period : Period) : Type 0 where
  pub least : IsLeast (MayEnd project S period) (period.time + period.length)

goes-on : (project : Project) (S : ℕ) (period : Period) → period.time ≢ project.times.duration
    → HasItsLength project S period → GoesTo project S period
goes-on project S period other (at_end last none) = absurd (other last)
goes-on project S period other (before_end not_last least) = record { least = least }

-- How a period ended: after a length that what is watched may have, at an instant of the clock, or by rules.
data HasEnded (project : Project) (S : ℕ) (period : Period) (grid : Grid) (standing : Standing) (row : Record) :
    Type 0 where
  by_itself : (period.length ≡ project.times.hydraulic)
      ⊎ ((1 ≤ period.length) × EndsByLevel project S period period.length)
      → HasEnded project S period grid standing row
  at_instant : IsInstant project (period.time + period.length) → HasEnded project S period grid standing row
  ruled : EndsByRules project S period (period.time + period.length) → HasEnded project S period grid standing row

module _ (project : Project) (sound : IsSound project) (S : ℕ) (period : Period) (grid : Grid)
    (standing : OpenStanding) (row : Record) (under : IsUnderOpenly project S period grid standing row)
    (not_last : standing.known.time ≢ project.times.duration) (has : HasItsLength project S period) where
  -- a quiet start that isn't the end of the run has no second that is
  isnt-last : period.time ≢ project.times.duration
  isnt-last e = elim under.quiet [
    | inl known ↦ not_last (let a = under.after in let b = under.by in omega (arith, known, a, b, e))
    | inr quiet ↦ quiet.1 period.time under.after under.by (is_duration e)
  ]

  pub goes : GoesTo project S period
  goes = goes-on project S period isnt-last has

  not-beyond : (e : ℕ) → MayEnd project S period e → period.time + period.length ≤ e
  not-beyond e may = goes.least.least e may

  -- it has a length
  some-after : MayEnd project S period (period.time + period.length) → 0 < period.length
  some-after (by_clock clock) = by-end (clock-end project period.time (period.time + period.length) clock)
    where
      by-end : ClockEnd project period.time (period.time + period.length) → 0 < period.length
      by-end (by_step is) = let h = sound.times.hydraulic in omega (arith, is, h)
      by-end (by_instant later is) = omega (arith, later)
  some-after (by_level s some e level) = omega (arith, e, some)
  some-after (by_rules ends) = let l = ends.later in omega (arith, l)

  pub lasts : 0 < period.length
  lasts = some-after goes.least.holds

  has-ended : MayEnd project S period (period.time + period.length)
      → HasEnded project S period grid standing.known row
  has-ended (by_clock clock) = by-end (clock-end project period.time (period.time + period.length) clock)
    where
      by-end : ClockEnd project period.time (period.time + period.length)
          → HasEnded project S period grid standing.known row
      by-end (by_step is) = by_itself (inl (omega (arith, is)))
      by-end (by_instant later is) = at_instant is
  has-ended (by_level s some e level) =
      let same : s ≡ period.length = omega (arith, e) in
      by_itself (inr (subst (λ m. (1 ≤ m) × EndsByLevel project S period m) same (some, level)))
  has-ended (by_rules ends) = ruled ends

  -- the seconds from the first start to its end
  abbrev till : ℕ
  till = (period.time + period.length) - standing.known.time

  till-is : standing.known.time + till ≡ period.time + period.length
  till-is = let a = under.after in omega (arith, a)

  -- the rules matter where they end it
  matter : EndsByRules project S period (period.time + period.length)
      → RulesMatterOver project grid standing row till
  matter ends = record {
    tried = record {
      later = let a = under.after in let l = lasts in omega (arith, a, l);
      is_multiple = subst (λ m. m % project.times.rule ≡ 0) (sym till-is) ends.is_tried;
    };
    matters = elim (cases_Bool (list_any is_unknown (open_rule_truths project grid standing row till))) [
      | inl unknown ↦ inl unknown
      | inr known ↦ inr (λ none. ends.changes
          (ap (λ e. rule_changes project (values_at project S period e) period.links) (sym till-is)
          ∙ sym (changes_over project S period grid standing row under sound till
          (let a = under.after in omega (arith, a)) known)
          ∙ none))
    ];
  }

  -- the rules end it by where they matter and none is open, if it has begun before
  rules-end : (s : ℕ) → period.time < standing.known.time + s → RulesMatterOver project grid standing row s
      → (SomeRuleIsOpen project grid standing row s → ⊥) → EndsByRules project S period (standing.known.time + s)
  rules-end s begun matters none_open =
      let known : list_any is_unknown (open_rule_truths project grid standing row s) ≡ false = not-true
      (list_any is_unknown (open_rule_truths project grid standing row s)) none_open in
      record {
        later = begun;
        is_tried = matters.tried.is_multiple;
        changes = λ none. changed matters.matters
            (changes_over project S period grid standing row under sound s (omega (arith, begun)) known ∙ none);
      }
    where
      changed : (list_any is_unknown (open_rule_truths project grid standing row s) ≡ true) ⊎
          (open_changes project grid standing row s ≢ []) → open_changes project grid standing row s ≡ [] → ⊥
      changed (inl unknown) none = none_open unknown
      changed (inr other) none = other none

  -- ---- between the seconds of what is watched and of the clock

  module _ (cap earliest latest : ℕ) (seconds : AreSeconds project grid standing.known row cap earliest latest) where
    -- what is watched ends it no earlier than its earliest second
    not-earlier : (period.length ≡ project.times.hydraulic)
        ⊎ ((1 ≤ period.length) × EndsByLevel project S period period.length)
        → earliest ≤ period.length
    not-earlier (inl is) = seconds.is_earliest.least period.length (inr (inl is))
    not-earlier (inr level) = seconds.is_earliest.least period.length (inr (inr (
      level.0,
      may-from project grid standing.known row period.time period.length
          (level_may project S period grid (begun_at standing.known period.time) row under.own period.length level.1),
    )))

    -- an instant that ends it comes after the first start, so no earlier than the next one
    not-sooner : IsInstant project (period.time + period.length)
        → standing.known.time + cap ≤ period.time + period.length
    not-sooner is = seconds.is_cap.least (period.time + period.length)
        (let a = under.after in let l = lasts in (omega (arith, a, l), is))

    -- it ends by the latest second, if that is before the next instant
    by-latest : latest < cap → period.length ≤ latest
    by-latest before = by-case seconds.is_latest.holds
      where
        by-case : (latest ≡ cap) ⊎ ((latest ≡ project.times.hydraulic)
            ⊎ ((1 ≤ latest) × SomeMustReach project grid standing.known row latest)) → period.length ≤ latest
        by-case (inl is) = absurd (omega (arith, is, before))
        by-case (inr (inl is)) =
            let most = not-beyond (period.time + project.times.hydraulic)
            (by_clock (step (let h = sound.times.hydraulic in omega (arith, h)) refl)) in
            omega (arith, most, is)
        by-case (inr (inr must)) =
            let most = not-beyond (period.time + latest) (by_level latest must.0 refl
            (must_level project S period grid (begun_at standing.known period.time) row under.own latest
            (must-at project grid standing.known row period.time latest must.1))) in
            omega (arith, most)

    -- each start lies before the next instant
    begun-before : period.time < standing.known.time + cap
    begun-before = elim under.quiet [
      | inl known ↦ let a = under.by in let b = seconds.is_cap.holds.0 in omega (arith, a, b, known)
      | inr quiet ↦ elim (apart-or (standing.known.time + cap) (standing.known.time + standing.late)) [
        | inl less ↦ absurd (quiet.1 (standing.known.time + cap) (let b = seconds.is_cap.holds.0 in omega (arith, b))
            less seconds.is_cap.holds.1)
        | inr more ↦ let a = under.by in omega (arith, a, more)
      ]
    ]
      where
        apart-or : (a b : ℕ) → (a ≤ b) ⊎ (b < a)
        apart-or a b = elim (cases_lt b a) [ inl less ↦ inr less | inr more ↦ inl more ]

    -- ---- the three ways

    rules-way : (i : ℕ) → IsLeast (RulesMatterOver project grid standing row) i → standing.late < i → i ≤ earliest
        → (SomeRuleIsOpen project grid standing row i → ⊥)
        → period.time + period.length ≡ standing.known.time + i
    rules-way i first after in_time none_open =
        let begun : period.time < standing.known.time + i = (let a = under.by in omega (arith, a, after)) in
        let most = not-beyond (standing.known.time + i) (by_rules (rules-end i begun first.holds none_open)) in
        let least : standing.known.time + i ≤ period.time + period.length = at-least (has-ended goes.least.holds) in
        omega (arith, most, least)
      where
        cap-most : earliest ≤ cap
        cap-most = seconds.is_earliest.least cap (inl refl)

        at-least : HasEnded project S period grid standing.known row
            → standing.known.time + i ≤ period.time + period.length
        at-least (by_itself ways) = let e = not-earlier ways in let a = under.after in omega (arith, e, a, in_time)
        at-least (at_instant is) = let s = not-sooner is in let c = cap-most in omega (arith, s, c, in_time)
        at-least (ruled ends) = let l = first.least till (matter ends) in let t = till-is in omega (arith, l, t)

    instant-way : earliest ≡ cap → NoRuleMattersUpTo project grid standing row cap
        → period.time + period.length ≡ standing.known.time + cap
    instant-way same none =
        let most = not-beyond (standing.known.time + cap) (by_clock (instant-ends project period.time
        (standing.known.time + cap) begun-before seconds.is_cap.holds.1)) in
        let least : standing.known.time + cap ≤ period.time + period.length = at-least (has-ended goes.least.holds) in
        omega (arith, most, least)
      where
        at-least : HasEnded project S period grid standing.known row
            → standing.known.time + cap ≤ period.time + period.length
        at-least (by_itself ways) = let e = not-earlier ways in let a = under.after in omega (arith, e, a, same)
        at-least (at_instant is) = not-sooner is
        at-least (ruled ends) = let l = none till (matter ends) in let t = till-is in omega (arith, l, t)

    -- by what is watched it ended by itself
    pub itself : standing.late + latest < cap
        → NoRuleMattersUpTo project grid standing row (standing.late + latest)
        → (period.length ≡ project.times.hydraulic)
        ⊎ ((1 ≤ period.length) × EndsByLevel project S period period.length)
    itself before none = by-end (has-ended goes.least.holds)
      where
        most : period.length ≤ latest
        most = by-latest (omega (arith, before))

        by-end : HasEnded project S period grid standing.known row
            → (period.length ≡ project.times.hydraulic)
            ⊎ ((1 ≤ period.length) × EndsByLevel project S period period.length)
        by-end (by_itself ways) = ways
        by-end (at_instant is) = absurd (let s = not-sooner is in let b = under.by in let m = most in
            omega (arith, s, b, m, before))
        by-end (ruled ends) = absurd (let l = none till (matter ends) in let t = till-is in let b = under.by in
            let m = most in omega (arith, l, t, b, m))

    pub watched_most : standing.late + latest < cap → period.length ≤ latest
    watched_most before = by-latest (omega (arith, before))

    pub watched_least : standing.late + latest < cap
        → NoRuleMattersUpTo project grid standing row (standing.late + latest) → earliest ≤ period.length
    watched_least before none = not-earlier (itself before none)

  -- ---- lengths and ends

  pub ends_so : (way : Way) → EndsIn project grid standing row way → EndsSo period standing way
  ends_so _ (in_by_rules {cap = cap} {earliest = earliest} {latest = latest} {seconds = i} seconds first after in_time
      none_open) =
      let e = rules-way cap earliest latest seconds i first after in_time none_open in
      let a = under.after in let b = under.by in
      record {
        from = omega (arith, e, a, b);
        to = omega (arith, e, a);
        ends_from = omega (arith, e);
        ends_by = omega (arith, e);
      }
  ends_so _ (in_by_instant {cap = cap} {earliest = earliest} {latest = latest} seconds same none) =
      let e = instant-way cap earliest latest seconds same none in
      let a = under.after in let b = under.by in
      record {
        from = omega (arith, e, a, b);
        to = omega (arith, e, a);
        ends_from = omega (arith, e);
        ends_by = omega (arith, e);
      }
  ends_so _ (in_by_watched {cap = cap} {earliest = earliest} {latest = latest} seconds before none) =
      let l = watched_least cap earliest latest seconds before none in
      let m = watched_most cap earliest latest seconds before in
      let a = under.after in let b = under.by in
      record {
        from = l;
        to = m;
        ends_from = omega (arith, a, l);
        ends_by = omega (arith, a, b, l, m);
      }

  -- ---- the links that are left

  chosen : (b : Bool) (xs ys : List LinkState) → b ≡ true → (if b then xs else ys) ≡ xs
  chosen true xs ys e = refl
  chosen false xs ys e = absurd (cc)

  untried : (b : Bool) (xs ys : List LinkState) → b ≡ false → (if b then xs else ys) ≡ ys
  untried true xs ys e = absurd (cc)
  untried false xs ys e = refl

  -- where the rules don't matter at the end, the links stay
  idle-links : (RulesMatterOver project grid standing row till → ⊥)
      → commanded_after project S period ≡ links_at project standing.known
  idle-links idle =
      elim (cases_Bool ((period.time + period.length) % project.times.rule == 0)) [
        | inl held ↦ by-rules held
        | inr fails ↦ untried ((period.time + period.length) % project.times.rule == 0) _ _ fails ∙ under.links
      ]
    where
      by-rules : ((period.time + period.length) % project.times.rule == 0) ≡ true
          → commanded_after project S period ≡ links_at project standing.known
      by-rules held =
          let tried : IsTried project standing.known till = record {
            later = let a = under.after in let l = lasts in omega (arith, a, l);
            is_multiple = subst (λ m. m % project.times.rule ≡ 0) (sym till-is) (eqb-true _ _ held);
          } in
          elim (cases_Bool (list_any is_unknown (open_rule_truths project grid standing row till))) [
            | inl unknown ↦ absurd (idle (record { tried = tried; matters = inl unknown }))
            | inr known ↦ elim (is-empty Change (open_changes project grid standing row till)) [
              | inl no_change ↦ chosen ((period.time + period.length) % project.times.rule == 0) _ _ held
                  ∙ unchanged project (values_at project S period (period.time + period.length)) period.links
                  (ap (λ e. rule_changes project (values_at project S period e) period.links) (sym till-is)
                  ∙ sym (changes_over project S period grid standing row under sound till
                  (let a = under.after in omega (arith, a)) known) ∙ no_change)
                  ∙ under.links
              | inr change ↦ absurd (idle (record { tried = tried; matters = inr change }))
            ]
          ]

  ruled-links : (i : ℕ) → period.time + period.length ≡ standing.known.time + i
      → RulesMatterOver project grid standing row i
      → (SomeRuleIsOpen project grid standing row i → ⊥)
      → commanded_after project S period
      ≡ acted project (map is_yes (open_rule_truths project grid standing row i)) (links_at project standing.known)
  ruled-links i e matters none_open =
      let known : list_any is_unknown (open_rule_truths project grid standing row i) ≡ false = not-true
      (list_any is_unknown (open_rule_truths project grid standing row i)) none_open in
      let tried : (period.time + period.length) % project.times.rule ≡ 0 = subst (λ m. m % project.times.rule ≡ 0)
      (sym e) matters.tried.is_multiple in
      let values : values_at project S period (period.time + period.length)
      ≡ map is_yes (open_rule_truths project grid standing row i) =
      ap (values_at project S period) e
      ∙ sym (values_over project S period grid standing row under sound i (omega (arith, e)) known) in
      let l = under.links in
      chosen ((period.time + period.length) % project.times.rule == 0) _ _ (eq-eqb _ _ tried)
      ∙ (λ j. acted project (values j) (l j))

  pub links_so : (way : Way) → EndsIn project grid standing row way
      → commanded_after project S period ≡ links_left project grid standing row way
  links_so _ (in_by_rules {cap = cap} {earliest = earliest} {latest = latest} {seconds = i} seconds first after in_time
      none_open) =
      ruled-links i (rules-way cap earliest latest seconds i first after in_time none_open) first.holds none_open
  links_so _ (in_by_instant {cap = cap} {earliest = earliest} {latest = latest} seconds same none) =
      let e = instant-way cap earliest latest seconds same none in
      let t = till-is in
      idle-links (λ matters. let l = none till matters in omega (arith, l, t, e))
  links_so _ (in_by_watched {cap = cap} {earliest = earliest} {latest = latest} seconds before none) =
      let m = watched_most cap earliest latest seconds before in
      let b = under.by in let t = till-is in
      idle-links (λ matters. let l = none till matters in omega (arith, l, t, b, m))
