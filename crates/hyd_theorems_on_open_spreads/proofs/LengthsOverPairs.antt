-- A period of a network within a spread whose start is open ends in the way that both grids decide: its length and its
-- end lie between those of the way, and it leaves the links as the way says.
use Rattle.std.proofs.Common.{◌≡◌, ◌≢◌, ℕ, ◌+◌, ◌-◌, ◌%◌, ◌<◌, ◌≤◌, refl, sym, ap, subst, ◌∙◌, arith, Bool, true}
use Rattle.std.proofs.Common.{false}
use Rattle.std.proofs.Common.{◌==◌, List, [], map, ◌⊎◌, inl, inr}
use Rattle.std.specs.Prelude.{if◌then◌else◌}
use Rattle.std.specs.List.{list_any}
use Rattle.std.proofs.lemmas.Bool.{cases_Bool, cases_lt, eqb-true, eq-eqb}
use Rattle.hyd_net.specs.Sound.{IsSound}
use Rattle.hyd_spec.specs.ProgramTypes.{Project, LinkState}
use Rattle.hyd_spec.specs.declared.Change.{Change}
use Rattle.hyd_spec.specs.Rules.{rule_changes, acted}
use Rattle.hyd_spec.specs.PeriodLength.{Period, IsLeast, EndsByClock, step, EndsByLevel, EndsByRules, MayEnd, by_clock}
use Rattle.hyd_spec.specs.PeriodLength.{by_level, by_rules, HasItsLength, at_end, before_end, values_at}
use Rattle.hyd_spec.specs.History.{commanded_after}
use Rattle.hyd_spec_certificates.specs.ThreeValuedLogic.{is_yes, is_unknown}
use Rattle.hyd_spec_certificates.specs.PeriodNetwork.{Grid}
use Rattle.hyd_spec_certificates.specs.RecordAndStanding.{Record, Standing}
use Rattle.hyd_spec_certificates.specs.Decided.{SomeMayReach, SomeMustReach, IsTried, links_at}
use Rattle.hyd_spec_open_ends.specs.InstantsOfClock.{IsInstant, duration as is_duration}
use Rattle.hyd_spec_open_ends.specs.OpenStandings.{OpenStanding}
use Rattle.hyd_spec_open_ends.specs.RulesOverLengths.{open_rule_truths, open_changes, RulesMatterOver}
use Rattle.hyd_spec_open_ends.specs.RulesOverLengths.{NoRuleMattersUpTo, SomeRuleIsOpen}
use Rattle.hyd_spec_open_ends.specs.OpenEnds.{AreSeconds, Way, EndsIn}
use Rattle.hyd_spec_open_ends.specs.OpenEnds.{by_rules as in_by_rules, by_instant as in_by_instant}
use Rattle.hyd_spec_open_ends.specs.OpenEnds.{by_watched as in_by_watched}
use Rattle.hyd_spec_open_ends.specs.OpenRecords.{links_left}
use Rattle.hyd_spec_spread.specs.NetworksWithin.{NodeData, with_data}
use Rattle.hyd_theorems_on_histories.proofs.LengthAndLinkStates.{is-empty, unchanged}
use Rattle.hyd_theorems_on_open_ends.specs.AgreementOverStarts.{begun_at, EndsSo}
use Rattle.hyd_theorems_on_open_ends.proofs.LengthsOverStarts.{ClockEnd, by_step, by_instant, clock-end, instant-ends}
use Rattle.hyd_theorems_on_open_ends.proofs.LengthsOverStarts.{GoesTo}
use Rattle.hyd_theorems_on_spread.proofs.EndsAlike.{clock-alike, clock-back, level-alike, level-back}
use Rattle.hyd_theorems_on_spread_runs.proofs.BoundedLevels.{level_may, must_level}
use Rattle.hyd_theorems_on_open_spreads.specs.BoundedOpenly.{IsBoundedOpenly}
use Rattle.hyd_theorems_on_open_spreads.proofs.RulesOverPairs.{values_over, changes_over}

-- ---- the same matters from a standing and from its start in a history

may-from : (project : Project) (grid : Grid) (standing : Standing) (row : Record) (time seconds : ℕ)
    → SomeMayReach project grid (begun_at standing time) row seconds → SomeMayReach project grid standing row seconds
may-from project grid standing row time seconds some = record {
  watch = some.watch;
  is_watched = some.is_watched;
  tank = some.tank;
  is_tank = some.is_tank;
  reached = some.reached;
}

must-at : (project : Project) (grid : Grid) (standing : Standing) (row : Record) (time seconds : ℕ)
    → SomeMustReach project grid standing row seconds → SomeMustReach project grid (begun_at standing time) row seconds
must-at project grid standing row time seconds some = record {
  watch = some.watch;
  is_watched = some.is_watched;
  tank = some.tank;
  is_tank = some.is_tank;
  reached = some.reached;
}

not-true : (b : Bool) → (b ≡ true → ⊥) → b ≡ false
not-true true other = absurd (other refl)
not-true false other = refl

-- ---- the period

goes-on : (project : Project) (S : ℕ) (period : Period) → period.time ≢ project.times.duration
    → HasItsLength project S period → GoesTo project S period
goes-on project S period other (at_end last none) = absurd (other last)
goes-on project S period other (before_end not_last least) = record { least = least }

-- How a period ended: after a length that what is watched may have, at an instant of the clock, or by rules.
data HasEnded (project network : Project) (S : ℕ) (period : Period) : Type 0 where
  by_itself : (period.length ≡ project.times.hydraulic)
      ⊎ ((1 ≤ period.length) × EndsByLevel project S period period.length)
      → HasEnded project network S period
  at_instant : IsInstant project (period.time + period.length) → HasEnded project network S period
  ruled : EndsByRules network S period (period.time + period.length) → HasEnded project network S period

module _ (project : Project) (sound : IsSound project) (nodes : NodeData) (S : ℕ) (period : Period) (grid : Grid)
    (standing : OpenStanding) (row : Record) (bounded : IsBoundedOpenly project nodes S period grid standing row)
    (not_last : standing.known.time ≢ project.times.duration) (has : HasItsLength (with_data project nodes) S period)
  where
    abbrev network : Project
    network = with_data project nodes

    -- the clock and the levels end a period of the network as they end one of the file's
    by-clock-there : (e : ℕ) → EndsByClock network period.time e → EndsByClock project period.time e
    by-clock-there e ends = clock-alike project nodes bounded.own.numbers bounded.own.elevations period.time e ends

    by-clock-here : (e : ℕ) → EndsByClock project period.time e → EndsByClock network period.time e
    by-clock-here e ends = clock-back project nodes bounded.own.numbers bounded.own.elevations period.time e ends

    by-level-there : (seconds : ℕ) → EndsByLevel network S period seconds → EndsByLevel project S period seconds
    by-level-there seconds ends =
        level-alike project nodes bounded.own.numbers bounded.own.elevations S period seconds ends

    by-level-here : (seconds : ℕ) → EndsByLevel project S period seconds → EndsByLevel network S period seconds
    by-level-here seconds ends = level-back project nodes bounded.own.numbers bounded.own.elevations S period seconds ends

    -- a quiet start that isn't the end of the run has no second that is
    isnt-last : period.time ≢ project.times.duration
    isnt-last e = elim bounded.quiet [
      | inl known ↦ not_last (let a = bounded.after in let b = bounded.by in omega (arith, known, a, b, e))
      | inr quiet ↦ quiet.1 period.time bounded.after bounded.by (is_duration e)
    ]

    pub goes : GoesTo network S period
    goes = goes-on network S period isnt-last has

    not-beyond : (e : ℕ) → MayEnd network S period e → period.time + period.length ≤ e
    not-beyond e may = goes.least.least e may

    -- it has a length
    some-after : MayEnd network S period (period.time + period.length) → 0 < period.length
    some-after (by_clock clock) = by-end (clock-end project period.time (period.time + period.length)
        (by-clock-there (period.time + period.length) clock))
      where
        by-end : ClockEnd project period.time (period.time + period.length) → 0 < period.length
        by-end (by_step is) = let h = sound.times.hydraulic in omega (arith, is, h)
        by-end (by_instant later is) = omega (arith, later)
    some-after (by_level s some e level) = omega (arith, e, some)
    some-after (by_rules ends) = let l = ends.later in omega (arith, l)

    pub lasts : 0 < period.length
    lasts = some-after goes.least.holds

    has-ended : MayEnd network S period (period.time + period.length)
        → HasEnded project network S period
    has-ended (by_clock clock) = by-end (clock-end project period.time (period.time + period.length)
        (by-clock-there (period.time + period.length) clock))
      where
        by-end : ClockEnd project period.time (period.time + period.length)
            → HasEnded project network S period
        by-end (by_step is) = by_itself (inl (omega (arith, is)))
        by-end (by_instant later is) = at_instant is
    has-ended (by_level s some e level) =
        let same : s ≡ period.length = omega (arith, e) in
        by_itself (inr (subst (λ m. (1 ≤ m) × EndsByLevel project S period m) same (some, by-level-there s level)))
    has-ended (by_rules ends) = ruled ends

    -- the seconds from the first start to its end
    abbrev till : ℕ
    till = (period.time + period.length) - standing.known.time

    till-is : standing.known.time + till ≡ period.time + period.length
    till-is = let a = bounded.after in omega (arith, a)

    -- the rules matter where they end it
    matter : EndsByRules network S period (period.time + period.length)
        → RulesMatterOver project grid standing row till
    matter ends = record {
      tried = record {
        later = let a = bounded.after in let l = lasts in omega (arith, a, l);
        is_multiple = subst (λ m. m % project.times.rule ≡ 0) (sym till-is) ends.is_tried;
      };
      matters = elim (cases_Bool (list_any is_unknown (open_rule_truths project grid standing row till))) [
        | inl unknown ↦ inl unknown
        | inr known ↦ inr (λ none. ends.changes
            (ap (λ e. rule_changes project (values_at network S period e) period.links) (sym till-is)
            ∙ sym (changes_over project nodes S period grid standing row bounded sound till
            (let a = bounded.after in omega (arith, a)) known)
            ∙ none))
      ];
    }

    -- the rules end it by where they matter and none is open, if it has begun before
    rules-end : (s : ℕ) → period.time < standing.known.time + s → RulesMatterOver project grid standing row s
        → (SomeRuleIsOpen project grid standing row s → ⊥) → EndsByRules network S period (standing.known.time + s)
    rules-end s begun matters none_open =
        let known : list_any is_unknown (open_rule_truths project grid standing row s) ≡ false = not-true
        (list_any is_unknown (open_rule_truths project grid standing row s)) none_open in
        record {
          later = begun;
          is_tried = matters.tried.is_multiple;
          changes = λ none. changed matters.matters
              (changes_over project nodes S period grid standing row bounded sound s (omega (arith, begun)) known ∙ none);
        }
      where
        changed : (list_any is_unknown (open_rule_truths project grid standing row s) ≡ true) ⊎
            (open_changes project grid standing row s ≢ []) → open_changes project grid standing row s ≡ [] → ⊥
        changed (inl unknown) none = none_open unknown
        changed (inr other) none = other none

    -- ---- between the seconds of what is watched and of the clock

    module _ (cap earliest latest : ℕ) (seconds : AreSeconds project grid standing.known row cap earliest latest) where
      -- what is watched ends it no earlier than its earliest second
      not-earlier : (period.length ≡ project.times.hydraulic)
          ⊎ ((1 ≤ period.length) × EndsByLevel project S period period.length)
          → earliest ≤ period.length
      not-earlier (inl is) = seconds.is_earliest.least period.length (inr (inl is))
      not-earlier (inr level) = seconds.is_earliest.least period.length (inr (inr (
        level.0,
        may-from project grid standing.known row period.time period.length
            (level_may project nodes S period grid (begun_at standing.known period.time) row bounded.own period.length level.1),
      )))

      -- an instant that ends it comes after the first start, so no earlier than the next one
      not-sooner : IsInstant project (period.time + period.length)
          → standing.known.time + cap ≤ period.time + period.length
      not-sooner is = seconds.is_cap.least (period.time + period.length)
          (let a = bounded.after in let l = lasts in (omega (arith, a, l), is))

      -- it ends by the latest second, if that is before the next instant
      by-latest : latest < cap → period.length ≤ latest
      by-latest before = by-case seconds.is_latest.holds
        where
          by-case : (latest ≡ cap) ⊎ ((latest ≡ project.times.hydraulic)
              ⊎ ((1 ≤ latest) × SomeMustReach project grid standing.known row latest)) → period.length ≤ latest
          by-case (inl is) = absurd (omega (arith, is, before))
          by-case (inr (inl is)) =
              let most = not-beyond (period.time + project.times.hydraulic)
              (by_clock (by-clock-here (period.time + project.times.hydraulic)
              (step (let h = sound.times.hydraulic in omega (arith, h)) refl))) in
              omega (arith, most, is)
          by-case (inr (inr must)) =
              let most = not-beyond (period.time + latest) (by_level latest must.0 refl (by-level-here latest
              (must_level project nodes S period grid (begun_at standing.known period.time) row bounded.own latest
              (must-at project grid standing.known row period.time latest must.1)))) in
              omega (arith, most)

      -- each start lies before the next instant
      begun-before : period.time < standing.known.time + cap
      begun-before = elim bounded.quiet [
        | inl known ↦ let a = bounded.by in let b = seconds.is_cap.holds.0 in omega (arith, a, b, known)
        | inr quiet ↦ elim (apart-or (standing.known.time + cap) (standing.known.time + standing.late)) [
          | inl less ↦ absurd (quiet.1 (standing.known.time + cap) (let b = seconds.is_cap.holds.0 in omega (arith, b))
              less seconds.is_cap.holds.1)
          | inr more ↦ let a = bounded.by in omega (arith, a, more)
        ]
      ]
        where
          apart-or : (a b : ℕ) → (a ≤ b) ⊎ (b < a)
          apart-or a b = elim (cases_lt b a) [ inl less ↦ inr less | inr more ↦ inl more ]

      -- ---- the three ways

      rules-way : (i : ℕ) → IsLeast (RulesMatterOver project grid standing row) i → standing.late < i → i ≤ earliest
          → (SomeRuleIsOpen project grid standing row i → ⊥)
          → period.time + period.length ≡ standing.known.time + i
      rules-way i first after in_time none_open =
          let begun : period.time < standing.known.time + i = (let a = bounded.by in omega (arith, a, after)) in
          let most = not-beyond (standing.known.time + i) (by_rules (rules-end i begun first.holds none_open)) in
          let least : standing.known.time + i ≤ period.time + period.length = at-least (has-ended goes.least.holds) in
          omega (arith, most, least)
        where
          cap-most : earliest ≤ cap
          cap-most = seconds.is_earliest.least cap (inl refl)

          at-least : HasEnded project network S period
              → standing.known.time + i ≤ period.time + period.length
          at-least (by_itself ways) = let e = not-earlier ways in let a = bounded.after in omega (arith, e, a, in_time)
          at-least (at_instant is) = let s = not-sooner is in let c = cap-most in omega (arith, s, c, in_time)
          at-least (ruled ends) = let l = first.least till (matter ends) in let t = till-is in omega (arith, l, t)

      instant-way : earliest ≡ cap → NoRuleMattersUpTo project grid standing row cap
          → period.time + period.length ≡ standing.known.time + cap
      instant-way same none =
          let most = not-beyond (standing.known.time + cap) (by_clock (by-clock-here (standing.known.time + cap)
          (instant-ends project period.time (standing.known.time + cap) begun-before seconds.is_cap.holds.1))) in
          let least : standing.known.time + cap ≤ period.time + period.length = at-least (has-ended goes.least.holds) in
          omega (arith, most, least)
        where
          at-least : HasEnded project network S period
              → standing.known.time + cap ≤ period.time + period.length
          at-least (by_itself ways) = let e = not-earlier ways in let a = bounded.after in omega (arith, e, a, same)
          at-least (at_instant is) = not-sooner is
          at-least (ruled ends) = let l = none till (matter ends) in let t = till-is in omega (arith, l, t)

      -- by what is watched it ended by itself
      pub itself : standing.late + latest < cap
          → NoRuleMattersUpTo project grid standing row (standing.late + latest)
          → (period.length ≡ project.times.hydraulic)
          ⊎ ((1 ≤ period.length) × EndsByLevel project S period period.length)
      itself before none = by-end (has-ended goes.least.holds)
        where
          most : period.length ≤ latest
          most = by-latest (omega (arith, before))

          by-end : HasEnded project network S period
              → (period.length ≡ project.times.hydraulic)
              ⊎ ((1 ≤ period.length) × EndsByLevel project S period period.length)
          by-end (by_itself ways) = ways
          by-end (at_instant is) = absurd (let s = not-sooner is in let b = bounded.by in let m = most in
              omega (arith, s, b, m, before))
          by-end (ruled ends) = absurd (let l = none till (matter ends) in let t = till-is in let b = bounded.by in
              let m = most in omega (arith, l, t, b, m))

      pub watched_most : standing.late + latest < cap → period.length ≤ latest
      watched_most before = by-latest (omega (arith, before))

      pub watched_least : standing.late + latest < cap
          → NoRuleMattersUpTo project grid standing row (standing.late + latest) → earliest ≤ period.length
      watched_least before none = not-earlier (itself before none)

    -- ---- lengths and ends

    pub ends_so : (way : Way) → EndsIn project grid standing row way → EndsSo period standing way
    ends_so _ (in_by_rules {cap = cap} {earliest = earliest} {latest = latest} {seconds = i} seconds first after in_time
        none_open) =
        let e = rules-way cap earliest latest seconds i first after in_time none_open in
        let a = bounded.after in let b = bounded.by in
        record {
          from = omega (arith, e, a, b);
          to = omega (arith, e, a);
          ends_from = omega (arith, e);
          ends_by = omega (arith, e);
        }
    ends_so _ (in_by_instant {cap = cap} {earliest = earliest} {latest = latest} seconds same none) =
        let e = instant-way cap earliest latest seconds same none in
        let a = bounded.after in let b = bounded.by in
        record {
          from = omega (arith, e, a, b);
          to = omega (arith, e, a);
          ends_from = omega (arith, e);
          ends_by = omega (arith, e);
        }
    ends_so _ (in_by_watched {cap = cap} {earliest = earliest} {latest = latest} seconds before none) =
        let l = watched_least cap earliest latest seconds before none in
        let m = watched_most cap earliest latest seconds before in
        let a = bounded.after in let b = bounded.by in
        record {
          from = l;
          to = m;
          ends_from = omega (arith, a, l);
          ends_by = omega (arith, a, b, l, m);
        }

    -- ---- the links that are left

    chosen : (b : Bool) (xs ys : List LinkState) → b ≡ true → (if b then xs else ys) ≡ xs
    chosen true xs ys e = refl
    chosen false xs ys e = absurd (cc)

    untried : (b : Bool) (xs ys : List LinkState) → b ≡ false → (if b then xs else ys) ≡ ys
    untried true xs ys e = absurd (cc)
    untried false xs ys e = refl

    -- where the rules don't matter at the end, the links stay
    idle-links : (RulesMatterOver project grid standing row till → ⊥)
        → commanded_after network S period ≡ links_at project standing.known
    idle-links idle =
        elim (cases_Bool ((period.time + period.length) % project.times.rule == 0)) [
          | inl held ↦ by-rules held
          | inr fails ↦ untried ((period.time + period.length) % project.times.rule == 0) _ _ fails ∙ bounded.links
        ]
      where
        by-rules : ((period.time + period.length) % project.times.rule == 0) ≡ true
            → commanded_after network S period ≡ links_at project standing.known
        by-rules held =
            let tried : IsTried project standing.known till = record {
              later = let a = bounded.after in let l = lasts in omega (arith, a, l);
              is_multiple = subst (λ m. m % project.times.rule ≡ 0) (sym till-is) (eqb-true _ _ held);
            } in
            elim (cases_Bool (list_any is_unknown (open_rule_truths project grid standing row till))) [
              | inl unknown ↦ absurd (idle (record { tried = tried; matters = inl unknown }))
              | inr known ↦ elim (is-empty Change (open_changes project grid standing row till)) [
                | inl no_change ↦ chosen ((period.time + period.length) % project.times.rule == 0) _ _ held
                    ∙ unchanged project (values_at network S period (period.time + period.length)) period.links
                    (ap (λ e. rule_changes project (values_at network S period e) period.links) (sym till-is)
                    ∙ sym (changes_over project nodes S period grid standing row bounded sound till
                    (let a = bounded.after in omega (arith, a)) known) ∙ no_change)
                    ∙ bounded.links
                | inr change ↦ absurd (idle (record { tried = tried; matters = inr change }))
              ]
            ]

    ruled-links : (i : ℕ) → period.time + period.length ≡ standing.known.time + i
        → RulesMatterOver project grid standing row i
        → (SomeRuleIsOpen project grid standing row i → ⊥)
        → commanded_after network S period
        ≡ acted project (map is_yes (open_rule_truths project grid standing row i)) (links_at project standing.known)
    ruled-links i e matters none_open =
        let known : list_any is_unknown (open_rule_truths project grid standing row i) ≡ false = not-true
        (list_any is_unknown (open_rule_truths project grid standing row i)) none_open in
        let tried : (period.time + period.length) % project.times.rule ≡ 0 = subst (λ m. m % project.times.rule ≡ 0)
        (sym e) matters.tried.is_multiple in
        let values : values_at network S period (period.time + period.length)
        ≡ map is_yes (open_rule_truths project grid standing row i) =
        ap (values_at network S period) e
        ∙ sym (values_over project nodes S period grid standing row bounded sound i (omega (arith, e)) known) in
        let l = bounded.links in
        chosen ((period.time + period.length) % project.times.rule == 0) _ _ (eq-eqb _ _ tried)
        ∙ (λ j. acted project (values j) (l j))

    pub links_so : (way : Way) → EndsIn project grid standing row way
        → commanded_after network S period ≡ links_left project grid standing row way
    links_so _ (in_by_rules {cap = cap} {earliest = earliest} {latest = latest} {seconds = i} seconds first after in_time
        none_open) =
        ruled-links i (rules-way cap earliest latest seconds i first after in_time none_open) first.holds none_open
    links_so _ (in_by_instant {cap = cap} {earliest = earliest} {latest = latest} seconds same none) =
        let e = instant-way cap earliest latest seconds same none in
        let t = till-is in
        idle-links (λ matters. let l = none till matters in omega (arith, l, t, e))
    links_so _ (in_by_watched {cap = cap} {earliest = earliest} {latest = latest} seconds before none) =
        let m = watched_most cap earliest latest seconds before in
        let b = bounded.by in let t = till-is in
        idle-links (λ matters. let l = none till matters in omega (arith, l, t, b, m))
