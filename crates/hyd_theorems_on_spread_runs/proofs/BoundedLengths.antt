-- A period that a record bounds lasts as long as the record decides, and leaves the links as it says.
use Rattle.std.proofs.Common.{◌≡◌, ◌≢◌, ℕ, ◌+◌, ◌%◌, ◌<◌, ◌≤◌, refl, sym, subst, ◌∙◌, arith, Bool, true, false}
use Rattle.std.proofs.Common.{◌==◌, List, [], map, ◌⊎◌, inl, inr}
use Rattle.std.specs.Prelude.{if◌then◌else◌}
use Rattle.std.specs.List.{list_any}
use Rattle.std.proofs.lemmas.Bool.{cases_Bool, eqb-true, eq-eqb}
use Rattle.hyd_net.specs.Sound.{IsSound}
use Rattle.hyd_spec.specs.ProgramTypes.{Project, LinkState}
use Rattle.hyd_spec.specs.declared.Change.{Change}
use Rattle.hyd_spec.specs.Rules.{acted}
use Rattle.hyd_spec.specs.PeriodLength.{Period, IsLeast, EndsByClock, step, duration, pattern, report, control_time}
use Rattle.hyd_spec.specs.PeriodLength.{control_clock, EndsByRules, MayEnd, by_clock, by_level, by_rules, HasItsLength}
use Rattle.hyd_spec.specs.PeriodLength.{at_end, before_end, values_at}
use Rattle.hyd_spec.specs.History.{commanded_after}
use Rattle.hyd_spec_certificates.specs.ThreeValuedLogic.{is_yes, is_unknown}
use Rattle.hyd_spec_certificates.specs.PeriodNetwork.{Grid}
use Rattle.hyd_spec_certificates.specs.RecordAndStanding.{Record, Standing}
use Rattle.hyd_spec_certificates.specs.Decided.{links_at, SomeMayReach, SomeMustReach, IsClockLength, IsEarliestEnd}
use Rattle.hyd_spec_certificates.specs.Decided.{IsLatestEnd, IsTried, RulesMatter, rule_truths, decided_changes, EndsBy}
use Rattle.hyd_spec_certificates.specs.Decided.{ByRules, WithoutRules, by_rules as decided_by_rules}
use Rattle.hyd_spec_certificates.specs.Decided.{by_clock as decided_by_clock}
use Rattle.hyd_spec_certificates.specs.Valid.{LeavesLinks, by_rules as left_by_rules, by_clock as left_by_clock}
use Rattle.hyd_theorems_on_histories.proofs.LengthAndLinkStates.{is-empty, unchanged}
use Rattle.hyd_spec_spread.specs.NetworksWithin.{NodeData, with_data}
use Rattle.hyd_theorems_on_spread.proofs.EndsAlike.{clock-alike, clock-back, level-alike, level-back}
use Rattle.hyd_theorems_on_spread_runs.specs.BoundedPeriods.{IsBounded}
use Rattle.hyd_theorems_on_spread_runs.proofs.BoundedReadings.{decided_values, changes_are}
use Rattle.hyd_theorems_on_spread_runs.proofs.BoundedLevels.{level_may, must_level}

-- ---- the length

-- A period that isn't the last, and goes to the first instant at which it may end.
record GoesTo (project : Project) (S : ℕ) (period : Period) : Type 0 where
  not_last : period.time ≢ project.times.duration
  least : IsLeast (MayEnd project S period) (period.time + period.length)

goes-to : (project : Project) (S : ℕ) (period : Period) → period.time ≢ project.times.duration
    → HasItsLength project S period → GoesTo project S period
goes-to project S period other (at_end last none) = absurd (other last)
goes-to project S period other (before_end not_last least) = record { not_last = not_last; least = least }

module _ (project : Project) (sound : IsSound project) (nodes : NodeData) (S : ℕ) (period : Period) (grid : Grid)
    (standing : Standing) (row : Record) (bounded : IsBounded project nodes S period grid standing row)
    (goes : GoesTo (with_data project nodes) S period) where
  abbrev network : Project
  network = with_data project nodes

  e-of : period.time + period.length ≡ standing.time + period.length
  e-of = let t = bounded.time in omega (arith, t)

  clock-may : (s : ℕ) → IsClockLength project standing.time s → MayEnd network S period (period.time + s)
  clock-may s clock =
      let t = bounded.time in
      let e : standing.time + s ≡ period.time + s = omega (arith, t) in
      by_clock (clock-back project nodes bounded.numbers bounded.elevations period.time (period.time + s)
      (subst (λ m. EndsByClock project m (period.time + s)) (sym t)
      (subst (EndsByClock project standing.time) e clock.holds)))

  not-beyond : (s : ℕ) → MayEnd network S period (period.time + s) → period.length ≤ s
  not-beyond s may = let l = goes.least.least (period.time + s) may in omega (arith, l)

  -- it ends by the latest end
  by-latest : (s : ℕ) → IsLatestEnd project grid standing row s → period.length ≤ s
  by-latest s latest = by-case latest.holds
    where
      by-case : IsClockLength project standing.time s ⊎ ((1 ≤ s) × SomeMustReach project grid standing row s)
          → period.length ≤ s
      by-case (inl clock) = not-beyond s (clock-may s clock)
      by-case (inr must) =
          not-beyond s (by_level s must.0 refl (level-back project nodes bounded.numbers bounded.elevations S period s
          (must_level project nodes S period grid standing row bounded s must.1)))

  -- the rules matter where they end it
  matter : EndsByRules network S period (period.time + period.length)
      → RulesMatter project grid standing row period.length
  matter ends = record {
    tried = record {
      later = let l = ends.later in omega (arith, l);
      is_multiple = subst (λ m. m % project.times.rule ≡ 0) e-of ends.is_tried;
    };
    matters = elim (cases_Bool (list_any is_unknown (rule_truths project grid standing row period.length))) [
      | inl unknown ↦ inl unknown
      | inr known ↦ inr
          (λ none. ends.changes (sym (changes_are project nodes S period grid standing row bounded sound period.length
          (period.time + period.length) e-of known) ∙ none))
    ];
  }

  -- how it ends
  data EndsAt : Type 0 where
    early : ((s : ℕ) → IsEarliestEnd project grid standing row s → s ≤ period.length) → EndsAt
    ruled : EndsByRules network S period (period.time + period.length) → EndsAt

  clock-length : EndsByClock project period.time (period.time + period.length)
      → IsClockLength project standing.time period.length
  clock-length clock = record {
    holds = subst (EndsByClock project standing.time) e-of
        (subst (λ m. EndsByClock project m (period.time + period.length)) bounded.time clock);
    least = λ k ends. let l = goes.least.least k (by_clock (clock-back project nodes bounded.numbers
        bounded.elevations period.time k (subst (λ m. EndsByClock project m k) (sym bounded.time) ends))) in
        let t = bounded.time in omega (arith, l, t);
  }

  ends-at : MayEnd network S period (period.time + period.length) → EndsAt
  ends-at (by_clock clock) = early (λ s earliest. earliest.least period.length (inl (clock-length
      (clock-alike project nodes bounded.numbers bounded.elevations period.time (period.time + period.length) clock))))
  ends-at (by_level s some e level) =
      let same : s ≡ period.length = omega (arith, e) in
      early (λ t earliest. earliest.least period.length
      (inr (subst (λ m. (1 ≤ m) × SomeMayReach project grid standing row m) same (
        some,
        level_may project nodes S period grid standing row bounded s
            (level-alike project nodes bounded.numbers bounded.elevations S period s level),
      ))))
  ends-at (by_rules ends) = ruled ends

  here : EndsAt
  here = ends-at goes.least.holds

  -- it has a length
  some-after : MayEnd network S period (period.time + period.length) → 0 < period.length
  some-after (by_clock (step later e)) = omega (arith, later)
  some-after (by_clock (duration later e)) = omega (arith, later)
  some-after (by_clock (pattern later e)) = omega (arith, later)
  some-after (by_clock (report later from e)) = omega (arith, later)
  some-after (by_clock (control_time each contained is later)) = omega (arith, later)
  some-after (by_clock (control_clock each at contained is shows later)) = omega (arith, later)
  some-after (by_level s some e level) = omega (arith, e, some)
  some-after (by_rules ends) = let l = ends.later in omega (arith, l)

  -- ---- by the rules

  rules-end : (s : ℕ) → RulesMatter project grid standing row s
      → list_any is_unknown (rule_truths project grid standing row s) ≡ false
      → EndsByRules network S period (period.time + s)
  rules-end s matters known = record {
    later = let l = matters.tried.later in omega (arith, l);
    is_tried = let t = bounded.time in let e : standing.time + s ≡ period.time + s = omega (arith, t) in
        subst (λ m. m % project.times.rule ≡ 0) e matters.tried.is_multiple;
    changes = λ none. changed matters.matters (changes_are project nodes S period grid standing row bounded sound s
        (period.time + s) (let t = bounded.time in omega (arith, t)) known ∙ none);
  }
    where
      changed : (list_any is_unknown (rule_truths project grid standing row s) ≡ true) ⊎
          (decided_changes project grid standing row s ≢ []) → decided_changes project grid standing row s ≡ [] → ⊥
      changed (inl unknown) none = absurd (cc)
      changed (inr other) none = other none

  by-rules-length : (s : ℕ) → EndsBy project grid standing row (ByRules s) → period.length ≡ s
  by-rules-length s (decided_by_rules first known) =
      let most : period.length ≤ s = not-beyond s (by_rules (rules-end s first.first.holds known)) in
      let least : s ≤ period.length = at-least here in
      omega (arith, most, least)
    where
      at-least : EndsAt → s ≤ period.length
      at-least (early after) = let a = after first.earliest first.is_earliest in let b = first.in_time in
          omega (arith, a, b)
      at-least (ruled ends) = first.first.least period.length (matter ends)

  by-clock-length : (s : ℕ) → EndsBy project grid standing row (WithoutRules s) → period.length ≡ s
  by-clock-length s (decided_by_clock none latest) =
      let most : period.length ≤ s = by-latest s latest in
      let least : s ≤ period.length = at-least here in
      omega (arith, most, least)
    where
      at-least : EndsAt → s ≤ period.length
      at-least (early after) = after s none.is_earliest
      at-least (ruled ends) = let l = none.none period.length (matter ends) in omega (arith, l)

  -- ---- the links that are left

  commands-tried : (b : Bool) (p : (period.time + period.length) % project.times.rule ≡ 0
      → b ≡ true) (xs ys : List LinkState) → (period.time + period.length) % project.times.rule ≡ 0
      → (if b then xs else ys) ≡ xs
  commands-tried true p xs ys e = refl
  commands-tried false p xs ys e = absurd (let h = p e in cc)

  by-rules-links : (s : ℕ) → EndsBy project grid standing row (ByRules s) → commanded_after network S period
      ≡ acted project (map is_yes (rule_truths project grid standing row s)) (links_at project standing)
  by-rules-links s (decided_by_rules first known) =
      let length = by-rules-length s (decided_by_rules first known) in
      let t = bounded.time in
      let l = bounded.links in
      let instant : period.time + period.length ≡ standing.time + s = omega (arith, t, length) in
      let tried : (period.time + period.length) % project.times.rule ≡ 0 = subst (λ m. m % project.times.rule ≡ 0)
      (sym instant) first.first.holds.tried.is_multiple in
      let values = decided_values project nodes S period grid standing row bounded sound s (period.time + period.length)
      instant known in
      commands-tried ((period.time + period.length) % project.times.rule == 0) (eq-eqb _ _) _ _ tried
      ∙ (λ i. acted project (sym values i) (l i))

  by-clock-links : (s : ℕ) → EndsBy project grid standing row (WithoutRules s) → commanded_after network S period
      ≡ links_at project standing
  by-clock-links s (decided_by_clock none latest) =
      let length = by-clock-length s (decided_by_clock none latest) in
      elim (cases_Bool ((period.time + period.length) % project.times.rule == 0)) [
        | inl held ↦ tried-case held length
        | inr fails ↦ untried ((period.time + period.length) % project.times.rule == 0) _ _ fails ∙ bounded.links
      ]
    where
      untried : (b : Bool) (xs ys : List LinkState) → b ≡ false → (if b then xs else ys) ≡ ys
      untried true xs ys e = absurd (cc)
      untried false xs ys e = refl

      chosen : (b : Bool) (xs ys : List LinkState) → b ≡ true → (if b then xs else ys) ≡ xs
      chosen true xs ys e = refl
      chosen false xs ys e = absurd (cc)

      tried-case : ((period.time + period.length) % project.times.rule == 0) ≡ true → period.length ≡ s
          → commanded_after network S period ≡ links_at project standing
      tried-case held length =
          let t = bounded.time in
          let instant : period.time + period.length ≡ standing.time + s = omega (arith, t, length) in
          let tried : IsTried project standing s = record {
            later = let p = some-after goes.least.holds in omega (arith, p, length);
            is_multiple = subst (λ m. m % project.times.rule ≡ 0) instant (eqb-true _ _ held);
          } in
          let idle : RulesMatter project grid standing row s → ⊥ = λ matters. let l = none.none s matters in
          omega (arith, l) in
          elim (cases_Bool (list_any is_unknown (rule_truths project grid standing row s))) [
            | inl unknown ↦ absurd (idle (record { tried = tried; matters = inl unknown }))
            | inr known ↦ elim (is-empty Change (decided_changes project grid standing row s)) [
              | inl no_change ↦ chosen ((period.time + period.length) % project.times.rule == 0) _ _ held
                  ∙ unchanged project (values_at network S period (period.time + period.length)) period.links
                  (sym (changes_are project nodes S period grid standing row bounded sound s
                  (period.time + period.length)
                  instant known) ∙ no_change)
                  ∙ bounded.links
              | inr change ↦ absurd (idle (record { tried = tried; matters = inr change }))
            ]
          ]

  -- ---- both

  record LastsSo (seconds : ℕ) (links : List LinkState) : Type 0 where
    length_is : period.length ≡ seconds
    left : commanded_after network S period ≡ links

  lasts : (seconds : ℕ) (links : List LinkState) → LeavesLinks project grid standing row seconds links
      → LastsSo seconds links
  lasts seconds _ (left_by_rules e) = record { length_is = by-rules-length seconds e; left = by-rules-links seconds e }
  lasts seconds _ (left_by_clock e) = record { length_is = by-clock-length seconds e; left = by-clock-links seconds e }

pub length_and_links : (project : Project) → IsSound project → (nodes : NodeData) (S : ℕ) (period : Period)
    (grid : Grid) (standing : Standing) (row : Record) → IsBounded project nodes S period grid standing row
    → standing.time ≢ project.times.duration → HasItsLength (with_data project nodes) S period
    → (seconds : ℕ) (links : List LinkState) → LeavesLinks project grid standing row seconds links
    → (period.length ≡ seconds) × (commanded_after (with_data project nodes) S period ≡ links)
length_and_links project sound nodes S period grid standing row bounded other has seconds links leaves =
    let goes = goes-to (with_data project nodes) S period (λ e. other (sym bounded.time ∙ e)) has in
    let l = lasts project sound nodes S period grid standing row bounded goes seconds links leaves in
    (l.length_is, l.left)
