-- The first second at which something holds, by trying each: by the clock, by levels, by rules.
use Rattle.std.proofs.Common.{◌≡◌, ◌≢◌, ℕ, zero, suc, ◌+◌, ◌%◌, ◌<◌, ◌≤◌, Bool, true, false, ◌&&◌, ◌||◌, not, ◌⊎◌, inl}
use Rattle.std.proofs.Common.{inr, List, [], ◌∷◌, eqb, ltb, refl, subst, arith}
use Rattle.std.specs.Prelude.{slice_get, slice_index_or, Some, Contains}
use Rattle.std.specs.List.{list_any}
use Rattle.std.proofs.lemmas.Bool.{eq-eqb, lt-ltb}
use Rattle.hyd_spec.specs.ProgramTypes.{Tank, Control}
use Rattle.hyd_spec.specs.PeriodLength.{EndsByClock, step, duration, pattern, report, control_time, control_clock}
use Rattle.hyd_spec_certificates.specs.PeriodNetwork.{Grid}
use Rattle.hyd_spec_certificates.specs.RecordAndStanding.{Record, Standing}
use Rattle.hyd_spec.specs.Tank.{walls_of}
use Rattle.hyd_spec_certificates.specs.Stocks.{may_reach, must_reach}
use Rattle.hyd_spec.specs.declared.Change.{Change}
use Rattle.hyd_spec_certificates.specs.ThreeValuedLogic.{is_unknown}
use Rattle.hyd_spec_certificates.specs.Decided.{Watch, watches, SomeMayReach, SomeMustReach, stocks_of_tank}
use Rattle.hyd_spec_certificates.specs.Decided.{inflow_of_tank, IsClockLength, IsEarliestEnd, IsLatestEnd, rule_truths}
use Rattle.hyd_spec_certificates.specs.Decided.{decided_changes, RulesMatter, NoRuleMatters}
use Rattle.hyd_cases_of_runs.specs.Village.{Choice, village_with, level_control}
use Rattle.hyd_lemmas.proofs.BooleanTests.{none_below, from, or-left, or-right, and-true, any_of}

-- ---- by the clock

module _ (choice : Choice) where
  -- the one control isn't one of a time
  pub only_control : (each : Control) → Contains (level_control choice.ticks ∷ []) each
      → level_control choice.ticks ≡ each
  only_control each is = only is.0 is.1 is.2
    where
      only : (k : ℕ) → k < 1 → slice_index_or (level_control choice.ticks ∷ []) k each ≡ each
          → level_control choice.ticks ≡ each
      only zero le at = at
      only (suc k) le at = absurd (omega (arith, le))

  pub not_before : (time end k : ℕ) → end ≤ time + 8 → end ≤ 16 → ((m : ℕ) → time < m → m % 8 ≡ 0 → end ≤ m)
      → EndsByClock (village_with choice) time k → end ≤ k
  not_before time end k after last boundary (step later e) = omega (arith, after, e)
  not_before time end k after last boundary (duration later e) = omega (arith, last, e)
  not_before time end k after last boundary (pattern later e) = boundary k later
      (let m : k % 8 ≡ 0 = omega (arith, e) in m)
  not_before time end k after last boundary (report later begun e) = boundary k later
      (let m : k % 8 ≡ 0 = omega (arith, e) in m)
  not_before time end k after last boundary (control_time each is at later) = let same = only_control each is in
      absurd (cc)
  not_before time end k after last boundary (control_clock each at is when shown later) = let same = only_control each
      is in absurd (cc)

  pub clock_length : (time cap : ℕ) → EndsByClock (village_with choice) time (time + cap) → time + cap ≤ time + 8
      → time + cap ≤ 16
      → ((m : ℕ) → time < m → m % 8 ≡ 0 → time + cap ≤ m) → IsClockLength (village_with choice) time cap
  clock_length time cap ends after last boundary = record {
    holds = ends;
    least = λ k is. not_before time (time + cap) k after last boundary is;
  }

  -- ---- by levels

  only_tank : (k : ℕ) (tank : Tank) → slice_get (choice.tank ∷ []) k ≡ Some tank → tank ≡ choice.tank
  only_tank zero tank e = cc
  only_tank (suc k) tank e = absurd (cc)

  module _ (grid : Grid) (standing : Standing) (row : Record) where
    abbrev may_be : ℕ → Watch → Bool
    may_be s w = may_reach (walls_of (village_with choice) choice.tank) choice.tank (stocks_of_tank standing w.tank)
        (inflow_of_tank (village_with choice) grid row w.tank) w.target w.rising s

    abbrev must_be : ℕ → Watch → Bool
    must_be s w = must_reach (walls_of (village_with choice) choice.tank) choice.tank (stocks_of_tank standing w.tank)
        (inflow_of_tank (village_with choice) grid row w.tank) w.target w.rising s

    -- whether a watched level may, or must, have reached its target
    abbrev pub may : ℕ → Bool
    may s = list_any (may_be s) (watches (village_with choice) standing)

    abbrev pub must : ℕ → Bool
    must s = list_any (must_be s) (watches (village_with choice) standing)

    may_test : (s : ℕ) → SomeMayReach (village_with choice) grid standing row s → may s ≡ true
    may_test s is = any_of Watch (may_be s) (watches (village_with choice) standing) is.watch is.is_watched
        (subst (λ (t : Tank). may_reach (walls_of (village_with choice) t) t (stocks_of_tank standing is.watch.tank)
        (inflow_of_tank (village_with choice) grid row is.watch.tank) is.watch.target is.watch.rising s ≡ true)
        (only_tank is.watch.tank is.tank is.is_tank) is.reached)

    must_test : (s : ℕ) → SomeMustReach (village_with choice) grid standing row s → must s ≡ true
    must_test s is = any_of Watch (must_be s) (watches (village_with choice) standing) is.watch is.is_watched
        (subst (λ (t : Tank). must_reach (walls_of (village_with choice) t) t (stocks_of_tank standing is.watch.tank)
        (inflow_of_tank (village_with choice) grid row is.watch.tank) is.watch.target is.watch.rising s ≡ true)
        (only_tank is.watch.tank is.tank is.is_tank) is.reached)

    -- the first second at which the clock or a level may, or must, end the period
    pub earliest_end : (cap e : ℕ) → IsClockLength (village_with choice) standing.time cap → e ≤ cap
        → none_below may e ≡ true
        → IsClockLength (village_with choice) standing.time e
        ⊎ ((1 ≤ e) × SomeMayReach (village_with choice) grid standing row e)
        → IsEarliestEnd (village_with choice) grid standing row e
    earliest_end cap e clock within none ends = record { holds = ends; least = least }
      where
        least : (k : ℕ) → IsClockLength (village_with choice) standing.time k
            ⊎ ((1 ≤ k) × SomeMayReach (village_with choice) grid standing row k) → e ≤ k
        least k (inl c) = let l = clock.least (standing.time + k) c.holds in omega (arith, l, within)
        least k (inr m) = from may e none k (may_test k m.1)

    pub latest_end : (cap e : ℕ) → IsClockLength (village_with choice) standing.time cap → e ≤ cap
        → none_below must e ≡ true
        → IsClockLength (village_with choice) standing.time e
        ⊎ ((1 ≤ e) × SomeMustReach (village_with choice) grid standing row e)
        → IsLatestEnd (village_with choice) grid standing row e
    latest_end cap e clock within none ends = record { holds = ends; least = least }
      where
        least : (k : ℕ) → IsClockLength (village_with choice) standing.time k
            ⊎ ((1 ≤ k) × SomeMustReach (village_with choice) grid standing row k) → e ≤ k
        least k (inl c) = let l = clock.least (standing.time + k) c.holds in omega (arith, l, within)
        least k (inr m) = from must e none k (must_test k m.1)

-- ---- by rules

abbrev pub is_empty_list : List Change → Bool
is_empty_list [] = true
is_empty_list (c ∷ cs) = false

pub some_change : (cs : List Change) → cs ≢ [] → not (is_empty_list cs) ≡ true
some_change [] some = absurd (some refl)
some_change (c ∷ cs) some = refl

module _ (choice : Choice) (grid : Grid) (standing : Standing) (row : Record) where
  -- whether the rules are tried and matter
  abbrev pub matter : ℕ → Bool
  matter s = ltb 0 s && (eqb ((standing.time + s) % 2) 0
      && (list_any is_unknown (rule_truths (village_with choice) grid standing row s)
      || not (is_empty_list (decided_changes (village_with choice) grid standing row s))))

  pub matter_test : (s : ℕ) → RulesMatter (village_with choice) grid standing row s → matter s ≡ true
  matter_test s is =
      let unknown = list_any is_unknown (rule_truths (village_with choice) grid standing row s) in
      let changes = not (is_empty_list (decided_changes (village_with choice) grid standing row s)) in
      let tried = eqb ((standing.time + s) % 2) 0 in
      and-true (ltb 0 s) (tried && (unknown || changes)) (lt-ltb 0 s is.tried.later)
      (and-true tried (unknown || changes) (eq-eqb ((standing.time + s) % 2) 0 is.tried.is_multiple)
      (elim is.matters [
        | inl u ↦ or-left unknown changes u
        | inr c ↦ or-right unknown changes (some_change (decided_changes (village_with choice) grid standing row s)
            c)
      ]))

  -- the rules matter at no second up to e
  pub no_rule : (e : ℕ) → standing.time < 16 → IsEarliestEnd (village_with choice) grid standing row e
      → none_below matter (e + 1) ≡ true → NoRuleMatters (village_with choice) grid standing row e
  no_rule e before earliest none = record {
    not_last = λ is. omega (arith, is, before);
    is_earliest = earliest;
    none = λ s is. let l = from matter (e + 1) none s (matter_test s is) in omega (arith, l);
  }
