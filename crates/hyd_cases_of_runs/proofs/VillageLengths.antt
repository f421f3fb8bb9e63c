-- The periods of the history have their lengths, and come one after another.
use Rattle.std.proofs.Common.{◌≡◌, ◌≢◌, ℕ, zero, suc, ◌+◌, ◌%◌, ◌<◌, ◌≤◌, ℤ, pos, Bool, true, false, ◌&&◌, ◌||◌, not}
use Rattle.std.proofs.Common.{[], ◌∷◌, eqb, ltb, lit<, refl, sym, ap, subst, arith}
use Rattle.std.specs.Prelude.{slice_index_or, slice_get, Option, Some, None}
use Rattle.std.specs.Option.{option_map_or}
use Rattle.std.proofs.lemmas.Int.{ints}
use Rattle.std.proofs.lemmas.Bool.{eq-eqb, lt-ltb}
use Rattle.hyd_num.specs.Rational.{whole}
use Rattle.hyd_spec.specs.ProgramTypes.{Tank}
use Rattle.hyd_spec.specs.declared.TankState.{TankState}
use Rattle.hyd_spec.specs.declared.TankState.TheVariants.{Empty, Between, Full}
use Rattle.hyd_spec.specs.LinkLaw.{is_full, is_empty}
use Rattle.hyd_spec.specs.Tank.{walls_of, content_bounds, reaches, is_at_maximum, is_at_minimum, IsNextStock}
use Rattle.hyd_spec.specs.Tank.{tank_inflow}
use Rattle.hyd_spec.specs.Rules.{rule_changes}
use Rattle.hyd_spec.specs.PeriodLength.{Period, EndsByLevel, full, empty, control as at_control, EndsByRules, MayEnd}
use Rattle.hyd_spec.specs.PeriodLength.{by_clock, by_level, by_rules, step, duration, HasItsLength, at_end, before_end}
use Rattle.hyd_spec.specs.PeriodLength.{level_at_start, stock_at_start, exact_after, reached_after, values_at}
use Rattle.hyd_spec.specs.History.{AreNextStocks, ComesAfter}
use Rattle.hyd_cases_of_runs.specs.Village.{Choice, village_with, village, usual, tower, level_control}
use Rattle.hyd_cases_of_runs.specs.VillageHistory.{period_0, period_1, period_2, period_3, period_4}
use Rattle.hyd_lemmas.proofs.Each.{each_one}
use Rattle.hyd_cases_of_runs.proofs.VillageSeconds.{only_control, not_before, is_empty_list, some_change}
use Rattle.hyd_lemmas.proofs.BooleanTests.{none_below, from, or-left, or-right, and-true}

-- ---- by levels

pub not_full : (o : Option TankState) → o ≢ Some Full → not (option_map_or is_full o false) ≡ true
not_full None other = refl
not_full (Some Full) other = absurd (other refl)
not_full (Some Between) other = refl
not_full (Some Empty) other = refl

pub not_empty : (o : Option TankState) → o ≢ Some Empty → not (option_map_or is_empty o false) ≡ true
not_empty None other = refl
not_empty (Some Full) other = refl
not_empty (Some Between) other = refl
not_empty (Some Empty) other = absurd (other refl)

module _ (choice : Choice) (period : Period) where
  abbrev wasnt_full : Bool
  wasnt_full = not (option_map_or is_full (slice_get period.tanks 0) false)

  abbrev wasnt_empty : Bool
  wasnt_empty = not (option_map_or is_empty (slice_get period.tanks 0) false)

  abbrev comes_to_maximum : ℕ → Bool
  comes_to_maximum s = is_at_maximum 1000 (content_bounds (walls_of (village_with choice) choice.tank) choice.tank)
      (exact_after (village_with choice) period 0 choice.tank s)

  abbrev comes_to_minimum : ℕ → Bool
  comes_to_minimum s = is_at_minimum 1000 (content_bounds (walls_of (village_with choice) choice.tank) choice.tank)
      (exact_after (village_with choice) period 0 choice.tank s)

  abbrev at_maximum : ℕ → Bool
  at_maximum s = wasnt_full && comes_to_maximum s

  abbrev at_minimum : ℕ → Bool
  at_minimum s = wasnt_empty && comes_to_minimum s

  abbrev is_filled : ℕ → Bool
  is_filled s = not (reaches 1000 true choice.ticks (whole (level_at_start period 0)))
      && reached_after (village_with choice) 1000 period 0 choice.tank true choice.ticks s

  -- whether a level ends the period
  abbrev level_ends : ℕ → Bool
  level_ends s = at_maximum s || (at_minimum s || is_filled s)

  filled_by : (s : ℕ) (above : Bool) (ticks : ℤ) → true ≡ above → choice.ticks ≡ ticks
      → reaches 1000 above ticks (whole (level_at_start period 0)) ≡ false
      → reached_after (village_with choice) 1000 period 0 choice.tank above ticks s ≡ true
      → is_filled s ≡ true
  filled_by s above ticks above_is ticks_are before reached =
      let started = reaches 1000 true choice.ticks (whole (level_at_start period 0)) in
      let ended = reached_after (village_with choice) 1000 period 0 choice.tank true choice.ticks s in
      and-true (not started) ended
      (ap not (subst (λ (b : Bool). reaches 1000 b choice.ticks (whole (level_at_start period 0)) ≡ false)
      (sym above_is)
      (subst (λ (z : ℤ). reaches 1000 above z (whole (level_at_start period 0)) ≡ false) (sym ticks_are) before)))
      (subst (λ (b : Bool). reached_after (village_with choice) 1000 period 0 choice.tank b choice.ticks s ≡ true)
      (sym above_is)
      (subst (λ (z : ℤ). reached_after (village_with choice) 1000 period 0 choice.tank above z s ≡ true)
      (sym ticks_are) reached))

  level_test : (s : ℕ) → EndsByLevel (village_with choice) 1000 period s → level_ends s ≡ true
  level_test s (full zero tank is other reached) =
      let same : tank ≡ choice.tank = cc in
      or-left (at_maximum s) (at_minimum s || is_filled s) (and-true wasnt_full (comes_to_maximum s)
      (not_full (slice_get period.tanks 0) other)
      (subst (λ (t : Tank). is_at_maximum 1000 (content_bounds (walls_of (village_with choice) t) t)
      (exact_after (village_with choice) period 0 t s) ≡ true) same reached))
  level_test s (full (suc k) tank is other reached) = absurd (cc)
  level_test s (empty zero tank is other reached) =
      let same : tank ≡ choice.tank = cc in
      or-right (at_maximum s) (at_minimum s || is_filled s) (or-left (at_minimum s) (is_filled s)
      (and-true wasnt_empty (comes_to_minimum s) (not_empty (slice_get period.tanks 0) other)
      (subst (λ (t : Tank). is_at_minimum 1000 (content_bounds (walls_of (village_with choice) t) t)
      (exact_after (village_with choice) period 0 t s) ≡ true) same reached)))
  level_test s (empty (suc k) tank is other reached) = absurd (cc)
  level_test s (at_control each zero above ticks tank contained is_level is before reached) =
      let same = only_control choice each contained in
      let own : tank ≡ choice.tank = cc in
      or-right (at_maximum s) (at_minimum s || is_filled s) (or-right (at_minimum s) (is_filled s)
      (filled_by s above ticks (cc) (cc) before (subst (λ (t : Tank). reached_after (village_with choice) 1000 period
      0 t above ticks s ≡ true) own reached)))
  level_test s (at_control each (suc k) above ticks tank contained is_level is before reached) = absurd (cc)

  -- ---- by rules

  abbrev rules_end : ℕ → Bool
  rules_end e = ltb period.time e
      && (eqb (e % 2) 0 && not (is_empty_list (rule_changes (village_with choice)
      (values_at (village_with choice) 1000 period e) period.links)))

  rules_test : (e : ℕ) → EndsByRules (village_with choice) 1000 period e → rules_end e ≡ true
  rules_test e is =
      let changes = rule_changes (village_with choice) (values_at (village_with choice) 1000 period e) period.links in
      and-true (ltb period.time e) (eqb (e % 2) 0 && not (is_empty_list changes)) (lt-ltb period.time e is.later)
      (and-true (eqb (e % 2) 0) (not (is_empty_list changes)) (eq-eqb (e % 2) 0 is.is_tried)
      (some_change changes is.changes))

  -- ---- the length

  -- a period that may end where it does, and by no test before that
  pub has_length : period.time < 16 → MayEnd (village_with choice) 1000 period (period.time + period.length)
      → period.time + period.length ≤ period.time + 8 → period.time + period.length ≤ 16
      → ((m : ℕ) → period.time < m → m % 8 ≡ 0 → period.time + period.length ≤ m)
      → none_below level_ends period.length ≡ true → none_below rules_end (period.time + period.length) ≡ true
      → HasItsLength (village_with choice) 1000 period
  has_length early ends after last boundary levels rules = before_end (λ is. omega (arith, is, early)) (record {
    holds = ends;
    least = least;
  })
    where
      least : (k : ℕ) → MayEnd (village_with choice) 1000 period k → period.time + period.length ≤ k
      least k (by_clock c) = not_before choice period.time (period.time + period.length) k after last boundary c
      least k (by_level s some is level) = let l = from level_ends period.length levels s (level_test s level) in
          omega (arith, l, is)
      least k (by_rules r) = from rules_end (period.time + period.length) rules k (rules_test k r)

-- ---- the periods

pub first_lasts : HasItsLength village 1000 period_0
first_lasts = has_length usual period_0 (omega arith) (by_clock (step (omega arith) refl)) (omega arith) (omega arith)
    (λ m later e. omega arith) refl refl

pub second_lasts : HasItsLength village 1000 period_1
second_lasts = has_length usual period_1 (omega arith) (by_level 3 (omega arith) refl
    (at_control (level_control (pos 20080000000000)) 0 true (pos 20080000000000) tower (0, lit< tt, refl) refl refl
    refl refl))
    (omega arith) (omega arith) (λ m later e. omega arith) refl refl

pub third_lasts : HasItsLength village 1000 period_2
third_lasts = has_length usual period_2 (omega arith) (by_rules (record {
  later = omega arith;
  is_tried = refl;
  changes = λ none. absurd (cc);
}))
    (omega arith) (omega arith) (λ m later e. omega arith) refl refl

pub fourth_lasts : HasItsLength village 1000 period_3
fourth_lasts = has_length usual period_3 (omega arith) (by_clock (duration (omega arith) refl)) (omega arith)
    (omega arith) (λ m later e. omega arith) refl refl

pub fifth_lasts : HasItsLength village 1000 period_4
fifth_lasts = at_end refl refl

-- ---- the levels at their ends

pub next_level : (choice : Choice) (period : Period) (level : ℤ)
    → IsNextStock 1000 (walls_of (village_with choice) choice.tank) choice.tank (stock_at_start period 0)
    (tank_inflow (village_with choice) 0 period.assignment.flows) period.length
    (record { level = level; volume = pos 0 })
    → AreNextStocks (village_with choice) 1000 period (level ∷ []) (pos 0 ∷ [])
next_level choice period level next = record {
  level_each = refl;
  volume_each = refl;
  each = each_one Tank (λ k tank. IsNextStock 1000 (walls_of (village_with choice) tank) tank
      (stock_at_start period k) (tank_inflow (village_with choice) k period.assignment.flows) period.length
      (record { level = slice_index_or (level ∷ []) k (pos 0); volume = slice_index_or (pos 0 ∷ []) k (pos 0) }))
      choice.tank next;
}

pub second_comes : ComesAfter village 1000 period_0 period_1
second_comes = record {
  not_last = λ is. omega (arith, is);
  stocks = next_level usual period_0 _ (
    record {
      near_below = omega (arith, ints);
      near_above = omega (arith, ints);
      above_least = omega (arith, ints);
      below_most = omega (arith, ints);
    },
    refl,
  );
  begins = record { at_time = refl; at_levels = refl; at_volumes = refl; tanks = refl; links = refl };
}

pub third_comes : ComesAfter village 1000 period_1 period_2
third_comes = record {
  not_last = λ is. omega (arith, is);
  stocks = next_level usual period_1 _ (
    record {
      near_below = omega (arith, ints);
      near_above = omega (arith, ints);
      above_least = omega (arith, ints);
      below_most = omega (arith, ints);
    },
    refl,
  );
  begins = record { at_time = refl; at_levels = refl; at_volumes = refl; tanks = refl; links = refl };
}

pub fourth_comes : ComesAfter village 1000 period_2 period_3
fourth_comes = record {
  not_last = λ is. omega (arith, is);
  stocks = next_level usual period_2 _ (
    record {
      near_below = omega (arith, ints);
      near_above = omega (arith, ints);
      above_least = omega (arith, ints);
      below_most = omega (arith, ints);
    },
    refl,
  );
  begins = record { at_time = refl; at_levels = refl; at_volumes = refl; tanks = refl; links = refl };
}

pub fifth_comes : ComesAfter village 1000 period_3 period_4
fifth_comes = record {
  not_last = λ is. omega (arith, is);
  stocks = next_level usual period_3 _ (
    record {
      near_below = omega (arith, ints);
      near_above = omega (arith, ints);
      above_least = omega (arith, ints);
      below_most = omega (arith, ints);
    },
    refl,
  );
  begins = record { at_time = refl; at_levels = refl; at_volumes = refl; tanks = refl; links = refl };
}
