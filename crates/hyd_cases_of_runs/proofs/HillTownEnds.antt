-- How the periods of the hill town end.
use Rattle.std.proofs.Common.{◌≡◌, ℕ, zero, suc, ◌+◌, ◌%◌, ◌<◌, ◌≤◌, ℤ, pos, Bool, true, false}
use Rattle.std.proofs.Common.{List, [], ◌∷◌, ◌⊎◌, inl, inr, refl, sym, subst, arith, lit<}
use Rattle.std.specs.Prelude.{slice_get, slice_index_or, Some, Contains, map}
use Rattle.std.specs.List.{list_any}
use Rattle.hyd_spec.specs.ProgramTypes.{Tank, Control, Closed}
use Rattle.hyd_spec.specs.declared.Change.{Change}
use Rattle.hyd_spec.specs.declared.Source.TheVariants.{Rule as ByRule}
use Rattle.hyd_spec.specs.PeriodLength.{EndsByClock, step, duration, pattern, report, control_time, control_clock}
use Rattle.hyd_spec.specs.Rules.{acted}
use Rattle.hyd_spec.specs.Tank.{walls_of}
use Rattle.hyd_spec_certificates.specs.EnclosingFunctions.{root_up}
use Rattle.hyd_spec_certificates.specs.Interval.{Interval}
use Rattle.hyd_spec_certificates.specs.Stocks.{may_reach, must_reach}
use Rattle.hyd_spec_certificates.specs.PeriodNetwork.{Grid}
use Rattle.hyd_spec_certificates.specs.RecordAndStanding.{Record, Standing}
use Rattle.hyd_spec_certificates.specs.ThreeValuedLogic.{is_unknown, is_yes}
use Rattle.hyd_spec_certificates.specs.declared.Verdict.{Verdict}
use Rattle.hyd_spec_certificates.specs.declared.Verdict.TheVariants.{Yes}
use Rattle.hyd_spec_certificates.specs.Decided.{Watch, watches, stocks_of_tank, inflow_of_tank, SomeMayReach}
use Rattle.hyd_spec_certificates.specs.Decided.{SomeMustReach, IsClockLength, IsEarliestEnd, IsLatestEnd}
use Rattle.hyd_spec_certificates.specs.Decided.{NoRuleMatters, IsFirstMatter, EndsBy, ByRules, WithoutRules, by_rules}
use Rattle.hyd_spec_certificates.specs.Decided.{by_clock, rule_truths, decided_changes, links_at}
use Rattle.hyd_lemmas.proofs.BooleanTests.{none_below, from, any_of}
use Rattle.hyd_theorems_on_definitions.proofs.Roots.{root_down-quick, quick_root}
use Rattle.hyd_cases_of_runs.specs.HillTown.{hill_town, pool, starting, standing_0, standing_1, standing_2, grid_0}
use Rattle.hyd_cases_of_runs.specs.HillTown.{grid_1}
use Rattle.hyd_cases_of_runs.specs.HillTown.{grid_2, row_0, row_1, row_2}
use Rattle.hyd_cases_of_runs.proofs.HillTownRecords.{inflow_0, inflow_1, inflow_2, inflow_is_0, inflow_is_1}
use Rattle.hyd_cases_of_runs.proofs.HillTownRecords.{inflow_is_2}

-- ---- the clock

pub only_control : (each : Control) → Contains (starting ∷ []) each → starting ≡ each
only_control each is = only is.0 is.1 is.2
  where
    only : (k : ℕ) → k < 1 → slice_index_or (starting ∷ []) k each ≡ each → starting ≡ each
    only zero le at = at
    only (suc k) le at = absurd (omega (arith, le))

-- it ends a period at 3 s, and not before
pub not_before : (time k : ℕ) → EndsByClock hill_town time k → 3 ≤ k
not_before time k (step later e) = omega (arith, e)
not_before time k (duration later e) = omega (arith, e)
not_before time k (pattern later e) = omega (arith, later, e)
not_before time k (report later begun e) = omega (arith, later, e)
not_before time k (control_time each contained at later) = let same = only_control each contained in absurd (cc)
not_before time k (control_clock each at contained when shown later) =
    let same = only_control each contained in absurd (cc)

clock_length : (time cap : ℕ) → time < 3 → time + cap ≡ 3 → IsClockLength hill_town time cap
clock_length time cap before is = record {
  holds = duration (omega (arith, before, is)) is;
  least = λ k ends. subst (λ (n : ℕ). n ≤ k) (sym is) (not_before time k ends);
}

clock_0 : IsClockLength hill_town 0 3
clock_0 = clock_length 0 3 (omega arith) refl

clock_1 : IsClockLength hill_town 1 2
clock_1 = clock_length 1 2 (omega arith) refl

clock_2 : IsClockLength hill_town 2 1
clock_2 = clock_length 2 1 (omega arith) refl

-- ---- levels

module _ (grid : Grid) (standing : Standing) (row : Record) (inflow : Interval)
    (same : inflow_of_tank hill_town grid row 0 ≡ inflow) where
  abbrev may_be : ℕ → Watch → Bool
  may_be s w = may_reach (walls_of hill_town pool) pool (stocks_of_tank standing 0) inflow w.target w.rising s

  abbrev must_be : ℕ → Watch → Bool
  must_be s w = must_reach (walls_of hill_town pool) pool (stocks_of_tank standing 0) inflow w.target w.rising s

  -- whether a watched level may, or must, have reached its target
  abbrev pub may : ℕ → Bool
  may s = list_any (may_be s) (watches hill_town standing)

  abbrev pub must : ℕ → Bool
  must s = list_any (must_be s) (watches hill_town standing)

  may_here : (k : ℕ) (tank : Tank) (target : ℤ) (rising : Bool) (s : ℕ) → slice_get (pool ∷ []) k ≡ Some tank
      → may_reach (walls_of hill_town tank) tank (stocks_of_tank standing k) (inflow_of_tank hill_town grid row k)
      target rising s ≡ true
      → may_reach (walls_of hill_town pool) pool (stocks_of_tank standing 0) inflow target rising s ≡ true
  may_here zero tank target rising s at reached =
      let own : tank ≡ pool = cc in
      subst (λ (i : Interval). may_reach (walls_of hill_town pool) pool (stocks_of_tank standing 0) i target rising s
      ≡ true) same
      (subst (λ (t : Tank). may_reach (walls_of hill_town t) t (stocks_of_tank standing 0)
      (inflow_of_tank hill_town grid row 0) target rising s ≡ true) own reached)
  may_here (suc k) tank target rising s at reached = absurd (cc)

  must_here : (k : ℕ) (tank : Tank) (target : ℤ) (rising : Bool) (s : ℕ) → slice_get (pool ∷ []) k ≡ Some tank
      → must_reach (walls_of hill_town tank) tank (stocks_of_tank standing k) (inflow_of_tank hill_town grid row k)
      target rising s ≡ true
      → must_reach (walls_of hill_town pool) pool (stocks_of_tank standing 0) inflow target rising s ≡ true
  must_here zero tank target rising s at reached =
      let own : tank ≡ pool = cc in
      subst (λ (i : Interval). must_reach (walls_of hill_town pool) pool (stocks_of_tank standing 0) i target rising s
      ≡ true) same
      (subst (λ (t : Tank). must_reach (walls_of hill_town t) t (stocks_of_tank standing 0)
      (inflow_of_tank hill_town grid row 0) target rising s ≡ true) own reached)
  must_here (suc k) tank target rising s at reached = absurd (cc)

  may_test : (s : ℕ) → SomeMayReach hill_town grid standing row s → may s ≡ true
  may_test s is = any_of Watch (may_be s) (watches hill_town standing) is.watch is.is_watched
      (may_here is.watch.tank is.tank is.watch.target is.watch.rising s is.is_tank is.reached)

  must_test : (s : ℕ) → SomeMustReach hill_town grid standing row s → must s ≡ true
  must_test s is = any_of Watch (must_be s) (watches hill_town standing) is.watch is.is_watched
      (must_here is.watch.tank is.tank is.watch.target is.watch.rising s is.is_tank is.reached)

  -- the first watched level is that of a pool that fills
  pub may_fill : (s : ℕ) (w : Watch) → w.tank ≡ 0 → Contains (watches hill_town standing) w → may_be s w ≡ true
      → SomeMayReach hill_town grid standing row s
  may_fill s w at is reached = record {
    watch = w;
    is_watched = is;
    tank = pool;
    is_tank = rw at refl;
    reached = rw (at, same) reached;
  }

  pub must_fill : (s : ℕ) (w : Watch) → w.tank ≡ 0 → Contains (watches hill_town standing) w → must_be s w ≡ true
      → SomeMustReach hill_town grid standing row s
  must_fill s w at is reached = record {
    watch = w;
    is_watched = is;
    tank = pool;
    is_tank = rw at refl;
    reached = rw (at, same) reached;
  }

  pub earliest_end : (cap e : ℕ) → IsClockLength hill_town standing.time cap → e ≤ cap → none_below may e ≡ true
      → IsClockLength hill_town standing.time e ⊎ ((1 ≤ e) × SomeMayReach hill_town grid standing row e)
      → IsEarliestEnd hill_town grid standing row e
  earliest_end cap e clock within none ends = record { holds = ends; least = least }
    where
      least : (k : ℕ) → IsClockLength hill_town standing.time k
          ⊎ ((1 ≤ k) × SomeMayReach hill_town grid standing row k) → e ≤ k
      least k (inl c) = let l = clock.least (standing.time + k) c.holds in omega (arith, l, within)
      least k (inr m) = from may e none k (may_test k m.1)

  pub latest_end : (cap e : ℕ) → IsClockLength hill_town standing.time cap → e ≤ cap → none_below must e ≡ true
      → IsClockLength hill_town standing.time e ⊎ ((1 ≤ e) × SomeMustReach hill_town grid standing row e)
      → IsLatestEnd hill_town grid standing row e
  latest_end cap e clock within none ends = record { holds = ends; least = least }
    where
      least : (k : ℕ) → IsClockLength hill_town standing.time k
          ⊎ ((1 ≤ k) × SomeMustReach hill_town grid standing row k) → e ≤ k
      least k (inl c) = let l = clock.least (standing.time + k) c.holds in omega (arith, l, within)
      least k (inr m) = from must e none k (must_test k m.1)

-- ---- rules

module _ (grid : Grid) (standing : Standing) (row : Record) where
  -- they are tried in even seconds, and not at the start
  pub no_rule : (e : ℕ) → standing.time < 3 → IsEarliestEnd hill_town grid standing row e
      → ((s : ℕ) → 0 < s → (standing.time + s) % 2 ≡ 0 → e < s) → NoRuleMatters hill_town grid standing row e
  no_rule e before earliest none = record {
    not_last = λ is. omega (arith, is, before);
    is_earliest = earliest;
    none = λ s is. none s is.tried.later is.tried.is_multiple;
  }

-- ---- the periods

-- the pool is filled
abbrev filling : Watch
filling = record { tank = 0; target = pos 50000000000000; rising = true }

pub ends_0 : EndsBy hill_town grid_0 standing_0 row_0 (WithoutRules 1)
ends_0 = by_clock
    (no_rule grid_0 standing_0 row_0 1 (omega arith)
    (earliest_end grid_0 standing_0 row_0 inflow_0 inflow_is_0 3 1 clock_0 (omega arith) refl
    (inr (omega arith, may_fill grid_0 standing_0 row_0 inflow_0 inflow_is_0 1 filling refl (0, lit< tt, refl) refl)))
    (λ s later even. omega (arith, later, even)))
    (latest_end grid_0 standing_0 row_0 inflow_0 inflow_is_0 3 1 clock_0 (omega arith) refl
    (inr (omega arith, must_fill grid_0 standing_0 row_0 inflow_0 inflow_is_0 1 filling refl (0, lit< tt, refl) refl)))

-- the rule stops the pump
pub truths_1 : rule_truths hill_town grid_1 standing_1 row_1 1 ≡ Yes ∷ []
unfolding root_up quick_root
truths_1 = rw root_down-quick refl

abbrev pub pump_stops : Change
pump_stops = record { source = ByRule 0; link = 2; to = Closed }

pub changes_1 : decided_changes hill_town grid_1 standing_1 row_1 1 ≡ pump_stops ∷ []
unfolding root_up quick_root
changes_1 = rw root_down-quick refl

pub acted_1 : acted hill_town (map is_yes (rule_truths hill_town grid_1 standing_1 row_1 1))
    (links_at hill_town standing_1) ≡ standing_2.commanded
unfolding root_up quick_root
acted_1 = rw root_down-quick refl

stops_first : IsFirstMatter hill_town grid_1 standing_1 row_1 1
stops_first = record {
  not_last = λ is. omega (arith, is);
  earliest = 2;
  is_earliest = earliest_end grid_1 standing_1 row_1 inflow_1 inflow_is_1 2 2 clock_1 (omega arith) refl (inl clock_1);
  in_time = omega arith;
  first = record {
    holds = record {
      tried = record { later = omega arith; is_multiple = refl };
      matters = inr (λ none. absurd (let some = changes_1 in cc));
    };
    least = λ s is. (let later = is.tried.later in omega (arith, later));
  };
}

pub ends_1 : EndsBy hill_town grid_1 standing_1 row_1 (ByRules 1)
ends_1 = by_rules stops_first
    (subst (λ (ts : List Verdict). list_any is_unknown ts ≡ false) (sym truths_1) refl)

-- the run ends
pub ends_2 : EndsBy hill_town grid_2 standing_2 row_2 (WithoutRules 1)
ends_2 = by_clock
    (no_rule grid_2 standing_2 row_2 1 (omega arith)
    (earliest_end grid_2 standing_2 row_2 inflow_2 inflow_is_2 1 1 clock_2 (omega arith) refl (inl clock_2))
    (λ s later even. omega (arith, later, even)))
    (latest_end grid_2 standing_2 row_2 inflow_2 inflow_is_2 1 1 clock_2 (omega arith) refl (inl clock_2))
