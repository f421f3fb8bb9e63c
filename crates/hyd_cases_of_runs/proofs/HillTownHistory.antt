-- A history of the hill town.
use Rattle.std.proofs.Common.{◌≡◌, ℕ, zero, suc, ◌+◌, ◌<◌, ◌≤◌, ◌%◌, ℤ, pos, ◌-ℤ◌, Bool, true, false, ◌&&◌}
use Rattle.std.proofs.Common.{◌||◌, not, [], ◌∷◌, refl, sym, ap, subst, arith, inl, inr}
use Rattle.std.specs.Prelude.{slice_get, slice_index_or}
use Rattle.std.specs.Option.{option_map_or}
use Rattle.std.proofs.lemmas.Int.{ints}
use Rattle.std.proofs.lemmas.Bool.{leb-true}
use Rattle.hyd_num.specs.Rational.{whole}
use Rattle.hyd_spec.specs.ProgramTypes.{Junction, Tank, Link, LinkState, Open, Closed}
use Rattle.hyd_spec.specs.Law.{Follows}
use Rattle.hyd_spec.specs.LinkLaw.{is_full, is_empty, law_of}
use Rattle.hyd_spec.specs.Assignment.{IsAssignment, JunctionObeys, node_heads, head_at, flow_at, none as no_link}
use Rattle.hyd_spec.specs.Assignment.{more as one_link}
use Rattle.hyd_spec.specs.Tank.{walls_of, content_bounds, is_at_maximum, is_at_minimum, reaches, IsNextStock}
use Rattle.hyd_spec.specs.Tank.{tank_inflow}
use Rattle.hyd_spec.specs.PeriodLength.{Period, EndsByLevel, full, empty, control as at_control, MayEnd}
use Rattle.hyd_spec.specs.PeriodLength.{by_clock, by_level, by_rules, duration, HasItsLength, at_end, before_end}
use Rattle.hyd_spec.specs.PeriodLength.{level_at_start, stock_at_start, exact_after, reached_after}
use Rattle.hyd_spec.specs.History.{IsHistory, AreNextStocks, ComesAfter}
use Rattle.hyd_lemmas.proofs.Each.{each_one}
use Rattle.hyd_lemmas.proofs.BooleanTests.{none_below, from, le-yes, or-left, or-right, and-true}
use Rattle.hyd_cases_of_runs.specs.HillTown.{hill_town, hill, pool, rise, back, lift, running, period_0, period_1}
use Rattle.hyd_cases_of_runs.specs.HillTown.{period_2}
use Rattle.hyd_cases_of_runs.specs.HillTown.{period_3, periods}
use Rattle.hyd_cases_of_runs.proofs.HillTownEnds.{only_control, not_before}
use Rattle.hyd_cases_of_runs.proofs.VillageLengths.{not_full, not_empty}

-- ---- heads and flows

-- the flow of a link follows its law
abbrev LinkFollows : Period → ℕ → Link → LinkState → Type 0
LinkFollows period number link state =
    let heads = node_heads hill_town 1000 period.time period.levels period.assignment.heads in
    Follows (law_of hill_town period.tanks link state) 1000 (head_at heads link.from -ℤ head_at heads link.to)
    (flow_at period.assignment.flows number)

abbrev HillObeys : Period → Type 0
HillObeys period = JunctionObeys hill_town period.time 1000 period.assignment 0 hill

abbrev Obeys : Period → Type 0
Obeys period =
    IsAssignment hill_town 1000 period.time period.levels period.tanks period.links period.assignment

rises_0 : LinkFollows period_0 0 rise Open
rises_0 = record {
  at_least = record {
    minor_within = record { crossed = leb-true _ _ refl };
    friction_within = record { crossed = leb-true _ _ refl };
  };
  at_most = record { crossed = leb-true _ _ refl };
}

comes_back_0 : LinkFollows period_0 1 back Open
comes_back_0 = record { at_least = inl (le-yes _ _ refl); at_most = (le-yes _ _ refl, tt) }

lifts_0 : LinkFollows period_0 2 lift running
lifts_0 = record { at_least = inr (leb-true _ _ refl); at_most = (le-yes _ _ refl, leb-true _ _ refl) }

hill_obeys_0 : HillObeys period_0
hill_obeys_0 = record {
  demand = record { at_least = leb-true _ _ refl; at_most = leb-true _ _ refl };
  emitter = record { at_least = leb-true _ _ refl; at_most = leb-true _ _ refl };
  balance = record { low = le-yes _ _ refl; high = le-yes _ _ refl };
}

obeys_0 : Obeys period_0
obeys_0 = record {
  scale = omega arith;
  level_each = refl;
  tank_each = refl;
  head_each = refl;
  demand_each = refl;
  emitter_each = refl;
  links_follow = one_link rises_0 (one_link comes_back_0 (one_link lifts_0 no_link));
  junctions_obey = each_one Junction (JunctionObeys hill_town period_0.time 1000 period_0.assignment) hill
      hill_obeys_0;
}

rises_1 : LinkFollows period_1 0 rise Open
rises_1 = record {
  at_least = record {
    minor_within = record { crossed = leb-true _ _ refl };
    friction_within = record { crossed = leb-true _ _ refl };
  };
  at_most = record { crossed = leb-true _ _ refl };
}

comes_back_1 : LinkFollows period_1 1 back Open
comes_back_1 = record { at_least = inl (le-yes _ _ refl); at_most = (le-yes _ _ refl, tt) }

lifts_1 : LinkFollows period_1 2 lift running
lifts_1 = record { at_least = inr (leb-true _ _ refl); at_most = (le-yes _ _ refl, leb-true _ _ refl) }

hill_obeys_1 : HillObeys period_1
hill_obeys_1 = record {
  demand = record { at_least = leb-true _ _ refl; at_most = leb-true _ _ refl };
  emitter = record { at_least = leb-true _ _ refl; at_most = leb-true _ _ refl };
  balance = record { low = le-yes _ _ refl; high = le-yes _ _ refl };
}

obeys_1 : Obeys period_1
obeys_1 = record {
  scale = omega arith;
  level_each = refl;
  tank_each = refl;
  head_each = refl;
  demand_each = refl;
  emitter_each = refl;
  links_follow = one_link rises_1 (one_link comes_back_1 (one_link lifts_1 no_link));
  junctions_obey = each_one Junction (JunctionObeys hill_town period_1.time 1000 period_1.assignment) hill
      hill_obeys_1;
}

rises_2 : LinkFollows period_2 0 rise Open
rises_2 = record {
  at_least = record { crossed = leb-true _ _ refl };
  at_most = record {
    minor_within = record { crossed = leb-true _ _ refl };
    friction_within = record { crossed = leb-true _ _ refl };
  };
}

comes_back_2 : LinkFollows period_2 1 back Open
comes_back_2 = record {
  at_least = inr (record {
    minor_within = record { crossed = leb-true _ _ refl };
    friction_within = record { crossed = leb-true _ _ refl };
  });
  at_most = (le-yes _ _ refl, record { crossed = leb-true _ _ refl });
}

lifts_2 : LinkFollows period_2 2 lift Closed
lifts_2 = record { at_least = le-yes _ _ refl; at_most = le-yes _ _ refl }

hill_obeys_2 : HillObeys period_2
hill_obeys_2 = record {
  demand = record { at_least = leb-true _ _ refl; at_most = leb-true _ _ refl };
  emitter = record { at_least = leb-true _ _ refl; at_most = leb-true _ _ refl };
  balance = record { low = le-yes _ _ refl; high = le-yes _ _ refl };
}

obeys_2 : Obeys period_2
obeys_2 = record {
  scale = omega arith;
  level_each = refl;
  tank_each = refl;
  head_each = refl;
  demand_each = refl;
  emitter_each = refl;
  links_follow = one_link rises_2 (one_link comes_back_2 (one_link lifts_2 no_link));
  junctions_obey = each_one Junction (JunctionObeys hill_town period_2.time 1000 period_2.assignment) hill
      hill_obeys_2;
}

rises_3 : LinkFollows period_3 0 rise Open
rises_3 = record {
  at_least = record {
    minor_within = record { crossed = leb-true _ _ refl };
    friction_within = record { crossed = leb-true _ _ refl };
  };
  at_most = record { crossed = leb-true _ _ refl };
}

comes_back_3 : LinkFollows period_3 1 back Open
comes_back_3 = record { at_least = inl (le-yes _ _ refl); at_most = (le-yes _ _ refl, tt) }

lifts_3 : LinkFollows period_3 2 lift running
lifts_3 = record { at_least = inr (leb-true _ _ refl); at_most = (le-yes _ _ refl, leb-true _ _ refl) }

hill_obeys_3 : HillObeys period_3
hill_obeys_3 = record {
  demand = record { at_least = leb-true _ _ refl; at_most = leb-true _ _ refl };
  emitter = record { at_least = leb-true _ _ refl; at_most = leb-true _ _ refl };
  balance = record { low = le-yes _ _ refl; high = le-yes _ _ refl };
}

obeys_3 : Obeys period_3
obeys_3 = record {
  scale = omega arith;
  level_each = refl;
  tank_each = refl;
  head_each = refl;
  demand_each = refl;
  emitter_each = refl;
  links_follow = one_link rises_3 (one_link comes_back_3 (one_link lifts_3 no_link));
  junctions_obey = each_one Junction (JunctionObeys hill_town period_3.time 1000 period_3.assignment) hill
      hill_obeys_3;
}

-- ---- how long the periods last

module _ (period : Period) where
  abbrev wasnt_full : Bool
  wasnt_full = not (option_map_or is_full (slice_get period.tanks 0) false)

  abbrev wasnt_empty : Bool
  wasnt_empty = not (option_map_or is_empty (slice_get period.tanks 0) false)

  abbrev comes_to_maximum : ℕ → Bool
  comes_to_maximum s = is_at_maximum 1000 (content_bounds (walls_of hill_town pool) pool)
      (exact_after hill_town period 0 pool s)

  abbrev comes_to_minimum : ℕ → Bool
  comes_to_minimum s = is_at_minimum 1000 (content_bounds (walls_of hill_town pool) pool)
      (exact_after hill_town period 0 pool s)

  abbrev at_maximum : ℕ → Bool
  at_maximum s = wasnt_full && comes_to_maximum s

  abbrev at_minimum : ℕ → Bool
  at_minimum s = wasnt_empty && comes_to_minimum s

  abbrev comes_to_control : ℕ → Bool
  comes_to_control s = not (reaches 1000 false (pos 49985000000000) (whole (level_at_start period 0)))
      && reached_after hill_town 1000 period 0 pool false (pos 49985000000000) s

  -- whether a level ends the period
  abbrev level_ends : ℕ → Bool
  level_ends s = at_maximum s || (at_minimum s || comes_to_control s)

  controlled : (s : ℕ) (above : Bool) (ticks : ℤ) → false ≡ above → pos 49985000000000 ≡ ticks
      → reaches 1000 above ticks (whole (level_at_start period 0)) ≡ false
      → reached_after hill_town 1000 period 0 pool above ticks s ≡ true → comes_to_control s ≡ true
  controlled s above ticks above_is ticks_are before reached =
      let started = reaches 1000 false (pos 49985000000000) (whole (level_at_start period 0)) in
      let ended = reached_after hill_town 1000 period 0 pool false (pos 49985000000000) s in
      and-true (not started) ended
      (ap not (subst (λ (b : Bool). reaches 1000 b (pos 49985000000000) (whole (level_at_start period 0)) ≡ false)
      (sym above_is)
      (subst (λ (z : ℤ). reaches 1000 above z (whole (level_at_start period 0)) ≡ false) (sym ticks_are) before)))
      (subst (λ (b : Bool). reached_after hill_town 1000 period 0 pool b (pos 49985000000000) s ≡ true)
      (sym above_is)
      (subst (λ (z : ℤ). reached_after hill_town 1000 period 0 pool above z s ≡ true) (sym ticks_are) reached))

  level_test : (s : ℕ) → EndsByLevel hill_town 1000 period s → level_ends s ≡ true
  level_test s (full zero tank is other reached) =
      let same : tank ≡ pool = cc in
      or-left (at_maximum s) (at_minimum s || comes_to_control s) (and-true wasnt_full (comes_to_maximum s)
      (not_full (slice_get period.tanks 0) other)
      (subst (λ (t : Tank). is_at_maximum 1000 (content_bounds (walls_of hill_town t) t)
      (exact_after hill_town period 0 t s) ≡ true) same reached))
  level_test s (full (suc k) tank is other reached) = absurd (cc)
  level_test s (empty zero tank is other reached) =
      let same : tank ≡ pool = cc in
      or-right (at_maximum s) (at_minimum s || comes_to_control s) (or-left (at_minimum s) (comes_to_control s)
      (and-true wasnt_empty (comes_to_minimum s) (not_empty (slice_get period.tanks 0) other)
      (subst (λ (t : Tank). is_at_minimum 1000 (content_bounds (walls_of hill_town t) t)
      (exact_after hill_town period 0 t s) ≡ true) same reached)))
  level_test s (empty (suc k) tank is other reached) = absurd (cc)
  level_test s (at_control each zero above ticks tank contained is_level is before reached) =
      let same = only_control each contained in
      let own : tank ≡ pool = cc in
      or-right (at_maximum s) (at_minimum s || comes_to_control s) (or-right (at_minimum s) (comes_to_control s)
      (controlled s above ticks (cc) (cc) before (subst (λ (t : Tank). reached_after hill_town 1000 period 0 t above
      ticks s ≡ true) own reached)))
  level_test s (at_control each (suc k) above ticks tank contained is_level is before reached) = absurd (cc)

  -- it ends at a second, at which it may end, where no level ends it before, and the rules and the clock don't
  has_length : period.time < 3 → MayEnd hill_town 1000 period (period.time + period.length)
      → period.time + period.length ≤ 3 → none_below level_ends period.length ≡ true
      → ((e : ℕ) → period.time < e → e % 2 ≡ 0 → period.time + period.length ≤ e) → HasItsLength hill_town 1000 period
  has_length early ends last levels rules = before_end (λ is. omega (arith, early, is))
      (record { holds = ends; least = least })
    where
      least : (k : ℕ) → MayEnd hill_town 1000 period k → period.time + period.length ≤ k
      least k (by_clock c) = let l = not_before period.time k c in omega (arith, l, last)
      least k (by_level s some is level) = let l = from level_ends period.length levels s (level_test s level) in
          omega (arith, l, is)
      least k (by_rules r) = rules k r.later r.is_tried

lasts_0 : HasItsLength hill_town 1000 period_0
lasts_0 = has_length period_0 (omega arith) (by_level 1 (omega arith) refl (full 0 pool refl (λ e. absurd (cc)) refl))
    (omega arith) refl (λ e later even. omega (arith, later, even))

lasts_1 : HasItsLength hill_town 1000 period_1
lasts_1 = has_length period_1 (omega arith) (by_rules (record {
  later = omega arith;
  is_tried = refl;
  changes = λ none. absurd (cc);
})) (omega arith) refl (λ e later even. omega (arith, later, even))

lasts_2 : HasItsLength hill_town 1000 period_2
lasts_2 = has_length period_2 (omega arith) (by_clock (duration (omega arith) refl)) (omega arith) refl
    (λ e later even. omega (arith, later, even))

-- ---- one after another

next_stock : (period : Period) (level volume : ℤ) → IsNextStock 1000 (walls_of hill_town pool) pool
    (stock_at_start period 0) (tank_inflow hill_town 0 period.assignment.flows) period.length
    (record { level = level; volume = volume }) → AreNextStocks hill_town 1000 period (level ∷ []) (volume ∷ [])
next_stock period level volume next = record {
  level_each = refl;
  volume_each = refl;
  each = each_one Tank (λ k tank. IsNextStock 1000 (walls_of hill_town tank) tank (stock_at_start period k)
      (tank_inflow hill_town k period.assignment.flows) period.length
      (record { level = slice_index_or (level ∷ []) k (pos 0); volume = slice_index_or (volume ∷ []) k (pos 0) }))
      pool next;
}

comes_1 : ComesAfter hill_town 1000 period_0 period_1
comes_1 = record {
  not_last = λ e. omega (arith, e);
  stocks = next_stock period_0 _ _ (refl, refl);
  begins = record { at_time = refl; at_levels = refl; at_volumes = refl; tanks = refl; links = refl };
}

comes_2 : ComesAfter hill_town 1000 period_1 period_2
comes_2 = record {
  not_last = λ e. omega (arith, e);
  stocks = next_stock period_1 _ _ (refl, refl);
  begins = record { at_time = refl; at_levels = refl; at_volumes = refl; tanks = refl; links = refl };
}

comes_3 : ComesAfter hill_town 1000 period_2 period_3
comes_3 = record {
  not_last = λ e. omega (arith, e);
  stocks = next_stock period_2 _ _ (
    record {
      near_below = omega (arith, ints);
      near_above = omega (arith, ints);
      above_least = omega (arith, ints);
      below_most = omega (arith, ints);
    },
    record {
      near_below = omega (arith, ints);
      near_above = omega (arith, ints);
      above_least = omega (arith, ints);
      below_most = omega (arith, ints);
    },
  );
  begins = record { at_time = refl; at_levels = refl; at_volumes = refl; tanks = refl; links = refl };
}

pub history : IsHistory hill_town 1000 periods
history = (
  record { at_time = refl; at_levels = refl; at_volumes = refl; tanks = refl; links = refl },
  (
    record { obeys = obeys_0; lasts = lasts_0 },
    (
      comes_1,
      (
        record { obeys = obeys_1; lasts = lasts_1 },
        (
          comes_2,
          (
            record { obeys = obeys_2; lasts = lasts_2 },
            (comes_3, (record { obeys = obeys_3; lasts = at_end refl refl }, tt)),
          ),
        ),
      ),
    ),
  ),
)
