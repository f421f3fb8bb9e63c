-- A history of each basin, and that it agrees with the run.
use Rattle.std.proofs.Common.{◌≡◌, ◌≢◌, ℕ, zero, suc, ◌+◌, ◌<◌, ◌≤◌, ◌%◌, ℤ, pos, ◌+ℤ◌, ◌-ℤ◌, Bool, true, false, ◌&&◌}
use Rattle.std.proofs.Common.{◌||◌, not, [], ◌∷◌, ◌++◌, refl, subst, arith}
use Rattle.std.specs.Prelude.{slice_get, slice_index_or, Some, None}
use Rattle.std.specs.Option.{option_map_or}
use Rattle.std.proofs.lemmas.Int.{ints}
use Rattle.hyd_spec.specs.ProgramTypes.{Tank, Junction}
use Rattle.hyd_spec.specs.declared.TankState.{TankState}
use Rattle.hyd_spec.specs.declared.TankState.TheVariants.{Between, Full}
use Rattle.hyd_spec.specs.Lists.{Each}
use Rattle.hyd_spec.specs.Scale.{at_scale}
use Rattle.hyd_spec.specs.Law.{Follows}
use Rattle.hyd_spec.specs.LinkLaw.{is_full, is_empty, law_of}
use Rattle.hyd_spec.specs.Assignment.{IsAssignment, none as no_link, more as one_link}
use Rattle.hyd_spec.specs.Tank.{Walls, walls_of, content_bounds, is_at_maximum, is_at_minimum, IsNextStock, tank_inflow}
use Rattle.hyd_spec.specs.PeriodLength.{Period, EndsByLevel, full, empty, control as at_control, MayEnd, by_clock}
use Rattle.hyd_spec.specs.PeriodLength.{by_level}
use Rattle.hyd_spec.specs.PeriodLength.{by_rules, step, duration, HasItsLength, at_end, before_end, stock_at_start}
use Rattle.hyd_spec.specs.PeriodLength.{exact_after, values_at}
use Rattle.hyd_spec.specs.History.{IsHistory, IsPeriod, AreNextStocks, ComesAfter, initial_links, commanded_after}
use Rattle.hyd_spec_reports.specs.PromisesOfRunsAndChecks.{Agrees, AllAgree}
use Rattle.hyd_spec_certificates.specs.Interval.{exactly}
use Rattle.hyd_spec_reports.specs.ReportLine.{FilledLine}
use Rattle.hyd_cases_of_runs.specs.Basin.{Basin, basin_network, feed, basin_period, open_to, found_of, state_lines}
use Rattle.hyd_cases_of_runs.specs.Basin.{slow}
use Rattle.hyd_cases_of_runs.specs.Basin.{fast, curved, curved_0, curved_1, curved_2, curved_left, curved_founds}
use Rattle.hyd_cases_of_runs.specs.Basin.{curved_periods, spilling, spilling_0, spilling_1, spilling_2, spilling_left}
use Rattle.hyd_cases_of_runs.specs.Basin.{spilling_founds, spilling_periods}
use Rattle.hyd_cases_of_runs.proofs.BasinRun.{no_control, not_before, no_changes}
use Rattle.hyd_cases_of_runs.proofs.VillageFlows.{at_setting}
use Rattle.hyd_cases_of_runs.proofs.VillageLengths.{not_full, not_empty}
use Rattle.hyd_lemmas.proofs.Each.{each_one}
use Rattle.hyd_lemmas.proofs.BooleanTests.{none_below, from, or-left, or-right, and-true}

module _ (basin : Basin) where
  -- ---- heads and flows

  pub obeys : (time length : ℕ) (level volume flow : ℤ) (state : TankState)
      → Follows (law_of (basin_network basin) (state ∷ []) (feed basin) (open_to basin)) 1000
      (pos 1000000000000000000 -ℤ (at_scale 1000 basin.tank.bottom +ℤ level)) flow
      → IsAssignment (basin_network basin) 1000 time (level ∷ []) (state ∷ []) (open_to basin ∷ [])
      (basin_period basin time length level volume state flow).assignment
  obeys time length level volume flow state follows = record {
    scale = omega arith;
    level_each = refl;
    tank_each = refl;
    head_each = refl;
    demand_each = refl;
    emitter_each = refl;
    links_follow = one_link follows no_link;
    junctions_obey = λ j junction at. absurd (let e : slice_get {X = Junction} [] j ≡ Some junction = at in cc);
  }

  -- ---- how long it lasts

  module _ (period : Period) where
    abbrev walls : Walls
    walls = walls_of (basin_network basin) basin.tank

    abbrev wasnt_full : Bool
    wasnt_full = not (option_map_or is_full (slice_get period.tanks 0) false)

    abbrev wasnt_empty : Bool
    wasnt_empty = not (option_map_or is_empty (slice_get period.tanks 0) false)

    abbrev comes_to_maximum : ℕ → Bool
    comes_to_maximum s = is_at_maximum 1000 (content_bounds walls basin.tank)
        (exact_after (basin_network basin) period 0 basin.tank s)

    abbrev comes_to_minimum : ℕ → Bool
    comes_to_minimum s = is_at_minimum 1000 (content_bounds walls basin.tank)
        (exact_after (basin_network basin) period 0 basin.tank s)

    -- whether a bound ends the period
    abbrev level_ends : ℕ → Bool
    level_ends s = (wasnt_full && comes_to_maximum s) || (wasnt_empty && comes_to_minimum s)

    level_test : (s : ℕ) → EndsByLevel (basin_network basin) 1000 period s → level_ends s ≡ true
    level_test s (full zero tank is other reached) =
        let same : tank ≡ basin.tank = cc in
        or-left (wasnt_full && comes_to_maximum s) (wasnt_empty && comes_to_minimum s)
        (and-true wasnt_full (comes_to_maximum s) (not_full (slice_get period.tanks 0) other)
        (subst (λ (t : Tank). is_at_maximum 1000 (content_bounds (walls_of (basin_network basin) t) t)
        (exact_after (basin_network basin) period 0 t s) ≡ true) same reached))
    level_test s (full (suc k) tank is other reached) = absurd (cc)
    level_test s (empty zero tank is other reached) =
        let same : tank ≡ basin.tank = cc in
        or-right (wasnt_full && comes_to_maximum s) (wasnt_empty && comes_to_minimum s)
        (and-true wasnt_empty (comes_to_minimum s) (not_empty (slice_get period.tanks 0) other)
        (subst (λ (t : Tank). is_at_minimum 1000 (content_bounds (walls_of (basin_network basin) t) t)
        (exact_after (basin_network basin) period 0 t s) ≡ true) same reached))
    level_test s (empty (suc k) tank is other reached) = absurd (cc)
    level_test s (at_control each k above ticks tank contained is_level is before reached) =
        absurd (no_control basin each contained)

    pub has_length : period.time ≢ basin.duration → MayEnd (basin_network basin) 1000 period
        (period.time + period.length)
        → period.time + period.length ≤ period.time + 3600 → period.time + period.length ≤ basin.duration
        → ((m : ℕ) → period.time < m → m % 3600 ≡ 0 → period.time + period.length ≤ m)
        → none_below level_ends period.length ≡ true → HasItsLength (basin_network basin) 1000 period
    has_length early ends after last boundary levels = before_end early (record { holds = ends; least = least })
      where
        least : (k : ℕ) → MayEnd (basin_network basin) 1000 period k → period.time + period.length ≤ k
        least k (by_clock c) = not_before basin period.time (period.time + period.length) k after last boundary c
        least k (by_level s some is level) = let l = from level_ends period.length levels s (level_test s level) in
            omega (arith, l, is)
        least k (by_rules r) = absurd (r.changes (no_changes basin (values_at (basin_network basin) 1000 period k)
            period.links))

    pub next_stock : (level volume : ℤ) → IsNextStock 1000 walls basin.tank (stock_at_start period 0)
        (tank_inflow (basin_network basin) 0 period.assignment.flows) period.length
        (record { level = level; volume = volume }) → AreNextStocks (basin_network basin) 1000 period (level ∷ [])
        (volume ∷ [])
    next_stock level volume next = record {
      level_each = refl;
      volume_each = refl;
      each = each_one Tank (λ k tank. IsNextStock 1000 (walls_of (basin_network basin) tank) tank
          (stock_at_start period k) (tank_inflow (basin_network basin) k period.assignment.flows) period.length
          (record { level = slice_index_or (level ∷ []) k (pos 0); volume = slice_index_or (volume ∷ []) k (pos 0) }))
          basin.tank next;
    }

-- no head stands at a junction
no_head : (P : ℕ → ℤ → Type 0) → Each [] P
no_head P j h at = absurd (let e : slice_get {X = ℤ} [] j ≡ Some h = at in cc)

-- ---- the tank with a curve

abbrev curved_period_0 : Period
curved_period_0 = basin_period curved 0 3600 (pos 40000000000000000) (pos 400000000000000) Between (pos 50000000000000)

abbrev curved_period_1 : Period
curved_period_1 = basin_period curved 3600 3600 (pos 53611111111111100) (pos 608333333333333) Between
    (pos 50000000000000)

abbrev curved_period_2 : Period
curved_period_2 = basin_period curved 7200 0 (pos 60555555555555533) (pos 816666666666666) Between (pos 50000000000000)

curved_first : IsPeriod (basin_network curved) 1000 curved_period_0
curved_first = record {
  obeys = obeys curved 0 3600 _ (pos 400000000000000) _ Between (at_setting (pos 50000000000) _ _ refl refl refl);
  lasts = has_length curved curved_period_0 (λ e. omega (arith, e)) (by_clock (step (omega arith) refl)) (omega arith)
      (omega arith) (λ m later e. omega arith) refl;
}

curved_second : IsPeriod (basin_network curved) 1000 curved_period_1
curved_second = record {
  obeys = obeys curved 3600 3600 _ (pos 608333333333333) _ Between (at_setting (pos 50000000000) _ _ refl refl refl);
  lasts = has_length curved curved_period_1 (λ e. omega (arith, e)) (by_clock (step (omega arith) refl)) (omega arith)
      (omega arith) (λ m later e. omega arith) refl;
}

curved_third : IsPeriod (basin_network curved) 1000 curved_period_2
curved_third = record {
  obeys = obeys curved 7200 0 _ (pos 816666666666666) _ Between
      (at_setting (pos 50000000000) _ _ refl refl refl);
  lasts = at_end refl refl;
}

curved_comes_1 : ComesAfter (basin_network curved) 1000 curved_period_0 curved_period_1
curved_comes_1 = record {
  not_last = λ e. omega (arith, e);
  stocks = next_stock curved curved_period_0 _ _ (
    record {
      near_below = omega (arith, ints);
      near_above = omega (arith, ints);
      above_least = omega (arith, ints);
      below_most = omega (arith, ints);
    },
    record {
      near_below = omega (arith, ints);
      near_above = omega (arith, ints);
      above_least = omega (arith, ints);
      below_most = omega (arith, ints);
    },
  );
  begins = record { at_time = refl; at_levels = refl; at_volumes = refl; tanks = refl; links = refl };
}

curved_comes_2 : ComesAfter (basin_network curved) 1000 curved_period_1 curved_period_2
curved_comes_2 = record {
  not_last = λ e. omega (arith, e);
  stocks = next_stock curved curved_period_1 _ _ (
    record {
      near_below = omega (arith, ints);
      near_above = omega (arith, ints);
      above_least = omega (arith, ints);
      below_most = omega (arith, ints);
    },
    record {
      near_below = omega (arith, ints);
      near_above = omega (arith, ints);
      above_least = omega (arith, ints);
      below_most = omega (arith, ints);
    },
  );
  begins = record { at_time = refl; at_levels = refl; at_volumes = refl; tanks = refl; links = refl };
}

pub curved_history : IsHistory (basin_network curved) 1000 curved_periods
curved_history = (
  record { at_time = refl; at_levels = refl; at_volumes = refl; tanks = refl; links = refl },
  (curved_first, (curved_comes_1, (curved_second, (curved_comes_2, (curved_third, tt))))),
)

-- ---- the tank that overflows

abbrev spilling_period_0 : Period
spilling_period_0 = basin_period spilling 0 543 (pos 90000000000000000) (pos 0) Between (pos 500000000000000)

abbrev spilling_period_1 : Period
spilling_period_1 = basin_period spilling 543 3057 (pos 100000000000000000) (pos 0) Full (pos 500000000000000)

abbrev spilling_period_2 : Period
spilling_period_2 = basin_period spilling 3600 0 (pos 100000000000000000) (pos 0) Full (pos 500000000000000)

spilling_first : IsPeriod (basin_network spilling) 1000 spilling_period_0
spilling_first = record {
  obeys = obeys spilling 0 543 _ (pos 0) _ Between (at_setting (pos 500000000000) _ _ refl refl refl);
  lasts = has_length spilling spilling_period_0 (λ e. omega (arith, e))
      (by_level 543 (omega arith) refl (full 0 spilling.tank refl (λ e. absurd (cc)) refl))
      (omega arith) (omega arith) (λ m later e. omega arith) refl;
}

spilling_second : IsPeriod (basin_network spilling) 1000 spilling_period_1
spilling_second = record {
  obeys = obeys spilling 543 3057 _ (pos 0) _ Full (at_setting (pos 500000000000) _ _ refl refl refl);
  lasts = has_length spilling spilling_period_1 (λ e. omega (arith, e)) (by_clock (duration (omega arith) refl))
      (omega arith) (omega arith) (λ m later e. omega arith) refl;
}

spilling_third : IsPeriod (basin_network spilling) 1000 spilling_period_2
spilling_third = record {
  obeys = obeys spilling 3600 0 _ (pos 0) _ Full
      (at_setting (pos 500000000000) _ _ refl refl refl);
  lasts = at_end refl refl;
}

spilling_comes_1 : ComesAfter (basin_network spilling) 1000 spilling_period_0 spilling_period_1
spilling_comes_1 = record {
  not_last = λ e. omega (arith, e);
  stocks = next_stock spilling spilling_period_0 _ _ (refl, refl);
  begins = record { at_time = refl; at_levels = refl; at_volumes = refl; tanks = refl; links = refl };
}

spilling_comes_2 : ComesAfter (basin_network spilling) 1000 spilling_period_1 spilling_period_2
spilling_comes_2 = record {
  not_last = λ e. omega (arith, e);
  stocks = next_stock spilling spilling_period_1 _ _ (refl, refl);
  begins = record { at_time = refl; at_levels = refl; at_volumes = refl; tanks = refl; links = refl };
}

pub spilling_history : IsHistory (basin_network spilling) 1000 spilling_periods
spilling_history = (
  record { at_time = refl; at_levels = refl; at_volumes = refl; tanks = refl; links = refl },
  (spilling_first, (spilling_comes_1, (spilling_second, (spilling_comes_2, (spilling_third, tt))))),
)

-- ---- agreement

curved_agrees_0 : Agrees (basin_network curved) 1000 (initial_links (basin_network curved)) curved_period_0
    (found_of curved curved_0 3600 (state_lines 0 (exactly (pos 40000)) slow Between) curved_1)
curved_agrees_0 = record {
  time = refl;
  length_is = refl;
  tanks = refl;
  links = refl;
  above_lower = no_head _;
  below_upper = no_head _;
  lines_hold = (
    refl,
    (
      record {
        reservoir = record { head = pos 1000000000000000; pattern = None };
        is_reservoir = refl;
        head_lies = record { at_least = refl; at_most = refl };
      },
      (
        record {
          tank = curved.tank;
          is_tank = refl;
          head_lies = record { at_least = refl; at_most = refl };
          level_lies = record { at_least = refl; at_most = refl };
          inflow_lies = record {
            at_least = refl;
            at_most = refl;
          };
          state_is = refl;
        },
        (
          record {
            link = feed curved;
            is_link = refl;
            state = open_to curved;
            is_state = refl;
            flow_lies = record { at_least = refl; at_most = refl };
            status_holds = omega (arith, ints);
          },
          tt,
        ),
      ),
    ),
  );
}

curved_agrees_1 : Agrees (basin_network curved) 1000 (commanded_after (basin_network curved) 1000 curved_period_0)
    curved_period_1 (found_of curved curved_1 3600 (state_lines 3600 (record {
      lo = pos 53611;
      hi = pos 53612;
    }) slow Between) curved_2)
curved_agrees_1 = record {
  time = refl;
  length_is = refl;
  tanks = refl;
  links = refl;
  above_lower = no_head _;
  below_upper = no_head _;
  lines_hold = (
    refl,
    (
      record {
        reservoir = record { head = pos 1000000000000000; pattern = None };
        is_reservoir = refl;
        head_lies = record { at_least = refl; at_most = refl };
      },
      (
        record {
          tank = curved.tank;
          is_tank = refl;
          head_lies = record { at_least = refl; at_most = refl };
          level_lies = record { at_least = refl; at_most = refl };
          inflow_lies = record {
            at_least = refl;
            at_most = refl;
          };
          state_is = refl;
        },
        (
          record {
            link = feed curved;
            is_link = refl;
            state = open_to curved;
            is_state = refl;
            flow_lies = record { at_least = refl; at_most = refl };
            status_holds = omega (arith, ints);
          },
          tt,
        ),
      ),
    ),
  );
}

curved_agrees_2 : Agrees (basin_network curved) 1000 (commanded_after (basin_network curved) 1000 curved_period_1)
    curved_period_2 (found_of curved curved_2 0 (state_lines 7200 (record {
      lo = pos 60555;
      hi = pos 60556;
    }) slow Between) curved_left)
curved_agrees_2 = record {
  time = refl;
  length_is = refl;
  tanks = refl;
  links = refl;
  above_lower = no_head _;
  below_upper = no_head _;
  lines_hold = (
    refl,
    (
      record {
        reservoir = record { head = pos 1000000000000000; pattern = None };
        is_reservoir = refl;
        head_lies = record { at_least = refl; at_most = refl };
      },
      (
        record {
          tank = curved.tank;
          is_tank = refl;
          head_lies = record { at_least = refl; at_most = refl };
          level_lies = record { at_least = refl; at_most = refl };
          inflow_lies = record {
            at_least = refl;
            at_most = refl;
          };
          state_is = refl;
        },
        (
          record {
            link = feed curved;
            is_link = refl;
            state = open_to curved;
            is_state = refl;
            flow_lies = record { at_least = refl; at_most = refl };
            status_holds = omega (arith, ints);
          },
          tt,
        ),
      ),
    ),
  );
}

pub curved_agrees : AllAgree (basin_network curved) 1000 (initial_links (basin_network curved)) curved_periods
    curved_founds
curved_agrees = (curved_agrees_0, (curved_agrees_1, (curved_agrees_2, tt)))

spilling_agrees_0 : Agrees (basin_network spilling) 1000 (initial_links (basin_network spilling)) spilling_period_0
    (found_of spilling spilling_0 543 (state_lines 0 (exactly (pos 90000)) fast Between ++ (FilledLine 543 0 ∷ []))
    spilling_1)
spilling_agrees_0 = record {
  time = refl;
  length_is = refl;
  tanks = refl;
  links = refl;
  above_lower = no_head _;
  below_upper = no_head _;
  lines_hold = (
    refl,
    (
      record {
        reservoir = record { head = pos 1000000000000000; pattern = None };
        is_reservoir = refl;
        head_lies = record { at_least = refl; at_most = refl };
      },
      (
        record {
          tank = spilling.tank;
          is_tank = refl;
          head_lies = record { at_least = refl; at_most = refl };
          level_lies = record { at_least = refl; at_most = refl };
          inflow_lies = record {
            at_least = refl;
            at_most = refl;
          };
          state_is = refl;
        },
        (
          record {
            link = feed spilling;
            is_link = refl;
            state = open_to spilling;
            is_state = refl;
            flow_lies = record { at_least = refl; at_most = refl };
            status_holds = omega (arith, ints);
          },
          (
            record {
              tank = spilling.tank;
              is_tank = refl;
              before = λ e. absurd (cc);
              reaches_it = record { at_end = refl; tank = spilling.tank; is_tank = refl; reached = refl };
            },
            tt,
          ),
        ),
      ),
    ),
  );
}

spilling_agrees_1 : Agrees (basin_network spilling) 1000 (commanded_after (basin_network spilling) 1000
    spilling_period_0) spilling_period_1 (found_of spilling spilling_1 3057 [] spilling_2)
spilling_agrees_1 = record {
  time = refl;
  length_is = refl;
  tanks = refl;
  links = refl;
  above_lower = no_head _;
  below_upper = no_head _;
  lines_hold = tt;
}

spilling_agrees_2 : Agrees (basin_network spilling) 1000 (commanded_after (basin_network spilling) 1000
    spilling_period_1) spilling_period_2 (found_of spilling spilling_2 0 (state_lines 3600 (exactly (pos 100000)) fast
    Full) spilling_left)
spilling_agrees_2 = record {
  time = refl;
  length_is = refl;
  tanks = refl;
  links = refl;
  above_lower = no_head _;
  below_upper = no_head _;
  lines_hold = (
    refl,
    (
      record {
        reservoir = record { head = pos 1000000000000000; pattern = None };
        is_reservoir = refl;
        head_lies = record { at_least = refl; at_most = refl };
      },
      (
        record {
          tank = spilling.tank;
          is_tank = refl;
          head_lies = record { at_least = refl; at_most = refl };
          level_lies = record { at_least = refl; at_most = refl };
          inflow_lies = record {
            at_least = refl;
            at_most = refl;
          };
          state_is = refl;
        },
        (
          record {
            link = feed spilling;
            is_link = refl;
            state = open_to spilling;
            is_state = refl;
            flow_lies = record { at_least = refl; at_most = refl };
            status_holds = omega (arith, ints);
          },
          tt,
        ),
      ),
    ),
  );
}

pub spilling_agrees : AllAgree (basin_network spilling) 1000 (initial_links (basin_network spilling)) spilling_periods
    spilling_founds
spilling_agrees = (spilling_agrees_0, (spilling_agrees_1, (spilling_agrees_2, tt)))
