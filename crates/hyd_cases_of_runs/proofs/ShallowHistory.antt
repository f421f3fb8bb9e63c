-- The history of the shallow village, and that it agrees with the run.
use Rattle.std.proofs.Common.{ℤ, pos, ◌<ℤ◌, ◌≤ℤ◌, None, inl, inr, refl, arith}
use Rattle.std.proofs.lemmas.Int.{ints}
use Rattle.hyd_spec.specs.ProgramTypes.{Linear, Throttle, Limit}
use Rattle.hyd_spec.specs.Scale.{at_scale}
use Rattle.hyd_spec.specs.Assignment.{head_at}
use Rattle.hyd_spec.specs.Law.{LinearLaw, ForwardOnly, ReverseOnly, Capped, Follows}
use Rattle.hyd_spec.specs.PeriodLength.{HasItsLength, by_level, full, empty}
use Rattle.hyd_spec.specs.History.{IsPeriod, ComesAfter, initial_links, commanded_after}
use Rattle.hyd_spec_reports.specs.PromisesOfRunsAndChecks.{Agrees}
use Rattle.hyd_cases_of_runs.specs.Village.{village_with, mill, farm, main_link, feed_link, drop_link}
use Rattle.hyd_cases_of_runs.specs.ShallowVillage.{shallow, period_0, period_1, found_0, found_1}
use Rattle.hyd_lemmas.proofs.Each.{each_two}
use Rattle.hyd_cases_of_runs.proofs.VillageFlows.{straight, at_setting, obeys}
use Rattle.hyd_cases_of_runs.proofs.VillageLengths.{has_length, next_level}

-- a closed way, and an open one
held_back : (setting x : ℤ) → (pos 0) ≤ℤ setting → (pos 0) ≤ℤ x
    → Follows (ReverseOnly (Capped setting LinearLaw)) 1000 x (pos 0)
held_back setting x some ahead = record {
  at_least = (omega (arith, ints), (omega (arith, ints, some), omega (arith, ints, ahead)));
  at_most = inl (omega (arith, ints));
}

lets_through : (x q : ℤ) → (pos 0) ≤ℤ q → Follows LinearLaw 1000 x q → Follows (ForwardOnly LinearLaw) 1000 x q
lets_through x q some follows = record {
  at_least = inr follows.at_least;
  at_most = (omega (arith, ints, some), follows.at_most);
}

first_lasts : HasItsLength (village_with shallow) 1000 period_0
first_lasts = has_length shallow period_0 (omega arith) (by_level 1 (omega arith) refl
    (full 0 shallow.tank refl (λ e. absurd (cc)) refl))
    (omega arith) (omega arith) (λ m later e. omega arith) refl refl

second_lasts : HasItsLength (village_with shallow) 1000 period_1
second_lasts = has_length shallow period_1 (omega arith) (by_level 5 (omega arith) refl
    (empty 0 shallow.tank refl (λ e. absurd (cc)) refl))
    (omega arith) (omega arith) (λ m later e. omega arith) refl refl

pub first : IsPeriod (village_with shallow) 1000 period_0
first = record {
  obeys = obeys shallow _ 1 _ _ _ _ _ _ (pos 10000000000000) _ _ (straight _ _ refl refl)
      (at_setting (pos 10000000000) _ _ refl refl refl) (straight _ _ refl refl) refl refl refl refl;
  lasts = first_lasts;
}

pub second : IsPeriod (village_with shallow) 1000 period_1
second = record {
  obeys = obeys shallow _ 5 _ _ _ _ _ _ (pos 0) _ _ (straight _ _ refl refl)
      (held_back (pos 10000000000) _ (omega (arith, ints)) (omega (arith, ints)))
      (lets_through _ _ (omega (arith, ints)) (straight _ _ refl refl)) refl refl refl refl;
  lasts = second_lasts;
}

pub second_comes : ComesAfter (village_with shallow) 1000 period_0 period_1
second_comes = record {
  not_last = λ is. omega (arith, is);
  stocks = next_level shallow period_0 _ (refl, refl);
  begins = record { at_time = refl; at_levels = refl; at_volumes = refl; tanks = refl; links = refl };
}

-- ---- agreement

pub first_agrees : Agrees (village_with shallow) 1000 (initial_links (village_with shallow)) period_0 found_0
first_agrees = record {
  time = refl;
  length_is = refl;
  tanks = refl;
  links = refl;
  above_lower = each_two ℤ (λ j h. at_scale 1000 (head_at found_0.row.main.lower j) <ℤ h) _ _ (omega (arith, ints))
      (omega (arith, ints));
  below_upper = each_two ℤ (λ j h. h <ℤ at_scale 1000 (head_at found_0.row.main.upper j)) _ _ (omega (arith, ints))
      (omega (arith, ints));
  lines_hold = (
    refl,
    (
      record {
        junction = mill;
        is_junction = refl;
        head_lies = record { at_least = refl; at_most = refl };
        pressure_lies = record { at_least = refl; at_most = refl };
        outflow_lies = record {
          at_least = refl;
          at_most = refl;
        };
      },
      (
        record {
          junction = farm;
          is_junction = refl;
          head_lies = record { at_least = refl; at_most = refl };
          pressure_lies = record { at_least = refl; at_most = refl };
          outflow_lies = record {
            at_least = refl;
            at_most = refl;
          };
        },
        (
          record {
            reservoir = record { head = pos 1000000000000000; pattern = None };
            is_reservoir = refl;
            head_lies = record { at_least = refl; at_most = refl };
          },
          (
            record {
              tank = shallow.tank;
              is_tank = refl;
              head_lies = record { at_least = refl; at_most = refl };
              level_lies = record { at_least = refl; at_most = refl };
              inflow_lies = record {
                at_least = refl;
                at_most = refl;
              };
              state_is = refl;
            },
            (
              record {
                link = main_link;
                is_link = refl;
                state = Throttle (pos 0) Linear;
                is_state = refl;
                flow_lies = record { at_least = refl; at_most = refl };
                status_holds = tt;
              },
              (
                record {
                  link = feed_link;
                  is_link = refl;
                  state = Limit (pos 1000000000000) (pos 10000000000);
                  is_state = refl;
                  flow_lies = record {
                    at_least = refl;
                    at_most = refl;
                  };
                  status_holds = omega (arith, ints);
                },
                (
                  record {
                    link = drop_link (Throttle (pos 0) Linear);
                    is_link = refl;
                    state = Throttle (pos 0) Linear;
                    is_state = refl;
                    flow_lies = record {
                      at_least = refl;
                      at_most = refl;
                    };
                    status_holds = tt;
                  },
                  (
                    record {
                      tank = shallow.tank;
                      is_tank = refl;
                      before = λ e. absurd (cc);
                      reaches_it = record { at_end = refl; tank = shallow.tank; is_tank = refl; reached = refl };
                    },
                    tt,
                  ),
                ),
              ),
            ),
          ),
        ),
      ),
    ),
  );
}

pub second_agrees : Agrees (village_with shallow) 1000 (commanded_after (village_with shallow) 1000 period_0) period_1
    found_1
second_agrees = record {
  time = refl;
  length_is = refl;
  tanks = refl;
  links = refl;
  above_lower = each_two ℤ (λ j h. at_scale 1000 (head_at found_1.row.main.lower j) <ℤ h) _ _ (omega (arith, ints))
      (omega (arith, ints));
  below_upper = each_two ℤ (λ j h. h <ℤ at_scale 1000 (head_at found_1.row.main.upper j)) _ _ (omega (arith, ints))
      (omega (arith, ints));
  lines_hold = (
    record {
      tank = shallow.tank;
      is_tank = refl;
      before = λ e. absurd (cc);
      reaches_it = record {
        at_end = refl;
        tank = shallow.tank;
        is_tank = refl;
        reached = refl;
      };
    },
    tt,
  );
}
