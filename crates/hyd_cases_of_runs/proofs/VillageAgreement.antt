-- The history of the village agrees with its run.
use Rattle.std.proofs.Common.{ℤ, pos, ◌<ℤ◌, true, None, refl, arith, lit<}
use Rattle.std.proofs.lemmas.Int.{ints}
use Rattle.hyd_spec.specs.ProgramTypes.{Linear, Throttle, Limit}
use Rattle.hyd_spec.specs.Scale.{at_scale}
use Rattle.hyd_spec.specs.Assignment.{head_at}
use Rattle.hyd_spec.specs.History.{initial_links, commanded_after}
use Rattle.hyd_spec_reports.specs.PromisesOfRunsAndChecks.{Agrees}
use Rattle.hyd_cases_of_runs.specs.Village.{village, mill, farm, tower, level_control, main_link, feed_link, drop_link}
use Rattle.hyd_cases_of_runs.specs.VillageRun.{found_0, found_1, found_2, found_3, found_4}
use Rattle.hyd_cases_of_runs.specs.VillageHistory.{period_0, period_1, period_2, period_3, period_4}
use Rattle.hyd_lemmas.proofs.Each.{each_two}

pub first_agrees : Agrees village 1000 (initial_links village) period_0 found_0
first_agrees = record {
  time = refl;
  length_is = refl;
  tanks = refl;
  links = refl;
  above_lower = each_two ℤ (λ j h. at_scale 1000 (head_at found_0.row.main.lower j) <ℤ h) _ _ (omega (arith, ints))
      (omega (arith, ints));
  below_upper = each_two ℤ (λ j h. h <ℤ at_scale 1000 (head_at found_0.row.main.upper j)) _ _ (omega (arith, ints))
      (omega (arith, ints));
  lines_hold = (
    refl,
    (
      record {
        junction = mill;
        is_junction = refl;
        head_lies = record { at_least = refl; at_most = refl };
        pressure_lies = record { at_least = refl; at_most = refl };
        outflow_lies = record {
          at_least = refl;
          at_most = refl;
        };
      },
      (
        record {
          junction = farm;
          is_junction = refl;
          head_lies = record { at_least = refl; at_most = refl };
          pressure_lies = record { at_least = refl; at_most = refl };
          outflow_lies = record {
            at_least = refl;
            at_most = refl;
          };
        },
        (
          record {
            reservoir = record { head = pos 1000000000000000; pattern = None };
            is_reservoir = refl;
            head_lies = record { at_least = refl; at_most = refl };
          },
          (
            record {
              tank = tower;
              is_tank = refl;
              head_lies = record { at_least = refl; at_most = refl };
              level_lies = record { at_least = refl; at_most = refl };
              inflow_lies = record {
                at_least = refl;
                at_most = refl;
              };
              state_is = refl;
            },
            (
              record {
                link = main_link;
                is_link = refl;
                state = Throttle (pos 0) Linear;
                is_state = refl;
                flow_lies = record { at_least = refl; at_most = refl };
                status_holds = tt;
              },
              (
                record {
                  link = feed_link;
                  is_link = refl;
                  state = Limit (pos 1000000000000) (pos 10000000000);
                  is_state = refl;
                  flow_lies = record {
                    at_least = refl;
                    at_most = refl;
                  };
                  status_holds = omega (arith, ints);
                },
                (
                  record {
                    link = drop_link (Throttle (pos 0) Linear);
                    is_link = refl;
                    state = Throttle (pos 0) Linear;
                    is_state = refl;
                    flow_lies = record { at_least = refl; at_most = refl };
                    status_holds = tt;
                  },
                  tt,
                ),
              ),
            ),
          ),
        ),
      ),
    ),
  );
}

pub second_agrees : Agrees village 1000 (commanded_after village 1000 period_0) period_1 found_1
second_agrees = record {
  time = refl;
  length_is = refl;
  tanks = refl;
  links = refl;
  above_lower = each_two ℤ (λ j h. at_scale 1000 (head_at found_1.row.main.lower j) <ℤ h) _ _ (omega (arith, ints))
      (omega (arith, ints));
  below_upper = each_two ℤ (λ j h. h <ℤ at_scale 1000 (head_at found_1.row.main.upper j)) _ _ (omega (arith, ints))
      (omega (arith, ints));
  lines_hold = (
    record {
      control = level_control (pos 20080000000000);
      is_control = refl;
      above = true;
      ticks = pos 20080000000000;
      is_level = refl;
      before = refl;
      reaches_it = record { at_end = refl; tank = tower; is_tank = refl; reached = refl };
    },
    tt,
  );
}

pub third_agrees : Agrees village 1000 (commanded_after village 1000 period_1) period_2 found_2
third_agrees = record {
  time = refl;
  length_is = refl;
  tanks = refl;
  links = refl;
  above_lower = each_two ℤ (λ j h. at_scale 1000 (head_at found_2.row.main.lower j) <ℤ h) _ _ (omega (arith, ints))
      (omega (arith, ints));
  below_upper = each_two ℤ (λ j h. h <ℤ at_scale 1000 (head_at found_2.row.main.upper j)) _ _ (omega (arith, ints))
      (omega (arith, ints));
  lines_hold = (
    record { at_start = refl; is_change = (0, lit< tt, refl) },
    (record { at_end = refl; is_tried = refl; is_change = (0, lit< tt, refl) }, tt),
  );
}

pub fourth_agrees : Agrees village 1000 (commanded_after village 1000 period_2) period_3 found_3
fourth_agrees = record {
  time = refl;
  length_is = refl;
  tanks = refl;
  links = refl;
  above_lower = each_two ℤ (λ j h. at_scale 1000 (head_at found_3.row.main.lower j) <ℤ h) _ _ (omega (arith, ints))
      (omega (arith, ints));
  below_upper = each_two ℤ (λ j h. h <ℤ at_scale 1000 (head_at found_3.row.main.upper j)) _ _ (omega (arith, ints))
      (omega (arith, ints));
  lines_hold = tt;
}

pub fifth_agrees : Agrees village 1000 (commanded_after village 1000 period_3) period_4 found_4
fifth_agrees = record {
  time = refl;
  length_is = refl;
  tanks = refl;
  links = refl;
  above_lower = each_two ℤ (λ j h. at_scale 1000 (head_at found_4.row.main.lower j) <ℤ h) _ _ (omega (arith, ints))
      (omega (arith, ints));
  below_upper = each_two ℤ (λ j h. h <ℤ at_scale 1000 (head_at found_4.row.main.upper j)) _ _ (omega (arith, ints))
      (omega (arith, ints));
  lines_hold = (
    refl,
    (
      record {
        junction = mill;
        is_junction = refl;
        head_lies = record { at_least = refl; at_most = refl };
        pressure_lies = record { at_least = refl; at_most = refl };
        outflow_lies = record {
          at_least = refl;
          at_most = refl;
        };
      },
      (
        record {
          junction = farm;
          is_junction = refl;
          head_lies = record { at_least = refl; at_most = refl };
          pressure_lies = record { at_least = refl; at_most = refl };
          outflow_lies = record {
            at_least = refl;
            at_most = refl;
          };
        },
        (
          record {
            reservoir = record { head = pos 1000000000000000; pattern = None };
            is_reservoir = refl;
            head_lies = record { at_least = refl; at_most = refl };
          },
          (
            record {
              tank = tower;
              is_tank = refl;
              head_lies = record { at_least = refl; at_most = refl };
              level_lies = record { at_least = refl; at_most = refl };
              inflow_lies = record {
                at_least = refl;
                at_most = refl;
              };
              state_is = refl;
            },
            (
              record {
                link = main_link;
                is_link = refl;
                state = Throttle (pos 0) Linear;
                is_state = refl;
                flow_lies = record { at_least = refl; at_most = refl };
                status_holds = tt;
              },
              (
                record {
                  link = feed_link;
                  is_link = refl;
                  state = Limit (pos 300000000000) (pos 3000000000);
                  is_state = refl;
                  flow_lies = record {
                    at_least = refl;
                    at_most = refl;
                  };
                  status_holds = omega (arith, ints);
                },
                (
                  record {
                    link = drop_link (Throttle (pos 0) Linear);
                    is_link = refl;
                    state = Throttle (pos 0) Linear;
                    is_state = refl;
                    flow_lies = record { at_least = refl; at_most = refl };
                    status_holds = tt;
                  },
                  tt,
                ),
              ),
            ),
          ),
        ),
      ),
    ),
  );
}
