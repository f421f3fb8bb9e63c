use Rattle.std.proofs.Common.{pos, refl}
use Rattle.hyd_spec.specs.History.{IsPeriod}
use Rattle.hyd_cases_of_runs.specs.Village.{usual, village}
use Rattle.hyd_cases_of_runs.specs.VillageHistory.{period_0, period_1, period_2, period_3, period_4}
use Rattle.hyd_cases_of_runs.proofs.VillageFlows.{obeys, straight, at_setting, none_passes}
use Rattle.hyd_cases_of_runs.proofs.VillageLengths.{first_lasts, second_lasts, third_lasts, fourth_lasts, fifth_lasts}
use Rattle.hyd_cases_of_runs.proofs.VillageLengths.{second_comes, third_comes, fourth_comes, fifth_comes}
use Rattle.hyd_cases_of_runs.proofs.village.history.Goals as goal

first : IsPeriod village 1000 period_0
first = record {
  obeys = obeys usual _ 8 _ _ _ _ _ _ (pos 10000000000000) _ _ (straight _ _ refl refl)
      (at_setting (pos 10000000000) _ _ refl refl refl) (straight _ _ refl refl) refl refl refl refl;
  lasts =
      first_lasts;
}

second : IsPeriod village 1000 period_1
second = record {
  obeys = obeys usual _ 3 _ _ _ _ _ _ (pos 10000000000000) _ _ (straight _ _ refl refl)
      (at_setting (pos 10000000000) _ _ refl refl refl) (straight _ _ refl refl) refl refl refl refl;
  lasts =
      second_lasts;
}

third : IsPeriod village 1000 period_2
third = record {
  obeys = obeys usual _ 3 _ _ _ _ _ _ (pos 0) _ _ (straight _ _ refl refl) (none_passes _)
      (straight _ _ refl refl) refl refl refl refl;
  lasts = third_lasts;
}

fourth : IsPeriod village 1000 period_3
fourth = record {
  obeys = obeys usual _ 2 _ _ _ _ _ _ (pos 3000000000000) _ _ (straight _ _ refl refl)
      (at_setting (pos 3000000000) _ _ refl refl refl) (straight _ _ refl refl) refl refl refl refl;
  lasts =
      fourth_lasts;
}

fifth : IsPeriod village 1000 period_4
fifth = record {
  obeys = obeys usual _ 0 _ _ _ _ _ _ (pos 3000000000000) _ _ (straight _ _ refl refl)
      (at_setting (pos 3000000000) _ _ refl refl refl) (straight _ _ refl refl) refl refl refl refl;
  lasts = fifth_lasts;
}

pub returns : goal.returns
returns c = (
  record { at_time = refl; at_levels = refl; at_volumes = refl; tanks = refl; links = refl },
  (first, (second_comes, (second, (third_comes, (third, (fourth_comes, (fourth, (fifth_comes, (fifth, tt))))))))),
)
