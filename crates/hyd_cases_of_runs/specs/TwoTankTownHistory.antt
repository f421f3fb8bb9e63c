-- Two periods of a history of the town, in thousandths of a tick.
use Rattle.std.specs.Prelude.{pos, neg_ℤ, [], ◌∷◌}
use Rattle.hyd_spec.specs.ProgramTypes.{Open, Closed}
use Rattle.hyd_spec.specs.declared.TankState.TheVariants.{Empty, Between, Full}
use Rattle.hyd_spec.specs.PeriodLength.{Period}
use Rattle.hyd_cases_of_runs.specs.TwoTankTown.{filling, narrow_main, wide_main, unthrottled}

-- From 2:00 until both tanks reach a bound.
abbrev pub period_at_two : Period
period_at_two = record {
  time = 7200;
  length = 113;
  levels = pos 49923192905666460 ∷ pos 15076807094333538 ∷ [];
  volumes = pos 0 ∷ pos 0 ∷ [];
  tanks = Between ∷ Between ∷ [];
  links = Closed ∷ filling ∷ Open ∷ narrow_main ∷ unthrottled ∷ [];
  assignment = record {
    heads = pos 449923192033590385 ∷ pos 215076806516271682 ∷ [];
    flows = pos 0 ∷ pos 11640000000000 ∷ pos 7000000000000 ∷ pos 4000000000000 ∷ pos 4640000000000 ∷ [];
    demands = pos 3000000000000 ∷ pos 8640000000000 ∷ [];
    emitters = pos 0 ∷ pos 0 ∷ [];
  };
}

-- From then on until three rules act, at 2:24.
abbrev pub period_when_full : Period
period_when_full = record {
  time = 7313;
  length = 1327;
  levels = pos 50000000000000000 ∷ pos 15000000000000000 ∷ [];
  volumes = pos 0 ∷ pos 0 ∷ [];
  tanks = Full ∷ Empty ∷ [];
  links = Closed ∷ Closed ∷ Open ∷ wide_main ∷ unthrottled ∷ [];
  assignment = record {
    heads = pos 449999998505012442 ∷ pos 215000000044849627 ∷ [];
    flows = pos 0 ∷ pos 0 ∷ pos 12000000000000 ∷ pos 9000000000000 ∷ neg_ℤ (pos 360000000000) ∷ [];
    demands = pos 3000000000000 ∷ pos 8640000000000 ∷ [];
    emitters = pos 0 ∷ pos 0 ∷ [];
  };
}
