-- Periods of the town: what is known when they begin, and the grid and the tight vectors of two of them.
use Rattle.std.specs.Prelude.{pos, [], ◌∷◌, None, false}
use Rattle.hyd_spec.specs.ProgramTypes.{Open, Closed, Speed}
use Rattle.hyd_spec.specs.declared.TankState.TheVariants.{Empty, Between, Full}
use Rattle.hyd_spec.specs.Law.{Shut, LinearLaw, ForwardOnly, ReverseOnly, Capped}
use Rattle.hyd_spec_certificates.specs.EnclosingFunctions.{Fixed}
use Rattle.hyd_spec_certificates.specs.PeriodNetwork.{Grid, GridJunction}
use Rattle.hyd_spec_certificates.specs.RecordAndStanding.{Record, Standing}
use Rattle.hyd_cases_of_runs.specs.TwoTankTown.{filling, fast_filling, narrow_main, night_main, unthrottled}

-- ---- standings

-- The start of the run.
abbrev pub standing_at_start : Standing
standing_at_start = record {
  number = 0;
  time = 0;
  levels = record { lo = pos 45000000000000; hi = pos 45000000000000 }
      ∷ record { lo = pos 20000000000000; hi = pos 20000000000000 } ∷ [];
  volumes = record { lo = pos 0; hi = pos 0 } ∷ record { lo = pos 0; hi = pos 0 } ∷ [];
  tanks = Between ∷ Between ∷ [];
  commanded = Speed (pos 1000000000) ∷ filling ∷ Open ∷ narrow_main ∷ unthrottled ∷ [];
  finished = false;
}

-- At 1:00 the pattern of the pump begins a step, and two controls act on it.
abbrev pub standing_at_one : Standing
standing_at_one = record {
  number = 1;
  time = 3600;
  levels = record { lo = pos 47461592504719; hi = pos 47461596784947 }
      ∷ record { lo = pos 17538402926983; hi = pos 17538407196600 } ∷ [];
  volumes = record { lo = pos 0; hi = pos 0 } ∷ record { lo = pos 0; hi = pos 0 } ∷ [];
  tanks = Between ∷ Between ∷ [];
  commanded = Closed ∷ filling ∷ Open ∷ narrow_main ∷ unthrottled ∷ [];
  finished = false;
}

-- At 2:00 both tanks are near a bound: the upper tank fills, the lower one drains.
abbrev pub standing_at_two : Standing
standing_at_two = record {
  number = 2;
  time = 7200;
  levels = record { lo = pos 49923185009438; hi = pos 49923193569894 }
      ∷ record { lo = pos 15076805853966; hi = pos 15076814393200 } ∷ [];
  volumes = record { lo = pos 0; hi = pos 0 } ∷ record { lo = pos 0; hi = pos 0 } ∷ [];
  tanks = Between ∷ Between ∷ [];
  commanded = Closed ∷ filling ∷ Open ∷ narrow_main ∷ unthrottled ∷ [];
  finished = false;
}

-- At 2:01:53 the upper tank is full and the lower one empty, and the level controls hold.
abbrev pub standing_when_full : Standing
standing_when_full = record {
  number = 3;
  time = 7313;
  levels = record { lo = pos 50000000000000; hi = pos 50000000000000 }
      ∷ record { lo = pos 15000000000000; hi = pos 15000000000000 } ∷ [];
  volumes = record { lo = pos 0; hi = pos 0 } ∷ record { lo = pos 0; hi = pos 0 } ∷ [];
  tanks = Full ∷ Empty ∷ [];
  commanded = Closed ∷ filling ∷ Open ∷ narrow_main ∷ unthrottled ∷ [];
  finished = false;
}

-- At 2:24 three rules have acted.
abbrev pub standing_after_rules : Standing
standing_after_rules = record {
  number = 4;
  time = 8640;
  levels = record { lo = pos 47653348085886; hi = pos 47653349663443 }
      ∷ record { lo = pos 15070398550686; hi = pos 15070400124527 } ∷ [];
  volumes = record { lo = pos 0; hi = pos 0 } ∷ record { lo = pos 0; hi = pos 0 } ∷ [];
  tanks = Between ∷ Between ∷ [];
  commanded = Closed ∷ fast_filling ∷ Open ∷ night_main ∷ Open ∷ [];
  finished = false;
}

-- The end of the run, at 3:00: the pump runs again.
abbrev pub standing_at_three : Standing
standing_at_three = record {
  number = 7;
  time = 10800;
  levels = record { lo = pos 47610904458046; hi = pos 47610908603790 }
      ∷ record { lo = pos 15121327701446; hi = pos 15121331836790 } ∷ [];
  volumes = record { lo = pos 0; hi = pos 0 } ∷ record { lo = pos 0; hi = pos 0 } ∷ [];
  tanks = Between ∷ Between ∷ [];
  commanded = Closed ∷ fast_filling ∷ Open ∷ night_main ∷ Open ∷ [];
  finished = false;
}

-- ---- the period that begins at 2:00, and the one after it

-- The junctions, the same in both.
abbrev pub east : GridJunction
east = record { elevation = pos 100000000000000; demand = Fixed (pos 3000000000); emitter = None }

abbrev pub west : GridJunction
west = record { elevation = pos 50000000000000; demand = Fixed (pos 8640000000); emitter = None }

-- The grid from 2:00 on.
abbrev pub grid_at_two : Grid
grid_at_two = record {
  junctions = east ∷ west ∷ [];
  reservoirs = pos 600000000000000 ∷ [];
  tanks = record { lo = pos 449923185009438; hi = pos 449923193569894 }
      ∷ record { lo = pos 215076805853966; hi = pos 215076814393200 } ∷ [];
  links = record { from = 2; to = 0; law = Shut }
      ∷ record { from = 2; to = 3; law = Capped (pos 11640000000) LinearLaw }
      ∷ record { from = 3; to = 0; law = LinearLaw }
      ∷ record { from = 0; to = 1; law = Capped (pos 4000000000) LinearLaw }
      ∷ record { from = 4; to = 1; law = LinearLaw } ∷ [];
}

-- Its tight vectors.
abbrev pub row_at_two : Record
row_at_two = record {
  number = 2;
  time = 7200;
  length = 113;
  main = record {
    upper = pos 449923192697818 ∷ pos 215076813815139 ∷ [];
    lower = pos 449923184137361 ∷ pos 215076805275904 ∷ [];
  };
  pinned = record {
    upper = pos 449923184137362 ∷ pos 215076813815139 ∷ [];
    lower = pos 449923192697817 ∷ pos 215076805275904 ∷ [];
  }
      ∷ record {
        upper = pos 449923192697818 ∷ pos 215076805275905 ∷ [];
        lower = pos 449923184137361 ∷ pos 215076813815138 ∷ [];
      }
      ∷ [];
}

-- The grid from 2:01:53 on.
abbrev pub grid_when_full : Grid
grid_when_full = record {
  junctions = east ∷ west ∷ [];
  reservoirs = pos 600000000000000 ∷ [];
  tanks = record { lo = pos 450000000000000; hi = pos 450000000000000 }
      ∷ record { lo = pos 215000000000000; hi = pos 215000000000000 } ∷ [];
  links = record { from = 2; to = 0; law = Shut }
      ∷ record { from = 2; to = 3; law = ReverseOnly Shut }
      ∷ record { from = 3; to = 0; law = ForwardOnly LinearLaw }
      ∷ record { from = 0; to = 1; law = Capped (pos 9000000000) LinearLaw }
      ∷ record { from = 4; to = 1; law = ReverseOnly LinearLaw } ∷ [];
}

-- Its tight vectors.
abbrev pub row_when_full : Record
row_when_full = record {
  number = 3;
  time = 7313;
  length = 1327;
  main = record {
    upper = pos 449999998505013 ∷ pos 215000000044850 ∷ [];
    lower = pos 449999998505012 ∷ pos 215000000044849 ∷ [];
  };
  pinned = record {
    upper = pos 449999998505013 ∷ pos 215000000044850 ∷ [];
    lower = pos 449999998505012 ∷ pos 215000000044849 ∷ [];
  }
      ∷ record {
        upper = pos 449999998505013 ∷ pos 215000000044850 ∷ [];
        lower = pos 449999998505012 ∷ pos 215000000044849 ∷ [];
      }
      ∷ [];
}
