-- A lake that fills one tank through a valve without loss coefficient, without a junction: a tank with a volume curve
-- over two hours, and a cylinder that overflows over one. What an independent calculation gives for their three
-- periods, a history of each at scale 1000, and what was written and printed.
use Rattle.std.specs.Prelude.{ℕ, ℤ, pos, false, true, List, [], ◌∷◌, ◌++◌, None, Some, codes}
use Rattle.std.proofs.Common.{lit≤}
use Rattle.hyd_net.specs.ListView.{ListView, listed}
use Rattle.hyd_spec.specs.ProgramTypes.{Project, Tank, VolumePoint, Link, Fcv, Linear, LinkState, Limit, Cmd}
use Rattle.hyd_spec.specs.declared.TankState.{TankState}
use Rattle.hyd_spec.specs.declared.TankState.TheVariants.{Between, Full}
use Rattle.hyd_spec_certificates.specs.declared.StatusWord.TheVariants.{Active as WordActive}
use Rattle.hyd_spec.specs.Lists.{joined}
use Rattle.hyd_spec.specs.Law.{LinearLaw, Capped}
use Rattle.hyd_spec.specs.PeriodLength.{Period}
use Rattle.hyd_spec_certificates.specs.Interval.{Interval, exactly}
use Rattle.hyd_spec_certificates.specs.PeriodNetwork.{Grid}
use Rattle.hyd_spec_certificates.specs.RecordAndStanding.{Record, Standing, no_vectors}
use Rattle.hyd_spec_reports.specs.ReportLine.{ReportLine, TimeLine, ReservoirLine, TankLine, LinkLine, FilledLine}
use Rattle.hyd_spec_reports.specs.PromisesOfRunsAndChecks.{Found}

-- ---- the network

-- What basins differ in: the tank, the volume curves, how long the run is, and the setting of the valve, in billionths
-- of a cubic metre a day and in flow ticks.
pub record Basin : Type 0 where
  pub tank : Tank
  pub shapes : List (ListView VolumePoint)
  pub duration : ℕ
  pub setting : ℤ
  pub ticks : ℤ

-- The valve from the lake to the pool, at its setting.
abbrev pub open_to : Basin → LinkState
open_to basin = Limit basin.setting basin.ticks

abbrev pub feed : Basin → Link
feed basin = record { from = 0; to = 1; kind = Fcv Linear; start = open_to basin }

-- The network of a basin. All steps but that of rules are an hour.
abbrev pub basin_network : Basin → Project
basin_network basin = record {
  options = record {
    unit = Cmd;
    pda = false;
    p0 = record { nano = pos 0; bounded = lit≤ tt };
    pf = record { nano = pos 100000000; bounded = lit≤ tt };
    multiplier = record { nano = pos 1000000000; bounded = lit≤ tt };
    default_pattern = None;
  };
  times = record {
    duration = basin.duration;
    hydraulic = 3600;
    pattern = 3600;
    pattern_start = 0;
    report = 3600;
    report_start = 0;
    start_clock = 0;
    rule = 360;
  };
  node_ids = codes "Lake" ∷ codes "Pool" ∷ [];
  link_ids = codes "Feed" ∷ [];
  junctions = listed [];
  reservoirs = listed (record { head = pos 1000000000000000; pattern = None } ∷ []);
  tanks = listed (basin.tank ∷ []);
  links = listed (feed basin ∷ []);
  patterns = listed [];
  shapes = listed basin.shapes;
  bends = listed [];
  controls = listed [];
  rules = listed [];
}

-- ---- parts

abbrev pub basin_standing : Basin → ℕ → ℕ → Interval → Interval → TankState → Standing
basin_standing basin number time level volume state = record {
  number = number;
  time = time;
  levels = level ∷ [];
  volumes = volume ∷ [];
  tanks = state ∷ [];
  commanded = open_to basin ∷ [];
  finished = false;
}

-- The pool's bottom is at 0: its head is its level.
abbrev pub basin_grid : Basin → Interval → Grid
basin_grid basin level = record {
  junctions = [];
  reservoirs = pos 1000000000000000 ∷ [];
  tanks = level ∷ [];
  links = record { from = 0; to = 1; law = Capped basin.ticks LinearLaw } ∷ [];
}

-- Without a junction each vector is empty.
abbrev pub basin_row : ℕ → ℕ → ℕ → Record
basin_row number time length =
    record { number = number; time = time; length = length; main = no_vectors; pinned = no_vectors ∷ [] }

abbrev pub basin_period : Basin → ℕ → ℕ → ℤ → ℤ → TankState → ℤ → Period
basin_period basin time length level volume state flow = record {
  time = time;
  length = length;
  levels = level ∷ [];
  volumes = volume ∷ [];
  tanks = state ∷ [];
  links = open_to basin ∷ [];
  assignment = record { heads = []; flows = flow ∷ []; demands = []; emitters = [] };
}

-- The lines of a report time: the pool's level, its inflow, which is also the flow of the valve, and its state.
abbrev pub state_lines : ℕ → Interval → Interval → TankState → List ReportLine
state_lines time level flow state =
    TimeLine time ∷ (ReservoirLine 0 (exactly (pos 1000000))
    ∷ (TankLine 0 level level flow state ∷ (LinkLine 0 flow WordActive ∷ [])))

abbrev pub found_of : Basin → Standing → ℕ → List ReportLine → Standing → Found
found_of basin standing length lines next = record {
  standing = standing;
  grid = basin_grid basin (at standing.levels);
  row = basin_row standing.number standing.time length;
  lines = lines;
  next = next;
}
  where
    at : List Interval → Interval
    at [] = exactly (pos 0)
    at (level ∷ levels) = level

-- ---- a tank with a volume curve

-- The pool holds 500 cubic metres up to 5 m and 2000 up to 10 m, its level at the start being 4 m; the valve passes
-- 5000 cubic metres a day.
abbrev pub curved : Basin
curved = record {
  tank = record {
    bottom = pos 0;
    initial = pos 40000000000000;
    minimum = pos 0;
    maximum = pos 100000000000000;
    area = pos 0;
    diameter = record { nano = pos 0; bounded = lit≤ tt };
    shape = Some 0;
    overflow = false;
  };
  shapes = listed (
      record { level = pos 0; volume = pos 0 }
      ∷ record { level = pos 50000000000000; volume = pos 500000000000 }
      ∷ record { level = pos 100000000000000; volume = pos 2000000000000 }
      ∷ []) ∷ [];
  duration = 7200;
  setting = pos 5000000000000;
  ticks = pos 50000000000;
}

abbrev pub curved_0 : Standing
curved_0 = basin_standing curved 0 0 (exactly (pos 40000000000000)) (exactly (pos 400000000000)) Between

abbrev pub curved_1 : Standing
curved_1 = basin_standing curved 1 3600 (record { lo = pos 53611111109356; hi = pos 53611111112844 })
    (record { lo = pos 608333333281; hi = pos 608333333385 }) Between

abbrev pub curved_2 : Standing
curved_2 = basin_standing curved 2 7200 (record { lo = pos 60555555552056; hi = pos 60555555559010 })
    (record { lo = pos 816666666562; hi = pos 816666666770 }) Between

abbrev pub curved_left : Standing
curved_left = record curved_2 { number = 3; finished = true }

-- Between 4999.9999 and 5000.0001 cubic metres a day.
abbrev pub slow : Interval
slow = record { lo = pos 49999999; hi = pos 50000001 }

abbrev pub curved_founds : List Found
curved_founds =
    found_of curved curved_0 3600 (state_lines 0 (exactly (pos 40000)) slow Between) curved_1
    ∷ found_of curved curved_1 3600 (state_lines 3600 (record { lo = pos 53611; hi = pos 53612 }) slow Between) curved_2
    ∷ found_of curved curved_2 0 (state_lines 7200 (record { lo = pos 60555; hi = pos 60556 }) slow Between) curved_left
    ∷ []

abbrev pub curved_periods : List Period
curved_periods =
    basin_period curved 0 3600 (pos 40000000000000000) (pos 400000000000000) Between (pos 50000000000000)
    ∷ basin_period curved 3600 3600 (pos 53611111111111100) (pos 608333333333333) Between (pos 50000000000000)
    ∷ basin_period curved 7200 0 (pos 60555555555555533) (pos 816666666666666) Between (pos 50000000000000)
    ∷ []

abbrev pub curved_written : List ℕ
curved_written = joined (
    codes "HYDCERT 2 0 1\n"
    ∷ codes "PERIOD 0 0 3600\n"
    ∷ codes "PERIOD 1 3600 3600\n"
    ∷ codes "PERIOD 2 7200 0\n"
    ∷ codes "END 3 FINISHED\n"
    ∷ [])

abbrev pub curved_printed : List ℕ
curved_printed = joined (
    codes "HYD 1\n"
    ∷ codes "TIME 0:00:00\n"
    ∷ codes "RESERVOIR Lake head 100.0000 100.0000\n"
    ∷ codes "TANK Pool head 4.0000 4.0000 level 4.0000 4.0000 inflow 4999.9999 5000.0001 state BETWEEN\n"
    ∷ codes "LINK Feed flow 4999.9999 5000.0001 status ACTIVE\n"
    ∷ codes "TIME 1:00:00\n"
    ∷ codes "RESERVOIR Lake head 100.0000 100.0000\n"
    ∷ codes "TANK Pool head 5.3611 5.3612 level 5.3611 5.3612 inflow 4999.9999 5000.0001 state BETWEEN\n"
    ∷ codes "LINK Feed flow 4999.9999 5000.0001 status ACTIVE\n"
    ∷ codes "TIME 2:00:00\n"
    ∷ codes "RESERVOIR Lake head 100.0000 100.0000\n"
    ∷ codes "TANK Pool head 6.0555 6.0556 level 6.0555 6.0556 inflow 4999.9999 5000.0001 state BETWEEN\n"
    ∷ codes "LINK Feed flow 4999.9999 5000.0001 status ACTIVE\n"
    ∷ codes "DONE 3\n"
    ∷ [])

-- ---- a tank that overflows

-- The pool is a cylinder 20 m across and 10 m high, with 9 m at the start; the valve passes 50,000 cubic metres a day.
abbrev pub spilling : Basin
spilling = record {
  tank = record {
    bottom = pos 0;
    initial = pos 90000000000000;
    minimum = pos 0;
    maximum = pos 100000000000000;
    area = pos 314159265400;
    diameter = record { nano = pos 20000000000; bounded = lit≤ tt };
    shape = None;
    overflow = true;
  };
  shapes = [];
  duration = 3600;
  setting = pos 50000000000000;
  ticks = pos 500000000000;
}

abbrev pub spilling_0 : Standing
spilling_0 = basin_standing spilling 0 0 (exactly (pos 90000000000000)) (exactly (pos 0)) Between

abbrev pub spilling_1 : Standing
spilling_1 = basin_standing spilling 1 543 (exactly (pos 100000000000000)) (exactly (pos 0)) Full

abbrev pub spilling_2 : Standing
spilling_2 = basin_standing spilling 2 3600 (exactly (pos 100000000000000)) (exactly (pos 0)) Full

abbrev pub spilling_left : Standing
spilling_left = record spilling_2 { number = 3; finished = true }

-- Between 49999.9999 and 50000.0001 cubic metres a day.
abbrev pub fast : Interval
fast = record { lo = pos 499999999; hi = pos 500000001 }

abbrev pub spilling_founds : List Found
spilling_founds =
    found_of spilling spilling_0 543 (state_lines 0 (exactly (pos 90000)) fast Between ++ (FilledLine 543 0 ∷ []))
    spilling_1
    ∷ found_of spilling spilling_1 3057 [] spilling_2
    ∷ found_of spilling spilling_2 0 (state_lines 3600 (exactly (pos 100000)) fast Full) spilling_left
    ∷ []

abbrev pub spilling_periods : List Period
spilling_periods =
    basin_period spilling 0 543 (pos 90000000000000000) (pos 0) Between (pos 500000000000000)
    ∷ basin_period spilling 543 3057 (pos 100000000000000000) (pos 0) Full (pos 500000000000000)
    ∷ basin_period spilling 3600 0 (pos 100000000000000000) (pos 0) Full (pos 500000000000000)
    ∷ []

abbrev pub spilling_written : List ℕ
spilling_written = joined (
    codes "HYDCERT 2 0 1\n"
    ∷ codes "PERIOD 0 0 543\n"
    ∷ codes "PERIOD 1 543 3057\n"
    ∷ codes "PERIOD 2 3600 0\n"
    ∷ codes "END 3 FINISHED\n"
    ∷ [])

abbrev pub spilling_printed : List ℕ
spilling_printed = joined (
    codes "HYD 1\n"
    ∷ codes "TIME 0:00:00\n"
    ∷ codes "RESERVOIR Lake head 100.0000 100.0000\n"
    ∷ codes "TANK Pool head 9.0000 9.0000 level 9.0000 9.0000 inflow 49999.9999 50000.0001 state BETWEEN\n"
    ∷ codes "LINK Feed flow 49999.9999 50000.0001 status ACTIVE\n"
    ∷ codes "EVENT 0:09:03 TANK Pool FULL\n"
    ∷ codes "TIME 1:00:00\n"
    ∷ codes "RESERVOIR Lake head 100.0000 100.0000\n"
    ∷ codes "TANK Pool head 10.0000 10.0000 level 10.0000 10.0000 inflow 49999.9999 50000.0001 state FULL\n"
    ∷ codes "LINK Feed flow 49999.9999 50000.0001 status ACTIVE\n"
    ∷ codes "DONE 3\n"
    ∷ [])
