-- A hill town: a pump lifts water from a lake to a junction whose demand is driven by pressure and that has an emitter;
-- a pipe leads from there to a pool with a volume curve that overflows, and another one with a check valve leads back.
-- A level control starts the pump and a rule stops it. What an independent calculation gives for its four periods, in
-- which the pool fills, spills, feeds the town and is filled again, a history of them at scale 1000, and what was
-- written and printed.
use Rattle.std.specs.Prelude.{ℕ, ℤ, pos, neg_ℤ, true, false, List, [], ◌∷◌, ◌++◌, None, Some, codes}
use Rattle.std.specs.Int.Signed.{≤ℤ_refl}
use Rattle.std.proofs.Common.{lit≤}
use Rattle.hyd_net.specs.ListView.{listed}
use Rattle.hyd_spec.specs.ProgramTypes.{Project, Junction, Tank, Link, Capacity, Pipe, PressureDemand, PipeLink}
use Rattle.hyd_spec.specs.ProgramTypes.{CheckPipe, PumpLink, FourThirds, LinkState, Open, Closed, Speed, Control}
use Rattle.hyd_spec.specs.ProgramTypes.{AtLevel, Manning}
use Rattle.hyd_spec.specs.ProgramTypes.{Rule, And, Level, More, Amount, Cmd}
use Rattle.hyd_spec.specs.declared.TankState.{TankState}
use Rattle.hyd_spec.specs.declared.TankState.TheVariants.{Between, Full}
use Rattle.hyd_spec_certificates.specs.declared.StatusWord.TheVariants.{Open as WordOpen, Closed as WordClosed}
use Rattle.hyd_spec.specs.Lists.{joined}
use Rattle.hyd_spec.specs.DemandsHeadsAndPumpLifts.{lift_of, minimum_pressure, required_pressure}
use Rattle.hyd_spec.specs.Law.{Law, Shut, QuadraticLaw, Lifted, ForwardOnly}
use Rattle.hyd_spec.specs.PeriodLength.{Period}
use Rattle.hyd_spec_certificates.specs.Interval.{Interval, exactly}
use Rattle.hyd_spec_certificates.specs.EnclosingFunctions.{Driven}
use Rattle.hyd_spec_certificates.specs.PeriodNetwork.{Grid, GridJunction}
use Rattle.hyd_spec_certificates.specs.RecordAndStanding.{Record, Standing, Vectors}
use Rattle.hyd_spec_reports.specs.ReportLine.{ReportLine, TimeLine, JunctionLine, ReservoirLine, TankLine, LinkLine}
use Rattle.hyd_spec_reports.specs.ReportLine.{FilledLine, ReachedLine, ControlLine, RuleLine}
use Rattle.hyd_spec_reports.specs.PromisesOfRunsAndChecks.{Found}
use Rattle.hyd_cases_of_histories.specs.OneLink.{five, twenty_one}
use Rattle.hyd_cases_of_histories.specs.Spurs.{long_pipe, round_pump, hole}
use Rattle.hyd_cases_of_histories.specs.StatusWords.{thirty}

-- ---- the network

-- A pipe one foot across and 1000 feet long, in millimetres and metres: 304.8 of each. Its capacity is that of the same
-- pipe in feet.
abbrev pub metric_pipe : Capacity
metric_pipe = record long_pipe {
  origin =
      Pipe false (record { nano = pos 304800000000; bounded = lit≤ tt })
      (record { nano = pos 304800000000; bounded = lit≤ tt }) (record { nano = pos 10000000; bounded = lit≤ tt })
      (record { nano = pos 0; bounded = lit≤ tt });
}

-- 400 cubic metres a day, which are met at 21 m and none at 5 m. Its capacity is that of an emitter which passes 100 at
-- one metre.
abbrev pub thirst : Capacity
thirst = record hole { origin = PressureDemand (pos 4000000000) five twenty_one false }

-- The junction stands at 50 m.
abbrev pub hill : Junction
hill = record {
  elevation = pos 500000000000000;
  demands = listed (record { base = pos 4000000000; pattern = None } ∷ []);
  emitter = Some hole;
}

-- The pool's bottom is at 60 m. It holds 8 cubic metres up to 4 m and 12 up to 5 m, its level at the start being
-- 4.9995 m.
abbrev pub pool : Tank
pool = record {
  bottom = pos 600000000000000;
  initial = pos 49995000000000;
  minimum = pos 0;
  maximum = pos 50000000000000;
  area = pos 0;
  diameter = record { nano = pos 0; bounded = lit≤ tt };
  shape = Some 0;
  overflow = true;
}

-- The pipe from the hill to the pool.
abbrev pub rise : Link
rise = record { from = 0; to = 2; kind = PipeLink (Manning metric_pipe); start = Open }

-- The one with a check valve, from the pool to the hill.
abbrev pub back : Link
back = record { from = 2; to = 0; kind = CheckPipe (Manning metric_pipe); start = Open }

-- The pump at its usual speed.
abbrev pub running : LinkState
running = Speed (pos 1000000000)

-- The pump from the lake to the hill.
abbrev pub lift : Link
lift = record {
  from = 1;
  to = 0;
  kind = PumpLink round_pump
      (record {
        lo = pos 400000000000000;
        hi = pos 400000000000000;
        ordered = ≤ℤ_refl (pos 400000000000000);
      }) (FourThirds thirty) None;
  start = running;
}

-- The pump is started below 4.9985 m.
abbrev pub starting : Control
starting = record { link = 2; to = running; when = AtLevel 0 false (pos 49985000000000) }

-- It is stopped above 4.9998 m.
abbrev pub stopping : Rule
stopping = record {
  id = listed (codes "Enough");
  clauses = listed (
      record {
        joined = And;
        clause = record {
          what = Level 0;
          relation = More;
          value =
              Amount (record {
                lo = pos 49998000000000;
                hi = pos 49998000000000;
                ordered = ≤ℤ_refl (pos 49998000000000);
              })
              (record { nano = pos 4999800000; bounded = lit≤ tt });
        };
      }
      ∷ []);
  yes = listed (record { link = 2; to = Closed } ∷ []);
  no = listed [];
  priority = None;
}

abbrev pub hill_town : Project
hill_town = record {
  options = record {
    unit = Cmd;
    pda = true;
    p0 = five;
    pf = twenty_one;
    multiplier = record { nano = pos 1000000000; bounded = lit≤ tt };
    default_pattern = None;
  };
  times = record {
    duration = 3;
    hydraulic = 3;
    pattern = 3;
    pattern_start = 0;
    report = 3;
    report_start = 0;
    start_clock = 0;
    rule = 2;
  };
  node_ids = codes "Hill" ∷ codes "Lake" ∷ codes "Pool" ∷ [];
  link_ids = codes "Rise" ∷ codes "Back" ∷ codes "Lift" ∷ [];
  junctions = listed (hill ∷ []);
  reservoirs = listed (record { head = pos 350000000000000; pattern = None } ∷ []);
  tanks = listed (pool ∷ []);
  links = listed (rise ∷ back ∷ lift ∷ []);
  patterns = listed [];
  shapes = listed (
      listed (
      record { level = pos 0; volume = pos 0 }
      ∷ record { level = pos 40000000000000; volume = pos 8000000000 }
      ∷ record { level = pos 50000000000000; volume = pos 12000000000 }
      ∷ []) ∷ []);
  bends = listed [];
  controls = listed (starting ∷ []);
  rules = listed (stopping ∷ []);
}

-- ---- what the periods have in common

-- What is known at a start: the pool's level, volume and state, and the pump's command.
abbrev pub standing_with : ℕ → ℕ → Interval → Interval → TankState → LinkState → Standing
standing_with number time level volume state pump = record {
  number = number;
  time = time;
  levels = level ∷ [];
  volumes = volume ∷ [];
  tanks = state ∷ [];
  commanded = Open ∷ Open ∷ pump ∷ [];
  finished = false;
}

-- The pump's law where it runs.
abbrev pub lifting : Law
lifting = ForwardOnly (Lifted (lift_of false (FourThirds thirty) (pos 1000000000)) (QuadraticLaw round_pump))

abbrev pub grid_hill : GridJunction
grid_hill = record {
  elevation = pos 500000000000000;
  demand = Driven (pos 4000000000) thirst (minimum_pressure hill_town) (required_pressure hill_town);
  emitter = Some hole;
}

-- The grid with the pump's law and the pool's head.
abbrev pub grid_with : Law → Interval → Grid
grid_with pump head = record {
  junctions = grid_hill ∷ [];
  reservoirs = pos 350000000000000 ∷ [];
  tanks = head ∷ [];
  links =
      record { from = 0; to = 2; law = QuadraticLaw metric_pipe }
      ∷ record { from = 2; to = 0; law = ForwardOnly (QuadraticLaw metric_pipe) }
      ∷ record { from = 1; to = 0; law = pump }
      ∷ [];
}

-- Vectors of one head each.
abbrev pub heads : ℤ → ℤ → Vectors
heads upper lower = record { upper = upper ∷ []; lower = lower ∷ [] }

-- A record with two vectors for all tanks alike, and two with the pool pinned.
abbrev pub row_with : ℕ → ℕ → ℕ → Vectors → Vectors → Record
row_with number time length main pinned =
    record { number = number; time = time; length = length; main = main; pinned = pinned ∷ [] }

-- The lines of a report time: the hill's head, pressure and outflow, the pool's head, level and inflow, and the flows
-- of the pipe to it and of the pump. The check valve is shut.
abbrev pub state_lines : ℕ → Interval → Interval → Interval → Interval → Interval → Interval → Interval → Interval
    → List ReportLine
state_lines time head pressure outflow pool_head level inflow rising lifted =
    TimeLine time
    ∷ JunctionLine 0 head pressure outflow
    ∷ ReservoirLine 0 (exactly (pos 350000))
    ∷ TankLine 0 pool_head level inflow Between
    ∷ LinkLine 0 rising WordOpen
    ∷ LinkLine 1 (record { lo = neg_ℤ (pos 1); hi = pos 1 }) WordClosed
    ∷ LinkLine 2 lifted WordOpen
    ∷ []

-- A period of a history: the pool's level, volume and state, the pump's state, the hill's head, the flows of the links,
-- of the demand and of the emitter.
abbrev pub period_with : ℕ → ℕ → ℤ → ℤ → TankState → LinkState → ℤ → List ℤ → ℤ → ℤ → Period
period_with time length level volume state pump head flows taken emitted = record {
  time = time;
  length = length;
  levels = level ∷ [];
  volumes = volume ∷ [];
  tanks = state ∷ [];
  links = Open ∷ Open ∷ pump ∷ [];
  assignment = record { heads = head ∷ []; flows = flows; demands = taken ∷ []; emitters = emitted ∷ [] };
}

-- ---- the run

abbrev pub standing_0 : Standing
standing_0 = standing_with 0 0 (exactly (pos 49995000000000)) (exactly (pos 11998000000)) Between running

abbrev pub standing_1 : Standing
standing_1 = standing_with 1 1 (exactly (pos 50000000000000)) (exactly (pos 12000000000)) Full running

abbrev pub standing_2 : Standing
standing_2 = standing_with 2 2 (exactly (pos 50000000000000)) (exactly (pos 12000000000)) Full Closed

abbrev pub standing_3 : Standing
standing_3 = standing_with 3 3 (record { lo = pos 49979645754990; hi = pos 49979645807510 })
    (record { lo = pos 11991858302; hi = pos 11991858323 }) Between Closed

abbrev pub left : Standing
left = record standing_3 { number = 4; finished = true }

abbrev pub grid_0 : Grid
grid_0 = grid_with lifting (exactly (pos 649995000000000))

abbrev pub grid_1 : Grid
grid_1 = grid_with lifting (exactly (pos 650000000000000))

abbrev pub grid_2 : Grid
grid_2 = grid_with Shut (exactly (pos 650000000000000))

abbrev pub grid_3 : Grid
grid_3 = grid_with lifting (record { lo = pos 649979645754990; hi = pos 649979645807510 })

abbrev pub row_0 : Record
row_0 = row_with 0 0 1 (heads (pos 650015839686033) (pos 650015839684274))
    (heads (pos 650015839686033) (pos 650015839684274))

abbrev pub row_1 : Record
row_1 = row_with 1 1 1 (heads (pos 650020834156565) (pos 650020834154806))
    (heads (pos 650020834156565) (pos 650020834154806))

abbrev pub row_2 : Record
row_2 = row_with 2 2 1 (heads (pos 649970645144761) (pos 649970645143725))
    (heads (pos 649970645144761) (pos 649970645143725))

abbrev pub row_3 : Record
row_3 = row_with 3 3 0 (heads (pos 650000502477942) (pos 650000502423718))
    (heads (pos 650000502425478) (pos 650000502476182))

abbrev pub state_0 : List ReportLine
state_0 = state_lines 0 (record { lo = pos 650015; hi = pos 650016 }) (record { lo = pos 150015; hi = pos 150016 })
    (record { lo = pos 7035715; hi = pos 7035716 }) (exactly (pos 649995)) (exactly (pos 49995))
    (record { lo = pos 2963491; hi = pos 2963493 }) (record { lo = pos 2963491; hi = pos 2963493 })
    (record { lo = pos 9999207; hi = pos 9999208 })

abbrev pub state_3 : List ReportLine
state_3 = state_lines 3 (record { lo = pos 650000; hi = pos 650001 }) (record { lo = pos 150000; hi = pos 150001 })
    (record { lo = pos 7035275; hi = pos 7035276 }) (record { lo = pos 649979; hi = pos 649980 })
    (record { lo = pos 49979; hi = pos 49980 }) (record { lo = pos 2964699; hi = pos 2964700 })
    (record { lo = pos 2964695; hi = pos 2964704 }) (record { lo = pos 9999974; hi = pos 9999975 })

-- The pool fills.
abbrev pub found_0 : Found
found_0 = record {
  standing = standing_0;
  grid = grid_0;
  row = row_0;
  lines = state_0 ++ (FilledLine 1 0 ∷ []);
  next = standing_1;
}

-- It spills, and the rule stops the pump.
abbrev pub found_1 : Found
found_1 = record {
  standing = standing_1;
  grid = grid_1;
  row = row_1;
  lines = RuleLine 2 0 2 Closed ∷ [];
  next = standing_2;
}

-- It feeds the town through both pipes, down to the level of the control.
abbrev pub found_2 : Found
found_2 = record {
  standing = standing_2;
  grid = grid_2;
  row = row_2;
  lines = ReachedLine 3 0 0 ∷ [];
  next = standing_3;
}

-- The control has started the pump, and the run ends.
abbrev pub found_3 : Found
found_3 = record {
  standing = standing_3;
  grid = grid_3;
  row = row_3;
  lines = (ControlLine 3 0 2 running ∷ []) ++ state_3;
  next = left;
}

abbrev pub founds : List Found
founds = found_0 ∷ found_1 ∷ found_2 ∷ found_3 ∷ []

-- ---- a history

abbrev pub period_0 : Period
period_0 = period_with 0 1 (pos 49995000000000000) (pos 11998000000000) Between running (pos 650015839685152360)
    (pos 2963492056448 ∷ pos 0 ∷ pos 9999207984377 ∷ []) (pos 3162528097664) (pos 3873187830265)

abbrev pub period_1 : Period
period_1 = period_with 1 1 (pos 50000000000000000) (pos 12000000000000) Full running (pos 650020834155683632)
    (pos 2963098873354 ∷ pos 0 ∷ pos 9998958237952 ∷ []) (pos 3162607059937) (pos 3873252304661)

abbrev pub period_2 : Period
period_2 = period_with 2 1 (pos 50000000000000000) (pos 12000000000000) Full Closed (pos 649970645144249985)
    (neg_ℤ (pos 3517208921592) ∷ pos 3517208921592 ∷ pos 0 ∷ []) (pos 3161813485078) (pos 3872604358106)

abbrev pub period_3 : Period
period_3 = period_with 3 0 (pos 49979645781702500) (pos 11991858312681) Between running (pos 650000502451289222)
    (pos 2964699439973 ∷ pos 0 ∷ pos 9999974877403 ∷ []) (pos 3162285604610) (pos 3872989832820)

abbrev pub periods : List Period
periods = period_0 ∷ period_1 ∷ period_2 ∷ period_3 ∷ []

-- ---- what was written and printed

abbrev pub written : List ℕ
written = joined (
    codes "HYDCERT 2 1 1\n"
    ∷ codes "PERIOD 0 0 1\nMU 650015839686033\nML 650015839684274\nPU 650015839686033\nPL 650015839684274\n"
    ∷ codes "PERIOD 1 1 1\nMU 650020834156565\nML 650020834154806\nPU 650020834156565\nPL 650020834154806\n"
    ∷ codes "PERIOD 2 2 1\nMU 649970645144761\nML 649970645143725\nPU 649970645144761\nPL 649970645143725\n"
    ∷ codes "PERIOD 3 3 0\nMU 650000502477942\nML 650000502423718\nPU 650000502425478\nPL 650000502476182\n"
    ∷ codes "END 4 FINISHED\n"
    ∷ [])

abbrev pub printed : List ℕ
printed = joined (
    codes "HYD 1\n"
    ∷ codes "TIME 0:00:00\n"
    ∷ codes "JUNCTION Hill head 65.0015 65.0016 pressure 15.0015 15.0016 outflow 703.5715 703.5716\n"
    ∷ codes "RESERVOIR Lake head 35.0000 35.0000\n"
    ∷ codes "TANK Pool head 64.9995 64.9995 level 4.9995 4.9995 inflow 296.3491 296.3493 state BETWEEN\n"
    ∷ codes "LINK Rise flow 296.3491 296.3493 status OPEN\n"
    ∷ codes "LINK Back flow -0.0001 0.0001 status CLOSED\n"
    ∷ codes "LINK Lift flow 999.9207 999.9208 status OPEN\n"
    ∷ codes "EVENT 0:00:01 TANK Pool FULL\n"
    ∷ codes "RULE Enough 0:00:02 LINK Lift CLOSED\n"
    ∷ codes "EVENT 0:00:03 TANK Pool CONTROL 1\n"
    ∷ codes "CONTROL 1 0:00:03 LINK Lift SETTING 1.000000000\n"
    ∷ codes "TIME 0:00:03\n"
    ∷ codes "JUNCTION Hill head 65.0000 65.0001 pressure 15.0000 15.0001 outflow 703.5275 703.5276\n"
    ∷ codes "RESERVOIR Lake head 35.0000 35.0000\n"
    ∷ codes "TANK Pool head 64.9979 64.9980 level 4.9979 4.9980 inflow 296.4699 296.4700 state BETWEEN\n"
    ∷ codes "LINK Rise flow 296.4695 296.4704 status OPEN\n"
    ∷ codes "LINK Back flow -0.0001 0.0001 status CLOSED\n"
    ∷ codes "LINK Lift flow 999.9974 999.9975 status OPEN\n"
    ∷ codes "DONE 4\n"
    ∷ [])
