-- A hamlet in gallons a minute, feet and pounds a square inch: a reservoir, a tank, a junction and two valves, with a
-- rule on pressures. Each definition is what the reader makes of the lines above it.
use Rattle.std.specs.Prelude.{◌≡◌, ℕ, pos, false, List, [], ◌∷◌, None, codes}
use Rattle.std.proofs.Common.{lit≤}
use Rattle.hyd_num.specs.declared.flow_units.FlowUnit.TheVariants.{Gpm}
use Rattle.hyd_spec.specs.ProgramTypes.{Project, Options, Times, Junction, Reservoir, Tank, Link, Tcv, Fcv, Linear}
use Rattle.hyd_spec.specs.ProgramTypes.{LinkState}
use Rattle.hyd_spec.specs.ProgramTypes.{Limit, Throttle, Rule, And, Or, Less, More, Pressure, Value, Amount}
use Rattle.hyd_spec.specs.declared.TankState.TheVariants.{Between}
use Rattle.hyd_spec.specs.Law.{LinearLaw, Capped}
use Rattle.hyd_spec_certificates.specs.EnclosingFunctions.{Fixed}
use Rattle.hyd_spec_certificates.specs.PeriodNetwork.{Grid}
use Rattle.hyd_spec_certificates.specs.RecordAndStanding.{Record, Standing}
use Rattle.hyd_cases_of_runs.specs.TwoTankTown.{listed, no_room, zero_number, tenth, one, compared}

-- UNITS GPM
abbrev pub options : Options
options = record {
  unit = Gpm;
  pda = false;
  p0 = zero_number;
  pf = tenth;
  multiplier = one;
  default_pattern = None;
}

-- DURATION 1:00
-- HYDRAULIC TIMESTEP 1:00, PATTERN TIMESTEP 1:00, REPORT TIMESTEP 1:00, RULE TIMESTEP 0:06
abbrev pub times : Times
times = record {
  duration = 3600;
  hydraulic = 3600;
  pattern = 3600;
  pattern_start = 0;
  report = 3600;
  report_start = 0;
  start_clock = 0;
  rule = 360;
}

-- J 100 60
abbrev pub junction : ℕ → Junction
junction room = record {
  elevation = pos 304800000000000;
  demands = listed room (record { base = pos 3270595781; pattern = None } ∷ []);
  emitter = None;
}

-- R 250
abbrev pub reservoir : Reservoir
reservoir = record { head = pos 762000000000000; pattern = None }

-- T 120 10 2 20 40 0
abbrev pub tank : Tank
tank = record {
  bottom = pos 365760000000000;
  initial = pos 30480000000000;
  minimum = pos 6096000000000;
  maximum = pos 60960000000000;
  area = pos 116745403199;
  diameter = record { nano = pos 40000000000; bounded = lit≤ tt };
  shape = None;
  overflow = false;
}

-- Settings of 100 and 50 gallons a minute.
abbrev pub hundred : LinkState
hundred = Limit (pos 100000000000) (pos 5450992968)

abbrev pub half : LinkState
half = Limit (pos 50000000000) (pos 2725496484)

-- FILL R T 12 FCV 100
-- DOWN T J 12 TCV 0
abbrev pub links : List Link
links =
    record { from = 1; to = 2; kind = Fcv Linear; start = hundred }
    ∷ record { from = 2; to = 0; kind = Tcv Linear; start = Throttle (pos 0) Linear } ∷ []

-- Pressures of 12.9, 4.3, 4.333 and 12.999 pounds a square inch. The first two aren't whole numbers of head ticks.
abbrev pub pounds_12_9 : Value
pounds_12_9 = Amount (record { lo = pos 90743595661204; hi = pos 90743595661205; ordered = record { le = tt } })
    (record { nano = pos 12900000000; bounded = lit≤ tt })

abbrev pub pounds_4_3 : Value
pounds_4_3 = Amount (record { lo = pos 30247865220401; hi = pos 30247865220402; ordered = record { le = tt } })
    (record { nano = pos 4300000000; bounded = lit≤ tt })

abbrev pub pounds_4_333 : Value
pounds_4_333 = Amount (record { lo = pos 30480000000000; hi = pos 30480000000000; ordered = record { le = tt } })
    (record { nano = pos 4333000000; bounded = lit≤ tt })

abbrev pub pounds_12_999 : Value
pounds_12_999 = Amount (record { lo = pos 91440000000000; hi = pos 91440000000000; ordered = record { le = tt } })
    (record { nano = pos 12999000000; bounded = lit≤ tt })

-- RULE A
-- IF JUNCTION J PRESSURE > 12.9
-- AND TANK T PRESSURE > 4.333
-- OR TANK T PRESSURE < 4.3
-- AND JUNCTION J PRESSURE > 12.999
-- THEN VALVE FILL SETTING = 50
abbrev pub rule : (ℕ → ℕ) → Rule
rule room = record {
  id = listed (room 0) (codes "A");
  clauses = listed (room 1) (record { joined = And; clause = compared (Pressure 0) More pounds_12_9 }
      ∷ record { joined = And; clause = compared (Pressure 2) More pounds_4_333 }
      ∷ record { joined = Or; clause = compared (Pressure 2) Less pounds_4_3 }
      ∷ record { joined = And; clause = compared (Pressure 0) More pounds_12_999 } ∷ []);
  yes = listed (room 2) (record { link = 0; to = half } ∷ []);
  no = listed (room 3) [];
  priority = None;
}

-- The network is the hamlet's.
pub record IsHamlet (project : Project) : Type 0 where
  pub room : ℕ → ℕ
  pub options_are : project.options ≡ options
  pub times_are : project.times ≡ times
  pub node_ids : project.node_ids ≡ codes "J" ∷ codes "R" ∷ codes "T" ∷ []
  pub link_ids : project.link_ids ≡ codes "FILL" ∷ codes "DOWN" ∷ []
  pub junctions : project.junctions.list ≡ junction (room 4) ∷ []
  pub reservoirs : project.reservoirs.list ≡ reservoir ∷ []
  pub tanks : project.tanks.list ≡ tank ∷ []
  pub links_are : project.links.list ≡ links
  pub patterns : project.patterns.list ≡ []
  pub shapes : project.shapes.list ≡ []
  pub bends : project.bends.list ≡ []
  pub controls : project.controls.list ≡ []
  pub rules : project.rules.list ≡ rule room ∷ []

-- One such network: its lists have no room.
abbrev pub hamlet : Project
hamlet = record {
  options = options;
  times = times;
  node_ids = codes "J" ∷ codes "R" ∷ codes "T" ∷ [];
  link_ids = codes "FILL" ∷ codes "DOWN" ∷ [];
  junctions = listed 0 (junction 0 ∷ []);
  reservoirs = listed 0 (reservoir ∷ []);
  tanks = listed 0 (tank ∷ []);
  links = listed 0 links;
  patterns = listed 0 [];
  shapes = listed 0 [];
  bends = listed 0 [];
  controls = listed 0 [];
  rules = listed 0 (rule no_room ∷ []);
}

-- ---- the period that begins at the start of the run

abbrev pub standing_at_start : Standing
standing_at_start = record {
  number = 0;
  time = 0;
  levels = record { lo = pos 30480000000000; hi = pos 30480000000000 } ∷ [];
  volumes = record { lo = pos 0; hi = pos 0 } ∷ [];
  tanks = Between ∷ [];
  commanded = hundred ∷ Throttle (pos 0) Linear ∷ [];
  finished = false;
}

abbrev pub grid_at_start : Grid
grid_at_start = record {
  junctions = record { elevation = pos 304800000000000; demand = Fixed (pos 3270595781); emitter = None } ∷ [];
  reservoirs = pos 762000000000000 ∷ [];
  tanks = record { lo = pos 396240000000000; hi = pos 396240000000000 } ∷ [];
  links = record { from = 1; to = 2; law = Capped (pos 5450992968) LinearLaw }
      ∷ record { from = 2; to = 0; law = LinearLaw } ∷ [];
}

abbrev pub row_at_start : Record
row_at_start = record {
  number = 0;
  time = 0;
  length = 3600;
  main = record { upper = pos 396239999592542 ∷ []; lower = pos 396239999592541 ∷ [] };
  pinned = record { upper = pos 396239999592542 ∷ []; lower = pos 396239999592541 ∷ [] } ∷ [];
}
