-- A town of two junctions, a reservoir, two tanks, a pump and four valves, under controls and rules for three hours:
-- what the reader makes of the lines above each definition.
use Rattle.std.specs.Prelude.{◌≡◌, ℕ, pos, true, false, List, [], ◌∷◌, Option, Some, None, ℤ, codes}
use Rattle.std.specs.Int.Signed.{≤ℤ_refl}
use Rattle.std.proofs.Common.{lit≤}
use Rattle.hyd_num.specs.declared.spans.Span.{Span}
use Rattle.hyd_net.specs.ListView.{ListView}
use Rattle.hyd_spec.specs.Rules.{Offer}
use Rattle.hyd_spec.specs.ProgramTypes.{Project, Options, Times, Decimal, Cmd, Capacity, Junction, Reservoir, Tank}
use Rattle.hyd_spec.specs.ProgramTypes.{Link}
use Rattle.hyd_spec.specs.ProgramTypes.{PumpLink, Tcv, Fcv, Linear, FourThirds, LinkState, Open, Closed, Speed}
use Rattle.hyd_spec.specs.ProgramTypes.{Throttle}
use Rattle.hyd_spec.specs.ProgramTypes.{Limit, Pattern, Control, AtLevel, AtTime, AtClock, Rule, And, Or, Clause, What}
use Rattle.hyd_spec.specs.ProgramTypes.{Relation, Less, More, NotLess, Equal, Level, Flow, Status, Time, Clock, Value}
use Rattle.hyd_spec.specs.ProgramTypes.{Amount}
use Rattle.hyd_spec.specs.ProgramTypes.{ValueOpen}

-- A list for which there is this much room more. No definition looks at the room.
abbrev pub listed : {T : Type 0} → ℕ → List T → ListView T
listed spare items = record { list = items; spare = spare }

-- ---- options and times

-- Numbers of the file: 0, 0.1, 1, 10 and 50.
abbrev pub zero_number : Decimal
zero_number = record { nano = pos 0; bounded = lit≤ tt }

abbrev pub tenth : Decimal
tenth = record { nano = pos 100000000; bounded = lit≤ tt }

abbrev pub one : Decimal
one = record { nano = pos 1000000000; bounded = lit≤ tt }

abbrev pub ten : Decimal
ten = record { nano = pos 10000000000; bounded = lit≤ tt }

abbrev pub fifty : Decimal
fifty = record { nano = pos 50000000000; bounded = lit≤ tt }

-- UNITS CMD
abbrev pub options : Options
options = record {
  unit = Cmd;
  pda = false;
  p0 = zero_number;
  pf = tenth;
  multiplier = one;
  default_pattern = None;
}

-- DURATION 3:00
-- HYDRAULIC TIMESTEP 1:00, PATTERN TIMESTEP 1:00, REPORT TIMESTEP 1:00, RULE TIMESTEP 0:06
-- START CLOCKTIME 11 PM
abbrev pub times : Times
times = record {
  duration = 10800;
  hydraulic = 3600;
  pattern = 3600;
  pattern_start = 0;
  report = 3600;
  report_start = 0;
  start_clock = 82800;
  rule = 360;
}

-- ---- nodes

-- EAST 10 300
abbrev pub east : ℕ → Junction
east room = record {
  elevation = pos 100000000000000;
  demands = listed room (record { base = pos 3000000000; pattern = None } ∷ []);
  emitter = None;
}

-- WEST 5 864
abbrev pub west : ℕ → Junction
west room = record {
  elevation = pos 50000000000000;
  demands = listed room (record { base = pos 8640000000; pattern = None } ∷ []);
  emitter = None;
}

-- SPRING 60
abbrev pub spring : Reservoir
spring = record { head = pos 600000000000000; pattern = None }

-- NORTH 40 4.5 1 5 10 0
abbrev pub north : Tank
north = record {
  bottom = pos 400000000000000;
  initial = pos 45000000000000;
  minimum = pos 10000000000000;
  maximum = pos 50000000000000;
  area = pos 78539816350;
  diameter = ten;
  shape = None;
  overflow = false;
}

-- SOUTH 20 2 1.5 4 10 0
abbrev pub south : Tank
south = record {
  bottom = pos 200000000000000;
  initial = pos 20000000000000;
  minimum = pos 15000000000000;
  maximum = pos 40000000000000;
  area = pos 78539816350;
  diameter = ten;
  shape = None;
  overflow = false;
}

-- ---- links

-- Settings of 1164 and 1400 m3/d of the valve that fills the upper tank.
abbrev pub filling : LinkState
filling = Limit (pos 1164000000000) (pos 11640000000)

abbrev pub fast_filling : LinkState
fast_filling = Limit (pos 1400000000000) (pos 14000000000)

-- Settings of 400, 880 and 900 m3/d of the main.
abbrev pub narrow_main : LinkState
narrow_main = Limit (pos 400000000000) (pos 4000000000)

abbrev pub night_main : LinkState
night_main = Limit (pos 880000000000) (pos 8800000000)

abbrev pub wide_main : LinkState
wide_main = Limit (pos 900000000000) (pos 9000000000)

-- A throttle control valve whose setting is 0.
abbrev pub unthrottled : LinkState
unthrottled = Throttle (pos 0) Linear

-- SPEEDS 0 1 0 0.9
abbrev pub speeds : ℕ → Pattern
speeds room = record { multipliers = listed room (pos 0 ∷ pos 1000000000 ∷ pos 0 ∷ pos 900000000 ∷ []) }

-- The shutoff head of the pump: its curve has one point, of 1000 m3/d at 50 m.
abbrev pub shutoff : Span
shutoff = record { lo = pos 666666666666666; hi = pos 666666666666667; ordered = record { le = tt } }

-- LIFT SPRING EAST HEAD CURVE PATTERN SPEEDS
-- FILL SPRING NORTH 300 FCV 1164
-- UPPER NORTH EAST 300 TCV 0, of status OPEN
-- MAIN EAST WEST 300 FCV 400
-- LOWER SOUTH WEST 300 TCV 0
abbrev pub links : Capacity → List Link
links capacity =
    record {
      from = 2;
      to = 0;
      kind = PumpLink capacity shutoff (FourThirds fifty) (Some 0);
      start = Speed (pos 1000000000);
    }
    ∷ record { from = 2; to = 3; kind = Fcv Linear; start = filling }
    ∷ record { from = 3; to = 0; kind = Tcv Linear; start = Open }
    ∷ record { from = 0; to = 1; kind = Fcv Linear; start = narrow_main }
    ∷ record { from = 4; to = 1; kind = Tcv Linear; start = unthrottled } ∷ []

-- ---- controls and rules

-- LINK LIFT 1.2 AT CLOCKTIME 12 AM
-- LINK LIFT CLOSED AT TIME 1:00
-- LINK MAIN 900 IF NODE SOUTH BELOW 1.5
-- LINK FILL CLOSED IF NODE NORTH ABOVE 5
-- LINK MAIN 400 AT CLOCKTIME 1 AM
abbrev pub controls : List Control
controls =
    record { link = 0; to = Speed (pos 1200000000); when = AtClock 0 }
    ∷ record { link = 0; to = Closed; when = AtTime 3600 }
    ∷ record { link = 3; to = wide_main; when = AtLevel 1 false (pos 15000000000000) }
    ∷ record { link = 1; to = Closed; when = AtLevel 0 true (pos 50000000000000) }
    ∷ record { link = 3; to = narrow_main; when = AtClock 3600 } ∷ []

-- A comparison with an amount of whole ticks or seconds. The file's number matters for pressures alone.
abbrev pub amount : ℤ → Value
amount ticks = Amount (record { lo = ticks; hi = ticks; ordered = ≤ℤ_refl ticks }) zero_number

-- A clause by its parts.
abbrev pub compared : What → Relation → Value → Clause
compared what relation value = record { what = what; relation = relation; value = value }

-- RULE LOW
-- IF TANK NORTH LEVEL < 4.8
-- AND SYSTEM TIME >= 2:00
-- THEN VALVE FILL SETTING = 1400
-- PRIORITY 2
abbrev pub low : (ℕ → ℕ) → Rule
low room = record {
  id = listed (room 0) (codes "LOW");
  clauses = listed (room 1) (record { joined = And; clause = compared (Level 0) Less (amount (pos 48000000000000)) }
      ∷ record { joined = And; clause = compared Time NotLess (amount (pos 7200)) } ∷ []);
  yes = listed (room 2) (record { link = 1; to = fast_filling } ∷ []);
  no = listed (room 3) [];
  priority = Some (pos 2000000000);
}

-- RULE NIGHT
-- IF SYSTEM CLOCKTIME >= 1:20 AM
-- AND SYSTEM CLOCKTIME < 2 AM
-- THEN VALVE FILL STATUS = CLOSED
-- AND VALVE MAIN SETTING = 880
-- PRIORITY 1
abbrev pub night : (ℕ → ℕ) → Rule
night room = record {
  id = listed (room 4) (codes "NIGHT");
  clauses = listed (room 5) (record { joined = And; clause = compared Clock NotLess (amount (pos 4800)) }
      ∷ record { joined = And; clause = compared Clock Less (amount (pos 7200)) } ∷ []);
  yes = listed (room 6) (record { link = 1; to = Closed } ∷ record { link = 3; to = night_main } ∷ []);
  no = listed (room 7) [];
  priority = Some (pos 1000000000);
}

-- RULE REST
-- IF SYSTEM TIME < 2:24
-- OR TANK SOUTH LEVEL > 1.9
-- THEN VALVE LOWER SETTING = 0
-- ELSE VALVE LOWER STATUS = OPEN
abbrev pub rest : (ℕ → ℕ) → Rule
rest room = record {
  id = listed (room 8) (codes "REST");
  clauses = listed (room 9) (record { joined = And; clause = compared Time Less (amount (pos 8640)) }
      ∷ record { joined = Or; clause = compared (Level 1) More (amount (pos 19000000000000)) } ∷ []);
  yes = listed (room 10) (record { link = 4; to = unthrottled } ∷ []);
  no = listed (room 11) (record { link = 4; to = Open } ∷ []);
  priority = None;
}

-- RULE IDLE
-- IF VALVE FILL FLOW > 2000
-- OR PUMP LIFT STATUS IS OPEN
-- THEN PUMP LIFT SETTING = 0.5
abbrev pub idle : (ℕ → ℕ) → Rule
idle room = record {
  id = listed (room 12) (codes "IDLE");
  clauses = listed (room 13) (record { joined = And; clause = compared (Flow 1) More (amount (pos 20000000000)) }
      ∷ record { joined = Or; clause = compared (Status 0) Equal ValueOpen } ∷ []);
  yes = listed (room 14) (record { link = 0; to = Speed (pos 500000000) } ∷ []);
  no = listed (room 15) [];
  priority = None;
}

-- The numbers of the five links, which are those of the five nodes too.
abbrev pub numbers : List ℕ
numbers = 0 ∷ 1 ∷ 2 ∷ 3 ∷ 4 ∷ []

-- ---- two offers to one link

-- An earlier rule opens the link, a later one closes it.
abbrev pub earlier : Option ℤ → Offer
earlier priority = record { rule = 0; priority = priority; link = 0; to = Open }

abbrev pub later : Option ℤ → Offer
later priority = record { rule = 1; priority = priority; link = 0; to = Closed }

-- ---- the town

-- The network is the town's, whatever the capacity of the pump's curve.
pub record IsTown (project : Project) : Type 0 where
  pub room : ℕ → ℕ
  pub capacity : Capacity
  pub options_are : project.options ≡ options
  pub times_are : project.times ≡ times
  pub node_ids : project.node_ids ≡ codes "EAST" ∷ codes "WEST" ∷ codes "SPRING" ∷ codes "NORTH" ∷ codes "SOUTH" ∷ []
  pub link_ids : project.link_ids ≡ codes "LIFT" ∷ codes "FILL" ∷ codes "UPPER" ∷ codes "MAIN" ∷ codes "LOWER" ∷ []
  pub junctions : project.junctions.list ≡ east (room 16) ∷ west (room 17) ∷ []
  pub reservoirs : project.reservoirs.list ≡ spring ∷ []
  pub tanks : project.tanks.list ≡ north ∷ south ∷ []
  pub links_are : project.links.list ≡ links capacity
  pub patterns : project.patterns.list ≡ speeds (room 18) ∷ []
  pub shapes : project.shapes.list ≡ []
  pub bends : project.bends.list ≡ []
  pub controls_are : project.controls.list ≡ controls
  pub rules : project.rules.list ≡ low room ∷ night room ∷ rest room ∷ idle room ∷ []

-- One such network: its lists have no room.
abbrev pub no_room : ℕ → ℕ
no_room list = 0

abbrev pub town : Capacity → Project
town capacity = record {
  options = options;
  times = times;
  node_ids = codes "EAST" ∷ codes "WEST" ∷ codes "SPRING" ∷ codes "NORTH" ∷ codes "SOUTH" ∷ [];
  link_ids = codes "LIFT" ∷ codes "FILL" ∷ codes "UPPER" ∷ codes "MAIN" ∷ codes "LOWER" ∷ [];
  junctions = listed 0 (east 0 ∷ west 0 ∷ []);
  reservoirs = listed 0 (spring ∷ []);
  tanks = listed 0 (north ∷ south ∷ []);
  links = listed 0 (links capacity);
  patterns = listed 0 (speeds 0 ∷ []);
  shapes = listed 0 [];
  bends = listed 0 [];
  controls = listed 0 controls;
  rules = listed 0 (low no_room ∷ night no_room ∷ rest no_room ∷ idle no_room ∷ []);
}
