-- A small network: a reservoir (node 1), one link from it to a junction (node 0). No tank, no pattern and no rule.
use Rattle.std.specs.Prelude.{ℕ, ℤ, pos, Bool, false, List, [], ◌∷◌, Option, None, codes}
use Rattle.std.proofs.Common.{lit≤}
use Rattle.hyd_net.specs.ListView.{ListView, listed}
use Rattle.hyd_spec.specs.ProgramTypes.{Project, Junction, Link, FlowUnit, Cmd, Decimal, Capacity, LinkKind, LinkState}
use Rattle.hyd_spec.specs.ProgramTypes.{Tcv}
use Rattle.hyd_spec.specs.ProgramTypes.{Linear, Open, HeadPoint, Control}
use Rattle.hyd_spec.specs.PeriodLength.{Period}

-- What such networks differ in: the unit of flow, whether the demand is driven by pressure (from 5 to 21 of the unit of
-- pressures), the reservoir's head, the link, the junction's elevation (head ticks), demand (flow ticks) and emitter,
-- the curves by straight lines, the controls, the end of the run and the time of day at its start (seconds).
pub record Spur : Type 0 where
  pub unit : FlowUnit
  pub driven : Bool
  pub head : ℤ
  pub kind : LinkKind
  pub start : LinkState
  pub elevation : ℤ
  pub demand : ℤ
  pub emitter : Option Capacity
  pub bends : List (ListView HeadPoint)
  pub controls : List Control
  pub duration : ℕ
  pub start_clock : ℕ

-- A valve without loss, open, from 100 m to a junction at elevation 0 without a demand, and no time to run: what the
-- networks below leave as it is.
abbrev pub plain : Spur
plain = record {
  unit = Cmd;
  driven = false;
  head = pos 1000000000000000;
  kind = Tcv Linear;
  start = Open;
  elevation = pos 0;
  demand = pos 0;
  emitter = None;
  bends = [];
  controls = [];
  duration = 0;
  start_clock = 0;
}

-- The minimum pressure, and the required one.
abbrev pub five : Decimal
five = record { nano = pos 5000000000; bounded = lit≤ tt }

abbrev pub twenty_one : Decimal
twenty_one = record { nano = pos 21000000000; bounded = lit≤ tt }

-- The junction, and the link.
abbrev pub junction_of : Spur → Junction
junction_of spur = record {
  elevation = spur.elevation;
  demands = listed (record { base = spur.demand; pattern = None } ∷ []);
  emitter = spur.emitter;
}

abbrev pub link_of : Spur → Link
link_of spur = record { from = 1; to = 0; kind = spur.kind; start = spur.start }

-- The network.
abbrev pub network_of : Spur → Project
network_of spur = record {
  options = record {
    unit = spur.unit;
    pda = spur.driven;
    p0 = five;
    pf = twenty_one;
    multiplier = record { nano = pos 1000000000; bounded = lit≤ tt };
    default_pattern = None;
  };
  times = record {
    duration = spur.duration;
    hydraulic = 3600;
    pattern = 7200;
    pattern_start = 0;
    report = 7200;
    report_start = 0;
    start_clock = spur.start_clock;
    rule = 360;
  };
  node_ids = codes "J" ∷ codes "R" ∷ [];
  link_ids = codes "L" ∷ [];
  junctions = listed (junction_of spur ∷ []);
  reservoirs = listed (record { head = spur.head; pattern = None } ∷ []);
  tanks = listed [];
  links = listed (link_of spur ∷ []);
  patterns = listed [];
  shapes = listed [];
  bends = listed spur.bends;
  controls = listed spur.controls;
  rules = listed [];
}

-- A period from a time on, for some seconds, with the link in a state: the head of the junction, the flow of the link,
-- the flow of the demand and that of the emitter.
abbrev pub period_at : ℕ → ℕ → LinkState → ℤ → ℤ → ℤ → ℤ → Period
period_at time length state head flow taken emitted = record {
  time = time;
  length = length;
  levels = [];
  volumes = [];
  tanks = [];
  links = state ∷ [];
  assignment = record { heads = head ∷ []; flows = flow ∷ []; demands = taken ∷ []; emitters = emitted ∷ [] };
}

-- The one period of a run without length.
abbrev pub period_of : Spur → ℤ → ℤ → ℤ → ℤ → Period
period_of spur head flow taken emitted = period_at 0 0 spur.start head flow taken emitted
