-- A village with a tank, as its file says it: two junctions, a reservoir, a tank and three valves without loss
-- coefficients, one of them with a limit; a pattern, a level control and a rule.
use Rattle.std.specs.Prelude.{ℤ, pos, true, false, List, [], ◌∷◌, None, Some, codes}
use Rattle.std.specs.Int.Signed.{≤ℤ_refl}
use Rattle.std.proofs.Common.{lit≤}
use Rattle.hyd_net.specs.ListView.{listed}
use Rattle.hyd_spec.specs.ProgramTypes.{Project, Junction, Tank, Link, Tcv, Fcv, Linear, Closed, Throttle, Limit}
use Rattle.hyd_spec.specs.ProgramTypes.{Control}
use Rattle.hyd_spec.specs.ProgramTypes.{AtLevel, Rule, RuleClause, And, Level, Status, Less, Equal, Amount, ValueClosed}
use Rattle.hyd_spec.specs.ProgramTypes.{Cmd}
use Rattle.hyd_spec.specs.ProgramTypes.{LinkState}

-- The mill takes the whole of its demand for eight seconds, then half of it, in turn.
abbrev pub mill : Junction
mill = record {
  elevation = pos 500000000000000;
  demands = listed (record { base = pos 8000000000; pattern = Some 0 } ∷ []);
  emitter = None;
}

-- The farm takes the same at all times.
abbrev pub farm : Junction
farm = record {
  elevation = pos 400000000000000;
  demands = listed (record { base = pos 2000000000; pattern = None } ∷ []);
  emitter = None;
}

-- The tower's tank is 4 m across; its levels are 0.5 m to 5 m, at the start 2 m.
abbrev pub tower : Tank
tower = record {
  bottom = pos 600000000000000;
  initial = pos 20000000000000;
  minimum = pos 5000000000000;
  maximum = pos 50000000000000;
  area = pos 12566370616;
  diameter = record { nano = pos 4000000000; bounded = lit≤ tt };
  shape = None;
  overflow = false;
}

-- The valve from the lake to the mill.
abbrev pub main_link : Link
main_link = record { from = 2; to = 0; kind = Tcv Linear; start = Throttle (pos 0) Linear }

-- The valve from the mill to the tower, which passes at most its setting.
abbrev pub feed_link : Link
feed_link = record { from = 0; to = 3; kind = Fcv Linear; start = Limit (pos 1000000000000) (pos 10000000000) }

-- The valve from the tower to the farm.
abbrev pub drop_link : LinkState → Link
drop_link start = record { from = 3; to = 1; kind = Tcv Linear; start = start }

-- The tower is no longer filled from a level on.
abbrev pub level_control : ℤ → Control
level_control ticks = record { link = 1; to = Closed; when = AtLevel 0 true ticks }

-- It is filled slowly where these hold.
abbrev pub refill_rule : List RuleClause → Rule
refill_rule clauses = record {
  id = listed (codes "Refill");
  clauses = listed clauses;
  yes = listed (record { link = 1; to = Limit (pos 300000000000) (pos 3000000000) } ∷ []);
  no = listed [];
  priority = None;
}

-- What villages differ in: the tank, how the valve to the farm begins, the level of the control, the clauses of the
-- rule.
pub record Choice : Type 0 where
  pub tank : Tank
  pub drop : LinkState
  pub ticks : ℤ
  pub clauses : List RuleClause

-- The village of a choice.
abbrev pub village_with : Choice → Project
village_with choice = record {
  options = record {
    unit = Cmd;
    pda = false;
    p0 = record { nano = pos 0; bounded = lit≤ tt };
    pf = record { nano = pos 100000000; bounded = lit≤ tt };
    multiplier = record { nano = pos 1000000000; bounded = lit≤ tt };
    default_pattern = None;
  };
  times = record {
    duration = 16;
    hydraulic = 8;
    pattern = 8;
    pattern_start = 0;
    report = 16;
    report_start = 0;
    start_clock = 0;
    rule = 2;
  };
  node_ids = codes "Mill" ∷ codes "Farm" ∷ codes "Lake" ∷ codes "Tower" ∷ [];
  link_ids = codes "Main" ∷ codes "Feed" ∷ codes "Drop" ∷ [];
  junctions = listed (mill ∷ farm ∷ []);
  reservoirs = listed (record { head = pos 1000000000000000; pattern = None } ∷ []);
  tanks = listed (choice.tank ∷ []);
  links = listed (main_link ∷ feed_link ∷ drop_link choice.drop ∷ []);
  patterns = listed (record { multipliers = listed (pos 1000000000 ∷ pos 500000000 ∷ []) } ∷ []);
  shapes = listed [];
  bends = listed [];
  controls = listed (level_control choice.ticks ∷ []);
  rules = listed (refill_rule choice.clauses ∷ []);
}

-- The usual choice: the tower is no longer filled from 2.008 m on, and slowly where that valve is closed and the level
-- below 2.0077 m.
abbrev pub usual : Choice
usual = record {
  tank = tower;
  drop = Throttle (pos 0) Linear;
  ticks = pos 20080000000000;
  clauses =
      (record { joined = And; clause = record { what = Status 1; relation = Equal; value = ValueClosed } })
      ∷ (record {
        joined = And;
        clause = record {
          what = Level 0;
          relation = Less;
          value =
              Amount (record {
                lo = pos 20077000000000;
                hi = pos 20077000000000;
                ordered = ≤ℤ_refl (pos 20077000000000);
              })
              (record { nano = pos 2007700000; bounded = lit≤ tt });
        };
      })
      ∷ [];
}

-- The usual village.
abbrev pub village : Project
village = village_with usual
