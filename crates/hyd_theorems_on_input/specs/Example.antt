-- A text that has most kinds of rows and no capacity, and its network, which an independent reader gives too: two
-- junctions, a reservoir, two tanks, a pump and three valves, with a pattern, curves, controls and a rule.
use Rattle.std.specs.Prelude.{ℕ, List, [], ◌∷◌, ◌++◌, codes, Some, None, true, false, pos}
use Rattle.std.proofs.Common.{lit≤}
use Rattle.hyd_num.specs.declared.flow_units.FlowUnit.TheVariants.{Cmd}
use Rattle.hyd_net.specs.ListView.{listed}
use Rattle.hyd_net.specs.declared.links.LinkKind.TheVariants.{CurvePump, Tcv, Fcv, Gpv}
use Rattle.hyd_net.specs.declared.links.LinkState.TheVariants.{Open, Closed, Speed, Throttle, Limit}
use Rattle.hyd_net.specs.declared.links.OpenValve.TheVariants.{Linear}
use Rattle.hyd_net.specs.declared.controls.When.TheVariants.{Level as LevelAt, Time as TimeAt}
use Rattle.hyd_net.specs.declared.rules.Joined.TheVariants.{And, Or}
use Rattle.hyd_net.specs.declared.rules.Relation.TheVariants.{Less, More, AtLeast}
use Rattle.hyd_net.specs.declared.rules.What.TheVariants.{Pressure, Level, Time}
use Rattle.hyd_net.specs.declared.rules.Value.TheVariants.{Amount}
use Rattle.hyd_net.specs.declared.project.Project.{Project}

abbrev pub text : List ℕ
text =
    codes "[OPTIONS]\nUNITS CMD\nHEADLOSS C-M\nDEMAND MODEL PDA\n"
    ++ codes "MINIMUM PRESSURE 1\nREQUIRED PRESSURE 2\nPATTERN Q\n[TIMES]\n"
    ++ codes "DURATION 2\n[PATTERNS]\nQ 1 0.5\n[JUNCTIONS]\nJ 10 5 Q\nK 10\n"
    ++ codes "[RESERVOIRS]\nR 100 Q\n[TANKS]\nT 20 5 0 10 20\nW 20 4 1 9 0 0 C\n"
    ++ codes "[CURVES]\nC 0 0\nC 10 2000\nL 0 40\nL 1000 30\nL 2000 15\nL 3000 0\n"
    ++ codes "G 0 0\nG 100 1\n[PUMPS]\nU R K HEAD L SPEED 1.1\n[VALVES]\n"
    ++ codes "V K T 300 TCV 0 0\nF J T 300 FCV 50\nB J W 300 GPV G\n[DEMANDS]\nK 4 Q\n"
    ++ codes "[STATUS]\nU 0.5\n[CONTROLS]\nLINK V CLOSED IF NODE T BELOW 3\n"
    ++ codes "VALVE F 3 AT TIME 1\n[RULES]\nRULE 1\nIF TANK T LEVEL > 1\n"
    ++ codes "AND SYSTEM TIME >= 2\nOR NODE J PRESSURE BELOW 4\n"
    ++ codes "THEN VALVE V SETTING IS 0\nELSE PUMP U STATUS IS OPEN\nPRIORITY 3\n"

abbrev pub project : Project
project = record {
  options = record {
    unit = Cmd;
    pda = true;
    p0 = record { nano = pos 1000000000; bounded = lit≤ tt };
    pf = record { nano = pos 2000000000; bounded = lit≤ tt };
    multiplier = record { nano = pos 1000000000; bounded = lit≤ tt };
    default_pattern = Some 0;
  };
  times = record {
    duration = 7200;
    hydraulic = 3600;
    pattern = 3600;
    pattern_start = 0;
    report = 3600;
    report_start = 0;
    start_clock = 0;
    rule = 360;
  };
  node_ids = codes "J" ∷ codes "K" ∷ codes "R" ∷ codes "T" ∷ codes "W" ∷ [];
  link_ids = codes "U" ∷ codes "V" ∷ codes "F" ∷ codes "B" ∷ [];
  junctions = listed (
      record {
        elevation = pos 100000000000000;
        demands = listed (record { base = pos 50000000; pattern = Some 0 } ∷ []);
        emitter = None;
      }
      ∷ record {
        elevation = pos 100000000000000;
        demands = listed (record { base = pos 40000000; pattern = Some 0 } ∷ []);
        emitter = None;
      } ∷ []);
  reservoirs = listed (record { head = pos 1000000000000000; pattern = Some 0 } ∷ []);
  tanks = listed (
      record {
        bottom = pos 200000000000000;
        initial = pos 50000000000000;
        minimum = pos 0;
        maximum = pos 100000000000000;
        area = pos 314159265400;
        diameter = record { nano = pos 20000000000; bounded = lit≤ tt };
        shape = None;
        overflow = false;
      }
      ∷ record {
        bottom = pos 200000000000000;
        initial = pos 40000000000000;
        minimum = pos 10000000000000;
        maximum = pos 90000000000000;
        area = pos 0;
        diameter = record { nano = pos 0; bounded = lit≤ tt };
        shape = Some 0;
        overflow = false;
      } ∷ []);
  links = listed (
      record { from = 2; to = 1; kind = CurvePump 0 None; start = Speed (pos 500000000) }
      ∷ record { from = 1; to = 3; kind = Tcv Linear; start = Throttle (pos 0) Linear }
      ∷ record { from = 0; to = 3; kind = Fcv Linear; start = Limit (pos 50000000000) (pos 500000000) }
      ∷ record { from = 0; to = 4; kind = Gpv 1; start = Open } ∷ []);
  patterns = listed (record { multipliers = listed (pos 1000000000 ∷ pos 500000000 ∷ []) } ∷ []);
  shapes = listed (
      listed (record { level = pos 0; volume = pos 0 }
      ∷ record { level = pos 100000000000000; volume = pos 2000000000000 } ∷ []) ∷ []);
  bends = listed (
      listed (record { flow = pos 0; head = pos 400000000000000 }
      ∷ record { flow = pos 10000000000; head = pos 300000000000000 }
      ∷ record { flow = pos 20000000000; head = pos 150000000000000 }
      ∷ record { flow = pos 30000000000; head = pos 0 } ∷ [])
      ∷ listed (record { flow = pos 0; head = pos 0 } ∷ record { flow = pos 1000000000; head = pos 10000000000000 }
      ∷ [])
      ∷ []);
  controls = listed (
      record { link = 1; to = Closed; when = LevelAt 0 false (pos 30000000000000) }
      ∷ record { link = 2; to = Limit (pos 3000000000) (pos 30000000); when = TimeAt 3600 } ∷ []);
  rules = listed (
      record {
        id = listed (codes "1");
        clauses = listed (
            record {
              joined = And;
              clause = record {
                what = Level 0;
                relation = More;
                value = Amount (record {
                  lo = pos 10000000000000;
                  hi = pos 10000000000000;
                  ordered =
                      record { le = tt };
                })
                    (record { nano = pos 1000000000; bounded = lit≤ tt });
              };
            }
            ∷ record {
              joined = And;
              clause = record {
                what = Time;
                relation = AtLeast;
                value = Amount (record { lo = pos 7200; hi = pos 7200; ordered = record { le = tt } })
                    (record { nano = pos 7200000000000; bounded = lit≤ tt });
              };
            }
            ∷ record {
              joined = Or;
              clause = record {
                what = Pressure 0;
                relation = Less;
                value = Amount (record {
                  lo = pos 40000000000000;
                  hi = pos 40000000000000;
                  ordered =
                      record { le = tt };
                })
                    (record { nano = pos 4000000000; bounded = lit≤ tt });
              };
            } ∷ []);
        yes = listed (record { link = 1; to = Throttle (pos 0) Linear } ∷ []);
        no = listed (record { link = 0; to = Speed (pos 1000000000) } ∷ []);
        priority = Some (pos 3000000000);
      } ∷ []);
}
