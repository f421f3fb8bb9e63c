-- Villages whose run stops at its start, each by another cause.
use Rattle.std.specs.Prelude.{pos, [], ◌∷◌, Some}
use Rattle.std.specs.Int.Signed.{≤ℤ_refl}
use Rattle.std.proofs.Common.{lit≤}
use Rattle.hyd_spec.specs.ProgramTypes.{Project, Closed, And, Level, Status, Less, Equal, Amount, ValueActive}
use Rattle.hyd_spec_certificates.specs.Interval.{Interval}
use Rattle.hyd_spec_certificates.specs.Decided.{OpenRule}
use Rattle.hyd_cases_of_runs.specs.Village.{Choice, mill, farm, tower, usual, village}
use Rattle.hyd_net.specs.ListView.{listed}

-- The mill takes 120 million cubic metres a day.
abbrev pub thirsty : Project
thirsty = record village {
  options = record village.options { multiplier = record { nano = pos 2000000000; bounded = lit≤ tt } };
  junctions = listed (record mill {
    demands = listed (record {
      base = pos 600000000000000;
      pattern = Some 0;
    } ∷ []);
  } ∷ farm ∷ []);
}

-- The valve to the farm begins closed.
abbrev pub dry : Choice
dry = record usual { drop = Closed }

-- The rule looks for a level that the tower may or may not have after two seconds.
abbrev pub unsure_rule : Choice
unsure_rule = record usual {
  clauses =
      (record { joined = And; clause = record { what = Status 1; relation = Equal; value = ValueActive } })
      ∷ (record {
        joined = And;
        clause = record {
          what = Level 0;
          relation = Less;
          value =
              Amount (record {
                lo = pos 20014736570000;
                hi = pos 20014736570000;
                ordered = ≤ℤ_refl (pos 20014736570000);
              })
              (record { nano = pos 2001473657; bounded = lit≤ tt });
        };
      })
      ∷ [];
}

-- That rule, its second clause, and the level between its bounds.
abbrev pub open_rule : OpenRule
open_rule = record { rule = 0; clause = 1; lo = pos 20014736562746; hi = pos 20014736577608 }

-- The control's level is reached after five seconds or six.
abbrev pub unsure_event : Choice
unsure_event = record usual { ticks = pos 20036841430000 }

-- The control's level lies within the tower's at the end of the first period.
abbrev pub unsure_control : Choice
unsure_control = record usual { ticks = pos 20058946280000 }

-- The tower counts as full at the end of the first period, or doesn't yet.
abbrev pub unsure_tank : Choice
unsure_tank = record usual { tank = record tower { maximum = pos 20060470280000 } }

-- The tower's level there.
abbrev pub last_level : Interval
last_level = record { lo = pos 20058946250974; hi = pos 20058946310442 }
