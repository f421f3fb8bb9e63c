-- The shallow village: its tank fills and empties within a few seconds, and then the farm has no source. What an
-- independent calculation gives for its two periods, a history of them at scale 1000, and what was written and printed.
use Rattle.std.specs.Prelude.{ℕ, pos, false, None, List, [], ◌∷◌, codes}
use Rattle.std.proofs.Common.{lit≤}
use Rattle.hyd_spec.specs.ProgramTypes.{Limit}
use Rattle.hyd_spec.specs.declared.TankState.TheVariants.{Empty, Between, Full}
use Rattle.hyd_spec_certificates.specs.declared.StatusWord.TheVariants.{Active as WordActive}
use Rattle.hyd_spec.specs.Lists.{joined}
use Rattle.hyd_spec.specs.Law.{LinearLaw, ForwardOnly, ReverseOnly, Capped}
use Rattle.hyd_spec.specs.PeriodLength.{Period}
use Rattle.hyd_spec_certificates.specs.PeriodNetwork.{Grid}
use Rattle.hyd_spec_certificates.specs.RecordAndStanding.{Record, Standing}
use Rattle.hyd_spec_reports.specs.ReportLine.{ReportLine, TimeLine, JunctionLine, ReservoirLine, TankLine, LinkLine}
use Rattle.hyd_spec_reports.specs.ReportLine.{FilledLine, EmptiedLine}
use Rattle.hyd_spec_reports.specs.PromisesOfRunsAndChecks.{Found}
use Rattle.hyd_cases_of_runs.specs.Village.{Choice, usual}
use Rattle.hyd_cases_of_runs.specs.VillagePeriods.{village_standing, village_grid, village_row, village_period}

-- The control's level is never reached.
abbrev pub shallow : Choice
shallow = record usual {
  tank = record {
    bottom = pos 600000000000000;
    initial = pos 20120000000000;
    minimum = pos 20105000000000;
    maximum = pos 20225000000000;
    area = pos 785398163;
    diameter = record { nano = pos 1000000000; bounded = lit≤ tt };
    shape = None;
    overflow = false;
  };
  ticks = pos 40000000000000;
}

-- What is known when period 0 begins.
abbrev pub standing_0 : Standing
standing_0 = village_standing 0 0 (record {
  lo = pos 20120000000000;
  hi = pos 20120000000000;
}) Between (Limit (pos 1000000000000) (pos 10000000000))

-- What is known when period 1 begins.
abbrev pub standing_1 : Standing
standing_1 = village_standing 1 1 (record {
  lo = pos 20225000000000;
  hi = pos 20225000000000;
}) Full (Limit (pos 1000000000000) (pos 10000000000))

-- What is left after the last one.
abbrev pub left : Standing
left = village_standing 2 6 (record {
  lo = pos 20105000000000;
  hi = pos 20105000000000;
}) Empty (Limit (pos 1000000000000) (pos 10000000000))

-- The grid of period 0.
abbrev pub grid_0 : Grid
grid_0 = village_grid (pos 8000000000) (Capped (pos 10000000000) LinearLaw) LinearLaw (record {
  lo = pos 620120000000000;
  hi = pos 620120000000000;
})

-- The grid of period 1.
abbrev pub grid_1 : Grid
grid_1 = village_grid (pos 8000000000) (ReverseOnly (Capped (pos 10000000000) LinearLaw)) (ForwardOnly LinearLaw)
    (record { lo = pos 620225000000000; hi = pos 620225000000000 })

-- The record of period 0.
abbrev pub row_0 : Record
row_0 = village_row 0 0 1
    (record {
      upper = pos 999999997757519 ∷ pos 620119999750836 ∷ [];
      lower = pos 999999997757518 ∷ pos 620119999750835 ∷ [];
    })
    (record {
      upper = pos 999999997757519 ∷ pos 620119999750836 ∷ [];
      lower = pos 999999997757518 ∷ pos 620119999750835 ∷ [];
    })

-- The record of period 1.
abbrev pub row_1 : Record
row_1 = village_row 1 1 5
    (record {
      upper = pos 999999999003342 ∷ pos 620224999750836 ∷ [];
      lower = pos 999999999003341 ∷ pos 620224999750835 ∷ [];
    })
    (record {
      upper = pos 999999999003342 ∷ pos 620224999750836 ∷ [];
      lower = pos 999999999003341 ∷ pos 620224999750835 ∷ [];
    })

-- The lines of period 0.
abbrev pub lines_0 : List ReportLine
lines_0 =
    (TimeLine 0)
    ∷ (JunctionLine 0 (record { lo = pos 999999; hi = pos 1000000 }) (record {
      lo = pos 499999;
      hi = pos 500000;
    }) (record { lo = pos 7999999; hi = pos 8000001 }))
    ∷ (JunctionLine 1 (record { lo = pos 620119; hi = pos 620120 }) (record {
      lo = pos 220119;
      hi = pos 220120;
    }) (record { lo = pos 1999999; hi = pos 2000001 }))
    ∷ (ReservoirLine 0 (record { lo = pos 1000000; hi = pos 1000000 }))
    ∷ (TankLine 0 (record { lo = pos 620120; hi = pos 620120 }) (record {
      lo = pos 20120;
      hi = pos 20120;
    }) (record { lo = pos 7999996; hi = pos 8000005 }) Between)
    ∷ (LinkLine 0 (record { lo = pos 17999997; hi = pos 18000006 }) WordActive)
    ∷ (LinkLine 1 (record { lo = pos 9999999; hi = pos 10000001 }) WordActive)
    ∷ (LinkLine 2 (record { lo = pos 1999995; hi = pos 2000004 }) WordActive)
    ∷ (FilledLine 1 0)
    ∷ []

-- The lines of period 1.
abbrev pub lines_1 : List ReportLine
lines_1 =
    (EmptiedLine 6 0)
    ∷ []

-- What is known of period 0.
abbrev pub found_0 : Found
found_0 = record { standing = standing_0; grid = grid_0; row = row_0; lines = lines_0; next = standing_1 }

-- What is known of period 1.
abbrev pub found_1 : Found
found_1 = record { standing = standing_1; grid = grid_1; row = row_1; lines = lines_1; next = left }

-- All of them, in order.
abbrev pub founds : List Found
founds = found_0 ∷ found_1 ∷ []

-- Period 0 of the history.
abbrev pub period_0 : Period
period_0 = village_period 0 1 (pos 20120000000000000) Between (Limit (pos 1000000000000) (pos 10000000000))
    (pos 999999997757518663) (pos 620119999750835407) (pos 18000000000000) (pos 10000000000000) (pos 2000000000000)
    (pos 8000000000000)

-- Period 1 of the history.
abbrev pub period_1 : Period
period_1 = village_period 1 5 (pos 20225000000000000) Full (Limit (pos 1000000000000) (pos 10000000000))
    (pos 999999999003341628) (pos 620224999750835407) (pos 8000000000000) (pos 0) (pos 2000000000000)
    (pos 8000000000000)

-- All of them, in order.
abbrev pub periods : List Period
periods = period_0 ∷ period_1 ∷ []

-- The certificate that was written.
abbrev pub written : List ℕ
written = joined (
    codes "HYDCERT 1 2 1\n"
    ∷ codes "PERIOD 0 0 1\n"
    ∷ codes "MU 999999997757519\n"
    ∷ codes "MU 620119999750836\n"
    ∷ codes "ML 999999997757518\n"
    ∷ codes "ML 620119999750835\n"
    ∷ codes "PU 999999997757519\n"
    ∷ codes "PU 620119999750836\n"
    ∷ codes "PL 999999997757518\n"
    ∷ codes "PL 620119999750835\n"
    ∷ codes "PERIOD 1 1 5\n"
    ∷ codes "MU 999999999003342\n"
    ∷ codes "MU 620224999750836\n"
    ∷ codes "ML 999999999003341\n"
    ∷ codes "ML 620224999750835\n"
    ∷ codes "PU 999999999003342\n"
    ∷ codes "PU 620224999750836\n"
    ∷ codes "PL 999999999003341\n"
    ∷ codes "PL 620224999750835\n"
    ∷ codes "END 2 STOPPED\n"
    ∷ [])

-- The report that was printed.
abbrev pub printed : List ℕ
printed = joined (
    codes "HYD 1\n"
    ∷ codes "TIME 0:00:00\n"
    ∷ codes "JUNCTION Mill head 99.9999 100.0000 pressure 49.9999 50.0000 outflow 799.9999 800.0001\n"
    ∷ codes "JUNCTION Farm head 62.0119 62.0120 pressure 22.0119 22.0120 outflow 199.9999 200.0001\n"
    ∷ codes "RESERVOIR Lake head 100.0000 100.0000\n"
    ∷ codes "TANK Tower head 62.0120 62.0120 level 2.0120 2.0120 inflow 799.9996 800.0005 state BETWEEN\n"
    ∷ codes "LINK Main flow 1799.9997 1800.0006 status ACTIVE\n"
    ∷ codes "LINK Feed flow 999.9999 1000.0001 status ACTIVE\n"
    ∷ codes "LINK Drop flow 199.9995 200.0004 status ACTIVE\n"
    ∷ codes "EVENT 0:00:01 TANK Tower FULL\n"
    ∷ codes "EVENT 0:00:06 TANK Tower EMPTY\n"
    ∷ codes "STOP period 2 time 0:00:06 NOCERT MAIN LOWER JUNCTION Farm\n"
    ∷ [])
