-- The run of the village: what an independent calculation gives for each of its five periods.
use Rattle.std.specs.Prelude.{pos, true, List, [], ◌∷◌}
use Rattle.hyd_spec.specs.ProgramTypes.{Closed, Limit}
use Rattle.hyd_spec.specs.declared.TankState.TheVariants.{Between}
use Rattle.hyd_spec_certificates.specs.declared.StatusWord.TheVariants.{Active as WordActive}
use Rattle.hyd_spec.specs.Law.{Shut, LinearLaw, Capped}
use Rattle.hyd_spec_certificates.specs.PeriodNetwork.{Grid}
use Rattle.hyd_spec_certificates.specs.RecordAndStanding.{Record, Standing}
use Rattle.hyd_spec_reports.specs.ReportLine.{ReportLine, TimeLine, JunctionLine, ReservoirLine, TankLine, LinkLine}
use Rattle.hyd_spec_reports.specs.ReportLine.{ReachedLine, ControlLine, RuleLine}
use Rattle.hyd_spec_reports.specs.PromisesOfRunsAndChecks.{Found}
use Rattle.hyd_cases_of_runs.specs.VillagePeriods.{village_standing, village_grid, village_row}

-- What is known when period 0 begins.
abbrev pub standing_0 : Standing
standing_0 = village_standing 0 0 (record {
  lo = pos 20000000000000;
  hi = pos 20000000000000;
}) Between (Limit (pos 1000000000000) (pos 10000000000))

-- What is known when period 1 begins.
abbrev pub standing_1 : Standing
standing_1 = village_standing 1 8 (record {
  lo = pos 20058946250974;
  hi = pos 20058946310442;
}) Between (Limit (pos 1000000000000) (pos 10000000000))

-- What is known when period 2 begins.
abbrev pub standing_2 : Standing
standing_2 = village_standing 2 11 (record {
  lo = pos 20081051095083;
  hi = pos 20081051176864;
}) Between (Limit (pos 1000000000000) (pos 10000000000))

-- What is known when period 3 begins.
abbrev pub standing_3 : Standing
standing_3 = village_standing 3 14 (record {
  lo = pos 20075524872686;
  hi = pos 20075524976781;
}) Between (Limit (pos 300000000000) (pos 3000000000))

-- What is known when period 4 begins.
abbrev pub standing_4 : Standing
standing_4 = village_standing 4 16 (record {
  lo = pos 20077366937719;
  hi = pos 20077367056697;
}) Between (Limit (pos 300000000000) (pos 3000000000))

-- What is left after the last one.
abbrev pub left : Standing
left = record standing_4 { number = 5; finished = true }

-- The grid of period 0.
abbrev pub grid_0 : Grid
grid_0 = village_grid (pos 8000000000) (Capped (pos 10000000000) LinearLaw) LinearLaw (record {
  lo = pos 620000000000000;
  hi = pos 620000000000000;
})

-- The grid of period 1.
abbrev pub grid_1 : Grid
grid_1 = village_grid (pos 4000000000) (Capped (pos 10000000000) LinearLaw) LinearLaw (record {
  lo = pos 620058946250974;
  hi = pos 620058946310442;
})

-- The grid of period 2.
abbrev pub grid_2 : Grid
grid_2 = village_grid (pos 4000000000) Shut LinearLaw (record { lo = pos 620081051095083; hi = pos 620081051176864 })

-- The grid of period 3.
abbrev pub grid_3 : Grid
grid_3 = village_grid (pos 4000000000) (Capped (pos 3000000000) LinearLaw) LinearLaw (record {
  lo = pos 620075524872686;
  hi = pos 620075524976781;
})

-- The grid of period 4.
abbrev pub grid_4 : Grid
grid_4 = village_grid (pos 8000000000) (Capped (pos 3000000000) LinearLaw) LinearLaw (record {
  lo = pos 620077366937719;
  hi = pos 620077367056697;
})

-- The record of period 0.
abbrev pub row_0 : Record
row_0 = village_row 0 0 8
    (record {
      upper = pos 999999997757519 ∷ pos 619999999750836 ∷ [];
      lower = pos 999999997757518 ∷ pos 619999999750835 ∷ [];
    })
    (record {
      upper = pos 999999997757519 ∷ pos 619999999750836 ∷ [];
      lower = pos 999999997757518 ∷ pos 619999999750835 ∷ [];
    })

-- The record of period 1.
abbrev pub row_1 : Record
row_1 = village_row 1 8 3
    (record {
      upper = pos 999999998255848 ∷ pos 620058946061278 ∷ [];
      lower = pos 999999998255847 ∷ pos 620058946001809 ∷ [];
    })
    (record {
      upper = pos 999999998255848 ∷ pos 620058946001810 ∷ [];
      lower = pos 999999998255847 ∷ pos 620058946061277 ∷ [];
    })

-- The record of period 2.
abbrev pub row_2 : Record
row_2 = village_row 2 11 3
    (record {
      upper = pos 999999999501671 ∷ pos 620081050927700 ∷ [];
      lower = pos 999999999501670 ∷ pos 620081050845918 ∷ [];
    })
    (record {
      upper = pos 999999999501671 ∷ pos 620081050845919 ∷ [];
      lower = pos 999999999501670 ∷ pos 620081050927699 ∷ [];
    })

-- The record of period 3.
abbrev pub row_3 : Record
row_3 = village_row 3 14 2
    (record {
      upper = pos 999999999127924 ∷ pos 620075524727617 ∷ [];
      lower = pos 999999999127923 ∷ pos 620075524623521 ∷ [];
    })
    (record {
      upper = pos 999999999127924 ∷ pos 620075524623522 ∷ [];
      lower = pos 999999999127923 ∷ pos 620075524727616 ∷ [];
    })

-- The record of period 4.
abbrev pub row_4 : Record
row_4 = village_row 4 16 0
    (record {
      upper = pos 999999998629595 ∷ pos 620077366807533 ∷ [];
      lower = pos 999999998629594 ∷ pos 620077366688554 ∷ [];
    })
    (record {
      upper = pos 999999998629595 ∷ pos 620077366688555 ∷ [];
      lower = pos 999999998629594 ∷ pos 620077366807532 ∷ [];
    })

-- The lines of period 0.
abbrev pub lines_0 : List ReportLine
lines_0 =
    (TimeLine 0)
    ∷ (JunctionLine 0 (record { lo = pos 999999; hi = pos 1000000 }) (record {
      lo = pos 499999;
      hi = pos 500000;
    }) (record { lo = pos 7999999; hi = pos 8000001 }))
    ∷ (JunctionLine 1 (record { lo = pos 619999; hi = pos 620000 }) (record {
      lo = pos 219999;
      hi = pos 220000;
    }) (record { lo = pos 1999999; hi = pos 2000001 }))
    ∷ (ReservoirLine 0 (record { lo = pos 1000000; hi = pos 1000000 }))
    ∷ (TankLine 0 (record { lo = pos 620000; hi = pos 620000 }) (record {
      lo = pos 20000;
      hi = pos 20000;
    }) (record { lo = pos 7999996; hi = pos 8000005 }) Between)
    ∷ (LinkLine 0 (record { lo = pos 17999997; hi = pos 18000006 }) WordActive)
    ∷ (LinkLine 1 (record { lo = pos 9999999; hi = pos 10000001 }) WordActive)
    ∷ (LinkLine 2 (record { lo = pos 1999995; hi = pos 2000004 }) WordActive)
    ∷ []

-- The lines of period 1.
abbrev pub lines_1 : List ReportLine
lines_1 =
    (ReachedLine 11 0 0)
    ∷ []

-- The lines of period 2.
abbrev pub lines_2 : List ReportLine
lines_2 =
    (ControlLine 11 0 1 Closed)
    ∷ (RuleLine 14 0 1 (Limit (pos 300000000000) (pos 3000000000)))
    ∷ []

-- The lines of period 3.
abbrev pub lines_3 : List ReportLine
lines_3 = []

-- The lines of period 4.
abbrev pub lines_4 : List ReportLine
lines_4 =
    (TimeLine 16)
    ∷ (JunctionLine 0 (record { lo = pos 999999; hi = pos 1000000 }) (record {
      lo = pos 499999;
      hi = pos 500000;
    }) (record { lo = pos 7999999; hi = pos 8000001 }))
    ∷ (JunctionLine 1 (record { lo = pos 620077; hi = pos 620078 }) (record {
      lo = pos 220077;
      hi = pos 220078;
    }) (record { lo = pos 1999999; hi = pos 2000001 }))
    ∷ (ReservoirLine 0 (record { lo = pos 1000000; hi = pos 1000000 }))
    ∷ (TankLine 0 (record { lo = pos 620077; hi = pos 620078 }) (record {
      lo = pos 20077;
      hi = pos 20078;
    }) (record { lo = pos 999996; hi = pos 1000005 }) Between)
    ∷ (LinkLine 0 (record { lo = pos 10999997; hi = pos 11000006 }) WordActive)
    ∷ (LinkLine 1 (record { lo = pos 2999999; hi = pos 3000001 }) WordActive)
    ∷ (LinkLine 2 (record { lo = pos 1044979; hi = pos 2955019 }) WordActive)
    ∷ []

-- What is known of period 0.
abbrev pub found_0 : Found
found_0 = record { standing = standing_0; grid = grid_0; row = row_0; lines = lines_0; next = standing_1 }

-- What is known of period 1.
abbrev pub found_1 : Found
found_1 = record { standing = standing_1; grid = grid_1; row = row_1; lines = lines_1; next = standing_2 }

-- What is known of period 2.
abbrev pub found_2 : Found
found_2 = record { standing = standing_2; grid = grid_2; row = row_2; lines = lines_2; next = standing_3 }

-- What is known of period 3.
abbrev pub found_3 : Found
found_3 = record { standing = standing_3; grid = grid_3; row = row_3; lines = lines_3; next = standing_4 }

-- What is known of period 4.
abbrev pub found_4 : Found
found_4 = record { standing = standing_4; grid = grid_4; row = row_4; lines = lines_4; next = left }

-- All of them, in order.
abbrev pub founds : List Found
founds = found_0 ∷ found_1 ∷ found_2 ∷ found_3 ∷ found_4 ∷ []
