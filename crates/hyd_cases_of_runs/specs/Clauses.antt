-- What examples of clauses speak of: the truth of a clause in the hamlet and in the town, and intervals about the
-- numbers that clauses compare with.
use Rattle.std.specs.Prelude.{ℕ, pos, List, [], ◌∷◌}
use Rattle.std.proofs.Common.{lit≤}
use Rattle.hyd_spec.specs.ProgramTypes.{Project, What, Relation, Value, Amount}
use Rattle.hyd_spec_certificates.specs.declared.Verdict.{Verdict}
use Rattle.hyd_spec_certificates.specs.Decided.{clause_truth}
use Rattle.hyd_spec_certificates.specs.Interval.{Interval}
use Rattle.hyd_spec_certificates.specs.RecordAndStanding.{Record, Standing}
use Rattle.hyd_cases_of_runs.specs.TwoTankTown.{compared}
use Rattle.hyd_cases_of_runs.specs.TwoTankTownPeriods.{standing_at_two, grid_at_two, grid_when_full, row_at_two}
use Rattle.hyd_cases_of_runs.specs.TwoTankTownPeriods.{row_when_full}
use Rattle.hyd_cases_of_runs.specs.Hamlet.{standing_at_start, grid_at_start, row_at_start}

-- ---- the hamlet

-- A clause after six minutes.
abbrev pub hamlet_truth : Project → Standing → Record → What → Relation → Value → Verdict
hamlet_truth project standing row what relation value =
    clause_truth project grid_at_start standing row 360 (compared what relation value)

-- Its first period with other heads of the junction, and with other levels of the tank.
abbrev pub hamlet_row : Interval → Record
hamlet_row head = record row_at_start { main = record { upper = head.hi ∷ []; lower = head.lo ∷ [] } }

abbrev pub hamlet_standing : Interval → Standing
hamlet_standing level = record standing_at_start { levels = level ∷ [] }

-- Heads of the junction about 12.9 and 12.999 pounds a square inch above its elevation.
abbrev pub heads_about_12_9 : List Interval
heads_about_12_9 =
    record { lo = pos 395543595661203; hi = pos 395543595661204 }
    ∷ record { lo = pos 395543595661204; hi = pos 395543595661204 }
    ∷ record { lo = pos 395543595661204; hi = pos 395543595661205 }
    ∷ record { lo = pos 395543595661205; hi = pos 395543595661205 }
    ∷ record { lo = pos 395543595661205; hi = pos 395543595661206 } ∷ []

abbrev pub heads_about_12_999 : List Interval
heads_about_12_999 =
    record { lo = pos 396239999999999; hi = pos 396239999999999 }
    ∷ record { lo = pos 396239999999999; hi = pos 396240000000000 }
    ∷ record { lo = pos 396240000000000; hi = pos 396240000000000 }
    ∷ record { lo = pos 396240000000000; hi = pos 396240000000001 }
    ∷ record { lo = pos 396239999999999; hi = pos 396240000000001 }
    ∷ record { lo = pos 396240000000001; hi = pos 396240000000001 } ∷ []

-- Levels of the tank that six minutes later are about 4.3 and 4.333 pounds a square inch.
abbrev pub levels_about_4_3 : List Interval
levels_about_4_3 =
    record { lo = pos 30170045602735; hi = pos 30170046314785 }
    ∷ record { lo = pos 30170045602735; hi = pos 30170046314786 }
    ∷ record { lo = pos 30170045602735; hi = pos 30170046314787 }
    ∷ record { lo = pos 30170046602735; hi = pos 30170047314786 }
    ∷ record { lo = pos 30170046602736; hi = pos 30170047314787 }
    ∷ record { lo = pos 30170046602737; hi = pos 30170047314787 }
    ∷ record { lo = pos 30170045602735; hi = pos 30170047314787 } ∷ []

abbrev pub levels_about_4_333 : List Interval
levels_about_4_333 =
    record { lo = pos 30402180382334; hi = pos 30402181094384 }
    ∷ record { lo = pos 30402180382334; hi = pos 30402181094385 }
    ∷ record { lo = pos 30402180382334; hi = pos 30402182094385 }
    ∷ record { lo = pos 30402181382334; hi = pos 30402182094385 }
    ∷ record { lo = pos 30402181382335; hi = pos 30402182094385 } ∷ []

-- ---- the town

-- A clause a minute after 2:00, and one some seconds after a standing, with the flows of the period after that.
abbrev pub truth_at_two : Project → Standing → Record → What → Relation → Value → Verdict
truth_at_two project standing row what relation value =
    clause_truth project grid_at_two standing row 60 (compared what relation value)

abbrev pub town_truth : Project → Standing → ℕ → What → Relation → Value → Verdict
town_truth project standing seconds what relation value =
    clause_truth project grid_when_full standing row_when_full seconds (compared what relation value)

-- Its period from 2:00 on with other heads of the first junction, and with other levels of the upper tank.
abbrev pub town_row : Interval → Record
town_row head = record row_at_two {
  main = record { upper = head.hi ∷ pos 215076813815139 ∷ []; lower = head.lo ∷ pos 215076805275904 ∷ [] };
}

abbrev pub town_standing : Interval → Standing
town_standing level = record standing_at_two {
  levels = level ∷ record {
    lo = pos 15076805853966;
    hi = pos 15076814393200;
  } ∷ [];
}

-- 34.9923185 and 4.9965 m.
abbrev pub metres_34_9923185 : Value
metres_34_9923185 = Amount (record { lo = pos 349923185000000; hi = pos 349923185000000; ordered = record { le = tt } })
    (record { nano = pos 34992318500; bounded = lit≤ tt })

abbrev pub metres_4_9965 : Value
metres_4_9965 = Amount (record { lo = pos 49965000000000; hi = pos 49965000000000; ordered = record { le = tt } })
    (record { nano = pos 4996500000; bounded = lit≤ tt })

-- Heads of the first junction about 34.9923185 m above its elevation, and levels of the upper tank that a minute later
-- are about 4.9965 m.
abbrev pub heads_about_34_9923185 : List Interval
heads_about_34_9923185 =
    record { lo = pos 449923184999999; hi = pos 449923184999999 }
    ∷ record { lo = pos 449923184999999; hi = pos 449923185000000 }
    ∷ record { lo = pos 449923185000000; hi = pos 449923185000000 }
    ∷ record { lo = pos 449923185000000; hi = pos 449923185000001 }
    ∷ record { lo = pos 449923184999999; hi = pos 449923185000001 }
    ∷ record { lo = pos 449923185000001; hi = pos 449923185000001 } ∷ []

abbrev pub levels_about_4_9965 : List Interval
levels_about_4_9965 =
    record { lo = pos 49923972458255; hi = pos 49923973386916 }
    ∷ record { lo = pos 49923972458255; hi = pos 49923973386917 }
    ∷ record { lo = pos 49923972458255; hi = pos 49923974386917 }
    ∷ record { lo = pos 49923973458255; hi = pos 49923974386917 }
    ∷ record { lo = pos 49923973458256; hi = pos 49923974386917 } ∷ []
