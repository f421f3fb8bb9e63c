use Rattle.std.proofs.Common.{refl, pos, arith}
use Rattle.std.proofs.lemmas.Int.{ints}
use Rattle.hyd_cases_of_runs.specs.VillageRun.{standing_0, standing_1, standing_2, row_0, row_1}
use Rattle.hyd_cases_of_runs.proofs.NarrowRecords.{narrow}
use Rattle.hyd_cases_of_runs.proofs.run_ends.narrow.Goals as goal

pub returns-clause-widths : goal.returns-clause-widths
returns-clause-widths c = refl

pub returns-clause-first : goal.returns-clause-first
returns-clause-first c = narrow (pos 5946800) standing_0 row_0 standing_1 refl refl

pub returns-clause-first_wider : goal.returns-clause-first_wider
returns-clause-first_wider c = λ is. let l = is.levels 0 _ refl in omega (arith, ints, l)

pub returns-clause-second : goal.returns-clause-second
returns-clause-second c = narrow (pos 1) standing_1 row_1 standing_2 refl refl

pub returns-clause-second_wider : goal.returns-clause-second_wider
returns-clause-second_wider c = λ is. let l = is.heads 1 _ refl in omega (arith, ints, l)
