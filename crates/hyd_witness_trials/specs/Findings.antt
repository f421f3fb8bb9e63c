-- What is found of a witness.
-- Source: this program's.
use Rattle.std.specs.Prelude.{ℕ, List}
use Rattle.hyd_spec.specs.ProgramTypes.{Project}
use Rattle.hyd_spec_witness_answers.specs.PromisesOfWitnesses.{meets_line, unmet_line, bad_line, WitnessIsMet}
use Rattle.hyd_spec_witness_answers.specs.PromisesOfWitnesses.{WitnessIsUnmet, WitnessIsFaulty}
use Rattle.hyd_witness_trials.specs.declared.finding.Finding.{Finding}
use Rattle.hyd_witness_trials.specs.declared.finding.Finding.TheVariants.{Meets, Fails, BadLine}

-- The line that says it.
abbrev pub finding_line : Project → Finding → List ℕ
finding_line project (Meets periods) = meets_line periods
finding_line project (Fails period unmet) = unmet_line project period unmet
finding_line project (BadLine number) = bad_line number

-- It is so of a text, and its line says what is so: the periods are all met; or one of them isn't, and which clause
-- fails first; or a line can't be so.
abbrev pub IsFound : Project → List ℕ → Finding → Type 0
IsFound project witness (Meets periods) = WitnessIsMet project witness (meets_line periods)
IsFound project witness (Fails period unmet) =
    WitnessIsUnmet project witness (unmet_line project period unmet) unmet
IsFound project witness (BadLine number) = WitnessIsFaulty project witness (bad_line number) number
