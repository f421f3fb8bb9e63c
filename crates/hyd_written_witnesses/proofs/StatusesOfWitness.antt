-- What the statuses of the ends of a search mean.
use Rattle.std.proofs.Common.{◌≡◌, ◌≢◌, inl, ℕ, List, refl}
use Rattle.hyd_io.specs.declared.desk.Faults.{Faults}
use Rattle.hyd_io.specs.declared.output.OutFault.TheVariants.{Fault, Stalled as Stall}
use Rattle.hyd_spec.specs.ProgramTypes.{Project}
use Rattle.hyd_spec_witnesses.specs.MiddleCandidate.{halves}
use Rattle.hyd_command_answers.specs.FaultsAndRefusals.{HasCause}
use Rattle.hyd_command_answers.specs.declared.status.Status.TheVariants.{OutOfMemory}
use Rattle.hyd_witness_stream.specs.SearchEnds.{EndsSo}
use Rattle.hyd_witness_stream.specs.WitnessPen.{Rose}
use Rattle.hyd_witness_stream.specs.declared.ending.Halt.{Halt}
use Rattle.hyd_witness_stream.specs.declared.ending.Halt.TheVariants.{Accepted, NoMoment, Refused, RefusedPart, OtherEnd}
use Rattle.hyd_witness_stream.specs.declared.ending.Halt.TheVariants.{Grammar, Counts}
use Rattle.hyd_witness_stream.specs.declared.ending.SearchFault.{SearchFault}
use Rattle.hyd_witness_stream.specs.declared.ending.SearchFault.TheVariants.{Read, Output}
use Rattle.hyd_written_witnesses.specs.Statuses.{status_of_halt, status_of_search_fault}
use Rattle.hyd_written_witnesses.specs.WrittenPasses.{IsFaultStatus}
use Rattle.hyd_written_witnesses.specs.WitnessAnswers.{IsSearchText}

-- ---- the end of a search

pub halt_cause : (halt : Halt) (before now : Faults) → now ≡ before → HasCause (status_of_halt halt) before now
halt_cause Accepted before now e = e
halt_cause NoMoment before now e = e
halt_cause (Refused cause) before now e = e
halt_cause (RefusedPart period cause) before now e = e
halt_cause (OtherEnd number) before now e = e
halt_cause (Grammar number) before now e = e
halt_cause (Counts number) before now e = e

pub halt_has_memory : (halt : Halt) → status_of_halt halt ≢ OutOfMemory
halt_has_memory Accepted = λ e. cc
halt_has_memory NoMoment = λ e. cc
halt_has_memory (Refused cause) = λ e. cc
halt_has_memory (RefusedPart period cause) = λ e. cc
halt_has_memory (OtherEnd number) = λ e. cc
halt_has_memory (Grammar number) = λ e. cc
halt_has_memory (Counts number) = λ e. cc

module _ (project : Project) (certificate written line : List ℕ) where
  -- in halves of ticks the end is the answer
  pub answers_in_halves : (halt : Halt) → EndsSo halt project halves certificate written line
      → IsSearchText project certificate written (status_of_halt halt) line
  answers_in_halves Accepted h = h
  answers_in_halves NoMoment h = h.1 refl
  answers_in_halves (Refused cause) h = h
  answers_in_halves (RefusedPart period cause) h = h
  answers_in_halves (OtherEnd number) h = h
  answers_in_halves (Grammar number) h = h
  answers_in_halves (Counts number) h = h

  -- at any scale it is where no moment lacks
  pub answers_where_none_lacks : (S : ℕ) (halt : Halt) → halt ≢ NoMoment → EndsSo halt project S certificate written line
      → IsSearchText project certificate written (status_of_halt halt) line
  answers_where_none_lacks S Accepted none h = h
  answers_where_none_lacks S NoMoment none h = absurd (none refl)
  answers_where_none_lacks S (Refused cause) none h = h
  answers_where_none_lacks S (RefusedPart period cause) none h = h
  answers_where_none_lacks S (OtherEnd number) none h = h
  answers_where_none_lacks S (Grammar number) none h = h
  answers_where_none_lacks S (Counts number) none h = h

-- ---- a search that was broken off

pub is_fault_status : (fault : SearchFault) → IsFaultStatus (status_of_search_fault fault)
is_fault_status Read = tt
is_fault_status (Output Fault) = tt
is_fault_status (Output Stall) = tt

pub fault_cause : (fault : SearchFault) (before now : Faults) → Rose fault before now
    → HasCause (status_of_search_fault fault) before now
fault_cause Read before now e = e
fault_cause (Output Fault) before now e = inl e
fault_cause (Output Stall) before now e = e
