-- How the command `witness` ends with the end of a search.
-- Source: this program's.
use Rattle.std.specs.Prelude.{◌≡◌, ℕ, List}
use Rattle.hyd_io.specs.declared.output.OutFault.{OutFault}
use Rattle.hyd_command_answers.specs.DeskContents.{Seen, OnlyPrinted, OnlyPrintedFront}
use Rattle.hyd_command_answers.specs.FaultsAndRefusals.{status_of_fault}
use Rattle.hyd_command_answers.specs.declared.status.Status.{Status}
use Rattle.hyd_command_answers.specs.declared.status.Status.TheVariants.{Done, Undecided, CertificateRefused, ReadFault}
use Rattle.hyd_witness_stream.specs.declared.ending.Halt.{Halt}
use Rattle.hyd_witness_stream.specs.declared.ending.Halt.TheVariants.{Accepted, NoMoment, Refused, RefusedPart, OtherEnd}
use Rattle.hyd_witness_stream.specs.declared.ending.Halt.TheVariants.{Grammar, Counts}
use Rattle.hyd_witness_stream.specs.declared.ending.SearchEnd.{SearchEnd}
use Rattle.hyd_witness_stream.specs.declared.ending.SearchFault.{SearchFault}
use Rattle.hyd_witness_stream.specs.declared.ending.SearchFault.TheVariants.{Read, Output}

-- Where its line is printed.
abbrev pub status_of_halt : Halt → Status
status_of_halt Accepted = Done
status_of_halt NoMoment = Undecided
status_of_halt (Refused cause) = CertificateRefused
status_of_halt (RefusedPart period cause) = CertificateRefused
status_of_halt (OtherEnd number) = CertificateRefused
status_of_halt (Grammar number) = CertificateRefused
status_of_halt (Counts number) = CertificateRefused

-- Where it was broken off.
abbrev pub status_of_search_fault : SearchFault → Status
status_of_search_fault Read = ReadFault
status_of_search_fault (Output fault) = status_of_fault fault

-- What the answer leaves once a search ended so: its line alone was printed; or a fault broke the line off.
pub data SaysHalt (end : SearchEnd) (status : Status) (line : List ℕ) (before now : Seen) : Type 0 where
  said : status ≡ status_of_halt end.halt → OnlyPrinted line before now → SaysHalt end status line before now
  cut_off : (fault : OutFault) → status ≡ status_of_fault fault → OnlyPrintedFront line before now
      → SaysHalt end status line before now
