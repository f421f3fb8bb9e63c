-- What passes over a certificate leave that write a witness, one or several.
-- Source: this program's.
use Rattle.std.specs.Prelude.{◌≡◌, ℕ, zero, suc, ◌<◌, ◌≤◌, ◌⊎◌, List, is_some, Result, Ok, Err, IfOk, IfErr, OnOk, ⊤}
use Rattle.hyd_io.specs.declared.desk.Faults.{Faults}
use Rattle.hyd_io.specs.declared.desk.Openings.{Openings}
use Rattle.hyd_io.specs.DeskBytes.{where_told, file_at, IsTold}
use Rattle.hyd_io.specs.DeskCounts.{with_opened, with_created}
use Rattle.hyd_spec.specs.ProgramTypes.{Project}
use Rattle.hyd_spec_witness_answers.specs.PromisesOfWitnesses.{IsWrittenScale}
use Rattle.hyd_command_answers.specs.DeskContents.{Seen, IsUntouched, ChangesOnly}
use Rattle.hyd_command_answers.specs.FaultsAndRefusals.{HasCause}
use Rattle.hyd_command_answers.specs.declared.status.Status.{Status}
use Rattle.hyd_command_answers.specs.declared.status.Status.TheVariants.{ReadFault, WriteFault, Stalled}
use Rattle.hyd_witness_stream.specs.RefusedCertificates.{BeginsWitness}
use Rattle.hyd_witness_stream.specs.declared.ending.Halt.TheVariants.{NoMoment}
use Rattle.hyd_witness_stream.specs.declared.ending.SearchEnd.{SearchEnd}

-- ---- files

-- A text of which this holds was written to a file created in this call, where files are told; the file of the name OUT
-- holds it. Nothing was printed.
pub record Writes (P : List ℕ → Type 0) (out : List ℕ) (before now : Seen) : Type 0 where
  pub witness : List ℕ
  pub holds : P witness
  pub written : now.written ≡ where_told before.files witness
  pub printed : now.printed ≡ before.printed
  pub held : file_at now.files out ≡ now.written

-- The text is a front of a witness at one of the two scales, or all of it.
pub record IsFrontOfWitness (project : Project) (text : List ℕ) : Type 0 where
  pub scale : ℕ
  pub is_scale : IsWrittenScale scale
  pub begins : BeginsWitness project scale text

-- ---- faults

-- The statuses of a fault.
abbrev pub IsFaultStatus : Status → Type 0
IsFaultStatus ReadFault = ⊤
IsFaultStatus WriteFault = ⊤
IsFaultStatus Stalled = ⊤
IsFaultStatus status = ⊥

-- ---- passes

-- What passes leave over the file CERT that write witnesses to OUT, of which the last one is left: at its end, where the
-- text of CERT is told, what holds of it and of the witness; and, told or not, all as it was, or a front of a witness in
-- OUT. No other file is changed. Where a fault broke them off, its count rose; else none did.
pub record Passed (project : Project) (cert out : List ℕ)
    (ends : (certificate : List ℕ) → SearchEnd → (witness : List ℕ) → Type 0) (result : Result SearchEnd Status)
    (before now : Seen) (start end : Faults) : Type 0 where
  pub ended : (certificate : List ℕ) → IsTold before.files cert certificate
      → IfOk result (λ halted. Writes (ends certificate halted) out before now)
  pub front : IsUntouched before now ⊎ Writes (IsFrontOfWitness project) out before now
  pub whole : OnOk result (Writes (IsFrontOfWitness project) out before now)
  pub others : ChangesOnly out before now
  pub still_told : is_some now.files ≡ is_some before.files
  pub fault : IfErr result IsFaultStatus
  pub cause : IfErr result (λ status. HasCause status start end)
  pub steady : OnOk result (end ≡ start)

-- ---- how often CERT is opened and OUT created

-- CERT was opened, and then OUT created, in turn so many times.
abbrev pub in_turn : ℕ → Openings → Openings
in_turn zero before = before
in_turn (suc times) before = in_turn times (with_created (with_opened before))

-- So many times, at least once and at most so often.
pub record OpensInTurn (most : ℕ) (before now : Openings) : Type 0 where
  pub times : ℕ
  pub at_least : 1 ≤ times
  pub at_most : times ≤ most
  pub is : now ≡ in_turn times before

-- So many times, and CERT was opened once more.
pub record OpensOnceMore (most : ℕ) (before now : Openings) : Type 0 where
  pub times : ℕ
  pub fewer : times < most
  pub is : now ≡ with_opened (in_turn times before)

-- How often in so many passes at most. Where a moment lacks at the end, none of them was left out.
abbrev pub OpensInPasses : ℕ → Result SearchEnd Status → Openings → Openings → Type 0
OpensInPasses most (Ok end) before now =
    OpensInTurn most before now × (end.halt ≡ NoMoment → now ≡ in_turn most before)
OpensInPasses most (Err ReadFault) before now = OpensOnceMore most before now ⊎ OpensInTurn most before now
OpensInPasses most (Err status) before now = OpensInTurn most before now
