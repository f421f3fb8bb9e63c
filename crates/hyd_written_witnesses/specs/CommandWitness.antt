-- What `witness` does: what is said of what it was asked, of what the desk told before and tells now, and of how often
-- files were opened and created.
-- Source: this program's.
use Rattle.std.specs.Prelude.{◌≡◌, ◌≢◌, ℕ, ◌⊎◌, List, ⊤}
use Rattle.hyd_io.specs.declared.desk.Openings.{Openings}
use Rattle.hyd_io.specs.DeskBytes.{IsTold, file_at}
use Rattle.hyd_io.specs.DeskCounts.{with_opened}
use Rattle.hyd_net.specs.declared.refusal_cause.Cause.{Cause}
use Rattle.hyd_spec.specs.ProgramTypes.{Project}
use Rattle.hyd_spec_input.specs.Faults.{IsFault, HasNoFault}
use Rattle.hyd_command_words.specs.CommandGrammar.{WitnessOrder}
use Rattle.hyd_command_answers.specs.DeskContents.{Seen, IsUntouched, FilesStay, ChangesOnly}
use Rattle.hyd_command_answers.specs.FaultsAndRefusals.{PrintsRefusal, AnswersRefused}
use Rattle.hyd_command_answers.specs.declared.status.Status.{Status}
use Rattle.hyd_command_answers.specs.declared.status.Status.TheVariants.{Done, OutOfMemory, Usage, ReadFault, WriteFault}
use Rattle.hyd_command_answers.specs.declared.status.Status.TheVariants.{InputRefused, Undecided, RoundsSpent, Demand}
use Rattle.hyd_command_answers.specs.declared.status.Status.TheVariants.{CertificateRefused, Stalled}
use Rattle.hyd_written_witnesses.specs.WrittenPasses.{in_turn, OpensInTurn, OpensOnceMore}
use Rattle.hyd_written_witnesses.specs.WitnessAnswers.{AnswersSearch, AnswersWitnessSearch}

-- ---- what is opened and created

-- How often CERT is opened and OUT created once NET was read: in turn, once to three times, when all memory is taken that
-- the command needs. That none was found is said after three times alone.
abbrev pub OpensSearch : Status → Openings → Openings → Type 0
OpensSearch Done before now = OpensInTurn 3 before now
OpensSearch OutOfMemory before now = now ≡ before
OpensSearch Usage before now = ⊥
OpensSearch ReadFault before now = OpensOnceMore 3 before now ⊎ OpensInTurn 3 before now
OpensSearch WriteFault before now = OpensInTurn 3 before now
OpensSearch InputRefused before now = ⊥
OpensSearch Undecided before now = now ≡ in_turn 3 before
OpensSearch RoundsSpent before now = ⊥
OpensSearch Demand before now = ⊥
OpensSearch CertificateRefused before now = OpensInTurn 3 before now
OpensSearch Stalled before now = OpensInTurn 3 before now

-- How often NET, CERT and OUT are: NET once, so what can be read only once may be read whole, and CERT and OUT then as
-- above.
abbrev pub OpensForSearch : Status → Openings → Openings → Type 0
OpensForSearch Done before now = OpensInTurn 3 (with_opened before) now
OpensForSearch OutOfMemory before now = (now ≡ before) ⊎ (now ≡ with_opened before)
OpensForSearch Usage before now = ⊥
OpensForSearch ReadFault before now =
    (now ≡ with_opened before) ⊎ (OpensOnceMore 3 (with_opened before) now ⊎ OpensInTurn 3 (with_opened before) now)
OpensForSearch WriteFault before now = (now ≡ with_opened before) ⊎ OpensInTurn 3 (with_opened before) now
OpensForSearch InputRefused before now = now ≡ with_opened before
OpensForSearch Undecided before now = now ≡ in_turn 3 (with_opened before)
OpensForSearch RoundsSpent before now = ⊥
OpensForSearch Demand before now = ⊥
OpensForSearch CertificateRefused before now = OpensInTurn 3 (with_opened before) now
OpensForSearch Stalled before now = (now ≡ with_opened before) ⊎ OpensInTurn 3 (with_opened before) now

-- ---- what is left, also where the desk tells no text

-- Want of memory leaves all untouched; a refusal prints its one line and creates nothing.
abbrev pub LeavesSearch : Status → Seen → Seen → Type 0
LeavesSearch OutOfMemory before now = IsUntouched before now
LeavesSearch InputRefused before now = PrintsRefusal before now
LeavesSearch Usage before now = ⊥
LeavesSearch status before now = ⊤

-- The file of the name OUT holds what was written, at the end of a search and, where any file isn't as it was, after a
-- fault.
abbrev pub HoldsWitness : Status → List ℕ → Seen → Seen → Type 0
HoldsWitness Done out before now = file_at now.files out ≡ now.written
HoldsWitness Undecided out before now = file_at now.files out ≡ now.written
HoldsWitness CertificateRefused out before now = file_at now.files out ≡ now.written
HoldsWitness ReadFault out before now = FilesStay before now ⊎ (file_at now.files out ≡ now.written)
HoldsWitness WriteFault out before now = FilesStay before now ⊎ (file_at now.files out ≡ now.written)
HoldsWitness Stalled out before now = FilesStay before now ⊎ (file_at now.files out ≡ now.written)
HoldsWitness status out before now = ⊤

-- ---- the command

-- A witness of the text of CERT was sought for a network, and written to OUT.
pub record SearchesWitness (project : Project) (cert out : List ℕ) (status : Status) (before now : Seen)
    (opened opens : Openings) : Type 0 where
  pub answers : (certificate : List ℕ) → IsTold before.files cert certificate
      → AnswersSearch project certificate out status before now
  pub leaves : status ≡ OutOfMemory → IsUntouched before now
  pub holds : HoldsWitness status out before now
  pub others : ChangesOnly out before now
  pub opens_both : OpensSearch status opened opens

-- `witness`: a text of NET with a fault is refused with it, and no other; by its network a witness of the text of CERT
-- is sought; OUT holds what was written, also where a text isn't told; no other file is changed; NET is opened once, and
-- CERT and OUT in turn up to three times.
pub record DoesWitness (order : WitnessOrder) (status : Status) (before now : Seen) (opened opens : Openings)
    : Type 0 where
  pub refused : (text : List ℕ) (line : ℕ) (why : Cause) → IsTold before.files order.files.net text
      → IsFault text line why → AnswersRefused line why status before now
  pub searches : (text certificate : List ℕ) → IsTold before.files order.files.net text → HasNoFault text
      → IsTold before.files order.files.cert certificate
      → AnswersWitnessSearch text certificate order.out status before now
  pub not_refused : (text : List ℕ) → IsTold before.files order.files.net text → HasNoFault text
      → status ≢ InputRefused
  pub holds : HoldsWitness status order.out before now
  pub others : ChangesOnly order.out before now
  pub opens_in_turn : OpensForSearch status opened opens
