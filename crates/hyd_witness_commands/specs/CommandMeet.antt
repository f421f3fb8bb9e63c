-- What `meet` does: what is said of what it was asked, of what the desk told before and tells now, and of how often
-- files were opened and created.
-- Source: this program's.
use Rattle.std.specs.Prelude.{◌≡◌, ◌≢◌, ℕ, ◌⊎◌, List, ⊤}
use Rattle.hyd_io.specs.declared.desk.Openings.{Openings}
use Rattle.hyd_io.specs.DeskBytes.{IsTold}
use Rattle.hyd_io.specs.DeskCounts.{with_opened}
use Rattle.hyd_net.specs.declared.refusal_cause.Cause.{Cause}
use Rattle.hyd_spec.specs.ProgramTypes.{Project}
use Rattle.hyd_spec_input.specs.Faults.{IsFault, HasNoFault}
use Rattle.hyd_command_words.specs.CommandGrammar.{MeetOrder}
use Rattle.hyd_command_answers.specs.DeskContents.{Seen, IsUntouched, OnlyPrintedSome}
use Rattle.hyd_command_answers.specs.FaultsAndRefusals.{AnswersRefused}
use Rattle.hyd_command_answers.specs.declared.status.Status.{Status}
use Rattle.hyd_command_answers.specs.declared.status.Status.TheVariants.{Done, OutOfMemory, Usage, ReadFault, WriteFault}
use Rattle.hyd_command_answers.specs.declared.status.Status.TheVariants.{InputRefused, Undecided, RoundsSpent, Demand}
use Rattle.hyd_command_answers.specs.declared.status.Status.TheVariants.{CertificateRefused, Stalled}
use Rattle.hyd_witness_commands.specs.MeetAnswers.{AnswersMeet, AnswersWitness}

-- ---- once NET was read

-- How often FILE is opened: once, when all memory is taken that the command needs. Nothing is created.
abbrev pub OpensWitness : Status → Openings → Openings → Type 0
OpensWitness Done before now = now ≡ with_opened before
OpensWitness OutOfMemory before now = now ≡ before
OpensWitness Usage before now = ⊥
OpensWitness ReadFault before now = now ≡ with_opened before
OpensWitness WriteFault before now = now ≡ with_opened before
OpensWitness InputRefused before now = ⊥
OpensWitness Undecided before now = now ≡ with_opened before
OpensWitness RoundsSpent before now = ⊥
OpensWitness Demand before now = ⊥
OpensWitness CertificateRefused before now = now ≡ with_opened before
OpensWitness Stalled before now = now ≡ with_opened before

-- The others don't come once FILE was read.
abbrev pub IsAnswer : Status → Type 0
IsAnswer Done = ⊤
IsAnswer WriteFault = ⊤
IsAnswer Undecided = ⊤
IsAnswer CertificateRefused = ⊤
IsAnswer Stalled = ⊤
IsAnswer status = ⊥

-- What an answer leaves, also where the desk tells no text: want of memory and a fault of reading leave all untouched,
-- and every other answer leaves some text printed and nothing created or written.
abbrev pub LeavesWitness : Status → Seen → Seen → Type 0
LeavesWitness OutOfMemory before now = IsUntouched before now
LeavesWitness ReadFault before now = IsUntouched before now
LeavesWitness status before now = OnlyPrintedSome before now

-- FILE was tried against a network.
pub record TriesWitness (project : Project) (file : List ℕ) (status : Status) (before now : Seen)
    (opened opens : Openings) : Type 0 where
  pub answers : (witness : List ℕ) → IsTold before.files file witness
      → AnswersWitness project witness status before now
  pub leaves : LeavesWitness status before now
  pub opens_file : OpensWitness status opened opens

-- ---- all of it

-- How often NET and then FILE are opened: each once at most, so what can be read only once is read whole.
abbrev pub OpensBoth : Status → Openings → Openings → Type 0
OpensBoth Done before now = now ≡ with_opened (with_opened before)
OpensBoth OutOfMemory before now = (now ≡ before) ⊎ (now ≡ with_opened before)
OpensBoth Usage before now = ⊥
OpensBoth ReadFault before now = (now ≡ with_opened before) ⊎ (now ≡ with_opened (with_opened before))
OpensBoth WriteFault before now = (now ≡ with_opened before) ⊎ (now ≡ with_opened (with_opened before))
OpensBoth InputRefused before now = now ≡ with_opened before
OpensBoth Undecided before now = now ≡ with_opened (with_opened before)
OpensBoth RoundsSpent before now = ⊥
OpensBoth Demand before now = ⊥
OpensBoth CertificateRefused before now = now ≡ with_opened (with_opened before)
OpensBoth Stalled before now = (now ≡ with_opened before) ⊎ (now ≡ with_opened (with_opened before))

-- `meet`: a text of NET with a fault is refused with it, and no other; by its network the text of FILE is tried; nothing
-- is created or written; NET and FILE are opened once at most.
pub record DoesMeet (order : MeetOrder) (status : Status) (before now : Seen) (opened opens : Openings) : Type 0 where
  pub refused : (text : List ℕ) (line : ℕ) (why : Cause) → IsTold before.files order.net text
      → IsFault text line why → AnswersRefused line why status before now
  pub meets : (text witness : List ℕ) → IsTold before.files order.net text → HasNoFault text
      → IsTold before.files order.witness witness → AnswersMeet text witness status before now
  pub not_refused : (text : List ℕ) → IsTold before.files order.net text → HasNoFault text → status ≢ InputRefused
  pub only_prints : OnlyPrintedSome before now
  pub once : OpensBoth status opened opens
