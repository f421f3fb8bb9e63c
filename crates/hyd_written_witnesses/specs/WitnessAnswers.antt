-- What the answers of the command `witness` mean.
-- Source: this program's.
use Rattle.std.specs.Prelude.{◌≡◌, ℕ, ◌⊎◌, List, [], ◌++◌}
use Rattle.hyd_io.specs.DeskBytes.{where_told, append_known, file_at}
use Rattle.hyd_spec.specs.ProgramTypes.{Project}
use Rattle.hyd_spec_witness_answers.specs.PromisesOfWitnesses.{FindsWitness, FindsNoWitness}
use Rattle.hyd_command_answers.specs.DeskContents.{Seen, IsUntouched}
use Rattle.hyd_command_answers.specs.FaultsAndRefusals.{OfNetwork}
use Rattle.hyd_command_answers.specs.declared.status.Status.{Status}
use Rattle.hyd_command_answers.specs.declared.status.Status.TheVariants.{Done, OutOfMemory, ReadFault, WriteFault}
use Rattle.hyd_command_answers.specs.declared.status.Status.TheVariants.{Undecided, CertificateRefused, Stalled}
use Rattle.hyd_witness_stream.specs.RefusedCertificates.{RefusesCertificate}
use Rattle.hyd_witness_stream.specs.SearchEnds.{EndsSo, halt_line}
use Rattle.hyd_witness_stream.specs.declared.ending.SearchEnd.{SearchEnd}
use Rattle.hyd_written_witnesses.specs.Statuses.{status_of_halt}
use Rattle.hyd_written_witnesses.specs.WrittenPasses.{IsFrontOfWitness}

-- What is written and what is printed where the command comes to its end with a status, of a text of CERT: there is a
-- period for each of its records; or the middle candidate of the next record isn't met; or CERT is refused.
abbrev pub IsSearchText : Project → (certificate written : List ℕ) → Status → List ℕ → Type 0
IsSearchText project certificate written Done printed = FindsWitness project certificate written printed
IsSearchText project certificate written Undecided printed = FindsNoWitness project certificate written printed
IsSearchText project certificate written CertificateRefused printed =
    RefusesCertificate project certificate written printed
IsSearchText project certificate written status printed = ⊥

-- ---- the ends of passes

-- What holds at the end of a pass at a scale of the text of CERT and of what was written.
abbrev pub ends_at : Project → ℕ → (certificate : List ℕ) → SearchEnd → (written : List ℕ) → Type 0
ends_at project S certificate end written =
    EndsSo end.halt project S certificate written (halt_line project end.periods end.halt)

-- What holds of them where the line of the end is the answer.
abbrev pub ends_with_answer : Project → (certificate : List ℕ) → SearchEnd → (written : List ℕ) → Type 0
ends_with_answer project certificate end written =
    IsSearchText project certificate written (status_of_halt end.halt) (halt_line project end.periods end.halt)

-- ---- the answers

-- The search came to its end: its witness was written to the file created last, where files are told, and its line alone
-- was printed. The file of the name OUT holds what was written.
pub record DeliversWitness (project : Project) (certificate out : List ℕ) (status : Status) (before now : Seen)
    : Type 0 where
  pub witness : List ℕ
  pub line : List ℕ
  pub is : IsSearchText project certificate witness status line
  pub written : now.written ≡ where_told before.files witness
  pub printed : now.printed ≡ append_known before.printed line
  pub held : file_at now.files out ≡ now.written

-- What was written and printed where a fault broke the search off: a front of a witness, or all of it, and nothing; or
-- the witness of its end, and a front of the line.
pub data SearchBreaksOff (project : Project) (certificate written : List ℕ) : List ℕ → Type 0 where
  in_witness : IsFrontOfWitness project written → SearchBreaksOff project certificate written []
  in_line : (printed unprinted : List ℕ) (end : Status)
      → IsSearchText project certificate written end (printed ++ unprinted)
      → SearchBreaksOff project certificate written printed

-- A fault broke the search off. The file of the name OUT holds what was written.
pub record CutsWitnessShort (project : Project) (certificate out : List ℕ) (before now : Seen) : Type 0 where
  pub witness : List ℕ
  pub line : List ℕ
  pub is : SearchBreaksOff project certificate witness line
  pub written : now.written ≡ where_told before.files witness
  pub printed : now.printed ≡ append_known before.printed line
  pub held : file_at now.files out ≡ now.written

-- What an answer says of a text of CERT, for which a witness of a network is sought. Where CERT couldn't be opened or
-- OUT created the first time, all is as it was.
abbrev pub AnswersSearch : Project → (certificate out : List ℕ) → Status → Seen → Seen → Type 0
AnswersSearch project certificate out Done before now = DeliversWitness project certificate out Done before now
AnswersSearch project certificate out OutOfMemory before now = IsUntouched before now
AnswersSearch project certificate out ReadFault before now =
    IsUntouched before now ⊎ CutsWitnessShort project certificate out before now
AnswersSearch project certificate out WriteFault before now =
    IsUntouched before now ⊎ CutsWitnessShort project certificate out before now
AnswersSearch project certificate out Undecided before now =
    DeliversWitness project certificate out Undecided before now
AnswersSearch project certificate out CertificateRefused before now =
    DeliversWitness project certificate out CertificateRefused before now
AnswersSearch project certificate out Stalled before now =
    IsUntouched before now ⊎ CutsWitnessShort project certificate out before now
AnswersSearch project certificate out status before now = ⊥

-- What an answer says of a text of NET without a fault and a text of CERT: want of memory and a fault in the reading of
-- NET leave all untouched.
abbrev pub AnswersWitnessSearch : (text certificate out : List ℕ) → Status → Seen → Seen → Type 0
AnswersWitnessSearch text certificate out OutOfMemory before now = IsUntouched before now
AnswersWitnessSearch text certificate out ReadFault before now = IsUntouched before now
    ⊎ OfNetwork text (λ project. AnswersSearch project certificate out ReadFault before now)
AnswersWitnessSearch text certificate out status before now =
    OfNetwork text (λ project. AnswersSearch project certificate out status before now)
