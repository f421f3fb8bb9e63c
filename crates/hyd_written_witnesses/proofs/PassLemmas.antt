-- What one pass leaves.
use Rattle.std.proofs.Common.{◌≡◌, ◌≢◌, ◌∙◌, inl, inr, ℕ, List, [], Option, ap}
use Rattle.std.proofs.Common.{is_some}
use Rattle.std.specs.Prelude.{Ok, Err}
use Rattle.hyd_io.specs.declared.desk.Faults.{Faults}
use Rattle.hyd_io.specs.DeskBytes.{Files, IsTold, where_told, file_at, content_of}
use Rattle.hyd_spec.specs.ProgramTypes.{Project}
use Rattle.hyd_spec_witness_answers.specs.PromisesOfWitnesses.{IsWrittenScale}
use Rattle.hyd_run.specs.Pens.{Told}
use Rattle.hyd_command_answers.specs.DeskContents.{Seen, IsUntouched}
use Rattle.hyd_command_answers.specs.FaultsAndRefusals.{HasCause}
use Rattle.hyd_command_answers.specs.declared.status.Status.{Status}
use Rattle.hyd_command_answers.proofs.AnswerLemmas.{new_text, new_file, other_target}
use Rattle.hyd_witness_stream.specs.RefusedCertificates.{BeginsWitness}
use Rattle.hyd_witness_stream.specs.WitnessPen.{IsWritten, LeavesOthers}
use Rattle.hyd_witness_stream.specs.declared.ending.SearchEnd.{SearchEnd}
use Rattle.hyd_written_witnesses.specs.WrittenPasses.{Passed, Writes, IsFrontOfWitness, IsFaultStatus}

-- what a call can change, of all that a desk tells
abbrev pub seen_of : Told → Seen
seen_of told = record { files = told.files; written = told.written; printed = told.printed }

-- a front at one of the two scales
pub front_at : (project : Project) (S : ℕ) (before now : Option (List ℕ)) → IsWrittenScale S
    → IsWritten (BeginsWitness project S) before now → IsWritten (IsFrontOfWitness project) before now
front_at project S before now is_scale w = record {
  text = w.text;
  holds = record { scale = S; is_scale = is_scale; begins = w.holds };
  written = w.written;
}

-- ---- CERT couldn't be opened, or OUT created

pub nothing_passed : (project : Project) (cert out : List ℕ) (ends : List ℕ → SearchEnd → List ℕ → Type 0)
    (status : Status) (before now : Seen) (start end : Faults) → IsUntouched before now → IsFaultStatus status
    → HasCause status start end → Passed project cert out ends (Err status) before now start end
nothing_passed project cert out ends status before now start end u is cause = record {
  ended = λ certificate told. tt;
  front = inl u;
  whole = tt;
  others = λ other differs. ap (λ (files : Option Files). file_at files other) u.files;
  still_told = ap (λ (files : Option Files). is_some files) u.files;
  fault = is;
  cause = cause;
  steady = tt;
}

-- ---- OUT was created, and the search wrote to it

-- What is known of a desk when OUT was created.
pub record IsCreated (out : List ℕ) (before : Seen) (created : Told) : Type 0 where
  pub begun : created.written ≡ where_told before.files []
  pub printed : created.printed ≡ before.printed
  pub target : created.target ≡ where_told before.files out
  pub told : is_some created.files ≡ is_some before.files
  pub others : (other : List ℕ) → other ≢ out → file_at created.files other ≡ file_at before.files other

-- CERT was opened and OUT created, and no call failed
pub created_so : (out : List ℕ) (start opened created : Told) → opened.files ≡ start.files
    → opened.printed ≡ start.printed → created.written ≡ where_told opened.files []
    → created.target ≡ where_told opened.files out → created.printed ≡ opened.printed
    → is_some created.files ≡ is_some opened.files
    → ((other : List ℕ) → other ≢ out → file_at created.files other ≡ file_at opened.files other)
    → IsCreated out (seen_of start) created
created_so out start opened created files printed begun target printed_still told others = record {
  begun = begun ∙ ap (λ (was : Option Files). where_told was []) files;
  printed = printed_still ∙ printed;
  target = target ∙ ap (λ (was : Option Files). where_told was out) files;
  told = told ∙ ap (λ (was : Option Files). is_some was) files;
  others = λ other differs. others other differs ∙ ap (λ (was : Option Files). file_at was other) files;
}

module _ (project : Project) (cert out : List ℕ) (ends : List ℕ → SearchEnd → List ℕ → Type 0) (before : Seen)
    (created after : Told) (start stop : Faults) (is : IsCreated out before created)
    (leaves : LeavesOthers created after) (content : after.written ≡ content_of after.files after.target)
    (front : IsWritten (IsFrontOfWitness project) created.written after.written) where
  writes : (P : List ℕ → Type 0) → IsWritten P created.written after.written → Writes P out before (seen_of after)
  writes P w = record {
    witness = w.text;
    holds = w.holds;
    written = new_text before.files created.written after.written w.text is.begun w.written;
    printed = leaves.printed_stays ∙ is.printed;
    held = new_file before.files after.files after.target after.written out (leaves.target_stays ∙ is.target)
        (leaves.still_told ∙ is.told) content;
  }

  others : (other : List ℕ) → other ≢ out → file_at after.files other ≡ file_at before.files other
  others other differs = leaves.others other (other_target before.files created.target out other is.target differs)
      ∙ is.others other differs

  pub pass_ended : (end : SearchEnd) → ((certificate : List ℕ) → IsTold before.files cert certificate
      → IsWritten (ends certificate end) created.written after.written) → stop ≡ start
      → Passed project cert out ends (Ok end) before (seen_of after) start stop
  pass_ended end ended steady = record {
    ended = λ certificate told. writes (ends certificate end) (ended certificate told);
    front = inr (writes (IsFrontOfWitness project) front);
    whole = writes (IsFrontOfWitness project) front;
    others = others;
    still_told = leaves.still_told ∙ is.told;
    fault = tt;
    cause = tt;
    steady = steady;
  }

  pub pass_broken_off : (status : Status) → IsFaultStatus status → HasCause status start stop
      → Passed project cert out ends (Err status) before (seen_of after) start stop
  pass_broken_off status is_fault cause = record {
    ended = λ certificate told. tt;
    front = inr (writes (IsFrontOfWitness project) front);
    whole = tt;
    others = others;
    still_told = leaves.still_told ∙ is.told;
    fault = is_fault;
    cause = cause;
    steady = tt;
  }
