-- What the answer of a search leaves, once a network was read.
use Rattle.std.proofs.Common.{◌≡◌, ◌≢◌, ◌∙◌, ◌⊎◌, inl, inr, ℕ, List, [], Option, ap, sym, subst, refl}
use Rattle.std.proofs.Common.{append-nil}
use Rattle.std.specs.Prelude.{Some, None, Ok, Err}
use Rattle.hyd_io.specs.declared.desk.Faults.{Faults}
use Rattle.hyd_io.specs.declared.desk.Openings.{Openings}
use Rattle.hyd_io.specs.declared.output.OutFault.{OutFault}
use Rattle.hyd_io.specs.declared.output.OutFault.TheVariants.{Fault, Stalled as Stall}
use Rattle.hyd_io.specs.DeskBytes.{Files, append_known, file_at}
use Rattle.hyd_spec.specs.ProgramTypes.{Project}
use Rattle.hyd_command_answers.specs.DeskContents.{Seen, IsUntouched, FilesStay, OnlyPrinted, OnlyPrintedFront}
use Rattle.hyd_command_answers.specs.DeskContents.{ChangesOnly}
use Rattle.hyd_command_answers.specs.FaultsAndRefusals.{HasCause, status_of_fault}
use Rattle.hyd_command_answers.specs.declared.status.Status.{Status}
use Rattle.hyd_command_answers.specs.declared.status.Status.TheVariants.{Done, OutOfMemory, Usage, ReadFault, WriteFault}
use Rattle.hyd_command_answers.specs.declared.status.Status.TheVariants.{InputRefused, Undecided, RoundsSpent, Demand}
use Rattle.hyd_command_answers.specs.declared.status.Status.TheVariants.{CertificateRefused, Stalled}
use Rattle.hyd_target_commands.proofs.StatusesOfTargets.{untouched}
use Rattle.hyd_witness_stream.specs.SearchEnds.{halt_line}
use Rattle.hyd_witness_stream.specs.declared.ending.Halt.{Halt}
use Rattle.hyd_witness_stream.specs.declared.ending.Halt.TheVariants.{Accepted, NoMoment, Refused, RefusedPart, OtherEnd}
use Rattle.hyd_witness_stream.specs.declared.ending.Halt.TheVariants.{Grammar, Counts}
use Rattle.hyd_witness_stream.specs.declared.ending.SearchEnd.{SearchEnd}
use Rattle.hyd_written_witnesses.specs.Statuses.{status_of_halt, SaysHalt, said, cut_off}
use Rattle.hyd_written_witnesses.specs.WrittenPasses.{Passed, Writes, IsFrontOfWitness, IsFaultStatus, in_turn}
use Rattle.hyd_written_witnesses.specs.WrittenPasses.{OpensInTurn, OpensInPasses}
use Rattle.hyd_written_witnesses.specs.WitnessAnswers.{IsSearchText, ends_with_answer, DeliversWitness, AnswersSearch}
use Rattle.hyd_written_witnesses.specs.WitnessAnswers.{CutsWitnessShort, in_witness, in_line}
use Rattle.hyd_written_witnesses.specs.CommandWitness.{SearchesWitness, OpensSearch, HoldsWitness}
use Rattle.hyd_written_witnesses.proofs.StatusesOfWitness.{halt_has_memory}

append_nothing : (printed : Option (List ℕ)) → printed ≡ append_known printed []
append_nothing None = refl
append_nothing (Some known) = ap Some (sym (append-nil known))

-- ---- by the status

delivers : (project : Project) (certificate out : List ℕ) (halt : Halt) (before now : Seen)
    → DeliversWitness project certificate out (status_of_halt halt) before now
    → AnswersSearch project certificate out (status_of_halt halt) before now
delivers project certificate out Accepted before now h = h
delivers project certificate out NoMoment before now h = h
delivers project certificate out (Refused cause) before now h = h
delivers project certificate out (RefusedPart period cause) before now h = h
delivers project certificate out (OtherEnd number) before now h = h
delivers project certificate out (Grammar number) before now h = h
delivers project certificate out (Counts number) before now h = h

halt_holds : (halt : Halt) (out : List ℕ) (before now : Seen) → file_at now.files out ≡ now.written
    → HoldsWitness (status_of_halt halt) out before now
halt_holds Accepted out before now h = h
halt_holds NoMoment out before now h = h
halt_holds (Refused cause) out before now h = h
halt_holds (RefusedPart period cause) out before now h = h
halt_holds (OtherEnd number) out before now h = h
halt_holds (Grammar number) out before now h = h
halt_holds (Counts number) out before now h = h

halt_opens : (halt : Halt) (before now : Openings) → OpensInTurn 3 before now
    → (halt ≡ NoMoment → now ≡ in_turn 3 before) → OpensSearch (status_of_halt halt) before now
halt_opens Accepted before now t all = t
halt_opens NoMoment before now t all = all refl
halt_opens (Refused cause) before now t all = t
halt_opens (RefusedPart period cause) before now t all = t
halt_opens (OtherEnd number) before now t all = t
halt_opens (Grammar number) before now t all = t
halt_opens (Counts number) before now t all = t

cuts_short : (project : Project) (certificate out : List ℕ) (fault : OutFault) (before now : Seen)
    → CutsWitnessShort project certificate out before now
    → AnswersSearch project certificate out (status_of_fault fault) before now
cuts_short project certificate out Fault before now h = inr h
cuts_short project certificate out Stall before now h = inr h

cut_holds : (fault : OutFault) (out : List ℕ) (before now : Seen) → file_at now.files out ≡ now.written
    → HoldsWitness (status_of_fault fault) out before now
cut_holds Fault out before now h = inr h
cut_holds Stall out before now h = inr h

cut_opens : (fault : OutFault) (before now : Openings) → OpensInTurn 3 before now
    → OpensSearch (status_of_fault fault) before now
cut_opens Fault before now t = t
cut_opens Stall before now t = t

cut_has_memory : (fault : OutFault) → status_of_fault fault ≢ OutOfMemory
cut_has_memory Fault = λ e. cc
cut_has_memory Stall = λ e. cc

-- ---- the passes came to an end, and its line was printed or broken off

module _ (project : Project) (cert out : List ℕ) (end : SearchEnd) (before between : Seen) (start middle : Faults)
    (passed : Passed project cert out (ends_with_answer project) (Ok end) before between start middle)
    (opened opens : Openings) (o : OpensInPasses 3 (Ok end) opened opens) where
  -- files are as they were left, and so is what was written
  held_still : (now : Seen) → now.files ≡ between.files → now.written ≡ between.written
      → file_at now.files out ≡ now.written
  held_still now f w = ap (λ (files : Option Files). file_at files out) f ∙ (passed.whole.held ∙ sym w)

  others_still : (now : Seen) → now.files ≡ between.files → ChangesOnly out before now
  others_still now f = λ other differs.
      ap (λ (files : Option Files). file_at files other) f ∙ passed.others other differs

  printed_since : (now : Seen) (text : List ℕ) → now.printed ≡ append_known between.printed text
      → now.printed ≡ append_known before.printed text
  printed_since now text p = subst (λ (was : Option (List ℕ)). now.printed ≡ append_known was text)
      passed.whole.printed p

  said_so : (now : Seen) → OnlyPrinted (halt_line project end.periods end.halt) between now
      → SearchesWitness project cert out (status_of_halt end.halt) before now opened opens
  said_so now only = record {
    answers = λ certificate told. delivers project certificate out end.halt before now (record {
      witness = (passed.ended certificate told).witness;
      line = halt_line project end.periods end.halt;
      is = (passed.ended certificate told).holds;
      written = only.written ∙ (passed.ended certificate told).written;
      printed = printed_since now (halt_line project end.periods end.halt) only.printed;
      held = held_still now only.files only.written;
    });
    leaves = λ e. absurd (halt_has_memory end.halt e);
    holds = halt_holds end.halt out before now (held_still now only.files only.written);
    others = others_still now only.files;
    opens_both = halt_opens end.halt opened opens o.0 o.1;
  }

  broken_so : (now : Seen) (fault : OutFault) → OnlyPrintedFront (halt_line project end.periods end.halt) between now
      → SearchesWitness project cert out (status_of_fault fault) before now opened opens
  broken_so now fault only = record {
    answers = λ certificate told. cuts_short project certificate out fault before now (record {
      witness = (passed.ended certificate told).witness;
      line = only.printed.1.front;
      is = in_line only.printed.1.front only.printed.0 (status_of_halt end.halt)
          (subst (IsSearchText project certificate (passed.ended certificate told).witness (status_of_halt end.halt))
          only.printed.1.whole (passed.ended certificate told).holds);
      written = only.written ∙ (passed.ended certificate told).written;
      printed = printed_since now only.printed.1.front only.printed.1.out;
      held = held_still now only.files only.written;
    });
    leaves = λ e. absurd (cut_has_memory fault e);
    holds = cut_holds fault out before now (held_still now only.files only.written);
    others = others_still now only.files;
    opens_both = cut_opens fault opened opens o.0;
  }

  pub end_answered : (status : Status) (now : Seen)
      → SaysHalt end status (halt_line project end.periods end.halt) between now
      → SearchesWitness project cert out status before now opened opens
  end_answered status now (said is only) =
      subst (λ (s : Status). SearchesWitness project cert out s before now opened opens) (sym is) (said_so now only)
  end_answered status now (cut_off fault is only) =
      subst (λ (s : Status). SearchesWitness project cert out s before now opened opens) (sym is)
      (broken_so now fault only)

-- ---- a fault broke the passes off

module _ (project : Project) (cert out : List ℕ) (before now : Seen) (start stop : Faults) (opened opens : Openings) where
  module _ (front : IsUntouched before now ⊎ Writes (IsFrontOfWitness project) out before now) where
    abbrev left_of : List ℕ → Type 0
    left_of certificate = IsUntouched before now ⊎ CutsWitnessShort project certificate out before now

    left_so : (certificate : List ℕ) → left_of certificate
    left_so certificate = go front
      where
        go : IsUntouched before now ⊎ Writes (IsFrontOfWitness project) out before now → left_of certificate
        go (inl u) = inl u
        go (inr w) = inr (record {
          witness = w.witness;
          line = [];
          is = in_witness w.holds;
          written = w.written;
          printed = w.printed ∙ append_nothing before.printed;
          held = w.held;
        })

    held_so : FilesStay before now ⊎ (file_at now.files out ≡ now.written)
    held_so = go front
      where
        go : IsUntouched before now ⊎ Writes (IsFrontOfWitness project) out before now
            → FilesStay before now ⊎ (file_at now.files out ≡ now.written)
        go (inl u) = inl (record { files = u.files; written = u.written })
        go (inr w) = inr w.held

  answers_broken : (status : Status) → IsFaultStatus status
      → IsUntouched before now ⊎ Writes (IsFrontOfWitness project) out before now → (certificate : List ℕ)
      → AnswersSearch project certificate out status before now
  answers_broken Done is front certificate = absurd is
  answers_broken OutOfMemory is front certificate = absurd is
  answers_broken Usage is front certificate = absurd is
  answers_broken ReadFault is front certificate = left_so front certificate
  answers_broken WriteFault is front certificate = left_so front certificate
  answers_broken InputRefused is front certificate = absurd is
  answers_broken Undecided is front certificate = absurd is
  answers_broken RoundsSpent is front certificate = absurd is
  answers_broken Demand is front certificate = absurd is
  answers_broken CertificateRefused is front certificate = absurd is
  answers_broken Stalled is front certificate = left_so front certificate

  holds_broken : (status : Status) → IsFaultStatus status
      → IsUntouched before now ⊎ Writes (IsFrontOfWitness project) out before now → HoldsWitness status out before now
  holds_broken Done is front = absurd is
  holds_broken OutOfMemory is front = absurd is
  holds_broken Usage is front = absurd is
  holds_broken ReadFault is front = held_so front
  holds_broken WriteFault is front = held_so front
  holds_broken InputRefused is front = absurd is
  holds_broken Undecided is front = absurd is
  holds_broken RoundsSpent is front = absurd is
  holds_broken Demand is front = absurd is
  holds_broken CertificateRefused is front = absurd is
  holds_broken Stalled is front = held_so front

  opens_broken : (status : Status) → IsFaultStatus status → OpensInPasses 3 (Err status) opened opens
      → OpensSearch status opened opens
  opens_broken Done is o = absurd is
  opens_broken OutOfMemory is o = absurd is
  opens_broken Usage is o = absurd is
  opens_broken ReadFault is o = o
  opens_broken WriteFault is o = o
  opens_broken InputRefused is o = absurd is
  opens_broken Undecided is o = absurd is
  opens_broken RoundsSpent is o = absurd is
  opens_broken Demand is o = absurd is
  opens_broken CertificateRefused is o = absurd is
  opens_broken Stalled is o = o

  pub fault_answered : (status : Status)
      → Passed project cert out (ends_with_answer project) (Err status) before now start stop
      → OpensInPasses 3 (Err status) opened opens → SearchesWitness project cert out status before now opened opens
  fault_answered status p o = record {
    answers = λ certificate told. answers_broken status p.fault p.front certificate;
    leaves = λ e. absurd (subst IsFaultStatus e p.fault);
    holds = holds_broken status p.fault p.front;
    others = p.others;
    opens_both = opens_broken status p.fault o;
  }

-- ---- memory ran out

pub nothing_searched : (project : Project) (cert out : List ℕ) (same : Seen) (openings : Openings)
    → SearchesWitness project cert out OutOfMemory same same openings openings
nothing_searched project cert out same openings = record {
  answers = λ certificate told. untouched same;
  leaves = λ e. untouched same;
  holds = tt;
  others = λ other differs. refl;
  opens_both = refl;
}

-- the cause of an answer behind calls none of which failed
pub cause_behind : (status : Status) (start middle stop : Faults) → middle ≡ start → HasCause status middle stop
    → HasCause status start stop
cause_behind status start middle stop e h = subst (λ (f : Faults). HasCause status f stop) e h
