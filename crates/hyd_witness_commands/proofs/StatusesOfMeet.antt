-- What each status of `meet` leaves.
use Rattle.std.proofs.Common.{◌≡◌, ◌≢◌, ◌∙◌, ◌⊎◌, inl, inr, ℕ, List, Option, refl, sym, ap, subst}
use Rattle.hyd_io.specs.declared.desk.Faults.{Faults}
use Rattle.hyd_io.specs.declared.desk.Openings.{Openings}
use Rattle.hyd_io.specs.declared.output.OutFault.{OutFault}
use Rattle.hyd_io.specs.declared.output.OutFault.TheVariants.{Fault, Stalled as Stall}
use Rattle.hyd_io.specs.DeskBytes.{IsTold, file_at, Files}
use Rattle.hyd_io.specs.DeskCounts.{with_opened}
use Rattle.hyd_spec_lines.specs.Lines.{items_of, rows_in}
use Rattle.hyd_net.specs.declared.refusal_cause.Cause.{Cause}
use Rattle.hyd_spec.specs.ProgramTypes.{Project}
use Rattle.hyd_spec_input.specs.Project.{IsProject}
use Rattle.hyd_command_answers.specs.DeskContents.{Seen, IsUntouched, OnlyPrinted, OnlyPrintedFront, OnlyPrintedSome}
use Rattle.hyd_command_answers.specs.FaultsAndRefusals.{AnswersRefused, HasCause, status_of_fault}
use Rattle.hyd_command_answers.specs.declared.status.Status.{Status}
use Rattle.hyd_command_answers.specs.declared.status.Status.TheVariants.{Done, OutOfMemory, Usage, ReadFault, WriteFault}
use Rattle.hyd_command_answers.specs.declared.status.Status.TheVariants.{InputRefused, Undecided, RoundsSpent, Demand}
use Rattle.hyd_command_answers.specs.declared.status.Status.TheVariants.{CertificateRefused, Stalled}
use Rattle.hyd_command_answers.proofs.AnswerLemmas.{since_before}
use Rattle.hyd_target_commands.specs.CommandsOnTargets.{LeavesNet}
use Rattle.hyd_target_commands.proofs.StatusesOfTargets.{untouched, untouched_prints}
use Rattle.hyd_witness_commands.specs.MeetAnswers.{IsMeetText, AnswersWitness, AnswersMeet}
use Rattle.hyd_witness_trials.specs.Findings.{finding_line, IsFound}
use Rattle.hyd_witness_commands.specs.Statuses.{status_of_finding}
use Rattle.hyd_witness_commands.specs.CommandMeet.{OpensWitness, IsAnswer, LeavesWitness, TriesWitness, OpensBoth}
use Rattle.hyd_witness_trials.specs.declared.finding.Finding.{Finding}
use Rattle.hyd_witness_trials.specs.declared.finding.Finding.TheVariants.{Meets, Fails, BadLine}

-- ---- contents

line_prints : (line : List ℕ) (before now : Seen) → OnlyPrinted line before now → OnlyPrintedSome before now
line_prints line before now h = record { files = h.files; written = h.written; text = line; printed = h.printed }

front_prints : (line : List ℕ) (before now : Seen) → OnlyPrintedFront line before now → OnlyPrintedSome before now
front_prints line before now h = record {
  files = h.files;
  written = h.written;
  text = h.printed.1.front;
  printed = h.printed.1.out;
}

-- ---- the line of what is found

module _ (project : Project) (before now : Seen) where
  pub found_answers : (finding : Finding) (witness : List ℕ) → OnlyPrinted (finding_line project finding) before now
      → IsFound project witness finding → AnswersWitness project witness (status_of_finding finding) before now
  found_answers (Meets periods) witness only is =
      record { text = finding_line project (Meets periods); holds = is; only = only }
  found_answers (Fails period unmet) witness only is =
      record { text = finding_line project (Fails period unmet); holds = (unmet, is); only = only }
  found_answers (BadLine number) witness only is =
      record { text = finding_line project (BadLine number); holds = (number, is); only = only }

  -- the line is that of an end
  a_line : (finding : Finding) (witness : List ℕ) → IsFound project witness finding
      → (end : Status) × IsMeetText project witness end (finding_line project finding)
  a_line (Meets periods) witness is = (Done, is)
  a_line (Fails period unmet) witness is = (Undecided, (unmet, is))
  a_line (BadLine number) witness is = (CertificateRefused, (number, is))

  pub cut_off_answers : (fault : OutFault) (finding : Finding) (witness : List ℕ)
      → OnlyPrintedFront (finding_line project finding) before now
      → IsFound project witness finding → AnswersWitness project witness (status_of_fault fault) before now
  cut_off_answers Fault finding witness only is =
      record { text = finding_line project finding; holds = a_line finding witness is; only = only }
  cut_off_answers Stall finding witness only is =
      record { text = finding_line project finding; holds = a_line finding witness is; only = only }

  pub found_leaves : (finding : Finding) → OnlyPrinted (finding_line project finding) before now
      → LeavesWitness (status_of_finding finding) before now
  found_leaves (Meets periods) only = line_prints _ before now only
  found_leaves (Fails period unmet) only = line_prints _ before now only
  found_leaves (BadLine number) only = line_prints _ before now only

  pub cut_off_leaves : (fault : OutFault) (finding : Finding)
      → OnlyPrintedFront (finding_line project finding) before now → LeavesWitness (status_of_fault fault) before now
  cut_off_leaves Fault finding only = front_prints _ before now only
  cut_off_leaves Stall finding only = front_prints _ before now only

pub found_is_answer : (finding : Finding) → IsAnswer (status_of_finding finding)
found_is_answer (Meets periods) = tt
found_is_answer (Fails period unmet) = tt
found_is_answer (BadLine number) = tt

pub cut_off_is_answer : (fault : OutFault) → IsAnswer (status_of_fault fault)
cut_off_is_answer Fault = tt
cut_off_is_answer Stall = tt

pub found_cause : (finding : Finding) (before now : Faults) → now ≡ before
    → HasCause (status_of_finding finding) before now
found_cause (Meets periods) before now e = e
found_cause (Fails period unmet) before now e = e
found_cause (BadLine number) before now e = e

-- ---- once NET was read

-- FILE is opened once
pub answer_opens : (status : Status) (start opened end : Openings) → IsAnswer status → opened ≡ with_opened start
    → end ≡ opened → OpensWitness status start end
answer_opens Done start opened end is o e = e ∙ o
answer_opens OutOfMemory start opened end is o e = absurd is
answer_opens Usage start opened end is o e = absurd is
answer_opens ReadFault start opened end is o e = absurd is
answer_opens WriteFault start opened end is o e = e ∙ o
answer_opens InputRefused start opened end is o e = absurd is
answer_opens Undecided start opened end is o e = e ∙ o
answer_opens RoundsSpent start opened end is o e = absurd is
answer_opens Demand start opened end is o e = absurd is
answer_opens CertificateRefused start opened end is o e = e ∙ o
answer_opens Stalled start opened end is o e = e ∙ o

-- memory ran out
pub nothing_tried : (project : Project) (file : List ℕ) (same : Seen) (openings : Openings)
    → TriesWitness project file OutOfMemory same same openings openings
nothing_tried project file same openings = record {
  answers = λ witness told. untouched same;
  leaves = untouched same;
  opens_file = refl;
}

-- a read failed
pub reading_failed : (project : Project) (file : List ℕ) (before now : Seen) (opened opens : Openings)
    → IsUntouched before now → opens ≡ with_opened opened
    → TriesWitness project file ReadFault before now opened opens
reading_failed project file before now opened opens u o = record {
  answers = λ witness told. u;
  leaves = u;
  opens_file = o;
}

-- what was found was answered
pub finding_answered : (project : Project) (file : List ℕ) (status : Status) (before between now : Seen)
    (start opened end : Openings) → IsUntouched before between
    → ((witness : List ℕ) → IsTold before.files file witness → AnswersWitness project witness status between now)
    → LeavesWitness status between now → IsAnswer status → opened ≡ with_opened start → end ≡ opened
    → TriesWitness project file status before now start end
finding_answered project file status before between now start opened end u answers leaves is o e = record {
  answers = λ witness told. since_before (λ b. AnswersWitness project witness status b now) before between u
      (answers witness told);
  leaves = since_before (λ b. LeavesWitness status b now) before between u leaves;
  opens_file = answer_opens status start opened end is o e;
}

-- ---- all of it

module _ (before between now : Seen) (start opened end : Openings) (u : IsUntouched before between)
    (first : opened ≡ with_opened start) where
  leaves_net : (status : Status) → LeavesWitness status between now → OpensWitness status opened end
      → LeavesNet status between now
  leaves_net Done h o = h
  leaves_net OutOfMemory h o = h
  leaves_net Usage h o = absurd o
  leaves_net ReadFault h o = h
  leaves_net WriteFault h o = h
  leaves_net InputRefused h o = absurd o
  leaves_net Undecided h o = h
  leaves_net RoundsSpent h o = h
  leaves_net Demand h o = h
  leaves_net CertificateRefused h o = h
  leaves_net Stalled h o = h

  some_printed : (status : Status) → LeavesWitness status between now → OnlyPrintedSome between now
  some_printed Done h = h
  some_printed OutOfMemory h = untouched_prints between now h
  some_printed Usage h = h
  some_printed ReadFault h = untouched_prints between now h
  some_printed WriteFault h = h
  some_printed InputRefused h = h
  some_printed Undecided h = h
  some_printed RoundsSpent h = h
  some_printed Demand h = h
  some_printed CertificateRefused h = h
  some_printed Stalled h = h

  opens_both : (status : Status) → OpensWitness status opened end → OpensBoth status start end
  opens_both Done o = o ∙ ap with_opened first
  opens_both OutOfMemory o = inr (o ∙ first)
  opens_both Usage o = o
  opens_both ReadFault o = inr (o ∙ ap with_opened first)
  opens_both WriteFault o = inr (o ∙ ap with_opened first)
  opens_both InputRefused o = absurd o
  opens_both Undecided o = o ∙ ap with_opened first
  opens_both RoundsSpent o = o
  opens_both Demand o = o
  opens_both CertificateRefused o = o ∙ ap with_opened first
  opens_both Stalled o = inr (o ∙ ap with_opened first)

  module _ (project : Project) (file : List ℕ) (status : Status)
      (tries : TriesWitness project file status between now opened end) where
    pub tries_leaves : LeavesNet status before now
    tries_leaves = since_before (λ b. LeavesNet status b now) before between u
        (leaves_net status tries.leaves tries.opens_file)

    pub tries_prints : OnlyPrintedSome before now
    tries_prints = since_before (λ b. OnlyPrintedSome b now) before between u (some_printed status tries.leaves)

    pub tries_opens : OpensBoth status start end
    tries_opens = opens_both status tries.opens_file

    pub tries_never_usage : status ≢ Usage
    tries_never_usage = λ e. subst (λ (s : Status). OpensWitness s opened end) e tries.opens_file

    pub tries_not_refused : status ≢ InputRefused
    tries_not_refused = λ e. subst (λ (s : Status). OpensWitness s opened end) e tries.opens_file

-- the answer of the network of a text is one of the text
meet_text : (text witness : List ℕ) (project : Project) (status : Status) (before now : Seen)
    → IsProject (rows_in (items_of text)) project → AnswersWitness project witness status before now
    → AnswersMeet text witness status before now
meet_text text witness project Done before now is h = record { project = project; is_network = is; holds = h }
meet_text text witness project OutOfMemory before now is h = h
meet_text text witness project Usage before now is h = absurd h
meet_text text witness project ReadFault before now is h = h
meet_text text witness project WriteFault before now is h = record { project = project; is_network = is; holds = h }
meet_text text witness project InputRefused before now is h = absurd h
meet_text text witness project Undecided before now is h = record { project = project; is_network = is; holds = h }
meet_text text witness project RoundsSpent before now is h = absurd h
meet_text text witness project Demand before now is h = absurd h
meet_text text witness project CertificateRefused before now is h =
    record { project = project; is_network = is; holds = h }
meet_text text witness project Stalled before now is h = record { project = project; is_network = is; holds = h }

pub meets_since : (text witness file : List ℕ) (project : Project) (status : Status) (before between now : Seen)
    (opened end : Openings) → IsUntouched before between → IsProject (rows_in (items_of text)) project
    → TriesWitness project file status between now opened end → IsTold before.files file witness
    → AnswersMeet text witness status before now
meets_since text witness file project status before between now opened end u is tries told =
    since_before (λ b. AnswersMeet text witness status b now) before between u
    (meet_text text witness project status between now is (tries.answers witness
    (ap (λ (files : Option Files). file_at files file) u.files ∙ told)))

-- ---- a text of NET that is refused

pub refusal_opens : (line : ℕ) (cause : Cause) (status : Status) (before now : Seen) (start opened end : Openings)
    → AnswersRefused line cause status before now → opened ≡ with_opened start → end ≡ opened
    → OpensBoth status start end
refusal_opens line cause Done before now start opened end h o e = absurd h
refusal_opens line cause OutOfMemory before now start opened end h o e = inr (e ∙ o)
refusal_opens line cause Usage before now start opened end h o e = absurd h
refusal_opens line cause ReadFault before now start opened end h o e = inl (e ∙ o)
refusal_opens line cause WriteFault before now start opened end h o e = inl (e ∙ o)
refusal_opens line cause InputRefused before now start opened end h o e = e ∙ o
refusal_opens line cause Undecided before now start opened end h o e = absurd h
refusal_opens line cause RoundsSpent before now start opened end h o e = absurd h
refusal_opens line cause Demand before now start opened end h o e = absurd h
refusal_opens line cause CertificateRefused before now start opened end h o e = absurd h
refusal_opens line cause Stalled before now start opened end h o e = inl (e ∙ o)

-- ---- a text of NET that couldn't be had

abbrev pub CouldNotBeHad : Status → Type 0
CouldNotBeHad status = (status ≡ ReadFault) ⊎ (status ≡ OutOfMemory)

pub ended_meets : (status : Status) (before now : Seen) → IsUntouched before now → CouldNotBeHad status
    → (text witness : List ℕ) → AnswersMeet text witness status before now
ended_meets status before now u (inl e) text witness =
    subst (λ (s : Status). AnswersMeet text witness s before now) (sym e) u
ended_meets status before now u (inr e) text witness =
    subst (λ (s : Status). AnswersMeet text witness s before now) (sym e) u

pub ended_not_refused : (status : Status) → CouldNotBeHad status → status ≢ InputRefused
ended_not_refused status (inl e) = λ same. let apart : ReadFault ≡ InputRefused = sym e ∙ same in cc
ended_not_refused status (inr e) = λ same. let apart : OutOfMemory ≡ InputRefused = sym e ∙ same in cc

pub ended_opens : (status : Status) (start end : Openings) → CouldNotBeHad status → end ≡ with_opened start
    → OpensBoth status start end
ended_opens status start end (inl e) o = subst (λ (s : Status). OpensBoth s start end) (sym e) (inl o)
ended_opens status start end (inr e) o = subst (λ (s : Status). OpensBoth s start end) (sym e) (inr o)
