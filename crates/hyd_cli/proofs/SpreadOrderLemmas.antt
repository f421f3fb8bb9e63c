-- How what the command `run` leaves for a spread follows from what the calls in it leave.
use Rattle.std.proofs.Common.{◌≡◌, ◌≢◌, ◌⊎◌, ℕ, List, Option, inl, inr, sym, ap, subst}
use Rattle.hyd_io.specs.DeskBytes.{Files, file_at}
use Rattle.hyd_io.specs.DeskCounts.{with_opened}
use Rattle.hyd_io.specs.declared.desk.Openings.{Openings}
use Rattle.hyd_net.specs.declared.refusal_cause.Cause.{Cause}
use Rattle.hyd_spec.specs.ProgramTypes.{Project}
use Rattle.hyd_spec_input.specs.Project.{IsProject}
use Rattle.hyd_spec_lines.specs.Lines.{items_of, rows_in}
use Rattle.hyd_command_words.specs.CommandGrammar.{RunOrder, SpreadRunOrder}
use Rattle.hyd_command_answers.specs.DeskContents.{Seen, IsUntouched}
use Rattle.hyd_command_answers.specs.FaultsAndRefusals.{AnswersRefused}
use Rattle.hyd_command_answers.specs.OpeningsOfRuns.{OpensOnce}
use Rattle.hyd_command_answers.specs.declared.status.Status.{Status}
use Rattle.hyd_command_answers.specs.declared.status.Status.TheVariants.{Done, OutOfMemory, Usage, ReadFault}
use Rattle.hyd_command_answers.specs.declared.status.Status.TheVariants.{WriteFault}
use Rattle.hyd_command_answers.specs.declared.status.Status.TheVariants.{InputRefused, Undecided, RoundsSpent, Demand}
use Rattle.hyd_command_answers.specs.declared.status.Status.TheVariants.{CertificateRefused, Stalled}
use Rattle.hyd_command_answers.proofs.AnswerLemmas.{since_before, refused_since}
use Rattle.hyd_spread_command.specs.SpreadAnswers.{LeavesOver, LeavesRunOver}
use Rattle.hyd_spread_command.specs.PassedOn.{EndsAtNet}
use Rattle.hyd_cli.specs.SpreadRuns.{AnswersSpreadText, AnswersSpreadRun, OpensThree, DoesSpreadRun}

-- ---- a network was read

run_leaves : (status : Status) (before now : Seen) → LeavesRunOver status before now → LeavesOver status before now
run_leaves Done before now h = tt
run_leaves OutOfMemory before now h = h
run_leaves Usage before now h = h
run_leaves ReadFault before now h = h
run_leaves WriteFault before now h = tt
run_leaves InputRefused before now h = inr h
run_leaves Undecided before now h = tt
run_leaves RoundsSpent before now h = tt
run_leaves Demand before now h = tt
run_leaves CertificateRefused before now h = tt
run_leaves Stalled before now h = tt

pub run_leaves_since : (status : Status) (before between now : Seen) → IsUntouched before between
    → LeavesRunOver status between now → LeavesOver status before now
run_leaves_since status before between now u h =
    since_before (λ b. LeavesOver status b now) before between u (run_leaves status between now h)

pub run_never_usage : (status : Status) (before now : Seen) → LeavesRunOver status before now → status ≢ Usage
run_never_usage status before now h = λ e. subst (λ (s : Status). LeavesRunOver s before now) e h

net_answers : (net text : List ℕ) (project : Project) (order : RunOrder) (status : Status) (before now : Seen)
    → IsProject (rows_in (items_of net)) project → AnswersSpreadText project text order status before now
    → AnswersSpreadRun net text order status before now
net_answers net text project order Done before now p h = record { project = project; is_network = p; holds = h }
net_answers net text project order OutOfMemory before now p h = h
net_answers net text project order Usage before now p h = record { project = project; is_network = p; holds = h }
net_answers net text project order ReadFault before now p h = h
net_answers net text project order WriteFault before now p h = record { project = project; is_network = p; holds = h }
net_answers net text project order InputRefused before now p h =
    record { project = project; is_network = p; holds = h }
net_answers net text project order Undecided before now p h = record { project = project; is_network = p; holds = h }
net_answers net text project order RoundsSpent before now p h = record { project = project; is_network = p; holds = h }
net_answers net text project order Demand before now p h = record { project = project; is_network = p; holds = h }
net_answers net text project order CertificateRefused before now p h =
    record { project = project; is_network = p; holds = h }
net_answers net text project order Stalled before now p h = record { project = project; is_network = p; holds = h }

pub answers_since : (net text : List ℕ) (project : Project) (order : RunOrder) (status : Status)
    (before between now : Seen) → IsUntouched before between → IsProject (rows_in (items_of net)) project
    → AnswersSpreadText project text order status between now → AnswersSpreadRun net text order status before now
answers_since net text project order status before between now u p h =
    net_answers net text project order status before now p
    (since_before (λ b. AnswersSpreadText project text order status b now) before between u h)

pub opens_three : (status : Status) (start opened end : Openings) → opened ≡ with_opened start
    → OpensOnce status opened end → OpensThree status start end
opens_three status start opened end o h = inr (subst (λ (b : Openings). OpensOnce status b end) o h)

-- ---- the text of NET has a fault

refusal_leaves : (line : ℕ) (cause : Cause) (status : Status) (before now : Seen)
    → AnswersRefused line cause status before now → LeavesOver status before now
refusal_leaves line cause Done before now h = tt
refusal_leaves line cause OutOfMemory before now h = h
refusal_leaves line cause Usage before now h = h
refusal_leaves line cause ReadFault before now h = h
refusal_leaves line cause WriteFault before now h = tt
refusal_leaves line cause InputRefused before now h = inl (record { line = line; cause = cause; only = h })
refusal_leaves line cause Undecided before now h = tt
refusal_leaves line cause RoundsSpent before now h = tt
refusal_leaves line cause Demand before now h = tt
refusal_leaves line cause CertificateRefused before now h = tt
refusal_leaves line cause Stalled before now h = tt

pub refusal_leaves_since : (line : ℕ) (cause : Cause) (status : Status) (before between now : Seen)
    → IsUntouched before between → AnswersRefused line cause status between now → LeavesOver status before now
refusal_leaves_since line cause status before between now u h =
    refusal_leaves line cause status before now (refused_since line cause status before between now u h)

pub refusal_ends : (line : ℕ) (cause : Cause) (status : Status) (before now : Seen) (start end : Openings)
    → AnswersRefused line cause status before now → end ≡ with_opened start → EndsAtNet status start end
refusal_ends line cause Done before now start end h e = h
refusal_ends line cause OutOfMemory before now start end h e = inr e
refusal_ends line cause Usage before now start end h e = h
refusal_ends line cause ReadFault before now start end h e = e
refusal_ends line cause WriteFault before now start end h e = e
refusal_ends line cause InputRefused before now start end h e = e
refusal_ends line cause Undecided before now start end h e = h
refusal_ends line cause RoundsSpent before now start end h e = h
refusal_ends line cause Demand before now start end h e = h
refusal_ends line cause CertificateRefused before now start end h e = h
refusal_ends line cause Stalled before now start end h e = e

-- ---- NET couldn't be read

pub ended_leaves : (status : Status) (before now : Seen) → (status ≡ ReadFault) ⊎ (status ≡ OutOfMemory)
    → IsUntouched before now → LeavesOver status before now
ended_leaves status before now (inl is) u = subst (λ (s : Status). LeavesOver s before now) (sym is) u
ended_leaves status before now (inr is) u = subst (λ (s : Status). LeavesOver s before now) (sym is) u

fault_apart : ReadFault ≡ InputRefused → ⊥
fault_apart is = cc

memory_apart : OutOfMemory ≡ InputRefused → ⊥
memory_apart is = cc

fault_does : (order : SpreadRunOrder) (before now : Seen) (start end : Openings) → IsUntouched before now
    → end ≡ with_opened start → DoesSpreadRun order ReadFault before now start end
fault_does order before now start end u e = record {
  refused = λ net line why told fault. u;
  runs = λ net text told none told_too. u;
  refuses_spread = λ net told none is. absurd (fault_apart is);
  holds = tt;
  others = λ other apart. ap (λ (files : Option Files). file_at files other) u.files;
  once = inl e;
}

memory_does : (order : SpreadRunOrder) (before now : Seen) (start end : Openings) → IsUntouched before now
    → end ≡ with_opened start → DoesSpreadRun order OutOfMemory before now start end
memory_does order before now start end u e = record {
  refused = λ net line why told fault. u;
  runs = λ net text told none told_too. u;
  refuses_spread = λ net told none is. absurd (memory_apart is);
  holds = tt;
  others = λ other apart. ap (λ (files : Option Files). file_at files other) u.files;
  once = inl (inr e);
}

pub ended_does : (order : SpreadRunOrder) (status : Status) (before now : Seen) (start end : Openings)
    → (status ≡ ReadFault) ⊎ (status ≡ OutOfMemory) → IsUntouched before now → end ≡ with_opened start
    → DoesSpreadRun order status before now start end
ended_does order status before now start end (inl is) u e =
    subst (λ (s : Status). DoesSpreadRun order s before now start end) (sym is)
    (fault_does order before now start end u e)
ended_does order status before now start end (inr is) u e =
    subst (λ (s : Status). DoesSpreadRun order s before now start end) (sym is)
    (memory_does order before now start end u e)
