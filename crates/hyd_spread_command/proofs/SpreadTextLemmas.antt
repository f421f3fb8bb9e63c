-- What is said of the text of a spread, and of NET's, follows from what is said of a network, where nothing was touched
-- before.
use Rattle.std.proofs.Common.{◌≡◌, ℕ, List, ◌⊎◌, inl, inr, refl, sym, subst}
use Rattle.hyd_spec.specs.ProgramTypes.{Project}
use Rattle.hyd_spec_lines.specs.Lines.{items_of, rows_in}
use Rattle.hyd_spec_input.specs.Project.{IsProject}
use Rattle.hyd_command_answers.specs.DeskContents.{Seen, IsUntouched}
use Rattle.hyd_command_answers.specs.declared.status.Status.{Status}
use Rattle.hyd_command_answers.specs.declared.status.Status.TheVariants.{Done, OutOfMemory, Usage, ReadFault}
use Rattle.hyd_command_answers.specs.declared.status.Status.TheVariants.{WriteFault}
use Rattle.hyd_command_answers.specs.declared.status.Status.TheVariants.{InputRefused, Undecided, RoundsSpent, Demand}
use Rattle.hyd_command_answers.specs.declared.status.Status.TheVariants.{CertificateRefused, Stalled}
use Rattle.hyd_check_command.specs.CheckAnswers.{LeavesCheck}
use Rattle.hyd_spread_command.specs.SpreadChecks.{LeavesCertOver, LeavesCheckOver}
use Rattle.hyd_spread_command.specs.SpreadOrders.{AnswersByText, AnswersSpreadCert, AnswersSpreadCheck}

-- ---- the text of a spread

pub cert-by-text : (project : Project) (text cert : List ℕ) (status : Status) (before now : Seen)
    → (status ≡ OutOfMemory → IsUntouched before now) → AnswersByText project text cert status before now
    → AnswersSpreadCert project text cert status before now
cert-by-text project text cert Done before now u h = h
cert-by-text project text cert OutOfMemory before now u h = u refl
cert-by-text project text cert Usage before now u h = h
cert-by-text project text cert ReadFault before now u h = inr h
cert-by-text project text cert WriteFault before now u h = h
cert-by-text project text cert InputRefused before now u h = h
cert-by-text project text cert Undecided before now u h = h
cert-by-text project text cert RoundsSpent before now u h = h
cert-by-text project text cert Demand before now u h = h
cert-by-text project text cert CertificateRefused before now u h = h
cert-by-text project text cert Stalled before now u h = h

-- want of memory leaves all untouched
pub memory-untouched : (status : Status) (before now : Seen) → LeavesCertOver status before now → status ≡ OutOfMemory
    → IsUntouched before now
memory-untouched status before now h e = subst (λ (s : Status). LeavesCertOver s before now) e h

-- ---- the text of NET

pub net-answers : (net text cert : List ℕ) (project : Project) (status : Status) (before now : Seen)
    → IsProject (rows_in (items_of net)) project → AnswersSpreadCert project text cert status before now
    → AnswersSpreadCheck net text cert status before now
net-answers net text cert project Done before now p h = record { project = project; is_network = p; holds = h }
net-answers net text cert project OutOfMemory before now p h = h
net-answers net text cert project Usage before now p h = record { project = project; is_network = p; holds = h }
net-answers net text cert project ReadFault before now p h =
    inr (record { project = project; is_network = p; holds = h })
net-answers net text cert project WriteFault before now p h =
    record { project = project; is_network = p; holds = h }
net-answers net text cert project InputRefused before now p h =
    record { project = project; is_network = p; holds = h }
net-answers net text cert project Undecided before now p h =
    record { project = project; is_network = p; holds = h }
net-answers net text cert project RoundsSpent before now p h =
    record { project = project; is_network = p; holds = h }
net-answers net text cert project Demand before now p h = record { project = project; is_network = p; holds = h }
net-answers net text cert project CertificateRefused before now p h =
    record { project = project; is_network = p; holds = h }
net-answers net text cert project Stalled before now p h =
    record { project = project; is_network = p; holds = h }

-- ---- what is left

pub cert-leaves-over : (status : Status) (before now : Seen) → LeavesCertOver status before now
    → LeavesCheckOver status before now
cert-leaves-over Done before now h = h
cert-leaves-over OutOfMemory before now h = h
cert-leaves-over Usage before now h = h
cert-leaves-over ReadFault before now h = h
cert-leaves-over WriteFault before now h = h
cert-leaves-over InputRefused before now h = inr h
cert-leaves-over Undecided before now h = h
cert-leaves-over RoundsSpent before now h = h
cert-leaves-over Demand before now h = h
cert-leaves-over CertificateRefused before now h = h
cert-leaves-over Stalled before now h = h

pub check-leaves-over : (status : Status) (before now : Seen) → LeavesCheck status before now
    → LeavesCheckOver status before now
check-leaves-over Done before now h = h
check-leaves-over OutOfMemory before now h = h
check-leaves-over Usage before now h = h
check-leaves-over ReadFault before now h = h
check-leaves-over WriteFault before now h = h
check-leaves-over InputRefused before now h = inl h
check-leaves-over Undecided before now h = h
check-leaves-over RoundsSpent before now h = h
check-leaves-over Demand before now h = h
check-leaves-over CertificateRefused before now h = h
check-leaves-over Stalled before now h = h

-- ---- NET couldn't be had

pub ended-check : (net text cert : List ℕ) (status : Status) (before now : Seen)
    → (status ≡ ReadFault) ⊎ (status ≡ OutOfMemory) → IsUntouched before now
    → AnswersSpreadCheck net text cert status before now
ended-check net text cert status before now (inl e) u =
    subst (λ (s : Status). AnswersSpreadCheck net text cert s before now) (sym e) (inl u)
ended-check net text cert status before now (inr e) u =
    subst (λ (s : Status). AnswersSpreadCheck net text cert s before now) (sym e) u
