-- How what a run for a spread leaves follows from what the calls in it leave.
use Rattle.std.proofs.Common.{◌≡◌, ℕ, List, ◌⊎◌, inl, inr, sym, subst}
use Rattle.hyd_io.specs.DeskBytes.{file_at}
use Rattle.hyd_net.specs.declared.refusal_cause.Cause.{Cause}
use Rattle.hyd_spec.specs.ProgramTypes.{Project}
use Rattle.hyd_spread_check.specs.PassedOn.{Asked}
use Rattle.hyd_command_answers.specs.DeskContents.{Seen, IsUntouched, FilesStay}
use Rattle.hyd_command_answers.specs.WrittenCertificates.{Holds}
use Rattle.hyd_command_answers.specs.declared.status.Status.{Status}
use Rattle.hyd_command_answers.specs.declared.status.Status.TheVariants.{Done, OutOfMemory, Usage, ReadFault}
use Rattle.hyd_command_answers.specs.declared.status.Status.TheVariants.{WriteFault}
use Rattle.hyd_command_answers.specs.declared.status.Status.TheVariants.{InputRefused, Undecided, RoundsSpent, Demand}
use Rattle.hyd_command_answers.specs.declared.status.Status.TheVariants.{CertificateRefused, Stalled}
use Rattle.hyd_spread_files.specs.RefusedSpreads.{AnswersSpreadRefused}
use Rattle.hyd_spread_command.specs.SpreadAnswers.{CutShortOver, AnswersRunOver, AnswersWithin, LeavesRunOver}
use Rattle.hyd_spread_command.specs.SpreadAnswers.{refuses, runs, lacks_memory}

-- ---- what is left

run_leaves : (project : Project) (asked : Asked) (cert : List ℕ) (status : Status) (before now : Seen)
    → AnswersRunOver project asked cert status before now → LeavesRunOver status before now
run_leaves project asked cert Done before now h = tt
run_leaves project asked cert OutOfMemory before now h = h
run_leaves project asked cert Usage before now h = h
run_leaves project asked cert ReadFault before now h = absurd h
run_leaves project asked cert WriteFault before now h = tt
run_leaves project asked cert InputRefused before now h = absurd h
run_leaves project asked cert Undecided before now h = tt
run_leaves project asked cert RoundsSpent before now h = tt
run_leaves project asked cert Demand before now h = tt
run_leaves project asked cert CertificateRefused before now h = tt
run_leaves project asked cert Stalled before now h = tt

pub refusal_leaves : (line : ℕ) (cause : Cause) (status : Status) (before now : Seen)
    → AnswersSpreadRefused line cause status before now → LeavesRunOver status before now
refusal_leaves line cause Done before now h = tt
refusal_leaves line cause OutOfMemory before now h = absurd h
refusal_leaves line cause Usage before now h = h
refusal_leaves line cause ReadFault before now h = absurd h
refusal_leaves line cause WriteFault before now h = tt
refusal_leaves line cause InputRefused before now h = record { line = line; cause = cause; only = h }
refusal_leaves line cause Undecided before now h = tt
refusal_leaves line cause RoundsSpent before now h = tt
refusal_leaves line cause Demand before now h = tt
refusal_leaves line cause CertificateRefused before now h = tt
refusal_leaves line cause Stalled before now h = tt

pub within_leaves : (project : Project) (text : List ℕ) (asked : Asked) (cert : List ℕ) (status : Status)
    (before now : Seen) → AnswersWithin project text asked cert status before now → LeavesRunOver status before now
within_leaves project text asked cert status before now (refuses h) =
    refusal_leaves h.line h.cause status before now h.answers
within_leaves project text asked cert status before now (runs gives h) =
    run_leaves project asked cert status before now h
within_leaves project text asked cert status before now (lacks_memory is h) =
    subst (λ (s : Status). LeavesRunOver s before now) (sym is) h

-- ---- what CERT holds

fronts_hold : (project : Project) (asked : Asked) (cert : List ℕ) (before now : Seen)
    → IsUntouched before now ⊎ CutShortOver project asked cert before now
    → FilesStay before now ⊎ (file_at now.files cert ≡ now.written)
fronts_hold project asked cert before now (inl h) = inl (record { files = h.files; written = h.written })
fronts_hold project asked cert before now (inr h) = inr h.held

run_holds : (project : Project) (asked : Asked) (cert : List ℕ) (status : Status) (before now : Seen)
    → AnswersRunOver project asked cert status before now → Holds status cert before now
run_holds project asked cert Done before now h = h.held
run_holds project asked cert OutOfMemory before now h = tt
run_holds project asked cert Usage before now h = tt
run_holds project asked cert ReadFault before now h = tt
run_holds project asked cert WriteFault before now h = fronts_hold project asked cert before now h
run_holds project asked cert InputRefused before now h = tt
run_holds project asked cert Undecided before now h = h.held
run_holds project asked cert RoundsSpent before now h = h.held
run_holds project asked cert Demand before now h = h.held
run_holds project asked cert CertificateRefused before now h = tt
run_holds project asked cert Stalled before now h = fronts_hold project asked cert before now h

pub refusal_holds : (line : ℕ) (cause : Cause) (status : Status) (cert : List ℕ) (before now : Seen)
    → AnswersSpreadRefused line cause status before now → Holds status cert before now
refusal_holds line cause Done cert before now h = absurd h
refusal_holds line cause OutOfMemory cert before now h = tt
refusal_holds line cause Usage cert before now h = tt
refusal_holds line cause ReadFault cert before now h = tt
refusal_holds line cause WriteFault cert before now h = inl (record { files = h.files; written = h.written })
refusal_holds line cause InputRefused cert before now h = tt
refusal_holds line cause Undecided cert before now h = absurd h
refusal_holds line cause RoundsSpent cert before now h = absurd h
refusal_holds line cause Demand cert before now h = absurd h
refusal_holds line cause CertificateRefused cert before now h = tt
refusal_holds line cause Stalled cert before now h = inl (record { files = h.files; written = h.written })

pub within_holds : (project : Project) (text : List ℕ) (asked : Asked) (cert : List ℕ) (status : Status)
    (before now : Seen) → AnswersWithin project text asked cert status before now → Holds status cert before now
within_holds project text asked cert status before now (refuses h) =
    refusal_holds h.line h.cause status cert before now h.answers
within_holds project text asked cert status before now (runs gives h) =
    run_holds project asked cert status before now h
within_holds project text asked cert status before now (lacks_memory is h) =
    subst (λ (s : Status). Holds s cert before now) (sym is) tt

-- ---- a run that was opened for the spread of a text

pub run_of : (project here : Project) (asked found : Asked) (cert : List ℕ) (status : Status) (before now : Seen)
    → here ≡ project → found ≡ asked → AnswersRunOver here found cert status before now
    → AnswersRunOver project asked cert status before now
run_of project here asked found cert status before now p a h =
    subst (λ (q : Project). AnswersRunOver q asked cert status before now) p
    (subst (λ (s : Asked). AnswersRunOver here s cert status before now) a h)
