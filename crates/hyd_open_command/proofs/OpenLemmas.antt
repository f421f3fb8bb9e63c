-- How what the command leaves follows from what the calls in it leave.
use Rattle.std.proofs.Common.{◌≡◌, ◌≢◌, ℕ, List, [], ◌⊎◌, inl, inr, ◌∙◌, sym, subst}
use Rattle.std.proofs.Common.{is_some}
use Rattle.hyd_io.specs.DeskBytes.{where_told, file_at, content_of}
use Rattle.hyd_io.specs.declared.output.OutFault.{OutFault}
use Rattle.hyd_io.specs.declared.output.OutFault.TheVariants.{Fault, Stalled as Stall}
use Rattle.hyd_spec_lines.specs.Lines.{items_of, rows_in}
use Rattle.hyd_net.specs.declared.refusal_cause.Cause.{Cause}
use Rattle.hyd_spec.specs.ProgramTypes.{Project}
use Rattle.hyd_spec_input.specs.Project.{IsProject}
use Rattle.hyd_spec_reports.specs.PromisesOfRunsAndChecks.{Outcome}
use Rattle.hyd_run.specs.Pens.{Told, LeavesRest}
use Rattle.hyd_open_run.specs.PeriodsOfOpenRuns.{Asked, IsPutOutOpenly, IsBrokenOffOpenly}
use Rattle.hyd_command_answers.specs.DeskContents.{Seen, IsUntouched, FilesStay}
use Rattle.hyd_command_answers.specs.FaultsAndRefusals.{AnswersRefused, status_of_fault}
use Rattle.hyd_command_answers.specs.WrittenCertificates.{Holds}
use Rattle.hyd_command_answers.specs.Statuses.{status_of_outcome}
use Rattle.hyd_command_answers.specs.declared.status.Status.{Status}
use Rattle.hyd_command_answers.specs.declared.status.Status.TheVariants.{Done, OutOfMemory, Usage, ReadFault}
use Rattle.hyd_command_answers.specs.declared.status.Status.TheVariants.{WriteFault}
use Rattle.hyd_command_answers.specs.declared.status.Status.TheVariants.{InputRefused, Undecided, RoundsSpent, Demand}
use Rattle.hyd_command_answers.specs.declared.status.Status.TheVariants.{CertificateRefused, Stalled}
use Rattle.hyd_command_answers.proofs.AnswerLemmas.{since_before, new_text, new_file, number_of_end, by_end}
use Rattle.hyd_command_answers.proofs.AnswerLemmas.{refused_since, printed_since}
use Rattle.hyd_open_command.specs.OpenAnswers.{DeliveredOpenly, CutShortOpenly, AnswersRunOpenly}
use Rattle.hyd_open_command.specs.OpenAnswers.{AnswersTextOpenly, LeavesOpenly}

-- ---- the end of a run

answers_end : (project : Project) (asked : Asked) (cert : List ℕ) (outcome : Outcome)
    (before now : Seen) → DeliveredOpenly project asked cert (status_of_outcome outcome) before now
    → AnswersRunOpenly project asked cert (status_of_outcome outcome) before now
answers_end project asked cert outcome before now h =
    by_end (λ status. AnswersRunOpenly project asked cert status before now) outcome
    (λ e. subst (λ s. DeliveredOpenly project asked cert s before now) (sym e) h)
    (λ e. subst (λ s. DeliveredOpenly project asked cert s before now) (sym e) h)
    (λ e. subst (λ s. DeliveredOpenly project asked cert s before now) (sym e) h)
    (λ e. subst (λ s. DeliveredOpenly project asked cert s before now) (sym e) h)

answers_fault : (project : Project) (asked : Asked) (cert : List ℕ) (fault : OutFault)
    (before now : Seen) → IsUntouched before now ⊎ CutShortOpenly project asked cert before now
    → AnswersRunOpenly project asked cert (status_of_fault fault) before now
answers_fault project asked cert Fault before now h = h
answers_fault project asked cert Stall before now h = h

-- ---- a run that was put out

-- what a call can change, of all that a desk tells
abbrev pub seen_of : Told → Seen
seen_of told = record { files = told.files; written = told.written; printed = told.printed }

pub delivered : (project : Project) (asked : Asked) (cert : List ℕ) (outcome : Outcome)
    (before : Seen) (created after : Told) → IsPutOutOpenly project asked outcome created after
    → created.written ≡ where_told before.files []
    → created.printed ≡ before.printed → created.target ≡ where_told before.files cert
    → is_some created.files ≡ is_some before.files → LeavesRest created after
    → after.written ≡ content_of after.files after.target
    → AnswersRunOpenly project asked cert (status_of_outcome outcome) before (seen_of after)
delivered project asked cert outcome before created after out begun printed target told leaves content =
    answers_end project asked cert outcome before (seen_of after) (record {
      outcome = outcome;
      certificate = out.certificate;
      report = out.report;
      run = out.tells;
      names_junction = out.names;
      status_is = number_of_end outcome;
      written = new_text before.files created.written after.written out.certificate begun out.written;
      printed = printed_since before.printed created.printed after.printed out.report printed out.printed;
      held = new_file before.files after.files after.target after.written cert (leaves.target_stays ∙ target)
          (leaves.still_told ∙ told) content;
    })

pub cut_short : (project : Project) (asked : Asked) (cert : List ℕ) (fault : OutFault)
    (before : Seen) (created after : Told) → IsBrokenOffOpenly project asked created after
    → created.written ≡ where_told before.files []
    → created.printed ≡ before.printed → created.target ≡ where_told before.files cert
    → is_some created.files ≡ is_some before.files → LeavesRest created after
    → after.written ≡ content_of after.files after.target
    → AnswersRunOpenly project asked cert (status_of_fault fault) before (seen_of after)
cut_short project asked cert fault before created after out begun printed target told leaves content =
    answers_fault project asked cert fault before (seen_of after) (inr (record {
      certificate = out.certificate;
      report = out.report;
      run = out.breaks_off;
      names_junction = out.names;
      in_order = out.in_order;
      written = new_text before.files created.written after.written out.certificate begun out.written;
      printed = printed_since before.printed created.printed after.printed out.report printed out.printed;
      held = new_file before.files after.files after.target after.written cert (leaves.target_stays ∙ target)
          (leaves.still_told ∙ told) content;
    }))

-- ---- what a run, a refused name and a refused text leave

run_leaves : (project : Project) (asked : Asked) (cert : List ℕ)
    (status : Status) (before now : Seen) → AnswersRunOpenly project asked cert status before now
    → LeavesOpenly status before now
run_leaves project asked cert Done before now h = tt
run_leaves project asked cert OutOfMemory before now h = h
run_leaves project asked cert Usage before now h = h
run_leaves project asked cert ReadFault before now h = absurd h
run_leaves project asked cert WriteFault before now h = tt
run_leaves project asked cert InputRefused before now h = absurd h
run_leaves project asked cert Undecided before now h = tt
run_leaves project asked cert RoundsSpent before now h = tt
run_leaves project asked cert Demand before now h = tt
run_leaves project asked cert CertificateRefused before now h = absurd h
run_leaves project asked cert Stalled before now h = tt

refusal_leaves : (line : ℕ) (cause : Cause) (status : Status) (before now : Seen)
    → AnswersRefused line cause status before now → LeavesOpenly status before now
refusal_leaves line cause Done before now h = absurd h
refusal_leaves line cause OutOfMemory before now h = h
refusal_leaves line cause Usage before now h = h
refusal_leaves line cause ReadFault before now h = h
refusal_leaves line cause WriteFault before now h = tt
refusal_leaves line cause InputRefused before now h = record { line = line; cause = cause; only = h }
refusal_leaves line cause Undecided before now h = absurd h
refusal_leaves line cause RoundsSpent before now h = absurd h
refusal_leaves line cause Demand before now h = absurd h
refusal_leaves line cause CertificateRefused before now h = absurd h
refusal_leaves line cause Stalled before now h = tt

-- ---- whether CERT holds what was written

-- where nothing or a front was put, the files stay or the file holds it
fronts_hold : (project : Project) (asked : Asked) (cert : List ℕ) (before now : Seen)
    → IsUntouched before now ⊎ CutShortOpenly project asked cert before now
    → FilesStay before now ⊎ (file_at now.files cert ≡ now.written)
fronts_hold project asked cert before now (inl h) = inl (record { files = h.files; written = h.written })
fronts_hold project asked cert before now (inr h) = inr h.held

run_holds : (project : Project) (asked : Asked) (cert : List ℕ) (status : Status)
    (before now : Seen) → AnswersRunOpenly project asked cert status before now
    → Holds status cert before now
run_holds project asked cert Done before now h = h.held
run_holds project asked cert OutOfMemory before now h = tt
run_holds project asked cert Usage before now h = tt
run_holds project asked cert ReadFault before now h = tt
run_holds project asked cert WriteFault before now h = fronts_hold project asked cert before now h
run_holds project asked cert InputRefused before now h = tt
run_holds project asked cert Undecided before now h = h.held
run_holds project asked cert RoundsSpent before now h = h.held
run_holds project asked cert Demand before now h = h.held
run_holds project asked cert CertificateRefused before now h = tt
run_holds project asked cert Stalled before now h = fronts_hold project asked cert before now h

refusal_holds : (line : ℕ) (cause : Cause) (status : Status) (cert : List ℕ) (before now : Seen)
    → AnswersRefused line cause status before now → Holds status cert before now
refusal_holds line cause Done cert before now h = absurd h
refusal_holds line cause OutOfMemory cert before now h = tt
refusal_holds line cause Usage cert before now h = tt
refusal_holds line cause ReadFault cert before now h = tt
refusal_holds line cause WriteFault cert before now h = inl (record { files = h.files; written = h.written })
refusal_holds line cause InputRefused cert before now h = tt
refusal_holds line cause Undecided cert before now h = absurd h
refusal_holds line cause RoundsSpent cert before now h = absurd h
refusal_holds line cause Demand cert before now h = absurd h
refusal_holds line cause CertificateRefused cert before now h = absurd h
refusal_holds line cause Stalled cert before now h = inl (record { files = h.files; written = h.written })

-- ---- the answer of the network of a text is one of the text

text_answers : (text : List ℕ) (project : Project) (asked : Asked) (cert : List ℕ)
    (status : Status) (before now : Seen) → IsProject (rows_in (items_of text)) project
    → AnswersRunOpenly project asked cert status before now
    → AnswersTextOpenly text asked cert status before now
text_answers text project asked cert Done before now p h =
    record { project = project; is_network = p; holds = h }
text_answers text project asked cert OutOfMemory before now p h =
    h
text_answers text project asked cert Usage before now p h =
    record { project = project; is_network = p; holds = h }
text_answers text project asked cert ReadFault before now p h =
    absurd h
text_answers text project asked cert WriteFault before now p h =
    record { project = project; is_network = p; holds = h }
text_answers text project asked cert InputRefused before now p h =
    record { project = project; is_network = p; holds = h }
text_answers text project asked cert Undecided before now p h =
    record { project = project; is_network = p; holds = h }
text_answers text project asked cert RoundsSpent before now p h =
    record { project = project; is_network = p; holds = h }
text_answers text project asked cert Demand before now p h =
    record { project = project; is_network = p; holds = h }
text_answers text project asked cert CertificateRefused before now p h =
    record { project = project; is_network = p; holds = h }
text_answers text project asked cert Stalled before now p h =
    record { project = project; is_network = p; holds = h }

-- ---- the whole command, where nothing was touched before the network was there

pub leaves_since : (project : Project) (asked : Asked) (cert : List ℕ) (status : Status)
    (before between now : Seen) → IsUntouched before between
    → AnswersRunOpenly project asked cert status between now → LeavesOpenly status before now
leaves_since project asked cert status before between now u h =
    run_leaves project asked cert status before now
    (since_before (λ b. AnswersRunOpenly project asked cert status b now) before between u h)

pub holds_since : (project : Project) (asked : Asked) (cert : List ℕ) (status : Status)
    (before between now : Seen) → IsUntouched before between
    → AnswersRunOpenly project asked cert status between now → Holds status cert before now
holds_since project asked cert status before between now u h =
    run_holds project asked cert status before now
    (since_before (λ b. AnswersRunOpenly project asked cert status b now) before between u h)

pub run_since : (text : List ℕ) (project : Project) (asked : Asked) (cert : List ℕ)
    (status : Status) (before between now : Seen) → IsUntouched before between
    → IsProject (rows_in (items_of text)) project → AnswersRunOpenly project asked cert status between now
    → AnswersTextOpenly text asked cert status before now
run_since text project asked cert status before between now u p h =
    text_answers text project asked cert status before now p
    (since_before (λ b. AnswersRunOpenly project asked cert status b now) before between u h)

pub refused_leaves_since : (line : ℕ) (cause : Cause) (status : Status) (before between now : Seen)
    → IsUntouched before between → AnswersRefused line cause status between now → LeavesOpenly status before now
refused_leaves_since line cause status before between now u h =
    refusal_leaves line cause status before now (refused_since line cause status before between now u h)

pub refused_holds_since : (line : ℕ) (cause : Cause) (status : Status) (cert : List ℕ) (before between now : Seen)
    → IsUntouched before between → AnswersRefused line cause status between now → Holds status cert before now
refused_holds_since line cause status cert before between now u h =
    refusal_holds line cause status cert before now (refused_since line cause status before between now u h)

-- the words are a command
pub never_usage : (project : Project) (asked : Asked) (cert : List ℕ) (status : Status)
    (before now : Seen) → AnswersRunOpenly project asked cert status before now → status ≢ Usage
never_usage project asked cert status before now h =
    λ e. subst (λ s. LeavesOpenly s before now) e (run_leaves project asked cert status before now h)
