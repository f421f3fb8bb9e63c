-- What is said of a run for a spread that was put out, of the moment before its file was created.
use Rattle.std.proofs.Common.{◌≡◌, ℕ, List, [], ◌⊎◌, inr, ◌∙◌, sym, subst}
use Rattle.std.proofs.Common.{is_some}
use Rattle.hyd_io.specs.DeskBytes.{where_told, content_of}
use Rattle.hyd_io.specs.declared.output.OutFault.{OutFault}
use Rattle.hyd_io.specs.declared.output.OutFault.TheVariants.{Fault, Stalled as Stall}
use Rattle.hyd_spec.specs.ProgramTypes.{Project}
use Rattle.hyd_spec_reports.specs.PromisesOfRunsAndChecks.{Outcome}
use Rattle.hyd_run.specs.Pens.{Told, LeavesRest}
use Rattle.hyd_spread_check.specs.PassedOn.{Asked, IsPutOutOver, IsBrokenOffOver}
use Rattle.hyd_command_answers.specs.DeskContents.{Seen, IsUntouched}
use Rattle.hyd_command_answers.specs.FaultsAndRefusals.{status_of_fault}
use Rattle.hyd_command_answers.specs.Statuses.{status_of_outcome}
use Rattle.hyd_command_answers.proofs.AnswerLemmas.{new_text, new_file, number_of_end, by_end}
use Rattle.hyd_command_answers.proofs.AnswerLemmas.{printed_since}
use Rattle.hyd_spread_command.specs.SpreadAnswers.{DeliveredOver, CutShortOver, AnswersRunOver}

-- ---- the end of a run

answers_end : (project : Project) (asked : Asked) (cert : List ℕ) (outcome : Outcome)
    (before now : Seen) → DeliveredOver project asked cert (status_of_outcome outcome) before now
    → AnswersRunOver project asked cert (status_of_outcome outcome) before now
answers_end project asked cert outcome before now h =
    by_end (λ status. AnswersRunOver project asked cert status before now) outcome
    (λ e. subst (λ s. DeliveredOver project asked cert s before now) (sym e) h)
    (λ e. subst (λ s. DeliveredOver project asked cert s before now) (sym e) h)
    (λ e. subst (λ s. DeliveredOver project asked cert s before now) (sym e) h)
    (λ e. subst (λ s. DeliveredOver project asked cert s before now) (sym e) h)

answers_fault : (project : Project) (asked : Asked) (cert : List ℕ) (fault : OutFault)
    (before now : Seen) → IsUntouched before now ⊎ CutShortOver project asked cert before now
    → AnswersRunOver project asked cert (status_of_fault fault) before now
answers_fault project asked cert Fault before now h = h
answers_fault project asked cert Stall before now h = h

-- ---- a run that was put out

-- what a call can change, of all that a desk tells
abbrev pub seen_of : Told → Seen
seen_of told = record { files = told.files; written = told.written; printed = told.printed }

pub delivered : (project : Project) (asked : Asked) (cert : List ℕ) (outcome : Outcome)
    (before : Seen) (created after : Told) → IsPutOutOver project asked outcome created after
    → created.written ≡ where_told before.files []
    → created.printed ≡ before.printed → created.target ≡ where_told before.files cert
    → is_some created.files ≡ is_some before.files → LeavesRest created after
    → after.written ≡ content_of after.files after.target
    → AnswersRunOver project asked cert (status_of_outcome outcome) before (seen_of after)
delivered project asked cert outcome before created after out begun printed target told leaves content =
    answers_end project asked cert outcome before (seen_of after) (record {
      outcome = outcome;
      certificate = out.certificate;
      report = out.report;
      run = out.tells;
      names_junction = out.names;
      status_is = number_of_end outcome;
      written = new_text before.files created.written after.written out.certificate begun out.written;
      printed = printed_since before.printed created.printed after.printed out.report printed out.printed;
      held = new_file before.files after.files after.target after.written cert (leaves.target_stays ∙ target)
          (leaves.still_told ∙ told) content;
    })

pub cut_short : (project : Project) (asked : Asked) (cert : List ℕ) (fault : OutFault)
    (before : Seen) (created after : Told) → IsBrokenOffOver project asked created after
    → created.written ≡ where_told before.files []
    → created.printed ≡ before.printed → created.target ≡ where_told before.files cert
    → is_some created.files ≡ is_some before.files → LeavesRest created after
    → after.written ≡ content_of after.files after.target
    → AnswersRunOver project asked cert (status_of_fault fault) before (seen_of after)
cut_short project asked cert fault before created after out begun printed target told leaves content =
    answers_fault project asked cert fault before (seen_of after) (inr (record {
      certificate = out.certificate;
      report = out.report;
      run = out.breaks_off;
      names_junction = out.names;
      in_order = out.in_order;
      written = new_text before.files created.written after.written out.certificate begun out.written;
      printed = printed_since before.printed created.printed after.printed out.report printed out.printed;
      held = new_file before.files after.files after.target after.written cert (leaves.target_stays ∙ target)
          (leaves.still_told ∙ told) content;
    }))
