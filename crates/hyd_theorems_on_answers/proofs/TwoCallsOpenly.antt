-- A run with a slack and a check on one text: both networks are readings of its rows, so the check doesn't refuse what
-- the run wrote.
use Rattle.std.proofs.Common.{◌≡◌, ◌≢◌, ℕ, List, Some, sym, subst, ◌∙◌}
use Rattle.hyd_spec_lines.specs.Lines.{items_of, rows_in}
use Rattle.hyd_spec_input.specs.Project.{IsProject}
use Rattle.hyd_spec.specs.ProgramTypes.{Project}
use Rattle.hyd_spec_reports.specs.PromisesOfRunsAndChecks.{Outcome, Finished}
use Rattle.hyd_spec_open_reports.specs.PromisesOfOpenReports.{RunTellsOpenly}
use Rattle.hyd_io.specs.DeskBytes.{append_known}
use Rattle.hyd_spec_check_ends.specs.declared.CheckEnd.TheVariants.{Accepted}
use Rattle.hyd_theorems_on_rereading.proofs.OneNetwork.{one_network}
use Rattle.hyd_theorems_on_answers.proofs.OtherReadingsOpenly.{open_run_is, carried_openly, readings_report_openly}
use Rattle.hyd_theorems_on_answers.proofs.TwoCalls.{told_is, finished_by}
use Rattle.hyd_command_answers.specs.declared.status.Status.{Status}
use Rattle.hyd_command_answers.specs.declared.status.Status.TheVariants.{Done, OutOfMemory, Usage, ReadFault, WriteFault}
use Rattle.hyd_command_answers.specs.declared.status.Status.TheVariants.{InputRefused, Undecided, RoundsSpent, Demand}
use Rattle.hyd_command_answers.specs.declared.status.Status.TheVariants.{CertificateRefused, Stalled}
use Rattle.hyd_command_answers.specs.DeskContents.{Seen}
use Rattle.hyd_cli.specs.PassedOn.{Asked, DeliveredOpenly, AnswersTextOpenly}
use Rattle.hyd_check_command.specs.OpenCertificateOfRun.{IsCertificateOfOpenRun}
use Rattle.hyd_check_command.specs.OpenCheckAnswers.{AnswersOpenCheck}
use Rattle.hyd_theorems_on_answers.specs.StatusesThatWrote.{HasWritten}

module _ (text cert certificate : List ℕ) (asked : Asked) (before now start end : Seen)
    (is : now.written ≡ Some certificate) where
  written-of : (p : Project) (status : Status) (run : DeliveredOpenly p asked cert status before now)
      → run.certificate ≡ certificate
  written-of p status run = told_is before.files run.certificate certificate (sym run.written ∙ is)

  -- ---- refusals

  refused-run : (p : Project) (status : Status) → IsProject (rows_in (items_of text)) p
      → DeliveredOpenly p asked cert status before now → AnswersOpenCheck text certificate CertificateRefused start end
      → ⊥
  refused-run p status reads run answer =
      let own : IsCertificateOfOpenRun p run.certificate =
      open_run_is p asked.slack asked.rounds asked.sharpness run.outcome run.certificate run.report run.run in
      let other : IsCertificateOfOpenRun p certificate =
      subst (λ (c : List ℕ). IsCertificateOfOpenRun p c) (written-of p status run) own in
      answer.holds.1 (carried_openly p answer.project
      (one_network (rows_in (items_of text)) p answer.project reads answer.is_network) certificate other)

  refused-by : (status : Status) → AnswersTextOpenly text asked cert status before now → HasWritten status
      → AnswersOpenCheck text certificate CertificateRefused start end → ⊥
  refused-by Done ran written answer = refused-run ran.project Done ran.is_network ran.holds answer
  refused-by Undecided ran written answer = refused-run ran.project Undecided ran.is_network ran.holds answer
  refused-by RoundsSpent ran written answer = refused-run ran.project RoundsSpent ran.is_network ran.holds answer
  refused-by Demand ran written answer = refused-run ran.project Demand ran.is_network ran.holds answer
  refused-by OutOfMemory ran written answer = absurd written
  refused-by Usage ran written answer = absurd written
  refused-by ReadFault ran written answer = absurd written
  refused-by WriteFault ran written answer = absurd written
  refused-by InputRefused ran written answer = absurd written
  refused-by CertificateRefused ran written answer = absurd written
  refused-by Stalled ran written answer = absurd written

  -- ---- reports

  one-report : AnswersTextOpenly text asked cert Done before now → AnswersOpenCheck text certificate Done start end
      → (report : List ℕ) × ((now.printed ≡ append_known before.printed report)
      × (end.printed ≡ append_known start.printed report))
  one-report ran checked =
      let p = ran.project in
      let run = ran.holds in
      let finished : RunTellsOpenly p asked.slack asked.rounds asked.sharpness Finished run.certificate run.report =
      subst (λ (o : Outcome). RunTellsOpenly p asked.slack asked.rounds asked.sharpness o run.certificate run.report)
      (finished_by run.outcome run.status_is) run.run in
      let told : RunTellsOpenly p asked.slack asked.rounds asked.sharpness Finished certificate run.report =
      subst (λ (c : List ℕ). RunTellsOpenly p asked.slack asked.rounds asked.sharpness Finished c run.report)
      (written-of p Done run) finished in
      let same : checked.holds.report ≡ run.report =
      readings_report_openly (rows_in (items_of text)) p checked.project ran.is_network checked.is_network asked.slack
      asked.rounds asked.sharpness certificate run.report checked.holds.report Accepted told checked.holds.holds in (
        run.report,
        (
          run.printed,
          subst (λ (r : List ℕ). end.printed ≡ append_known start.printed r) same
              checked.holds.printed,
        ),
      )

pub not_refused_openly : (text cert certificate : List ℕ) (asked : Asked) (status answer : Status)
    (before now start end : Seen) → AnswersTextOpenly text asked cert status before now → HasWritten status
    → now.written ≡ Some certificate → AnswersOpenCheck text certificate answer start end
    → answer ≢ CertificateRefused
not_refused_openly text cert certificate asked status answer before now start end ran written is checked = λ e.
    refused-by text cert certificate asked before now start end is status ran written
    (subst (λ (s : Status). AnswersOpenCheck text certificate s start end) e checked)

pub same_report_openly : (text cert certificate : List ℕ) (asked : Asked) (before now start end : Seen)
    → AnswersTextOpenly text asked cert Done before now → now.written ≡ Some certificate
    → AnswersOpenCheck text certificate Done start end
    → (report : List ℕ) × ((now.printed ≡ append_known before.printed report)
    × (end.printed ≡ append_known start.printed report))
same_report_openly text cert certificate asked before now start end ran is checked =
    one-report text cert certificate asked before now start end is ran checked
