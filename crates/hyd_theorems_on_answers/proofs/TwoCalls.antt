-- A run and a check on one text: both networks are readings of its rows, so the check doesn't refuse what the run
-- wrote.
use Rattle.std.proofs.Common.{◌≡◌, ◌≢◌, ℕ, List, Option, Some, None, inl, sym, subst, ◌∙◌, refl, arith}
use Rattle.hyd_spec_lines.specs.Lines.{items_of, rows_in}
use Rattle.hyd_spec_input.specs.Project.{IsProject}
use Rattle.hyd_spec.specs.ProgramTypes.{Project}
use Rattle.hyd_spec_certificates.specs.declared.StopCause.TheVariants.{Demand as DemandOutOfRange, NoCertificate}
use Rattle.hyd_spec_certificates.specs.declared.StopCause.TheVariants.{RoundsSpent as SpentRounds, RuleOpen, EventOpen}
use Rattle.hyd_spec_certificates.specs.declared.StopCause.TheVariants.{TankOpen, ControlOpen}
use Rattle.hyd_spec_reports.specs.PromisesOfRunsAndChecks.{Outcome, Finished, Stopped, RunWrites, outcome_number}
use Rattle.hyd_io.specs.DeskBytes.{Files, where_told, append_known}
use Rattle.hyd_run.specs.Runs.{sharpness_of}
use Rattle.hyd_sim.specs.declared.settings.Settings.{Settings}
use Rattle.hyd_spec_check_ends.specs.declared.CheckEnd.TheVariants.{Accepted}
use Rattle.hyd_theorems_on_checks.specs.CertificateOfRun.{IsCertificateOfRun}
use Rattle.hyd_theorems_on_checks.proofs.WrittenAndAccepted.{written_is}
use Rattle.hyd_theorems_on_rereading.proofs.OneNetwork.{one_network}
use Rattle.hyd_theorems_on_answers.proofs.OtherReadings.{carried, readings_report}
use Rattle.hyd_command_answers.specs.declared.status.Status.{Status}
use Rattle.hyd_command_answers.specs.declared.status.Status.TheVariants.{Done, OutOfMemory, Usage, ReadFault}
use Rattle.hyd_command_answers.specs.declared.status.Status.TheVariants.{WriteFault}
use Rattle.hyd_command_answers.specs.declared.status.Status.TheVariants.{InputRefused, Undecided, RoundsSpent, Demand}
use Rattle.hyd_command_answers.specs.declared.status.Status.TheVariants.{CertificateRefused, Stalled}
use Rattle.hyd_command_answers.specs.DeskContents.{Seen}
use Rattle.hyd_cli.specs.RunAnswers.{Delivered, AnswersText}
use Rattle.hyd_check_command.specs.CheckAnswers.{AnswersCheck}
use Rattle.hyd_theorems_on_answers.specs.StatusesThatWrote.{HasWritten}

-- ---- what was written

pub told_is : (files : Option Files) (written certificate : List ℕ) → where_told files written ≡ Some certificate
    → written ≡ certificate
told_is None written certificate e = absurd (let s : None ≡ Some certificate = e in cc)
told_is (Some files) written certificate e = let s : Some written ≡ Some certificate = e in cc

pub finished_by : (outcome : Outcome) → 0 ≡ outcome_number outcome → outcome ≡ Finished
finished_by Finished e = refl
finished_by (Stopped (NoCertificate period problem side junction)) e = absurd (omega (arith, e))
finished_by (Stopped (TankOpen period tank lo hi)) e = absurd (omega (arith, e))
finished_by (Stopped (RuleOpen period rule clause lo hi)) e = absurd (omega (arith, e))
finished_by (Stopped (ControlOpen period control lo hi)) e = absurd (omega (arith, e))
finished_by (Stopped (EventOpen period earliest latest)) e = absurd (omega (arith, e))
finished_by (Stopped (SpentRounds period problem side rounds)) e = absurd (omega (arith, e))
finished_by (Stopped (DemandOutOfRange period junction demand)) e = absurd (omega (arith, e))

module _ (text cert certificate : List ℕ) (settings : Settings) (before now start end : Seen)
    (is : now.written ≡ Some certificate) where
  written_of : (p : Project) (status : Status) (run : Delivered p settings cert status before now)
      → run.certificate ≡ certificate
  written_of p status run = told_is before.files run.certificate certificate (sym run.written ∙ is)

  -- ---- refusals

  refused : (p : Project) (status : Status) → IsProject (rows_in (items_of text)) p
      → Delivered p settings cert status before now → AnswersCheck text certificate CertificateRefused start end → ⊥
  refused p status reads run answer =
      let own : IsCertificateOfRun p run.certificate =
      written_is p settings.rounds (sharpness_of settings) run.outcome run.certificate run.report run.run in
      let other : IsCertificateOfRun p certificate =
      subst (λ (c : List ℕ). IsCertificateOfRun p c) (written_of p status run) own in
      answer.holds.1 (inl (carried p answer.project
      (one_network (rows_in (items_of text)) p answer.project reads answer.is_network) certificate other))

  refused_by : (status : Status) → AnswersText text settings cert status before now → HasWritten status
      → AnswersCheck text certificate CertificateRefused start end → ⊥
  refused_by Done ran written answer = refused ran.project Done ran.is_network ran.holds answer
  refused_by Undecided ran written answer = refused ran.project Undecided ran.is_network ran.holds answer
  refused_by RoundsSpent ran written answer = refused ran.project RoundsSpent ran.is_network ran.holds answer
  refused_by Demand ran written answer = refused ran.project Demand ran.is_network ran.holds answer
  refused_by OutOfMemory ran written answer = absurd written
  refused_by Usage ran written answer = absurd written
  refused_by ReadFault ran written answer = absurd written
  refused_by WriteFault ran written answer = absurd written
  refused_by InputRefused ran written answer = absurd written
  refused_by CertificateRefused ran written answer = absurd written
  refused_by Stalled ran written answer = absurd written

  -- ---- reports

  pub one_report : AnswersText text settings cert Done before now → AnswersCheck text certificate Done start end
      → (report : List ℕ) × ((now.printed ≡ append_known before.printed report)
      × (end.printed ≡ append_known start.printed report))
  one_report ran checked =
      let p = ran.project in
      let run = ran.holds in
      let finished : RunWrites p settings.rounds (sharpness_of settings) Finished run.certificate run.report =
      subst (λ (o : Outcome). RunWrites p settings.rounds (sharpness_of settings) o run.certificate run.report)
      (finished_by run.outcome run.status_is) run.run in
      let wrote : RunWrites p settings.rounds (sharpness_of settings) Finished certificate run.report =
      subst (λ (c : List ℕ). RunWrites p settings.rounds (sharpness_of settings) Finished c run.report)
      (written_of p Done run) finished in
      let same : checked.holds.report ≡ run.report =
      readings_report (rows_in (items_of text)) p checked.project ran.is_network checked.is_network settings.rounds
      (sharpness_of settings) certificate run.report checked.holds.report Accepted wrote checked.holds.holds in (
        run.report,
        (
          run.printed,
          subst (λ (r : List ℕ). end.printed ≡ append_known start.printed r) same
              checked.holds.printed,
        ),
      )

pub not_refused : (text cert certificate : List ℕ) (settings : Settings) (status answer : Status)
    (before now start end : Seen) → AnswersText text settings cert status before now → HasWritten status
    → now.written ≡ Some certificate → AnswersCheck text certificate answer start end → answer ≢ CertificateRefused
not_refused text cert certificate settings status answer before now start end ran written is checked = λ e.
    refused_by text cert certificate settings before now start end is status ran written
    (subst (λ (s : Status). AnswersCheck text certificate s start end) e checked)

pub same_report : (text cert certificate : List ℕ) (settings : Settings) (before now start end : Seen)
    → AnswersText text settings cert Done before now → now.written ≡ Some certificate
    → AnswersCheck text certificate Done start end
    → (report : List ℕ) × ((now.printed ≡ append_known before.printed report)
    × (end.printed ≡ append_known start.printed report))
same_report text cert certificate settings before now start end ran is checked =
    one_report text cert certificate settings before now start end is ran checked
