-- A run that names links and a check on one text: both networks are readings of its rows, so the check doesn't refuse
-- what the run wrote.
use Rattle.std.proofs.Common.{◌≡◌, ◌≢◌, ℕ, List, Some, inr, sym, subst, ◌∙◌}
use Rattle.hyd_spec_lines.specs.Lines.{items_of, rows_in}
use Rattle.hyd_spec_input.specs.Project.{IsProject}
use Rattle.hyd_spec.specs.ProgramTypes.{Project}
use Rattle.hyd_spec_reports.specs.PromisesOfRunsAndChecks.{Outcome, Finished}
use Rattle.hyd_spec_reports_with_flows.specs.PromisesWithFlows.{RunWritesNaming}
use Rattle.hyd_io.specs.DeskBytes.{append_known}
use Rattle.hyd_run.specs.Runs.{sharpness_of}
use Rattle.hyd_sim.specs.declared.settings.Settings.{Settings}
use Rattle.hyd_spec_check_ends.specs.declared.CheckEnd.TheVariants.{Accepted}
use Rattle.hyd_theorems_on_checks.specs.CertificateOfRun.{IsCertificateOfRunNaming}
use Rattle.hyd_theorems_on_checks.proofs.WrittenAndAccepted.{written_naming_is}
use Rattle.hyd_theorems_on_rereading.proofs.OneNetwork.{one_network}
use Rattle.hyd_theorems_on_answers.proofs.OtherReadingsNaming.{carried_naming, readings_report_naming}
use Rattle.hyd_theorems_on_answers.proofs.TwoCalls.{told_is, finished_by}
use Rattle.hyd_command_answers.specs.declared.status.Status.{Status}
use Rattle.hyd_command_answers.specs.declared.status.Status.TheVariants.{Done, OutOfMemory, Usage, ReadFault, WriteFault}
use Rattle.hyd_command_answers.specs.declared.status.Status.TheVariants.{InputRefused, Undecided, RoundsSpent, Demand}
use Rattle.hyd_command_answers.specs.declared.status.Status.TheVariants.{CertificateRefused, Stalled}
use Rattle.hyd_command_answers.specs.DeskContents.{Seen}
use Rattle.hyd_naming_command.specs.NamingAnswers.{DeliveredNaming, AnswersNames, named, refused, AnswersTextNaming}
use Rattle.hyd_check_command.specs.CheckAnswers.{AnswersCheck}
use Rattle.hyd_theorems_on_answers.specs.StatusesThatWrote.{HasWritten}

-- ---- what was delivered

-- the names were those of links, and the network was run with the flows of these
pub record Ran (project : Project) (settings : Settings) (cert : List ℕ) (status : Status) (before now : Seen) : Type 0
  where
    pub links : List ℕ
    pub delivered : DeliveredNaming project links settings cert status before now

pub ran_done : (project : Project) (names : List (List ℕ)) (settings : Settings) (cert : List ℕ) (before now : Seen)
    → AnswersNames project names settings cert Done before now → Ran project settings cert Done before now
ran_done project names settings cert before now (named links are may answers) =
    record { links = links; delivered = answers }
ran_done project names settings cert before now (refused place cause is answers) = absurd answers

pub ran_undecided : (project : Project) (names : List (List ℕ)) (settings : Settings) (cert : List ℕ) (before now : Seen)
    → AnswersNames project names settings cert Undecided before now → Ran project settings cert Undecided before now
ran_undecided project names settings cert before now (named links are may answers) =
    record { links = links; delivered = answers }
ran_undecided project names settings cert before now (refused place cause is answers) = absurd answers

pub ran_spent : (project : Project) (names : List (List ℕ)) (settings : Settings) (cert : List ℕ) (before now : Seen)
    → AnswersNames project names settings cert RoundsSpent before now
    → Ran project settings cert RoundsSpent before now
ran_spent project names settings cert before now (named links are may answers) =
    record { links = links; delivered = answers }
ran_spent project names settings cert before now (refused place cause is answers) = absurd answers

pub ran_demand : (project : Project) (names : List (List ℕ)) (settings : Settings) (cert : List ℕ) (before now : Seen)
    → AnswersNames project names settings cert Demand before now → Ran project settings cert Demand before now
ran_demand project names settings cert before now (named links are may answers) =
    record { links = links; delivered = answers }
ran_demand project names settings cert before now (refused place cause is answers) = absurd answers

module _ (text cert certificate : List ℕ) (names : List (List ℕ)) (settings : Settings)
    (before now start end : Seen) (is : now.written ≡ Some certificate) where
  -- ---- refusals

  refused_run : (p : Project) (status : Status) → IsProject (rows_in (items_of text)) p
      → Ran p settings cert status before now → AnswersCheck text certificate CertificateRefused start end → ⊥
  refused_run p status reads ran answer =
      let run = ran.delivered in
      let own : IsCertificateOfRunNaming p run.certificate =
      written_naming_is p ran.links settings.rounds (sharpness_of settings) run.outcome run.certificate run.report
      run.run in
      let other : IsCertificateOfRunNaming p certificate =
      subst (λ (c : List ℕ). IsCertificateOfRunNaming p c)
      (told_is before.files run.certificate certificate (sym run.written ∙ is)) own in
      answer.holds.1 (inr (carried_naming p answer.project
      (one_network (rows_in (items_of text)) p answer.project reads answer.is_network) certificate other))

  refused_by : (status : Status) → AnswersTextNaming text names settings cert status before now → HasWritten status
      → AnswersCheck text certificate CertificateRefused start end → ⊥
  refused_by Done ran written answer = refused_run ran.project Done ran.is_network
      (ran_done ran.project names settings cert before now ran.holds) answer
  refused_by Undecided ran written answer = refused_run ran.project Undecided ran.is_network
      (ran_undecided ran.project names settings cert before now ran.holds) answer
  refused_by RoundsSpent ran written answer = refused_run ran.project RoundsSpent ran.is_network
      (ran_spent ran.project names settings cert before now ran.holds) answer
  refused_by Demand ran written answer = refused_run ran.project Demand ran.is_network
      (ran_demand ran.project names settings cert before now ran.holds) answer
  refused_by OutOfMemory ran written answer = absurd written
  refused_by Usage ran written answer = absurd written
  refused_by ReadFault ran written answer = absurd written
  refused_by WriteFault ran written answer = absurd written
  refused_by InputRefused ran written answer = absurd written
  refused_by CertificateRefused ran written answer = absurd written
  refused_by Stalled ran written answer = absurd written

  -- ---- reports

  one_report : AnswersTextNaming text names settings cert Done before now
      → AnswersCheck text certificate Done start end
      → (report : List ℕ) × ((now.printed ≡ append_known before.printed report)
      × (end.printed ≡ append_known start.printed report))
  one_report answer checked =
      let p = answer.project in
      let ran = ran_done p names settings cert before now answer.holds in
      let run = ran.delivered in
      let finished : RunWritesNaming p ran.links settings.rounds (sharpness_of settings) Finished run.certificate
      run.report =
      subst (λ (o : Outcome). RunWritesNaming p ran.links settings.rounds (sharpness_of settings) o run.certificate
      run.report) (finished_by run.outcome run.status_is) run.run in
      let wrote : RunWritesNaming p ran.links settings.rounds (sharpness_of settings) Finished certificate run.report =
      subst (λ (c : List ℕ). RunWritesNaming p ran.links settings.rounds (sharpness_of settings) Finished c run.report)
      (told_is before.files run.certificate certificate (sym run.written ∙ is)) finished in
      let same : checked.holds.report ≡ run.report =
      readings_report_naming (rows_in (items_of text)) p checked.project answer.is_network checked.is_network ran.links
      settings.rounds (sharpness_of settings) certificate run.report checked.holds.report Accepted wrote
      checked.holds.holds in (
        run.report,
        (
          run.printed,
          subst (λ (r : List ℕ). end.printed ≡ append_known start.printed r) same
              checked.holds.printed,
        ),
      )

pub not_refused_naming : (text cert certificate : List ℕ) (names : List (List ℕ)) (settings : Settings)
    (status answer : Status) (before now start end : Seen)
    → AnswersTextNaming text names settings cert status before now → HasWritten status
    → now.written ≡ Some certificate → AnswersCheck text certificate answer start end → answer ≢ CertificateRefused
not_refused_naming text cert certificate names settings status answer before now start end ran written is checked = λ e.
    refused_by text cert certificate names settings before now start end is status ran written
    (subst (λ (s : Status). AnswersCheck text certificate s start end) e checked)

pub same_report_naming : (text cert certificate : List ℕ) (names : List (List ℕ)) (settings : Settings)
    (before now start end : Seen) → AnswersTextNaming text names settings cert Done before now
    → now.written ≡ Some certificate → AnswersCheck text certificate Done start end
    → (report : List ℕ) × ((now.printed ≡ append_known before.printed report)
    × (end.printed ≡ append_known start.printed report))
same_report_naming text cert certificate names settings before now start end ran is checked =
    one_report text cert certificate names settings before now start end is ran checked
