-- What a run wrote begins with a header line of version 4 where it had a slack, and with none where it had none.
use Rattle.std.proofs.Common.{◌≡◌, ℕ, List, [], ◌∷◌, Some, refl, sym, ap, subst, ◌∙◌, append_assoc}
use Rattle.hyd_spec.specs.ProgramTypes.{Project}
use Rattle.hyd_spec_reports.specs.PromisesOfRunsAndChecks.{is_finished}
use Rattle.hyd_spec_open_checks.specs.OpenChecks.{open_header_for}
use Rattle.hyd_run.specs.Runs.{sharpness_of}
use Rattle.hyd_sim.specs.declared.settings.Settings.{Settings}
use Rattle.hyd_open_certificates.specs.OpenTexts.{IsOpenCertificate}
use Rattle.hyd_open_certificates.specs.OpenFaults.{HasOpenHeader, LacksOpenHeader}
use Rattle.hyd_open_certificates.proofs.OneOpenReading.{no_plain_text, no_flows_text, begins_with_header}
use Rattle.hyd_theorems_on_checks.specs.CertificateOfRun.{IsCertificateOfRun, IsCertificateOfRunNaming}
use Rattle.hyd_theorems_on_checks.proofs.WrittenAndAccepted.{written_is, written_naming_is}
use Rattle.hyd_theorems_on_answers.proofs.TwoCalls.{told_is}
use Rattle.hyd_theorems_on_answers.proofs.TwoCallsNaming.{Ran, ran_done, ran_undecided, ran_spent, ran_demand}
use Rattle.hyd_command_answers.specs.declared.status.Status.{Status}
use Rattle.hyd_command_answers.specs.declared.status.Status.TheVariants.{Done, OutOfMemory, Usage, ReadFault, WriteFault}
use Rattle.hyd_command_answers.specs.declared.status.Status.TheVariants.{InputRefused, Undecided, RoundsSpent, Demand}
use Rattle.hyd_command_answers.specs.declared.status.Status.TheVariants.{CertificateRefused, Stalled}
use Rattle.hyd_command_answers.specs.DeskContents.{Seen}
use Rattle.hyd_naming_command.specs.NamingAnswers.{AnswersTextNaming}
use Rattle.hyd_cli.specs.PassedOn.{Asked, DeliveredOpenly, AnswersTextOpenly}
use Rattle.hyd_cli.specs.RunAnswers.{Delivered, AnswersText}
use Rattle.hyd_theorems_on_answers.specs.StatusesThatWrote.{HasWritten}

-- a text that begins with no header line of version 4 lacks each
lacks_of : (text : List ℕ) → (HasOpenHeader (Some text) → ⊥) → LacksOpenHeader (Some text)
lacks_of text none header line rest is = λ told. none (record {
  header = header;
  line = line;
  rest = Some rest;
  is_header = is;
  begins = told ∙ ap Some (sym (append_assoc line (10 ∷ []) rest));
})

module _ (cert certificate : List ℕ) (before now : Seen) (is : now.written ≡ Some certificate) where
  -- ---- without flows

  run_lacks : (settings : Settings) (p : Project) (status : Status) → Delivered p settings cert status before now
      → LacksOpenHeader (Some certificate)
  run_lacks settings p status run =
      let own : IsCertificateOfRun p run.certificate =
      written_is p settings.rounds (sharpness_of settings) run.outcome run.certificate run.report run.run in
      let its : IsCertificateOfRun p certificate = subst (λ (c : List ℕ). IsCertificateOfRun p c)
      (told_is before.files run.certificate certificate (sym run.written ∙ is)) own in
      lacks_of certificate (λ has. no_plain_text certificate _ _ _ _ _ _ has its.certificate)

  -- ---- with flows

  naming_run_lacks : (settings : Settings) (p : Project) (status : Status) → Ran p settings cert status before now
      → LacksOpenHeader (Some certificate)
  naming_run_lacks settings p status ran =
      let run = ran.delivered in
      let own : IsCertificateOfRunNaming p run.certificate =
      written_naming_is p ran.links settings.rounds (sharpness_of settings) run.outcome run.certificate run.report
      run.run in
      let its : IsCertificateOfRunNaming p certificate = subst (λ (c : List ℕ). IsCertificateOfRunNaming p c)
      (told_is before.files run.certificate certificate (sym run.written ∙ is)) own in
      lacks_of certificate (λ has. no_flows_text certificate _ _ _ _ _ has its.certificate)

  -- ---- with a slack

  open_run_has : (asked : Asked) (p : Project) (status : Status) → DeliveredOpenly p asked cert status before now
      → HasOpenHeader (Some certificate)
  open_run_has asked p status run =
      let whole : IsOpenCertificate (open_header_for p) run.certificate = record {
        known = refl;
        rows = _;
        periods = _;
        finished = is_finished run.outcome;
        is_text = run.run.certificate;
      } in
      subst (λ (c : List ℕ). HasOpenHeader (Some c))
      (told_is before.files run.certificate certificate (sym run.written ∙ is))
      (begins_with_header (open_header_for p) run.certificate whole)

pub plain_lacks : (text cert certificate : List ℕ) (settings : Settings) (status : Status) (before now : Seen)
    → AnswersText text settings cert status before now → HasWritten status → now.written ≡ Some certificate
    → LacksOpenHeader (Some certificate)
plain_lacks text cert certificate settings Done before now ran written is =
    run_lacks cert certificate before now is settings ran.project Done ran.holds
plain_lacks text cert certificate settings Undecided before now ran written is =
    run_lacks cert certificate before now is settings ran.project Undecided ran.holds
plain_lacks text cert certificate settings RoundsSpent before now ran written is =
    run_lacks cert certificate before now is settings ran.project RoundsSpent ran.holds
plain_lacks text cert certificate settings Demand before now ran written is =
    run_lacks cert certificate before now is settings ran.project Demand ran.holds
plain_lacks text cert certificate settings OutOfMemory before now ran written is = absurd written
plain_lacks text cert certificate settings Usage before now ran written is = absurd written
plain_lacks text cert certificate settings ReadFault before now ran written is = absurd written
plain_lacks text cert certificate settings WriteFault before now ran written is = absurd written
plain_lacks text cert certificate settings InputRefused before now ran written is = absurd written
plain_lacks text cert certificate settings CertificateRefused before now ran written is = absurd written
plain_lacks text cert certificate settings Stalled before now ran written is = absurd written

pub naming_lacks : (text cert certificate : List ℕ) (names : List (List ℕ)) (settings : Settings) (status : Status)
    (before now : Seen) → AnswersTextNaming text names settings cert status before now → HasWritten status
    → now.written ≡ Some certificate → LacksOpenHeader (Some certificate)
naming_lacks text cert certificate names settings Done before now ran written is =
    naming_run_lacks cert certificate before now is settings ran.project Done
    (ran_done ran.project names settings cert before now ran.holds)
naming_lacks text cert certificate names settings Undecided before now ran written is =
    naming_run_lacks cert certificate before now is settings ran.project Undecided
    (ran_undecided ran.project names settings cert before now ran.holds)
naming_lacks text cert certificate names settings RoundsSpent before now ran written is =
    naming_run_lacks cert certificate before now is settings ran.project RoundsSpent
    (ran_spent ran.project names settings cert before now ran.holds)
naming_lacks text cert certificate names settings Demand before now ran written is =
    naming_run_lacks cert certificate before now is settings ran.project Demand
    (ran_demand ran.project names settings cert before now ran.holds)
naming_lacks text cert certificate names settings OutOfMemory before now ran written is = absurd written
naming_lacks text cert certificate names settings Usage before now ran written is = absurd written
naming_lacks text cert certificate names settings ReadFault before now ran written is = absurd written
naming_lacks text cert certificate names settings WriteFault before now ran written is = absurd written
naming_lacks text cert certificate names settings InputRefused before now ran written is = absurd written
naming_lacks text cert certificate names settings CertificateRefused before now ran written is = absurd written
naming_lacks text cert certificate names settings Stalled before now ran written is = absurd written

pub open_has : (text cert certificate : List ℕ) (asked : Asked) (status : Status) (before now : Seen)
    → AnswersTextOpenly text asked cert status before now → HasWritten status → now.written ≡ Some certificate
    → HasOpenHeader (Some certificate)
open_has text cert certificate asked Done before now ran written is =
    open_run_has cert certificate before now is asked ran.project Done ran.holds
open_has text cert certificate asked Undecided before now ran written is =
    open_run_has cert certificate before now is asked ran.project Undecided ran.holds
open_has text cert certificate asked RoundsSpent before now ran written is =
    open_run_has cert certificate before now is asked ran.project RoundsSpent ran.holds
open_has text cert certificate asked Demand before now ran written is =
    open_run_has cert certificate before now is asked ran.project Demand ran.holds
open_has text cert certificate asked OutOfMemory before now ran written is = absurd written
open_has text cert certificate asked Usage before now ran written is = absurd written
open_has text cert certificate asked ReadFault before now ran written is = absurd written
open_has text cert certificate asked WriteFault before now ran written is = absurd written
open_has text cert certificate asked InputRefused before now ran written is = absurd written
open_has text cert certificate asked CertificateRefused before now ran written is = absurd written
open_has text cert certificate asked Stalled before now ran written is = absurd written
