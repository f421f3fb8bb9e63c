-- A check for a spread never refuses the certificate of a run for it with a slack, and what such a run writes is one.
use Rattle.std.proofs.Common.{◌≡◌, ℕ, suc, Bool, List, [], ◌∷◌, ◌++◌, length, refl, sym, ap, subst, ◌∙◌}
use Rattle.std.proofs.Common.{append_assoc}
use Rattle.std.specs.Prelude.{All}
use Rattle.std.proofs.lemmas.List.Elements.{All-push}
use Rattle.hyd_spec.specs.ProgramTypes.{Project}
use Rattle.hyd_spec.specs.NodeNumbers.{junction_count, tank_count}
use Rattle.hyd_spec_certificates.specs.declared.CertRefused.{CertRefused}
use Rattle.hyd_spec_reports.specs.PromisesOfRunsAndChecks.{Sharpness, Outcome, Finished, Stopped, is_finished}
use Rattle.hyd_spec_open_ends.specs.OpenStandings.{OpenStanding}
use Rattle.hyd_spec_open_ends.specs.OpenCertificateText.{IsOpenRow, IsOpenCertificateText}
use Rattle.hyd_spec_open_reports.specs.PromisesOfOpenReports.{cause_of}
use Rattle.hyd_spec_open_checks.specs.OpenChecks.{open_header_for}
use Rattle.hyd_open_certificates.specs.OpenTexts.{IsOpenCertificate}
use Rattle.hyd_open_certificates.proofs.WholeOpenTexts.{refused, refused_counts}
use Rattle.hyd_spec_spread.specs.Spreads.{Spread}
use Rattle.hyd_spec_spread_reports.specs.ClaimsWithinSpreads.{ReportedOver, periods_over}
use Rattle.hyd_spec_spread_stops.specs.StopsOfSpreads.{EndsOverSo}
use Rattle.hyd_spec_spread_promises.specs.PromisesOfSpreadRuns.{RunTellsOver, rows_over}
use Rattle.hyd_spec_spread_promises.specs.PromisesOfSpreadChecks.{CheckRefusesOver, CheckRefusesEndOver}
use Rattle.hyd_spec_spread_promises.specs.PromisesOfSpreadChecks.{CheckRefusalOver, grammar, counts, record_refused}
use Rattle.hyd_spec_spread_promises.specs.PromisesOfSpreadChecks.{other_end, CheckTellsOver}
use Rattle.hyd_theorems_on_open_refusals.proofs.OpenTexts.{one_reading, first_records}
use Rattle.hyd_theorems_on_spread_refusals.proofs.OneSpreadRefusal.{refused_invalid}
use Rattle.hyd_theorems_on_spread_checks.specs.CertificatesOfSpreadRuns.{IsCertificateOfRunOver}
use Rattle.hyd_theorems_on_spread_checks.proofs.OneSpreadRun.{one_run_over, next_valid_over}

pub periods_over_long : (reports : List ReportedOver) → length (periods_over reports) ≡ length reports
periods_over_long [] = refl
periods_over_long (each ∷ reports) = ap suc (periods_over_long reports)

module _ (project : Project) (spread : Spread) (text : List ℕ) where
  -- the records of such a refusal, with the one that is refused, fit a certificate
  pub refused_fit : (printed : List ℕ) (cause : CertRefused)
      → (x : CheckRefusesOver project spread text printed cause)
      → All (IsOpenRow (junction_count project) (tank_count project))
      (rows_over (periods_over x.reports) ++ (x.found ∷ []))
  refused_fit printed cause x =
      All-push (IsOpenRow (junction_count project) (tank_count project)) (rows_over (periods_over x.reports)) x.found
      x.of_run.rows_fit x.fits

  -- ---- the certificate of a run

  module _ (is : IsCertificateOfRunOver project spread text) where
    no-record : (printed : List ℕ) (cause : CertRefused) → CheckRefusesOver project spread text printed cause → ⊥
    no-record printed cause refuses =
        let before = rows_over (periods_over refuses.reports) in
        let front = first_records text refuses.is_text.unread (junction_count project) (tank_count project)
        (length is.founds) (rows_over is.founds) (before ++ (refuses.found ∷ [])) is.left.known.finished
        is.certificate (refused_fit printed cause refuses) refuses.is_text.is_text in
        let at = next_valid_over project spread refuses.of_run.slack is.slack (periods_over refuses.reports) is.founds
        refuses.found front.0 refuses.left is.left refuses.of_run.is_run is.is_run
        (front.1 ∙ append_assoc before (refuses.found ∷ []) front.0) in
        refused_invalid project spread refuses.left refuses.found cause refuses.refused at.0 at.1 at.2

    no-end : (printed : List ℕ) → CheckRefusesEndOver project spread text printed → ⊥
    no-end printed refuses =
        let one = one_reading text (junction_count project) (tank_count project) (length is.founds) refuses.periods
        (rows_over is.founds) (rows_over (periods_over refuses.reports)) is.left.known.finished refuses.finished
        is.certificate refuses.certificate in
        let same = one_run_over project spread is.slack refuses.of_run.slack is.founds (periods_over refuses.reports)
        is.left refuses.left is.is_run refuses.of_run.is_run one.0 in
        refuses.other_end (
          sym one.1.0 ∙ (ap length same.0 ∙ periods_over_long refuses.reports),
          sym one.1.1 ∙ ap (λ (s : OpenStanding). s.known.finished) same.1,
        )

    its-text : IsOpenCertificate (open_header_for project) text
    its-text = record {
      known = refl;
      rows = rows_over is.founds;
      periods = length is.founds;
      finished = is.left.known.finished;
      is_text = is.certificate;
    }

    pub over_not_refused : (printed : List ℕ) → CheckRefusalOver project spread text printed → ⊥
    over_not_refused printed (grammar refuses) =
        refused (open_header_for project) (open_header_for project) text refuses.number refuses.is_fault its-text
    over_not_refused printed (counts refuses) =
        refused_counts (open_header_for project) text refuses.other_header its-text
    over_not_refused printed (record_refused cause refuses) = no-record printed cause refuses
    over_not_refused printed (other_end refuses) = no-end printed refuses

-- ---- what runs write and checks accept

-- the END line of a run's reports tells the number of its periods
by-periods : (project : Project) (text : List ℕ) (reports : List ReportedOver) (finished : Bool)
    → IsOpenCertificateText text (junction_count project) (tank_count project) (rows_over (periods_over reports))
    (length reports) finished
    → IsOpenCertificateText text (junction_count project) (tank_count project) (rows_over (periods_over reports))
    (length (periods_over reports)) finished
by-periods project text reports finished certificate =
    subst (λ (n : ℕ). IsOpenCertificateText text (junction_count project) (tank_count project)
    (rows_over (periods_over reports)) n finished) (sym (periods_over_long reports)) certificate

-- whether a run has finished is what its last standing says
finished-so : (project : Project) (spread : Spread) (left : OpenStanding) (slack rounds : ℕ) (outcome : Outcome)
    → EndsOverSo project spread left slack rounds (cause_of outcome) → is_finished outcome ≡ left.known.finished
finished-so project spread left slack rounds Finished ends = sym ends
finished-so project spread left slack rounds (Stopped cause) ends = sym ends.0

pub tells_certificate : (project : Project) (spread : Spread) (slack rounds : ℕ) (sharpness : Sharpness)
    (outcome : Outcome) (written printed : List ℕ)
    → RunTellsOver project spread slack rounds sharpness outcome written printed
    → IsCertificateOfRunOver project spread written
tells_certificate project spread slack rounds sharpness outcome written printed run = record {
  slack = slack;
  founds = periods_over run.reports;
  left = run.left;
  is_run = run.is_run;
  certificate = by-periods project written run.reports run.left.known.finished
      (subst (λ (b : Bool). IsOpenCertificateText written (junction_count project) (tank_count project)
      (rows_over (periods_over run.reports)) (length run.reports) b)
      (finished-so project spread run.left slack rounds outcome run.ends_so) run.certificate);
}

pub accepted_certificate : (project : Project) (spread : Spread) (text printed : List ℕ)
    → CheckTellsOver project spread text printed → IsCertificateOfRunOver project spread text
accepted_certificate project spread text printed tells = record {
  slack = tells.of_run.slack;
  founds = periods_over tells.reports;
  left = tells.left;
  is_run = tells.of_run.is_run;
  certificate = by-periods project text tells.reports tells.left.known.finished tells.certificate;
}
