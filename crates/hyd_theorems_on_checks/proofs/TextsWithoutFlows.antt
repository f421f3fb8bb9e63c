-- The certificate of a run has no flows, and of a text without flows a check says what it says of such texts.
use Rattle.std.proofs.Common.{◌≡◌, ℕ, Bool, false, List, length, subst}
use Rattle.std.specs.Prelude.{MatchBool}
use Rattle.hyd_spec.specs.ProgramTypes.{Project}
use Rattle.hyd_spec.specs.NodeNumbers.{junction_count, tank_count}
use Rattle.hyd_spec_certificates.specs.CertificateText.{version_of}
use Rattle.hyd_spec_reports.specs.PromisesOfRunsAndChecks.{rows_of}
use Rattle.hyd_spec_flows.specs.FlowTexts.{is_with_flows}
use Rattle.hyd_cert_check.specs.Checks.{CheckEnds, CheckEndsPlainly, CheckFinds, CheckFindsPlainly}
use Rattle.hyd_cert_check.specs.ChecksWithFlows.{CheckEndsNaming, CheckFindsNaming}
use Rattle.hyd_spec_check_ends.specs.declared.CheckEnd.{CheckEnd}
use Rattle.hyd_theorems_on_flow_texts.proofs.FirstLines.{plain_text}
use Rattle.hyd_theorems_on_checks.specs.CertificateOfRun.{IsCertificateOfRun}

pub run_without_flows : (project : Project) (text : List ℕ) → IsCertificateOfRun project text
    → is_with_flows text ≡ false
run_without_flows project text is =
    plain_text text (version_of project) (junction_count project) (tank_count project) (rows_of is.founds)
    (length is.founds) is.left.finished is.certificate

module _ (project : Project) (text : List ℕ) (has_none : is_with_flows text ≡ false) where
  pub plain_end : (printed : List ℕ) (end : CheckEnd) → CheckEnds project text printed end
      → CheckEndsPlainly project text printed end
  plain_end printed end ends =
      subst (λ (b : Bool). MatchBool b (CheckEndsNaming project text printed end)
      (CheckEndsPlainly project text printed end)) has_none ends

  pub plain_find : (report : List ℕ) → CheckFinds project text report → CheckFindsPlainly project text report
  plain_find report finds =
      subst (λ (b : Bool). MatchBool b (CheckFindsNaming project text report) (CheckFindsPlainly project text report))
      has_none finds
