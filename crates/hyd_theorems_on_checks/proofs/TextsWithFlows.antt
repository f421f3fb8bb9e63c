-- The certificate of a run that names links has flows, and of a text with flows a check says what it says of such
-- texts.
use Rattle.std.proofs.Common.{◌≡◌, ℕ, Bool, true, List, length, subst}
use Rattle.std.specs.Prelude.{MatchBool}
use Rattle.hyd_spec.specs.ProgramTypes.{Project}
use Rattle.hyd_spec.specs.NodeNumbers.{junction_count, tank_count}
use Rattle.hyd_spec_flows.specs.FlowTexts.{is_with_flows}
use Rattle.hyd_spec_reports_with_flows.specs.PromisesWithFlows.{entries_of}
use Rattle.hyd_cert_check.specs.Checks.{CheckEnds, CheckEndsPlainly, CheckFinds, CheckFindsPlainly}
use Rattle.hyd_cert_check.specs.ChecksWithFlows.{CheckEndsNaming, CheckFindsNaming}
use Rattle.hyd_spec_check_ends.specs.declared.CheckEnd.{CheckEnd}
use Rattle.hyd_theorems_on_flow_texts.proofs.FirstLines.{flows_text}
use Rattle.hyd_theorems_on_checks.specs.CertificateOfRun.{IsCertificateOfRunNaming}

pub run_with_flows : (project : Project) (text : List ℕ) → IsCertificateOfRunNaming project text
    → is_with_flows text ≡ true
run_with_flows project text is =
    flows_text text (junction_count project) (tank_count project) (entries_of is.namings) (length is.namings)
    is.left.finished is.certificate

module _ (project : Project) (text : List ℕ) (has_flows : is_with_flows text ≡ true) where
  pub naming_end : (printed : List ℕ) (end : CheckEnd) → CheckEnds project text printed end
      → CheckEndsNaming project text printed end
  naming_end printed end ends =
      subst (λ (b : Bool). MatchBool b (CheckEndsNaming project text printed end)
      (CheckEndsPlainly project text printed end)) has_flows ends

  pub naming_find : (report : List ℕ) → CheckFinds project text report → CheckFindsNaming project text report
  naming_find report finds =
      subst (λ (b : Bool). MatchBool b (CheckFindsNaming project text report) (CheckFindsPlainly project text report))
      has_flows finds
