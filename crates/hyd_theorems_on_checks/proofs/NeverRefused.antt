-- A check never refuses the certificate of a run: where it ends, it accepts it, and prints its report.
use Rattle.std.proofs.Common.{◌≡◌, ℕ, List, length, refl}
use Rattle.hyd_spec.specs.ProgramTypes.{Project}
use Rattle.hyd_spec_reports.specs.ReportLine.{report_text}
use Rattle.hyd_spec_reports.specs.PromisesOfRunsAndChecks.{rows_of, lines_of, accepted_line}
use Rattle.hyd_cert.specs.FaultyLine.{IsCertificate}
use Rattle.hyd_cert.proofs.WholeTextLemmas.{fault_no_certificate, no_certificate_of_others}
use Rattle.hyd_sim.specs.RunView.{header_for}
use Rattle.hyd_cert_check.specs.Checks.{CheckRefusesGrammar, CheckRefusesCounts, CheckRefusal, CheckEnds}
use Rattle.hyd_cert_check.specs.Checks.{CheckEndsPlainly}
use Rattle.hyd_cert_check.specs.Checks.{grammar, counts, record_refused, other_end}
use Rattle.hyd_spec_check_ends.specs.declared.CheckEnd.{CheckEnd}
use Rattle.hyd_spec_check_ends.specs.declared.CheckEnd.TheVariants.{Accepted, Refused}
use Rattle.hyd_theorems_on_checks.specs.CertificateOfRun.{IsCertificateOfRun}
use Rattle.hyd_theorems_on_checks.proofs.RecordsNotRefused.{no_record_refused}
use Rattle.hyd_theorems_on_checks.proofs.TextsWithoutFlows.{run_without_flows, plain_end}
use Rattle.hyd_theorems_on_checks.proofs.EndLineNotRefused.{no_other_end, one_report}

module _ (project : Project) (text printed : List ℕ) where
  -- it is one with the header of the network
  own_header : IsCertificateOfRun project text → IsCertificate (header_for project) text
  own_header is = record {
    rows = rows_of is.founds;
    periods = length is.founds;
    finished = is.left.finished;
    is_text = is.certificate;
  }

  no_fault : IsCertificateOfRun project text → CheckRefusesGrammar project text printed → ⊥
  no_fault is refuses =
      let header = header_for project in
      fault_no_certificate header header text refuses.number refuses.is_fault (own_header is)

  no_other_counts : IsCertificateOfRun project text → CheckRefusesCounts project text printed → ⊥
  no_other_counts is refuses =
      no_certificate_of_others (header_for project) text refuses.other_header (own_header is)

  pub never_refused : IsCertificateOfRun project text → CheckRefusal project text printed → ⊥
  never_refused is (grammar refuses) = no_fault is refuses
  never_refused is (counts refuses) = no_other_counts is refuses
  never_refused is (record_refused cause refuses) = no_record_refused project text printed cause is refuses
  never_refused is (other_end refuses) = no_other_end project text printed is refuses

  accepted_by : (end : CheckEnd) → IsCertificateOfRun project text → CheckEndsPlainly project text printed end
      → end ≡ Accepted
  accepted_by Accepted is ends = refl
  accepted_by Refused is ends = absurd (never_refused is ends)

  pub ends_accepted : (end : CheckEnd) → IsCertificateOfRun project text → CheckEnds project text printed end
      → end ≡ Accepted
  ends_accepted end is ends =
      accepted_by end is (plain_end project text (run_without_flows project text is) printed end ends)

  report_by : (end : CheckEnd) (is : IsCertificateOfRun project text) → CheckEndsPlainly project text printed end
      → printed ≡ report_text project (lines_of is.founds) (accepted_line (length is.founds) is.left.finished)
  report_by Accepted is ends = one_report project text printed is ends
  report_by Refused is ends = absurd (never_refused is ends)

  pub ends_with_report : (end : CheckEnd) (is : IsCertificateOfRun project text) → CheckEnds project text printed end
      → printed ≡ report_text project (lines_of is.founds) (accepted_line (length is.founds) is.left.finished)
  ends_with_report end is ends =
      report_by end is (plain_end project text (run_without_flows project text is) printed end ends)
