-- The END line of the certificate of a run is the right one, and its report is one.
use Rattle.std.proofs.Common.{◌≡◌, ℕ, Bool, List, length, sym, ap, ap₂, ◌∙◌}
use Rattle.hyd_spec.specs.ProgramTypes.{Project}
use Rattle.hyd_spec.specs.NodeNumbers.{junction_count, tank_count}
use Rattle.hyd_spec_certificates.specs.RecordAndStanding.{Standing, initial_standing}
use Rattle.hyd_spec_certificates.specs.CertificateText.{IsCertificateText, version_of}
use Rattle.hyd_spec_reports.specs.ReportLine.{report_text}
use Rattle.hyd_spec_reports.specs.PromisesOfRunsAndChecks.{Found, IsRun, rows_of, lines_of, accepted_line}
use Rattle.hyd_spec_reports.specs.PromisesOfRunsAndChecks.{CheckAccepts, CheckRefusesEnd}
use Rattle.hyd_theorems_on_definitions.proofs.CertificateLines.{contents-same}
use Rattle.hyd_theorems_on_runs.proofs.OneRun.{one_left}
use Rattle.hyd_theorems_on_checks.specs.CertificateOfRun.{IsCertificateOfRun}
use Rattle.hyd_theorems_on_checks.proofs.RunsByRecords.{one_by_records}

-- what the text says, and what is found of its records
record SaysSo (is : List Found) (left : Standing) (founds : List Found) (last : Standing) (periods : ℕ)
    (finished : Bool)
    : Type 0 where
  same : is ≡ founds
  leaves : left ≡ last
  number : length is ≡ periods
  word : left.finished ≡ finished

says_so : (project : Project) (text : List ℕ) (is : IsCertificateOfRun project text) (founds : List Found)
    (left : Standing) (periods : ℕ) (finished : Bool) → IsRun project founds left
    → IsCertificateText text (version_of project) (junction_count project) (tank_count project) (rows_of founds) periods
    finished
    → SaysSo is.founds is.left founds left periods finished
says_so project text is founds left periods finished run certificate =
    let start = initial_standing project in
    let n = junction_count project in
    let k = tank_count project in
    let contents = contents-same text (version_of project) (version_of project) n n k k (length is.founds) periods
    (rows_of is.founds) (rows_of founds) is.left.finished finished is.certificate certificate in
    let same = one_by_records project start is.founds founds is.left left is.is_run run contents.0 in
    record {
      same = same;
      leaves = one_left project start is.founds founds is.left left is.is_run run same;
      number = contents.1.0;
      word = contents.1.1;
    }

pub no_other_end : (project : Project) (text printed : List ℕ) → IsCertificateOfRun project text
    → CheckRefusesEnd project text printed → ⊥
no_other_end project text printed is refuses =
    let k = says_so project text is refuses.founds refuses.left refuses.periods refuses.finished refuses.is_run
    refuses.certificate in
    refuses.other_end (
      sym k.number ∙ ap (λ (founds : List Found). length founds) k.same,
      sym k.word ∙ ap (λ (s : Standing). s.finished) k.leaves,
    )

pub one_report : (project : Project) (text printed : List ℕ) (is : IsCertificateOfRun project text)
    → CheckAccepts project text printed
    → printed ≡ report_text project (lines_of is.founds) (accepted_line (length is.founds) is.left.finished)
one_report project text printed is accepts =
    let k = says_so project text is accepts.founds accepts.left (length accepts.founds) accepts.left.finished
    accepts.is_run accepts.certificate in
    let same = sym k.same in
    let leaves = sym k.leaves in
    accepts.report
    ∙ ap₂ (λ (founds : List Found) (s : Standing). report_text project (lines_of founds)
    (accepted_line (length founds) s.finished)) same leaves
