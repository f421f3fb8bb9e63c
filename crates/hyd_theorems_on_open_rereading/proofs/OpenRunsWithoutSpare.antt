-- A run with a slack is one of each network that differs in spares alone, with the same report and certificate.
use Rattle.std.proofs.Common.{◌≡◌, ℕ, Bool, List, sym, ap, subst, ◌∙◌}
use Rattle.hyd_spec.specs.ProgramTypes.{Project}
use Rattle.hyd_spec.specs.NodeNumbers.{junction_count, tank_count}
use Rattle.hyd_spec_open_ends.specs.OpenStandings.{OpenStanding, OpenRecord}
use Rattle.hyd_spec_open_ends.specs.OpenRuns.{OpenFound, IsOpenRun}
use Rattle.hyd_spec_open_ends.specs.OpenCertificateText.{IsOpenCertificateText}
use Rattle.hyd_spec_open_reports.specs.OpenReportLine.{OpenLine, open_report_text}
use Rattle.hyd_spec_open_reports.specs.PromisesOfOpenReports.{Reported, AreReports}
use Rattle.hyd_theorems_on_rereading.specs.WithoutSpare.{bare_project}
use Rattle.hyd_theorems_on_rereading.proofs.PartsWithSpares.{own_inner, bare_inner, bare_alike, turned}
use Rattle.hyd_theorems_on_rereading.proofs.SameHeaders.{same_junctions, same_tanks}
use Rattle.hyd_theorems_on_open_rereading.proofs.SameOpenRecords.{run_on}
use Rattle.hyd_theorems_on_open_rereading.proofs.SameOpenReports.{reports_on, same_open_report}

pub open_runs : (p q : Project) → bare_project p ≡ bare_project q → (slack : ℕ) (founds : List OpenFound)
    (last : OpenStanding) → IsOpenRun p slack founds last → IsOpenRun q slack founds last
open_runs p q same slack founds last run =
    run_on q (bare_inner q) (own_inner q) (turned (own_inner q) (bare_inner q) (bare_alike q)) slack founds last
    (subst (λ (r : Project). IsOpenRun r slack founds last) same
    (run_on p (own_inner p) (bare_inner p) (bare_alike p) slack founds last run))

pub open_reports : (p q : Project) → bare_project p ≡ bare_project q → (reports : List Reported) → AreReports p reports
    → AreReports q reports
open_reports p q same reports are =
    reports_on q (bare_inner q) (own_inner q) (turned (own_inner q) (bare_inner q) (bare_alike q)) reports
    (subst (λ (r : Project). AreReports r reports) same
    (reports_on p (own_inner p) (bare_inner p) (bare_alike p) reports are))

bare_report : (p : Project) (lines : List OpenLine) (last : List ℕ)
    → open_report_text p lines last ≡ open_report_text (bare_project p) lines last
bare_report p lines last = same_open_report p (own_inner p) (bare_inner p) (bare_alike p) lines last

pub open_texts : (p q : Project) → bare_project p ≡ bare_project q → (lines : List OpenLine) (last : List ℕ)
    → open_report_text p lines last ≡ open_report_text q lines last
open_texts p q same lines last =
    bare_report p lines last
    ∙ (ap (λ (r : Project). open_report_text r lines last) same ∙ sym (bare_report q lines last))

pub open_certificates : (p q : Project) → bare_project p ≡ bare_project q → (text : List ℕ) (rows : List OpenRecord)
    (periods : ℕ) (finished : Bool)
    → IsOpenCertificateText text (junction_count p) (tank_count p) rows periods finished
    → IsOpenCertificateText text (junction_count q) (tank_count q) rows periods finished
open_certificates p q same text rows periods finished is =
    subst (λ (n : ℕ). IsOpenCertificateText text n (tank_count q) rows periods finished) (same_junctions p q same)
    (subst (λ (k : ℕ). IsOpenCertificateText text (junction_count p) k rows periods finished) (same_tanks p q same) is)
