-- A run is a run of each network that differs in spares alone, with the same report.
use Rattle.std.proofs.Common.{◌≡◌, ℕ, List, sym, ap, subst, ◌∙◌}
use Rattle.hyd_spec.specs.ProgramTypes.{Project}
use Rattle.hyd_spec_certificates.specs.RecordAndStanding.{Standing, initial_standing}
use Rattle.hyd_spec_reports.specs.ReportLine.{ReportLine, report_text}
use Rattle.hyd_spec_reports.specs.PromisesOfRunsAndChecks.{Found, IsFound, IsRunFrom, IsRun, none, more}
use Rattle.hyd_theorems_on_rereading.specs.WithoutSpare.{bare_project}
use Rattle.hyd_theorems_on_rereading.proofs.PartsWithSpares.{Inner, with_inner, AreAlike, own_inner, bare_inner}
use Rattle.hyd_theorems_on_rereading.proofs.PartsWithSpares.{bare_alike}
use Rattle.hyd_theorems_on_rereading.proofs.PartsWithSpares.{turned}
use Rattle.hyd_theorems_on_rereading.proofs.SameValidRecords.{valid_on, same_initial}
use Rattle.hyd_theorems_on_rereading.proofs.SameReports.{report_on, same_report}

module _ (p : Project) (x y : Inner) (alike : AreAlike x y) where
  found_on : (found : Found) → IsFound (with_inner p x) found → IsFound (with_inner p y) found
  found_on found is = record {
    valid = valid_on p x y alike found.standing found.grid found.row found.next is.valid;
    report = report_on p x y alike found.grid found.standing found.row found.lines is.report;
  }

  run_from_on : (standing : Standing) (founds : List Found) (last : Standing)
      → IsRunFrom (with_inner p x) standing founds last → IsRunFrom (with_inner p y) standing founds last
  run_from_on _ _ _ none = none
  run_from_on _ _ last (more {found = found} {rest = rest} is on) =
      more (found_on found is) (run_from_on found.next rest last on)

  run_on : (founds : List Found) (last : Standing) → IsRun (with_inner p x) founds last
      → IsRun (with_inner p y) founds last
  run_on founds last run =
      subst (λ (s : Standing). IsRunFrom (with_inner p y) s founds last) (same_initial p x y alike)
      (run_from_on (initial_standing (with_inner p x)) founds last run)

pub runs : (p q : Project) → bare_project p ≡ bare_project q → (founds : List Found) (last : Standing)
    → IsRun p founds last → IsRun q founds last
runs p q same founds last run =
    run_on q (bare_inner q) (own_inner q) (turned (own_inner q) (bare_inner q) (bare_alike q)) founds last
    (subst (λ (r : Project). IsRun r founds last) same
    (run_on p (own_inner p) (bare_inner p) (bare_alike p) founds last run))

bare_report : (p : Project) (lines : List ReportLine) (last : List ℕ)
    → report_text p lines last ≡ report_text (bare_project p) lines last
bare_report p lines last = same_report p (own_inner p) (bare_inner p) (bare_alike p) lines last

pub reports : (p q : Project) → bare_project p ≡ bare_project q → (lines : List ReportLine) (last : List ℕ)
    → report_text p lines last ≡ report_text q lines last
reports p q same lines last =
    bare_report p lines last
    ∙ (ap (λ (r : Project). report_text r lines last) same ∙ sym (bare_report q lines last))
