-- What a run promises without a spread is what a run of the network promises.
use Rattle.std.proofs.Common.{◌≡◌, ℕ, Bool, List, [], ◌++◌, subst, ◌∙◌, map}
use Rattle.std.specs.Option.{option_map_or}
use Rattle.std.specs.Prelude.{Option, Some, None}
use Rattle.hyd_net.specs.Sound.{IsSound}
use Rattle.hyd_spec.specs.Lists.{joined}
use Rattle.hyd_spec.specs.NodeNumbers.{junction_count, tank_count}
use Rattle.hyd_spec.specs.ProgramTypes.{Project}
use Rattle.hyd_spec_certificates.specs.CertificateText.{header_line, end_line}
use Rattle.hyd_spec_open_checks.specs.OpenRunsBrokenOff.{EndIsSo, RunBreaksOffOpenly}
use Rattle.hyd_spec_open_ends.specs.OpenCertificateText.{open_version, open_record_text, IsOpenCertificateText}
use Rattle.hyd_spec_open_ends.specs.OpenStandings.{OpenStanding, OpenRecord}
use Rattle.hyd_spec_open_reports.specs.OpenReportLine.{OpenLine, open_report_text}
use Rattle.hyd_spec_open_reports.specs.PromisesOfOpenReports.{RunTellsOpenly, cause_of}
use Rattle.hyd_spec_reports.specs.PromisesOfRunsAndChecks.{Sharpness, Outcome, is_finished, last_line}
use Rattle.hyd_spec_spread.specs.Spreads.{no_spread}
use Rattle.hyd_spec_spread_promises.specs.PromisesOfSpreadRuns.{RunTellsOver, EndIsOver, RunBreaksOffOver}
use Rattle.hyd_theorems_on_spread_promises.proofs.ReportedRunsAlone.{told_alone, sharp_told}
use Rattle.hyd_theorems_on_spread_promises.proofs.StopsAlone.{ends_alone}

-- a certificate of so many records is one of as many others that are the same
pub same_certificate : (text : List ℕ) (junctions tanks : ℕ) (a b : List OpenRecord) (m n : ℕ) (finished : Bool)
    → a ≡ b → m ≡ n → IsOpenCertificateText text junctions tanks a m finished
    → IsOpenCertificateText text junctions tanks b n finished
same_certificate text junctions tanks a b m n finished rows count is =
    subst (λ (k : ℕ). IsOpenCertificateText text junctions tanks b k finished) count
    (subst (λ (rs : List OpenRecord). IsOpenCertificateText text junctions tanks rs m finished) rows is)

module _ (project : Project) (sound : IsSound project) (slack rounds : ℕ) (sharpness : Sharpness) where
  pub tells_alone : (outcome : Outcome) (written printed : List ℕ)
      → RunTellsOver project no_spread slack rounds sharpness outcome written printed
      → RunTellsOpenly project slack rounds sharpness outcome written printed
  tells_alone outcome written printed tells =
      let alone = told_alone project sound slack tells.reports tells.left tells.is_run tells.are_reports in
      record {
        reports = alone.reports;
        left = tells.left;
        is_run = alone.is_run;
        are_reports = alone.are_reports;
        sharp = sharp_told project slack tells.reports tells.left sharpness alone tells.sharp;
        ends_so = ends_alone project sound tells.left slack rounds (cause_of outcome) tells.ends_so;
        certificate = same_certificate written (junction_count project) (tank_count project) _ _ _ _
            (is_finished outcome) alone.rows alone.count tells.certificate;
        report = tells.report ∙ (λ i. open_report_text project (alone.lines i)
            (last_line project tells.left.known (alone.count i) outcome));
        every_history = alone.every_history;
        every_line = alone.every_line;
      }

  -- ---- broken off

  end-alone : (left : OpenStanding) (last : Option Outcome) → EndIsOver project no_spread left slack rounds last
      → EndIsSo project left slack rounds last
  end-alone left None ends = ends
  end-alone left (Some outcome) ends = ends_alone project sound left slack rounds (cause_of outcome) ends

  abbrev certificate-text : Option Outcome → List OpenRecord → ℕ → List ℕ
  certificate-text last rows count =
      header_line open_version (junction_count project) (tank_count project)
      ++ (joined (map open_record_text rows)
      ++ option_map_or (λ (outcome : Outcome). end_line count (is_finished outcome)) last [])

  abbrev report-text : OpenStanding → Option Outcome → List OpenLine → ℕ → List ℕ
  report-text left last lines count =
      open_report_text project lines (option_map_or (last_line project left.known count) last [])

  pub breaks_off_alone : (written printed : List ℕ)
      → RunBreaksOffOver project no_spread slack rounds sharpness written printed
      → RunBreaksOffOpenly project slack rounds sharpness written printed
  breaks_off_alone written printed breaks =
      let alone = told_alone project sound slack breaks.reports breaks.left breaks.is_run breaks.are_reports in
      record {
        reports = alone.reports;
        left = breaks.left;
        is_run = alone.is_run;
        are_reports = alone.are_reports;
        sharp = sharp_told project slack breaks.reports breaks.left sharpness alone breaks.sharp;
        last = breaks.last;
        ends_so = end-alone breaks.left breaks.last breaks.ends_so;
        unwritten = breaks.unwritten;
        front_of_certificate = breaks.front_of_certificate
            ∙ (λ i. certificate-text breaks.last (alone.rows i) (alone.count i));
        unprinted = breaks.unprinted;
        front_of_report = breaks.front_of_report
            ∙ (λ i. report-text breaks.left breaks.last (alone.lines i) (alone.count i));
        every_history = alone.every_history;
        every_line = alone.every_line;
      }
