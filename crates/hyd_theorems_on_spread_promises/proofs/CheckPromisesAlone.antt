-- What a check promises without a spread is what a check without one promises.
use Rattle.std.proofs.Common.{ℕ, List, [], ◌∷◌, ◌++◌, sym, ap, subst, ◌∙◌, inl, inr, length}
use Rattle.std.specs.Prelude.{All}
use Rattle.std.proofs.lemmas.List.Elements.{All-append, All-from_recursion}
use Rattle.hyd_net.specs.Sound.{IsSound}
use Rattle.hyd_spec.specs.NodeNumbers.{junction_count, tank_count}
use Rattle.hyd_spec.specs.ProgramTypes.{Project}
use Rattle.hyd_spec_certificates.specs.CertificateText.{line_feeds}
use Rattle.hyd_spec_certificates.specs.declared.CertRefused.{CertRefused}
use Rattle.hyd_spec_check_ends.specs.LinesOfRefusals.{refused_grammar_line, printed_number}
use Rattle.hyd_spec_check_ends.specs.declared.CheckEnd.{CheckEnd}
use Rattle.hyd_spec_check_ends.specs.declared.CheckEnd.TheVariants.{Accepted, Refused}
use Rattle.hyd_spec_open_checks.specs.OpenChecks.{BeginsWithOpenRecords, BeginsWithReported, HasNoMoreOpenRecords}
use Rattle.hyd_spec_open_checks.specs.OpenChecks.{CheckRefusesOpenGrammar, CheckRefusesOpenCounts, OpenCheckRefusal}
use Rattle.hyd_spec_open_checks.specs.OpenChecks.{grammar as by_grammar, counts as by_counts}
use Rattle.hyd_spec_open_checks.specs.OpenChecks.{record_refused as by_record, other_end as by_end, CheckEndsOpenly}
use Rattle.hyd_spec_open_checks.specs.OpenChecks.{CheckFindsOpenly, CheckBreaksOffOpenly}
use Rattle.hyd_spec_open_checks.specs.OpenChecks.{in_last_line as off_in_last_line, in_records as off_in_records}
use Rattle.hyd_spec_open_ends.specs.OpenCertificateText.{IsOpenRow, IsOpenCertificateText}
use Rattle.hyd_spec_open_ends.specs.OpenStandings.{OpenStanding, OpenRecord}
use Rattle.hyd_spec_open_ends.specs.PromisesOfOpenRuns.{open_rows_of}
use Rattle.hyd_spec_open_refusals.specs.RefusalsOfOpenChecks.{CheckRefusesOpenly, CheckRefusesOpenEnd}
use Rattle.hyd_spec_open_reports.specs.OpenReportLine.{open_report_text}
use Rattle.hyd_spec_open_reports.specs.PromisesOfOpenReports.{periods_of, CheckTellsOpenly}
use Rattle.hyd_spec_reports.specs.PromisesOfRunsAndChecks.{accepted_line}
use Rattle.hyd_spec_reports.specs.ReportLine.{refused_line, refused_end_line}
use Rattle.hyd_spec_spread.specs.Spreads.{no_spread}
use Rattle.hyd_spec_spread_promises.specs.PromisesOfSpreadChecks.{AreOfRunOver, BeginsWithReportedOver}
use Rattle.hyd_spec_spread_promises.specs.PromisesOfSpreadChecks.{HasNoMoreRecordsOver, CheckTellsOver}
use Rattle.hyd_spec_spread_promises.specs.PromisesOfSpreadChecks.{CheckRefusesOver, CheckRefusesEndOver, CheckRefusesGrammarOver}
use Rattle.hyd_spec_spread_promises.specs.PromisesOfSpreadChecks.{CheckRefusesCountsOver, CheckRefusalOver, grammar}
use Rattle.hyd_spec_spread_promises.specs.PromisesOfSpreadChecks.{counts, record_refused, other_end, CheckEndsOver}
use Rattle.hyd_spec_spread_promises.specs.PromisesOfSpreadChecks.{CheckFindsOver, CheckBreaksOffOver, in_last_line}
use Rattle.hyd_spec_spread_promises.specs.PromisesOfSpreadChecks.{in_records}
use Rattle.hyd_spec_spread_reports.specs.ClaimsWithinSpreads.{ReportedOver}
use Rattle.hyd_lemmas.proofs.ListsOptionsAndResults.{no_items}
use Rattle.hyd_theorems_on_spread_promises.proofs.RefusalsAlone.{refused_alone}
use Rattle.hyd_theorems_on_spread_promises.proofs.ReportedRunsAlone.{AreToldOf, told_alone}
use Rattle.hyd_theorems_on_spread_promises.proofs.RunPromisesAlone.{same_certificate}

-- ---- what is checked so far

module _ (project : Project) (sound : IsSound project) (reports : List ReportedOver) (left : OpenStanding)
    (of_run : AreOfRunOver project no_spread reports left) where
  alone : AreToldOf project of_run.slack reports left
  alone = told_alone project sound of_run.slack reports left of_run.is_run of_run.are_reports

  rows-fit : All (IsOpenRow (junction_count project) (tank_count project)) (open_rows_of (periods_of alone.reports))
  rows-fit =
      subst (All (IsOpenRow (junction_count project) (tank_count project))) alone.rows of_run.rows_fit

  begins-alone : (text : List ℕ) → BeginsWithReportedOver project reports text
      → BeginsWithReported project alone.reports text
  begins-alone text (inl none) =
      inl (no_items alone.reports (sym alone.count ∙ ap (λ (rs : List ReportedOver). length rs) none))
  begins-alone text (inr begins) =
      inr (subst (λ (rows : List OpenRecord). BeginsWithOpenRecords project rows text) alone.rows begins)

  no-more-alone : (text : List ℕ) → HasNoMoreRecordsOver project reports text
      → HasNoMoreOpenRecords project alone.reports text
  no-more-alone text none found fits begins = none found fits
      (subst (λ (rows : List OpenRecord). BeginsWithOpenRecords project (rows ++ (found ∷ [])) text) (sym alone.rows)
      begins)

module _ (project : Project) (sound : IsSound project) (text printed : List ℕ) where
  -- ---- accepted

  pub accepts_alone : CheckTellsOver project no_spread text printed → CheckTellsOpenly project text printed
  accepts_alone tells =
      let told = alone project sound tells.reports tells.left tells.of_run in
      record {
        slack = tells.of_run.slack;
        reports = told.reports;
        left = tells.left;
        is_run = told.is_run;
        are_reports = told.are_reports;
        certificate = same_certificate text (junction_count project) (tank_count project) _ _ _ _
            tells.left.known.finished told.rows told.count tells.certificate;
        report = tells.report ∙ (λ i. open_report_text project (told.lines i)
            (accepted_line (told.count i) tells.left.known.finished));
        every_history = told.every_history;
        every_line = told.every_line;
      }

  -- ---- refused

  record-alone : (cause : CertRefused) → CheckRefusesOver project no_spread text printed cause
      → CheckRefusesOpenly project text printed cause
  record-alone cause over =
      let told = alone project sound over.reports over.left over.of_run in
      let fits = IsOpenRow (junction_count project) (tank_count project) in
      let begins : BeginsWithOpenRecords project (open_rows_of (periods_of told.reports) ++ (over.found ∷ [])) text =
      subst (λ (rows : List OpenRecord). BeginsWithOpenRecords project (rows ++ (over.found ∷ [])) text) told.rows
      over.is_text in
      record {
        slack = over.of_run.slack;
        reports = told.reports;
        left = over.left;
        is_run = told.is_run;
        are_reports = told.are_reports;
        found = over.found;
        refused = refused_alone project sound over.left over.found cause over.refused;
        rows_fit = All-append fits (open_rows_of (periods_of told.reports)) (over.found ∷ [])
            (rows-fit project sound over.reports over.left over.of_run)
            (All-from_recursion fits (over.found ∷ []) (over.fits, tt));
        unread = begins.unread;
        is_text = begins.is_text;
        report = over.report ∙ (λ i. open_report_text project (told.lines i) (refused_line project cause));
        every_history = told.every_history;
        every_line = told.every_line;
      }

  end-alone : CheckRefusesEndOver project no_spread text printed → CheckRefusesOpenEnd project text printed
  end-alone over =
      let told = alone project sound over.reports over.left over.of_run in
      record {
        slack = over.of_run.slack;
        reports = told.reports;
        left = over.left;
        is_run = told.is_run;
        are_reports = told.are_reports;
        periods = over.periods;
        finished = over.finished;
        certificate = subst (λ (rows : List OpenRecord). IsOpenCertificateText text (junction_count project)
            (tank_count project) rows over.periods over.finished) told.rows over.certificate;
        other_end = λ same. over.other_end (same.0 ∙ sym told.count, same.1);
        report = over.report ∙ (λ i. open_report_text project (told.lines i) (refused_end_line (line_feeds text)));
        every_history = told.every_history;
        every_line = told.every_line;
      }

  grammar-alone : CheckRefusesGrammarOver project no_spread text printed
      → CheckRefusesOpenGrammar project text printed
  grammar-alone over =
      let told = alone project sound over.reports over.left over.of_run in
      record {
        slack = over.of_run.slack;
        reports = told.reports;
        left = over.left;
        is_run = told.is_run;
        are_reports = told.are_reports;
        rows_fit = rows-fit project sound over.reports over.left over.of_run;
        begins = begins-alone project sound over.reports over.left over.of_run text over.begins;
        all_records = no-more-alone project sound over.reports over.left over.of_run text over.all_records;
        number = over.number;
        is_fault = over.is_fault;
        report = over.report
            ∙ (λ i. open_report_text project (told.lines i) (refused_grammar_line (printed_number over.number)));
        every_history = told.every_history;
        every_line = told.every_line;
      }

  counts-alone : CheckRefusesCountsOver project no_spread text printed → CheckRefusesOpenCounts project text printed
  counts-alone over = record { other_header = over.other_header; report = over.report }

  pub refuses_alone : CheckRefusalOver project no_spread text printed → OpenCheckRefusal project text printed
  refuses_alone (grammar over) = by_grammar (grammar-alone over)
  refuses_alone (counts over) = by_counts (counts-alone over)
  refuses_alone (record_refused cause over) = by_record cause (record-alone cause over)
  refuses_alone (other_end over) = by_end (end-alone over)

  pub check_ends_alone : (end : CheckEnd) → CheckEndsOver project no_spread text printed end
      → CheckEndsOpenly project text printed end
  check_ends_alone Accepted over = accepts_alone over
  check_ends_alone Refused over = refuses_alone over

  -- ---- so far

  pub finds_alone : CheckFindsOver project no_spread text printed → CheckFindsOpenly project text printed
  finds_alone over =
      let told = alone project sound over.reports over.left over.of_run in
      record {
        slack = over.of_run.slack;
        reports = told.reports;
        left = over.left;
        is_run = told.is_run;
        are_reports = told.are_reports;
        rows_fit = rows-fit project sound over.reports over.left over.of_run;
        begins = begins-alone project sound over.reports over.left over.of_run text over.begins;
        report_so_far = over.report_so_far ∙ (λ i. open_report_text project (told.lines i) []);
        every_history = told.every_history;
        every_line = told.every_line;
      }

pub check_breaks_off_alone : (project : Project) → IsSound project → (text printed : List ℕ)
    → CheckBreaksOffOver project no_spread text printed → CheckBreaksOffOpenly project text printed
check_breaks_off_alone project sound text printed (in_last_line end unprinted over) =
    off_in_last_line end unprinted (check_ends_alone project sound text (printed ++ unprinted) end over)
check_breaks_off_alone project sound text printed (in_records unprinted over) =
    off_in_records unprinted (finds_alone project sound text (printed ++ unprinted) over)
