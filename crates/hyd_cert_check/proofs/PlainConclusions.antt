-- What is found where the records of a text without flows end, as of the whole text.
use Rattle.std.proofs.Common.{◌≡◌, ℕ, ◌^◌, ◌<◌, Bool, false, List, [], ◌∷◌, ◌++◌, length, map, All, Some, inl, inr}
use Rattle.std.proofs.Common.{sym, ap, subst, ◌∙◌, append_assoc, append-nil}
use Rattle.std.specs.List.{AllByRecursion}
use Rattle.std.proofs.lemmas.List.{length-map}
use Rattle.std.proofs.lemmas.List.Elements.{All-push}
use Rattle.hyd_net.specs.Sound.{IsSound}
use Rattle.hyd_spec.specs.ProgramTypes.{Project}
use Rattle.hyd_spec.specs.Lists.{joined}
use Rattle.hyd_spec.specs.NodeNumbers.{junction_count, tank_count}
use Rattle.hyd_spec_certificates.specs.RecordAndStanding.{Record, Standing}
use Rattle.hyd_spec_certificates.specs.CertificateText.{IsRow, IsCertificateText, record_text, end_line, line_feeds}
use Rattle.hyd_spec_certificates.specs.CertificateText.{version_of}
use Rattle.hyd_spec_reports.specs.ReportLine.{report_text, refused_line, refused_end_line}
use Rattle.hyd_spec_certificates.specs.RefusedRecords.{IsRefused}
use Rattle.hyd_spec_certificates.specs.declared.CertRefused.{CertRefused}
use Rattle.hyd_spec_reports.specs.PromisesOfRunsAndChecks.{Found, IsRun, rows_of, lines_of, accepted_line}
use Rattle.hyd_spec_reports.specs.PromisesOfRunsAndChecks.{CheckAccepts, CheckRefuses, CheckRefusesEnd}
use Rattle.hyd_spec_flows.specs.FlowTexts.{Entry}
use Rattle.hyd_spec_reports_with_flows.specs.PromisesWithFlows.{FoundNaming, IsFoundNaming, founds_in, entries_of}
use Rattle.hyd_spec_reports_with_flows.specs.PromisesWithFlows.{report_with_flows}
use Rattle.hyd_cert.specs.Lines.{header_text, header_words}
use Rattle.hyd_cert.specs.PlacesOfLines.{First, IsFault}
use Rattle.hyd_cert.specs.Faults.{HasOtherHeader}
use Rattle.hyd_cert.proofs.CertificatesLineByLine.{whole_reading}
use Rattle.hyd_cert.proofs.WholeTextLemmas.{first_fault}
use Rattle.hyd_lemmas.proofs.ListsOptionsAndResults.{join-more}
use Rattle.hyd_sim.specs.RunView.{header_for}
use Rattle.hyd_theorems_on_runs.proofs.HistoriesAlongRuns.{every_history}
use Rattle.hyd_spec_check_ends.specs.LinesOfRefusals.{refused_grammar_line, refused_counts_line, printed_number}
use Rattle.hyd_cert_check.specs.Checks.{BeginsWithFound, HasNoMoreRecords, CheckRefusesGrammar, CheckRefusesCounts}
use Rattle.hyd_cert_check.specs.Checks.{CheckFindsPlainly}
use Rattle.hyd_cert_check.specs.RecordByRecord.{entry_as_read, IsEntryAsRead}
use Rattle.hyd_cert_check.proofs.TextLemmas.{plain-report, plain-text, plain-fit, own-header, no-entries}
use Rattle.hyd_cert_check.proofs.ReadLemmas.{BeginsAsRead}

-- records and one more, and what is behind it
pub one-more : (front : List ℕ) (rows : List Record) (row : Record) (unread : List ℕ)
    → front ++ (joined (map record_text (rows ++ (row ∷ []))) ++ unread)
    ≡ (front ++ joined (map record_text rows)) ++ (record_text row ++ unread)
one-more front rows row unread =
    let last : joined (map record_text (rows ++ (row ∷ []))) ≡ joined (map record_text rows) ++ record_text row =
    join-more record_text rows row in
    ap (λ (t : List ℕ). front ++ (t ++ unread)) last
    ∙ (ap (λ (t : List ℕ). front ++ t) (append_assoc (joined (map record_text rows)) (record_text row) unread)
    ∙ sym (append_assoc front (joined (map record_text rows)) (record_text row ++ unread)))

module _ (project : Project) (sound : IsSound project) (left : Standing) (namings : List FoundNaming)
    (is_run : IsRun project (founds_in namings) left) (parts : AllByRecursion (IsFoundNaming project) namings)
    (fit : All (IsEntryAsRead false (junction_count project) (tank_count project)) (entries_of namings))
    (text : List ℕ) where
  abbrev founds : List Found
  founds = founds_in namings

  abbrev report-of : List ℕ → List ℕ
  report-of last = report_with_flows project namings last

  report-is : (last : List ℕ) → report-of last ≡ report_text project (lines_of founds) last
  report-is last = plain-report project (junction_count project) (tank_count project) namings last parts fit

  many : length founds ≡ length namings
  many = length-map namings (λ (n : FoundNaming). n.found)

  -- the text, by its records
  abbrev text-as : List ℕ → List ℕ
  text-as tail = header_text (header_for project) ++ (joined (map record_text (rows_of founds)) ++ tail)

  pub text-is : (tail : List ℕ)
      → text ≡ header_text (header_for project)
      ++ (joined (map (entry_as_read false) (entries_of namings)) ++ tail)
      → text ≡ text-as tail
  text-is tail is =
      is ∙ ap (λ (t : List ℕ). header_text (header_for project) ++ (t ++ tail)) (plain-text namings)

  -- ---- END lines

  certificate-is : (periods : ℕ) (finished : Bool) → periods < 2 ^ 32 → text ≡ text-as (end_line periods finished)
      → IsCertificateText text (version_of project) (junction_count project) (tank_count project) (rows_of founds)
      periods finished
  certificate-is periods finished fits is =
      whole_reading (header_for project) (header_words (header_for project)) text (rows_of founds) periods finished
      (own-header project sound) (plain-fit (junction_count project) (tank_count project) namings fit) fits is

  pub accepted : (count : ℕ) (finished : Bool) → length namings ≡ count → finished ≡ left.finished → count < 2 ^ 32
      → text ≡ text-as (end_line count finished)
      → CheckAccepts project text (report-of (accepted_line count finished))
  accepted count finished each same fits is =
      let n = junction_count project in
      let k = tank_count project in
      let all : length founds ≡ count = many ∙ each in
      record {
        founds = founds;
        left = left;
        is_run = is_run;
        certificate = subst (λ (m : ℕ). IsCertificateText text (version_of project) n k (rows_of founds) m
            left.finished) (sym all)
            (subst (λ (b : Bool). IsCertificateText text (version_of project) n k (rows_of founds) count b) same
            (certificate-is count finished fits is));
        report = report-is (accepted_line count finished)
            ∙ (ap (λ (m : ℕ). report_text project (lines_of founds) (accepted_line m finished)) (sym all)
            ∙ ap (λ (b : Bool). report_text project (lines_of founds) (accepted_line (length founds) b)) same);
        every_history = every_history project sound founds left is_run;
      }

  pub refused-end : (count line periods : ℕ) (finished : Bool) → length namings ≡ count → periods < 2 ^ 32
      → text ≡ text-as (end_line periods finished) → (((periods ≡ count) × (finished ≡ left.finished)) → ⊥)
      → line ≡ line_feeds text → CheckRefusesEnd project text (report-of (refused_end_line line))
  refused-end count line periods finished each fits is other number = record {
    founds = founds;
    left = left;
    is_run = is_run;
    periods = periods;
    finished = finished;
    certificate = certificate-is periods finished fits is;
    other_end = λ same. other (same.0 ∙ (many ∙ each), same.1);
    report = report-is (refused_end_line line)
        ∙ ap (λ (m : ℕ). report_text project (lines_of founds) (refused_end_line m)) number;
    every_history = every_history project sound founds left is_run;
  }

  -- ---- records

  pub refused-record : (cause : CertRefused) (entry : Entry) → IsRefused project left entry.row cause
      → IsRow (junction_count project) (tank_count project) entry.row
      → BeginsAsRead project false (entries_of namings ++ (entry ∷ [])) text
      → CheckRefuses project text (report-of (refused_line project cause)) cause
  refused-record cause entry refused here begins =
      let own = header_for project in
      let before = joined (map record_text (rows_of founds)) in
      let all = joined (map (entry_as_read false) (entries_of namings ++ (entry ∷ []))) in
      let more : all ≡ joined (map record_text (rows_of founds ++ (entry.row ∷ []))) =
      join-more (entry_as_read false) (entries_of namings) entry
      ∙ (ap (λ (t : List ℕ). t ++ (record_text entry.row ++ [])) (plain-text namings)
      ∙ (ap (λ (t : List ℕ). before ++ t) (append-nil (record_text entry.row))
      ∙ sym (join-more record_text (rows_of founds) entry.row))) in
      record {
        founds = founds;
        left = left;
        is_run = is_run;
        row = entry.row;
        refused = refused;
        rows_fit = All-push (IsRow (junction_count project) (tank_count project)) (rows_of founds) entry.row
            (plain-fit (junction_count project) (tank_count project) namings fit) here;
        unread = begins.unread;
        is_text = begins.is_text ∙ ap (λ (t : List ℕ). header_text own ++ (t ++ begins.unread)) more;
        report = report-is (refused_line project cause);
        every_history = every_history project sound founds left is_run;
      }

  -- ---- lines

  pub refused-grammar : (line number : ℕ) → BeginsWithFound project founds text
      → IsFault (header_for project) First (Some text) number → line ≡ printed_number number
      → HasNoMoreRecords project founds text → CheckRefusesGrammar project text (report-of (refused_grammar_line line))
  refused-grammar line number begins fault printed all_records =
      let own = header_for project in
      record {
        founds = founds;
        left = left;
        is_run = is_run;
        rows_fit = plain-fit (junction_count project) (tank_count project) namings fit;
        begins = begins;
        all_records = all_records;
        number = number;
        is_fault = first_fault own (header_words own) text number (own-header project sound) fault;
        report = report-is (refused_grammar_line line)
            ∙ ap (λ (m : ℕ). report_text project (lines_of founds) (refused_grammar_line m)) printed;
        every_history = every_history project sound founds left is_run;
      }

  pub refused-counts : (line : ℕ) → entries_of namings ≡ [] → HasOtherHeader (header_for project) (Some text)
      → line ≡ 1 → CheckRefusesCounts project text (report-of (refused_counts_line line))
  refused-counts line none other first = record {
    other_header = other;
    report = report-is (refused_counts_line line)
        ∙ (ap (λ (ns : List FoundNaming). report_text project (lines_of (founds_in ns)) (refused_counts_line line))
        (no-entries namings none)
        ∙ ap (λ (m : ℕ). report_text project [] (refused_counts_line m)) first);
  }

  pub found-so-far : BeginsWithFound project founds text → CheckFindsPlainly project text (report-of [])
  found-so-far begins = record {
    founds = founds;
    left = left;
    is_run = is_run;
    rows_fit = plain-fit (junction_count project) (tank_count project) namings fit;
    begins = begins;
    report_so_far = report-is [];
    every_history = every_history project sound founds left is_run;
  }

  -- ---- what the text begins with

  pub nothing-found : entries_of namings ≡ [] → BeginsWithFound project founds text
  nothing-found none = inl (ap founds_in (no-entries namings none))

  pub begins-found : BeginsAsRead project false (entries_of namings) text → BeginsWithFound project founds text
  begins-found begins = inr (begins.unread, text-is begins.unread begins.is_text)
