-- Certificates of version 4 and reports with a period more, and with what is last.
use Rattle.std.proofs.Common.{◌≡◌, ℕ, ◌<◌, ◌^◌, List, [], ◌∷◌, ◌++◌, length, map, Some, None}
use Rattle.std.proofs.Common.{refl, sym, ap, subst, ◌∙◌, arith, append-nil, append_assoc}
use Rattle.std.specs.Prelude.{All}
use Rattle.std.proofs.lemmas.List.{map-append}
use Rattle.std.proofs.lemmas.List.Elements.{All-push}
use Rattle.hyd_net.specs.Sound.{IsSound}
use Rattle.hyd_spec.specs.ProgramTypes.{Project}
use Rattle.hyd_spec.specs.Lists.{joined}
use Rattle.hyd_spec.specs.NodeNumbers.{junction_count, tank_count}
use Rattle.hyd_spec_certificates.specs.CertificateText.{end_line, header_line}
use Rattle.hyd_spec_reports.specs.PromisesOfRunsAndChecks.{Outcome, last_line, is_finished}
use Rattle.hyd_spec_open_ends.specs.OpenStandings.{OpenStanding, OpenRecord}
use Rattle.hyd_spec_open_ends.specs.OpenCertificateText.{open_version, open_record_text, IsOpenRow}
use Rattle.hyd_spec_open_ends.specs.OpenCertificateText.{IsOpenCertificateText}
use Rattle.hyd_spec_open_reports.specs.OpenReportLine.{open_line_text}
use Rattle.hyd_spec_spread.specs.Spreads.{Spread}
use Rattle.hyd_spec_open_spreads.specs.OpenRunsForSpreads.{OpenFoundOver}
use Rattle.hyd_spec_spread_reports.specs.ClaimsWithinSpreads.{ReportedOver, periods_over, lines_over}
use Rattle.hyd_spec_spread_reports.specs.TextsOfSpreadReports.{second_line}
use Rattle.hyd_spec_spread_promises.specs.PromisesOfSpreadRuns.{rows_over, certificate_over, report_over}
use Rattle.hyd_lemmas.proofs.ListsOptionsAndResults.{join-append, join-more}
use Rattle.hyd_open_certificates.proofs.WholeOpenTexts.{whole_reading}
use Rattle.hyd_run.specs.Runs.{first_line}
use Rattle.hyd_spread_run_so_far.specs.SpreadRunSoFar.{Fit, open_texts}

-- ---- lists with a period more

pub periods-more : (reports : List ReportedOver) (each : ReportedOver)
    → periods_over (reports ++ (each ∷ [])) ≡ periods_over reports ++ (each.here ∷ [])
periods-more reports each = map-append (λ (r : ReportedOver). r.here) reports (each ∷ [])

pub rows-more : (reports : List ReportedOver) (each : ReportedOver)
    → rows_over (periods_over (reports ++ (each ∷ []))) ≡ rows_over (periods_over reports) ++ (each.here.found ∷ [])
rows-more reports each =
    ap rows_over (periods-more reports each)
    ∙ map-append (λ (f : OpenFoundOver). f.found) (periods_over reports) (each.here ∷ [])

pub fit-more : (project : Project) (reports : List ReportedOver) (each : ReportedOver) → Fit project reports
    → IsOpenRow (junction_count project) (tank_count project) each.here.found
    → Fit project (reports ++ (each ∷ []))
fit-more project reports each fit here =
    subst (All (IsOpenRow (junction_count project) (tank_count project))) (sym (rows-more reports each))
    (All-push (IsOpenRow (junction_count project) (tank_count project)) (rows_over (periods_over reports))
    each.here.found fit here)

-- ---- certificates

pub certificate-last : (project : Project) (reports : List ReportedOver) (outcome : Outcome)
    → certificate_over project reports None ++ end_line (length reports) (is_finished outcome)
    ≡ certificate_over project reports (Some outcome)
certificate-last project reports outcome =
    let head = header_line open_version (junction_count project) (tank_count project) in
    let rows = joined (map open_record_text (rows_over (periods_over reports))) in
    ap (λ xs. (head ++ xs) ++ end_line (length reports) (is_finished outcome)) (append-nil rows)
    ∙ append_assoc head rows (end_line (length reports) (is_finished outcome))

pub certificate-more : (project : Project) (reports : List ReportedOver) (each : ReportedOver)
    → certificate_over project reports None ++ open_record_text each.here.found
    ≡ certificate_over project (reports ++ (each ∷ [])) None
certificate-more project reports each =
    let head = header_line open_version (junction_count project) (tank_count project) in
    let rows = joined (map open_record_text (rows_over (periods_over reports))) in
    let more = joined (map open_record_text (rows_over (periods_over (reports ++ (each ∷ []))))) in
    let grown : more ≡ rows ++ open_record_text each.here.found =
    ap (λ (rs : List OpenRecord). joined (map open_record_text rs)) (rows-more reports each)
    ∙ join-more open_record_text (rows_over (periods_over reports)) each.here.found in
    ap (λ xs. (head ++ xs) ++ open_record_text each.here.found) (append-nil rows)
    ∙ (append_assoc head rows (open_record_text each.here.found)
    ∙ ap (λ xs. head ++ xs) (sym (append-nil more ∙ grown)))

-- the certificate of a run that ended
pub certificate-is : (project : Project) → IsSound project → (reports : List ReportedOver) (outcome : Outcome)
    → Fit project reports → length reports < 2 ^ 32
    → IsOpenCertificateText (certificate_over project reports (Some outcome)) (junction_count project)
    (tank_count project) (rows_over (periods_over reports)) (length reports) (is_finished outcome)
certificate-is project sound reports outcome fit few =
    let n : junction_count project < 2 ^ 32 = (let le = sound.counts.junctions in omega (arith, le)) in
    let k : tank_count project < 2 ^ 32 = (let le = sound.counts.tanks in omega (arith, le)) in
    whole_reading (junction_count project) (tank_count project)
    (certificate_over project reports (Some outcome)) (rows_over (periods_over reports)) (length reports)
    (is_finished outcome) n k fit few refl

-- ---- reports

module _ (project : Project) (spread : Spread) where
  -- the lines of a spread's report behind its first two lines, and what is last
  behind-second : (lines last : List ℕ)
      → (first_line ++ (second_line project spread ++ (lines ++ []))) ++ last
      ≡ first_line ++ (second_line project spread ++ (lines ++ last))
  behind-second lines last =
      ap (λ xs. (first_line ++ (second_line project spread ++ xs)) ++ last) (append-nil lines)
      ∙ (append_assoc first_line (second_line project spread ++ lines) last
      ∙ ap (λ xs. first_line ++ xs) (append_assoc (second_line project spread) lines last))

  -- a report without lines is its first two lines
  pub report-first : (left : OpenStanding)
      → first_line ++ second_line project spread ≡ report_over project spread left [] None
  report-first left = ap (λ xs. first_line ++ xs) (sym (append-nil (second_line project spread)))

  pub report-last : (left : OpenStanding) (reports : List ReportedOver) (outcome : Outcome)
      → report_over project spread left reports None ++ last_line project left.known (length reports) outcome
      ≡ report_over project spread left reports (Some outcome)
  report-last left reports outcome =
      behind-second (open_texts project (lines_over reports))
      (last_line project left.known (length reports) outcome)

  -- the bytes of the lines of a period more
  pub texts-more : (reports : List ReportedOver) (each : ReportedOver)
      → open_texts project (lines_over (reports ++ (each ∷ [])))
      ≡ open_texts project (lines_over reports) ++ open_texts project each.lines
  texts-more reports each =
      ap (open_texts project) (join-more (λ (r : ReportedOver). r.lines) reports each)
      ∙ (ap joined (map-append (open_line_text project) (lines_over reports) each.lines)
      ∙ join-append (map (open_line_text project) (lines_over reports)) (map (open_line_text project) each.lines))

  pub report-more : (left next : OpenStanding) (reports : List ReportedOver) (each : ReportedOver)
      → report_over project spread left reports None ++ open_texts project each.lines
      ≡ report_over project spread next (reports ++ (each ∷ [])) None
  report-more left next reports each =
      let more = open_texts project (lines_over (reports ++ (each ∷ []))) in
      behind-second (open_texts project (lines_over reports)) (open_texts project each.lines)
      ∙ ap (λ xs. first_line ++ (second_line project spread ++ xs)) (sym (append-nil more ∙ texts-more reports each))
