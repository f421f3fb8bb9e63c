-- Certificates of version 4 and reports with a period more, and with what is last.
use Rattle.std.proofs.Common.{◌≡◌, ℕ, ◌<◌, ◌^◌, List, [], ◌∷◌, ◌++◌, length, map, Some, None}
use Rattle.std.proofs.Common.{refl, sym, ap, subst, ◌∙◌, arith, append-nil, append_assoc}
use Rattle.std.specs.Prelude.{All}
use Rattle.std.proofs.lemmas.List.{map-append}
use Rattle.std.proofs.lemmas.List.Elements.{All-push}
use Rattle.hyd_net.specs.Sound.{IsSound}
use Rattle.hyd_spec.specs.ProgramTypes.{Project}
use Rattle.hyd_spec.specs.Lists.{joined}
use Rattle.hyd_spec.specs.NodeNumbers.{junction_count, tank_count}
use Rattle.hyd_spec_certificates.specs.CertificateText.{end_line, header_line}
use Rattle.hyd_spec_reports.specs.PromisesOfRunsAndChecks.{Outcome, last_line, is_finished}
use Rattle.hyd_spec_open_ends.specs.OpenStandings.{OpenStanding, OpenRecord}
use Rattle.hyd_spec_open_ends.specs.OpenRuns.{OpenFound}
use Rattle.hyd_spec_open_ends.specs.OpenCertificateText.{open_version, open_record_text, IsOpenRow}
use Rattle.hyd_spec_open_ends.specs.OpenCertificateText.{IsOpenCertificateText}
use Rattle.hyd_spec_open_ends.specs.PromisesOfOpenRuns.{open_rows_of}
use Rattle.hyd_spec_open_reports.specs.OpenReportLine.{open_line_text}
use Rattle.hyd_spec_open_reports.specs.PromisesOfOpenReports.{Reported, periods_of, open_lines_of}
use Rattle.hyd_spec_open_checks.specs.OpenRunsBrokenOff.{open_certificate_so_far, open_report_so_far}
use Rattle.hyd_lemmas.proofs.ListsOptionsAndResults.{join-append, join-more}
use Rattle.hyd_open_certificates.proofs.WholeOpenTexts.{whole_reading}
use Rattle.hyd_run.specs.Runs.{first_line}
use Rattle.hyd_open_run_so_far.specs.OpenRunSoFar.{Fit, open_texts}

-- ---- lists with a period more

pub periods-more : (reports : List Reported) (each : Reported)
    → periods_of (reports ++ (each ∷ [])) ≡ periods_of reports ++ (each.here ∷ [])
periods-more reports each = map-append (λ (r : Reported). r.here) reports (each ∷ [])

pub rows-more : (reports : List Reported) (each : Reported)
    → open_rows_of (periods_of (reports ++ (each ∷ []))) ≡ open_rows_of (periods_of reports) ++ (each.here.found ∷ [])
rows-more reports each =
    ap open_rows_of (periods-more reports each)
    ∙ map-append (λ (f : OpenFound). f.found) (periods_of reports) (each.here ∷ [])

pub fit-more : (project : Project) (reports : List Reported) (each : Reported) → Fit project reports
    → IsOpenRow (junction_count project) (tank_count project) each.here.found
    → Fit project (reports ++ (each ∷ []))
fit-more project reports each fit here =
    subst (All (IsOpenRow (junction_count project) (tank_count project))) (sym (rows-more reports each))
    (All-push (IsOpenRow (junction_count project) (tank_count project)) (open_rows_of (periods_of reports))
    each.here.found fit here)

-- ---- certificates

pub certificate-last : (project : Project) (reports : List Reported) (outcome : Outcome)
    → open_certificate_so_far project reports None ++ end_line (length reports) (is_finished outcome)
    ≡ open_certificate_so_far project reports (Some outcome)
certificate-last project reports outcome =
    let head = header_line open_version (junction_count project) (tank_count project) in
    let rows = joined (map open_record_text (open_rows_of (periods_of reports))) in
    ap (λ xs. (head ++ xs) ++ end_line (length reports) (is_finished outcome)) (append-nil rows)
    ∙ append_assoc head rows (end_line (length reports) (is_finished outcome))

pub certificate-more : (project : Project) (reports : List Reported) (each : Reported)
    → open_certificate_so_far project reports None ++ open_record_text each.here.found
    ≡ open_certificate_so_far project (reports ++ (each ∷ [])) None
certificate-more project reports each =
    let head = header_line open_version (junction_count project) (tank_count project) in
    let rows = joined (map open_record_text (open_rows_of (periods_of reports))) in
    let more = joined (map open_record_text (open_rows_of (periods_of (reports ++ (each ∷ []))))) in
    let grown : more ≡ rows ++ open_record_text each.here.found =
    ap (λ (rs : List OpenRecord). joined (map open_record_text rs)) (rows-more reports each)
    ∙ join-more open_record_text (open_rows_of (periods_of reports)) each.here.found in
    ap (λ xs. (head ++ xs) ++ open_record_text each.here.found) (append-nil rows)
    ∙ (append_assoc head rows (open_record_text each.here.found)
    ∙ ap (λ xs. head ++ xs) (sym (append-nil more ∙ grown)))

-- the certificate of a run that ended
pub certificate-is : (project : Project) → IsSound project → (reports : List Reported) (outcome : Outcome)
    → Fit project reports → length reports < 2 ^ 32
    → IsOpenCertificateText (open_certificate_so_far project reports (Some outcome)) (junction_count project)
    (tank_count project) (open_rows_of (periods_of reports)) (length reports) (is_finished outcome)
certificate-is project sound reports outcome fit few =
    let n : junction_count project < 2 ^ 32 = (let le = sound.counts.junctions in omega (arith, le)) in
    let k : tank_count project < 2 ^ 32 = (let le = sound.counts.tanks in omega (arith, le)) in
    whole_reading (junction_count project) (tank_count project)
    (open_certificate_so_far project reports (Some outcome)) (open_rows_of (periods_of reports)) (length reports)
    (is_finished outcome) n k fit few refl

-- ---- reports

pub report-last : (project : Project) (left : OpenStanding) (reports : List Reported) (outcome : Outcome)
    → open_report_so_far project left reports None ++ last_line project left.known (length reports) outcome
    ≡ open_report_so_far project left reports (Some outcome)
report-last project left reports outcome =
    let lines = open_texts project (open_lines_of reports) in
    ap (λ xs. (first_line ++ xs) ++ last_line project left.known (length reports) outcome) (append-nil lines)
    ∙ append_assoc first_line lines (last_line project left.known (length reports) outcome)

-- the bytes of the lines of a period more
pub texts-more : (project : Project) (reports : List Reported) (each : Reported)
    → open_texts project (open_lines_of (reports ++ (each ∷ [])))
    ≡ open_texts project (open_lines_of reports) ++ open_texts project each.lines
texts-more project reports each =
    ap (open_texts project) (join-more (λ (r : Reported). r.lines) reports each)
    ∙ (ap joined (map-append (open_line_text project) (open_lines_of reports) each.lines)
    ∙ join-append (map (open_line_text project) (open_lines_of reports)) (map (open_line_text project) each.lines))

pub report-more : (project : Project) (left next : OpenStanding) (reports : List Reported) (each : Reported)
    → open_report_so_far project left reports None ++ open_texts project each.lines
    ≡ open_report_so_far project next (reports ++ (each ∷ [])) None
report-more project left next reports each =
    let lines = open_texts project (open_lines_of reports) in
    let more = open_texts project (open_lines_of (reports ++ (each ∷ []))) in
    ap (λ xs. (first_line ++ xs) ++ open_texts project each.lines) (append-nil lines)
    ∙ (append_assoc first_line lines (open_texts project each.lines)
    ∙ ap (λ xs. first_line ++ xs) (sym (append-nil more ∙ texts-more project reports each)))
