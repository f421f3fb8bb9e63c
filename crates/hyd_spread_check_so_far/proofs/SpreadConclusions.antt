-- What is found where the records of a certificate of version 4 end, as of the whole text, in a check for a spread.
use Rattle.std.proofs.Common.{◌≡◌, ℕ, ◌+◌, ◌*◌, ◌<◌, ◌^◌, Bool, List, [], ◌∷◌, ◌++◌, length, map, Option, Some}
use Rattle.std.proofs.Common.{inl, inr, refl, sym, ap, subst, ◌∙◌, arith, append_assoc, append-nil}
use Rattle.std.specs.Prelude.{IfSome}
use Rattle.std.proofs.lemmas.List.{append_cancel_left, length-map}
use Rattle.hyd_net.specs.Sound.{IsSound}
use Rattle.hyd_spec.specs.ProgramTypes.{Project}
use Rattle.hyd_spec.specs.Lists.{joined}
use Rattle.hyd_spec.specs.NodeNumbers.{junction_count, tank_count}
use Rattle.hyd_spec_certificates.specs.CertificateText.{end_line, line_feeds}
use Rattle.hyd_spec_certificates.specs.declared.CertRefused.{CertRefused}
use Rattle.hyd_spec_open_ends.specs.OpenStandings.{OpenStanding, OpenRecord}
use Rattle.hyd_spec_open_ends.specs.OpenCertificateText.{open_record_text, IsOpenCertificateText}
use Rattle.hyd_spec_open_checks.specs.OpenChecks.{open_header_for}
use Rattle.hyd_spec_spread.specs.Spreads.{Spread, IsSpread}
use Rattle.hyd_spec_open_spreads.specs.OpenRunsForSpreads.{IsOpenRunOver, OpenFoundOver}
use Rattle.hyd_spec_spread_reports.specs.ClaimsWithinSpreads.{ReportedOver, AreReportsOver, periods_over, lines_over}
use Rattle.hyd_spec_spread_reports.specs.TextsOfSpreadReports.{spread_report_text}
use Rattle.hyd_spec_spread_promises.specs.PromisesOfSpreadRuns.{rows_over}
use Rattle.hyd_spec_spread_promises.specs.PromisesOfSpreadChecks.{AreOfRunOver, BeginsWithReportedOver}
use Rattle.hyd_spec_spread_promises.specs.PromisesOfSpreadChecks.{HasNoMoreRecordsOver, CheckEndsOver, CheckFindsOver}
use Rattle.hyd_spec_spread_promises.specs.PromisesOfSpreadChecks.{grammar, counts, record_refused, other_end}
use Rattle.hyd_theorems_on_open_spreads.proofs.HistoriesOverPairs.{every-keeping-history}
use Rattle.hyd_theorems_on_spread_reports.proofs.EveryLineHoldsWithin.{every_line_within}
use Rattle.hyd_lemmas.proofs.ListsOptionsAndResults.{join-more}
use Rattle.hyd_cert.specs.Lines.{Header, header_text}
use Rattle.hyd_cert.specs.Faults.{lines_on}
use Rattle.hyd_cert.specs.PlacesOfLines.{heads_in}
use Rattle.hyd_cert.specs.ReaderView.{lead_lines}
use Rattle.hyd_cert.specs.declared.answers_of_reader.Stand.{Stand}
use Rattle.hyd_cert.specs.declared.answers_of_reader.Stand.TheVariants as stand
use Rattle.hyd_open_certificates.specs.OpenTexts.{open_lines_of as lines_with_records}
use Rattle.hyd_open_certificates.specs.OpenFaults.{IsOpenFault, LacksOpenRecord, HasOtherOpenHeader}
use Rattle.hyd_open_certificates.proofs.WholeOpenTexts.{whole_reading, behind_records}
use Rattle.hyd_spec_check_ends.specs.LinesOfRefusals.{refused_grammar_line, refused_counts_line, printed_number}
use Rattle.hyd_cert_check.specs.ReaderAndPen.{CheckMoment}
use Rattle.hyd_cert_check.specs.RecordByRecord.{coming}
use Rattle.hyd_spec_check_ends.specs.declared.CheckEnd.TheVariants as ends
use Rattle.hyd_spread_run_so_far.specs.SpreadRunSoFar.{Fit}
use Rattle.hyd_spread_check_so_far.specs.SpreadCheckSoFar.{IsEndLine, IsOtherEnd, IsRefusedNext, IsGrammarFault}
use Rattle.hyd_spread_check_so_far.specs.SpreadCheckSoFar.{IsCountsFault, IsSo, conclusion_line, end_of}
use Rattle.hyd_spread_check_so_far.specs.SpreadCheckSoFar.{IsReadTo, IsSoFar}
use Rattle.hyd_spread_check_so_far.specs.declared.conclusion.SpreadConclusion.{SpreadConclusion}
use Rattle.hyd_spread_check_so_far.specs.declared.conclusion.SpreadConclusion.TheVariants.{Accepted, Refused, OtherEnd}
use Rattle.hyd_spread_check_so_far.specs.declared.conclusion.SpreadConclusion.TheVariants.{Grammar, Counts}
use Rattle.hyd_spread_check_so_far.proofs.LinesOfOpenTexts.{certificate-feeds, counted}
use Rattle.hyd_spread_check_so_far.proofs.SpreadReading.{read-more, last-text, IsBehind, begins-as-read, StandsAt}
use Rattle.hyd_spread_check_so_far.proofs.SpreadReading.{at_first, behind, stands-at, behind-more}

-- ---- the counts of a network are small

pub few-junctions : (project : Project) → IsSound project → junction_count project < 2 ^ 32
few-junctions project sound = let le = sound.counts.junctions in omega (arith, le)

pub few-tanks : (project : Project) → IsSound project → tank_count project < 2 ^ 32
few-tanks project sound = let le = sound.counts.tanks in omega (arith, le)

-- ---- numbers of lines

at-first-line : (line before offset : ℕ) → line ≡ lines_on before offset → before ≡ 0 → line ≡ printed_number offset
at-first-line line before offset e z = omega (arith, e, z)

behind-lines : (passed line offset lines : ℕ) → passed ≡ lines_on 0 lines → line ≡ lines_on passed offset
    → line ≡ printed_number (lines + offset)
behind-lines passed line offset lines p e = omega (arith, p, e)

only-first : (line before : ℕ) → line ≡ lines_on before 1 → before ≡ 0 → line ≡ 1
only-first line before e z = omega (arith, e, z)

first-of-two : (line before per : ℕ) → before ≡ 0 → line ≡ lines_on before 2 → line ≡ (1 + 0 * per) + 1
first-of-two line before per z l = omega (arith, z, l)

-- ---- texts

-- records and one more, and what is behind it
one-more : (front : List ℕ) (rows : List OpenRecord) (found : OpenRecord) (unread : List ℕ)
    → front ++ (joined (map open_record_text (rows ++ (found ∷ []))) ++ unread)
    ≡ (front ++ joined (map open_record_text rows)) ++ (open_record_text found ++ unread)
one-more front rows found unread =
    let before = joined (map open_record_text rows) in
    ap (λ (t : List ℕ). front ++ (t ++ unread)) (join-more open_record_text rows found)
    ∙ (ap (λ (t : List ℕ). front ++ t) (append_assoc before (open_record_text found) unread)
    ∙ sym (append_assoc front before (open_record_text found ++ unread)))

no-reports : (reports : List ReportedOver) → rows_over (periods_over reports) ≡ [] → reports ≡ []
no-reports [] e = refl
no-reports (r ∷ reports) e = absurd (cc)

many-rows : (reports : List ReportedOver) → length (rows_over (periods_over reports)) ≡ length reports
many-rows reports = length-map (periods_over reports) (λ (f : OpenFoundOver). f.found)
    ∙ length-map reports (λ (r : ReportedOver). r.here)

module _ (project : Project) (sound : IsSound project) (spread : Spread) (is_spread : IsSpread project spread)
    (slack : ℕ) (left : OpenStanding) (reports : List ReportedOver)
    (is_run : IsOpenRunOver project spread slack (periods_over reports) left)
    (are_reports : AreReportsOver project reports) (fit : Fit project reports) (text : List ℕ) where
  abbrev own : Header
  own = open_header_for project

  abbrev rows : List OpenRecord
  rows = rows_over (periods_over reports)

  of-run : AreOfRunOver project spread reports left
  of-run = record {
    slack = slack;
    is_run = is_run;
    are_reports = are_reports;
    rows_fit = fit;
    every_history = every-keeping-history project sound spread is_spread slack (periods_over reports) left is_run;
    every_line = every_line_within project sound spread is_spread slack reports left is_run are_reports;
  }

  abbrev report-of : List ℕ → List ℕ
  report-of last = spread_report_text project spread (lines_over reports) last

  -- what was found so far
  pub found-so-far : BeginsWithReportedOver project reports text → CheckFindsOver project spread text (report-of [])
  found-so-far begins = record {
    reports = reports;
    left = left;
    of_run = of-run;
    begins = begins;
    report_so_far = refl;
  }

  -- ---- END lines

  certificate-is : (periods : ℕ) (finished : Bool) → periods < 2 ^ 32
      → text ≡ header_text own ++ (joined (map open_record_text rows) ++ end_line periods finished)
      → IsOpenCertificateText text (junction_count project) (tank_count project) rows periods finished
  certificate-is periods finished fits is =
      whole_reading (junction_count project) (tank_count project) text rows periods finished
      (few-junctions project sound) (few-tanks project sound) fit fits is

  module _ (start at now : CheckMoment) (told : coming start ≡ Some text) (to : IsReadTo project start at rows) where
    text-is : (periods : ℕ) (finished : Bool) → IsEndLine project periods finished at now
        → text ≡ header_text own ++ (joined (map open_record_text rows) ++ end_line periods finished)
    text-is periods finished end =
        last-text project start rows at at.told.rest (end_line periods finished) text to end.text told

    pub accepted : (finished : Bool) → length reports ≡ left.known.number
        → IsEndLine project left.known.number finished at now → finished ≡ left.known.finished
        → CheckEndsOver project spread text (report-of (conclusion_line project left.known.number (Accepted finished)))
        ends.Accepted
    accepted finished each end same =
        let n = junction_count project in
        let k = tank_count project in
        record {
          reports = reports;
          left = left;
          of_run = of-run;
          certificate = subst (λ (m : ℕ). IsOpenCertificateText text n k rows m left.known.finished) (sym each)
              (subst (IsOpenCertificateText text n k rows left.known.number) same
              (certificate-is left.known.number finished end.fits (text-is left.known.number finished end)));
          report = ap (λ (m : ℕ). report-of (conclusion_line project m (Accepted finished))) (sym each)
              ∙ ap (λ (b : Bool). report-of (conclusion_line project (length reports) (Accepted b))) same;
        }

    -- the reader's count of lines is that of the text
    line-is : (periods : ℕ) (finished : Bool) → IsEndLine project periods finished at now → length reports < 2 ^ 32
        → now.reader.line ≡ line_feeds text
    line-is periods finished end few = by (stands-at project start at rows text to told)
      where
        feeds : line_feeds text ≡ lines_with_records own rows + 1
        feeds = ap line_feeds (text-is periods finished end)
            ∙ certificate-feeds (junction_count project) (tank_count project) (few-junctions project sound)
            (few-tanks project sound) rows fit periods finished end.fits

        by : StandsAt project at rows text → now.reader.line ≡ line_feeds text
        by (at_first stands same zero_lines none) =
            let behind-two = first-of-two now.reader.line at.reader.line (1 + heads_in own.junctions own.tanks)
            zero_lines (end.line ∙ ap (λ (s : Stand). lines_on at.reader.line (lead_lines s)) stands) in
            behind-two ∙ (ap (λ (rs : List OpenRecord). lines_with_records own rs + 1) (sym none) ∙ sym feeds)
        by (behind b) =
            let most = sound.counts.junctions in
            let tanks = sound.counts.tanks in
            let many = many-rows reports in
            counted (junction_count project) (tank_count project) rows now.reader.line at.reader.line
            (omega (arith, most)) (omega (arith, tanks)) (omega (arith, many, few)) b.passed
            (end.line ∙ ap (λ (s : Stand). lines_on at.reader.line (lead_lines s)) b.stands) ∙ sym feeds

    pub refused-end : (line : ℕ) → length reports ≡ left.known.number → IsOtherEnd project left at now
        → line ≡ now.reader.line
        → CheckEndsOver project spread text (report-of (conclusion_line project left.known.number (OtherEnd line)))
        ends.Refused
    refused-end line each other number =
        let end = other.is_end in
        let few = other.few in
        let lines : line ≡ line_feeds text =
        number ∙ line-is other.periods other.finished end (omega (arith, each, few)) in
        other_end (record {
          reports = reports;
          left = left;
          of_run = of-run;
          periods = other.periods;
          finished = other.finished;
          certificate = certificate-is other.periods other.finished end.fits
              (text-is other.periods other.finished end);
          other_end = λ same. other.other (same.0 ∙ each, same.1);
          report = ap (λ (m : ℕ). report-of (conclusion_line project left.known.number (OtherEnd m))) lines;
        })

    -- ---- records

    pub refused-record : (cause : CertRefused) → IsRefusedNext project spread left cause at now
        → CheckEndsOver project spread text (report-of (conclusion_line project left.known.number (Refused cause)))
        ends.Refused
    refused-record cause next =
        let b = begins-as-read project now (rows ++ (next.found ∷ [])) text
        (behind-more project start now rows next.found text (read-more project start rows next.found at now to
        next.read) told) in
        record_refused cause (record {
          reports = reports;
          left = left;
          of_run = of-run;
          found = next.found;
          refused = next.refused;
          fits = next.read.fits;
          is_text = b;
          report = refl;
        })

  -- ---- lines

  refused-grammar-at : (line number : ℕ) → BeginsWithReportedOver project reports text
      → IsOpenFault own stand.First text number → line ≡ printed_number number
      → HasNoMoreRecordsOver project reports text
      → CheckEndsOver project spread text (report-of (refused_grammar_line line)) ends.Refused
  refused-grammar-at line number begins fault printed all_records = grammar (record {
    reports = reports;
    left = left;
    of_run = of-run;
    begins = begins;
    all_records = all_records;
    number = number;
    is_fault = fault;
    report = ap (λ (m : ℕ). report-of (refused_grammar_line m)) printed;
  })

  module _ (at : CheckMoment) (line : ℕ) (now : CheckMoment) (found : IsGrammarFault project line at now) where
    -- where nothing was read
    grammar-first : at.reader.stand ≡ stand.First → coming at ≡ Some text → at.reader.line ≡ 0 → rows ≡ []
        → CheckEndsOver project spread text (report-of (refused_grammar_line line)) ends.Refused
    grammar-first stands same zero_lines none =
        let fault : IsOpenFault own stand.First text found.offset =
        subst (λ (t : Option (List ℕ)). IfSome t (λ told. IsOpenFault own stand.First told found.offset)) same
        (subst (λ (s : Stand). IfSome (coming at) (λ told. IsOpenFault own s told found.offset)) stands found.fault)
        in
        let lacks : LacksOpenRecord stand.First own (Some text) =
        subst (λ (t : Option (List ℕ)). LacksOpenRecord stand.First own t) same
        (subst (λ (s : Stand). LacksOpenRecord s own (coming at)) stands found.no_record) in
        let head = header_text own in
        refused-grammar-at line found.offset (inl (no-reports reports none)) fault
        (at-first-line line at.reader.line found.offset found.number zero_lines)
        (λ row fits b. lacks row b.unread fits (ap Some (b.is_text
        ∙ (ap (λ (rs : List OpenRecord). head ++ (joined (map open_record_text (rs ++ (row ∷ []))) ++ b.unread)) none
        ∙ ap (λ (t : List ℕ). head ++ (t ++ b.unread)) (append-nil (open_record_text row))))))

    -- behind what was read
    grammar-behind : IsBehind project at rows text
        → CheckEndsOver project spread text (report-of (refused_grammar_line line)) ends.Refused
    grammar-behind b =
        let fault : IsOpenFault own stand.Between b.left found.offset =
        subst (λ (t : Option (List ℕ)). IfSome t (λ told. IsOpenFault own stand.Between told found.offset)) b.told
        (subst (λ (s : Stand). IfSome (coming at) (λ told. IsOpenFault own s told found.offset)) b.stands found.fault)
        in
        let lacks : LacksOpenRecord stand.Between own (Some b.left) =
        subst (λ (t : Option (List ℕ)). LacksOpenRecord stand.Between own t) b.told
        (subst (λ (s : Stand). LacksOpenRecord s own (coming at)) b.stands found.no_record) in
        let head = header_text own in
        let before = joined (map open_record_text rows) in
        refused-grammar-at line (lines_with_records own rows + found.offset)
        (inr (begins-as-read project at rows text b))
        (behind_records (junction_count project) (tank_count project) rows text b.left found.offset
        (few-junctions project sound) (few-tanks project sound) fit (ap Some b.whole) fault)
        (behind-lines at.reader.line line found.offset (lines_with_records own rows) b.passed found.number)
        (λ row fits more. lacks row more.unread fits (ap Some (append_cancel_left (head ++ before) b.left
        (open_record_text row ++ more.unread) (sym b.whole ∙ (more.is_text ∙ one-more head rows row more.unread)))))

  pub refused-grammar : (start at now : CheckMoment) → coming start ≡ Some text → IsReadTo project start at rows
      → (line : ℕ) → IsGrammarFault project line at now
      → CheckEndsOver project spread text (report-of (refused_grammar_line line)) ends.Refused
  refused-grammar start at now told to line found = by (stands-at project start at rows text to told)
    where
      by : StandsAt project at rows text
          → CheckEndsOver project spread text (report-of (refused_grammar_line line)) ends.Refused
      by (at_first stands same zero_lines none) = grammar-first at line now found stands same zero_lines none
      by (behind b) = grammar-behind at line now found b

  pub refused-counts : (start at now : CheckMoment) → coming start ≡ Some text → IsReadTo project start at rows
      → (line : ℕ) → IsCountsFault project line at now
      → CheckEndsOver project spread text (report-of (refused_counts_line line)) ends.Refused
  refused-counts start at now told to line found = by (stands-at project start at rows text to told)
    where
      by : StandsAt project at rows text
          → CheckEndsOver project spread text (report-of (refused_counts_line line)) ends.Refused
      by (at_first stands same zero_lines none) = counts (record {
        other_header = subst (λ (t : Option (List ℕ)). HasOtherOpenHeader own t) same found.other_header;
        report = ap (λ (rs : List ReportedOver). spread_report_text project spread (lines_over rs)
            (refused_counts_line line)) (no-reports reports none)
            ∙ ap (λ (m : ℕ). spread_report_text project spread [] (refused_counts_line m))
            (only-first line at.reader.line found.number zero_lines);
      })
      by (behind b) = absurd (let apart : stand.Between ≡ stand.First = sym b.stands ∙ found.first in cc)

-- ---- all of them

pub holds-whole : (project : Project) → IsSound project → (spread : Spread) → IsSpread project spread
    → (left : OpenStanding) (start at : CheckMoment) → (so_far : IsSoFar project spread left start at) (text : List ℕ)
    → coming start ≡ Some text → (conclusion : SpreadConclusion) (now : CheckMoment)
    → IsSo conclusion project spread left at now
    → CheckEndsOver project spread text (spread_report_text project spread (lines_over so_far.reports)
    (conclusion_line project left.known.number conclusion)) (end_of conclusion)
holds-whole project sound spread is_spread left start at s text told (Accepted finished) now so =
    accepted project sound spread is_spread s.slack left s.reports s.is_run s.are_reports s.fit text start at now told
    s.read finished s.each so.0 so.1
holds-whole project sound spread is_spread left start at s text told (Refused cause) now so =
    refused-record project sound spread is_spread s.slack left s.reports s.is_run s.are_reports s.fit text start at now
    told s.read cause so
holds-whole project sound spread is_spread left start at s text told (OtherEnd line) now so =
    refused-end project sound spread is_spread s.slack left s.reports s.is_run s.are_reports s.fit text start at now
    told s.read line s.each so.0 so.1
holds-whole project sound spread is_spread left start at s text told (Grammar line) now so =
    refused-grammar project sound spread is_spread s.slack left s.reports s.is_run s.are_reports s.fit text start at now
    told s.read line so
holds-whole project sound spread is_spread left start at s text told (Counts line) now so =
    refused-counts project sound spread is_spread s.slack left s.reports s.is_run s.are_reports s.fit text start at now
    told s.read line so

-- what was found so far
pub finds : (project : Project) → IsSound project → (spread : Spread) → IsSpread project spread → (slack : ℕ)
    (left : OpenStanding) (start at : CheckMoment) (reports : List ReportedOver)
    → IsOpenRunOver project spread slack (periods_over reports) left → AreReportsOver project reports
    → Fit project reports → IsReadTo project start at (rows_over (periods_over reports)) → (text : List ℕ)
    → coming start ≡ Some text
    → CheckFindsOver project spread text (spread_report_text project spread (lines_over reports) [])
finds project sound spread is_spread slack left start at reports is_run are fit to text told =
    by (stands-at project start at (rows_over (periods_over reports)) text to told)
  where
    by : StandsAt project at (rows_over (periods_over reports)) text
        → CheckFindsOver project spread text (spread_report_text project spread (lines_over reports) [])
    by (at_first stands same zero_lines none) =
        found-so-far project sound spread is_spread slack left reports is_run are fit text
        (inl (no-reports reports none))
    by (behind b) =
        found-so-far project sound spread is_spread slack left reports is_run are fit text
        (inr (begins-as-read project at (rows_over (periods_over reports)) text b))
