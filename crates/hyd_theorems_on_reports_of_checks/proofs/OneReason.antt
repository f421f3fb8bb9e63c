-- A text without flows is accepted or refused, and refused for one reason: so it has one report.
use Rattle.std.proofs.Common.{◌≡◌, ℕ, ◌⊎◌, inl, inr, List, [], ◌∷◌, ◌++◌, map, refl, sym, ap, ap₂}
use Rattle.std.proofs.Common.{subst, ◌∙◌, append_assoc, append-nil}
use Rattle.std.proofs.lemmas.List.Elements.{All-head, All-tail}
use Rattle.hyd_net.specs.Sound.{IsSound}
use Rattle.hyd_spec.specs.ProgramTypes.{Project}
use Rattle.hyd_spec.specs.Lists.{joined}
use Rattle.hyd_spec.specs.NodeNumbers.{junction_count, tank_count}
use Rattle.hyd_spec_certificates.specs.RecordAndStanding.{Record, Standing, initial_standing}
use Rattle.hyd_spec_certificates.specs.CertificateText.{IsRow, version_of, line_feeds, header_line}
use Rattle.hyd_spec_certificates.specs.CertificateText.{record_text}
use Rattle.hyd_spec_reports.specs.ReportLine.{report_text, refused_line, refused_end_line}
use Rattle.hyd_spec_certificates.specs.declared.CertRefused.{CertRefused}
use Rattle.hyd_spec_certificates.specs.RefusedRecords.{IsRefused}
use Rattle.hyd_spec_reports.specs.PromisesOfRunsAndChecks.{Found, IsRun, rows_of, lines_of, CheckAccepts, CheckRefuses}
use Rattle.hyd_spec_reports.specs.PromisesOfRunsAndChecks.{CheckRefusesEnd}
use Rattle.hyd_theorems_on_definitions.proofs.CertificateLines.{contents-same}
use Rattle.hyd_theorems_on_definitions.proofs.OneRefusal.{one_refusal}
use Rattle.hyd_theorems_on_runs.proofs.OneRun.{one_left}
use Rattle.hyd_cert.specs.FaultyLine.{IsCertificate}
use Rattle.hyd_cert.proofs.WholeTextLemmas.{fault_no_certificate, no_certificate_of_others, one_fault, fault_or_header}
use Rattle.hyd_sim.specs.RunView.{header_for}
use Rattle.hyd_spec_check_ends.specs.LinesOfRefusals.{refused_grammar_line, printed_number}
use Rattle.hyd_cert_check.specs.Checks.{BeginsWithFound, CheckRefusesGrammar}
use Rattle.hyd_cert_check.specs.Checks.{CheckRefusesCounts, CheckRefusal, CheckEndsPlainly}
use Rattle.hyd_cert_check.specs.Checks.{grammar, counts, record_refused, other_end}
use Rattle.hyd_spec_check_ends.specs.declared.CheckEnd.{CheckEnd}
use Rattle.hyd_spec_check_ends.specs.declared.CheckEnd.TheVariants.{Accepted, Refused}
use Rattle.hyd_theorems_on_reports_of_checks.specs.SameEnding.{HaveOneReason}
use Rattle.hyd_theorems_on_checks.proofs.EndLineNotRefused.{one_report}
use Rattle.hyd_theorems_on_reports_of_checks.proofs.RecordsOfOneText.{AreRows, BeginsWith, compared, other_header}
use Rattle.hyd_theorems_on_checks.proofs.FirstRecords.{first_rows, both_rows}
use Rattle.hyd_theorems_on_checks.proofs.BeginningsOfLists.{Begins, both_ways, before_last, lasts}
use Rattle.hyd_theorems_on_checks.proofs.NeverRefused.{never_refused}
use Rattle.hyd_theorems_on_checks.proofs.WrittenAndAccepted.{accepted_is}
use Rattle.hyd_theorems_on_checks.proofs.RecordsNotRefused.{none_refused}
use Rattle.hyd_theorems_on_checks.proofs.RunsByRecords.{one_by_records}

module _ (project : Project) (sound : IsSound project) (text : List ℕ) where
  fits_at : (before : List Record) (row : Record) (more : List Record) → AreRows project (before ++ (row ∷ more))
      → IsRow (junction_count project) (tank_count project) row
  fits_at [] row more fit = All-head (IsRow (junction_count project) (tank_count project)) row more fit
  fits_at (first ∷ before) row more fit =
      fits_at before row more
      (All-tail (IsRow (junction_count project) (tank_count project)) first (before ++ (row ∷ more)) fit)

  -- ---- runs

  same_run : (a b : List Found) (last other : Standing) → IsRun project a last → IsRun project b other
      → rows_of a ≡ rows_of b → a ≡ b
  same_run a b last other x y e = one_by_records project (initial_standing project) a b last other x y e

  -- ---- the records of a text that is refused in a line

  module _ (printed : List ℕ) (g : CheckRefusesGrammar project text printed) where
    -- no record is left
    no_more : (unread : List ℕ) (rows more : List Record) → AreRows project rows → BeginsWith project rows unread text
        → rows ≡ rows_of g.founds ++ more → more ≡ []
    no_more unread rows [] fit begins e = refl
    no_more unread rows (row ∷ more) fit begins e =
        let front = rows_of g.founds ++ (row ∷ []) in
        let parts : rows ≡ front ++ more = e ∙ sym (append_assoc (rows_of g.founds) (row ∷ []) more) in
        absurd (g.all_records row (joined (map record_text more) ++ unread)
        (fits_at (rows_of g.founds) row more (subst (AreRows project) e fit)) (begins
        ∙ ap (λ t. header_line (version_of project) (junction_count project) (tank_count project) ++ t)
        (ap (λ rs. joined (map record_text rs) ++ unread) parts ∙ sym (both_rows front more unread))))

    by_compared : (unread : List ℕ) (rows : List Record) → AreRows project rows → BeginsWith project rows unread text
        → Begins (rows_of g.founds) rows ⊎ Begins rows (rows_of g.founds) → Begins rows (rows_of g.founds)
    by_compared unread rows fit begins (inl k) =
        let none = no_more unread rows k.more fit begins k.is in
        record {
          more = [];
          is = sym (append-nil rows ∙ (k.is ∙ (ap (λ t. rows_of g.founds ++ t) none ∙ append-nil (rows_of g.founds))));
        }
    by_compared unread rows fit begins (inr k) = k

    -- whole records with which it begins were found
    pub found_all : (unread : List ℕ) (rows : List Record) → AreRows project rows → BeginsWith project rows unread text
        → Begins rows (rows_of g.founds)
    found_all unread rows fit begins = by_begins g.begins
      where
        by_begins : BeginsWithFound project g.founds text → Begins rows (rows_of g.founds)
        by_begins (inl none) =
            by_compared unread rows fit begins
            (inl (record { more = rows; is = ap (λ fs. rows_of fs ++ rows) (sym none) }))
        by_begins (inr begun) =
            by_compared unread rows fit begins
            (compared project sound text begun.0 unread (rows_of g.founds) rows g.rows_fit fit begun.1 begins)

    -- and so was what another check found
    pub found_first : (founds : List Found) → AreRows project (rows_of founds) → BeginsWithFound project founds text
        → Begins (rows_of founds) (rows_of g.founds)
    found_first founds fit (inl none) =
        record { more = rows_of g.founds; is = ap (λ fs. rows_of fs ++ rows_of g.founds) (sym none) }
    found_first founds fit (inr begun) = found_all begun.0 (rows_of founds) fit begun.1

  -- ---- one reason

  module _ (printed other : List ℕ) where
    two_grammars : (a : CheckRefusesGrammar project text printed) (b : CheckRefusesGrammar project text other)
        → (a.number ≡ b.number) × (a.founds ≡ b.founds)
    two_grammars a b = (
      one_fault (header_for project) text a.number b.number a.is_fault b.is_fault,
      same_run a.founds b.founds a.left b.left a.is_run b.is_run
          (both_ways (rows_of a.founds) (rows_of b.founds) (found_first other b a.founds a.rows_fit a.begins)
          (found_first printed a b.founds b.rows_fit b.begins)),
    )

    grammar_or_counts : CheckRefusesGrammar project text printed → CheckRefusesCounts project text other → ⊥
    grammar_or_counts a b = fault_or_header (header_for project) text a.number a.is_fault b.other_header

    grammar_or_record : (cause : CertRefused) → CheckRefusesGrammar project text printed
        → CheckRefuses project text other cause → ⊥
    grammar_or_record cause a b =
        none_refused project b.founds a.founds b.left a.left b.row cause b.is_run b.refused a.is_run
        (found_all printed a b.unread (rows_of b.founds ++ (b.row ∷ [])) b.rows_fit b.is_text)

    its_certificate : CheckRefusesEnd project text other → IsCertificate (header_for project) text
    its_certificate b = record {
      rows = rows_of b.founds;
      periods = b.periods;
      finished = b.finished;
      is_text = b.certificate;
    }

    grammar_or_end : CheckRefusesGrammar project text printed → CheckRefusesEnd project text other → ⊥
    grammar_or_end a b =
        let header = header_for project in
        fault_no_certificate header header text a.number a.is_fault (its_certificate b)

    counts_or_record : (cause : CertRefused) → CheckRefusesCounts project text printed
        → CheckRefuses project text other cause → ⊥
    counts_or_record cause a b =
        other_header project sound text b.unread (rows_of b.founds ++ (b.row ∷ [])) a.other_header b.is_text

    counts_or_end : CheckRefusesCounts project text printed → CheckRefusesEnd project text other → ⊥
    counts_or_end a b = no_certificate_of_others (header_for project) text a.other_header (its_certificate b)

    record_or_end : (cause : CertRefused) → CheckRefuses project text printed cause
        → CheckRefusesEnd project text other → ⊥
    record_or_end cause a b =
        let front = rows_of a.founds ++ (a.row ∷ []) in
        let k = first_rows text a.unread (version_of project) (junction_count project) (tank_count project) b.periods
        (rows_of b.founds) front b.finished b.certificate a.rows_fit a.is_text in
        none_refused project a.founds b.founds a.left b.left a.row cause a.is_run a.refused b.is_run
        (record { more = k.0; is = k.1 })

    two_ends : (a : CheckRefusesEnd project text printed) (b : CheckRefusesEnd project text other)
        → a.founds ≡ b.founds
    two_ends a b =
        let n = junction_count project in
        let k = tank_count project in
        same_run a.founds b.founds a.left b.left a.is_run b.is_run
        (contents-same text (version_of project) (version_of project) n n k k a.periods b.periods (rows_of a.founds)
        (rows_of b.founds) a.finished b.finished a.certificate b.certificate).0

    -- what is found before the one record is found before the other
    in_front : (cause second : CertRefused) (a : CheckRefuses project text printed cause)
        (b : CheckRefuses project text other second)
        → Begins (rows_of a.founds ++ (a.row ∷ [])) (rows_of b.founds ++ (b.row ∷ []))
        → (rows_of a.founds ++ (a.row ∷ [])) ≡ (rows_of b.founds ++ (b.row ∷ []))
    in_front cause second a b k = by_last (before_last (rows_of a.founds ++ (a.row ∷ [])) (rows_of b.founds) b.row k)
      where
        by_last : ((rows_of a.founds ++ (a.row ∷ [])) ≡ (rows_of b.founds ++ (b.row ∷ [])))
            ⊎ Begins (rows_of a.founds ++ (a.row ∷ [])) (rows_of b.founds)
            → (rows_of a.founds ++ (a.row ∷ [])) ≡ (rows_of b.founds ++ (b.row ∷ []))
        by_last (inl same) = same
        by_last (inr inside) = absurd (none_refused project a.founds b.founds a.left b.left a.row cause a.is_run
            a.refused b.is_run inside)

    one_cause : (cause second : CertRefused) (a : CheckRefuses project text printed cause)
        (b : CheckRefuses project text other second)
        → (rows_of a.founds ++ (a.row ∷ [])) ≡ (rows_of b.founds ++ (b.row ∷ []))
        → (cause ≡ second) × ((a.row ≡ b.row) × (a.founds ≡ b.founds))
    one_cause cause second a b e =
        let k = lasts (rows_of a.founds) (rows_of b.founds) a.row b.row e in
        let founds = same_run a.founds b.founds a.left b.left a.is_run b.is_run k.0 in
        let left = one_left project (initial_standing project) a.founds b.founds a.left b.left a.is_run b.is_run
        founds in
        let there : IsRefused project a.left a.row second =
        subst (λ (s : Standing). IsRefused project s a.row second) (sym left)
        (subst (λ (r : Record). IsRefused project b.left r second) (sym k.1) b.refused) in
        (one_refusal project a.left a.row cause second a.refused there, (k.1, founds))

  module _ (printed other : List ℕ) where
    two_records : (cause second : CertRefused) (a : CheckRefuses project text printed cause)
        (b : CheckRefuses project text other second)
        → (cause ≡ second) × ((a.row ≡ b.row) × (a.founds ≡ b.founds))
    two_records cause second a b = one_cause printed other cause second a b (by_compared
        (compared project sound text a.unread b.unread (rows_of a.founds ++ (a.row ∷ []))
        (rows_of b.founds ++ (b.row ∷ [])) a.rows_fit b.rows_fit a.is_text b.is_text))
      where
        by_compared : Begins (rows_of a.founds ++ (a.row ∷ [])) (rows_of b.founds ++ (b.row ∷ []))
            ⊎ Begins (rows_of b.founds ++ (b.row ∷ [])) (rows_of a.founds ++ (a.row ∷ []))
            → (rows_of a.founds ++ (a.row ∷ [])) ≡ (rows_of b.founds ++ (b.row ∷ []))
        by_compared (inl k) = in_front printed other cause second a b k
        by_compared (inr k) = sym (in_front other printed second cause b a k)

    pub one_reason : (a : CheckRefusal project text printed) (b : CheckRefusal project text other)
        → HaveOneReason project text printed other a b
    one_reason (grammar a) (grammar b) = two_grammars printed other a b
    one_reason (grammar a) (counts b) = grammar_or_counts printed other a b
    one_reason (grammar a) (record_refused cause b) = grammar_or_record printed other cause a b
    one_reason (grammar a) (other_end b) = grammar_or_end printed other a b
    one_reason (counts a) (grammar b) = grammar_or_counts other printed b a
    one_reason (counts a) (counts b) = tt
    one_reason (counts a) (record_refused cause b) = counts_or_record printed other cause a b
    one_reason (counts a) (other_end b) = counts_or_end printed other a b
    one_reason (record_refused cause a) (grammar b) = grammar_or_record other printed cause b a
    one_reason (record_refused cause a) (counts b) = counts_or_record other printed cause b a
    one_reason (record_refused cause a) (record_refused second b) = two_records cause second a b
    one_reason (record_refused cause a) (other_end b) = record_or_end printed other cause a b
    one_reason (other_end a) (grammar b) = grammar_or_end other printed b a
    one_reason (other_end a) (counts b) = counts_or_end other printed b a
    one_reason (other_end a) (record_refused cause b) = record_or_end other printed cause b a
    one_reason (other_end a) (other_end b) = two_ends printed other a b

    -- ---- one report

    by_reason : (a : CheckRefusal project text printed) (b : CheckRefusal project text other)
        → HaveOneReason project text printed other a b → printed ≡ other
    by_reason (grammar a) (grammar b) k =
        a.report ∙ (ap₂ (λ (n : ℕ) (founds : List Found). report_text project (lines_of founds)
        (refused_grammar_line (printed_number n))) k.0 k.1 ∙ sym b.report)
    by_reason (grammar a) (counts b) k = absurd k
    by_reason (grammar a) (record_refused cause b) k = absurd k
    by_reason (grammar a) (other_end b) k = absurd k
    by_reason (counts a) (grammar b) k = absurd k
    by_reason (counts a) (counts b) k = a.report ∙ sym b.report
    by_reason (counts a) (record_refused cause b) k = absurd k
    by_reason (counts a) (other_end b) k = absurd k
    by_reason (record_refused cause a) (grammar b) k = absurd k
    by_reason (record_refused cause a) (counts b) k = absurd k
    by_reason (record_refused cause a) (record_refused second b) k =
        a.report ∙ (ap₂ (λ (c : CertRefused) (founds : List Found). report_text project (lines_of founds)
        (refused_line project c)) k.0 k.1.1 ∙ sym b.report)
    by_reason (record_refused cause a) (other_end b) k = absurd k
    by_reason (other_end a) (grammar b) k = absurd k
    by_reason (other_end a) (counts b) k = absurd k
    by_reason (other_end a) (record_refused cause b) k = absurd k
    by_reason (other_end a) (other_end b) k =
        a.report ∙ (ap (λ (founds : List Found). report_text project (lines_of founds)
        (refused_end_line (line_feeds text))) k ∙ sym b.report)

    two_accepted : CheckAccepts project text printed → CheckAccepts project text other → printed ≡ other
    two_accepted a b =
        one_report project text printed
        (record { founds = b.founds; left = b.left; is_run = b.is_run; certificate = b.certificate }) a ∙ sym b.report

    report_by : (a b : CheckEnd) → CheckEndsPlainly project text printed a → CheckEndsPlainly project text other b
        → printed ≡ other
    report_by Accepted Accepted x y = two_accepted x y
    report_by Accepted Refused x y = absurd (never_refused project text other (accepted_is project text printed x) y)
    report_by Refused Accepted x y = absurd (never_refused project text printed (accepted_is project text other y) x)
    report_by Refused Refused x y = by_reason x y (one_reason x y)

    end_by : (a b : CheckEnd) → CheckEndsPlainly project text printed a → CheckEndsPlainly project text other b → a ≡ b
    end_by Accepted Accepted x y = refl
    end_by Accepted Refused x y = absurd (never_refused project text other (accepted_is project text printed x) y)
    end_by Refused Accepted x y = absurd (never_refused project text printed (accepted_is project text other y) x)
    end_by Refused Refused x y = refl

    pub one_answer_plainly : (a b : CheckEnd) → CheckEndsPlainly project text printed a
        → CheckEndsPlainly project text other b → (a ≡ b) × (printed ≡ other)
    one_answer_plainly a b x y = (end_by a b x y, report_by a b x y)
