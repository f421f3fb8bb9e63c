-- Of the records with which one text of version 4 begins, those of a check that read all of them are the most; and a text
-- with a header line of other counts begins with none.
use Rattle.std.proofs.Common.{◌≡◌, ℕ, ◌<◌, ◌≤◌, ◌^◌, inl, inr, List, [], ◌∷◌, ◌++◌, length, map, Some, refl}
use Rattle.std.proofs.Common.{sym, ap, subst, ◌∙◌, append_assoc, append-nil, length-append, arith}
use Rattle.std.specs.Prelude.{All}
use Rattle.std.proofs.lemmas.Bool.{cases_lt}
use Rattle.std.proofs.lemmas.List.{append_cancel_left}
use Rattle.std.proofs.lemmas.List.Elements.{All-head, All-tail}
use Rattle.hyd_net.specs.Sound.{IsSound}
use Rattle.hyd_spec.specs.ProgramTypes.{Project}
use Rattle.hyd_spec.specs.Lists.{joined}
use Rattle.hyd_spec.specs.NodeNumbers.{junction_count, tank_count}
use Rattle.hyd_spec_certificates.specs.CertificateText.{header_line}
use Rattle.hyd_spec_open_ends.specs.OpenStandings.{OpenRecord}
use Rattle.hyd_spec_open_ends.specs.OpenCertificateText.{open_version, open_record_text, IsOpenRow}
use Rattle.hyd_spec_open_ends.specs.PromisesOfOpenRuns.{open_rows_of}
use Rattle.hyd_spec_open_reports.specs.PromisesOfOpenReports.{Reported, periods_of}
use Rattle.hyd_spec_open_checks.specs.OpenChecks.{open_header_for, BeginsWithOpenRecords, BeginsWithReported}
use Rattle.hyd_spec_open_checks.specs.OpenChecks.{CheckRefusesOpenGrammar}
use Rattle.hyd_lemmas.proofs.ListsOptionsAndResults.{joined_append}
use Rattle.hyd_line_reader.proofs.SplitTexts.{split-same}
use Rattle.hyd_cert.specs.Lines.{header_words}
use Rattle.hyd_cert.proofs.TextsAtFault.{has_rest}
use Rattle.hyd_open_certificates.specs.OpenLines.{IsOpenHeaderLine}
use Rattle.hyd_open_certificates.specs.OpenFaults.{HasOtherOpenHeader}
use Rattle.hyd_open_certificates.proofs.OpenLineLemmas.{open_header_is, open_header_is_line}
use Rattle.hyd_open_certificates.proofs.OpenRests.{header_same}
use Rattle.hyd_theorems_on_open_refusals.proofs.OpenTexts.{fronts_of_text}

-- ---- lists

all-behind : {X : Type 0} (P : X → Type 0) (front : List X) (x : X) (rest : List X) → All P (front ++ (x ∷ rest)) → P x
all-behind P [] x rest all = All-head P x rest all
all-behind P (y ∷ front) x rest all = all-behind P front x rest (All-tail P y (front ++ (x ∷ rest)) all)

no-items : {X : Type 0} (zs : List X) → length zs ≡ 0 → zs ≡ []
no-items [] e = refl
no-items (z ∷ zs) e = absurd (omega (arith, e))

-- two lists that begin with one another are the same
pub same_lists : {X : Type 0} (xs ys more rest : List X) → xs ≡ ys ++ more → ys ≡ xs ++ rest → xs ≡ ys
same_lists xs ys more rest e f =
    let n = ap length e in
    let m = ap length f in
    let p = length-append ys more in
    let q = length-append xs rest in
    let nothing : more ≡ [] = no-items more (omega (arith, n, m, p, q)) in
    e ∙ (ap (λ t. ys ++ t) nothing ∙ append-nil ys)

module _ (project : Project) (text : List ℕ) where
  abbrev Fits : List OpenRecord → Type 0
  Fits rows = All (IsOpenRow (junction_count project) (tank_count project)) rows

  abbrev Begins : List OpenRecord → Type 0
  Begins rows = BeginsWithOpenRecords project rows text

  abbrev head : List ℕ
  head = header_line open_version (junction_count project) (tank_count project)

  abbrev texts : List OpenRecord → List ℕ
  texts rows = joined (map open_record_text rows)

  -- ---- of records with which the text begins

  -- it begins with the first of them
  begins-first : (front rest : List OpenRecord) → Begins (front ++ rest) → Begins front
  begins-first front rest begins = record {
    unread = texts rest ++ begins.unread;
    is_text = begins.is_text
        ∙ ap (λ t. head ++ t) (ap (λ t. t ++ begins.unread) (joined_append open_record_text front rest)
        ∙ append_assoc (texts front) (texts rest) begins.unread);
  }

  -- what begins with reports begins with their records, where it begins with any
  reported-begins : (reports : List Reported) (rows : List OpenRecord) → BeginsWithReported project reports text
      → Begins rows → Begins (open_rows_of (periods_of reports))
  reported-begins reports rows (inr begins) other = begins
  reported-begins reports rows (inl none) other =
      subst (λ (rs : List Reported). Begins (open_rows_of (periods_of rs))) (sym none) (begins-first [] rows other)

  -- of two such lists the longer one begins with the other
  pub longer : (a b : List OpenRecord) → Fits a → Fits b → Begins a → Begins b → length a ≤ length b
      → (more : List OpenRecord) × (b ≡ a ++ more)
  longer a b fit_a fit_b x y le =
      fronts_of_text (junction_count project) (tank_count project) a b fit_a fit_b x.unread y.unread
      (append_cancel_left head (texts a ++ x.unread) (texts b ++ y.unread) (sym x.is_text ∙ y.is_text)) le

  -- ---- all records

  module _ (printed : List ℕ) (refuses : CheckRefusesOpenGrammar project text printed) where
    abbrev all : List OpenRecord
    all = open_rows_of (periods_of refuses.reports)

    -- nothing goes on behind all records
    none-behind : (rows more : List OpenRecord) → Fits rows → Begins rows → rows ≡ all ++ more
        → length all < length rows → ⊥
    none-behind rows [] fit begins e less =
        let n = ap length (e ∙ append-nil all) in omega (arith, n, less)
    none-behind rows (found ∷ more) fit begins e less =
        let P = IsOpenRow (junction_count project) (tank_count project) in
        refuses.all_records found (all-behind P all found more (subst (λ (rs : List OpenRecord). Fits rs) e fit))
        (begins-first (all ++ (found ∷ [])) more (subst (λ (rs : List OpenRecord). Begins rs)
        (e ∙ sym (append_assoc all (found ∷ []) more)) begins))

    pub longest : (rows : List OpenRecord) → Fits rows → Begins rows
        → (more : List OpenRecord) × (all ≡ rows ++ more)
    longest rows fit begins =
        let own = reported-begins refuses.reports rows refuses.begins begins in
        elim (cases_lt (length all) (length rows)) [
          | inr le ↦ longer rows all fit refuses.rows_fit begins own le
          | inl less ↦
              let k = longer all rows refuses.rows_fit fit own begins (omega (arith, less)) in
              absurd (none-behind rows k.0 fit begins k.1 less)
        ]

  -- two checks that read all records read the same
  pub all_same : (printed other : List ℕ) (x : CheckRefusesOpenGrammar project text printed)
      (y : CheckRefusesOpenGrammar project text other)
      → open_rows_of (periods_of x.reports) ≡ open_rows_of (periods_of y.reports)
  all_same printed other x y = by-begin x.begins y.begins
    where
      xs : List OpenRecord
      xs = open_rows_of (periods_of x.reports)

      ys : List OpenRecord
      ys = open_rows_of (periods_of y.reports)

      both : (rows : List OpenRecord) → Begins rows → xs ≡ ys
      both rows begins =
          let k = longest printed x ys y.rows_fit (reported-begins y.reports rows y.begins begins) in
          let m = longest other y xs x.rows_fit (reported-begins x.reports rows x.begins begins) in
          same_lists xs ys k.0 m.0 k.1 m.1

      by-begin : BeginsWithReported project x.reports text → BeginsWithReported project y.reports text → xs ≡ ys
      by-begin (inr begins) b = both xs begins
      by-begin (inl none) (inr begins) = both ys begins
      by-begin (inl none) (inl nothing) =
          ap (λ (rs : List Reported). open_rows_of (periods_of rs)) (none ∙ sym nothing)

  -- ---- the header line

  pub other_counts : IsSound project → (rows : List OpenRecord)
      → HasOtherOpenHeader (open_header_for project) (Some text) → Begins rows → ⊥
  other_counts sound rows is begins =
      let header = open_header_for project in
      let n : junction_count project < 2 ^ 32 = (let le = sound.counts.junctions in omega (arith, le)) in
      let k : tank_count project < 2 ^ 32 = (let le = sound.counts.tanks in omega (arith, le)) in
      let own : IsOpenHeaderLine header (header_words header) =
      open_header_is (junction_count project) (tank_count project) n k in
      let b = is.begins in
      let h = has_rest (b.line ++ (10 ∷ [])) b.rest text (sym b.begins) in
      let behind = texts rows ++ begins.unread in
      let split = split-same 10 b.line (header_words header) h.left behind
      (open_header_is_line b.header b.line b.is_header).0 (open_header_is_line header (header_words header) own).0
      (sym (append_assoc b.line (10 ∷ []) h.left) ∙ (sym h.whole ∙ (begins.is_text
      ∙ append_assoc (header_words header) (10 ∷ []) behind))) in
      is.apart (header_same b.header header b.line (header_words header) b.is_header own split.0)
