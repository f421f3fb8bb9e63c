-- What a certificate of version 4 can have from a PERIOD line or the END line on, and before that its header line.
use Rattle.std.proofs.Common.{◌≡◌, ◌≢◌, ℕ, suc, ◌+◌, ◌*◌, ◌<◌, ◌^◌, ℤ, Bool, false, Option, Some, List, [], ◌∷◌}
use Rattle.std.proofs.Common.{◌++◌, length, length-append, map, get_or, refl, sym, ap, ap₂, subst, ◌∙◌, append_assoc}
use Rattle.std.proofs.Common.{inl, inr, codes, arith}
use Rattle.std.specs.Prelude.{All}
use Rattle.std.specs.Fmt.{decimal}
use Rattle.std.proofs.lemmas.List.{append-nil, append_cancel_left}
use Rattle.std.proofs.lemmas.List.Elements.{All-nil, All-cons, All-head, All-tail}
use Rattle.hyd_io.specs.DeskBytes.{prepend_known}
use Rattle.hyd_spec.specs.Lists.{joined}
use Rattle.hyd_spec_certificates.specs.Certificate.{IsInBox}
use Rattle.hyd_spec_certificates.specs.RecordAndStanding.{Record as Row}
use Rattle.hyd_spec_certificates.specs.CertificateText.{words, vectors_text, end_line, line_feeds}
use Rattle.hyd_spec_open_ends.specs.OpenStandings.{OpenRecord}
use Rattle.hyd_spec_open_ends.specs.OpenCertificateText.{open_record_text, IsOpenRow}
use Rattle.hyd_spec_witnesses.specs.FaultyLine.{IsLines}
use Rattle.hyd_lemmas.proofs.ListsOptionsAndResults.{same_item}
use Rattle.hyd_line_reader.specs.TextsWithoutLine.{HasNo}
use Rattle.hyd_line_reader.proofs.SplitTexts.{split-same}
use Rattle.hyd_witness_texts.specs.FirstFaults.{IsFaultOf, IsFaultAtFront}
use Rattle.hyd_witness_texts.specs.PartsOfWitness.{IsOneThen}
use Rattle.hyd_witness_texts.proofs.FirstFaultLemmas.{feeds-append, one_feed, lines_append, one_is_lines, cut_line}
use Rattle.hyd_witness_texts.proofs.FirstFaultLemmas.{HasFirst, none_such, stuck_here, stuck_behind, stuck_with_more}
use Rattle.hyd_witness_texts.proofs.FirstFaultLemmas.{stuck_at_end}
use Rattle.hyd_cert.specs.Lines.{Header, header_words, header_text, end_word}
use Rattle.hyd_cert.specs.PlacesOfLines.{Lacks, heads_in, head_text}
use Rattle.hyd_cert.specs.VectorsOfRecord.{AreVectors}
use Rattle.hyd_cert.specs.declared.answers_of_reader.Stand.TheVariants as stand
use Rattle.hyd_cert.proofs.LineLemmas.{wide_free, next_is_line}
use Rattle.hyd_cert.proofs.HeadLemmas.{end_is}
use Rattle.hyd_cert.proofs.TextsAtFault.{has_rest}
use Rattle.hyd_cert.proofs.VectorLemmas.{row_with, row_is, flat_text}
use Rattle.hyd_cert.proofs.CertificatesLineByLine.{flat, by_heads}
use Rattle.hyd_open_certificates.specs.OpenLines.{open_header, IsOpenHeaderLine, AreFiveSmall, open_period_words}
use Rattle.hyd_open_certificates.specs.OpenPeriodOrEndLine.{IsOpenPeriodOrEnd}
use Rattle.hyd_open_certificates.specs.OpenTexts.{IsOpenCertificate, IsAnyOpenCertificate, IsOpenRest, AreHeads}
use Rattle.hyd_open_certificates.specs.OpenFaults.{IsOpenFault, LacksOpenRecord, LacksOpenHeader}
use Rattle.hyd_open_certificates.proofs.OpenLineLemmas.{open_header_parts, open_header_is_line, open_period_is}
use Rattle.hyd_open_certificates.proofs.OpenLineLemmas.{open_next_is_line}
use Rattle.hyd_theorems_on_definitions.proofs.CertificateLines.{decimal-same}
use Rattle.hyd_open_certificates.proofs.HeadsOfRecord.{heads_are_lines, heads_feeds, heads_cut}

-- ---- the lines of a record

-- its PERIOD line
abbrev pub period_words : OpenRecord → List ℕ
period_words found =
    open_period_words found.row.number found.row.time found.late found.shortest found.row.length

pub small_of : (n k : ℕ) (found : OpenRecord) → IsOpenRow n k found
    → AreFiveSmall found.row.number found.row.time found.late found.shortest found.row.length
small_of n k found is = record {
  number_fits = is.row.number_fits;
  time_fits = is.row.time_fits;
  late_fits = is.late_fits;
  shortest_fits = is.shortest_fits;
  longest_fits = is.row.length_fits;
}

pub period_alone : (number time late shortest longest : ℕ) → AreFiveSmall number time late shortest longest
    → HasNo 10 (open_period_words number time late shortest longest)
period_alone number time late shortest longest fit =
    (open_next_is_line _ (inl (open_period_is number time late shortest longest fit))).0

pub end_alone : (periods : ℕ) (finished : Bool) → periods < 2 ^ 32
    → HasNo 10 (words (codes "END" ∷ (decimal periods ∷ (end_word finished ∷ []))))
end_alone periods finished fits = (next_is_line _ (inr (end_is periods finished fits))).0

-- the lines of its vectors
abbrev pub vectors_of : Row → List ℕ
vectors_of row = vectors_text (codes "MU") (codes "ML") row.main
    ++ joined (map (vectors_text (codes "PU") (codes "PL")) row.pinned)

-- are those of its heads
vectors_of_row : (n k : ℕ) (found : OpenRecord) → IsOpenRow n k found
    → vectors_of found.row ≡ head_text n 0 (flat found.row)
vectors_of_row n k found is =
    let by = by_heads n k found.row is.row in
    ap vectors_of (sym by.same) ∙ sym (flat_text n k (flat found.row) by.whole)

heads_of : (n k : ℕ) (found : OpenRecord) → IsOpenRow n k found
    → AreHeads n 0 (heads_in n k) (head_text n 0 (flat found.row))
heads_of n k found is = let by = by_heads n k found.row is.row in
    record { heads = flat found.row; many = by.whole; in_box = by.box; is = refl }

-- a record is its PERIOD line and its heads
pub record_parts : (n k : ℕ) (found : OpenRecord) (r : List ℕ) → IsOpenRow n k found
    → open_record_text found ++ r ≡ (period_words found ++ (10 ∷ [])) ++ (head_text n 0 (flat found.row) ++ r)
record_parts n k found r is =
    ap (λ v. ((period_words found ++ (10 ∷ [])) ++ v) ++ r) (vectors_of_row n k found is)
    ∙ append_assoc (period_words found ++ (10 ∷ [])) (head_text n 0 (flat found.row)) r

-- a record of five numbers and of heads
abbrev pub found_with : (n k number time late shortest longest : ℕ) → List ℤ → OpenRecord
found_with n k number time late shortest longest us = record {
  row = row_with n k number time longest us;
  late = late;
  shortest = shortest;
}

pub found_is : (n k number time late shortest longest : ℕ) (us heads : List ℤ) → us ≡ heads
    → AreFiveSmall number time late shortest longest → AreVectors n k us → All IsInBox heads
    → IsOpenRow n k (found_with n k number time late shortest longest us)
found_is n k number time late shortest longest us heads same fit whole box = record {
  row = row_is n k number time longest us heads same whole box fit.number_fits fit.time_fits fit.longest_fits;
  late_fits = fit.late_fits;
  shortest_fits = fit.shortest_fits;
}

pub found_text : (n k number time late shortest longest : ℕ) (us : List ℤ) → AreVectors n k us
    → open_record_text (found_with n k number time late shortest longest us)
    ≡ (open_period_words number time late shortest longest ++ (10 ∷ [])) ++ head_text n 0 us
found_text n k number time late shortest longest us whole =
    ap (λ v. (open_period_words number time late shortest longest ++ (10 ∷ [])) ++ v)
    (sym (flat_text n k us whole))

-- ---- what can come behind some records

module _ (header : Header) where
  pub rest_ends : (periods : ℕ) (finished : Bool) → periods < 2 ^ 32 → IsOpenRest header (end_line periods finished)
  rest_ends periods finished fits = record {
    rows = [];
    periods = periods;
    finished = finished;
    rows_fit = All-nil (IsOpenRow header.junctions header.tanks);
    periods_fit = fits;
    is_text = refl;
  }

  pub rest_goes : (found : OpenRecord) (r : List ℕ) → IsOpenRow header.junctions header.tanks found
      → IsOpenRest header r → IsOpenRest header (open_record_text found ++ r)
  rest_goes found r is rest = record {
    rows = found ∷ rest.rows;
    periods = rest.periods;
    finished = rest.finished;
    rows_fit = All-cons (IsOpenRow header.junctions header.tanks) found rest.rows is rest.rows_fit;
    periods_fit = rest.periods_fit;
    is_text = ap (λ t. open_record_text found ++ t) rest.is_text
        ∙ sym (append_assoc (open_record_text found) (joined (map open_record_text rest.rows))
        (end_line rest.periods rest.finished));
  }

  data RestCase (t : List ℕ) : Type 0 where
    ends : (periods : ℕ) (finished : Bool) → periods < 2 ^ 32 → t ≡ end_line periods finished → RestCase t
    goes : (found : OpenRecord) (r : List ℕ) → IsOpenRow header.junctions header.tanks found → IsOpenRest header r
        → t ≡ open_record_text found ++ r → RestCase t

  rest_case : (t : List ℕ) → IsOpenRest header t → RestCase t
  rest_case t is = by is.rows is.rows_fit is.is_text
    where
      by : (rows : List OpenRecord) → All (IsOpenRow header.junctions header.tanks) rows
          → t ≡ joined (map open_record_text rows) ++ end_line is.periods is.finished → RestCase t
      by [] all e = ends is.periods is.finished is.periods_fit e
      by (found ∷ rows) all e =
          goes found (joined (map open_record_text rows) ++ end_line is.periods is.finished)
          (All-head (IsOpenRow header.junctions header.tanks) found rows all) (record {
            rows = rows;
            periods = is.periods;
            finished = is.finished;
            rows_fit = All-tail (IsOpenRow header.junctions header.tanks) found rows all;
            periods_fit = is.periods_fit;
            is_text = refl;
          }) (e ∙ append_assoc (open_record_text found) (joined (map open_record_text rows))
          (end_line is.periods is.finished))

  begins_next : (t : List ℕ) → IsOpenRest header t → HasFirst IsOpenPeriodOrEnd t
  begins_next t is = by (rest_case t is)
    where
      by : RestCase t → HasFirst IsOpenPeriodOrEnd t
      by (ends periods finished fits e) = record {
        line = words (codes "END" ∷ (decimal periods ∷ (end_word finished ∷ [])));
        rest = [];
        is_such = inr (end_is periods finished fits);
        parts = e;
      }
      by (goes found r is_found rest e) = record {
        line = period_words found;
        rest = head_text header.junctions 0 (flat found.row) ++ r;
        is_such = inl (open_period_is found.row.number found.row.time found.late found.shortest found.row.length
            (small_of header.junctions header.tanks found is_found));
        parts = e ∙ (record_parts header.junctions header.tanks found r is_found
            ∙ append_assoc (period_words found) (10 ∷ []) (head_text header.junctions 0 (flat found.row) ++ r));
      }

  -- no line that can stand there is next
  pub stuck_between : (t : List ℕ) → Lacks IsOpenPeriodOrEnd (Some t) → IsOpenFault header stand.Between t 1
  stuck_between t lacks =
      stuck_here IsOpenPeriodOrEnd t (end_line 0 false) (rest_ends 0 false (omega arith))
      (λ l is. (open_next_is_line l is).0) begins_next lacks

  -- ---- a record

  abbrev HeadsThen : List ℕ → Type 0
  HeadsThen = IsOneThen (AreHeads header.junctions 0 (heads_in header.junctions header.tanks)) (IsOpenRest header)

  -- what follows a PERIOD line
  heads_behind : (number time late shortest longest : ℕ) → AreFiveSmall number time late shortest longest
      → (t : List ℕ) (found : OpenRecord) (r : List ℕ) → IsOpenRow header.junctions header.tanks found
      → (open_period_words number time late shortest longest ++ (10 ∷ [])) ++ t ≡ open_record_text found ++ r
      → t ≡ head_text header.junctions 0 (flat found.row) ++ r
  heads_behind number time late shortest longest fit t found r is e =
      cut_line (open_period_words number time late shortest longest) (period_words found) t
      (head_text header.junctions 0 (flat found.row) ++ r) (period_alone number time late shortest longest fit)
      (period_alone found.row.number found.row.time found.late found.shortest found.row.length
      (small_of header.junctions header.tanks found is))
      (e ∙ record_parts header.junctions header.tanks found r is)

  module _ (number time late shortest longest : ℕ) (fit : AreFiveSmall number time late shortest longest) where
    period_push : (t : List ℕ) → HeadsThen t
        → IsOpenRest header ((open_period_words number time late shortest longest ++ (10 ∷ [])) ++ t)
    period_push t is =
        let us = is.is_first.heads in let n = header.junctions in let k = header.tanks in
        let P = open_period_words number time late shortest longest ++ (10 ∷ []) in
        subst (IsOpenRest header)
        (ap (λ w. w ++ is.second) (found_text n k number time late shortest longest us is.is_first.many)
        ∙ (append_assoc P (head_text n 0 us) is.second
        ∙ ap (λ w. P ++ w) (sym (is.parts ∙ ap (λ f. f ++ is.second) is.is_first.is))))
        (rest_goes (found_with n k number time late shortest longest us) is.second
        (found_is n k number time late shortest longest us us refl fit is.is_first.many is.is_first.in_box)
        is.is_second)

    period_pull : (t : List ℕ)
        → IsOpenRest header ((open_period_words number time late shortest longest ++ (10 ∷ [])) ++ t) → HeadsThen t
    period_pull t is = by (rest_case _ is)
      where
        by : RestCase ((open_period_words number time late shortest longest ++ (10 ∷ [])) ++ t) → HeadsThen t
        by (ends periods finished fits e) =
            let first : 80 ≡ 69 = ap (λ (w : List ℕ). get_or w 0 0) e in absurd (omega (arith, first))
        by (goes found r is_found rest e) = record {
          first = head_text header.junctions 0 (flat found.row);
          second = r;
          is_first = heads_of header.junctions header.tanks found is_found;
          is_second = rest;
          parts = heads_behind number time late shortest longest fit t found r is_found e;
        }

    -- a fault in the heads behind a PERIOD line
    pub stuck_in_heads : (t : List ℕ) (number' : ℕ)
        → IsFaultAtFront (AreHeads header.junctions 0 (heads_in header.junctions header.tanks)) t number'
        → IsOpenFault header stand.Between ((open_period_words number time late shortest longest ++ (10 ∷ [])) ++ t)
        (1 + number')
    stuck_in_heads t number' fault =
        let inside : IsFaultOf HeadsThen t number' = stuck_with_more t number'
        (λ u heads. (
          end_line 0 false,
          record {
            first = u;
            second = end_line 0 false;
            is_first = heads;
            is_second = rest_ends 0 false (omega arith);
            parts = refl;
          },
        ))
        (λ u is. record { front = is.first; rest = is.second; is_such = is.is_first; parts = is.parts }) fault in
        stuck_behind (open_period_words number time late shortest longest ++ (10 ∷ [])) t 1 number'
        (one_is_lines (open_period_words number time late shortest longest))
        (one_feed (open_period_words number time late shortest longest)
        (period_alone number time late shortest longest fit)) period_push period_pull inside

    -- no whole record stands there
    pub none_in_heads : (t : List ℕ) (number' : ℕ)
        → IsFaultAtFront (AreHeads header.junctions 0 (heads_in header.junctions header.tanks)) t number'
        → LacksOpenRecord stand.Between header
        (Some ((open_period_words number time late shortest longest ++ (10 ∷ [])) ++ t))
    none_in_heads t number' fault found r is e =
        let whole = same_item _ ((open_period_words number time late shortest longest ++ (10 ∷ [])) ++ t)
        (open_record_text found ++ r) e in
        none_such t number' fault (record {
          front = head_text header.junctions 0 (flat found.row);
          rest = r;
          is_such = heads_of header.junctions header.tanks found is;
          parts = heads_behind number time late shortest longest fit t found r is whole;
        })

  -- something behind the END line
  pub stuck_over : (periods : ℕ) (finished : Bool) → periods < 2 ^ 32 → (t : List ℕ) → t ≢ []
      → IsOpenFault header stand.Between (end_line periods finished ++ t) (1 + 1)
  stuck_over periods finished fits t some =
      stuck_behind (end_line periods finished) t 1 1
      (one_is_lines (words (codes "END" ∷ (decimal periods ∷ (end_word finished ∷ [])))))
      (one_feed (words (codes "END" ∷ (decimal periods ∷ (end_word finished ∷ [])))) (end_alone periods finished fits))
      push pull (stuck_at_end t some)
    where
      push : (u : List ℕ) → u ≡ [] → IsOpenRest header (end_line periods finished ++ u)
      push u e = subst (IsOpenRest header) (sym (ap (λ v. end_line periods finished ++ v) e
          ∙ append-nil (end_line periods finished))) (rest_ends periods finished fits)

      by : (u : List ℕ) → RestCase (end_line periods finished ++ u) → u ≡ []
      by u (ends p f fits' e) =
          cut_line (words (codes "END" ∷ (decimal periods ∷ (end_word finished ∷ []))))
          (words (codes "END" ∷ (decimal p ∷ (end_word f ∷ [])))) u [] (end_alone periods finished fits)
          (end_alone p f fits') (e ∙ sym (append-nil (end_line p f)))
      by u (goes found r is rest e) = let first : 69 ≡ 80 = ap (λ (w : List ℕ). get_or w 0 0) e in
          absurd (omega (arith, first))

      pull : (u : List ℕ) → IsOpenRest header (end_line periods finished ++ u) → u ≡ []
      pull u is = by u (rest_case _ is)

  pub none_between : (text : Option (List ℕ)) → Lacks IsOpenPeriodOrEnd text
      → LacksOpenRecord stand.Between header text
  none_between text lacks found r is e =
      lacks (period_words found) (head_text header.junctions 0 (flat found.row) ++ r)
      (inl (open_period_is found.row.number found.row.time found.late found.shortest found.row.length
      (small_of header.junctions header.tanks found is)))
      (e ∙ ap Some (record_parts header.junctions header.tanks found r is
      ∙ append_assoc (period_words found) (10 ∷ []) (head_text header.junctions 0 (flat found.row) ++ r)))

  pub none_at_end : (periods : ℕ) (finished : Bool) (t : List ℕ)
      → LacksOpenRecord stand.Between header (Some (end_line periods finished ++ t))
  none_at_end periods finished t found r is e =
      let whole = same_item _ (end_line periods finished ++ t) (open_record_text found ++ r) e in
      let first : 69 ≡ 80 = ap (λ (w : List ℕ). get_or w 0 0) whole in absurd (omega (arith, first))

  -- ---- whole records

  record_cut : (a b : OpenRecord) → IsOpenRow header.junctions header.tanks a
      → IsOpenRow header.junctions header.tanks b → (t r : List ℕ)
      → open_record_text a ++ t ≡ open_record_text b ++ r → t ≡ r
  record_cut a b is_a is_b t r e =
      let n = header.junctions in let k = header.tanks in
      let heads = heads_behind a.row.number a.row.time a.late a.shortest a.row.length (small_of n k a is_a)
      (head_text n 0 (flat a.row) ++ t) b r is_b (sym (record_parts n k a t is_a) ∙ e) in
      heads_cut n 0 (heads_in n k) (head_text n 0 (flat a.row)) (head_text n 0 (flat b.row)) t r (heads_of n k a is_a)
      (heads_of n k b is_b) heads

  record_lines : (found : OpenRecord) → IsOpenRow header.junctions header.tanks found
      → open_record_text found ≡ (period_words found ++ (10 ∷ [])) ++ head_text header.junctions 0 (flat found.row)
  record_lines found is = ap (λ v. (period_words found ++ (10 ∷ [])) ++ v)
      (vectors_of_row header.junctions header.tanks found is)

  record_is_lines : (found : OpenRecord) → IsOpenRow header.junctions header.tanks found
      → IsLines (open_record_text found)
  record_is_lines found is =
      subst IsLines (sym (record_lines found is)) (lines_append (period_words found ++ (10 ∷ []))
      (head_text header.junctions 0 (flat found.row)) (one_is_lines (period_words found))
      (heads_are_lines header.junctions 0 (flat found.row)))

  record_feeds : (found : OpenRecord) → IsOpenRow header.junctions header.tanks found
      → line_feeds (open_record_text found) ≡ 1 + heads_in header.junctions header.tanks
  record_feeds found is =
      let by = by_heads header.junctions header.tanks found.row is.row in
      let parts = ap line_feeds (record_lines found is) in
      let sum = feeds-append (period_words found ++ (10 ∷ [])) (head_text header.junctions 0 (flat found.row)) in
      let one = one_feed (period_words found) (period_alone found.row.number found.row.time found.late found.shortest
      found.row.length (small_of header.junctions header.tanks found is)) in
      let more = heads_feeds header.junctions 0 (flat found.row) by.box in
      let whole : length (flat found.row) ≡ heads_in header.junctions header.tanks = by.whole in
      parts ∙ (sum ∙ ap₂ (λ a b. a + b) one (more ∙ whole))

  record_pull : (found : OpenRecord) → IsOpenRow header.junctions header.tanks found → (t : List ℕ)
      → IsOpenRest header (open_record_text found ++ t) → IsOpenRest header t
  record_pull found is t whole = by (rest_case _ whole)
    where
      by : RestCase (open_record_text found ++ t) → IsOpenRest header t
      by (ends periods finished fits e) =
          let first : 80 ≡ 69 = ap (λ (w : List ℕ). get_or w 0 0) e in absurd (omega (arith, first))
      by (goes other r is_other rest e) = subst (IsOpenRest header) (sym (record_cut found other is is_other t r e))
          rest

  pub records_stuck : (rows : List OpenRecord) → All (IsOpenRow header.junctions header.tanks) rows
      → (number : ℕ) (rest : List ℕ) → IsOpenFault header stand.Between rest number
      → IsOpenFault header stand.Between (joined (map open_record_text rows) ++ rest)
      (length rows * (1 + heads_in header.junctions header.tanks) + number)
  records_stuck [] all number rest fault =
      subst (IsOpenFault header stand.Between rest) (omega arith) fault
  records_stuck (found ∷ rows) all number rest fault =
      let IsGood = IsOpenRow header.junctions header.tanks in
      let X = 1 + heads_in header.junctions header.tanks in
      let is = All-head IsGood found rows all in
      let inner = records_stuck rows (All-tail IsGood found rows all) number rest fault in
      let more : X + (length rows * X + number) ≡ suc (length rows) * X + number = omega arith in
      subst (IsOpenFault header stand.Between (joined (map open_record_text (found ∷ rows)) ++ rest)) more
      (subst (λ (t : List ℕ). IsOpenFault header stand.Between t (X + (length rows * X + number)))
      (sym (append_assoc (open_record_text found) (joined (map open_record_text rows)) rest))
      (stuck_behind (open_record_text found) (joined (map open_record_text rows) ++ rest) X (length rows * X + number)
      (record_is_lines found is) (record_feeds found is) (λ t r. rest_goes found t is r) (record_pull found is) inner))

-- ---- the header line

-- one line has one header
pub header_same : (header other : Header) (l m : List ℕ) → IsOpenHeaderLine header l → IsOpenHeaderLine other m
    → l ≡ m → header ≡ other
header_same header other l m p q e =
    let whole = append_cancel_left (codes "HYDCERT 4 ") (decimal header.junctions ++ (32 ∷ decimal header.tanks))
    (decimal other.junctions ++ (32 ∷ decimal other.tanks))
    (sym (open_header_parts header l p) ∙ (e ∙ open_header_parts other m q)) in
    let split = split-same 32 (decimal header.junctions) (decimal other.junctions) (decimal header.tanks)
    (decimal other.tanks) (wide_free 32 header.junctions (omega arith) p.junctions_fit)
    (wide_free 32 other.junctions (omega arith) q.junctions_fit) whole in
    ap (λ v. record header { version = v }) (p.known ∙ sym q.known)
    ∙ (ap (λ n. record other {
      junctions = n;
      tanks = header.tanks;
    }) (decimal-same header.junctions other.junctions p.junctions_fit q.junctions_fit split.0)
    ∙ ap (λ k. record other { tanks = k }) (decimal-same header.tanks other.tanks p.tanks_fit q.tanks_fit split.1))

-- the header line of a certificate
pub header_of_certificate : (header : Header) (text : List ℕ) → IsOpenCertificate header text
    → IsOpenHeaderLine header (header_words header)
header_of_certificate header text is =
    let t = is.is_text in
    let fits = t.header_fits in
    let same : length (header_text header) ≡ length (header_text (open_header header.junctions header.tanks)) =
    ap (λ v. length (header_text (record header { version = v }))) is.known in
    let whole = length-append (header_words header) (10 ∷ []) in
    record {
      known = is.known;
      junctions_fit = t.junctions_fit;
      tanks_fit = t.tanks_fit;
      short = omega (arith, fits, same, whole);
      is = refl;
    }

-- what a certificate is behind it
pub certificate_parts : (header : Header) (text : List ℕ) (is : IsOpenCertificate header text)
    → text ≡ (header_words header ++ (10 ∷ [])) ++ (joined (map open_record_text is.rows)
    ++ end_line is.periods is.finished)
certificate_parts header text is =
    is.is_text.is_text ∙ ap (λ v. header_text (record header { version = v })
    ++ (joined (map open_record_text is.rows) ++ end_line is.periods is.finished)) (sym is.known)

begins_header : (text : List ℕ) → IsAnyOpenCertificate text
    → HasFirst (λ l. (header : Header) × IsOpenHeaderLine header l) text
begins_header text any =
    let header = any.0 in let is = any.1 in record {
      line = header_words header;
      rest = joined (map open_record_text is.rows) ++ end_line is.periods is.finished;
      is_such = (header, header_of_certificate header text is);
      parts = certificate_parts header text is ∙ append_assoc (header_words header) (10 ∷ [])
          (joined (map open_record_text is.rows) ++ end_line is.periods is.finished);
    }

module _ (header : Header) (is_header : IsOpenHeaderLine header (header_words header)) where
  header_alone : HasNo 10 (header_words header)
  header_alone = (open_header_is_line header (header_words header) is_header).0

  -- a header line and what can come behind it make a certificate
  pub header_push : (t : List ℕ) → IsOpenRest header t → IsOpenCertificate header (header_text header ++ t)
  header_push t rest =
      let whole = length-append (header_words header) (10 ∷ []) in
      let short = is_header.short in
      let same : length (header_text header) ≡ length (header_text (open_header header.junctions header.tanks)) =
      ap (λ v. length (header_text (record header { version = v }))) is_header.known in
      record {
        known = is_header.known;
        rows = rest.rows;
        periods = rest.periods;
        finished = rest.finished;
        is_text = record {
          junctions_fit = is_header.junctions_fit;
          tanks_fit = is_header.tanks_fit;
          header_fits = omega (arith, whole, short, same);
          rows_fit = rest.rows_fit;
          periods_fit = rest.periods_fit;
          is_text = ap₂ (λ v r. header_text (record header { version = v }) ++ r) is_header.known rest.is_text;
        };
      }

  -- and a certificate that begins with it is one with this header
  header_pull : (t : List ℕ) → IsAnyOpenCertificate (header_text header ++ t) → IsOpenRest header t
  header_pull t any =
      let other = any.0 in let is = any.1 in let c = is.is_text in
      let k = split-same 10 (header_words header) (header_words other) t
      (joined (map open_record_text is.rows) ++ end_line is.periods is.finished) header_alone
      (open_header_is_line other (header_words other) (header_of_certificate other _ is)).0
      (sym (append_assoc (header_words header) (10 ∷ []) t)
      ∙ (certificate_parts other _ is ∙ append_assoc (header_words other) (10 ∷ [])
      (joined (map open_record_text is.rows) ++ end_line is.periods is.finished))) in
      let same = header_same header other (header_words header) (header_words other) is_header
      (header_of_certificate other _ is) k.0 in
      subst (λ (h : Header). IsOpenRest h t) (sym same) (record {
        rows = is.rows;
        periods = is.periods;
        finished = is.finished;
        rows_fit = c.rows_fit;
        periods_fit = c.periods_fit;
        is_text = k.1;
      })

  -- no header line is next
  pub stuck_first : (t : List ℕ) → LacksOpenHeader (Some t) → IsOpenFault header stand.First t 1
  stuck_first t lacks =
      stuck_here (λ l. (other : Header) × IsOpenHeaderLine other l) t (header_text header ++ end_line 0 false)
      (header_push (end_line 0 false) (rest_ends header 0 false (omega arith)))
      (λ l is. (open_header_is_line is.0 l is.1).0) begins_header (λ l r is e. lacks is.0 l r is.1 e)

  -- a fault behind the header line
  pub stuck_behind_header : (t : List ℕ) (number : ℕ) → IsOpenFault header stand.Between t number
      → IsOpenFault header stand.First (header_text header ++ t) (1 + number)
  stuck_behind_header t number fault =
      stuck_behind (header_text header) t 1 number (one_is_lines (header_words header))
      (one_feed (header_words header) header_alone) header_push header_pull fault

  -- no whole record

  pub none_at_first : (text : Option (List ℕ)) → LacksOpenHeader text → LacksOpenRecord stand.First header text
  none_at_first text lacks found r is e =
      lacks header (header_words header) (open_record_text found ++ r) is_header
      (e ∙ ap Some (append_assoc (header_words header) (10 ∷ []) (open_record_text found ++ r)))

pub none_behind_header : (header : Header) (text rest : Option (List ℕ))
    → text ≡ prepend_known (header_text header) rest → LacksOpenRecord stand.Between header rest
    → LacksOpenRecord stand.First header text
none_behind_header header text rest same lacks found r is e =
    let at = has_rest (header_text header) rest (header_text header ++ (open_record_text found ++ r)) (sym same ∙ e) in
    lacks found r is (at.told ∙ ap Some (sym (append_cancel_left (header_text header) (open_record_text found ++ r)
    at.left at.whole)))
