-- How many lines certificates of version 4 have, and what was told of one.
use Rattle.std.proofs.Common.{◌≡◌, ℕ, suc, ◌+◌, ◌*◌, ◌<◌, ◌≤◌, ◌^◌, Bool, List, [], ◌∷◌, ◌++◌, length, map, All}
use Rattle.std.proofs.Common.{Option, Some, None, inl, sym, ap, ◌∙◌, arith, append-nil, mul-le-mul}
use Rattle.std.specs.Prelude.{codes}
use Rattle.std.specs.Fmt.{decimal}
use Rattle.std.proofs.lemmas.List.Elements.{All-head, All-tail, All-cons, All-nil}
use Rattle.hyd_io.specs.DeskBytes.{where_told}
use Rattle.hyd_lemmas.proofs.ListsOptionsAndResults.{same_item}
use Rattle.hyd_spec.specs.Lists.{joined}
use Rattle.hyd_spec_certificates.specs.RecordAndStanding.{Record}
use Rattle.hyd_spec_certificates.specs.CertificateText.{IsRow, words, record_text, end_line, line_feeds}
use Rattle.hyd_spec_open_ends.specs.OpenStandings.{OpenRecord}
use Rattle.hyd_spec_open_ends.specs.OpenCertificateText.{open_record_text, open_period_line, IsOpenRow}
use Rattle.hyd_cert.specs.Lines.{header_text, header_words}
use Rattle.hyd_cert.specs.PlacesOfLines.{heads_in}
use Rattle.hyd_cert.specs.Faults.{lines_on}
use Rattle.hyd_cert.proofs.HeadLemmas.{period_is}
use Rattle.hyd_cert.proofs.LineLemmas.{next_is_line}
use Rattle.hyd_cert.proofs.WholeTextLemmas.{feeds_append}
use Rattle.hyd_theorems_on_flow_texts.proofs.LinesOfEntries.{one-feed, rows-feeds, end-feeds}
use Rattle.hyd_open_certificates.specs.OpenLines.{open_header, open_period_words, AreFiveSmall}
use Rattle.hyd_open_certificates.specs.OpenTexts.{open_lines_of as lines_with_records}
use Rattle.hyd_open_certificates.proofs.OpenLineLemmas.{open_header_is, open_header_is_line}
use Rattle.hyd_open_certificates.proofs.OpenRests.{period_alone, vectors_of}

-- ---- records

-- the vectors of a record have one line for each head
vectors-sum : (whole first vectors heads : ℕ) → whole ≡ first + vectors → first ≡ 1 → whole ≡ 1 * (1 + heads)
    → vectors ≡ heads
vectors-sum whole first vectors heads w f e = omega (arith, w, f, e)

vectors-feeds : (n k : ℕ) (row : Record) → IsRow n k row → line_feeds (vectors_of row) ≡ heads_in n k
vectors-feeds n k row is =
    let period = words (codes "PERIOD" ∷ (decimal row.number ∷ (decimal row.time ∷ (decimal row.length ∷ [])))) in
    let all = rows-feeds n k (row ∷ []) (All-cons (IsRow n k) row [] is (All-nil (IsRow n k))) in
    vectors-sum (line_feeds (record_text row)) (line_feeds (period ++ (10 ∷ []))) (line_feeds (vectors_of row))
    (heads_in n k) (feeds_append (period ++ (10 ∷ [])) (vectors_of row))
    (one-feed period (next_is_line period (inl (period_is row.number row.time row.length is.number_fits is.time_fits
    is.length_fits))).0)
    (ap line_feeds (sym (append-nil (record_text row))) ∙ all)

small-of : (n k : ℕ) (found : OpenRecord) → IsOpenRow n k found
    → AreFiveSmall found.row.number found.row.time found.late found.shortest found.row.length
small-of n k found is = record {
  number_fits = is.row.number_fits;
  time_fits = is.row.time_fits;
  late_fits = is.late_fits;
  shortest_fits = is.shortest_fits;
  longest_fits = is.row.length_fits;
}

record-sum : (whole first vectors heads : ℕ) → whole ≡ first + vectors → first ≡ 1 → vectors ≡ heads
    → whole ≡ 1 + heads
record-sum whole first vectors heads w f v = omega (arith, w, f, v)

record-feeds : (n k : ℕ) (found : OpenRecord) → IsOpenRow n k found
    → line_feeds (open_record_text found) ≡ 1 + heads_in n k
record-feeds n k found is =
    let period = open_period_words found.row.number found.row.time found.late found.shortest found.row.length in
    record-sum (line_feeds (open_record_text found)) (line_feeds (open_period_line found))
    (line_feeds (vectors_of found.row)) (heads_in n k) (feeds_append (open_period_line found) (vectors_of found.row))
    (one-feed period (period_alone found.row.number found.row.time found.late found.shortest found.row.length
    (small-of n k found is)))
    (vectors-feeds n k found.row is.row)

row-more : (whole here rest per count : ℕ) → whole ≡ here + rest → here ≡ per → rest ≡ count * per
    → whole ≡ suc count * per
row-more whole here rest per count w h r = omega (arith, w, h, r)

records-feeds : (n k : ℕ) (rows : List OpenRecord) → All (IsOpenRow n k) rows
    → line_feeds (joined (map open_record_text rows)) ≡ length rows * (1 + heads_in n k)
records-feeds n k [] all = omega arith
records-feeds n k (row ∷ rows) all =
    row-more _ _ _ (1 + heads_in n k) (length rows)
    (feeds_append (open_record_text row) (joined (map open_record_text rows)))
    (record-feeds n k row (All-head (IsOpenRow n k) row rows all))
    (records-feeds n k rows (All-tail (IsOpenRow n k) row rows all))

-- ---- texts

header-feeds : (n k : ℕ) → n < 2 ^ 32 → k < 2 ^ 32 → line_feeds (header_text (open_header n k)) ≡ 1
header-feeds n k fits_n fits_k =
    let header = open_header n k in
    one-feed (header_words header) (open_header_is_line header (header_words header) (open_header_is n k fits_n
    fits_k)).0

text-sum : (whole head behind rows last lines : ℕ) → whole ≡ head + behind → head ≡ 1 → behind ≡ rows + last
    → rows ≡ lines → last ≡ 1 → whole ≡ (1 + lines) + 1
text-sum whole head behind rows last lines w h b r l = omega (arith, w, h, b, r, l)

-- the header line, the records and the END line
pub certificate-feeds : (n k : ℕ) → n < 2 ^ 32 → k < 2 ^ 32 → (rows : List OpenRecord) → All (IsOpenRow n k) rows
    → (periods : ℕ) (finished : Bool) → periods < 2 ^ 32
    → line_feeds (header_text (open_header n k) ++ (joined (map open_record_text rows) ++ end_line periods finished))
    ≡ lines_with_records (open_header n k) rows + 1
certificate-feeds n k fits_n fits_k rows all periods finished fits =
    let head = header_text (open_header n k) in
    let middle = joined (map open_record_text rows) in
    let last = end_line periods finished in
    text-sum (line_feeds (head ++ (middle ++ last))) (line_feeds head) (line_feeds (middle ++ last))
    (line_feeds middle) (line_feeds last) (length rows * (1 + heads_in n k)) (feeds_append head (middle ++ last))
    (header-feeds n k fits_n fits_k) (feeds_append middle last) (records-feeds n k rows all)
    (end-feeds periods finished fits)

-- ---- how many lines there are at most

few-heads : (n k : ℕ) → n ≤ 10000 → k ≤ 32 → 1 + heads_in n k ≤ 660001
few-heads n k small few =
    let both : 2 + 2 * k ≤ 66 = omega (arith, few) in
    let all : n * (2 + 2 * k) ≤ 10000 * 66 = mul-le-mul small both in
    omega (arith, all)

few-lines : (count per : ℕ) → per ≤ 660001 → count < 2 ^ 32 → count * per ≤ 2 ^ 32 * 660001
few-lines count per small few = let le : count ≤ 2 ^ 32 = omega (arith, few) in mul-le-mul le small

last-line : (line before lines : ℕ) → before ≡ lines_on 0 (1 + lines) → line ≡ lines_on before 1
    → lines ≤ 2 ^ 32 * 660001 → line ≡ (1 + lines) + 1
last-line line before lines b l few = omega (arith, b, l, few)

-- the line behind so many records is counted right
pub counted : (n k : ℕ) (rows : List OpenRecord) (line before : ℕ) → n ≤ 10000 → k ≤ 32 → length rows < 2 ^ 32
    → before ≡ lines_on 0 (lines_with_records (open_header n k) rows) → line ≡ lines_on before 1
    → line ≡ lines_with_records (open_header n k) rows + 1
counted n k rows line before small few many b l =
    last-line line before (length rows * (1 + heads_in n k)) b l
    (few-lines (length rows) (1 + heads_in n k) (few-heads n k small few) many)

-- ---- texts that are told

-- a text that is told is the one that it is told to be
pub told-is : (rest : Option (List ℕ)) (x text : List ℕ) → where_told rest x ≡ Some text → text ≡ x
told-is None x text e = absurd (cc)
told-is (Some known) x text e = sym (same_item _ x text e)
