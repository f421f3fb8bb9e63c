-- The text of a certificate of version 4 is read in one way, and as that of no other version.
use Rattle.std.proofs.Common.{◌≡◌, ◌≢◌, ℕ, ◌+◌, ◌<◌, ◌^◌, ◌⊎◌, ℤ, pos, negsuc, Bool, true, false, List, [], ◌∷◌, ◌++◌, length}
use Rattle.std.proofs.Common.{map, Option, Some, refl, sym, ap, ap₂, subst, ◌∙◌, append_assoc, codes, inl, inr, get_or, arith}
use Rattle.std.proofs.Common.{rules}
use Rattle.std.specs.Prelude.{All}
use lib.Signed.{mag}
use Rattle.std.specs.Fmt.{decimal, signed_decimal}
use Rattle.std.proofs.lemmas.Fmt.{signed_decimal_injective}
use Rattle.std.proofs.lemmas.Int.{ints}
use Rattle.std.proofs.lemmas.List.{append_cancel_left}
use Rattle.std.proofs.lemmas.List.Elements.{All-head, All-tail}
use Rattle.hyd_spec.specs.Lists.{joined}
use Rattle.hyd_spec_certificates.specs.Certificate.{IsInBox}
use Rattle.hyd_spec_certificates.specs.RecordAndStanding.{Record as Row}
use Rattle.hyd_spec_certificates.specs.CertificateText.{words, header_line, end_line, IsCertificateText}
use Rattle.hyd_spec_flows.specs.FlowTexts.{Entry, IsTextWithFlows, is_with_flows}
use Rattle.hyd_spec_open_ends.specs.OpenStandings.{OpenRecord}
use Rattle.hyd_spec_open_ends.specs.OpenCertificateText.{open_version, open_record_text, IsOpenRow}
use Rattle.hyd_spec_open_ends.specs.OpenCertificateText.{IsOpenCertificateText}
use Rattle.hyd_theorems_on_definitions.proofs.CertificateLines.{decimal-same}
use Rattle.hyd_line_reader.specs.TextsWithoutLine.{HasNo}
use Rattle.hyd_line_reader.proofs.SplitTexts.{split-same}
use Rattle.hyd_cert.specs.Lines.{Header, header_words, header_text, IsHeaderLine, end_word}
use Rattle.hyd_cert.specs.PlacesOfLines.{Lacks, front_at, head_text}
use Rattle.hyd_cert.specs.PlacesWithFlows.{IsFlowsHeaderLine}
use Rattle.hyd_cert.proofs.LineLemmas.{wide_free, decimal_free, has_no_append, known_short, header_is_line}
use Rattle.hyd_cert.proofs.FlowLineLemmas.{flows_header_is_line}
use Rattle.hyd_cert.proofs.TextsAtFault.{has_rest}
use Rattle.hyd_cert.proofs.VectorLemmas.{row_with}
use Rattle.hyd_cert.proofs.CertificatesLineByLine.{flat, by_heads}
use Rattle.hyd_open_certificates.specs.OpenLines.{open_header}
use Rattle.hyd_open_certificates.specs.OpenTexts.{IsOpenCertificate}
use Rattle.hyd_open_certificates.specs.OpenFaults.{HasOpenHeader}
use Rattle.hyd_open_certificates.proofs.OpenLineLemmas.{open_header_is_line, open_header_parts}
use Rattle.hyd_open_certificates.proofs.HeadsOfRecord.{head_alone, first_then}
use Rattle.hyd_open_certificates.proofs.OpenRests.{header_same, header_of_certificate, certificate_parts, period_words}
use Rattle.hyd_open_certificates.proofs.OpenRests.{small_of, period_alone, record_parts, end_alone}

-- ---- records

-- two lines at the front of a text are the same, and so is what follows
lines_same : (a b x y : List ℕ) → HasNo 10 a → HasNo 10 b → (a ++ (10 ∷ [])) ++ x ≡ (b ++ (10 ∷ [])) ++ y
    → (a ≡ b) × (x ≡ y)
lines_same a b x y free_a free_b e =
    split-same 10 a b x y free_a free_b (sym (append_assoc a (10 ∷ []) x) ∙ (e ∙ append_assoc b (10 ∷ []) y))

box_mag : (h : ℤ) → IsInBox h → mag h < 2 ^ 63
box_mag (pos n) box = let b = box.below_ceiling in omega (arith, ints, b)
box_mag (negsuc n) box = let b = box.above_floor in omega (arith, ints, b)

head_same : (g h : ℤ) → IsInBox g → IsInBox h → signed_decimal g ≡ signed_decimal h → g ≡ h
head_same g h box_g box_h e =
    signed_decimal_injective g h (box_mag g box_g) (box_mag h box_h) e

heads_same : (n i : ℕ) (us ws : List ℤ) → length us ≡ length ws → All IsInBox us → All IsInBox ws → (t r : List ℕ)
    → head_text n i us ++ t ≡ head_text n i ws ++ r → (us ≡ ws) × (t ≡ r)
heads_same n i [] [] many all_u all_w t r e = (refl, e)
heads_same n i [] (w ∷ ws) many all_u all_w t r e = absurd (omega (arith, many))
heads_same n i (u ∷ us) [] many all_u all_w t r e = absurd (omega (arith, many))
heads_same n i (u ∷ us) (w ∷ ws) many all_u all_w t r e =
    let front = front_at n i in
    let box_u = All-head IsInBox u us all_u in let box_w = All-head IsInBox w ws all_w in
    let k = lines_same (front ++ signed_decimal u) (front ++ signed_decimal w) (head_text n (i + 1) us ++ t)
    (head_text n (i + 1) ws ++ r) (head_alone n i u box_u) (head_alone n i w box_w)
    (sym (first_then n i u us t) ∙ (e ∙ first_then n i w ws r)) in
    let first = head_same u w box_u box_w (append_cancel_left front (signed_decimal u) (signed_decimal w) k.0) in
    let rest = heads_same n (i + 1) us ws (omega (arith, many)) (All-tail IsInBox u us all_u)
    (All-tail IsInBox w ws all_w) t r k.1 in
    (ap₂ (λ z zs. z ∷ zs) first rest.0, rest.1)

-- the numbers of a PERIOD line
number_then_same : (a b : ℕ) (r s : List ℕ) → a < 2 ^ 32 → b < 2 ^ 32
    → decimal a ++ (32 ∷ r) ≡ decimal b ++ (32 ∷ s) → (a ≡ b) × (r ≡ s)
number_then_same a b r s fits_a fits_b e =
    let k = split-same 32 (decimal a) (decimal b) r s (decimal_free 32 a (omega arith) (omega (arith, fits_a)))
    (decimal_free 32 b (omega arith) (omega (arith, fits_b))) e in
    (decimal-same a b (omega (arith, fits_a)) (omega (arith, fits_b)) k.0, k.1)

record SameNumbers (a b : OpenRecord) : Type 0 where
  number : a.row.number ≡ b.row.number
  time : a.row.time ≡ b.row.time
  late : a.late ≡ b.late
  shortest : a.shortest ≡ b.shortest
  longest : a.row.length ≡ b.row.length

numbers_same : (n k : ℕ) (a b : OpenRecord) → IsOpenRow n k a → IsOpenRow n k b → period_words a ≡ period_words b
    → SameNumbers a b
numbers_same n k a b is_a is_b e =
    let numbers = append_cancel_left (codes "PERIOD ")
    (decimal a.row.number ++ (32 ∷ (decimal a.row.time ++ (32 ∷ (decimal a.late ++ (32 ∷ (decimal a.shortest
    ++ (32 ∷ decimal a.row.length))))))))
    (decimal b.row.number ++ (32 ∷ (decimal b.row.time ++ (32 ∷ (decimal b.late ++ (32 ∷ (decimal b.shortest
    ++ (32 ∷ decimal b.row.length)))))))) e in
    let first = number_then_same a.row.number b.row.number _ _ is_a.row.number_fits is_b.row.number_fits numbers in
    let second = number_then_same a.row.time b.row.time _ _ is_a.row.time_fits is_b.row.time_fits first.1 in
    let third = number_then_same a.late b.late _ _ is_a.late_fits is_b.late_fits second.1 in
    let fourth = number_then_same a.shortest b.shortest _ _ is_a.shortest_fits is_b.shortest_fits third.1 in
    let fits_a = is_a.row.length_fits in let fits_b = is_b.row.length_fits in record {
      number = first.0;
      time = second.0;
      late = third.0;
      shortest = fourth.0;
      longest = decimal-same a.row.length b.row.length (omega (arith, fits_a)) (omega (arith, fits_b)) fourth.1;
    }

pub record_same : (n k : ℕ) (a b : OpenRecord) → IsOpenRow n k a → IsOpenRow n k b → (t r : List ℕ)
    → open_record_text a ++ t ≡ open_record_text b ++ r → (a ≡ b) × (t ≡ r)
record_same n k a b is_a is_b t r e =
    let by_a = by_heads n k a.row is_a.row in let by_b = by_heads n k b.row is_b.row in
    let line = lines_same (period_words a) (period_words b) (head_text n 0 (flat a.row) ++ t)
    (head_text n 0 (flat b.row) ++ r)
    (period_alone a.row.number a.row.time a.late a.shortest a.row.length (small_of n k a is_a))
    (period_alone b.row.number b.row.time b.late b.shortest b.row.length (small_of n k b is_b))
    (sym (record_parts n k a t is_a) ∙ (e ∙ record_parts n k b r is_b)) in
    let m = numbers_same n k a b is_a is_b line.0 in
    let heads = heads_same n 0 (flat a.row) (flat b.row) (by_a.whole ∙ sym by_b.whole) by_a.box by_b.box t r line.1 in
    let rows : a.row ≡ b.row = sym by_a.same ∙ ((λ i. row_with n k (m.number i) (m.time i) (m.longest i) (heads.0 i))
    ∙ by_b.same) in
    (λ i. record { row = rows i; late = m.late i; shortest = m.shortest i }, heads.1)

-- ---- the END line

finished_same : (f g : Bool) → end_word f ≡ end_word g → f ≡ g
finished_same true true e = refl
finished_same true false e = cc
finished_same false true e = cc
finished_same false false e = refl

end_same : (p q : ℕ) (f g : Bool) → p < 2 ^ 32 → q < 2 ^ 32 → end_line p f ≡ end_line q g → (p ≡ q) × (f ≡ g)
end_same p q f g fits_p fits_q e =
    let k = lines_same (words (codes "END" ∷ (decimal p ∷ (end_word f ∷ []))))
    (words (codes "END" ∷ (decimal q ∷ (end_word g ∷ [])))) [] [] (end_alone p f fits_p) (end_alone q g fits_q)
    (ap (λ t. t ++ []) e) in
    let numbers = append_cancel_left (codes "END ") (decimal p ++ (32 ∷ end_word f)) (decimal q ++ (32 ∷ end_word g))
    k.0 in
    let number = number_then_same p q (end_word f) (end_word g) fits_p fits_q numbers in
    (number.0, finished_same f g number.1)

-- ---- all records

rows_same : (n k : ℕ) (rows others : List OpenRecord) → All (IsOpenRow n k) rows → All (IsOpenRow n k) others
    → (p q : ℕ) (f g : Bool) → p < 2 ^ 32 → q < 2 ^ 32
    → joined (map open_record_text rows) ++ end_line p f ≡ joined (map open_record_text others) ++ end_line q g
    → (rows ≡ others) × ((p ≡ q) × (f ≡ g))
rows_same n k [] [] are_rows are_others p q f g fits_p fits_q e = (refl, end_same p q f g fits_p fits_q e)
rows_same n k [] (other ∷ others) are_rows are_others p q f g fits_p fits_q e =
    let first : 69 ≡ 80 = ap (λ (w : List ℕ). get_or w 0 0) e in absurd (omega (arith, first))
rows_same n k (row ∷ rows) [] are_rows are_others p q f g fits_p fits_q e =
    let first : 80 ≡ 69 = ap (λ (w : List ℕ). get_or w 0 0) e in absurd (omega (arith, first))
rows_same n k (row ∷ rows) (other ∷ others) are_rows are_others p q f g fits_p fits_q e =
    let P = IsOpenRow n k in
    let first = record_same n k row other (All-head P row rows are_rows) (All-head P other others are_others)
    (joined (map open_record_text rows) ++ end_line p f) (joined (map open_record_text others) ++ end_line q g)
    (sym (append_assoc (open_record_text row) (joined (map open_record_text rows)) (end_line p f))
    ∙ (e ∙ append_assoc (open_record_text other) (joined (map open_record_text others)) (end_line q g))) in
    let rest = rows_same n k rows others (All-tail P row rows are_rows) (All-tail P other others are_others) p q f g
    fits_p fits_q first.1 in
    (ap₂ (λ x xs. x ∷ xs) first.0 rest.0, rest.1)

-- records with which such a text begins are the first of its own
first_rows : (n k : ℕ) (front rows : List OpenRecord) → All (IsOpenRow n k) front → All (IsOpenRow n k) rows
    → (periods : ℕ) (finished : Bool) (unread : List ℕ)
    → joined (map open_record_text front) ++ unread ≡ joined (map open_record_text rows) ++ end_line periods finished
    → (more : List OpenRecord) × (rows ≡ front ++ more)
first_rows n k [] rows are_front are_rows periods finished unread e = (rows, refl)
first_rows n k (row ∷ front) [] are_front are_rows periods finished unread e =
    let first : 80 ≡ 69 = ap (λ (w : List ℕ). get_or w 0 0) e in absurd (omega (arith, first))
first_rows n k (row ∷ front) (other ∷ rows) are_front are_rows periods finished unread e =
    let P = IsOpenRow n k in
    let first = record_same n k row other (All-head P row front are_front) (All-head P other rows are_rows)
    (joined (map open_record_text front) ++ unread) (joined (map open_record_text rows) ++ end_line periods finished)
    (sym (append_assoc (open_record_text row) (joined (map open_record_text front)) unread)
    ∙ (e ∙ append_assoc (open_record_text other) (joined (map open_record_text rows)) (end_line periods finished))) in
    let more = first_rows n k front rows (All-tail P row front are_front) (All-tail P other rows are_rows) periods
    finished unread first.1 in
    (more.0, ap₂ (λ x xs. x ∷ xs) (sym first.0) more.1)

pub first_records : (text unread : List ℕ) (n k : ℕ) (front rows : List OpenRecord) (periods : ℕ) (finished : Bool)
    → IsOpenCertificateText text n k rows periods finished → All (IsOpenRow n k) front
    → text ≡ header_line open_version n k ++ (joined (map open_record_text front) ++ unread)
    → (more : List OpenRecord) × (rows ≡ front ++ more)
first_records text unread n k front rows periods finished is are_front e =
    first_rows n k front rows are_front is.rows_fit periods finished unread
    (append_cancel_left (header_line open_version n k) (joined (map open_record_text front) ++ unread)
    (joined (map open_record_text rows) ++ end_line periods finished) (sym e ∙ is.is_text))

-- ---- the whole text

-- a text as a certificate
abbrev as_certificate : (text : List ℕ) (n k periods : ℕ) (rows : List OpenRecord) (finished : Bool)
    → IsOpenCertificateText text n k rows periods finished → IsOpenCertificate (open_header n k) text
as_certificate text n k periods rows finished is = record {
  known = refl;
  rows = rows;
  periods = periods;
  finished = finished;
  is_text = is;
}

header_and_rest : (text : List ℕ) (n n' k k' periods periods' : ℕ) (rows rows' : List OpenRecord)
    (finished finished' : Bool) → IsOpenCertificateText text n k rows periods finished
    → IsOpenCertificateText text n' k' rows' periods' finished'
    → (open_header n k ≡ open_header n' k') × (joined (map open_record_text rows) ++ end_line periods finished
    ≡ joined (map open_record_text rows') ++ end_line periods' finished')
header_and_rest text n n' k k' periods periods' rows rows' finished finished' a b =
    let ca = as_certificate text n k periods rows finished a in
    let cb = as_certificate text n' k' periods' rows' finished' b in
    let la = header_of_certificate (open_header n k) text ca in
    let lb = header_of_certificate (open_header n' k') text cb in
    let split = lines_same (header_words (open_header n k)) (header_words (open_header n' k'))
    (joined (map open_record_text rows) ++ end_line periods finished)
    (joined (map open_record_text rows') ++ end_line periods' finished')
    (open_header_is_line _ _ la).0 (open_header_is_line _ _ lb).0
    (sym (certificate_parts (open_header n k) text ca) ∙ certificate_parts (open_header n' k') text cb) in
    (header_same (open_header n k) (open_header n' k') _ _ la lb split.0, split.1)

pub counts_same : (text : List ℕ) (n n' k k' periods periods' : ℕ) (rows rows' : List OpenRecord)
    (finished finished' : Bool) → IsOpenCertificateText text n k rows periods finished
    → IsOpenCertificateText text n' k' rows' periods' finished' → (n ≡ n') × (k ≡ k')
counts_same text n n' k k' periods periods' rows rows' finished finished' a b =
    let same = (header_and_rest text n n' k k' periods periods' rows rows' finished finished' a b).0 in
    (ap (λ (h : Header). h.junctions) same, ap (λ (h : Header). h.tanks) same)

pub contents_same : (text : List ℕ) (n n' k k' periods periods' : ℕ) (rows rows' : List OpenRecord)
    (finished finished' : Bool) → IsOpenCertificateText text n k rows periods finished
    → IsOpenCertificateText text n' k' rows' periods' finished'
    → (rows ≡ rows') × ((periods ≡ periods') × (finished ≡ finished'))
contents_same text n n' k k' periods periods' rows rows' finished finished' a b =
    let both = header_and_rest text n n' k k' periods periods' rows rows' finished finished' a b in
    let all' : All (IsOpenRow n k) rows' = subst (λ (h : Header). All (IsOpenRow h.junctions h.tanks) rows')
    (sym both.0) b.rows_fit in
    rows_same n k rows rows' a.rows_fit all' periods periods' finished finished' a.periods_fit b.periods_fit both.1

-- ---- versions

-- header lines of two versions are two
versions_apart : (header other : Header) (l m : List ℕ) → l ≡ header_words header → m ≡ header_words other
    → header.version < 10 ^ 64 → other.version < 10 ^ 64 → header.version ≢ other.version → l ≢ m
versions_apart header other l m is_l is_m fits fits' apart e =
    let rest = decimal header.junctions ++ (32 ∷ decimal header.tanks) in
    let rest' = decimal other.junctions ++ (32 ∷ decimal other.tanks) in
    let whole = append_cancel_left (codes "HYDCERT ") (decimal header.version ++ (32 ∷ rest))
    (decimal other.version ++ (32 ∷ rest')) (sym is_l ∙ (e ∙ is_m)) in
    let first = split-same 32 (decimal header.version) (decimal other.version) rest rest'
    (wide_free 32 header.version (omega arith) fits) (wide_free 32 other.version (omega arith) fits') whole in
    apart (decimal-same header.version other.version fits fits' first.0)

-- the first line of a text that begins with one of version 4
first_is : (text : Option (List ℕ)) (is : HasOpenHeader text) (l r : List ℕ) → HasNo 10 l
    → text ≡ Some (l ++ (10 ∷ r)) → is.line ≡ l
first_is text is l r free told =
    let h = has_rest (is.line ++ (10 ∷ [])) is.rest (l ++ (10 ∷ r)) (sym is.begins ∙ told) in
    (split-same 10 is.line l h.left r (open_header_is_line is.header is.line is.is_header).0 free
    (sym (append_assoc is.line (10 ∷ []) h.left) ∙ sym h.whole)).0

pub no_plain_header : (other : Header) (text : Option (List ℕ)) → HasOpenHeader text → Lacks (IsHeaderLine other) text
no_plain_header other text is l r plain told =
    let known = is.is_header.known in
    versions_apart is.header other is.line l is.is_header.is plain.is (omega (arith, known))
    (known_short other plain.known) (by plain.known) (first_is text is l r (header_is_line other l plain).0 told)
  where
    by : (other.version ≡ 1) ⊎ (other.version ≡ 2) → is.header.version ≢ other.version
    by (inl one) same = let known = is.is_header.known in omega (arith, one, same, known)
    by (inr two) same = let known = is.is_header.known in omega (arith, two, same, known)

pub no_flows_header : (other : Header) (text : Option (List ℕ)) → HasOpenHeader text
    → Lacks (IsFlowsHeaderLine other) text
no_flows_header other text is l r flows told =
    let known = is.is_header.known in let three = flows.known in
    versions_apart is.header other is.line l is.is_header.is flows.is (omega (arith, known)) (omega (arith, three))
    (λ same. omega (arith, three, same, known)) (first_is text is l r (flows_header_is_line other l flows).0 told)

pub begins_with_header : (header : Header) (text : List ℕ) → IsOpenCertificate header text → HasOpenHeader (Some text)
begins_with_header header text is = record {
  header = header;
  line = header_words header;
  rest = Some (joined (map open_record_text is.rows) ++ end_line is.periods is.finished);
  is_header = header_of_certificate header text is;
  begins = ap Some (certificate_parts header text is);
}

-- no certificate of another version begins so
abbrev version_header : ℕ → ℕ → ℕ → Header
version_header version n k = record { version = version; junctions = n; tanks = k }

other_text : (text : List ℕ) (version n k : ℕ) (rest : List ℕ) → HasOpenHeader (Some text) → version < 10 ^ 64
    → version ≢ 4 → HasNo 10 (header_words (version_header version n k))
    → text ≡ header_text (version_header version n k) ++ rest → ⊥
other_text text version n k rest is fits apart free e =
    let other = version_header version n k in
    let known = is.is_header.known in
    versions_apart is.header other is.line (header_words other) is.is_header.is refl (omega (arith, known)) fits
    (λ same. apart (sym same ∙ known))
    (first_is (Some text) is (header_words other) rest free (ap Some (e ∙ append_assoc (header_words other) (10 ∷ [])
    rest)))

header_free : (version n k : ℕ) → version < 10 ^ 64 → n < 10 ^ 64 → k < 10 ^ 64
    → HasNo 10 (header_words (version_header version n k))
header_free version n k fits fits_n fits_k =
    has_no_append 10 (codes "HYDCERT ") (decimal version ++ (32 ∷ (decimal n ++ (32 ∷ decimal k))))
    (search (rules, arith)) (has_no_append 10 (decimal version) (32 ∷ (decimal n ++ (32 ∷ decimal k)))
    (wide_free 10 version (omega arith) fits) (
      (λ e. omega (arith, e)),
      has_no_append 10 (decimal n) (32 ∷ decimal k)
          (wide_free 10 n (omega arith) fits_n) ((λ e. omega (arith, e)), wide_free 10 k (omega arith) fits_k),
    ))

pub no_plain_text : (text : List ℕ) (version n k : ℕ) (rows : List Row) (periods : ℕ) (finished : Bool)
    → HasOpenHeader (Some text) → IsCertificateText text version n k rows periods finished → ⊥
no_plain_text text version n k rows periods finished is plain = by plain.known
  where
    small : (version ≡ 1) ⊎ (version ≡ 2) → version < 3
    small (inl one) = omega (arith, one)
    small (inr two) = omega (arith, two)

    by : (version ≡ 1) ⊎ (version ≡ 2) → ⊥
    by known =
        let low = small known in
        let fits : version < 10 ^ 64 = omega (arith, low) in
        other_text text version n k _ is fits (λ four. omega (arith, four, low))
        (header_free version n k fits plain.junctions_fit plain.tanks_fit) plain.is_text

pub no_flows_text : (text : List ℕ) (n k : ℕ) (entries : List Entry) (periods : ℕ) (finished : Bool)
    → HasOpenHeader (Some text) → IsTextWithFlows text n k entries periods finished → ⊥
no_flows_text text n k entries periods finished is flows =
    other_text text 3 n k _ is (omega arith) (λ four. omega (arith, four))
    (header_free 3 n k (omega arith) flows.junctions_fit flows.tanks_fit) flows.is_text

open_front : (text more : List ℕ) → text ≡ codes "HYDCERT 4 " ++ more → is_with_flows text ≡ false
open_front text more e = ap is_with_flows e ∙ refl

pub no_flows_front : (text : List ℕ) → HasOpenHeader (Some text) → is_with_flows text ≡ false
no_flows_front text is =
    let h = has_rest (is.line ++ (10 ∷ [])) is.rest text (sym is.begins) in
    let counts = decimal is.header.junctions ++ (32 ∷ decimal is.header.tanks) in
    open_front text ((counts ++ (10 ∷ [])) ++ h.left)
    (h.whole ∙ (ap (λ l. (l ++ (10 ∷ [])) ++ h.left) (open_header_parts is.header is.line is.is_header)
    ∙ append_assoc (codes "HYDCERT 4 ") (counts ++ (10 ∷ [])) h.left))
