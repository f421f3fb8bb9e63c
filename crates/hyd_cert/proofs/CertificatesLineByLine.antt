-- The texts that go from line to line are the certificates.
use Rattle.std.proofs.Common.{◌≡◌, ℕ, suc, ◌+◌, ◌*◌, ◌^◌, ◌<◌, ◌≤◌, ℤ, Bool, true, false, List, [], ◌∷◌, ◌++◌, length}
use Rattle.std.proofs.Common.{length-append, map, take, drop, All, nat_lt, if◌then◌else◌, codes, Option, Some, None}
use Rattle.std.proofs.Common.{inl, inr, refl, sym, ap, ap₂, subst, ◌∙◌, append_assoc, arith}
use Rattle.std.specs.Fmt.{decimal, signed_decimal}
use Rattle.std.proofs.lemmas.Grind.{common_steps}
use Rattle.std.proofs.lemmas.Bool.Decides.{Decides-ltb}
use Rattle.std.proofs.lemmas.List.Elements.{All-cons, All-nil, All-head, All-tail, All-append}
use Rattle.hyd_spec.specs.Lists.{joined}
use Rattle.hyd_io.specs.DeskBytes.{prepend_known}
use Rattle.hyd_io.proofs.MovedBytesLemmas.{prepend_known-prepend_known}
use Rattle.hyd_spec_certificates.specs.Certificate.{IsInBox}
use Rattle.hyd_spec_certificates.specs.RecordAndStanding.{Record as Row, Vectors}
use Rattle.hyd_spec_certificates.specs.CertificateText.{words, period_line, record_text, end_line, IsRow}
use Rattle.hyd_spec_certificates.specs.CertificateText.{IsCertificateText, certificate_text}
use Rattle.hyd_cert.specs.Lines.{Header, header_text, IsHeaderLine, IsPeriodLine, IsHeadLine, IsEndLine, end_word}
use Rattle.hyd_cert.specs.Lines.{header_words}
use Rattle.hyd_cert.specs.PlacesOfLines.{Place, First, Between, Head, Over, CanStand, IsFault, later, front_at}
use Rattle.hyd_cert.specs.PlacesOfLines.{heads_in, place_after, head_text, Goes, ends, goes}
use Rattle.hyd_cert.specs.VectorsOfRecord.{AreVectors, two_vectors, behind_two, problems_in}
use Rattle.hyd_cert.specs.FaultyLine.{IsCertificate, lines_of, BeginsWith}
use Rattle.hyd_lemmas.proofs.BooleanTests.{nat-lt-no}
use Rattle.hyd_cert.proofs.HeadLemmas.{place_head, period_is, end_is}
use Rattle.hyd_cert.proofs.VectorLemmas.{row_with, row_text, row_is}
use Rattle.hyd_theorems_on_definitions.proofs.CertificateLines.{IsPair}

-- ---- a record by its heads

-- its heads, one vector after another
abbrev pair_heads : Vectors → List ℤ
pair_heads vectors = vectors.upper ++ vectors.lower

abbrev pub flat : Row → List ℤ
flat row = pair_heads row.main ++ joined (map pair_heads row.pinned)

take_front : (n : ℕ) (us ws : List ℤ) → length us ≡ n → take n (us ++ ws) ≡ us
take_front n us ws e = ap (λ k. take k (us ++ ws)) (sym e) ∙ grind (arith, common_steps)

drop_front : (n : ℕ) (us ws : List ℤ) → length us ≡ n → drop n (us ++ ws) ≡ ws
drop_front n us ws e = ap (λ k. drop k (us ++ ws)) (sym e) ∙ grind (arith, common_steps)

two_same : (n : ℕ) (vectors : Vectors) (ws : List ℤ) → IsPair n vectors → two_vectors n (pair_heads vectors ++ ws)
    ≡ vectors
two_same n vectors ws is =
    let upper = vectors.upper in
    let lower = vectors.lower in
    let parts = append_assoc upper lower ws in
    let first : take n (pair_heads vectors ++ ws) ≡ upper = ap (take n) parts ∙ take_front n upper (lower ++ ws)
    is.0.one_each in
    let second : take n (drop n (pair_heads vectors ++ ws)) ≡ lower =
    ap (λ r. take n (drop n r)) parts ∙ (ap (take n) (drop_front n upper (lower ++ ws) is.0.one_each)
    ∙ take_front n lower ws is.1.one_each) in
    ap (λ (u : List ℤ). record { upper = u; lower = take n (drop n (pair_heads vectors ++ ws)) }) first
    ∙ ap (λ (l : List ℤ). record vectors { lower = l }) second

behind_same : (n : ℕ) (vectors : Vectors) (ws : List ℤ) → IsPair n vectors → behind_two n (pair_heads vectors ++ ws)
    ≡ ws
behind_same n vectors ws is =
    ap (λ r. drop n (drop n r)) (append_assoc vectors.upper vectors.lower ws)
    ∙ (ap (drop n) (drop_front n vectors.upper (vectors.lower ++ ws) is.0.one_each) ∙ drop_front n vectors.lower ws
    is.1.one_each)

problems_same : (n : ℕ) (pinned : List Vectors) → All (IsPair n) pinned
    → problems_in n (length pinned) (joined (map pair_heads pinned)) ≡ pinned
problems_same n [] all = refl
problems_same n (v ∷ pinned) all =
    let is = All-head (IsPair n) v pinned all in
    let rest = joined (map pair_heads pinned) in
    ap₂ (λ x xs. x ∷ xs) (two_same n v rest is)
    (ap (problems_in n (length pinned)) (behind_same n v rest is) ∙ problems_same n pinned
    (All-tail (IsPair n) v pinned all))

pair_length : (n : ℕ) (v : Vectors) → IsPair n v → length (pair_heads v) ≡ n + n
pair_length n v is = let whole = length-append v.upper v.lower in let a = is.0.one_each in let b = is.1.one_each in
    omega (arith, whole, a, b)

pinned_length : (n : ℕ) (pinned : List Vectors) → All (IsPair n) pinned → length (joined (map pair_heads pinned)) ≡ n
    * (2 * length pinned)
pinned_length n [] all = omega arith
pinned_length n (v ∷ pinned) all =
    let rest = joined (map pair_heads pinned) in
    let whole = length-append (pair_heads v) rest in
    let first = pair_length n v (All-head (IsPair n) v pinned all) in
    let more = pinned_length n pinned (All-tail (IsPair n) v pinned all) in
    let several : n * (2 * suc (length pinned)) ≡ n + n + n * (2 * length pinned) = omega arith in
    omega (arith, whole, first, more, several)

pair_box : (n : ℕ) (v : Vectors) → IsPair n v → All IsInBox (pair_heads v)
pair_box n v is = All-append IsInBox v.upper v.lower is.0.in_box is.1.in_box

pinned_box : (n : ℕ) (pinned : List Vectors) → All (IsPair n) pinned → All IsInBox (joined (map pair_heads pinned))
pinned_box n [] all = All-nil IsInBox
pinned_box n (v ∷ pinned) all =
    All-append IsInBox (pair_heads v) (joined (map pair_heads pinned))
    (pair_box n v (All-head (IsPair n) v pinned all)) (pinned_box n pinned (All-tail (IsPair n) v pinned all))

-- what a record is, by its heads
pub record ByHeads (n tanks : ℕ) (row : Row) : Type 0 where
  pub whole : AreVectors n tanks (flat row)
  pub box : All IsInBox (flat row)
  pub same : row_with n tanks row.number row.time row.length (flat row) ≡ row

pub by_heads : (n tanks : ℕ) (row : Row) → IsRow n tanks row → ByHeads n tanks row
by_heads n tanks row is =
    let main : IsPair n row.main = (is.main_upper, is.main_lower) in
    let pinned : All (IsPair n) row.pinned = λ k d low. (is.pinned_upper k d low, is.pinned_lower k d low) in
    let rest = joined (map pair_heads row.pinned) in
    let a = pair_length n row.main main in
    let b = pinned_length n row.pinned pinned in
    let all = length-append (pair_heads row.main) rest in
    let many : n * (2 * length row.pinned) ≡ n * (2 * tanks) = ap (λ k. n * (2 * k)) is.pinned_each in
    let several : heads_in n tanks ≡ n + n + n * (2 * tanks) = omega arith in
    let others : problems_in n tanks (behind_two n (flat row)) ≡ row.pinned =
    ap (problems_in n tanks) (behind_same n row.main rest main) ∙ (ap (λ k. problems_in n k rest) (sym is.pinned_each)
    ∙ problems_same n row.pinned pinned) in
    record {
      whole = omega (arith, a, b, all, many, several);
      box = All-append IsInBox (pair_heads row.main) rest (pair_box n row.main main) (pinned_box n row.pinned pinned);
      same = ap (λ (m : Vectors). record row { main = m; pinned = problems_in n tanks (behind_two n (flat row)) })
          (two_same n row.main rest main)
          ∙ ap (λ (p : List Vectors). record row { pinned = p }) others;
    }

-- ---- from line to line

header_parts : (header : Header) (line rest : List ℕ) → IsHeaderLine header line
    → line ++ (10 ∷ rest) ≡ header_text header ++ rest
header_parts header line rest is =
    ap (λ l. l ++ (10 ∷ rest)) is.is
    ∙ sym (append_assoc (words (codes "HYDCERT" ∷ (decimal header.version
    ∷ (decimal header.junctions ∷ (decimal header.tanks ∷ []))))) (10 ∷ []) rest)

pub place_end : (heads i : ℕ) → heads ≤ i → place_after heads i ≡ Between
place_end heads i low = go (nat_lt i heads) refl
  where
    go : (b : Bool) → nat_lt i heads ≡ b → (if nat_lt i heads then Head i else Between) ≡ Between
    go true e = absurd (let less = (Decides-ltb i heads).0 e in omega (arith, less, low))
    go false e = ap (λ (b : Bool). if b then Head i else Between) e

-- heads go to the place behind them
heads_go_on : (header : Header) (i : ℕ) (us : List ℤ) (rest : List ℕ)
    → i + length us ≤ heads_in header.junctions header.tanks → All IsInBox us
    → Goes header (place_after (heads_in header.junctions header.tanks) (i + length us)) rest
    → Goes header (place_after (heads_in header.junctions header.tanks) i) (head_text header.junctions i us ++ rest)
heads_go_on header i [] rest within box goes_on = subst (λ (k : ℕ). Goes header
    (place_after (heads_in header.junctions header.tanks) k) rest) (omega arith) goes_on
heads_go_on header i (u ∷ us) rest within box goes_on =
    let heads = heads_in header.junctions header.tanks in
    let front = front_at header.junctions i in
    let far : i + length (u ∷ us) ≡ i + 1 + length us = omega arith in
    let after = heads_go_on header (i + 1) us rest (omega (arith, within)) (All-tail IsInBox u us box)
    (subst (λ (k : ℕ). Goes header (place_after heads k) rest) far goes_on) in
    let line : Goes header (Head i) ((front ++ signed_decimal u)
    ++ (10 ∷ (head_text header.junctions (i + 1) us ++ rest))) =
    goes (front ++ signed_decimal u) (record { head = u; in_box = All-head IsInBox u us box; is = refl }, refl) after in
    let text : (front ++ signed_decimal u) ++ (10 ∷ (head_text header.junctions (i + 1) us ++ rest))
    ≡ head_text header.junctions i (u ∷ us) ++ rest =
    append_assoc front (signed_decimal u) (10 ∷ (head_text header.junctions (i + 1) us ++ rest))
    ∙ sym (append_assoc front (signed_decimal u ++ (10 ∷ head_text header.junctions (i + 1) us)) rest
    ∙ ap (λ t. front ++ t) (append_assoc (signed_decimal u) (10 ∷ head_text header.junctions (i + 1) us) rest)) in
    subst (Goes header (place_after heads i)) text
    (subst (λ (p : Place). Goes header p ((front ++ signed_decimal u)
    ++ (10 ∷ (head_text header.junctions (i + 1) us ++ rest)))) (sym (place_head heads i (omega (arith, within))))
    line)

period_parts : (n tanks : ℕ) (row : Row) (by : ByHeads n tanks row) (rest : List ℕ)
    → record_text row ++ rest ≡ words (codes "PERIOD" ∷ (decimal row.number
    ∷ (decimal row.time ∷ (decimal row.length ∷ [])))) ++ (10 ∷ (head_text n 0 (flat row) ++ rest))
period_parts n tanks row by rest =
    let period = words (codes "PERIOD" ∷ (decimal row.number ∷ (decimal row.time ∷ (decimal row.length ∷ [])))) in
    let text : record_text row ≡ period_line row ++ head_text n 0 (flat row) = ap record_text (sym by.same)
    ∙ row_text n tanks row.number row.time row.length (flat row) by.whole in
    ap (λ t. t ++ rest) text
    ∙ (append_assoc (period ++ (10 ∷ [])) (head_text n 0 (flat row)) rest ∙ append_assoc period (10 ∷ [])
    (head_text n 0 (flat row) ++ rest))

record_goes : (header : Header) (row : Row) (rest : List ℕ) → IsRow header.junctions header.tanks row
    → Goes header Between rest → Goes header Between (record_text row ++ rest)
record_goes header row rest is goes_on =
    let n = header.junctions in
    let heads = heads_in header.junctions header.tanks in
    let by = by_heads n header.tanks row is in
    let period = words (codes "PERIOD" ∷ (decimal row.number ∷ (decimal row.time ∷ (decimal row.length ∷ [])))) in
    let far : heads ≤ 0 + length (flat row) = (let whole = by.whole in omega (arith, whole)) in
    let after = heads_go_on header 0 (flat row) rest (let whole = by.whole in omega (arith, whole)) by.box
    (subst (λ (p : Place). Goes header p rest) (sym (place_end heads (0 + length (flat row)) far)) goes_on) in
    let line : Goes header Between (period ++ (10 ∷ (head_text n 0 (flat row) ++ rest))) =
    goes period (inl (period_is row.number row.time row.length is.number_fits is.time_fits is.length_fits, refl))
    after in
    subst (Goes header Between) (sym (period_parts n header.tanks row by rest)) line

rows_go : (header : Header) (rows : List Row) (periods : ℕ) (finished : Bool)
    → All (IsRow header.junctions header.tanks) rows → periods < 2 ^ 32
    → Goes header Between (joined (map record_text rows) ++ end_line periods finished)
rows_go header [] periods finished all fits = goes (words (codes "END"
    ∷ (decimal periods ∷ (end_word finished ∷ [])))) (inr (end_is periods finished fits, refl)) ends
rows_go header (row ∷ rows) periods finished all fits =
    let IsGood = IsRow header.junctions header.tanks in
    subst (Goes header Between) (sym (append_assoc (record_text row) (joined (map record_text rows))
    (end_line periods finished)))
    (record_goes header row (joined (map record_text rows) ++ end_line periods finished) (All-head IsGood row rows all)
    (rows_go header rows periods finished (All-tail IsGood row rows all) fits))

-- a header whose line is short enough
header_of_text : (header : Header) (text : List ℕ) (rows : List Row) (periods : ℕ) (finished : Bool)
    → IsCertificateText text header.version header.junctions header.tanks rows periods finished
    → IsHeaderLine header
    (words (codes "HYDCERT" ∷ (decimal header.version ∷ (decimal header.junctions ∷ (decimal header.tanks ∷ [])))))
header_of_text header text rows periods finished is =
    let l = words (codes "HYDCERT" ∷ (decimal header.version
    ∷ (decimal header.junctions ∷ (decimal header.tanks ∷ [])))) in
    let whole = length-append l (10 ∷ []) in
    record {
      known = is.known;
      junctions_fit = is.junctions_fit;
      tanks_fit = is.tanks_fit;
      short = (let fits = is.header_fits in omega (arith, whole, fits));
      is = refl;
    }

pub certificate_goes : (header : Header) (text : List ℕ) → IsCertificate header text → Goes header First text
certificate_goes header text is =
    let t = is.is_text in
    let line = header_of_text header text is.rows is.periods is.finished t in
    let l = words (codes "HYDCERT" ∷ (decimal header.version
    ∷ (decimal header.junctions ∷ (decimal header.tanks ∷ [])))) in
    let rest = joined (map record_text is.rows) ++ end_line is.periods is.finished in
    let whole : Goes header First (l ++ (10 ∷ rest)) = goes l (line, refl)
    (rows_go header is.rows is.periods is.finished t.rows_fit t.periods_fit) in
    subst (Goes header First) (header_parts header l rest line ∙ sym t.is_text) whole

-- ---- and back

-- records and the end of a text
record Rows (header : Header) (text : List ℕ) : Type 0 where
  rows : List Row
  periods : ℕ
  finished : Bool
  rows_fit : All (IsRow header.junctions header.tanks) rows
  periods_fit : periods < 2 ^ 32
  is : text ≡ joined (map record_text rows) ++ end_line periods finished

-- the heads from this number on, and then records and the end
record HeadsOn (header : Header) (i : ℕ) (text : List ℕ) : Type 0 where
  heads : List ℤ
  rest : List ℕ
  count : i + length heads ≡ heads_in header.junctions header.tanks
  box : All IsInBox heads
  is : text ≡ head_text header.junctions i heads ++ rest
  others : Rows header rest

-- what a text that goes on from a place is
abbrev ReadFrom : Header → Place → List ℕ → Type 0
ReadFrom header First text = IsCertificate header text
ReadFrom header Between text = Rows header text
ReadFrom header (Head i) text = i < heads_in header.junctions header.tanks → HeadsOn header i text
ReadFrom header Over text = text ≡ []

no_heads : (header : Header) (i : ℕ) (text : List ℕ) → i ≡ heads_in header.junctions header.tanks → Rows header text
    → HeadsOn header i text
no_heads header i text e others = record {
  heads = [];
  rest = text;
  count = omega (arith, e);
  box = All-nil IsInBox;
  is = refl;
  others = others;
}

heads_by_test : (header : Header) (i : ℕ) (text : List ℕ) (b : Bool)
    → nat_lt i (heads_in header.junctions header.tanks) ≡ b → i ≤ heads_in header.junctions header.tanks
    → ReadFrom header (place_after (heads_in header.junctions header.tanks) i) text → HeadsOn header i text
heads_by_test header i text true e within reads =
    let heads = heads_in header.junctions header.tanks in
    let less = (Decides-ltb i heads).0 e in
    subst (λ (p : Place). ReadFrom header p text) (place_head heads i less) reads less
heads_by_test header i text false e within reads =
    let heads = heads_in header.junctions header.tanks in
    let far : heads ≤ i = nat-lt-no i heads e in
    no_heads header i text (omega (arith, far, within)) (subst (λ (p : Place). ReadFrom header p text)
    (place_end heads i far) reads)

at_heads : (header : Header) (i : ℕ) (text : List ℕ) → i ≤ heads_in header.junctions header.tanks
    → ReadFrom header (place_after (heads_in header.junctions header.tanks) i) text → HeadsOn header i text
at_heads header i text within reads = heads_by_test header i text (nat_lt i (heads_in header.junctions header.tanks))
    refl within reads

read_record : (header : Header) (line rest : List ℕ) → IsPeriodLine line → HeadsOn header 0 rest
    → Rows header (line ++ (10 ∷ rest))
read_record header line rest is k =
    let n = header.junctions in
    let row = row_with n header.tanks is.number is.time is.length k.heads in
    let whole : AreVectors n header.tanks k.heads = (let c = k.count in omega (arith, c)) in
    let good = row_is n header.tanks is.number is.time is.length k.heads k.heads refl whole k.box is.number_fits
    is.time_fits is.length_fits in
    let period = words (codes "PERIOD" ∷ (decimal is.number ∷ (decimal is.time ∷ (decimal is.length ∷ [])))) in
    let more = joined (map record_text k.others.rows) ++ end_line k.others.periods k.others.finished in
    let text : line ++ (10 ∷ rest) ≡ record_text row ++ more =
    ap₂ (λ l r. l ++ (10 ∷ r)) is.is (k.is ∙ ap (λ r. head_text n 0 k.heads ++ r) k.others.is)
    ∙ sym (ap (λ t. t ++ more) (row_text n header.tanks is.number is.time is.length k.heads whole)
    ∙ (append_assoc (period ++ (10 ∷ [])) (head_text n 0 k.heads) more ∙ append_assoc period (10 ∷ [])
    (head_text n 0 k.heads ++ more))) in
    record {
      rows = row ∷ k.others.rows;
      periods = k.others.periods;
      finished = k.others.finished;
      rows_fit = All-cons (IsRow n header.tanks) row k.others.rows good k.others.rows_fit;
      periods_fit = k.others.periods_fit;
      is = text ∙ sym (append_assoc (record_text row) (joined (map record_text k.others.rows))
          (end_line k.others.periods k.others.finished));
    }

read_head : (header : Header) (i : ℕ) (line rest : List ℕ) → IsHeadLine (front_at header.junctions i) line
    → HeadsOn header (i + 1) rest → HeadsOn header i (line ++ (10 ∷ rest))
read_head header i line rest is k =
    let front = front_at header.junctions i in
    let more = head_text header.junctions (i + 1) k.heads in
    record {
      heads = is.head ∷ k.heads;
      rest = k.rest;
      count = (let c = k.count in omega (arith, c));
      box = All-cons IsInBox is.head k.heads is.in_box k.box;
      is = ap₂ (λ l r. l ++ (10 ∷ r)) is.is k.is
          ∙ (append_assoc front (signed_decimal is.head) (10 ∷ (more ++ k.rest))
          ∙ sym (append_assoc front (signed_decimal is.head ++ (10 ∷ more)) k.rest ∙ ap (λ t. front ++ t)
          (append_assoc (signed_decimal is.head) (10 ∷ more) k.rest)));
      others = k.others;
    }

read_end : (header : Header) (line rest : List ℕ) → IsEndLine line → rest ≡ [] → Rows header (line ++ (10 ∷ rest))
read_end header line rest is none = record {
  rows = [];
  periods = is.periods;
  finished = is.finished;
  rows_fit = All-nil (IsRow header.junctions header.tanks);
  periods_fit = is.periods_fit;
  is = ap₂ (λ l r. l ++ (10 ∷ r)) is.is none;
}

pub whole_reading : (header : Header) (line text : List ℕ) (rows : List Row) (periods : ℕ) (finished : Bool)
    → IsHeaderLine header line → All (IsRow header.junctions header.tanks) rows
    → periods < 2 ^ 32 → text ≡ certificate_text header.version header.junctions header.tanks rows periods finished
    → IsCertificateText text header.version header.junctions header.tanks rows periods finished
whole_reading header line text rows periods finished is all fits e =
    let whole = length-append (header_words header) (10 ∷ []) in
    let long : length line ≡ length (header_words header) = ap length is.is in
    record {
      known = is.known;
      junctions_fit = is.junctions_fit;
      tanks_fit = is.tanks_fit;
      header_fits = (let short = is.short in omega (arith, whole, long, short));
      rows_fit = all;
      periods_fit = fits;
      is_text = e;
    }

read_header : (header : Header) (line rest : List ℕ) → IsHeaderLine header line → Rows header rest
    → IsCertificate header (line ++ (10 ∷ rest))
read_header header line rest is k = record {
  rows = k.rows;
  periods = k.periods;
  finished = k.finished;
  is_text = whole_reading header line (line ++ (10 ∷ rest)) k.rows k.periods k.finished is k.rows_fit k.periods_fit
      (header_parts header line rest is ∙ ap (λ r. header_text header ++ r) k.is);
}

read_line : (header : Header) (place next : Place) (line rest : List ℕ) → CanStand header place line next
    → ReadFrom header next rest → ReadFrom header place (line ++ (10 ∷ rest))
read_line header First next line rest can reads = read_header header line rest can.0
    (subst (λ (p : Place). ReadFrom header p rest) can.1 reads)
read_line header Between next line rest (inl can) reads =
    read_record header line rest can.0 (at_heads header 0 rest (omega arith)
    (subst (λ (p : Place). ReadFrom header p rest) can.1 reads))
read_line header Between next line rest (inr can) reads = read_end header line rest can.0
    (subst (λ (p : Place). ReadFrom header p rest) can.1 reads)
read_line header (Head i) next line rest can reads = λ less.
    read_head header i line rest can.0 (at_heads header (i + 1) rest (omega (arith, less))
    (subst (λ (p : Place). ReadFrom header p rest) can.1 reads))
read_line header Over next line rest can reads = absurd can

read_from : (header : Header) (place : Place) (text : List ℕ) → Goes header place text → ReadFrom header place text
read_from header _ _ ends = refl
read_from header _ _ (goes line can rest) = read_line header _ _ line _ can (read_from header _ _ rest)

pub goes_certificate : (header : Header) (text : List ℕ) → Goes header First text → IsCertificate header text
goes_certificate header text goes_on = read_from header First text goes_on

-- ---- a fault behind records

pub nothing-before : (o : Option (List ℕ)) → prepend_known [] o ≡ o
nothing-before None = refl
nothing-before (Some xs) = refl

line_fault : (header : Header) (place next : Place) (line : List ℕ) (text rest : Option (List ℕ)) (number : ℕ)
    → CanStand header place line next → text ≡ prepend_known (line ++ (10 ∷ [])) rest
    → IsFault header next rest number → IsFault header place text (suc number)
line_fault header place next line text rest number can e fault =
    subst (λ (t : Option (List ℕ)). IsFault header place t (suc number)) (sym e) (later line can fault)

heads_fault : (header : Header) (i : ℕ) (us : List ℤ) (text rest : Option (List ℕ)) (number : ℕ)
    → i + length us ≤ heads_in header.junctions header.tanks → All IsInBox us
    → text ≡ prepend_known (head_text header.junctions i us) rest
    → IsFault header (place_after (heads_in header.junctions header.tanks) (i + length us)) rest number
    → IsFault header (place_after (heads_in header.junctions header.tanks) i) text (length us + number)
heads_fault header i [] text rest number within box e fault =
    let heads = heads_in header.junctions header.tanks in
    let here : i + length {A = ℤ} [] ≡ i = omega arith in
    let count : number ≡ length {A = ℤ} [] + number = omega arith in
    subst (λ (t : Option (List ℕ)). IsFault header (place_after heads i) t (length {A = ℤ} [] + number))
    (sym (e ∙ nothing-before rest))
    (subst (λ (k : ℕ). IsFault header (place_after heads i) rest k) count
    (subst (λ (k : ℕ). IsFault header (place_after heads k) rest number) here fault))
heads_fault header i (u ∷ us) text rest number within box e fault =
    let heads = heads_in header.junctions header.tanks in
    let front = front_at header.junctions i in
    let far : i + length (u ∷ us) ≡ i + 1 + length us = omega arith in
    let more = head_text header.junctions (i + 1) us in
    let after = heads_fault header (i + 1) us (prepend_known more rest) rest number (omega (arith, within))
    (All-tail IsInBox u us box) refl
    (subst (λ (k : ℕ). IsFault header (place_after heads k) rest number) far fault) in
    let whole : head_text header.junctions i (u ∷ us) ≡ ((front ++ signed_decimal u) ++ (10 ∷ [])) ++ more =
    sym (append_assoc (front ++ signed_decimal u) (10 ∷ []) more ∙ append_assoc front (signed_decimal u) (10 ∷ more)) in
    let line = line_fault header (Head i) (place_after heads (i + 1)) (front ++ signed_decimal u) text
    (prepend_known more rest) (length us + number)
    (record { head = u; in_box = All-head IsInBox u us box; is = refl }, refl)
    (e ∙ (ap (λ t. prepend_known t rest) whole ∙ sym (prepend_known-prepend_known rest ((front ++ signed_decimal u)
    ++ (10 ∷ [])) more))) after in
    let count : suc (length us + number) ≡ length (u ∷ us) + number = omega arith in
    subst (λ (k : ℕ). IsFault header (place_after heads i) text k) count
    (subst (λ (p : Place). IsFault header p text (suc (length us + number)))
    (sym (place_head heads i (omega (arith, within)))) line)

record_fault : (header : Header) (row : Row) (text rest : Option (List ℕ)) (number : ℕ)
    → IsRow header.junctions header.tanks row → text ≡ prepend_known (record_text row) rest
    → IsFault header Between rest number → IsFault header Between text (1 + heads_in header.junctions header.tanks
    + number)
record_fault header row text rest number is e fault =
    let n = header.junctions in
    let heads = heads_in header.junctions header.tanks in
    let by = by_heads n header.tanks row is in
    let whole = by.whole in
    let period = words (codes "PERIOD" ∷ (decimal row.number ∷ (decimal row.time ∷ (decimal row.length ∷ [])))) in
    let behind = place_end heads (0 + length (flat row)) (omega (arith, whole)) in
    let after = heads_fault header 0 (flat row) (prepend_known (head_text n 0 (flat row)) rest) rest number
    (omega (arith, whole)) by.box refl
    (subst (λ (p : Place). IsFault header p rest number) (sym behind) fault) in
    let parts : record_text row ≡ (period ++ (10 ∷ [])) ++ head_text n 0 (flat row) = ap record_text (sym by.same)
    ∙ row_text n header.tanks row.number row.time row.length (flat row) whole in
    let line = line_fault header Between (place_after heads 0) period text
    (prepend_known (head_text n 0 (flat row)) rest) (length (flat row) + number)
    (inl (period_is row.number row.time row.length is.number_fits is.time_fits is.length_fits, refl))
    (e ∙ (ap (λ t. prepend_known t rest) parts ∙ sym (prepend_known-prepend_known rest (period ++ (10 ∷ []))
    (head_text n 0 (flat row))))) after in
    subst (λ (k : ℕ). IsFault header Between text k) (omega (arith, whole)) line

rows_fault : (header : Header) (rows : List Row) (text rest : Option (List ℕ)) (number : ℕ)
    → All (IsRow header.junctions header.tanks) rows → text ≡ prepend_known (joined (map record_text rows)) rest
    → IsFault header Between rest number → IsFault header Between text
    (length rows * (1 + heads_in header.junctions header.tanks) + number)
rows_fault header [] text rest number all e fault =
    let lines = 1 + heads_in header.junctions header.tanks in
    let count : number ≡ length {A = Row} [] * lines + number = omega arith in
    subst (λ (t : Option (List ℕ)). IsFault header Between t (length {A = Row} [] * lines + number))
    (sym (e ∙ nothing-before rest))
    (subst (λ (k : ℕ). IsFault header Between rest k) count fault)
rows_fault header (row ∷ rows) text rest number all e fault =
    let IsGood = IsRow header.junctions header.tanks in
    let lines = 1 + heads_in header.junctions header.tanks in
    let more = joined (map record_text rows) in
    let after = rows_fault header rows (prepend_known more rest) rest number (All-tail IsGood row rows all) refl
    fault in
    let first = record_fault header row text (prepend_known more rest) (length rows * lines + number)
    (All-head IsGood row rows all)
    (e ∙ sym (prepend_known-prepend_known rest (record_text row) more)) after in
    let count : lines + (length rows * lines + number) ≡ length (row ∷ rows) * lines + number = omega arith in
    subst (λ (k : ℕ). IsFault header Between text k) count first

pub fault_behind : (header : Header) (line : List ℕ) (rows : List Row) (text rest : Option (List ℕ)) (number : ℕ)
    → IsHeaderLine header line → All (IsRow header.junctions header.tanks) rows
    → BeginsWith header rows text rest → IsFault header Between rest number
    → IsFault header First text (lines_of header rows + number)
fault_behind header line rows text rest number is all e fault =
    let more = joined (map record_text rows) in
    let after = rows_fault header rows (prepend_known more rest) rest number all refl fault in
    let header_is : header_text header ≡ line ++ (10 ∷ []) = ap (λ l. l ++ (10 ∷ [])) (sym is.is) in
    let first = line_fault header First Between line text (prepend_known more rest)
    (length rows * (1 + heads_in header.junctions header.tanks) + number) (is, refl)
    (e ∙ (sym (prepend_known-prepend_known rest (header_text header) more)
    ∙ ap (λ h. prepend_known h (prepend_known more rest)) header_is)) after in
    subst (λ (k : ℕ). IsFault header First text k) (omega arith) first
