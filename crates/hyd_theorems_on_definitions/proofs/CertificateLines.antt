-- The lines of a certificate text are read in one way.
use Rattle.std.proofs.Common.{subst, ◌≡◌, ℕ, suc, ◌^◌, ◌<◌, ◌≤◌, ◌+◌, ℤ, pos, negsuc, Bool, true, false, List, [], ◌∷◌}
use Rattle.std.proofs.Common.{◌++◌, length, map, codes, refl, sym, ap, ap₂, ◌∙◌, append_assoc, arith, ◌⊎◌, inl, inr}
use Rattle.std.specs.Prelude.{All, if◌then◌else◌}
use Rattle.std.specs.Fmt.{decimal, signed_decimal}
use Rattle.std.specs.Str.Parse.{AllDigits, digits_value}
use Rattle.std.proofs.lemmas.Fmt.{decimal_is_IsNumeral_wide, signed_decimal_injective, length-decimal-le_wide}
use Rattle.std.proofs.lemmas.Int.{ints}
use Rattle.std.proofs.lemmas.Str.Parse.{digit_from_value}
use Rattle.std.proofs.lemmas.List.{append-nil, append_cancel_left, length-append}
use Rattle.std.proofs.lemmas.List.Elements.{All-head, All-tail}
use lib.Signed.{mag}
use Rattle.hyd_spec.specs.Lists.{joined}
use Rattle.hyd_spec_certificates.specs.Certificate.{IsInBox}
use Rattle.hyd_spec_certificates.specs.RecordAndStanding.{Record, Vectors}
use Rattle.hyd_spec_certificates.specs.CertificateText.{words, line, header_line, period_line, head_lines, vectors_text}
use Rattle.hyd_spec_certificates.specs.CertificateText.{record_text, end_line, IsVector, IsRow, IsCertificateText}
use Rattle.hyd_theorems_on_definitions.proofs.OneFirstLine.{IsWord, AreWords, line-same}

-- ---- numerals

digits-word : (digits : List ℕ) → AllDigits 10 digits → IsWord digits
digits-word [] h = tt
digits-word (c ∷ cs) h = (let k = digit_from_value c h.0 in omega arith, digits-word cs h.1)

decimal-word : (n : ℕ) → n < 10 ^ 64 → IsWord (decimal n)
decimal-word n short = digits-word (decimal n) (decimal_is_IsNumeral_wide n short).0.1

pub decimal-same : (m n : ℕ) → m < 10 ^ 64 → n < 10 ^ 64 → decimal m ≡ decimal n → m ≡ n
decimal-same m n short_m short_n e =
    sym (decimal_is_IsNumeral_wide m short_m).1 ∙ (ap (digits_value 10) e ∙ (decimal_is_IsNumeral_wide n short_n).1)

number-same : (m n : ℕ) → m < 2 ^ 32 → n < 2 ^ 32 → decimal m ≡ decimal n → m ≡ n
number-same m n fits_m fits_n e = decimal-same m n (omega arith) (omega arith) e

head-word : (h : ℤ) → IsInBox h → IsWord (signed_decimal h)
head-word (pos n) box = decimal-word n (let b = box.below_ceiling in omega (arith, ints, b))
head-word (negsuc n) box = (omega arith, decimal-word (suc n) (let b = box.above_floor in omega (arith, ints, b)))

mag-below : (h : ℤ) → IsInBox h → mag h < 2 ^ 63
mag-below (pos n) box = let b = box.below_ceiling in omega (arith, ints, b)
mag-below (negsuc n) box = let b = box.above_floor in omega (arith, ints, b)

head-same : (g h : ℤ) → IsInBox g → IsInBox h → signed_decimal g ≡ signed_decimal h → g ≡ h
head-same g h box_g box_h e = signed_decimal_injective g h (mag-below g box_g) (mag-below h box_h) e

-- ---- vectors

heads-same : (key : List ℕ) → IsWord key → (us vs : List ℤ) → length us ≡ length vs → All IsInBox us → All IsInBox vs
    → (r s : List ℕ)
    → head_lines key us ++ r ≡ head_lines key vs ++ s → (us ≡ vs) × (r ≡ s)
heads-same key is_key [] [] n box_u box_v r s e = (refl, e)
heads-same key is_key [] (v ∷ vs) n box_u box_v r s e = absurd (omega arith)
heads-same key is_key (u ∷ us) [] n box_u box_v r s e = absurd (omega arith)
heads-same key is_key (u ∷ us) (v ∷ vs) n box_u box_v r s e =
    let in_u = All-head IsInBox u us box_u in let in_v = All-head IsInBox v vs box_v in
    let k = line-same key key (signed_decimal u ∷ []) (signed_decimal v ∷ []) (head_lines key us ++ r)
    (head_lines key vs ++ s)
    (is_key, (head-word u in_u, tt)) (is_key, (head-word v in_v, tt))
    (sym (append_assoc (line (key ∷ (signed_decimal u ∷ []))) (head_lines key us) r)
    ∙ (e ∙ append_assoc (line (key ∷ (signed_decimal v ∷ []))) (head_lines key vs) s)) in
    let words_same = k.0 in let numeral : signed_decimal u ≡ signed_decimal v = cc in
    let first = head-same u v in_u in_v numeral in
    let rest = heads-same key is_key us vs (omega arith) (All-tail IsInBox u us box_u) (All-tail IsInBox v vs box_v) r
    s k.1 in
    let others = rest.0 in (cc, rest.1)

abbrev pub IsPair : ℕ → Vectors → Type 0
IsPair junctions vectors = IsVector junctions vectors.upper × IsVector junctions vectors.lower

-- the lines of the pinned vectors of a record
abbrev pub pinned_lines : List Vectors → List ℕ
pinned_lines vectors = joined (map (vectors_text (codes "PU") (codes "PL")) vectors)

pub vectors-equal : (v w : Vectors) → v.upper ≡ w.upper → v.lower ≡ w.lower → v ≡ w
vectors-equal v w upper lower = ap (λ u. record v { upper = u }) upper ∙ ap (λ l. record w { lower = l }) lower

vectors-same : (upper lower : List ℕ) → IsWord upper → IsWord lower → (junctions : ℕ) (v w : Vectors)
    → IsPair junctions v
    → IsPair junctions w → (r s : List ℕ) → vectors_text upper lower v ++ r ≡ vectors_text upper lower w ++ s
    → (v ≡ w) × (r ≡ s)
vectors-same upper lower is_upper is_lower junctions v w are_v are_w r s e =
    let high = heads-same upper is_upper v.upper w.upper (are_v.0.one_each ∙ sym are_w.0.one_each) are_v.0.in_box
    are_w.0.in_box
    (head_lines lower v.lower ++ r) (head_lines lower w.lower ++ s)
    (sym (append_assoc (head_lines upper v.upper) (head_lines lower v.lower) r)
    ∙ (e ∙ append_assoc (head_lines upper w.upper) (head_lines lower w.lower) s)) in
    let low = heads-same lower is_lower v.lower w.lower (are_v.1.one_each ∙ sym are_w.1.one_each) are_v.1.in_box
    are_w.1.in_box r s high.1 in
    (vectors-equal v w high.0 low.0, low.1)

pinned-same : (junctions : ℕ) (vs ws : List Vectors) → length vs ≡ length ws → All (IsPair junctions) vs
    → All (IsPair junctions) ws
    → (r s : List ℕ) → pinned_lines vs ++ r ≡ pinned_lines ws ++ s → (vs ≡ ws) × (r ≡ s)
pinned-same junctions [] [] n are_v are_w r s e = (refl, e)
pinned-same junctions [] (w ∷ ws) n are_v are_w r s e = absurd (omega arith)
pinned-same junctions (v ∷ vs) [] n are_v are_w r s e = absurd (omega arith)
pinned-same junctions (v ∷ vs) (w ∷ ws) n are_v are_w r s e =
    let P = IsPair junctions in
    let first = vectors-same (codes "PU") (codes "PL") (search arith) (search arith) junctions v w
    (All-head P v vs are_v) (All-head P w ws are_w)
    (pinned_lines vs ++ r) (pinned_lines ws ++ s)
    (sym (append_assoc (vectors_text (codes "PU") (codes "PL") v) (pinned_lines vs) r)
    ∙ (e ∙ append_assoc (vectors_text (codes "PU") (codes "PL") w) (pinned_lines ws) s)) in
    let rest = pinned-same junctions vs ws (omega arith) (All-tail P v vs are_v) (All-tail P w ws are_w) r s first.1 in
    let here = first.0 in let others = rest.0 in (cc, rest.1)

-- ---- records

period-words : (number time seconds : ℕ) → number < 2 ^ 32 → time < 2 ^ 32 → seconds < 2 ^ 32
    → AreWords (codes "PERIOD" ∷ (decimal number ∷ (decimal time ∷ (decimal seconds ∷ []))))
period-words number time seconds a b c = (
  search arith,
  (
    decimal-word number (omega arith),
    (
      decimal-word time (omega arith),
      (decimal-word seconds (omega arith), tt),
    ),
  ),
)

record-equal : (a b : Record) → a.number ≡ b.number → a.time ≡ b.time → a.length ≡ b.length → a.main ≡ b.main
    → a.pinned ≡ b.pinned → a ≡ b
record-equal a b number time seconds main pinned =
    ap (λ x. record a { number = x }) number
    ∙ (ap (λ x. record b { time = x; length = a.length; main = a.main; pinned = a.pinned }) time
    ∙ (ap (λ x. record b { length = x; main = a.main; pinned = a.pinned }) seconds
    ∙ (ap (λ x. record b { main = x; pinned = a.pinned }) main ∙ ap (λ x. record b { pinned = x }) pinned)))

record-parts : (row : Record) (r : List ℕ) → record_text row ++ r ≡ period_line row
    ++ (vectors_text (codes "MU") (codes "ML") row.main ++ (pinned_lines row.pinned ++ r))
record-parts row r =
    append_assoc (period_line row) (vectors_text (codes "MU") (codes "ML") row.main ++ pinned_lines row.pinned) r
    ∙ ap (λ t. period_line row ++ t) (append_assoc (vectors_text (codes "MU") (codes "ML") row.main)
    (pinned_lines row.pinned) r)

record-same : (junctions tanks : ℕ) (row other : Record) → IsRow junctions tanks row → IsRow junctions tanks other
    → (r s : List ℕ)
    → record_text row ++ r ≡ record_text other ++ s → (row ≡ other) × (r ≡ s)
record-same junctions tanks row other is_row is_other r s e =
    let first = line-same (codes "PERIOD") (codes "PERIOD") (decimal row.number
    ∷ (decimal row.time ∷ (decimal row.length ∷ [])))
    (decimal other.number ∷ (decimal other.time ∷ (decimal other.length ∷ [])))
    (vectors_text (codes "MU") (codes "ML") row.main ++ (pinned_lines row.pinned ++ r))
    (vectors_text (codes "MU") (codes "ML") other.main ++ (pinned_lines other.pinned ++ s))
    (period-words row.number row.time row.length is_row.number_fits is_row.time_fits is_row.length_fits)
    (period-words other.number other.time other.length is_other.number_fits is_other.time_fits is_other.length_fits)
    (sym (record-parts row r) ∙ (e ∙ record-parts other s)) in
    let main = vectors-same (codes "MU") (codes "ML") (search arith) (search arith) junctions row.main other.main
    (is_row.main_upper, is_row.main_lower) (is_other.main_upper, is_other.main_lower)
    (pinned_lines row.pinned ++ r) (pinned_lines other.pinned ++ s) first.1 in
    let pinned = pinned-same junctions row.pinned other.pinned (is_row.pinned_each ∙ sym is_other.pinned_each)
    (λ k d l. (is_row.pinned_upper k d l, is_row.pinned_lower k d l))
    (λ k d l. (is_other.pinned_upper k d l, is_other.pinned_lower k d l))
    r s main.1 in
    let words = first.0 in (
      record-equal row other (number-same row.number other.number is_row.number_fits is_other.number_fits (cc))
          (number-same row.time other.time is_row.time_fits is_other.time_fits (cc))
          (number-same row.length other.length is_row.length_fits is_other.length_fits (cc)) main.0 pinned.0,
      pinned.1,
    )

-- ---- the end line

end-words : (periods : ℕ) (finished : Bool) → periods < 2 ^ 32
    → AreWords (codes "END" ∷ (decimal periods ∷ ((if finished then codes "FINISHED" else codes "STOPPED") ∷ [])))
end-words periods true fits = (search arith, (decimal-word periods (omega arith), (search arith, tt)))
end-words periods false fits = (search arith, (decimal-word periods (omega arith), (search arith, tt)))

finished-same : (f g : Bool) → (if f then codes "FINISHED" else codes "STOPPED")
    ≡ (if g then codes "FINISHED" else codes "STOPPED") → f ≡ g
finished-same true true e = refl
finished-same true false e = cc
finished-same false true e = cc
finished-same false false e = refl

end-same : (p q : ℕ) (f g : Bool) → p < 2 ^ 32 → q < 2 ^ 32 → end_line p f ≡ end_line q g → (p ≡ q) × (f ≡ g)
end-same p q f g fits_p fits_q e =
    let words = (line-same (codes "END") (codes "END") (decimal p ∷ ((if f then codes "FINISHED" else codes "STOPPED")
    ∷ []))
    (decimal q ∷ ((if g then codes "FINISHED" else codes "STOPPED") ∷ [])) [] []
    (end-words p f fits_p) (end-words q g fits_q) (ap (λ t. t ++ []) e)).0 in
    (number-same p q fits_p fits_q (cc), finished-same f g (cc))

-- a record doesn't begin as the end line does
end-apart : (junctions tanks periods : ℕ) (finished : Bool) (row : Record) → periods < 2 ^ 32
    → IsRow junctions tanks row
    → (r : List ℕ) → end_line periods finished ≡ record_text row ++ r → ⊥
end-apart junctions tanks periods finished row fits is_row r e =
    let words = (line-same (codes "END") (codes "PERIOD") (decimal periods
    ∷ ((if finished then codes "FINISHED" else codes "STOPPED") ∷ []))
    (decimal row.number ∷ (decimal row.time ∷ (decimal row.length ∷ []))) []
    (vectors_text (codes "MU") (codes "ML") row.main ++ (pinned_lines row.pinned ++ r))
    (end-words periods finished fits) (period-words row.number row.time row.length is_row.number_fits is_row.time_fits
    is_row.length_fits)
    (append-nil (end_line periods finished) ∙ (e ∙ record-parts row r))).0 in
    cc

-- ---- all records and the end line

rows-same : (junctions tanks : ℕ) (rows others : List Record) → All (IsRow junctions tanks) rows
    → All (IsRow junctions tanks) others
    → (p q : ℕ) (f g : Bool) → p < 2 ^ 32 → q < 2 ^ 32 → joined (map record_text rows) ++ end_line p f
    ≡ joined (map record_text others) ++ end_line q g
    → (rows ≡ others) × ((p ≡ q) × (f ≡ g))
rows-same junctions tanks [] [] are_rows are_others p q f g fits_p fits_q e = (refl, end-same p q f g fits_p fits_q e)
rows-same junctions tanks [] (other ∷ others) are_rows are_others p q f g fits_p fits_q e =
    absurd (end-apart junctions tanks p f other fits_p (All-head (IsRow junctions tanks) other others are_others)
    (joined (map record_text others) ++ end_line q g)
    (e ∙ append_assoc (record_text other) (joined (map record_text others)) (end_line q g)))
rows-same junctions tanks (row ∷ rows) [] are_rows are_others p q f g fits_p fits_q e =
    absurd (end-apart junctions tanks q g row fits_q (All-head (IsRow junctions tanks) row rows are_rows)
    (joined (map record_text rows) ++ end_line p f)
    (sym e ∙ append_assoc (record_text row) (joined (map record_text rows)) (end_line p f)))
rows-same junctions tanks (row ∷ rows) (other ∷ others) are_rows are_others p q f g fits_p fits_q e =
    let P = IsRow junctions tanks in
    let first = record-same junctions tanks row other (All-head P row rows are_rows)
    (All-head P other others are_others)
    (joined (map record_text rows) ++ end_line p f) (joined (map record_text others) ++ end_line q g)
    (sym (append_assoc (record_text row) (joined (map record_text rows)) (end_line p f))
    ∙ (e ∙ append_assoc (record_text other) (joined (map record_text others)) (end_line q g))) in
    let rest = rows-same junctions tanks rows others (All-tail P row rows are_rows)
    (All-tail P other others are_others) p q f g fits_p fits_q first.1 in
    (ap₂ (λ x xs. x ∷ xs) first.0 rest.0, rest.1)

-- ---- the whole text

header-words : (version junctions tanks : ℕ) → version < 10 ^ 64 → junctions < 10 ^ 64 → tanks < 10 ^ 64
    → AreWords (codes "HYDCERT" ∷ (decimal version ∷ (decimal junctions ∷ (decimal tanks ∷ []))))
header-words version junctions tanks short_version short_junctions short_tanks = (
  search arith,
  (
    decimal-word version short_version,
    (
      decimal-word junctions short_junctions,
      (decimal-word tanks short_tanks, tt),
    ),
  ),
)

-- a header with counts below 2^32 has at most 64 bytes with its line feed
pub header-short : (version junctions tanks : ℕ) → version < 10 → junctions < 2 ^ 32 → tanks < 2 ^ 32
    → length (header_line version junctions tanks) ≤ 64
header-short version junctions tanks one_digit few_junctions few_tanks =
    let v = length-decimal-le_wide 1 version (omega arith) (omega (arith, one_digit)) (omega (arith, one_digit)) in
    let n = length-decimal-le_wide 10 junctions (omega arith) (omega (arith, few_junctions))
    (omega (arith, few_junctions)) in
    let k = length-decimal-le_wide 10 tanks (omega arith) (omega (arith, few_tanks)) (omega (arith, few_tanks)) in
    let last = length-append (decimal junctions) (32 ∷ decimal tanks) in
    let middle = length-append (decimal version) (32 ∷ (decimal junctions ++ (32 ∷ decimal tanks))) in
    let whole = length-append
    (words (codes "HYDCERT" ∷ (decimal version ∷ (decimal junctions ∷ (decimal tanks ∷ []))))) (10 ∷ []) in
    omega (arith, v, n, k, last, middle, whole)

known-small : (version : ℕ) → (version ≡ 1) ⊎ (version ≡ 2) → version < 10 ^ 64
known-small version (inl is) = omega (arith, is)
known-small version (inr is) = omega (arith, is)

pub counts-same : (text : List ℕ) (version version' junctions junctions' tanks tanks' periods periods' : ℕ)
    (rows rows' : List Record) (finished finished' : Bool)
    → IsCertificateText text version junctions tanks rows periods finished
    → IsCertificateText text version' junctions' tanks' rows' periods' finished'
    → (version ≡ version') × ((junctions ≡ junctions') × (tanks ≡ tanks'))
counts-same text version version' junctions junctions' tanks tanks' periods periods' rows rows' finished finished' a b =
    let v = known-small version a.known in
    let v' = known-small version' b.known in
    let n = a.junctions_fit in
    let n' = b.junctions_fit in
    let k = a.tanks_fit in
    let k' = b.tanks_fit in
    let words = (line-same (codes "HYDCERT") (codes "HYDCERT")
    (decimal version ∷ (decimal junctions ∷ (decimal tanks ∷ [])))
    (decimal version' ∷ (decimal junctions' ∷ (decimal tanks' ∷ [])))
    (joined (map record_text rows) ++ end_line periods finished) (joined (map record_text rows')
    ++ end_line periods' finished')
    (header-words version junctions tanks v n k) (header-words version' junctions' tanks' v' n' k')
    (sym a.is_text ∙ b.is_text)).0 in (
      decimal-same version version' v v' (cc),
      (
        decimal-same junctions junctions' n n' (cc),
        decimal-same tanks tanks'
            k k' (cc),
      ),
    )

-- with the same header
same-contents : (text : List ℕ) (version junctions tanks periods periods' : ℕ) (rows rows' : List Record)
    (finished finished' : Bool)
    → IsCertificateText text version junctions tanks rows periods finished
    → IsCertificateText text version junctions tanks rows' periods' finished'
    → (rows ≡ rows') × ((periods ≡ periods') × (finished ≡ finished'))
same-contents text version junctions tanks periods periods' rows rows' finished finished' a b =
    rows-same junctions tanks rows rows' a.rows_fit b.rows_fit periods periods' finished finished' a.periods_fit
    b.periods_fit
    (append_cancel_left (header_line version junctions tanks) (joined (map record_text rows)
    ++ end_line periods finished)
    (joined (map record_text rows') ++ end_line periods' finished') (sym a.is_text ∙ b.is_text))

pub contents-same : (text : List ℕ) (version version' junctions junctions' tanks tanks' periods periods' : ℕ)
    (rows rows' : List Record) (finished finished' : Bool)
    → IsCertificateText text version junctions tanks rows periods finished
    → IsCertificateText text version' junctions' tanks' rows' periods' finished'
    → (rows ≡ rows') × ((periods ≡ periods') × (finished ≡ finished'))
contents-same text version version' junctions junctions' tanks tanks' periods periods' rows rows' finished finished' a
    b =
    let counts = counts-same text version version' junctions junctions' tanks tanks' periods periods' rows rows'
    finished finished' a b in
    same-contents text version junctions tanks periods periods' rows rows' finished finished' a
    (subst (λ (v : ℕ). IsCertificateText text v junctions tanks rows' periods' finished') (sym counts.0)
    (subst (λ (n : ℕ). IsCertificateText text version' n tanks rows' periods' finished') (sym counts.1.0)
    (subst (λ (k : ℕ). IsCertificateText text version' junctions' k rows' periods' finished') (sym counts.1.1) b)))
