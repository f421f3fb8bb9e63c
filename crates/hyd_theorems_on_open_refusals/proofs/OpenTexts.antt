-- The lines of a certificate text of version 4 are read in one way.
use Rattle.std.proofs.Common.{◌≡◌, ℕ, suc, ◌^◌, ◌<◌, ◌≤◌, ℤ, pos, negsuc, Bool, true, false, List, [], ◌∷◌, ◌++◌}
use Rattle.std.proofs.Common.{length, map, codes, refl, sym, ap, ap₂, ◌∙◌, append_assoc, arith}
use Rattle.std.specs.Prelude.{All, if◌then◌else◌}
use Rattle.std.specs.Fmt.{decimal, signed_decimal}
use Rattle.std.specs.Str.Parse.{AllDigits}
use Rattle.std.proofs.lemmas.Fmt.{decimal_is_IsNumeral_wide, signed_decimal_injective}
use Rattle.std.proofs.lemmas.Int.{ints}
use Rattle.std.proofs.lemmas.Str.Parse.{digit_from_value}
use Rattle.std.proofs.lemmas.List.{append-nil, append_cancel_left}
use Rattle.std.proofs.lemmas.List.Elements.{All-head, All-tail}
use lib.Signed.{mag}
use Rattle.hyd_spec.specs.Lists.{joined}
use Rattle.hyd_spec_certificates.specs.Certificate.{IsInBox}
use Rattle.hyd_spec_certificates.specs.RecordAndStanding.{Vectors}
use Rattle.hyd_spec_certificates.specs.CertificateText.{line, header_line, head_lines, vectors_text, end_line}
use Rattle.hyd_spec_open_ends.specs.OpenStandings.{OpenRecord}
use Rattle.hyd_spec_open_ends.specs.OpenCertificateText.{open_version, open_period_line, open_record_text, IsOpenRow}
use Rattle.hyd_spec_open_ends.specs.OpenCertificateText.{IsOpenCertificateText}
use Rattle.hyd_theorems_on_definitions.proofs.CertificateLines.{decimal-same, IsPair, pinned_lines, vectors-equal}
use Rattle.hyd_theorems_on_definitions.proofs.OneFirstLine.{IsWord, AreWords, line-same}

-- ---- numerals

digits-word : (digits : List ℕ) → AllDigits 10 digits → IsWord digits
digits-word [] h = tt
digits-word (c ∷ cs) h = (let k = digit_from_value c h.0 in omega arith, digits-word cs h.1)

decimal-word : (n : ℕ) → n < 10 ^ 64 → IsWord (decimal n)
decimal-word n short = digits-word (decimal n) (decimal_is_IsNumeral_wide n short).0.1

number-same : (m n : ℕ) → m < 2 ^ 32 → n < 2 ^ 32 → decimal m ≡ decimal n → m ≡ n
number-same m n fits_m fits_n e = decimal-same m n (omega arith) (omega arith) e

head-word : (h : ℤ) → IsInBox h → IsWord (signed_decimal h)
head-word (pos n) box = decimal-word n (let b = box.below_ceiling in omega (arith, ints, b))
head-word (negsuc n) box = (omega arith, decimal-word (suc n) (let b = box.above_floor in omega (arith, ints, b)))

mag-below : (h : ℤ) → IsInBox h → mag h < 2 ^ 63
mag-below (pos n) box = let b = box.below_ceiling in omega (arith, ints, b)
mag-below (negsuc n) box = let b = box.above_floor in omega (arith, ints, b)

head-same : (g h : ℤ) → IsInBox g → IsInBox h → signed_decimal g ≡ signed_decimal h → g ≡ h
head-same g h box_g box_h e = signed_decimal_injective g h (mag-below g box_g) (mag-below h box_h) e

-- ---- vectors

heads-same : (key : List ℕ) → IsWord key → (us vs : List ℤ) → length us ≡ length vs → All IsInBox us → All IsInBox vs
    → (r s : List ℕ) → head_lines key us ++ r ≡ head_lines key vs ++ s → (us ≡ vs) × (r ≡ s)
heads-same key is_key [] [] n box_u box_v r s e = (refl, e)
heads-same key is_key [] (v ∷ vs) n box_u box_v r s e = absurd (omega arith)
heads-same key is_key (u ∷ us) [] n box_u box_v r s e = absurd (omega arith)
heads-same key is_key (u ∷ us) (v ∷ vs) n box_u box_v r s e =
    let in_u = All-head IsInBox u us box_u in let in_v = All-head IsInBox v vs box_v in
    let k = line-same key key (signed_decimal u ∷ []) (signed_decimal v ∷ []) (head_lines key us ++ r)
    (head_lines key vs ++ s)
    (is_key, (head-word u in_u, tt)) (is_key, (head-word v in_v, tt))
    (sym (append_assoc (line (key ∷ (signed_decimal u ∷ []))) (head_lines key us) r)
    ∙ (e ∙ append_assoc (line (key ∷ (signed_decimal v ∷ []))) (head_lines key vs) s)) in
    let words_same = k.0 in let numeral : signed_decimal u ≡ signed_decimal v = cc in
    let first = head-same u v in_u in_v numeral in
    let rest = heads-same key is_key us vs (omega arith) (All-tail IsInBox u us box_u) (All-tail IsInBox v vs box_v) r
    s k.1 in
    let others = rest.0 in (cc, rest.1)

vectors-same : (upper lower : List ℕ) → IsWord upper → IsWord lower → (junctions : ℕ) (v w : Vectors)
    → IsPair junctions v → IsPair junctions w → (r s : List ℕ)
    → vectors_text upper lower v ++ r ≡ vectors_text upper lower w ++ s → (v ≡ w) × (r ≡ s)
vectors-same upper lower is_upper is_lower junctions v w are_v are_w r s e =
    let high = heads-same upper is_upper v.upper w.upper (are_v.0.one_each ∙ sym are_w.0.one_each) are_v.0.in_box
    are_w.0.in_box (head_lines lower v.lower ++ r) (head_lines lower w.lower ++ s)
    (sym (append_assoc (head_lines upper v.upper) (head_lines lower v.lower) r)
    ∙ (e ∙ append_assoc (head_lines upper w.upper) (head_lines lower w.lower) s)) in
    let low = heads-same lower is_lower v.lower w.lower (are_v.1.one_each ∙ sym are_w.1.one_each) are_v.1.in_box
    are_w.1.in_box r s high.1 in
    (vectors-equal v w high.0 low.0, low.1)

pinned-same : (junctions : ℕ) (vs ws : List Vectors) → length vs ≡ length ws → All (IsPair junctions) vs
    → All (IsPair junctions) ws → (r s : List ℕ) → pinned_lines vs ++ r ≡ pinned_lines ws ++ s → (vs ≡ ws) × (r ≡ s)
pinned-same junctions [] [] n are_v are_w r s e = (refl, e)
pinned-same junctions [] (w ∷ ws) n are_v are_w r s e = absurd (omega arith)
pinned-same junctions (v ∷ vs) [] n are_v are_w r s e = absurd (omega arith)
pinned-same junctions (v ∷ vs) (w ∷ ws) n are_v are_w r s e =
    let P = IsPair junctions in
    let first = vectors-same (codes "PU") (codes "PL") (search arith) (search arith) junctions v w
    (All-head P v vs are_v) (All-head P w ws are_w) (pinned_lines vs ++ r) (pinned_lines ws ++ s)
    (sym (append_assoc (vectors_text (codes "PU") (codes "PL") v) (pinned_lines vs) r)
    ∙ (e ∙ append_assoc (vectors_text (codes "PU") (codes "PL") w) (pinned_lines ws) s)) in
    let rest = pinned-same junctions vs ws (omega arith) (All-tail P v vs are_v) (All-tail P w ws are_w) r s first.1 in
    let here = first.0 in let others = rest.0 in (cc, rest.1)

-- ---- records

-- the numbers of a PERIOD line
abbrev numbers : OpenRecord → List (List ℕ)
numbers found =
    decimal found.row.number ∷ (decimal found.row.time ∷ (decimal found.late
    ∷ (decimal found.shortest ∷ (decimal found.row.length ∷ []))))

period-words : (junctions tanks : ℕ) (found : OpenRecord) → IsOpenRow junctions tanks found
    → AreWords (codes "PERIOD" ∷ numbers found)
period-words junctions tanks found is =
    let a = is.row.number_fits in let b = is.row.time_fits in let c = is.late_fits in let d = is.shortest_fits in
    let e = is.row.length_fits in (
      search arith,
      (
        decimal-word found.row.number (omega (arith, a)),
        (
          decimal-word found.row.time (omega (arith, b)),
          (
            decimal-word found.late (omega (arith, c)),
            (
              decimal-word found.shortest (omega (arith, d)),
              (decimal-word found.row.length (omega (arith, e)), tt),
            ),
          ),
        ),
      ),
    )

abbrev vector-lines : OpenRecord → List ℕ
vector-lines found = vectors_text (codes "MU") (codes "ML") found.row.main

record-parts : (found : OpenRecord) (r : List ℕ) → open_record_text found ++ r
    ≡ open_period_line found ++ (vector-lines found ++ (pinned_lines found.row.pinned ++ r))
record-parts found r =
    append_assoc (open_period_line found) (vector-lines found ++ pinned_lines found.row.pinned) r
    ∙ ap (λ t. open_period_line found ++ t) (append_assoc (vector-lines found) (pinned_lines found.row.pinned) r)

record-same : (junctions tanks : ℕ) (found other : OpenRecord) → IsOpenRow junctions tanks found
    → IsOpenRow junctions tanks other → (r s : List ℕ)
    → open_record_text found ++ r ≡ open_record_text other ++ s → (found ≡ other) × (r ≡ s)
record-same junctions tanks found other is_found is_other r s e =
    let first = line-same (codes "PERIOD") (codes "PERIOD") (numbers found) (numbers other)
    (vector-lines found ++ (pinned_lines found.row.pinned ++ r))
    (vector-lines other ++ (pinned_lines other.row.pinned ++ s))
    (period-words junctions tanks found is_found) (period-words junctions tanks other is_other)
    (sym (record-parts found r) ∙ (e ∙ record-parts other s)) in
    let main = vectors-same (codes "MU") (codes "ML") (search arith) (search arith) junctions found.row.main
    other.row.main (is_found.row.main_upper, is_found.row.main_lower) (is_other.row.main_upper, is_other.row.main_lower)
    (pinned_lines found.row.pinned ++ r) (pinned_lines other.row.pinned ++ s) first.1 in
    let pinned = pinned-same junctions found.row.pinned other.row.pinned
    (is_found.row.pinned_each ∙ sym is_other.row.pinned_each)
    (λ k d l. (is_found.row.pinned_upper k d l, is_found.row.pinned_lower k d l))
    (λ k d l. (is_other.row.pinned_upper k d l, is_other.row.pinned_lower k d l)) r s main.1 in
    let words = first.0 in
    let number = number-same found.row.number other.row.number is_found.row.number_fits is_other.row.number_fits (cc) in
    let time = number-same found.row.time other.row.time is_found.row.time_fits is_other.row.time_fits (cc) in
    let late = number-same found.late other.late is_found.late_fits is_other.late_fits (cc) in
    let shortest = number-same found.shortest other.shortest is_found.shortest_fits is_other.shortest_fits (cc) in
    let longest = number-same found.row.length other.row.length is_found.row.length_fits is_other.row.length_fits (cc)
    in (
      λ i. record {
        row = record {
          number = number i;
          time = time i;
          length = longest i;
          main = main.0 i;
          pinned = pinned.0 i;
        };
        late = late i;
        shortest = shortest i;
      },
      pinned.1,
    )

-- ---- the end line

end-words : (periods : ℕ) (finished : Bool) → periods < 2 ^ 32
    → AreWords (codes "END" ∷ (decimal periods ∷ ((if finished then codes "FINISHED" else codes "STOPPED") ∷ [])))
end-words periods true fits = (search arith, (decimal-word periods (omega arith), (search arith, tt)))
end-words periods false fits = (search arith, (decimal-word periods (omega arith), (search arith, tt)))

finished-same : (f g : Bool) → (if f then codes "FINISHED" else codes "STOPPED")
    ≡ (if g then codes "FINISHED" else codes "STOPPED") → f ≡ g
finished-same true true e = refl
finished-same true false e = cc
finished-same false true e = cc
finished-same false false e = refl

end-same : (p q : ℕ) (f g : Bool) → p < 2 ^ 32 → q < 2 ^ 32 → end_line p f ≡ end_line q g → (p ≡ q) × (f ≡ g)
end-same p q f g fits_p fits_q e =
    let words = (line-same (codes "END") (codes "END") (decimal p ∷ ((if f then codes "FINISHED" else codes "STOPPED")
    ∷ []))
    (decimal q ∷ ((if g then codes "FINISHED" else codes "STOPPED") ∷ [])) [] []
    (end-words p f fits_p) (end-words q g fits_q) (ap (λ t. t ++ []) e)).0 in
    (number-same p q fits_p fits_q (cc), finished-same f g (cc))

-- a record doesn't begin as the end line does
end-apart : (junctions tanks periods : ℕ) (finished : Bool) (found : OpenRecord) → periods < 2 ^ 32
    → IsOpenRow junctions tanks found → (r : List ℕ) → end_line periods finished ≡ open_record_text found ++ r → ⊥
end-apart junctions tanks periods finished found fits is r e =
    let words = (line-same (codes "END") (codes "PERIOD") (decimal periods
    ∷ ((if finished then codes "FINISHED" else codes "STOPPED") ∷ [])) (numbers found) []
    (vector-lines found ++ (pinned_lines found.row.pinned ++ r))
    (end-words periods finished fits) (period-words junctions tanks found is)
    (append-nil (end_line periods finished) ∙ (e ∙ record-parts found r))).0 in
    cc

-- ---- all records

abbrev texts : List OpenRecord → List ℕ
texts rows = joined (map open_record_text rows)

behind : (found : OpenRecord) (rows : List OpenRecord) (rest : List ℕ)
    → texts (found ∷ rows) ++ rest ≡ open_record_text found ++ (texts rows ++ rest)
behind found rows rest = append_assoc (open_record_text found) (texts rows) rest

-- records with which all of them and the end line begin are the first of them
rows-begin : (junctions tanks periods : ℕ) (finished : Bool) → periods < 2 ^ 32 → (rows front : List OpenRecord)
    → All (IsOpenRow junctions tanks) rows → All (IsOpenRow junctions tanks) front → (unread : List ℕ)
    → texts rows ++ end_line periods finished ≡ texts front ++ unread
    → (more : List OpenRecord) × (rows ≡ front ++ more)
rows-begin junctions tanks periods finished fits rows [] are_rows are_front unread e = (rows, refl)
rows-begin junctions tanks periods finished fits [] (found ∷ front) are_rows are_front unread e =
    absurd (end-apart junctions tanks periods finished found fits
    (All-head (IsOpenRow junctions tanks) found front are_front) (texts front ++ unread)
    (e ∙ behind found front unread))
rows-begin junctions tanks periods finished fits (row ∷ rows) (found ∷ front) are_rows are_front unread e =
    let P = IsOpenRow junctions tanks in
    let first = record-same junctions tanks row found (All-head P row rows are_rows) (All-head P found front are_front)
    (texts rows ++ end_line periods finished) (texts front ++ unread)
    (sym (behind row rows (end_line periods finished)) ∙ (e ∙ behind found front unread)) in
    let rest = rows-begin junctions tanks periods finished fits rows front (All-tail P row rows are_rows)
    (All-tail P found front are_front) unread first.1 in
    (rest.0, ap₂ (λ x xs. x ∷ xs) first.0 rest.1)

rows-same : (junctions tanks : ℕ) (rows others : List OpenRecord) → All (IsOpenRow junctions tanks) rows
    → All (IsOpenRow junctions tanks) others → (p q : ℕ) (f g : Bool) → p < 2 ^ 32 → q < 2 ^ 32
    → texts rows ++ end_line p f ≡ texts others ++ end_line q g → (rows ≡ others) × ((p ≡ q) × (f ≡ g))
rows-same junctions tanks [] [] are_rows are_others p q f g fits_p fits_q e = (refl, end-same p q f g fits_p fits_q e)
rows-same junctions tanks [] (other ∷ others) are_rows are_others p q f g fits_p fits_q e =
    absurd (end-apart junctions tanks p f other fits_p (All-head (IsOpenRow junctions tanks) other others are_others)
    (texts others ++ end_line q g) (e ∙ behind other others (end_line q g)))
rows-same junctions tanks (row ∷ rows) [] are_rows are_others p q f g fits_p fits_q e =
    absurd (end-apart junctions tanks q g row fits_q (All-head (IsOpenRow junctions tanks) row rows are_rows)
    (texts rows ++ end_line p f) (sym e ∙ behind row rows (end_line p f)))
rows-same junctions tanks (row ∷ rows) (other ∷ others) are_rows are_others p q f g fits_p fits_q e =
    let P = IsOpenRow junctions tanks in
    let first = record-same junctions tanks row other (All-head P row rows are_rows)
    (All-head P other others are_others) (texts rows ++ end_line p f) (texts others ++ end_line q g)
    (sym (behind row rows (end_line p f)) ∙ (e ∙ behind other others (end_line q g))) in
    let rest = rows-same junctions tanks rows others (All-tail P row rows are_rows)
    (All-tail P other others are_others) p q f g fits_p fits_q first.1 in
    (ap₂ (λ x xs. x ∷ xs) first.0 rest.0, rest.1)

-- ---- the whole text

pub one_reading : (text : List ℕ) (junctions tanks periods other : ℕ) (rows others : List OpenRecord)
    (finished ended : Bool) → IsOpenCertificateText text junctions tanks rows periods finished
    → IsOpenCertificateText text junctions tanks others other ended
    → (rows ≡ others) × ((periods ≡ other) × (finished ≡ ended))
one_reading text junctions tanks periods other rows others finished ended a b =
    rows-same junctions tanks rows others a.rows_fit b.rows_fit periods other finished ended a.periods_fit
    b.periods_fit
    (append_cancel_left (header_line open_version junctions tanks) (texts rows ++ end_line periods finished)
    (texts others ++ end_line other ended) (sym a.is_text ∙ b.is_text))

pub first_records : (text unread : List ℕ) (junctions tanks periods : ℕ) (rows front : List OpenRecord)
    (finished : Bool) → IsOpenCertificateText text junctions tanks rows periods finished
    → All (IsOpenRow junctions tanks) front
    → text ≡ header_line open_version junctions tanks ++ (texts front ++ unread)
    → (more : List OpenRecord) × (rows ≡ front ++ more)
first_records text unread junctions tanks periods rows front finished a are_front e =
    rows-begin junctions tanks periods finished a.periods_fit rows front a.rows_fit are_front unread
    (append_cancel_left (header_line open_version junctions tanks) (texts rows ++ end_line periods finished)
    (texts front ++ unread) (sym a.is_text ∙ e))

-- of two fronts of a text one begins with the other
pub fronts_of_text : (junctions tanks : ℕ) (a b : List OpenRecord) → All (IsOpenRow junctions tanks) a
    → All (IsOpenRow junctions tanks) b → (r s : List ℕ) → texts a ++ r ≡ texts b ++ s → length a ≤ length b
    → (more : List OpenRecord) × (b ≡ a ++ more)
fronts_of_text junctions tanks [] b are_a are_b r s e le = (b, refl)
fronts_of_text junctions tanks (x ∷ a) [] are_a are_b r s e le = absurd (omega (arith, le))
fronts_of_text junctions tanks (x ∷ a) (y ∷ b) are_a are_b r s e le =
    let P = IsOpenRow junctions tanks in
    let first = record-same junctions tanks x y (All-head P x a are_a) (All-head P y b are_b) (texts a ++ r)
    (texts b ++ s) (sym (behind x a r) ∙ (e ∙ behind y b s)) in
    let rest = fronts_of_text junctions tanks a b (All-tail P x a are_a) (All-tail P y b are_b) r s first.1
    (omega (arith, le)) in
    (rest.0, ap₂ (λ z zs. z ∷ zs) (sym first.0) rest.1)
