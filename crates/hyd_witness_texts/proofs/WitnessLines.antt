-- The lines of a witness: they have no line feed, and they are short.
use Rattle.std.proofs.Common.{◌≡◌, ℕ, suc, ◌+◌, ◌<◌, ◌≤◌, ◌^◌, ℤ, pos, negsuc, List, [], ◌∷◌, ◌++◌, length, refl, sym}
use Rattle.std.proofs.Common.{ap, ap₂, subst, ◌∙◌, codes, arith, rules, inl, inr, ◌≢◌, ◌==◌, false, true}
use Rattle.std.specs.Fmt.{decimal, signed_decimal}
use Rattle.std.proofs.lemmas.Bool.Decides.{Decides-eqb}
use Rattle.std.proofs.lemmas.Fmt.{decimal_digit, length-decimal-le_wide}
use Rattle.std.proofs.lemmas.List.{append_cancel_left}
use Rattle.std.proofs.Math.Nat.{pow-le-pow_right}
use Rattle.hyd_spec_certificates.specs.CertificateText.{words}
use Rattle.hyd_spec_witnesses.specs.WitnessText.{Counts, IsScale, IsValue}
use Rattle.hyd_line_reader.specs.TextsWithoutLine.{HasNo}
use Rattle.hyd_cert.specs.Lines.{IsPeriodLine}
use Rattle.hyd_theorems_on_definitions.proofs.CertificateLines.{decimal-same}
use Rattle.hyd_line_reader.proofs.SplitTexts.{split-same, has_none}
use Rattle.hyd_cert.proofs.LineLemmas.{IsPiece, joined_pieces, number_piece, piece_line, wide_free, next_is_line}
use Rattle.hyd_witness_texts.specs.Lines.{IsHeaderLine, IsValueLine, IsStockLine, header_words}
use Rattle.hyd_witness_texts.specs.PeriodOrEndLine.{IsPeriodOrEnd, end_words}

abbrev pub IsLineOfText : List ℕ → Type 0
IsLineOfText l = HasNo 10 l × (length l < 64)

space_piece : (b : List ℕ) (n : ℕ) → IsPiece b n → IsPiece (32 ∷ b) (1 + n)
space_piece b n is = record {
  free = (λ e. omega (arith, e), is.free);
  short = (let h = is.short in omega (arith, h));
}

-- ---- values

magnitude_piece : (n : ℕ) → n ≤ 10 ^ 24 → IsPiece (decimal n) 25
magnitude_piece n low = record {
  free = wide_free 10 n (omega arith) (omega (arith, low));
  short = length-decimal-le_wide 25 n (omega arith) (omega (arith, low)) (omega (arith, low));
}

pub value_piece : (v : ℤ) → IsValue v → IsPiece (signed_decimal v) 26
value_piece (pos n) is = let k = magnitude_piece n is in record {
  free = k.free;
  short = (let h = k.short in omega (arith, h));
}
value_piece (negsuc n) is = let k = magnitude_piece (suc n) is in record {
  free = (λ e. omega (arith, e), k.free);
  short = (let h = k.short in omega (arith, h));
}

pub value_is_line : (key : ℕ) (l : List ℕ) → (key ≡ 10 → ⊥) → IsValueLine (key ∷ []) l → IsLineOfText l
value_is_line key l apart p =
    piece_line l (key ∷ (32 ∷ signed_decimal p.value)) 28 p.is (omega arith) (record {
      free = (apart, ((λ e. omega (arith, e)), (value_piece p.value p.fits).free));
      short = (let h = (value_piece p.value p.fits).short in omega (arith, h));
    })

pub stock_is_line : (l : List ℕ) → IsStockLine l → IsLineOfText l
stock_is_line l p =
    piece_line l (codes "L " ++ (signed_decimal p.level ++ (32 ∷ signed_decimal p.volume))) 55 p.is (omega arith)
    (joined_pieces (codes "L ") _ 2 53 (record { free = search (rules, arith); short = search (rules, arith) })
    (joined_pieces (signed_decimal p.level) (32 ∷ signed_decimal p.volume) 26 27 (value_piece p.level p.level_fits)
    (space_piece (signed_decimal p.volume) 26 (value_piece p.volume p.volume_fits))))

-- ---- PERIOD lines and END lines

pub end_is_line : (periods : ℕ) → periods < 2 ^ 32 → IsLineOfText (end_words periods)
end_is_line periods fits = piece_line (end_words periods) (codes "END " ++ decimal periods) 14 refl (omega arith)
    (joined_pieces (codes "END ") (decimal periods) 4 10 (record {
      free = search (rules, arith);
      short = search (rules, arith);
    }) (number_piece periods fits))

pub next_line_is_line : (periods : ℕ) → periods < 2 ^ 32 → (l : List ℕ) → IsPeriodOrEnd periods l → IsLineOfText l
next_line_is_line periods fits l (inl p) = next_is_line l (inl p.0)
next_line_is_line periods fits l (inr e) = subst IsLineOfText (sym e) (end_is_line periods fits)

-- neither a PERIOD line nor the END line
pub no_period_or_end : (periods : ℕ) (line : List ℕ) → ((l : List ℕ) → IsPeriodLine l → line ≢ l)
    → line ≢ end_words periods → (l : List ℕ) → IsPeriodOrEnd periods l → line ≢ l
no_period_or_end periods line no_period no_end l (inl p) e = no_period l p.0 e
no_period_or_end periods line no_period no_end l (inr same) e = no_end (e ∙ same)

-- the END line of another number
pub other_end : (line word : List ℕ) (number periods : ℕ) → number < 2 ^ 32 → periods < 2 ^ 32
    → line ≡ codes "END " ++ word → word ≡ decimal number → (number == periods) ≡ false → line ≢ end_words periods
other_end line word number periods fits fits' split spelled apart e =
    let digits : word ≡ decimal periods = append_cancel_left (codes "END ") word (decimal periods) (sym split ∙ e) in
    let same = decimal-same number periods (omega (arith, fits)) (omega (arith, fits')) (sym spelled ∙ digits) in
    let alike : (number == periods) ≡ true = (Decides-eqb number periods).1 same in absurd (cc (alike, apart))

-- ---- levels and volumes

pub value_free : (v : ℤ) → IsValue v → HasNo 32 (signed_decimal v)
value_free (pos n) fits = wide_free 32 n (omega arith) (omega (arith, fits))
value_free (negsuc n) fits = (λ e. omega (arith, e), wide_free 32 (suc n) (omega arith) (omega (arith, fits)))

pub stock_parts : (line rest l : List ℕ) → line ≡ codes "L " ++ rest → (p : IsStockLine l) → line ≡ l
    → rest ≡ signed_decimal p.level ++ (32 ∷ signed_decimal p.volume)
stock_parts line rest l split p e = append_cancel_left (codes "L ") rest
    (signed_decimal p.level ++ (32 ∷ signed_decimal p.volume)) (sym split ∙ (e ∙ p.is))

pub no_stock_space : (line rest l : List ℕ) → line ≡ codes "L " ++ rest → HasNo 32 rest → IsStockLine l → line ≢ l
no_stock_space line rest l split free p e = has_none 32 (signed_decimal p.level) (signed_decimal p.volume)
    (subst (HasNo 32) (stock_parts line rest l split p e) free)

pub stock_words_same : (line rest first second l : List ℕ) → line ≡ codes "L " ++ rest → HasNo 32 first
    → rest ≡ first ++ (32 ∷ second) → (p : IsStockLine l) → line ≡ l
    → (first ≡ signed_decimal p.level) × (second ≡ signed_decimal p.volume)
stock_words_same line rest first second l split free parted p e =
    split-same 32 first (signed_decimal p.level) second (signed_decimal p.volume) free
    (value_free p.level p.level_fits) (sym parted ∙ stock_parts line rest l split p e)

-- ---- the header line

pub scale_low : (s : ℕ) → IsScale s → s ≤ 1024
scale_low s is =
    let le = pow-le-pow_right {n = 2} (omega arith) {i = is.power} {j = 10} is.at_most in let same = is.is_power in
    omega (arith, le, same)

-- decimal 1 has one digit; the scale four at most
scale_piece : (s : ℕ) → s ≤ 1024 → IsPiece (decimal s) 4
scale_piece s low = record {
  free = wide_free 10 s (omega arith) (omega (arith, low));
  short = length-decimal-le_wide 4 s (omega arith) (omega (arith, low)) (omega (arith, low));
}

one_piece : IsPiece (decimal 1) 1
one_piece = record {
  free = wide_free 10 1 (omega arith) (omega arith);
  short = length-decimal-le_wide 1 1 (omega arith) (omega arith) (omega arith);
}

abbrev pub counts_words : Counts → List ℕ
counts_words counts =
    words (decimal counts.junctions ∷ (decimal counts.links ∷ (decimal counts.tanks ∷ [])))

counts_piece : (counts : Counts) → counts.junctions < 2 ^ 32 → counts.links < 2 ^ 32 → counts.tanks < 2 ^ 32
    → IsPiece (counts_words counts) 32
counts_piece counts n m k =
    joined_pieces (decimal counts.junctions) (32 ∷ (decimal counts.links ++ (32 ∷ decimal counts.tanks))) 10 22
    (number_piece counts.junctions n)
    (space_piece (decimal counts.links ++ (32 ∷ decimal counts.tanks)) 21
    (joined_pieces (decimal counts.links) (32 ∷ decimal counts.tanks) 10 11 (number_piece counts.links m)
    (space_piece (decimal counts.tanks) 10 (number_piece counts.tanks k))))

-- a header line without its first word
abbrev pub header_tail : ℕ → Counts → List ℕ
header_tail s counts = decimal s ++ (32 ∷ counts_words counts)

pub header_is_line : (counts : Counts) → counts.junctions < 2 ^ 32 → counts.links < 2 ^ 32 → counts.tanks < 2 ^ 32
    → (l : List ℕ) → IsHeaderLine counts l → IsLineOfText l
header_is_line counts n m k l p =
    piece_line l (codes "HYDWIT " ++ (decimal 1 ++ (32 ∷ header_tail p.scale counts))) 46 p.is (omega arith)
    (joined_pieces (codes "HYDWIT ") (decimal 1 ++ (32 ∷ header_tail p.scale counts)) 7 39 (record {
      free = search (rules, arith);
      short = search (rules, arith);
    }) (joined_pieces (decimal 1) (32 ∷ header_tail p.scale counts) 1 38 one_piece
    (space_piece (header_tail p.scale counts) 37
    (joined_pieces (decimal p.scale) (32 ∷ counts_words counts) 4 33 (scale_piece p.scale (scale_low p.scale
    p.is_scale))
    (space_piece (counts_words counts) 32 (counts_piece counts n m k))))))

one_known : decimal 1 ≡ codes "1"
one_known = decimal_digit 1 (omega arith)

-- a header line begins so
pub header_front : (s : ℕ) (counts : Counts) → header_words s counts ≡ codes "HYDWIT 1 " ++ header_tail s counts
header_front s counts = ap (λ v. codes "HYDWIT " ++ (v ++ (32 ∷ header_tail s counts))) one_known

pub header_parts : (line rest l : List ℕ) (counts : Counts) → line ≡ codes "HYDWIT 1 " ++ rest
    → (p : IsHeaderLine counts l) → line ≡ l → rest ≡ header_tail p.scale counts
header_parts line rest l counts split p e = append_cancel_left (codes "HYDWIT 1 ") rest (header_tail p.scale counts)
    (sym split ∙ (e ∙ (p.is ∙ header_front p.scale counts)))

pub header_begins : (line l : List ℕ) (counts : Counts) → ((rest : List ℕ) → line ≢ codes "HYDWIT 1 " ++ rest)
    → IsHeaderLine counts l → line ≢ l
header_begins line l counts none p e = none (header_tail p.scale counts) (e ∙ (p.is ∙ header_front p.scale counts))

pub no_header_space : (line rest l : List ℕ) (counts : Counts) → line ≡ codes "HYDWIT 1 " ++ rest → HasNo 32 rest
    → IsHeaderLine counts l → line ≢ l
no_header_space line rest l counts split free p e = has_none 32 (decimal p.scale) (counts_words counts)
    (subst (HasNo 32) (header_parts line rest l counts split p e) free)

pub header_words_same : (line rest word others l : List ℕ) (counts : Counts) → line ≡ codes "HYDWIT 1 " ++ rest
    → HasNo 32 word → rest ≡ word ++ (32 ∷ others) → (p : IsHeaderLine counts l) → line ≡ l
    → (word ≡ decimal p.scale) × (others ≡ counts_words counts)
header_words_same line rest word others l counts split free parted p e =
    let low = scale_low p.scale p.is_scale in
    split-same 32 word (decimal p.scale) others (counts_words counts) free
    (wide_free 32 p.scale (omega arith) (omega (arith, low))) (sym parted ∙ header_parts line rest l counts split p e)

-- a line of these parts is a header line
pub header_made : (line rest word others : List ℕ) (s : ℕ) (counts : Counts) → line ≡ codes "HYDWIT 1 " ++ rest
    → rest ≡ word ++ (32 ∷ others) → word ≡ decimal s → others ≡ counts_words counts → line ≡ header_words s counts
header_made line rest word others s counts split parted is same =
    split ∙ (ap (λ r. codes "HYDWIT 1 " ++ r) (parted ∙ ap₂ (λ w o. w ++ (32 ∷ o)) is same)
    ∙ sym (header_front s counts))
