-- Lines and the words into which they are split.
use Rattle.std.proofs.Common.{◌≡◌, ◌≢◌, ℕ, suc, ◌+◌, ◌<◌, ◌≤◌, ◌^◌, ℤ, pos, negsuc, Option, Some, None, IfNone, Bool}
use Rattle.std.proofs.Common.{true, false, List, [], ◌∷◌, ◌++◌, length, refl, sym, ap, ap₂, subst, ◌⊎◌, ◌∙◌, codes}
use Rattle.std.proofs.Common.{append_assoc, length-append, arith, rules, inl, inr}
use Rattle.std.specs.Fmt.{decimal, signed_decimal}
use Rattle.std.specs.Str.Parse.{AllDigits}
use Rattle.std.proofs.lemmas.Fmt.{decimal_digit, decimal_is_IsNumeral_wide, length_signed_le, length-decimal-le}
use Rattle.std.proofs.lemmas.Str.Parse.{digit_from_value}
use Rattle.std.proofs.lemmas.Int.{ints}
use Rattle.std.proofs.lemmas.List.{append_cancel_left}
use Rattle.hyd_spec_certificates.specs.Certificate.{IsInBox}
use Rattle.hyd_line_reader.specs.TextsWithoutLine.{HasNo}
use Rattle.hyd_io.specs.DeskBytes.{prepend_known}
use Rattle.hyd_io.specs.declared.desk.Faults.{Faults}
use Rattle.hyd_cert.specs.declared.answers_of_reader.CertFault.{CertFault}
use Rattle.hyd_cert.specs.declared.answers_of_reader.CertFault.TheVariants.{Read, Grammar, Count}
use lib.Signed.{mag}
use Rattle.hyd_cert.specs.PlacesOfLines.{Lacks}
use Rattle.hyd_cert.specs.Faults.{IsFront, IsLineFault}
use Rattle.hyd_cert.specs.PeriodOrEndLine.{IsPeriodOrEnd}
use Rattle.hyd_cert.specs.Lines.{Header, IsHeadLine, IsPeriodLine, IsEndLine, IsHeaderLine, end_word}
use Rattle.hyd_lemmas.proofs.ListsOptionsAndResults.{same_item}
use Rattle.hyd_line_reader.proofs.Numerals.{short_numeral}
use Rattle.hyd_line_reader.proofs.SplitTexts.{split-same, has_none}

-- ---- numerals have digits alone

digits_free : (byte : ℕ) → byte < 48 → (ds : List ℕ) → AllDigits 10 ds → HasNo byte ds
digits_free byte low [] all = tt
digits_free byte low (d ∷ ds) all = (
  let k = digit_from_value d all.0 in
      λ e. omega (arith, k.0, e),
  digits_free byte low ds all.1,
)

pub decimal_free : (byte n : ℕ) → byte < 48 → n < 10 ^ 19 → HasNo byte (decimal n)
decimal_free byte n low fits = digits_free byte low (decimal n) (short_numeral (decimal n) n fits refl).digits

pub wide_free : (byte n : ℕ) → byte < 48 → n < 10 ^ 64 → HasNo byte (decimal n)
wide_free byte n low fits = digits_free byte low (decimal n) (decimal_is_IsNumeral_wide n fits).0.1

pub head_free : (byte : ℕ) (h : ℤ) → byte < 45 → IsInBox h → HasNo byte (signed_decimal h)
head_free byte (pos n) low box = decimal_free byte n (omega arith) (let b = box.below_ceiling in omega (arith, ints, b))
head_free byte (negsuc n) low box = (
  λ e. omega (arith, e),
  decimal_free byte (suc n) (omega arith)
      (let b = box.above_floor in omega (arith, ints, b)),
)

-- ---- a numeral before a space

pub first_number : (text word rest more : List ℕ) (n : ℕ) → n < 2 ^ 32 → HasNo 32 word → text ≡ word ++ (32 ∷ rest)
    → text ≡ decimal n ++ (32 ∷ more)
    → (word ≡ decimal n) × (rest ≡ more)
first_number text word rest more n fits free split e =
    split-same 32 word (decimal n) rest more free (decimal_free 32 n (omega arith) (omega arith)) (sym split ∙ e)

pub no_space : (text more : List ℕ) (n : ℕ) → HasNo 32 text → text ≡ decimal n ++ (32 ∷ more) → ⊥
no_space text more n free e = has_none 32 (decimal n) more (subst (HasNo 32) e free)

-- ---- lines of three numbers

pub period_parts : (line rest l : List ℕ) → line ≡ codes "PERIOD " ++ rest → (p : IsPeriodLine l) → line ≡ l
    → rest ≡ decimal p.number ++ (32 ∷ (decimal p.time ++ (32 ∷ decimal p.length)))
period_parts line rest l split p e =
    append_cancel_left (codes "PERIOD ") rest (decimal p.number ++ (32 ∷ (decimal p.time ++ (32 ∷ decimal p.length))))
    (sym split ∙ (e ∙ p.is))

pub header_parts : (line rest l : List ℕ) (header : Header) → line ≡ codes "HYDCERT " ++ rest
    → (p : IsHeaderLine header l) → line ≡ l
    → rest ≡ decimal header.version ++ (32 ∷ (decimal header.junctions ++ (32 ∷ decimal header.tanks)))
header_parts line rest l header split p e =
    append_cancel_left (codes "HYDCERT ") rest (decimal header.version
    ++ (32 ∷ (decimal header.junctions ++ (32 ∷ decimal header.tanks)))) (sym split ∙ (e ∙ p.is))

pub end_parts : (line rest l : List ℕ) → line ≡ codes "END " ++ rest → (p : IsEndLine l) → line ≡ l
    → rest ≡ decimal p.periods ++ (32 ∷ end_word p.finished)
end_parts line rest l split p e = append_cancel_left (codes "END ") rest
    (decimal p.periods ++ (32 ∷ end_word p.finished)) (sym split ∙ (e ∙ p.is))

pub end_word_known : (word : List ℕ) (finished : Bool) → word ≢ codes "FINISHED" → word ≢ codes "STOPPED"
    → word ≡ end_word finished → ⊥
end_word_known word true a b e = a e
end_word_known word false a b e = b e

pub head_rest : (line front word : List ℕ) (o : Option ℤ) → line ≡ front ++ word
    → IfNone o ((h : ℤ) → IsInBox h → word ≢ signed_decimal h)
    → IfNone o ((l : List ℕ) → IsHeadLine front l → line ≢ l)
head_rest line front word (Some h) split other = tt
head_rest line front word None split other = λ l p e. other p.head p.in_box
    (append_cancel_left front word (signed_decimal p.head) (sym split ∙ (e ∙ p.is)))

-- ---- header lines

pub known_short : (header : Header) → (header.version ≡ 1) ⊎ (header.version ≡ 2) → header.version < 10 ^ 64
known_short header (inl e) = omega (arith, e)
known_short header (inr e) = omega (arith, e)

-- the first of the three numbers is the version, and the others follow
pub first_counts : (line rest version counts l : List ℕ) (header : Header) → line ≡ codes "HYDCERT " ++ rest
    → HasNo 32 version → rest ≡ version ++ (32 ∷ counts)
    → (p : IsHeaderLine header l) → line ≡ l → (version ≡ decimal header.version)
    × (counts ≡ decimal header.junctions ++ (32 ∷ decimal header.tanks))
first_counts line rest version counts l header split free parted p e =
    split-same 32 version (decimal header.version) counts (decimal header.junctions ++ (32 ∷ decimal header.tanks)) free
    (wide_free 32 header.version (omega arith) (known_short header p.known))
    (sym parted ∙ header_parts line rest l header split p e)

-- and then those two
pub two_counts : (counts junctions tanks l : List ℕ) (header : Header) → HasNo 32 junctions
    → counts ≡ junctions ++ (32 ∷ tanks) → IsHeaderLine header l
    → counts ≡ decimal header.junctions ++ (32 ∷ decimal header.tanks) → (junctions ≡ decimal header.junctions)
    × (tanks ≡ decimal header.tanks)
two_counts counts junctions tanks l header free parted p e =
    split-same 32 junctions (decimal header.junctions) tanks (decimal header.tanks) free
    (wide_free 32 header.junctions (omega arith) p.junctions_fit) (sym parted ∙ e)

pub no_first_space : (line rest l : List ℕ) (header : Header) → line ≡ codes "HYDCERT " ++ rest → HasNo 32 rest
    → IsHeaderLine header l → line ≡ l → ⊥
no_first_space line rest l header split free p e =
    has_none 32 (decimal header.version) (decimal header.junctions ++ (32 ∷ decimal header.tanks))
    (subst (HasNo 32) (header_parts line rest l header split p e) free)

pub no_second_space : (counts : List ℕ) (header : Header) → HasNo 32 counts → counts ≡ decimal header.junctions
    ++ (32 ∷ decimal header.tanks) → ⊥
no_second_space counts header free e = has_none 32 (decimal header.junctions) (decimal header.tanks)
    (subst (HasNo 32) e free)

pub one_known : decimal 1 ≡ codes "1"
one_known = decimal_digit 1 (omega arith)

pub two_known : decimal 2 ≡ codes "2"
two_known = decimal_digit 2 (omega arith)

pub version_known : (word : List ℕ) (version : ℕ) → (version ≡ 1) ⊎ (version ≡ 2) → word ≡ decimal version
    → word ≢ codes "1" → word ≢ codes "2" → ⊥
version_known word version (inl e) is a b = a (is ∙ (ap decimal e ∙ one_known))
version_known word version (inr e) is a b = b (is ∙ (ap decimal e ∙ two_known))

-- a line of a version and two numbers is a header line
pub header_made : (line rest version counts junctions tanks : List ℕ) → line ≡ codes "HYDCERT " ++ rest
    → rest ≡ version ++ (32 ∷ counts)
    → (version ≡ codes "1") ⊎ (version ≡ codes "2") → counts ≡ junctions ++ (32 ∷ tanks)
    → (n : ℕ) × ((n < 10 ^ 64) × (junctions ≡ decimal n)) → (n : ℕ) × ((n < 10 ^ 64) × (tanks ≡ decimal n))
    → length line < 64
    → (header : Header) × IsHeaderLine header line
header_made line rest version counts junctions tanks split parted (inl is) two n k short = (
  record { version = 1; junctions = n.0; tanks = k.0 },
  record {
    known = inl refl;
    junctions_fit = n.1.0;
    tanks_fit = k.1.0;
    short = short;
    is = split ∙ ap (λ t. codes "HYDCERT " ++ t) (parted ∙ ap₂ (λ v c. v ++ (32 ∷ c)) (is ∙ sym one_known)
        (two ∙ ap₂ (λ a b. a ++ (32 ∷ b)) n.1.1 k.1.1));
  },
)
header_made line rest version counts junctions tanks split parted (inr is) two n k short = (
  record { version = 2; junctions = n.0; tanks = k.0 },
  record {
    known = inr refl;
    junctions_fit = n.1.0;
    tanks_fit = k.1.0;
    short = short;
    is = split ∙ ap (λ t. codes "HYDCERT " ++ t) (parted ∙ ap₂ (λ v c. v ++ (32 ∷ c)) (is ∙ sym two_known)
        (two ∙ ap₂ (λ a b. a ++ (32 ∷ b)) n.1.1 k.1.1));
  },
)

-- ---- lines that begin a text

mag-below : (h : ℤ) → IsInBox h → mag h ≤ 10 ^ 18
mag-below (pos n) box = let b = box.below_ceiling in omega (arith, ints, b)
mag-below (negsuc n) box = let b = box.above_floor in omega (arith, ints, b)

pub has_no_append : (byte : ℕ) (a b : List ℕ) → HasNo byte a → HasNo byte b → HasNo byte (a ++ b)
has_no_append byte [] b free_a free_b = free_b
has_no_append byte (x ∷ a) b free_a free_b = (free_a.0, has_no_append byte a b free_a.1 free_b)

pub head_is_line : (front l : List ℕ) → IsFront front → IsHeadLine front l → HasNo 10 l × (length l < 64)
head_is_line front l is p =
    let low = mag-below p.head p.in_box in
    let short = length_signed_le 19 p.head (omega (arith, low)) (omega (arith, low)) in
    let sum = length-append front (signed_decimal p.head) in
    let len : length l ≡ length (front ++ signed_decimal p.head) = ap length p.is in (
      subst (HasNo 10) (sym p.is) (has_no_append 10 front (signed_decimal p.head) is.one_line
          (head_free 10 p.head (omega arith) p.in_box)),
      omega (arith, short, sum, len, is.short),
    )

-- a fault of all lines is one of such lines
pub line_fault_of : (IsSuch IsOther : List ℕ → Type 0) (line : ℕ) (text : Option (List ℕ)) (before now : Faults)
    (fault : CertFault) → ((l : List ℕ) → IsOther l → IsSuch l)
    → IsLineFault IsSuch line text before now fault → IsLineFault IsOther line text before now fault
line_fault_of IsSuch IsOther line text before now Read all h = h
line_fault_of IsSuch IsOther line text before now (Grammar number) all h =
    (h.0, λ l rest is. h.1 l rest (all l is), h.2)
line_fault_of IsSuch IsOther line text before now (Count number) all h = h

-- a text that begins with another line
pub other_lacks : (IsSuch : List ℕ → Type 0) (held first more : List ℕ) (old new : Option (List ℕ))
    → ((l : List ℕ) → IsSuch l → HasNo 10 l × (length l < 64))
    → held ≡ first ++ (10 ∷ more) → HasNo 10 first → ((l : List ℕ) → IsSuch l → first ≢ l)
    → prepend_known held new ≡ old → Lacks IsSuch old
other_lacks IsSuch held first more old None lines split free apart same l after is e = absurd (cc (same, e))
other_lacks IsSuch held first more old (Some known) lines split free apart same l after is e =
    let whole : held ++ known ≡ l ++ (10 ∷ after) = same_item _ (held ++ known) (l ++ (10 ∷ after)) (same ∙ e) in
    let text : first ++ (10 ∷ (more ++ known)) ≡ l ++ (10 ∷ after) = sym (append_assoc first (10 ∷ more) known)
    ∙ (ap (λ h. h ++ known) (sym split) ∙ whole) in
    apart l is (split-same 10 first l (more ++ known) after free (lines l is).0 text).0

-- ---- lines of numbers

pub record IsPiece (text : List ℕ) (most : ℕ) : Type 0 where
  pub free : HasNo 10 text
  pub short : length text ≤ most

pub joined_pieces : (a b : List ℕ) (m n : ℕ) → IsPiece a m → IsPiece b n → IsPiece (a ++ b) (m + n)
joined_pieces a b m n is_a is_b = record {
  free = has_no_append 10 a b is_a.free is_b.free;
  short = (let sum = length-append a b in omega (arith, sum, is_a.short, is_b.short));
}

pub number_piece : (n : ℕ) → n < 2 ^ 32 → IsPiece (decimal n) 10
number_piece n fits = record {
  free = decimal_free 10 n (omega arith) (omega arith);
  short = length-decimal-le 10 n (omega arith) (omega arith) (omega arith);
}

space_piece : (b : List ℕ) (n : ℕ) → IsPiece b n → IsPiece (32 ∷ b) (1 + n)
space_piece b n is_b = record {
  free = (λ e. omega (arith, e), is_b.free);
  short = (let h = is_b.short in omega (arith, h));
}

two_numbers : (b d : ℕ) → b < 2 ^ 32 → d < 2 ^ 32 → IsPiece (decimal b ++ (32 ∷ decimal d)) 21
two_numbers b d fits_b fits_d = joined_pieces (decimal b) (32 ∷ decimal d) 10 11 (number_piece b fits_b)
    (space_piece (decimal d) 10 (number_piece d fits_d))

numbers_piece : (a b d : ℕ) → a < 2 ^ 32 → b < 2 ^ 32 → d < 2 ^ 32
    → IsPiece (decimal a ++ (32 ∷ (decimal b ++ (32 ∷ decimal d)))) 32
numbers_piece a b d fits_a fits_b fits_d =
    joined_pieces (decimal a) (32 ∷ (decimal b ++ (32 ∷ decimal d))) 10 22 (number_piece a fits_a)
    (space_piece (decimal b ++ (32 ∷ decimal d)) 21 (two_numbers b d fits_b fits_d))

word_piece : (finished : Bool) → IsPiece (end_word finished) 8
word_piece true = record { free = search (rules, arith); short = search (rules, arith) }
word_piece false = record { free = search (rules, arith); short = search (rules, arith) }

pub piece_line : (l text : List ℕ) (most : ℕ) → l ≡ text → most < 64 → IsPiece text most → HasNo 10 l × (length l < 64)
piece_line l text most e small is = (
  subst (HasNo 10) (sym e) is.free,
  (let same : length l ≡ length text = ap length e in
      omega (arith, same, is.short)),
)

pub header_is_line : (header : Header) (l : List ℕ) → IsHeaderLine header l → HasNo 10 l × (length l < 64)
header_is_line header l p =
    let counts = has_no_append 10 (decimal header.junctions) (32 ∷ decimal header.tanks)
    (wide_free 10 header.junctions (omega arith) p.junctions_fit)
    ((λ e. omega (arith, e)), wide_free 10 header.tanks (omega arith) p.tanks_fit) in
    let numbers = has_no_append 10 (decimal header.version) (32
    ∷ (decimal header.junctions ++ (32 ∷ decimal header.tanks)))
    (wide_free 10 header.version (omega arith) (known_short header p.known)) ((λ e. omega (arith, e)), counts) in (
      subst (HasNo 10) (sym p.is) (has_no_append 10 (codes "HYDCERT ") (decimal header.version
          ++ (32 ∷ (decimal header.junctions ++ (32 ∷ decimal header.tanks)))) (search (rules, arith)) numbers),
      p.short,
    )

pub next_is_line : (l : List ℕ) → IsPeriodOrEnd l → HasNo 10 l × (length l < 64)
next_is_line l (inl p) =
    piece_line l (codes "PERIOD " ++ (decimal p.number ++ (32 ∷ (decimal p.time ++ (32 ∷ decimal p.length))))) 39 p.is
    (omega arith)
    (joined_pieces (codes "PERIOD ") _ 7 32 (record {
      free = search (rules, arith);
      short = search (rules, arith);
    }) (numbers_piece p.number p.time p.length p.number_fits p.time_fits
    p.length_fits))
next_is_line l (inr p) =
    piece_line l (codes "END " ++ (decimal p.periods ++ (32 ∷ end_word p.finished))) 23 p.is (omega arith)
    (joined_pieces (codes "END ") _ 4 19 (record { free = search (rules, arith); short = search (rules, arith) })
    (joined_pieces (decimal p.periods) (32 ∷ end_word p.finished) 10 9 (number_piece p.periods p.periods_fit)
    (space_piece (end_word p.finished) 8 (word_piece p.finished))))

pub none_of_both : (line : List ℕ) → ((l : List ℕ) → IsPeriodLine l → line ≢ l)
    → ((l : List ℕ) → IsEndLine l → line ≢ l) → (l : List ℕ) → IsPeriodOrEnd l → line ≢ l
none_of_both line a b l (inl p) e = a l p e
none_of_both line a b l (inr p) e = b l p e
