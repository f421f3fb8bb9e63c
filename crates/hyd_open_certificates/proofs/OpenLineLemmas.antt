-- Lines of certificate texts of version 4, and the words into which they are split.
use Rattle.std.proofs.Common.{◌≡◌, ◌≢◌, ℕ, ◌+◌, ◌<◌, ◌^◌, List, [], ◌∷◌, ◌++◌, length, length-append, Option, refl}
use Rattle.std.proofs.Common.{sym, ap, ap₂, subst, ◌∙◌, codes, append_assoc, inl, inr, arith, rules}
use Rattle.std.specs.Fmt.{decimal}
use Rattle.std.proofs.lemmas.Fmt.{decimal_digit}
use Rattle.std.proofs.lemmas.List.{append_cancel_left}
use Rattle.hyd_io.specs.DeskBytes.{prepend_known}
use Rattle.hyd_io.proofs.MovedBytesLemmas.{prepend_known-prepend_known}
use Rattle.hyd_io.specs.declared.desk.Faults.{Faults}
use Rattle.hyd_theorems_on_definitions.proofs.CertificateLines.{header-short}
use Rattle.hyd_line_reader.specs.TextsWithoutLine.{HasNo}
use Rattle.hyd_line_reader.proofs.SplitTexts.{split-same}
use Rattle.hyd_cert.specs.Lines.{Header, header_words, IsEndLine}
use Rattle.hyd_cert.specs.Faults.{IsLineFault}
use Rattle.hyd_cert.specs.declared.answers_of_reader.CertFault.{CertFault}
use Rattle.hyd_cert.specs.declared.answers_of_reader.CertFault.TheVariants.{Read, Grammar, Count}
use Rattle.hyd_cert.proofs.LineLemmas.{decimal_free, wide_free, has_no_append, IsPiece, joined_pieces, number_piece}
use Rattle.hyd_cert.proofs.LineLemmas.{piece_line, next_is_line}
use Rattle.hyd_open_certificates.specs.OpenLines.{open_header, IsOpenHeaderLine, AreFiveSmall, IsOpenPeriodLine}
use Rattle.hyd_open_certificates.specs.OpenLines.{open_period_words}
use Rattle.hyd_open_certificates.specs.OpenPeriodOrEndLine.{IsOpenPeriodOrEnd}
use Rattle.hyd_open_certificates.specs.OpenFaults.{HasOpenHeader, HasOtherOpenHeader, IsOpenHeaderFault}

-- ---- the header line

pub four_known : decimal 4 ≡ codes "4"
four_known = decimal_digit 4 (omega arith)

-- a header line of version 4 is its front and the two counts
pub open_header_parts : (header : Header) (l : List ℕ) → IsOpenHeaderLine header l
    → l ≡ codes "HYDCERT 4 " ++ (decimal header.junctions ++ (32 ∷ decimal header.tanks))
open_header_parts header l p =
    let counts = decimal header.junctions ++ (32 ∷ decimal header.tanks) in
    p.is ∙ (ap (λ v. codes "HYDCERT " ++ (decimal v ++ (32 ∷ counts))) p.known
    ∙ ap (λ d. codes "HYDCERT " ++ (d ++ (32 ∷ counts))) four_known)

pub open_counts : (line counts l : List ℕ) (header : Header) → line ≡ codes "HYDCERT 4 " ++ counts
    → IsOpenHeaderLine header l → line ≡ l → counts ≡ decimal header.junctions ++ (32 ∷ decimal header.tanks)
open_counts line counts l header split p e = append_cancel_left (codes "HYDCERT 4 ") counts
    (decimal header.junctions ++ (32 ∷ decimal header.tanks)) (sym split ∙ (e ∙ open_header_parts header l p))

pub two_open_counts : (counts junctions tanks l : List ℕ) (header : Header) → HasNo 32 junctions
    → counts ≡ junctions ++ (32 ∷ tanks) → IsOpenHeaderLine header l
    → counts ≡ decimal header.junctions ++ (32 ∷ decimal header.tanks) → (junctions ≡ decimal header.junctions)
    × (tanks ≡ decimal header.tanks)
two_open_counts counts junctions tanks l header free parted p e =
    split-same 32 junctions (decimal header.junctions) tanks (decimal header.tanks) free
    (wide_free 32 header.junctions (omega arith) p.junctions_fit) (sym parted ∙ e)

-- a line of that front and two numbers is one
pub open_header_made : (line counts junctions tanks : List ℕ) → line ≡ codes "HYDCERT 4 " ++ counts
    → counts ≡ junctions ++ (32 ∷ tanks)
    → (n : ℕ) × ((n < 10 ^ 64) × (junctions ≡ decimal n)) → (n : ℕ) × ((n < 10 ^ 64) × (tanks ≡ decimal n))
    → length line < 64
    → (header : Header) × IsOpenHeaderLine header line
open_header_made line counts junctions tanks split parted n k short =
    let both = decimal n.0 ++ (32 ∷ decimal k.0) in (
      open_header n.0 k.0,
      record {
        known = refl;
        junctions_fit = n.1.0;
        tanks_fit = k.1.0;
        short = short;
        is = split ∙ (ap (λ t. codes "HYDCERT 4 " ++ t) (parted ∙ ap₂ (λ a b. a ++ (32 ∷ b)) n.1.1 k.1.1)
            ∙ sym (ap (λ d. codes "HYDCERT " ++ (d ++ (32 ∷ both))) four_known));
      },
    )

pub open_header_is_line : (header : Header) (l : List ℕ) → IsOpenHeaderLine header l → HasNo 10 l × (length l < 64)
open_header_is_line header l p =
    let counts = has_no_append 10 (decimal header.junctions) (32 ∷ decimal header.tanks)
    (wide_free 10 header.junctions (omega arith) p.junctions_fit)
    ((λ e. omega (arith, e)), wide_free 10 header.tanks (omega arith) p.tanks_fit) in (
      subst (HasNo 10) (sym (open_header_parts header l p)) (has_no_append 10 (codes "HYDCERT 4 ")
          (decimal header.junctions ++ (32 ∷ decimal header.tanks)) (search (rules, arith)) counts),
      p.short,
    )

-- counts below 2^32 make one
pub open_header_is : (junctions tanks : ℕ) → junctions < 2 ^ 32 → tanks < 2 ^ 32
    → IsOpenHeaderLine (open_header junctions tanks) (header_words (open_header junctions tanks))
open_header_is junctions tanks n k =
    let whole = length-append (header_words (open_header junctions tanks)) (10 ∷ []) in
    let fits = header-short 4 junctions tanks (omega arith) n k in
    record {
      known = refl;
      junctions_fit = omega (arith, n);
      tanks_fit = omega (arith, k);
      short = omega (arith, whole, fits);
      is = refl;
    }

-- a text that begins with one
pub begins_open : (header : Header) (held first more : List ℕ) (old new : Option (List ℕ))
    → IsOpenHeaderLine header first → held ≡ first ++ (10 ∷ more) → prepend_known held new ≡ old → HasOpenHeader old
begins_open header held first more old new is split same = record {
  header = header;
  line = first;
  rest = prepend_known more new;
  is_header = is;
  begins = sym same ∙ (ap (λ h. prepend_known h new) (split ∙ sym (append_assoc first (10 ∷ []) more))
      ∙ sym (prepend_known-prepend_known new (first ++ (10 ∷ [])) more));
}

-- with one of other counts
pub begins_with_other : (header other : Header) (held first more : List ℕ) (old new : Option (List ℕ))
    → IsOpenHeaderLine other first → first ≢ header_words header
    → held ≡ first ++ (10 ∷ more) → prepend_known held new ≡ old → HasOtherOpenHeader header old
unfolding begins_open
begins_with_other header other held first more old new is apart split same = record {
  begins = begins_open other held first more old new is split same;
  apart = λ e. apart (is.is ∙ ap header_words e);
}

-- a fault of all lines is one of the header line
pub open_header_fault_of : (header : Header) (line : ℕ) (text : Option (List ℕ)) (before now : Faults)
    (fault : CertFault) → IsLineFault (λ l. HasNo 10 l × (length l < 64)) line text before now fault
    → IsOpenHeaderFault header line text before now fault
open_header_fault_of header line text before now Read h = h
open_header_fault_of header line text before now (Count number) h = absurd h
open_header_fault_of header line text before now (Grammar number) h =
    (h.0, λ other l rest is. h.1 l rest (open_header_is_line other l is), h.2)

-- ---- the PERIOD line

pub open_period_parts : (line rest l : List ℕ) → line ≡ codes "PERIOD " ++ rest → (p : IsOpenPeriodLine l) → line ≡ l
    → rest ≡ decimal p.number ++ (32 ∷ (decimal p.time ++ (32 ∷ (decimal p.late ++ (32 ∷ (decimal p.shortest
    ++ (32 ∷ decimal p.longest)))))))
open_period_parts line rest l split p e = append_cancel_left (codes "PERIOD ") rest
    (decimal p.number ++ (32 ∷ (decimal p.time ++ (32 ∷ (decimal p.late ++ (32 ∷ (decimal p.shortest
    ++ (32 ∷ decimal p.longest))))))))
    (sym split ∙ (e ∙ p.is))

-- what follows the first number of a text is one
pub number_cut : (text r s : List ℕ) (a b : ℕ) → a < 2 ^ 32 → b < 2 ^ 32 → text ≡ decimal a ++ (32 ∷ r)
    → text ≡ decimal b ++ (32 ∷ s) → r ≡ s
number_cut text r s a b fits_a fits_b e f = (split-same 32 (decimal a) (decimal b) r s (decimal_free 32 a (omega arith)
    (omega (arith, fits_a))) (decimal_free 32 b (omega arith) (omega (arith, fits_b))) (sym e ∙ f)).1

pub open_period_is : (number time late shortest longest : ℕ) → AreFiveSmall number time late shortest longest
    → IsOpenPeriodLine (open_period_words number time late shortest longest)
open_period_is number time late shortest longest fit = record {
  number = number;
  time = time;
  late = late;
  shortest = shortest;
  longest = longest;
  fit = fit;
  is = refl;
}

number_then : (a n : ℕ) (b : List ℕ) → a < 2 ^ 32 → IsPiece b n → IsPiece (decimal a ++ (32 ∷ b)) (10 + (1 + n))
number_then a n b fits is = joined_pieces (decimal a) (32 ∷ b) 10 (1 + n) (number_piece a fits) (record {
  free = (λ e. omega (arith, e), is.free);
  short = (let h = is.short in omega (arith, h));
})

pub open_next_is_line : (l : List ℕ) → IsOpenPeriodOrEnd l → HasNo 10 l × (length l < 64)
open_next_is_line l (inl p) =
    let f = p.fit in
    let lengths = number_then p.shortest 10 (decimal p.longest) f.shortest_fits
    (number_piece p.longest f.longest_fits) in
    let behind_late = number_then p.late 21 _ f.late_fits lengths in
    let behind_time = number_then p.time 32 _ f.time_fits behind_late in
    let numbers = number_then p.number 43 _ f.number_fits behind_time in
    piece_line l (codes "PERIOD " ++ (decimal p.number ++ (32 ∷ (decimal p.time ++ (32 ∷ (decimal p.late
    ++ (32 ∷ (decimal p.shortest ++ (32 ∷ decimal p.longest))))))))) 61 p.is (omega arith)
    (joined_pieces (codes "PERIOD ") _ 7 54 (record {
      free = search (rules, arith);
      short = search (rules, arith);
    }) numbers)
open_next_is_line l (inr p) = next_is_line l (inr p)

pub none_of_both : (line : List ℕ) → ((l : List ℕ) → IsOpenPeriodLine l → line ≢ l)
    → ((l : List ℕ) → IsEndLine l → line ≢ l) → (l : List ℕ) → IsOpenPeriodOrEnd l → line ≢ l
none_of_both line a b l (inl p) e = a l p e
none_of_both line a b l (inr p) e = b l p e
