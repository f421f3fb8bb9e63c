-- The heads of a record, one after another.
use Rattle.std.proofs.Common.{◌≡◌, ◌≢◌, ℕ, zero, suc, ◌+◌, ◌^◌, ◌<◌, ◌≤◌, ◌⊎◌, ℤ, Option, Some, List, [], ◌∷◌, ◌++◌}
use Rattle.std.proofs.Common.{length, length-append, take, slice_set, All, if◌then◌else◌, rules, refl, sym, ap, subst}
use Rattle.std.proofs.Common.{◌∙◌, append_assoc, arith, to_z, of_z, w64, inl, inr, codes, Bool, Result, Ok, Err, IfErr}
use Rattle.std.proofs.lemmas.Int.{ints}
use Rattle.std.specs.Fmt.{decimal, signed_decimal}
use Rattle.std.proofs.lemmas.List.{take_more_set, length-take-le}
use Rattle.std.proofs.lemmas.List.Elements.{All-push}
use Rattle.std.proofs.lemmas.Bool.Decides.{Decides-ltb}
use Rattle.hyd_io.specs.DeskBytes.{prepend_known}
use Rattle.hyd_io.proofs.MovedBytesLemmas.{prepend_known-prepend_known}
use Rattle.hyd_io.specs.declared.desk.Faults.{Faults}
use Rattle.hyd_io.specs.DeskCounts.{with_read_fault}
use Rattle.hyd_spec_certificates.specs.Certificate.{IsInBox}
use Rattle.hyd_cert.specs.declared.answers_of_reader.CertNext.{CertNext}
use Rattle.hyd_cert.specs.declared.answers_of_reader.CertFault.{CertFault}
use Rattle.hyd_cert.specs.declared.answers_of_reader.CertFault.TheVariants.{Read, Grammar, Count}
use Rattle.hyd_spec_certificates.specs.CertificateText.{words}
use Rattle.hyd_theorems_on_definitions.proofs.CertificateLines.{header-short}
use Rattle.hyd_line_reader.specs.TextsWithoutLine.{HasNo}
use Rattle.hyd_cert.proofs.LineLemmas.{header_is_line}
use Rattle.hyd_cert.specs.PeriodOrEndLine.{IsPeriodOrEnd}
use Rattle.hyd_cert.specs.Lines.{Header, IsHeaderLine, IsHeadLine, IsPeriodLine, IsEndLine, end_word}
use Rattle.hyd_cert.specs.PlacesOfLines.{Place, here, later, Head, Over, Between, First, CanStand, IsFault, front_of}
use Rattle.hyd_cert.specs.PlacesOfLines.{front_at}
use Rattle.hyd_cert.specs.PlacesOfLines.{heads_in, place_after, head_text}
use Rattle.hyd_cert.specs.Faults.{IsLineFault, IsHeadsFault, IsHeaderFault, IsTextFault, HasOtherHeader, IsFront}
use Rattle.hyd_cert.specs.Faults.{lines_on}

pub is_front : (vector : ℕ) → IsFront (front_of vector)
is_front vector = search (rules, arith)

pub place_head : (heads i : ℕ) → i < heads → place_after heads i ≡ Head i
place_head heads i low = ap (λ b. if b then Head i else Between) ((Decides-ltb i heads).1 low)

-- ---- the text

pub head_text-push : (junctions i : ℕ) (us : List ℤ) (u : ℤ) (k : ℕ) → k ≡ i + length us
    → head_text junctions i (us ++ (u ∷ [])) ≡ head_text junctions i us
    ++ (front_at junctions k ++ (signed_decimal u ++ (10 ∷ [])))
head_text-push junctions i [] u k e = ap (λ j. front_at junctions j ++ (signed_decimal u ++ (10 ∷ [])))
    (omega (arith, e))
head_text-push junctions i (v ∷ us) u k e =
    ap (λ t. front_at junctions i ++ (signed_decimal v ++ (10 ∷ t)))
    (head_text-push junctions (i + 1) us u k (omega (arith, e)))
    ∙ sym (append_assoc (front_at junctions i) (signed_decimal v ++ (10 ∷ head_text junctions (i + 1) us))
    (front_at junctions k ++ (signed_decimal u ++ (10 ∷ [])))
    ∙ ap (λ t. front_at junctions i ++ t) (append_assoc (signed_decimal v) (10 ∷ head_text junctions (i + 1) us)
    (front_at junctions k ++ (signed_decimal u ++ (10 ∷ [])))))

pub text_more : (junctions i : ℕ) (into after : List ℤ) (u : ℤ) (first now next : Option (List ℕ)) → i < length into
    → after ≡ slice_set into i u
    → first ≡ prepend_known (head_text junctions 0 (take i into)) now
    → now ≡ prepend_known (front_at junctions i ++ (signed_decimal u ++ (10 ∷ []))) next
    → first ≡ prepend_known (head_text junctions 0 (take (i + 1) after)) next
text_more junctions i into after u first now next within written so_far read =
    let front = take_more_set into i u within in
    let len = length-take-le i into (omega arith) in
    so_far ∙ (ap (prepend_known (head_text junctions 0 (take i into))) read
    ∙ (prepend_known-prepend_known next (head_text junctions 0 (take i into))
    (front_at junctions i ++ (signed_decimal u ++ (10 ∷ [])))
    ∙ ap (λ t. prepend_known t next) (sym (head_text-push junctions 0 (take i into) u i (omega (arith, len)))
    ∙ ap (head_text junctions 0) (sym (ap (take (i + 1)) written ∙ front)))))

pub box_more : (i : ℕ) (into after : List ℤ) (u : ℤ) → i < length into → after ≡ slice_set into i u
    → All IsInBox (take i into) → IsInBox u → All IsInBox (take (i + 1) after)
box_more i into after u within written all box =
    subst (All IsInBox) (sym (ap (take (i + 1)) written ∙ take_more_set into i u within))
    (All-push IsInBox (take i into) u all box)

-- ---- the fault

pub fault_more : (header : Header) (i : ℕ) (u : ℤ) (first now next : Option (List ℕ))
    → i < heads_in header.junctions header.tanks → IsInBox u
    → now ≡ prepend_known (front_at header.junctions i ++ (signed_decimal u ++ (10 ∷ []))) next
    → ((number : ℕ) → IsFault header (place_after (heads_in header.junctions header.tanks) i) now number
    → IsFault header (place_after (heads_in header.junctions header.tanks) 0) first (i + number))
    → (number : ℕ) → IsFault header (place_after (heads_in header.junctions header.tanks) (i + 1)) next number
    → IsFault header (place_after (heads_in header.junctions header.tanks) 0) first (i + 1 + number)
fault_more header i u first now next within box read so_far number fault =
    let heads = heads_in header.junctions header.tanks in
    let line = front_at header.junctions i ++ signed_decimal u in
    let can : CanStand header (Head i) line (place_after heads (i + 1)) = (
      record {
        head = u;
        in_box = box;
        is = refl;
      },
      refl,
    ) in
    let whole : prepend_known (line ++ (10 ∷ [])) next ≡ now = ap (λ t. prepend_known t next)
    (append_assoc (front_at header.junctions i) (signed_decimal u) (10 ∷ [])) ∙ sym read in
    let at : IsFault header (Head i) (prepend_known (line ++ (10 ∷ [])) next) (suc number) = later line can fault in
    let there : IsFault header (place_after heads i) now (suc number) =
    subst (λ (t : Option (List ℕ)). IsFault header (place_after heads i) t (suc number)) whole
    (subst (λ (p : Place). IsFault header p (prepend_known (line ++ (10 ∷ [])) next) (suc number))
    (sym (place_head heads i within)) at) in
    subst (λ (k : ℕ). IsFault header (place_after heads 0) first k) (omega arith) (so_far (suc number) there)

pub fault_here : (header : Header) (i line0 line : ℕ) (first now : Option (List ℕ)) (before counts after : Faults)
    (fault : CertFault) → i < heads_in header.junctions header.tanks
    → line ≡ lines_on line0 i → counts ≡ before → IsLineFault (IsHeadLine (front_at header.junctions i)) line now
    counts after fault
    → ((number : ℕ) → IsFault header (place_after (heads_in header.junctions header.tanks) i) now number
    → IsFault header (place_after (heads_in header.junctions header.tanks) 0) first (i + number))
    → IsHeadsFault header line0 first before after fault
fault_here header i line0 line first now before counts after Read within at same h so_far = h ∙ ap with_read_fault same
fault_here header i line0 line first now before counts after (Count number) within at same h so_far = h
fault_here header i line0 line first now before counts after (Grammar number) within at same h so_far =
    let heads = heads_in header.junctions header.tanks in
    let place = place_head heads i within in
    let stuck : IsFault header (Head i) now 1 = here (λ next l rest can e. h.1 l rest can.0 e)
    (λ over. absurd (cc)) in (
      i + 1,
      (
        omega (arith, h.0, at),
        so_far 1 (subst (λ (p : Place). IsFault header p now 1) (sym place) stuck),
        (h.2 ∙ same, omega (arith, within)),
      ),
    )

-- a head as the program keeps it
pub stored : (xs : List ℤ) (i : ℕ) (u : ℤ) → IsInBox u → slice_set xs i (to_z w64 (of_z w64 u)) ≡ slice_set xs i u
stored xs i u box = ap (slice_set xs i) (let low = box.above_floor in let high = box.below_ceiling in
    omega (arith, ints, low, high))

-- ---- a record or the end

pub can_between : (header : Header) (l : List ℕ) (next : Place) → CanStand header Between l next → IsPeriodOrEnd l
can_between header l next (inl is) = inl is.0
can_between header l next (inr is) = inr is.0

-- no PERIOD line and no END line is next
pub stuck_between : (header : Header) (line : ℕ) (text : Option (List ℕ)) (before now : Faults) (fault : CertFault)
    → IsLineFault IsPeriodOrEnd line text before now fault
    → IsTextFault header Between line text before now fault
stuck_between header line text before now Read h = h
stuck_between header line text before now (Count number) h = absurd h
stuck_between header line text before now (Grammar number) h =
    (1, (h.0, here (λ next l rest can e. h.1 l rest (can_between header l next can) e) (λ over. absurd (cc)), h.2))

-- a fault among the heads, behind the PERIOD line
pub stuck_in_heads : (header : Header) (line0 line : ℕ) (l : List ℕ) (first rest : Option (List ℕ))
    (before counts now : Faults) (fault : CertFault)
    → IsPeriodLine l → first ≡ prepend_known (l ++ (10 ∷ [])) rest → line ≡ lines_on line0 1 → counts ≡ before
    → IsHeadsFault header line rest counts now fault → IsTextFault header Between line0 first before now fault
stuck_in_heads header line0 line l first rest before counts now Read is text at same h = h ∙ ap with_read_fault same
stuck_in_heads header line0 line l first rest before counts now (Count number) is text at same h = absurd h
stuck_in_heads header line0 line l first rest before counts now (Grammar number) is text at same h =
    let can : CanStand header Between l (place_after (heads_in header.junctions header.tanks) 0) = inl (is, refl) in (
      suc h.0,
      (
        let far = h.1.0 in omega (arith, far, at),
        subst (λ (t : Option (List ℕ)). IsFault header Between t (suc h.0)) (sym text) (later l can h.1.1),
        h.1.2.0 ∙ same,
      ),
    )

-- something behind the END line
pub stuck_behind : (header : Header) (line0 number : ℕ) (l : List ℕ) (first rest : Option (List ℕ)) → IsEndLine l
    → first ≡ prepend_known (l ++ (10 ∷ [])) rest
    → rest ≢ Some [] → IsFault header Between first 2
stuck_behind header line0 number l first rest is text more =
    let can : CanStand header Between l Over = inr (is, refl) in
    subst (λ (t : Option (List ℕ)). IsFault header Between t 2) (sym text)
    (later l can (here (λ next k after stands e. stands) (λ over. more)))

pub period_is : (number time seconds : ℕ) → number < 2 ^ 32 → time < 2 ^ 32 → seconds < 2 ^ 32
    → IsPeriodLine (words (codes "PERIOD" ∷ (decimal number ∷ (decimal time ∷ (decimal seconds ∷ [])))))
period_is number time seconds a b d = record {
  number = number;
  time = time;
  length = seconds;
  number_fits = a;
  time_fits = b;
  length_fits = d;
  is = refl;
}

pub end_is : (periods : ℕ) (finished : Bool) → periods < 2 ^ 32
    → IsEndLine (words (codes "END" ∷ (decimal periods ∷ (end_word finished ∷ []))))
end_is periods finished fits = record { periods = periods; finished = finished; periods_fit = fits; is = refl }

-- ---- the header line

-- no header line begins the text, or another one does
pub stuck_first : (header : Header) (line : ℕ) (text : Option (List ℕ)) (before now : Faults) (fault : CertFault)
    → IsHeaderFault header line text before now fault
    → IsTextFault header First line text before now fault
stuck_first header line text before now Read h = h
stuck_first header line text before now (Count number) h = (refl, h.0, h.1, h.2)
stuck_first header line text before now (Grammar number) h =
    (1, (h.0, here (λ next l rest may e. h.1 may.0 l rest may.1 e) (λ over. absurd (cc)), h.2))

-- a fault of all lines is one of the header line
pub header_fault_of : (header : Header) (line : ℕ) (text : Option (List ℕ)) (before now : Faults) (fault : CertFault)
    → IsLineFault (λ l. HasNo 10 l × (length l < 64)) line text before now fault
    → IsHeaderFault header line text before now fault
header_fault_of header line text before now Read h = h
header_fault_of header line text before now (Count number) h = absurd h
header_fault_of header line text before now (Grammar number) h =
    (h.0, λ other l rest is. h.1 l rest (header_is_line other l is), h.2)

-- a text that begins with the header line of other counts
pub has_other : (header other : Header) (held first more : List ℕ) (old new : Option (List ℕ))
    → IsHeaderLine other first
    → first ≢ words (codes "HYDCERT" ∷ (decimal header.version
    ∷ (decimal header.junctions ∷ (decimal header.tanks ∷ []))))
    → held ≡ first ++ (10 ∷ more) → prepend_known held new ≡ old → HasOtherHeader header old
has_other header other held first more old new is apart split same = record {
  other = other;
  line = first;
  rest = prepend_known more new;
  is_header = is;
  apart = λ e. apart (is.is ∙ ap (λ (h : Header). words (codes "HYDCERT"
      ∷ (decimal h.version ∷ (decimal h.junctions ∷ (decimal h.tanks ∷ []))))) e);
  begins = sym same ∙ (ap (λ h. prepend_known h new) (split ∙ sym (append_assoc first (10 ∷ []) more))
      ∙ sym (prepend_known-prepend_known new (first ++ (10 ∷ [])) more));
}

-- a line that was passed over
pub line_read : (held first more text : List ℕ) (old new : Option (List ℕ)) → prepend_known held new ≡ old
    → held ≡ first ++ (10 ∷ more) → first ++ (10 ∷ []) ≡ text
    → old ≡ prepend_known text (prepend_known more new)
line_read held first more text old new same split is =
    sym same ∙ (ap (λ h. prepend_known h new) (split ∙ (sym (append_assoc first (10 ∷ []) more) ∙ ap (λ t. t ++ more)
    is)) ∙ sym (prepend_known-prepend_known new text more))

-- the same fault, in other words for its values
pub text_fault_moved : (header : Header) (place other : Place) (line number : ℕ) (text told : Option (List ℕ))
    (before now after : Faults) (result answer : Result CertNext CertFault)
    → place ≡ other → line ≡ number → text ≡ told → now ≡ after → result ≡ answer
    → IfErr result (IsTextFault header place line text before now)
    → IfErr answer (IsTextFault header other number told before after)
text_fault_moved header place other line number text told before now after result answer same_place same_line
    same_text same_now same_result h =
    subst (λ r. IfErr r (IsTextFault header other number told before after)) same_result
    (subst (λ (f : Faults). IfErr result (IsTextFault header other number told before f)) same_now
    (subst (λ (t : Option (List ℕ)). IfErr result (IsTextFault header other number t before now)) same_text
    (subst (λ (n : ℕ). IfErr result (IsTextFault header other n text before now)) same_line
    (subst (λ (p : Place). IfErr result (IsTextFault header p line text before now)) same_place h))))

-- a fault behind the header line
stuck_later : (header : Header) (line0 line : ℕ) (l : List ℕ) (first rest : Option (List ℕ))
    (before counts now : Faults) (fault : CertFault) → IsHeaderLine header l
    → first ≡ prepend_known (l ++ (10 ∷ [])) rest → line ≡ lines_on line0 1 → counts ≡ before
    → IsTextFault header Between line rest counts now fault → IsTextFault header First line0 first before now fault
stuck_later header line0 line l first rest before counts now Read is text at same h = h ∙ ap with_read_fault same
stuck_later header line0 line l first rest before counts now (Count number) is text at same h = let place : Between
    ≡ First = h.0 in absurd (cc)
stuck_later header line0 line l first rest before counts now (Grammar number) is text at same h =
    let can : CanStand header First l Between = (is, refl) in (
      suc h.0,
      (
        let far = h.1.0 in omega (arith, far, at),
        subst (λ (t : Option (List ℕ)). IsFault header First t (suc h.0)) (sym text) (later l can h.1.1),
        h.1.2 ∙ same,
      ),
    )

-- the header of a record can stand in a text
pub header_is : (header : Header) → 1 ≤ header.version → header.version ≤ 2 → header.junctions < 2 ^ 32
    → header.tanks < 2 ^ 32
    → IsHeaderLine header
    (words (codes "HYDCERT" ∷ (decimal header.version ∷ (decimal header.junctions ∷ (decimal header.tanks ∷ [])))))
header_is header low high fits_n fits_k =
    let l = words (codes "HYDCERT" ∷ (decimal header.version
    ∷ (decimal header.junctions ∷ (decimal header.tanks ∷ [])))) in
    let whole = length-append l (10 ∷ []) in
    let short = header-short header.version header.junctions header.tanks (omega (arith, high)) fits_n fits_k in
    record {
      known = one_or_two header.version low high;
      junctions_fit = omega (arith, fits_n);
      tanks_fit = omega (arith, fits_k);
      short = omega (arith, whole, short);
      is = refl;
    }
  where
    one_or_two : (n : ℕ) → 1 ≤ n → n ≤ 2 → (n ≡ 1) ⊎ (n ≡ 2)
    one_or_two zero low high = absurd (omega (arith, low))
    one_or_two (suc zero) low high = inl refl
    one_or_two (suc (suc zero)) low high = inr refl
    one_or_two (suc (suc (suc n))) low high = absurd (omega (arith, high))

pub stuck_behind_header : (header : Header) (line0 line : ℕ) (l : List ℕ) (first rest : Option (List ℕ))
    (before counts now : Faults) (result : Result CertNext CertFault)
    → IsHeaderLine header l → first ≡ prepend_known (l ++ (10 ∷ [])) rest → line ≡ lines_on line0 1 → counts ≡ before
    → IfErr result (IsTextFault header Between line rest counts now)
    → IfErr result (IsTextFault header First line0 first before now)
stuck_behind_header header line0 line l first rest before counts now (Ok next) is text at same h = tt
stuck_behind_header header line0 line l first rest before counts now (Err fault) is text at same h =
    stuck_later header line0 line l first rest before counts now fault is text at same h
