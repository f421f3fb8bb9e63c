-- A text that goes on with a whole record isn't at fault in the lines of that record.
use Rattle.std.proofs.Common.{◌≡◌, ℕ, suc, ◌+◌, ◌<◌, ◌≤◌, ℤ, List, [], ◌∷◌, ◌++◌, length, All, get_or, Option}
use Rattle.std.proofs.Common.{Some}
use Rattle.std.proofs.Common.{Result, Ok, Err, IfErr, refl, sym, ap, ◌∙◌, subst, inl, inr, codes, append_assoc, arith}
use Rattle.std.specs.Fmt.{decimal, signed_decimal}
use Rattle.std.proofs.lemmas.List.{append_cancel_left}
use Rattle.std.proofs.lemmas.List.Elements.{All-head, All-tail}
use Rattle.hyd_io.specs.declared.desk.Faults.{Faults}
use Rattle.hyd_io.specs.DeskBytes.{prepend_known}
use Rattle.hyd_spec_certificates.specs.Certificate.{IsInBox}
use Rattle.hyd_spec_certificates.specs.RecordAndStanding.{Record as Row}
use Rattle.hyd_spec_certificates.specs.CertificateText.{IsRow, record_text, words}
use Rattle.hyd_cert.specs.Faults.{IsLineFault, IsHeadsFault, IsHeaderFault, LacksRecord, OnGrammar}
use Rattle.hyd_cert.specs.Lines.{Header, IsHeaderLine, IsPeriodLine, IsEndLine, header_text}
use Rattle.hyd_cert.specs.PeriodOrEndLine.{IsPeriodOrEnd}
use Rattle.hyd_cert.specs.PlacesOfLines.{Place, Between, Head, here, later, CanStand, MayStand, IsFault, front_at}
use Rattle.hyd_cert.specs.PlacesOfLines.{heads_in}
use Rattle.hyd_cert.specs.PlacesOfLines.{place_after, head_text}
use Rattle.hyd_cert.specs.declared.answers_of_reader.CertFault.{CertFault}
use Rattle.hyd_cert.specs.declared.answers_of_reader.CertFault.TheVariants.{Read, Grammar, Count}
use Rattle.hyd_cert.specs.declared.answers_of_reader.CertNext.{CertNext}
use Rattle.hyd_cert.specs.declared.answers_of_reader.Stand.{Stand}
use Rattle.hyd_cert.specs.declared.answers_of_reader.Stand.TheVariants as stand
use Rattle.hyd_line_reader.proofs.SplitTexts.{split-same}
use Rattle.hyd_cert.proofs.HeadLemmas.{place_head, period_is}
use Rattle.hyd_cert.proofs.TextsAtFault.{stands_alone, may_stand, next_same, has_rest}
use Rattle.hyd_cert.proofs.VectorLemmas.{row_text}
use Rattle.hyd_cert.proofs.CertificatesLineByLine.{by_heads, flat}

pub at_least_one : (header : Header) (place : Place) (t : Option (List ℕ)) (number : ℕ) → IsFault header place t number
    → 0 < number
at_least_one header _ _ _ (here lacks over) = omega arith
at_least_one header _ _ _ (later line can fault) = omega arith

-- a fault that comes behind the first line
record Behind (header : Header) (next : Place) (rest : List ℕ) (number : ℕ) : Type 0 where
  pub fewer : ℕ
  pub one_more : number ≡ suc fewer
  pub fault : IsFault header next (Some rest) fewer

can_moved : (header : Header) (place at next : Place) (line : List ℕ) → place ≡ at → CanStand header place line next
    → CanStand header at line next
can_moved header place at next line same can = subst (λ (p : Place). CanStand header p line next) same can

-- two lines that begin the text are the same
behind_later : (header : Header) (at next other : Place) (first line rest : List ℕ) (left : Option (List ℕ)) (fewer : ℕ)
    → CanStand header at line next → CanStand header at first other → IsFault header other left fewer
    → prepend_known (first ++ (10 ∷ [])) left ≡ Some (line ++ (10 ∷ rest)) → Behind header next rest (suc fewer)
behind_later header at next other first line rest left fewer can stands fault told =
    let h = has_rest (first ++ (10 ∷ [])) left (line ++ (10 ∷ rest)) told in
    let whole : line ++ (10 ∷ rest) ≡ first ++ (10 ∷ h.left) = h.whole ∙ append_assoc first (10 ∷ []) h.left in
    let split = split-same 10 line first rest h.left (stands_alone header at next line can)
    (stands_alone header at other first stands) whole in
    let place = next_same header at next other line first split.0 can stands in
    record {
      fewer = fewer;
      one_more = refl;
      fault = subst (λ (p : Place). IsFault header p (Some rest) fewer) (sym place)
          (subst (λ (t : Option (List ℕ)). IsFault header other t fewer) (h.told ∙ ap Some (sym split.1)) fault);
    }

-- where the first line can stand, the fault comes behind it
behind_line : (header : Header) (place at next : Place) (t : Option (List ℕ)) (number : ℕ) (line rest : List ℕ)
    → IsFault header place t number → place ≡ at → CanStand header at line next → t ≡ Some (line ++ (10 ∷ rest))
    → Behind header next rest number
behind_line header _ at next _ _ line rest (here lacks over) same can told =
    absurd (lacks next line rest (subst (λ (p : Place). MayStand header p line next) (sym same)
    (may_stand header at next line can)) told)
behind_line header _ at next _ _ line rest (later first stands fault) same can told =
    behind_later header at next _ first line rest _ _ can (can_moved header _ at _ first same stands) fault told

-- heads that can stand where they do come before the fault
heads_before : (header : Header) (i : ℕ) (us : List ℤ) (rest : List ℕ) (t : Option (List ℕ)) (number : ℕ)
    → i + length us ≤ heads_in header.junctions header.tanks → All IsInBox us
    → IsFault header (place_after (heads_in header.junctions header.tanks) i) t number
    → t ≡ Some (head_text header.junctions i us ++ rest) → length us < number
heads_before header i [] rest t number within box fault told = at_least_one header _ t number fault
heads_before header i (u ∷ us) rest t number within box fault told =
    let heads = heads_in header.junctions header.tanks in
    let front = front_at header.junctions i in
    let more = head_text header.junctions (i + 1) us in
    let parts : head_text header.junctions i (u ∷ us) ++ rest ≡ (front ++ signed_decimal u) ++ (10 ∷ (more ++ rest)) =
    append_assoc front (signed_decimal u ++ (10 ∷ more)) rest
    ∙ (ap (λ x. front ++ x) (append_assoc (signed_decimal u) (10 ∷ more) rest)
    ∙ sym (append_assoc front (signed_decimal u) (10 ∷ (more ++ rest)))) in
    let behind = behind_line header (place_after heads i) (Head i) (place_after heads (i + 1)) t number
    (front ++ signed_decimal u) (more ++ rest) fault (place_head heads i (omega (arith, within)))
    (record { head = u; in_box = All-head IsInBox u us box; is = refl }, refl) (told ∙ ap Some parts) in
    let after = heads_before header (i + 1) us rest (Some (more ++ rest)) behind.fewer (omega (arith, within))
    (All-tail IsInBox u us box) behind.fault refl in
    let one_more = behind.one_more in
    omega (arith, after, one_more)

-- the PERIOD line of a record
pub period_of : Row → List ℕ
period_of row = words (codes "PERIOD" ∷ (decimal row.number ∷ (decimal row.time ∷ (decimal row.length ∷ []))))

pub is_period : (n tanks : ℕ) (row : Row) → IsRow n tanks row → IsPeriodLine (period_of row)
unfolding period_of
is_period n tanks row is = period_is row.number row.time row.length is.number_fits is.time_fits is.length_fits

-- a record is its PERIOD line and its heads
pub record_parts : (n tanks : ℕ) (row : Row) (rest : List ℕ) → IsRow n tanks row
    → record_text row ++ rest ≡ period_of row ++ (10 ∷ (head_text n 0 (flat row) ++ rest))
unfolding period_of
record_parts n tanks row rest is =
    let by = by_heads n tanks row is in
    let heads = head_text n 0 (flat row) in
    let period = period_of row in
    let parts : record_text row ≡ (period ++ (10 ∷ [])) ++ heads =
    ap record_text (sym by.same) ∙ row_text n tanks row.number row.time row.length (flat row) by.whole in
    ap (λ x. x ++ rest) parts ∙ (append_assoc (period ++ (10 ∷ [])) heads rest
    ∙ append_assoc period (10 ∷ []) (heads ++ rest))

-- a whole record comes before the fault
record_before : (header : Header) (row : Row) (rest : List ℕ) (t : Option (List ℕ)) (number : ℕ)
    → IsRow header.junctions header.tanks row → IsFault header Between t number → t ≡ Some (record_text row ++ rest)
    → 1 + heads_in header.junctions header.tanks < number
record_before header row rest t number is fault told =
    let heads = heads_in header.junctions header.tanks in
    let by = by_heads header.junctions header.tanks row is in
    let whole = by.whole in
    let more = head_text header.junctions 0 (flat row) ++ rest in
    let behind = behind_line header Between Between (place_after heads 0) t number (period_of row) more fault refl
    (inl (is_period header.junctions header.tanks row is, refl))
    (told ∙ ap Some (record_parts header.junctions header.tanks row rest is)) in
    let after = heads_before header 0 (flat row) rest (Some more) behind.fewer (omega (arith, whole)) by.box
    behind.fault
    refl in
    let one_more = behind.one_more in
    omega (arith, after, one_more, whole)

-- ---- what a reader's faults say of it

-- neither a PERIOD line nor the END line is next
pub none_between : (header : Header) (line : ℕ) (text : Option (List ℕ)) (before now : Faults) (fault : CertFault)
    → IsLineFault IsPeriodOrEnd line text before now fault → OnGrammar fault (LacksRecord stand.Between header text)
none_between header line text before now Read h = tt
none_between header line text before now (Count number) h = tt
none_between header line text before now (Grammar number) h = λ row rest is told.
    h.1 (period_of row) _ (inl (is_period header.junctions header.tanks row is))
    (told ∙ ap Some (record_parts header.junctions header.tanks row rest is))

-- a fault among the heads
pub none_in_heads : (header : Header) (line : ℕ) (l : List ℕ) (first rest : Option (List ℕ)) (before now : Faults)
    (fault : CertFault) → IsPeriodLine l → first ≡ prepend_known (l ++ (10 ∷ [])) rest
    → IsHeadsFault header line rest before now fault → OnGrammar fault (LacksRecord stand.Between header first)
none_in_heads header line l first rest before now Read is text h = tt
none_in_heads header line l first rest before now (Count number) is text h = tt
none_in_heads header line l first rest before now (Grammar number) is text h = λ row left fits told.
    let can : CanStand header Between l (place_after (heads_in header.junctions header.tanks) 0) = inl (is, refl) in
    let fault = subst (λ (t : Option (List ℕ)). IsFault header Between t (suc h.0)) (sym text) (later l can h.1.1) in
    let before_it = record_before header row left first (suc h.0) fits fault told in
    let near = h.1.2.1 in
    absurd (omega (arith, before_it, near))

-- something behind the END line
pub none_at_end : (header : Header) (l : List ℕ) (first rest : Option (List ℕ)) → IsEndLine l
    → first ≡ prepend_known (l ++ (10 ∷ [])) rest → LacksRecord stand.Between header first
unfolding period_of
none_at_end header l first rest is text row left fits told =
    let more = head_text header.junctions 0 (flat row) ++ left in
    let whole = told ∙ ap Some (record_parts header.junctions header.tanks row left fits) in
    let h = has_rest (l ++ (10 ∷ [])) rest (period_of row ++ (10 ∷ more)) (sym text ∙ whole) in
    let period = is_period header.junctions header.tanks row fits in
    let split = split-same 10 (period_of row) l more h.left
    (stands_alone header Between (place_after (heads_in header.junctions header.tanks) 0) (period_of row)
    (inl (period, refl))) (stands_alone header Between _ l (inr (is, refl)))
    (h.whole ∙ append_assoc l (10 ∷ []) h.left) in
    let first : 80 ≡ 69 = ap (λ (t : List ℕ). get_or t 0 0) (sym period.is ∙ (split.0 ∙ is.is)) in
    absurd (omega (arith, first))

-- no header line is next, or another one
pub none_at_first : (header : Header) (line : ℕ) (text : Option (List ℕ)) (before now : Faults) (fault : CertFault)
    → IsHeaderLine header (words (codes "HYDCERT" ∷ (decimal header.version ∷ (decimal header.junctions
    ∷ (decimal header.tanks ∷ []))))) → IsHeaderFault header line text before now fault
    → OnGrammar fault (LacksRecord stand.First header text)
none_at_first header line text before now Read is h = tt
none_at_first header line text before now (Count number) is h = tt
none_at_first header line text before now (Grammar number) is h = λ row rest fits told.
    let known = words (codes "HYDCERT" ∷ (decimal header.version ∷ (decimal header.junctions
    ∷ (decimal header.tanks ∷ [])))) in
    h.1 header known (record_text row ++ rest) is
    (told ∙ ap Some (append_assoc known (10 ∷ []) (record_text row ++ rest)))

-- none behind the header line
pub none_behind_header : (header : Header) (text rest : Option (List ℕ)) (result : Result CertNext CertFault)
    → text ≡ prepend_known (header_text header) rest
    → IfErr result (λ fault. OnGrammar fault (LacksRecord stand.Between header rest))
    → IfErr result (λ fault. OnGrammar fault (LacksRecord stand.First header text))
none_behind_header header text rest (Ok next) same h = tt
none_behind_header header text rest (Err Read) same h = tt
none_behind_header header text rest (Err (Count number)) same h = tt
none_behind_header header text rest (Err (Grammar number)) same h = λ row left fits told.
    let at = has_rest (header_text header) rest (header_text header ++ (record_text row ++ left)) (sym same ∙ told) in
    h row left fits (at.told ∙ ap Some (sym (append_cancel_left (header_text header) (record_text row ++ left) at.left
    at.whole)))

-- the same, in other words for its values
pub none_moved : (header : Header) (at other : Stand) (text told : Option (List ℕ))
    (result answer : Result CertNext CertFault)
    → at ≡ other → text ≡ told → result ≡ answer
    → IfErr result (λ fault. OnGrammar fault (LacksRecord at header text))
    → IfErr answer (λ fault. OnGrammar fault (LacksRecord other header told))
none_moved header at other text told result answer same_at same_text same_result h =
    subst (λ (r : Result CertNext CertFault). IfErr r (λ fault. OnGrammar fault (LacksRecord other header told)))
    same_result (subst (λ (t : Option (List ℕ)). IfErr result (λ fault. OnGrammar fault (LacksRecord other header t)))
    same_text (subst (λ (s : Stand). IfErr result (λ fault. OnGrammar fault (LacksRecord s header text))) same_at h))
