-- The text of a part, piece by piece, as it is read and put out.
use Rattle.std.proofs.Common.{◌≡◌, ℕ, ◌+◌, ◌*◌, ◌<◌, ◌≤◌, ℤ, Option, List, [], ◌∷◌, ◌++◌, length, take, drop}
use Rattle.std.proofs.Common.{slice_set, get_or, All, map, true, Result, Ok, Err, refl, sym, ap, ap₂, subst, ◌∙◌}
use Rattle.std.proofs.Common.{append_assoc, arith, codes}
use Rattle.std.specs.Fmt.{signed_decimal}
use Rattle.std.specs.Prelude.{OnOk}
use Rattle.std.proofs.lemmas.List.{take_more_set, length-take-le, take_more, take-append-drop, length-drop}
use Rattle.std.proofs.lemmas.List.{take_all, length-map, map-append}
use Rattle.std.proofs.lemmas.List.Elements.{All-push}
use Rattle.hyd_lemmas.proofs.ListsOptionsAndResults.{join-more, joined_append}
use Rattle.hyd_spec_flows.specs.FlowParts.{names_of}
use Rattle.hyd_cert.specs.VectorsOfRecord.{two_vectors}
use Rattle.hyd_cert.specs.FlowPartView.{named_of, links_in}
use Rattle.hyd_cert.specs.declared.named_vectors.NamedVectors.{NamedVectors}
use Rattle.hyd_io.specs.DeskBytes.{prepend_known}
use Rattle.hyd_io.specs.DeskCounts.{with_read_fault}
use Rattle.hyd_io.proofs.MovedBytesLemmas.{prepend_known-prepend_known}
use Rattle.hyd_io.specs.declared.desk.Faults.{Faults}
use Rattle.hyd_spec.specs.Lists.{joined}
use Rattle.hyd_spec_certificates.specs.Certificate.{IsInBox}
use Rattle.hyd_spec_flows.specs.FlowParts.{NamedLink}
use Rattle.hyd_spec_flows.specs.FlowTexts.{named_text, name_line, flows_line, part_text, most_names, IsNamed, IsPart}
use Rattle.hyd_cert.specs.Lines.{IsHeadLine}
use Rattle.hyd_cert.specs.Faults.{lines_on, IsLineFault}
use Rattle.hyd_cert.specs.PlacesWithFlows.{held_lines, held_text}
use Rattle.hyd_cert.specs.ReaderWithFlows.{IsVectorFault, part_lines}
use Rattle.hyd_cert.specs.declared.answers_of_reader.CertFault.{CertFault}
use Rattle.hyd_cert.specs.declared.answers_of_reader.CertFault.TheVariants.{Read, Grammar, Count}
use Rattle.hyd_cert.proofs.FlowLineLemmas.{held_append, held_is}

-- ---- the heads of a vector, as they are read

pub vector_more : (front : List ℕ) (i : ℕ) (into after : List ℤ) (u : ℤ) (first now next : Option (List ℕ))
    → i < length into → after ≡ slice_set into i u
    → first ≡ prepend_known (held_lines front (take i into)) now
    → now ≡ prepend_known (front ++ (signed_decimal u ++ (10 ∷ []))) next
    → first ≡ prepend_known (held_lines front (take (i + 1) after)) next
vector_more front i into after u first now next within written so_far read =
    so_far ∙ (ap (prepend_known (held_lines front (take i into))) read
    ∙ (prepend_known-prepend_known next (held_lines front (take i into)) (front ++ (signed_decimal u ++ (10 ∷ [])))
    ∙ ap (λ t. prepend_known t next) (sym (held_append front (take i into) (u ∷ []))
    ∙ ap (held_lines front) (sym (ap (take (i + 1)) written ∙ take_more_set into i u within)))))

pub vector_fault : (front : List ℕ) (count i line0 line : ℕ) (passed : List ℤ) (first now : Option (List ℕ))
    (before counts after : Faults) (fault : CertFault) → length passed ≡ i → i < count → All IsInBox passed
    → first ≡ prepend_known (held_lines front passed) now → line ≡ lines_on line0 i → counts ≡ before
    → IsLineFault (IsHeadLine front) line now counts after fault
    → IsVectorFault front count line0 first before after fault
vector_fault front count i line0 line passed first now before counts after Read many within box is at same h =
    h ∙ ap with_read_fault same
vector_fault front count i line0 line passed first now before counts after (Count number) many within box is at same h =
    absurd h
vector_fault front count i line0 line passed first now before counts after (Grammar number) many within box is at same h
    = (
      record {
        passed = passed;
        rest = now;
        within = omega (arith, many, within);
        in_box = box;
        number_is = (let far = h.0 in omega (arith, far, at, many));
        is_text = is;
        lacks = h.1;
      },
      h.2 ∙ same,
    )

-- ---- a link

-- its LINK line and its two vectors
pub link_parts : (named : NamedLink) (upper lower : List ℤ) → upper ≡ named.held.upper → lower ≡ named.held.lower
    → (name_line named.link ++ held_lines (codes "FU ") upper) ++ held_lines (codes "FL ") lower ≡ named_text named
link_parts named upper lower up low =
    append_assoc (name_line named.link) (held_lines (codes "FU ") upper) (held_lines (codes "FL ") lower)
    ∙ ap (λ t. name_line named.link ++ t)
    (ap₂ (λ a b. a ++ b) (ap (held_lines (codes "FU ")) up ∙ held_is (codes "FU") named.held.upper)
    (ap (held_lines (codes "FL ")) low ∙ held_is (codes "FL") named.held.lower))

-- it was read
pub link_read : (result : Result (Unit {0}) CertFault) (number n : ℕ) (whole heads : List ℤ)
    (text rest left : Option (List ℕ)) → whole ≡ heads → length heads ≡ n + n
    → text ≡ prepend_known (name_line number) rest → OnOk result (rest ≡ prepend_known (held_text n heads) left)
    → OnOk result (text ≡ prepend_known (named_text (record { link = number; held = two_vectors n whole })) left)
link_read (Err fault) number n whole heads text rest left same long is read = tt
link_read (Ok done) number n whole heads text rest left same long is read =
    let back : drop n heads ≡ take n (drop n heads) = (let e = length-drop n heads in
    sym (take_all n (drop n heads) (omega (arith, e, long)))) in
    let named : NamedLink = record { link = number; held = two_vectors n heads } in
    is ∙ (ap (prepend_known (name_line number)) read
    ∙ (prepend_known-prepend_known left (name_line number) (held_text n heads)
    ∙ ap (λ t. prepend_known t left)
    (sym (append_assoc (name_line number) (held_lines (codes "FU ") (take n heads))
    (held_lines (codes "FL ") (drop n heads)))
    ∙ (link_parts named (take n heads) (drop n heads) refl back
    ∙ ap (λ (us : List ℤ). named_text (record { link = number; held = two_vectors n us })) (sym same)))))

-- ---- links

pub links_push : (xs : List NamedVectors) (x : NamedVectors) → links_in (xs ++ (x ∷ [])) ≡ links_in xs
    ++ (named_of x ∷ [])
links_push xs x = map-append named_of xs (x ∷ [])

pub links_text_push : (xs : List NamedVectors) (x : NamedVectors)
    → joined (map named_text (links_in (xs ++ (x ∷ [])))) ≡ joined (map named_text (links_in xs))
    ++ named_text (named_of x)
links_text_push xs x = ap (λ p. joined (map named_text p)) (links_push xs x) ∙ join-more named_text (links_in xs)
    (named_of x)

-- one link more
pub links_more : (i : ℕ) (links : List NamedVectors) (x : NamedVectors) → i < length links → x ≡ get_or links i x
    → joined (map named_text (links_in (take i links))) ++ named_text (named_of x)
    ≡ joined (map named_text (links_in (take (i + 1) links)))
links_more i links x within is =
    sym (links_text_push (take i links) x)
    ∙ ap (λ xs. joined (map named_text (links_in xs)))
    (sym (take_more links i x within ∙ ap (λ y. take i links ++ (y ∷ [])) (sym is)))

-- the links up to one, and the others
pub links_split : (i : ℕ) (links : List NamedVectors) (x : NamedVectors) → i < length links → x ≡ get_or links i x
    → (joined (map named_text (links_in (take i links))) ++ named_text (named_of x))
    ++ joined (map named_text (links_in (drop (i + 1) links))) ≡ joined (map named_text (links_in links))
links_split i links x within is =
    ap (λ t. t ++ joined (map named_text (links_in (drop (i + 1) links)))) (links_more i links x within is)
    ∙ (sym (joined_append named_text (links_in (take (i + 1) links)) (links_in (drop (i + 1) links)))
    ∙ ap (λ p. joined (map named_text p)) (sym (map-append named_of (take (i + 1) links) (drop (i + 1) links))
    ∙ ap links_in (take-append-drop (i + 1) links)))

-- one link more was read
pub links_text_more : (i : ℕ) (into : List NamedVectors) (x : NamedVectors) (first now next : Option (List ℕ))
    → i < length into → first ≡ prepend_known (joined (map named_text (links_in (take i into)))) now
    → now ≡ prepend_known (named_text (named_of x)) next
    → first ≡ prepend_known (joined (map named_text (links_in (take (i + 1) (slice_set into i x))))) next
links_text_more i into x first now next within so_far read =
    so_far ∙ (ap (prepend_known (joined (map named_text (links_in (take i into))))) read
    ∙ (prepend_known-prepend_known next (joined (map named_text (links_in (take i into)))) (named_text (named_of x))
    ∙ ap (λ t. prepend_known t next) (sym (links_text_push (take i into) x)
    ∙ ap (λ xs. joined (map named_text (links_in xs))) (sym (take_more_set into i x within)))))

pub links_named_more : (n i : ℕ) (into : List NamedVectors) (x : NamedVectors) → i < length into
    → All (IsNamed n) (links_in (take i into)) → IsNamed n (named_of x)
    → All (IsNamed n) (links_in (take (i + 1) (slice_set into i x)))
links_named_more n i into x within all is =
    subst (All (IsNamed n)) (sym (ap links_in (take_more_set into i x within) ∙ links_push (take i into) x))
    (All-push (IsNamed n) (links_in (take i into)) (named_of x) all is)

pub links_count : (i : ℕ) (links : List NamedVectors) → i ≤ length links → length (links_in (take i links)) ≡ i
links_count i links within = length-map (take i links) named_of ∙ length-take-le i links within

pub names_are : (links : List NamedVectors) → names_of (links_in links) ≡ map (λ (one : NamedVectors). one.link) links
names_are [] = refl
names_are (x ∷ links) = ap (λ rest. x.link ∷ rest) (names_are links)

-- ---- a part

-- how many links it names
pub part_count : (count : ℕ) (links : List NamedVectors) → count ≤ most_names → length links ≡ most_names
    → length (links_in (take count links)) ≡ count
part_count count links most room = links_count count links (omega (arith, most, room))

-- its FLOWS line and its links
pub part_parts : (count : ℕ) (links taken : List NamedVectors) → count ≤ most_names → length links ≡ most_names
    → taken ≡ take count links
    → flows_line count ++ joined (map named_text (links_in taken)) ≡ part_text (links_in (take count links))
part_parts count links taken most room is =
    ap (λ (xs : List NamedVectors). flows_line count ++ joined (map named_text (links_in xs))) is
    ∙ ap (λ (k : ℕ). flows_line k ++ joined (map named_text (links_in (take count links))))
    (sym (part_count count links most room))

-- it was read
pub part_read : (result : Result (Unit {0}) CertFault) (count : ℕ) (links whole : List NamedVectors)
    (text rest left : Option (List ℕ)) → count ≤ most_names → length whole ≡ most_names → whole ≡ links
    → text ≡ prepend_known (flows_line count) rest
    → OnOk result (rest ≡ prepend_known (joined (map named_text (links_in (take count links)))) left)
    → OnOk result (text ≡ prepend_known (part_text (links_in (take count whole))) left)
part_read (Err fault) count links whole text rest left most room same is read = tt
part_read (Ok done) count links whole text rest left most room same is read =
    is ∙ (ap (prepend_known (flows_line count)) read
    ∙ (prepend_known-prepend_known left (flows_line count) (joined (map named_text (links_in (take count links))))
    ∙ ap (λ t. prepend_known t left) (part_parts count whole (take count links) most room
    (ap (take count) (sym same)))))

-- and it is one that a certificate can hold
pub part_is : (result : Result (Unit {0}) CertFault) (n count : ℕ) (links whole : List NamedVectors)
    → 0 < count → count ≤ most_names → length whole ≡ most_names → whole ≡ links
    → OnOk result (All (IsNamed n) (links_in (take count links)))
    → OnOk result (IsPart n (links_in (take count whole)))
part_is (Err fault) n count links whole some most room same all = tt
part_is (Ok done) n count links whole some most room same all =
    let many = part_count count whole most room in
    record {
      some = omega (arith, many, some);
      at_most = omega (arith, many, most);
      each = subst (λ (xs : List NamedVectors). All (IsNamed n) (links_in (take count xs))) (sym same) all;
    }

-- so many lines were passed
pub part_passed : (result : Result (Unit {0}) CertFault) (n count line0 line after : ℕ) (whole : List NamedVectors)
    → count ≤ most_names → length whole ≡ most_names → line ≡ lines_on line0 1
    → OnOk result (after ≡ lines_on line (count * (1 + 2 * n)))
    → OnOk result (after ≡ lines_on line0 (part_lines true n (links_in (take count whole))))
part_passed (Err fault) n count line0 line after whole most room first more = tt
part_passed (Ok done) n count line0 line after whole most room first more =
    let many = part_count count whole most room in
    let all : length (links_in (take count whole)) * (1 + 2 * n) ≡ count * (1 + 2 * n) = ap (λ k. k * (1 + 2 * n)) many
    in
    omega (arith, first, more, all)
