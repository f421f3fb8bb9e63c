-- Lines of certificate texts with flows, and the words into which they are split.
use Rattle.std.proofs.Common.{◌≡◌, ◌≢◌, ℕ, ◌+◌, ◌<◌, ◌≤◌, ◌^◌, ℤ, pos, List, [], ◌∷◌, ◌++◌, length, take, drop, get_or}
use Rattle.std.proofs.Common.{Option, refl, sym, ap, ap₂, subst, ◌∙◌, codes, append_assoc, arith, rules}
use Rattle.std.specs.Fmt.{decimal, signed_decimal}
use Rattle.std.proofs.lemmas.Fmt.{decimal_digit}
use Rattle.std.proofs.lemmas.List.{append_cancel_left, take_more, take-append-drop}
use Rattle.hyd_io.specs.DeskBytes.{prepend_known}
use Rattle.hyd_io.proofs.MovedBytesLemmas.{prepend_known-prepend_known}
use Rattle.hyd_io.specs.declared.desk.Faults.{Faults}
use Rattle.hyd_spec_certificates.specs.CertificateText.{line, head_lines}
use Rattle.hyd_theorems_on_definitions.proofs.CertificateLines.{decimal-same}
use Rattle.hyd_line_reader.specs.TextsWithoutLine.{HasNo}
use Rattle.hyd_cert.specs.Lines.{Header, header_words}
use Rattle.hyd_cert.specs.Faults.{IsLineFault}
use Rattle.hyd_cert.specs.PlacesWithFlows.{IsFlowsHeaderLine, IsFlowsLine, IsNameLine, held_lines, with_flows}
use Rattle.hyd_cert.specs.ReaderWithFlows.{LacksFlowsHeader, OnRefusal, HasOtherCounts}
use Rattle.hyd_cert.specs.declared.answers_of_reader.CertFault.{CertFault}
use Rattle.hyd_cert.specs.declared.answers_of_reader.CertFault.TheVariants.{Read, Grammar, Count}
use Rattle.hyd_line_reader.proofs.SplitTexts.{split-same}
use Rattle.hyd_cert.proofs.LineLemmas.{wide_free, has_no_append, joined_pieces, number_piece}
use Rattle.hyd_cert.proofs.LineLemmas.{piece_line}

-- ---- the header line

pub three_known : decimal 3 ≡ codes "3"
three_known = decimal_digit 3 (omega arith)

-- a header line of version 3 is its front and the two counts
pub flows_header_parts : (header : Header) (l : List ℕ) → IsFlowsHeaderLine header l
    → l ≡ codes "HYDCERT 3 " ++ (decimal header.junctions ++ (32 ∷ decimal header.tanks))
flows_header_parts header l p =
    let counts = decimal header.junctions ++ (32 ∷ decimal header.tanks) in
    p.is ∙ (ap (λ v. codes "HYDCERT " ++ (decimal v ++ (32 ∷ counts))) p.known
    ∙ ap (λ d. codes "HYDCERT " ++ (d ++ (32 ∷ counts))) three_known)

pub flows_counts : (line counts l : List ℕ) (header : Header) → line ≡ codes "HYDCERT 3 " ++ counts
    → IsFlowsHeaderLine header l → line ≡ l → counts ≡ decimal header.junctions ++ (32 ∷ decimal header.tanks)
flows_counts line counts l header split p e = append_cancel_left (codes "HYDCERT 3 ") counts
    (decimal header.junctions ++ (32 ∷ decimal header.tanks)) (sym split ∙ (e ∙ flows_header_parts header l p))

pub two_flows_counts : (counts junctions tanks l : List ℕ) (header : Header) → HasNo 32 junctions
    → counts ≡ junctions ++ (32 ∷ tanks) → IsFlowsHeaderLine header l
    → counts ≡ decimal header.junctions ++ (32 ∷ decimal header.tanks) → (junctions ≡ decimal header.junctions)
    × (tanks ≡ decimal header.tanks)
two_flows_counts counts junctions tanks l header free parted p e =
    split-same 32 junctions (decimal header.junctions) tanks (decimal header.tanks) free
    (wide_free 32 header.junctions (omega arith) p.junctions_fit) (sym parted ∙ e)

-- a line of that front and two numbers is a header line of version 3
pub flows_header_made : (line counts junctions tanks : List ℕ) → line ≡ codes "HYDCERT 3 " ++ counts
    → counts ≡ junctions ++ (32 ∷ tanks)
    → (n : ℕ) × ((n < 10 ^ 64) × (junctions ≡ decimal n)) → (n : ℕ) × ((n < 10 ^ 64) × (tanks ≡ decimal n))
    → length line < 64
    → (header : Header) × IsFlowsHeaderLine header line
flows_header_made line counts junctions tanks split parted n k short =
    let both = decimal n.0 ++ (32 ∷ decimal k.0) in (
      record { version = 3; junctions = n.0; tanks = k.0 },
      record {
        known = refl;
        junctions_fit = n.1.0;
        tanks_fit = k.1.0;
        short = short;
        is = split ∙ (ap (λ t. codes "HYDCERT 3 " ++ t) (parted ∙ ap₂ (λ a b. a ++ (32 ∷ b)) n.1.1 k.1.1)
            ∙ sym (ap (λ d. codes "HYDCERT " ++ (d ++ (32 ∷ both))) three_known));
      },
    )

pub flows_header_is_line : (header : Header) (l : List ℕ) → IsFlowsHeaderLine header l → HasNo 10 l × (length l < 64)
flows_header_is_line header l p =
    let counts = has_no_append 10 (decimal header.junctions) (32 ∷ decimal header.tanks)
    (wide_free 10 header.junctions (omega arith) p.junctions_fit)
    ((λ e. omega (arith, e)), wide_free 10 header.tanks (omega arith) p.tanks_fit) in (
      subst (HasNo 10) (sym (flows_header_parts header l p)) (has_no_append 10 (codes "HYDCERT 3 ")
          (decimal header.junctions ++ (32 ∷ decimal header.tanks)) (search (rules, arith)) counts),
      p.short,
    )

-- the first line of a text told apart from the header line with the record's counts
pub has_other_counts : (header other : Header) (held first more : List ℕ) (old new : Option (List ℕ))
    → IsFlowsHeaderLine other first → first ≢ header_words (with_flows header)
    → held ≡ first ++ (10 ∷ more) → prepend_known held new ≡ old → HasOtherCounts header old
has_other_counts header other held first more old new is apart split same = record {
  other = other;
  line = first;
  rest = prepend_known more new;
  is_header = is;
  apart = λ e. apart (is.is ∙ ap header_words e);
  begins = sym same ∙ (ap (λ h. prepend_known h new) (split ∙ sym (append_assoc first (10 ∷ []) more))
      ∙ sym (prepend_known-prepend_known new (first ++ (10 ∷ [])) more));
}

-- a fault of all lines leaves no header line
pub no_flows_at_fault : (line : ℕ) (text : Option (List ℕ)) (before now : Faults) (fault : CertFault)
    → IsLineFault (λ l. HasNo 10 l × (length l < 64)) line text before now fault
    → OnRefusal fault (LacksFlowsHeader text)
no_flows_at_fault line text before now Read h = tt
no_flows_at_fault line text before now (Grammar number) h = λ header l rest is. h.1 l rest (flows_header_is_line header
    l is)
no_flows_at_fault line text before now (Count number) h = absurd h

-- ---- the lines of a part

pub flows_is_line : (l : List ℕ) → ((count : ℕ) × IsFlowsLine count l) → HasNo 10 l × (length l < 64)
flows_is_line l is =
    let p = is.1 in
    let most = p.at_most in
    piece_line l (codes "FLOWS " ++ decimal is.0) 16 p.is (omega arith)
    (joined_pieces (codes "FLOWS ") _ 6 10 (record { free = search (rules, arith); short = search (rules, arith) })
    (number_piece is.0 (omega (arith, most))))

pub name_is_line : (l : List ℕ) → ((number : ℕ) × IsNameLine number l) → HasNo 10 l × (length l < 64)
name_is_line l is =
    let p = is.1 in
    piece_line l (codes "LINK " ++ decimal is.0) 15 p.is (omega arith)
    (joined_pieces (codes "LINK ") _ 5 10 (record { free = search (rules, arith); short = search (rules, arith) })
    (number_piece is.0 p.fits))

-- a number that isn't from 1 to 16 makes no FLOWS line
pub flows_apart : (line word : List ℕ) (n : ℕ) → line ≡ codes "FLOWS " ++ word → word ≡ decimal n → n < 2 ^ 32
    → ((1 ≤ n) → (n ≤ 16) → ⊥) → (count : ℕ) (l : List ℕ) → IsFlowsLine count l → line ≢ l
flows_apart line word n split is fits apart count l p e =
    let same = append_cancel_left (codes "FLOWS ") word (decimal count) (sym split ∙ (e ∙ p.is)) in
    let most = p.at_most in
    let some = p.some in
    let equal : n ≡ count = decimal-same n count (omega (arith, fits)) (omega (arith, most)) (sym is ∙ same) in
    apart (omega (arith, equal, some)) (omega (arith, equal, most))

-- ---- the heads of a vector

pub held_append : (front : List ℕ) (us ws : List ℤ) → held_lines front (us ++ ws) ≡ held_lines front us
    ++ held_lines front ws
held_append front [] ws = refl
held_append front (u ∷ us) ws =
    ap (λ t. front ++ (signed_decimal u ++ (10 ∷ t))) (held_append front us ws)
    ∙ sym (append_assoc front (signed_decimal u ++ (10 ∷ held_lines front us)) (held_lines front ws)
    ∙ ap (λ t. front ++ t) (append_assoc (signed_decimal u) (10 ∷ held_lines front us) (held_lines front ws)))

-- their lines behind a key are those of the definition
pub held_is : (key : List ℕ) (us : List ℤ) → held_lines (key ++ (32 ∷ [])) us ≡ head_lines key us
held_is key [] = refl
held_is key (u ∷ us) =
    append_assoc key (32 ∷ []) (signed_decimal u ++ (10 ∷ held_lines (key ++ (32 ∷ [])) us))
    ∙ (ap (λ t. key ++ (32 ∷ (signed_decimal u ++ (10 ∷ t)))) (held_is key us)
    ∙ sym (append_assoc (key ++ (32 ∷ signed_decimal u)) (10 ∷ []) (head_lines key us)
    ∙ append_assoc key (32 ∷ signed_decimal u) (10 ∷ head_lines key us)))

-- one head more
pub held_more : (front : List ℕ) (i : ℕ) (us : List ℤ) → i < length us
    → held_lines front (take i us) ++ (front ++ (signed_decimal (get_or us i (pos 0)) ++ (10 ∷ [])))
    ≡ held_lines front (take (i + 1) us)
held_more front i us within =
    sym (held_append front (take i us) (get_or us i (pos 0) ∷ []))
    ∙ ap (held_lines front) (sym (take_more us i (pos 0) within))

-- the heads up to one, and the others
pub held_split : (front : List ℕ) (i : ℕ) (us : List ℤ) → i < length us
    → (held_lines front (take i us) ++ (front ++ (signed_decimal (get_or us i (pos 0)) ++ (10 ∷ []))))
    ++ held_lines front (drop (i + 1) us) ≡ held_lines front us
held_split front i us within =
    ap (λ t. t ++ held_lines front (drop (i + 1) us)) (held_more front i us within)
    ∙ (sym (held_append front (take (i + 1) us) (drop (i + 1) us))
    ∙ ap (held_lines front) (take-append-drop (i + 1) us))
