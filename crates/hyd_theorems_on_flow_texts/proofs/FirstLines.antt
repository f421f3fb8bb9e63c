-- The header lines with which texts begin, with flows and without.
use Rattle.std.proofs.Common.{◌≡◌, ℕ, ◌<◌, ◌≤◌, ◌^◌, ◌⊎◌, Bool, true, false, List, [], ◌∷◌, ◌++◌, length, length-append}
use Rattle.std.proofs.Common.{refl, sym, ap, ◌∙◌, append_assoc, arith, codes, inl, inr}
use Rattle.std.specs.Fmt.{decimal}
use Rattle.std.proofs.lemmas.List.{append_cancel_left}
use Rattle.hyd_spec_certificates.specs.RecordAndStanding.{Record}
use Rattle.hyd_spec_certificates.specs.CertificateText.{header_line, IsCertificateText}
use Rattle.hyd_spec_flows.specs.FlowTexts.{Entry, IsTextWithFlows, flows_version, is_with_flows}
use Rattle.hyd_line_reader.specs.TextsWithoutLine.{HasNo}
use Rattle.hyd_cert.specs.Lines.{Header, header_words, IsHeaderLine}
use Rattle.hyd_cert.specs.PlacesWithFlows.{IsFlowsHeaderLine}
use Rattle.hyd_line_reader.proofs.SplitTexts.{split-same}
use Rattle.hyd_cert.proofs.LineLemmas.{wide_free, header_is_line, one_known, two_known}
use Rattle.hyd_cert.proofs.FlowLineLemmas.{flows_header_parts, flows_header_is_line}
use Rattle.hyd_theorems_on_definitions.proofs.CertificateLines.{decimal-same, header-short}

-- ---- versions

flows_front : (text more : List ℕ) → text ≡ codes "HYDCERT 3 " ++ more → is_with_flows text ≡ true
flows_front text more e = ap is_with_flows e ∙ refl

first_front : (text more : List ℕ) → text ≡ codes "HYDCERT 1 " ++ more → is_with_flows text ≡ false
first_front text more e = ap is_with_flows e ∙ refl

second_front : (text more : List ℕ) → text ≡ codes "HYDCERT 2 " ++ more → is_with_flows text ≡ false
second_front text more e = ap is_with_flows e ∙ refl

-- a header line of version 3 begins a text with flows
pub flows_begin : (header : Header) (line rest : List ℕ) → IsFlowsHeaderLine header line
    → is_with_flows (line ++ (10 ∷ rest)) ≡ true
flows_begin header line rest is =
    let counts = decimal header.junctions ++ (32 ∷ decimal header.tanks) in
    flows_front (line ++ (10 ∷ rest)) (counts ++ (10 ∷ rest))
    (ap (λ l. l ++ (10 ∷ rest)) (flows_header_parts header line is)
    ∙ append_assoc (codes "HYDCERT 3 ") counts (10 ∷ rest))

-- one of another version begins none
pub plain_begin : (header : Header) (line rest : List ℕ) → IsHeaderLine header line
    → is_with_flows (line ++ (10 ∷ rest)) ≡ false
plain_begin header line rest is = by_version is.known
  where
    counts : List ℕ
    counts = decimal header.junctions ++ (32 ∷ decimal header.tanks)

    parts : (digit : List ℕ) → decimal header.version ≡ digit
        → line ++ (10 ∷ rest) ≡ (codes "HYDCERT " ++ (digit ++ (32 ∷ counts))) ++ (10 ∷ rest)
    parts digit e = ap (λ l. l ++ (10 ∷ rest)) (is.is ∙ ap (λ d. codes "HYDCERT " ++ (d ++ (32 ∷ counts))) e)

    by_version : (header.version ≡ 1) ⊎ (header.version ≡ 2) → is_with_flows (line ++ (10 ∷ rest)) ≡ false
    by_version (inl e) =
        first_front (line ++ (10 ∷ rest)) (counts ++ (10 ∷ rest))
        (parts (codes "1") (ap decimal e ∙ one_known) ∙ append_assoc (codes "HYDCERT 1 ") counts (10 ∷ rest))
    by_version (inr e) =
        second_front (line ++ (10 ∷ rest)) (counts ++ (10 ∷ rest))
        (parts (codes "2") (ap decimal e ∙ two_known) ∙ append_assoc (codes "HYDCERT 2 ") counts (10 ∷ rest))

-- ---- the header line of a certificate

-- a header and what follows it
pub header_then : (header : Header) (rest : List ℕ) → header_line header.version header.junctions header.tanks ++ rest
    ≡ header_words header ++ (10 ∷ rest)
header_then header rest = append_assoc (header_words header) (10 ∷ []) rest

-- a header of version 3 whose line is short enough
abbrev pub flows_header : ℕ → ℕ → Header
flows_header junctions tanks = record { version = flows_version; junctions = junctions; tanks = tanks }

pub flows_header_of : (text : List ℕ) (junctions tanks : ℕ) (entries : List Entry) (periods : ℕ) (finished : Bool)
    → IsTextWithFlows text junctions tanks entries periods finished
    → IsFlowsHeaderLine (flows_header junctions tanks) (header_words (flows_header junctions tanks))
flows_header_of text junctions tanks entries periods finished is =
    let whole = length-append (header_words (flows_header junctions tanks)) (10 ∷ []) in
    record {
      known = refl;
      junctions_fit = is.junctions_fit;
      tanks_fit = is.tanks_fit;
      short = (let fits = is.header_fits in omega (arith, whole, fits));
      is = refl;
    }

pub plain_header_of : (text : List ℕ) (version junctions tanks : ℕ) (rows : List Record) (periods : ℕ)
    (finished : Bool) → IsCertificateText text version junctions tanks rows periods finished
    → IsHeaderLine (record { version = version; junctions = junctions; tanks = tanks })
    (header_words (record { version = version; junctions = junctions; tanks = tanks }))
plain_header_of text version junctions tanks rows periods finished is =
    let header : Header = record { version = version; junctions = junctions; tanks = tanks } in
    let whole = length-append (header_words header) (10 ∷ []) in
    record {
      known = is.known;
      junctions_fit = is.junctions_fit;
      tanks_fit = is.tanks_fit;
      short = (let fits = is.header_fits in omega (arith, whole, fits));
      is = refl;
    }

-- a certificate of a version before has no flows
pub plain_text : (text : List ℕ) (version junctions tanks : ℕ) (rows : List Record) (periods : ℕ) (finished : Bool)
    → IsCertificateText text version junctions tanks rows periods finished → is_with_flows text ≡ false
plain_text text version junctions tanks rows periods finished is =
    let header : Header = record { version = version; junctions = junctions; tanks = tanks } in
    ap is_with_flows (is.is_text ∙ header_then header _)
    ∙ plain_begin header (header_words header) _
    (plain_header_of text version junctions tanks rows periods finished is)

-- and one of version 3 has
pub flows_text : (text : List ℕ) (junctions tanks : ℕ) (entries : List Entry) (periods : ℕ) (finished : Bool)
    → IsTextWithFlows text junctions tanks entries periods finished → is_with_flows text ≡ true
flows_text text junctions tanks entries periods finished is =
    let header = flows_header junctions tanks in
    ap is_with_flows (is.is_text ∙ header_then header _)
    ∙ flows_begin header (header_words header) _ (flows_header_of text junctions tanks entries periods finished is)

-- ---- the header of a network

-- a header line of version 3 with its line feed has at most 64 bytes
pub flows_header_fits : (junctions tanks : ℕ) → junctions < 2 ^ 32 → tanks < 2 ^ 32
    → length (header_line flows_version junctions tanks) ≤ 64
flows_header_fits junctions tanks n k = header-short flows_version junctions tanks (omega arith) n k

-- counts below 2^32 make one
pub flows_header_is : (junctions tanks : ℕ) → junctions < 2 ^ 32 → tanks < 2 ^ 32
    → IsFlowsHeaderLine (flows_header junctions tanks) (header_words (flows_header junctions tanks))
flows_header_is junctions tanks n k =
    let whole = length-append (header_words (flows_header junctions tanks)) (10 ∷ []) in
    let fits = flows_header_fits junctions tanks n k in
    record {
      known = refl;
      junctions_fit = omega (arith, n);
      tanks_fit = omega (arith, k);
      short = omega (arith, whole, fits);
      is = refl;
    }

-- ---- one header for a line

pub flows_header_free : (header : Header) (line : List ℕ) → IsFlowsHeaderLine header line → HasNo 10 line
flows_header_free header line is = (flows_header_is_line header line is).0

pub plain_header_free : (header : Header) (line : List ℕ) → IsHeaderLine header line → HasNo 10 line
plain_header_free header line is = (header_is_line header line is).0

pub same_counts : (header other : Header) (l m : List ℕ) → IsFlowsHeaderLine header l → IsFlowsHeaderLine other m
    → l ≡ m → (header.junctions ≡ other.junctions) × (header.tanks ≡ other.tanks)
same_counts header other l m p q e =
    let whole = append_cancel_left (codes "HYDCERT 3 ") (decimal header.junctions ++ (32 ∷ decimal header.tanks))
    (decimal other.junctions ++ (32 ∷ decimal other.tanks))
    (sym (flows_header_parts header l p) ∙ (e ∙ flows_header_parts other m q)) in
    let split = split-same 32 (decimal header.junctions) (decimal other.junctions) (decimal header.tanks)
    (decimal other.tanks) (wide_free 32 header.junctions (omega arith) p.junctions_fit)
    (wide_free 32 other.junctions (omega arith) q.junctions_fit) whole in (
      decimal-same header.junctions other.junctions p.junctions_fit q.junctions_fit split.0,
      decimal-same header.tanks other.tanks p.tanks_fit q.tanks_fit split.1,
    )
