-- What a fault says of a whole text of version 4, and what was read of one.
use Rattle.std.proofs.Common.{◌≡◌, ℕ, ◌+◌, ◌*◌, ◌<◌, ◌^◌, Bool, List, [], ◌∷◌, ◌++◌, length, map, Some}
use Rattle.std.proofs.Common.{sym, subst, ◌∙◌, append_assoc, arith}
use Rattle.std.specs.Prelude.{All}
use Rattle.hyd_spec.specs.Lists.{joined}
use Rattle.hyd_spec_open_ends.specs.OpenStandings.{OpenRecord}
use Rattle.hyd_spec_open_ends.specs.OpenCertificateText.{open_record_text, open_certificate_text, IsOpenRow}
use Rattle.hyd_spec_open_ends.specs.OpenCertificateText.{IsOpenCertificateText}
use Rattle.hyd_theorems_on_definitions.proofs.CertificateLines.{header-short}
use Rattle.hyd_lemmas.proofs.ListsOptionsAndResults.{same_item}
use Rattle.hyd_line_reader.proofs.SplitTexts.{split-same}
use Rattle.hyd_witness_texts.proofs.FirstFaultLemmas.{none_such}
use Rattle.hyd_cert.specs.Lines.{Header, header_words, header_text}
use Rattle.hyd_cert.specs.PlacesOfLines.{heads_in}
use Rattle.hyd_cert.specs.declared.answers_of_reader.Stand.TheVariants as stand
use Rattle.hyd_cert.proofs.TextsAtFault.{has_rest}
use Rattle.hyd_open_certificates.specs.OpenLines.{open_header}
use Rattle.hyd_open_certificates.specs.OpenTexts.{IsOpenCertificate, BeginsOpenly, open_lines_of}
use Rattle.hyd_open_certificates.specs.OpenFaults.{IsOpenFault, HasOtherOpenHeader}
use Rattle.hyd_open_certificates.proofs.OpenLineLemmas.{open_header_is, open_header_is_line}
use Rattle.hyd_open_certificates.proofs.OpenRests.{header_same, header_of_certificate, certificate_parts, records_stuck}
use Rattle.hyd_open_certificates.proofs.OpenRests.{stuck_behind_header}

pub whole_reading : (n k : ℕ) (text : List ℕ) (rows : List OpenRecord) (periods : ℕ) (finished : Bool)
    → n < 2 ^ 32 → k < 2 ^ 32 → All (IsOpenRow n k) rows → periods < 2 ^ 32
    → text ≡ open_certificate_text n k rows periods finished → IsOpenCertificateText text n k rows periods finished
whole_reading n k text rows periods finished fits_n fits_k all fits e = record {
  junctions_fit = omega (arith, fits_n);
  tanks_fit = omega (arith, fits_k);
  header_fits = header-short 4 n k (omega arith) fits_n fits_k;
  rows_fit = all;
  periods_fit = fits;
  is_text = e;
}

pub behind_records : (n k : ℕ) (rows : List OpenRecord) (text rest : List ℕ) (number : ℕ) → n < 2 ^ 32 → k < 2 ^ 32
    → All (IsOpenRow n k) rows → BeginsOpenly (open_header n k) rows (Some text) (Some rest)
    → IsOpenFault (open_header n k) stand.Between rest number
    → IsOpenFault (open_header n k) stand.First text (open_lines_of (open_header n k) rows + number)
behind_records n k rows text rest number fits_n fits_k all e fault =
    let header = open_header n k in
    let X = length rows * (1 + heads_in n k) in
    let inner = records_stuck header rows all number rest fault in
    let outer = stuck_behind_header header (open_header_is n k fits_n fits_k)
    (joined (map open_record_text rows) ++ rest)
    (X + number) inner in
    let whole : text ≡ header_text header ++ (joined (map open_record_text rows) ++ rest) =
    same_item _ text ((header_text header ++ joined (map open_record_text rows)) ++ rest) e
    ∙ append_assoc (header_text header) (joined (map open_record_text rows)) rest in
    let count : 1 + (X + number) ≡ 1 + X + number = omega arith in
    subst (IsOpenFault header stand.First text) count
    (subst (λ (t : List ℕ). IsOpenFault header stand.First t (1 + (X + number))) (sym whole) outer)

pub refused : (header other : Header) (text : List ℕ) (number : ℕ) → IsOpenFault header stand.First text number
    → IsOpenCertificate other text → ⊥
refused header other text number fault is = none_such text number fault (other, is)

pub refused_counts : (header : Header) (text : List ℕ) → HasOtherOpenHeader header (Some text)
    → IsOpenCertificate header text → ⊥
refused_counts header text is certificate =
    let b = is.begins in
    let h = has_rest (b.line ++ (10 ∷ [])) b.rest text (sym b.begins) in
    let own = header_of_certificate header text certificate in
    let split = split-same 10 b.line (header_words header) h.left _
    (open_header_is_line b.header b.line b.is_header).0 (open_header_is_line header (header_words header) own).0
    (sym (append_assoc b.line (10 ∷ []) h.left) ∙ (sym h.whole ∙ (certificate_parts header text certificate
    ∙ append_assoc (header_words header) (10 ∷ []) _))) in
    is.apart (header_same b.header header b.line (header_words header) b.is_header own split.0)
