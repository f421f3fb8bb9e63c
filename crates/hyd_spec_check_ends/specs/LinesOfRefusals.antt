-- The last line of a report where a certificate is refused by one of its lines.
-- Source: this program's.
use Rattle.std.specs.Prelude.{ℕ, ◌-◌, ◌^◌, min, List, [], ◌∷◌, codes, decimal}
use Rattle.hyd_spec_certificates.specs.CertificateText.{line}

-- `BADCERT line N GRAMMAR` where the line of that number, counted from 1, is the first with which the text begins no
-- certificate.
abbrev pub refused_grammar_line : ℕ → List ℕ
refused_grammar_line number = line (codes "BADCERT" ∷ (codes "line" ∷ (decimal number ∷ (codes "GRAMMAR" ∷ []))))

-- `BADCERT line N COUNT` where the header line, the line of that number, has another version or other counts than the
-- network.
abbrev pub refused_counts_line : ℕ → List ℕ
refused_counts_line number = line (codes "BADCERT" ∷ (codes "line" ∷ (decimal number ∷ (codes "COUNT" ∷ []))))

-- The number of a line as it is printed: it stays at 2^64 - 1 once it is there.
abbrev pub printed_number : ℕ → ℕ
printed_number number = min number (2 ^ 64 - 1)
