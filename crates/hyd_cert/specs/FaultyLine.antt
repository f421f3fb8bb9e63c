-- What it means that a text is at fault in a line: the lines before it begin a certificate, and with it, the end of the
-- text counted in, they begin none.
use Rattle.std.specs.Prelude.{◌≡◌, ℕ, ◌+◌, ◌*◌, Bool, List, [], ◌∷◌, ◌++◌, length, map, Option, ◌⊎◌}
use Rattle.hyd_spec.specs.Lists.{joined}
use Rattle.hyd_io.specs.DeskBytes.{prepend_known}
use Rattle.hyd_spec_certificates.specs.RecordAndStanding.{Record}
use Rattle.hyd_spec_certificates.specs.CertificateText.{IsCertificateText, record_text, line_feeds}
use Rattle.hyd_line_reader.specs.TextsWithoutLine.{HasNo}
use Rattle.hyd_cert.specs.Lines.{Header, header_text}
use Rattle.hyd_cert.specs.PlacesOfLines.{heads_in}

-- The text is a certificate with this header.
pub record IsCertificate (header : Header) (text : List ℕ) : Type 0 where
  pub rows : List Record
  pub periods : ℕ
  pub finished : Bool
  pub is_text : IsCertificateText text header.version header.junctions header.tanks rows periods finished

-- The text is whole lines.
abbrev pub IsLines : List ℕ → Type 0
IsLines text = (text ≡ []) ⊎ ((body : List ℕ) × (text ≡ body ++ (10 ∷ [])))

-- The other text begins with the first line of the text: that line and its line feed, whatever follows; or, where the
-- text has no line feed, the whole of it with its end.
pub data HasFirstLine (text : List ℕ) : List ℕ → Type 0 where
  ended : (line rest after : List ℕ) → HasNo 10 line → text ≡ line ++ (10 ∷ rest)
      → HasFirstLine text (line ++ (10 ∷ after))
  unended : HasNo 10 text → HasFirstLine text text

-- The line of this number, counted from 1, is the first with which, the end of the text counted in, the text begins no
-- certificate: the lines before it begin one with this header, and no text that goes on from them with this line is one
-- with any header.
pub record IsFirstFault (header : Header) (text : List ℕ) (number : ℕ) : Type 0 where
  pub front : List ℕ
  pub rest : List ℕ
  pub parts : text ≡ front ++ rest
  pub lines : IsLines front
  pub count : line_feeds front + 1 ≡ number
  pub more : List ℕ
  pub goes_on : IsCertificate header (front ++ more)
  pub stops : (other : Header) (after : List ℕ) → HasFirstLine rest after → IsCertificate other (front ++ after) → ⊥

-- How many lines a header line and these records have.
abbrev pub lines_of : Header → List Record → ℕ
lines_of header rows = 1 + length rows * (1 + heads_in header.junctions header.tanks)

-- The text begins with a header line and these records.
abbrev pub BeginsWith : Header → List Record → Option (List ℕ) → Option (List ℕ) → Type 0
BeginsWith header rows text rest = text ≡ prepend_known (header_text header ++ joined (map record_text rows)) rest
