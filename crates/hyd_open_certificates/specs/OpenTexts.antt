-- Certificates of version 4 and their parts.
use Rattle.std.specs.Prelude.{◌≡◌, ℕ, ◌+◌, ◌*◌, ◌<◌, ◌^◌, ℤ, Bool, List, ◌++◌, Option, length, map, All}
use Rattle.hyd_io.specs.DeskBytes.{prepend_known}
use Rattle.hyd_spec.specs.Lists.{joined}
use Rattle.hyd_spec_certificates.specs.Certificate.{IsInBox}
use Rattle.hyd_spec_certificates.specs.CertificateText.{end_line}
use Rattle.hyd_spec_open_ends.specs.OpenStandings.{OpenRecord}
use Rattle.hyd_spec_open_ends.specs.OpenCertificateText.{open_version, open_record_text, IsOpenRow}
use Rattle.hyd_spec_open_ends.specs.OpenCertificateText.{IsOpenCertificateText}
use Rattle.hyd_cert.specs.Lines.{Header, header_text}
use Rattle.hyd_cert.specs.PlacesOfLines.{heads_in, head_text}

-- The text is a certificate of version 4 with this header.
pub record IsOpenCertificate (header : Header) (text : List ℕ) : Type 0 where
  pub known : header.version ≡ open_version
  pub rows : List OpenRecord
  pub periods : ℕ
  pub finished : Bool
  pub is_text : IsOpenCertificateText text header.junctions header.tanks rows periods finished

-- The text is one with some header.
abbrev pub IsAnyOpenCertificate : List ℕ → Type 0
IsAnyOpenCertificate text = (header : Header) × IsOpenCertificate header text

-- What one with this header can have from a PERIOD line or the END line on: records, and the END line.
pub record IsOpenRest (header : Header) (text : List ℕ) : Type 0 where
  pub rows : List OpenRecord
  pub periods : ℕ
  pub finished : Bool
  pub rows_fit : All (IsOpenRow header.junctions header.tanks) rows
  pub periods_fit : periods < 2 ^ 32
  pub is_text : text ≡ joined (map open_record_text rows) ++ end_line periods finished

-- The lines of so many heads of a record, from the head of this number on.
pub record AreHeads (junctions i count : ℕ) (text : List ℕ) : Type 0 where
  pub heads : List ℤ
  pub many : length heads ≡ count
  pub in_box : All IsInBox heads
  pub is : text ≡ head_text junctions i heads

-- How many lines a header line and these records have.
abbrev pub open_lines_of : Header → List OpenRecord → ℕ
open_lines_of header rows = 1 + length rows * (1 + heads_in header.junctions header.tanks)

-- The text begins with a header line and these records.
abbrev pub BeginsOpenly : Header → List OpenRecord → Option (List ℕ) → Option (List ℕ) → Type 0
BeginsOpenly header rows text rest =
    text ≡ prepend_known (header_text header ++ joined (map open_record_text rows)) rest
