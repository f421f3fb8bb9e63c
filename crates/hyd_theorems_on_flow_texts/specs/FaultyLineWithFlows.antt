-- What it means that a text that begins as one with flows is at fault in a line: the lines before it begin a
-- certificate with flows, and with it, the end of the text counted in, they begin no certificate.
-- Source: this program's format.
use Rattle.std.specs.Prelude.{◌≡◌, ℕ, ◌+◌, Bool, List, ◌++◌}
use Rattle.hyd_spec_certificates.specs.RecordAndStanding.{Record}
use Rattle.hyd_spec_certificates.specs.CertificateText.{line_feeds}
use Rattle.hyd_spec_flows.specs.FlowParts.{FlowPart}
use Rattle.hyd_spec_flows.specs.FlowTexts.{Entry, IsTextWithFlows, IsTextOfVersion}
use Rattle.hyd_cert.specs.FaultyLine.{IsLines, HasFirstLine}

-- The text is a certificate with flows for so many junctions and tanks.
pub record IsCertificateWithFlows (junctions tanks : ℕ) (text : List ℕ) : Type 0 where
  pub entries : List Entry
  pub periods : ℕ
  pub finished : Bool
  pub is_text : IsTextWithFlows text junctions tanks entries periods finished

-- The text is a certificate of some version, for some network.
pub record IsSomeCertificate (text : List ℕ) : Type 0 where
  pub version : ℕ
  pub junctions : ℕ
  pub tanks : ℕ
  pub rows : List Record
  pub parts : List FlowPart
  pub periods : ℕ
  pub finished : Bool
  pub is_text : IsTextOfVersion text junctions tanks version rows parts periods finished

-- The line of this number, counted from 1, is the first with which, the end of the text counted in, the text begins no
-- certificate: the lines before it begin one with flows for so many junctions and tanks, and no text that goes on from
-- them with this line is one of any version.
pub record IsFirstFaultWithFlows (junctions tanks : ℕ) (text : List ℕ) (number : ℕ) : Type 0 where
  pub front : List ℕ
  pub rest : List ℕ
  pub parts : text ≡ front ++ rest
  pub lines : IsLines front
  pub count : line_feeds front + 1 ≡ number
  pub more : List ℕ
  pub goes_on : IsCertificateWithFlows junctions tanks (front ++ more)
  pub stops : (after : List ℕ) → HasFirstLine rest after → IsSomeCertificate (front ++ after) → ⊥
