-- The text of a certificate with flows: its header has version 3, and behind each record stand the links that were
-- named and their vectors. Source: this program's format.
use Rattle.std.specs.Prelude.{◌≡◌, ℕ, ◌<◌, ◌≤◌, ◌^◌, nat_eq, Bool, List, [], ◌∷◌, ◌++◌, length, map, All, codes}
use Rattle.std.specs.Prelude.{decimal}
use Rattle.std.specs.List.{starts_with}
use Rattle.hyd_spec.specs.Lists.{joined}
use Rattle.hyd_spec_certificates.specs.RecordAndStanding.{Record}
use Rattle.hyd_spec_certificates.specs.CertificateText.{line, header_line, vectors_text, record_text, end_line}
use Rattle.hyd_spec_certificates.specs.CertificateText.{IsVector}
use Rattle.hyd_spec_certificates.specs.CertificateText.{IsRow, IsCertificateText}
use Rattle.hyd_spec_flows.specs.FlowParts.{NamedLink, FlowPart}

-- The version of certificates with flows.
abbrev pub flows_version : ℕ
flows_version = 3

-- A part names at most so many links.
abbrev pub most_names : ℕ
most_names = 16

-- ---- lines

-- `FLOWS f`: how many links are named.
abbrev pub flows_line : ℕ → List ℕ
flows_line count = line (codes "FLOWS" ∷ (decimal count ∷ []))

-- `LINK l`: the number of a link.
abbrev pub name_line : ℕ → List ℕ
name_line number = line (codes "LINK" ∷ (decimal number ∷ []))

-- A named link: its number, then its two vectors (FU, FL).
abbrev pub named_text : NamedLink → List ℕ
named_text named = name_line named.link ++ vectors_text (codes "FU") (codes "FL") named.held

-- A part: how many links it names, then each in order.
abbrev pub part_text : FlowPart → List ℕ
part_text part = flows_line (length part) ++ joined (map named_text part)

-- ---- the text

-- A record and the part behind it.
pub record Entry : Type 0 where
  pub row : Record
  pub part : FlowPart

-- Its lines.
abbrev pub entry_text : Entry → List ℕ
entry_text entry = record_text entry.row ++ part_text entry.part

-- The records of some entries.
abbrev pub rows_in : List Entry → List Record
rows_in entries = map (λ entry. entry.row) entries

-- Their parts.
abbrev pub parts_in : List Entry → List FlowPart
parts_in entries = map (λ entry. entry.part) entries

-- A header of version 3 for so many junctions and tanks, the entries, and the end line.
abbrev pub text_with_flows : ℕ → ℕ → List Entry → ℕ → Bool → List ℕ
text_with_flows junctions tanks entries periods finished =
    header_line flows_version junctions tanks ++ (joined (map entry_text entries) ++ end_line periods finished)

-- ---- readings

-- A named link that a certificate for so many junctions can hold.
pub record IsNamed (junctions : ℕ) (named : NamedLink) : Type 0 where
  pub link_fits : named.link < 2 ^ 32
  pub upper : IsVector junctions named.held.upper
  pub lower : IsVector junctions named.held.lower

-- A part that it can hold: it names one link at least and 16 at most.
pub record IsPart (junctions : ℕ) (part : FlowPart) : Type 0 where
  pub some : 1 ≤ length part
  pub at_most : length part ≤ most_names
  pub each : All (IsNamed junctions) part

-- An entry of a certificate for so many junctions and tanks.
pub record IsEntry (junctions tanks : ℕ) (entry : Entry) : Type 0 where
  pub row : IsRow junctions tanks entry.row
  pub part : IsPart junctions entry.part

-- The text is that of version 3, of these counts and entries, and of an end line with this number and word.
pub record IsTextWithFlows (text : List ℕ) (junctions tanks : ℕ) (entries : List Entry) (periods : ℕ)
    (finished : Bool) : Type 0 where
  pub junctions_fit : junctions < 10 ^ 64
  pub tanks_fit : tanks < 10 ^ 64
  pub header_fits : length (header_line flows_version junctions tanks) ≤ 64
  pub entries_fit : All (IsEntry junctions tanks) entries
  pub periods_fit : periods < 2 ^ 32
  pub is_text : text ≡ text_with_flows junctions tanks entries periods finished

-- The text of a certificate of any version, with its records and its parts: one for each record in version 3, none in
-- the versions before.
pub data IsTextOfVersion (text : List ℕ) (junctions tanks : ℕ) : ℕ → List Record → List FlowPart → ℕ → Bool → Type 0
  where
    without_flows : {version : ℕ} {rows : List Record} {periods : ℕ} {finished : Bool}
        → IsCertificateText text version junctions tanks rows periods finished
        → IsTextOfVersion text junctions tanks version rows [] periods finished
    with_flows : {periods : ℕ} {finished : Bool} (entries : List Entry)
        → IsTextWithFlows text junctions tanks entries periods finished
        → IsTextOfVersion text junctions tanks flows_version (rows_in entries) (parts_in entries) periods finished

-- The text begins as the header of version 3 does.
abbrev pub is_with_flows : List ℕ → Bool
is_with_flows text = starts_with nat_eq text (codes "HYDCERT 3 ")
