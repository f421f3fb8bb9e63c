-- What the faults of a reader say.
use Rattle.std.specs.Prelude.{◌≡◌, ◌≢◌, ℕ, ◌+◌, ◌-◌, ◌^◌, ◌<◌, ◌≤◌, min, List, [], ◌∷◌, ◌++◌, length, Option, Some}
use Rattle.hyd_io.specs.DeskBytes.{prepend_known}
use Rattle.hyd_io.specs.declared.desk.Faults.{Faults}
use Rattle.hyd_io.specs.DeskCounts.{with_read_fault}
use Rattle.hyd_spec_certificates.specs.RecordAndStanding.{Record}
use Rattle.hyd_spec_certificates.specs.CertificateText.{IsRow, record_text}
use Rattle.hyd_line_reader.specs.TextsWithoutLine.{HasNo}
use Rattle.hyd_cert.specs.Lines.{Header, IsHeaderLine}
use Rattle.hyd_cert.specs.PlacesOfLines.{Place, First, Lacks, IsFault, heads_in, place_after}
use Rattle.hyd_cert.specs.ReaderView.{lead}
use Rattle.hyd_cert.specs.declared.answers_of_reader.Stand.{Stand}
use Rattle.hyd_cert.specs.declared.answers_of_reader.CertFault.{CertFault}
use Rattle.hyd_cert.specs.declared.answers_of_reader.CertFault.TheVariants.{Read, Grammar, Count}

-- So many lines further, up to the last number that a line can have.
abbrev pub lines_on : ℕ → ℕ → ℕ
lines_on line more = min (line + more) (2 ^ 64 - 1)

-- Of one line: a read failed, or no such line begins the text.
abbrev pub IsLineFault : (List ℕ → Type 0) → ℕ → Option (List ℕ) → Faults → Faults → CertFault → Type 0
IsLineFault IsSuch line text before now Read = now ≡ with_read_fault before
IsLineFault IsSuch line text before now (Grammar number) =
    (number ≡ lines_on line 1) × Lacks IsSuch text × (now ≡ before)
IsLineFault IsSuch line text before now (Count number) = ⊥

-- A front that the line of a head begins with.
pub record IsFront (front : List ℕ) : Type 0 where
  pub short : length front < 4
  pub one_line : HasNo 10 front

-- Of the heads of a record: a read failed, or the line is the first that can't stand where it does, and one of the
-- lines of these heads.
abbrev pub IsHeadsFault : Header → ℕ → Option (List ℕ) → Faults → Faults → CertFault → Type 0
IsHeadsFault header line text before now Read = now ≡ with_read_fault before
IsHeadsFault header line text before now (Grammar number) =
    (offset : ℕ) × ((number ≡ lines_on line offset)
    × IsFault header (place_after (heads_in header.junctions header.tanks) 0) text offset
    × ((now ≡ before) × (offset ≤ heads_in header.junctions header.tanks)))
IsHeadsFault header line text before now (Count number) = ⊥

-- The text begins with a header line, of another version or of other counts.
pub record HasOtherHeader (header : Header) (text : Option (List ℕ)) : Type 0 where
  pub other : Header
  pub line : List ℕ
  pub rest : Option (List ℕ)
  pub is_header : IsHeaderLine other line
  pub apart : other ≢ header
  pub begins : text ≡ prepend_known (line ++ (10 ∷ [])) rest

-- Of the header line: a read failed; or no header line begins the text; or another one does.
abbrev pub IsHeaderFault : Header → ℕ → Option (List ℕ) → Faults → Faults → CertFault → Type 0
IsHeaderFault header line text before now Read = now ≡ with_read_fault before
IsHeaderFault header line text before now (Grammar number) =
    (number ≡ lines_on line 1) × ((other : Header) → Lacks (IsHeaderLine other) text) × (now ≡ before)
IsHeaderFault header line text before now (Count number) =
    (number ≡ lines_on line 1) × HasOtherHeader header text × (now ≡ before)

-- Of a text that goes on at a place, behind so many lines: a read failed; or the line is the first that can't stand
-- where it does; or it is the first line of all, a header line of another version or of other counts.
abbrev pub IsTextFault : Header → Place → ℕ → Option (List ℕ) → Faults → Faults → CertFault → Type 0
IsTextFault header place line text before now Read = now ≡ with_read_fault before
IsTextFault header place line text before now (Grammar number) =
    (offset : ℕ) × ((number ≡ lines_on line offset) × IsFault header place text offset × (now ≡ before))
IsTextFault header place line text before now (Count number) =
    (place ≡ First) × (number ≡ lines_on line 1) × HasOtherHeader header text × (now ≡ before)

-- The text doesn't go on with a whole record, behind the header line where that is to come.
abbrev pub LacksRecord : Stand → Header → Option (List ℕ) → Type 0
LacksRecord at header text = (row : Record) (rest : List ℕ) → IsRow header.junctions header.tanks row
    → text ≢ Some (lead at header ++ (record_text row ++ rest))

-- The fact, where the fault is that of a line.
abbrev pub OnGrammar : CertFault → Type 0 → Type 0
OnGrammar Read P = Unit {0}
OnGrammar (Grammar line) P = P
OnGrammar (Count line) P = Unit {0}
