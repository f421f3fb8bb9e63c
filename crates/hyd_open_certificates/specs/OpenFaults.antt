-- What the faults of a reader of certificates of version 4 say.
use Rattle.std.specs.Prelude.{◌≡◌, ◌≢◌, ℕ, List, [], ◌∷◌, ◌++◌, Option, Some, IfSome}
use Rattle.hyd_io.specs.DeskBytes.{prepend_known}
use Rattle.hyd_io.specs.DeskCounts.{with_read_fault}
use Rattle.hyd_io.specs.declared.desk.Faults.{Faults}
use Rattle.hyd_spec_open_ends.specs.OpenStandings.{OpenRecord}
use Rattle.hyd_spec_open_ends.specs.OpenCertificateText.{open_record_text, IsOpenRow}
use Rattle.hyd_witness_texts.specs.FirstFaults.{IsFirstFault}
use Rattle.hyd_cert.specs.Lines.{Header}
use Rattle.hyd_cert.specs.PlacesOfLines.{Lacks}
use Rattle.hyd_cert.specs.Faults.{lines_on}
use Rattle.hyd_cert.specs.ReaderView.{lead}
use Rattle.hyd_cert.specs.declared.answers_of_reader.Stand.{Stand}
use Rattle.hyd_cert.specs.declared.answers_of_reader.Stand.TheVariants.{First, Between, Over, Stuck}
use Rattle.hyd_cert.specs.declared.answers_of_reader.CertFault.{CertFault}
use Rattle.hyd_cert.specs.declared.answers_of_reader.CertFault.TheVariants.{Read, Grammar, Count}
use Rattle.hyd_open_certificates.specs.OpenLines.{IsOpenHeaderLine}
use Rattle.hyd_open_certificates.specs.OpenTexts.{IsOpenCertificate, IsAnyOpenCertificate, IsOpenRest}

-- ---- by where the reader stands

-- What the text still to come has to be.
abbrev pub HasToBe : Header → Stand → List ℕ → Type 0
HasToBe header First = IsOpenCertificate header
HasToBe header Between = IsOpenRest header
HasToBe header (Over end) = λ text. ⊥
HasToBe header (Stuck fault) = λ text. ⊥

-- What it may be, where the first line may be any header line of version 4: whether it has the right counts is a
-- question of its own.
abbrev pub MayBe : Header → Stand → List ℕ → Type 0
MayBe header First = IsAnyOpenCertificate
MayBe header Between = IsOpenRest header
MayBe header (Over end) = λ text. ⊥
MayBe header (Stuck fault) = λ text. ⊥

-- The line of this number, counted from 1 in the text still to come, is the first with which, the end of the text
-- counted in, it begins none.
abbrev pub IsOpenFault : Header → Stand → List ℕ → ℕ → Type 0
IsOpenFault header at = IsFirstFault (HasToBe header at) (MayBe header at)

-- The text still to come doesn't go on with a whole record, behind the header line where that is to come.
abbrev pub LacksOpenRecord : Stand → Header → Option (List ℕ) → Type 0
LacksOpenRecord at header text = (found : OpenRecord) (rest : List ℕ)
    → IsOpenRow header.junctions header.tanks found → text ≢ Some (lead at header ++ (open_record_text found ++ rest))

-- ---- the header line

-- No header line of version 4 begins the text.
abbrev pub LacksOpenHeader : Option (List ℕ) → Type 0
LacksOpenHeader text = (header : Header) → Lacks (IsOpenHeaderLine header) text

-- One does.
pub record HasOpenHeader (text : Option (List ℕ)) : Type 0 where
  pub header : Header
  pub line : List ℕ
  pub rest : Option (List ℕ)
  pub is_header : IsOpenHeaderLine header line
  pub begins : text ≡ prepend_known (line ++ (10 ∷ [])) rest

-- One of other counts does.
pub record HasOtherOpenHeader (header : Header) (text : Option (List ℕ)) : Type 0 where
  pub begins : HasOpenHeader text
  pub apart : begins.header ≢ header

-- Of the header line: a read failed; or no header line begins the text; or one of other counts does.
abbrev pub IsOpenHeaderFault : Header → ℕ → Option (List ℕ) → Faults → Faults → CertFault → Type 0
IsOpenHeaderFault header line text before now Read = now ≡ with_read_fault before
IsOpenHeaderFault header line text before now (Grammar number) =
    (number ≡ lines_on line 1) × LacksOpenHeader text × (now ≡ before)
IsOpenHeaderFault header line text before now (Count number) =
    (number ≡ lines_on line 1) × HasOtherOpenHeader header text × (now ≡ before)

-- ---- the text, behind so many lines

-- A read failed, or the line is the first that makes the text wrong in this way.
abbrev pub IsWrongLine : (List ℕ → ℕ → Type 0) → ℕ → Option (List ℕ) → Faults → Faults → CertFault → Type 0
IsWrongLine IsWrong line text before now Read = now ≡ with_read_fault before
IsWrongLine IsWrong line text before now (Grammar number) =
    (offset : ℕ) × ((number ≡ lines_on line offset) × IfSome text (λ told. IsWrong told offset) × (now ≡ before))
IsWrongLine IsWrong line text before now (Count number) = ⊥

-- A read failed; or the line is the first with which the text begins none that it may be; or it is the first line of
-- all, a header line of version 4 with other counts.
abbrev pub IsOpenTextFault : Header → Stand → ℕ → Option (List ℕ) → Faults → Faults → CertFault → Type 0
IsOpenTextFault header at line text before now Read = now ≡ with_read_fault before
IsOpenTextFault header at line text before now (Grammar number) =
    (offset : ℕ) × ((number ≡ lines_on line offset) × IfSome text (λ told. IsOpenFault header at told offset)
    × (now ≡ before))
IsOpenTextFault header at line text before now (Count number) =
    (at ≡ First) × (number ≡ lines_on line 1) × HasOtherOpenHeader header text × (now ≡ before)
