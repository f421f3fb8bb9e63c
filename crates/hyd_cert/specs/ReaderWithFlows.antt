-- What a reader of certificate texts of all versions says: what it read, and its faults.
use Rattle.std.specs.Prelude.{◌≡◌, ◌≢◌, ℕ, suc, ◌+◌, ◌*◌, ◌<◌, ℤ, Bool, true, false, List, [], ◌∷◌, ◌++◌, length}
use Rattle.std.specs.Prelude.{Option, ◌⊎◌, All}
use Rattle.hyd_io.specs.DeskBytes.{prepend_known}
use Rattle.hyd_io.specs.declared.desk.Faults.{Faults}
use Rattle.hyd_io.specs.DeskCounts.{with_read_fault}
use Rattle.hyd_spec_flows.specs.FlowParts.{FlowPart as Part}
use Rattle.hyd_spec_flows.specs.FlowTexts.{IsPart, part_text}
use Rattle.hyd_spec_certificates.specs.Certificate.{IsInBox}
use Rattle.hyd_cert.specs.Lines.{Header, header_text, IsHeadLine}
use Rattle.hyd_cert.specs.PlacesOfLines.{Lacks}
use Rattle.hyd_cert.specs.Faults.{lines_on, IsHeaderFault, IsTextFault, LacksRecord}
use Rattle.hyd_cert.specs.ReaderView.{lead, place_of}
use Rattle.hyd_cert.specs.PlacesWithFlows.{FlowPlace, Between as AtBetween, IsFlowsHeaderLine, IsStuckInside}
use Rattle.hyd_cert.specs.PlacesWithFlows.{with_flows}
use Rattle.hyd_cert.specs.PlacesWithFlows.{held_lines}
use Rattle.hyd_cert.specs.declared.answers_of_reader.Stand.{Stand}
use Rattle.hyd_cert.specs.declared.answers_of_reader.Stand.TheVariants.{First, Between, Over, Stuck}
use Rattle.hyd_cert.specs.declared.answers_of_reader.CertFault.{CertFault}
use Rattle.hyd_cert.specs.declared.answers_of_reader.CertFault.TheVariants.{Read, Grammar, Count}

-- ---- what was read

-- The header of the text: the record's, or that of version 3 with its counts where the text has flows.
abbrev pub as_read : Bool → Header → Header
as_read true header = with_flows header
as_read false header = header

-- What stands before the record that is next.
abbrev pub lead_as_read : Bool → Stand → Header → List ℕ
lead_as_read flows at header = lead at (as_read flows header)

-- The lines of the part behind a record, where the text has flows.
abbrev pub part_behind : Bool → Part → List ℕ
part_behind true part = part_text part
part_behind false part = []

-- The part behind a record; none, where the text has no flows.
abbrev pub IsPartBehind : Bool → ℕ → Part → Type 0
IsPartBehind true junctions part = IsPart junctions part
IsPartBehind false junctions part = part ≡ []

-- How many lines a part has.
abbrev pub part_lines : Bool → ℕ → Part → ℕ
part_lines true junctions part = 1 + length part * (1 + 2 * junctions)
part_lines false junctions part = 0

-- ---- faults

-- From a place on: a read failed, or the line is the first that can't stand where it does, inside the entry there.
abbrev pub IsStuckAt : Header → FlowPlace → ℕ → Option (List ℕ) → Faults → Faults → CertFault → Type 0
IsStuckAt header place line text before now Read = now ≡ with_read_fault before
IsStuckAt header place line text before now (Grammar number) =
    (offset : ℕ) × ((number ≡ lines_on line offset) × IsStuckInside header place text offset × (now ≡ before))
IsStuckAt header place line text before now (Count number) = ⊥

-- Of a text that goes on with heads behind their key: so many are right, and fewer than were to come; the next line
-- isn't that of such a head.
pub record IsHeadMissing (front : List ℕ) (count line : ℕ) (text : Option (List ℕ)) (number : ℕ) : Type 0 where
  pub passed : List ℤ
  pub rest : Option (List ℕ)
  pub within : length passed < count
  pub in_box : All IsInBox passed
  pub number_is : number ≡ lines_on line (length passed + 1)
  pub is_text : text ≡ prepend_known (held_lines front passed) rest
  pub lacks : Lacks (IsHeadLine front) rest

-- Of the heads of a vector: a read failed, or one is missing.
abbrev pub IsVectorFault : List ℕ → ℕ → ℕ → Option (List ℕ) → Faults → Faults → CertFault → Type 0
IsVectorFault front count line text before now Read = now ≡ with_read_fault before
IsVectorFault front count line text before now (Grammar number) =
    IsHeadMissing front count line text number × (now ≡ before)
IsVectorFault front count line text before now (Count number) = ⊥

-- The text begins with a header line of version 3, of other counts.
pub record HasOtherCounts (header : Header) (text : Option (List ℕ)) : Type 0 where
  pub other : Header
  pub line : List ℕ
  pub rest : Option (List ℕ)
  pub is_header : IsFlowsHeaderLine other line
  pub apart : other ≢ with_flows header
  pub begins : text ≡ prepend_known (line ++ (10 ∷ [])) rest

-- No header line of version 3 begins the text.
abbrev pub LacksFlowsHeader : Option (List ℕ) → Type 0
LacksFlowsHeader text = (header : Header) → Lacks (IsFlowsHeaderLine header) text

-- What is said of a text whose first line isn't a header line of version 3: no such line begins it, or the record's
-- header does.
abbrev pub HasNoFlows : Header → Option (List ℕ) → Type 0
HasNoFlows header text =
    LacksFlowsHeader text ⊎ ((rest : Option (List ℕ)) × (text ≡ prepend_known (header_text header) rest))

-- The fact, where the fault isn't that a read failed.
abbrev pub OnRefusal : CertFault → Type 0 → Type 0
OnRefusal Read P = Unit {0}
OnRefusal (Grammar line) P = P
OnRefusal (Count line) P = P

-- Of the header line of a text with flows or without: that of a text without them is told as before; a header line of
-- version 3 is refused where it has other counts.
abbrev pub IsHeaderFaultAsRead : Bool → Header → ℕ → Option (List ℕ) → Faults → Faults → CertFault → Type 0
IsHeaderFaultAsRead false header line text before now fault =
    IsHeaderFault header line text before now fault × OnRefusal fault (LacksFlowsHeader text)
IsHeaderFaultAsRead true header line text before now Read = ⊥
IsHeaderFaultAsRead true header line text before now (Grammar number) = ⊥
IsHeaderFaultAsRead true header line text before now (Count number) =
    (number ≡ lines_on line 1) × HasOtherCounts header text × (now ≡ before)

-- Where a text with flows is at fault, by where its reader stands: inside the entry that is next; behind the header
-- line of version 3 with the record's counts, where that is to come.
abbrev pub IsStuckFrom : Header → Stand → Option (List ℕ) → ℕ → Type 0
IsStuckFrom header First text offset =
    (rest : Option (List ℕ)) × ((fewer : ℕ) × ((text ≡ prepend_known (header_text (with_flows header)) rest)
    × (offset ≡ suc fewer) × IsStuckInside header AtBetween rest fewer))
IsStuckFrom header Between text offset = IsStuckInside header AtBetween text offset
IsStuckFrom header (Over end) text offset = ⊥
IsStuckFrom header (Stuck fault) text offset = ⊥

-- Of a text with flows or without: a read failed; or the line is the first that can't stand where it does; or it is the
-- first line of all, a header line of another version or of other counts.
abbrev pub IsFaultAsRead : Bool → Header → Stand → ℕ → Option (List ℕ) → Faults → Faults → CertFault → Type 0
IsFaultAsRead false header at line text before now fault = IsTextFault header (place_of at) line text before now fault
IsFaultAsRead true header at line text before now Read = now ≡ with_read_fault before
IsFaultAsRead true header at line text before now (Grammar number) =
    (offset : ℕ) × ((number ≡ lines_on line offset) × IsStuckFrom header at text offset × (now ≡ before))
IsFaultAsRead true header at line text before now (Count number) =
    (at ≡ First) × (number ≡ lines_on line 1) × HasOtherCounts header text × (now ≡ before)

-- A text without flows doesn't go on with a whole record.
abbrev pub LacksRecordAsRead : Bool → Stand → Header → Option (List ℕ) → Type 0
LacksRecordAsRead false at header text = LacksRecord at header text
LacksRecordAsRead true at header text = Unit {0}
