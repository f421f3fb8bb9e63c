-- The lines of a certificate text with flows, where they stand, and where a text is at fault in an entry.
-- Source: this program's format.
use Rattle.std.specs.Prelude.{◌≡◌, ◌≢◌, ℕ, zero, suc, ◌+◌, ◌*◌, ◌<◌, ◌≤◌, ◌^◌, nat_lt, ℤ, ◌⊎◌, List, [], ◌∷◌, ◌++◌}
use Rattle.std.specs.Prelude.{length, take, drop, Option, Some, codes, decimal, if◌then◌else◌}
use Rattle.std.specs.Fmt.{signed_decimal}
use Rattle.hyd_io.specs.DeskBytes.{prepend_known}
use Rattle.hyd_spec_certificates.specs.CertificateText.{words}
use Rattle.hyd_spec_flows.specs.FlowTexts.{flows_version, most_names}
use Rattle.hyd_cert.specs.Lines.{Header, header_words, IsPeriodLine, IsHeadLine, IsEndLine}
use Rattle.hyd_cert.specs.PlacesOfLines.{Lacks, front_at, heads_in}

-- ---- lines, without their line feeds

-- The header of the texts with flows that have the same counts.
abbrev pub with_flows : Header → Header
with_flows header = record header { version = flows_version }

-- `HYDCERT 3 n k`, of counts of any size that the line has room for.
pub record IsFlowsHeaderLine (header : Header) (line : List ℕ) : Type 0 where
  pub known : header.version ≡ flows_version
  pub junctions_fit : header.junctions < 10 ^ 64
  pub tanks_fit : header.tanks < 10 ^ 64
  pub short : length line < 64
  pub is : line ≡ header_words header

-- `FLOWS f`, from 1 to 16
pub record IsFlowsLine (count : ℕ) (line : List ℕ) : Type 0 where
  pub some : 1 ≤ count
  pub at_most : count ≤ most_names
  pub is : line ≡ words (codes "FLOWS" ∷ (decimal count ∷ []))

-- `LINK l`
pub record IsNameLine (number : ℕ) (line : List ℕ) : Type 0 where
  pub fits : number < 2 ^ 32
  pub is : line ≡ words (codes "LINK" ∷ (decimal number ∷ []))

-- The lines of the heads of one vector, behind its key and a space.
abbrev pub held_lines : List ℕ → List ℤ → List ℕ
held_lines front [] = []
held_lines front (u ∷ us) = front ++ (signed_decimal u ++ (10 ∷ held_lines front us))

-- The lines of a link's two vectors, one behind the other.
abbrev pub held_text : ℕ → List ℤ → List ℕ
held_text junctions heads =
    held_lines (codes "FU ") (take junctions heads) ++ held_lines (codes "FL ") (drop junctions heads)

-- ---- places

-- Where a line of an entry stands: where a record begins or the END line stands; where the head of this number of the
-- record stands; where the FLOWS line stands; where the LINK line stands that has so many behind it; where the head of
-- this number of a link's two vectors stands, with so many LINK lines behind it; and behind the END line.
pub data FlowPlace : Type 0 where
  Between : FlowPlace
  Head : ℕ → FlowPlace
  Flows : FlowPlace
  Name : ℕ → FlowPlace
  HeldHead : ℕ → ℕ → FlowPlace
  Over : FlowPlace

-- The place behind so many heads of a record.
abbrev pub flows_after : ℕ → ℕ → FlowPlace
flows_after heads i = if nat_lt i heads then Head i else Flows

-- The place behind a link that has so many links behind it.
abbrev pub behind_link : ℕ → FlowPlace
behind_link zero = Between
behind_link (suc left) = Name left

-- The place behind so many heads of such a link.
abbrev pub held_after : ℕ → ℕ → ℕ → FlowPlace
held_after junctions left i = if nat_lt i (2 * junctions) then HeldHead left i else behind_link left

-- The key of the vector in which the head of this number stands, and a space.
abbrev pub held_front : ℕ → ℕ → List ℕ
held_front junctions i = if nat_lt i junctions then codes "FU " else codes "FL "

-- The line can stand at the place, and the next one then stands at the place after it.
abbrev pub CanFollow : Header → FlowPlace → List ℕ → FlowPlace → Type 0
CanFollow header Between line next =
    (IsPeriodLine line × (next ≡ flows_after (heads_in header.junctions header.tanks) 0))
    ⊎ (IsEndLine line × (next ≡ Over))
CanFollow header (Head i) line next =
    IsHeadLine (front_at header.junctions i) line
    × (next ≡ flows_after (heads_in header.junctions header.tanks) (i + 1))
CanFollow header Flows line next = (left : ℕ) × (IsFlowsLine (suc left) line × (next ≡ Name left))
CanFollow header (Name left) line next =
    (number : ℕ) × (IsNameLine number line × (next ≡ held_after header.junctions left 0))
CanFollow header (HeldHead left i) line next =
    IsHeadLine (held_front header.junctions i) line × (next ≡ held_after header.junctions left (i + 1))
CanFollow header Over line next = ⊥

-- Of a text that goes on at a place inside an entry, or before one, the line of this number, counted from 1, is the
-- first that can't stand where it does, and one of that entry: no line that can begins what is left there, or the END
-- line was and something is left.
pub data IsStuckInside (header : Header) : FlowPlace → Option (List ℕ) → ℕ → Type 0 where
  here : {place : FlowPlace} {text : Option (List ℕ)}
      → ((next : FlowPlace) → Lacks (λ line. CanFollow header place line next) text)
      → (place ≡ Over → text ≢ Some []) → IsStuckInside header place text 1
  later : {place next : FlowPlace} (line : List ℕ) {rest : Option (List ℕ)} {number : ℕ}
      → CanFollow header place line next → next ≢ Between → IsStuckInside header next rest number
      → IsStuckInside header place (prepend_known (line ++ (10 ∷ [])) rest) (suc number)
