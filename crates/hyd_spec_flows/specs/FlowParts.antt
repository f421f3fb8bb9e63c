-- The flows of named links: for each link two vectors in which its first node is held, what they have to be, and why a
-- part of a record that holds them is refused. Heads are in head ticks, flows in flow ticks.
-- Source: this program's, from the bounds of heads (Rheinboldt 1970).
use Rattle.std.specs.Prelude.{◌≡◌, ◌≢◌, ℕ, ◌+◌, ◌*◌, ◌<◌, ℤ, List, length, map, slice_get, Some, ◌⊎◌, All, AllPairs}
use Rattle.hyd_spec_certificates.specs.declared.Problem.TheVariants.{Main}
use Rattle.hyd_spec_certificates.specs.declared.Side.{Side}
use Rattle.hyd_spec_certificates.specs.declared.Side.TheVariants.{Upper, Lower}
use Rattle.hyd_spec_certificates.specs.declared.HeldJunction.{HeldJunction}
use Rattle.hyd_spec.specs.Lists.{Each}
use Rattle.hyd_spec.specs.Assignment.{head_at}
use Rattle.hyd_spec_certificates.specs.Interval.{Interval}
use Rattle.hyd_spec_certificates.specs.PeriodNetwork.{Grid, GridLink, opposite}
use Rattle.hyd_spec_certificates.specs.Certificate.{IsCertificateHolding, IsTightHolding, AreRoundsHolding, FailsFirst}
use Rattle.hyd_spec_certificates.specs.Certificate.{IsBeyond}
use Rattle.hyd_spec_certificates.specs.BoxesWithHeldJunction.{held_in, held_flow_box}
use Rattle.hyd_spec_certificates.specs.RecordAndStanding.{Record, Vectors, vector_of, vector_on}
use Rattle.hyd_spec_flows.specs.declared.FlowFails.{FlowFails}
use Rattle.hyd_spec_flows.specs.declared.FlowFails.TheVariants.{Name, Vector}

-- ---- parts

-- A link, by its number, whose flow is asked for, and its two vectors.
pub record NamedLink : Type 0 where
  pub link : ℕ
  pub held : Vectors

-- The links of a record whose flows were asked for, in order.
abbrev pub FlowPart : Type 0
FlowPart = List NamedLink

-- Their numbers.
abbrev pub names_of : FlowPart → List ℕ
names_of part = map (λ named. named.link) part

-- ---- what the vectors have to be

-- The link of this number joins two junctions.
abbrev pub JoinsJunctions : Grid → ℕ → Type 0
JoinsJunctions grid number =
    (link : GridLink) × ((slice_get grid.links number ≡ Some link)
    × ((link.from < length grid.junctions) × (link.to < length grid.junctions)))

-- The first node of a link, held for a side at its head in the record's vector of the other side: the UPPER vector has
-- the least head that it may have there, the LOWER one the greatest.
abbrev pub held_for : Record → GridLink → Side → HeldJunction
held_for row link side = held_in (vector_of row Main (opposite side)) link.from

-- The vector of a side has that node at that head, and every other junction passes.
abbrev pub IsHeldVector : Grid → Record → GridLink → Side → List ℤ → Type 0
IsHeldVector grid row link side u = IsCertificateHolding (Some (held_for row link side)) grid Main side u

-- The vector of a side of a named link, which is one of the network, is such a vector.
abbrev pub HasItsVector : Grid → Record → NamedLink → Side → Type 0
HasItsVector grid row named side =
    (link : GridLink) × ((slice_get grid.links named.link ≡ Some link)
    × IsHeldVector grid row link side (vector_on side named.held))

-- No link of the part is named twice, each joins two junctions, and each has its two vectors.
pub record IsFlowPart (grid : Grid) (row : Record) (part : FlowPart) : Type 0 where
  pub distinct : AllPairs (λ one later. one.link ≢ later.link) part
  pub joins : All (λ named. JoinsJunctions grid named.link) part
  pub vectors : All (λ named. (side : Side) → HasItsVector grid row named side) part

-- ---- how near they are

-- The vector of a side is the nearest where so many plain rounds that leave the held node alone, from the record's
-- vector of the other side, lead to one; at every other junction the record's own vector is as far out, or farther.
pub record IsSharpVector (rounds : ℕ) (grid : Grid) (row : Record) (link : GridLink) (side : Side)
    (u : List ℤ) : Type 0 where
  pub least : (reached : List ℤ)
      → AreRoundsHolding (Some (held_for row link side)) grid Main side rounds
      (vector_of row Main (opposite side)) reached
      → IsHeldVector grid row link side reached
      → IsTightHolding (Some (held_for row link side)) grid Main side u
  pub inside : Each grid.junctions (λ i junction. i ≢ link.from
      → IsBeyond side (head_at u i) (head_at (vector_of row Main side) i))

-- Both vectors of each named link are as near as that.
abbrev pub IsSharpPart : ℕ → Grid → Record → FlowPart → Type 0
IsSharpPart rounds grid row part =
    All (λ named. (link : GridLink) (side : Side) → slice_get grid.links named.link ≡ Some link
    → IsSharpVector rounds grid row link side (vector_on side named.held)) part

-- ---- the interval

-- The interval of the flow of a named link: that of its two vectors.
abbrev pub flow_interval : GridLink → NamedLink → Interval
flow_interval link named = held_flow_box link named.held.lower named.held.upper

-- ---- refusals

-- The name at a place of the part is refused: its link doesn't join two junctions, or stands at an earlier place too.
abbrev pub NameIsRefused : Grid → FlowPart → ℕ → ℕ → Type 0
NameIsRefused grid part place number =
    (JoinsJunctions grid number → ⊥)
    ⊎ ((earlier : ℕ) × ((earlier < place) × (slice_get (names_of part) earlier ≡ Some number)))

-- No name of the part is refused.
abbrev pub NamesAreGood : Grid → FlowPart → Type 0
NamesAreGood grid part =
    (place number : ℕ) → slice_get (names_of part) place ≡ Some number → NameIsRefused grid part place number → ⊥

-- The first name that is refused, in order of places.
pub record IsFirstRefusedName (grid : Grid) (part : FlowPart) (number : ℕ) : Type 0 where
  pub place : ℕ
  pub is_name : slice_get (names_of part) place ≡ Some number
  pub refused : NameIsRefused grid part place number
  pub first : (earlier other : ℕ) → earlier < place → slice_get (names_of part) earlier ≡ Some other
      → NameIsRefused grid part earlier other → ⊥

-- The turn of a vector of a part: links in order, UPPER before LOWER.
abbrev pub vector_turn : ℕ → Side → ℕ
vector_turn place Upper = 2 * place
vector_turn place Lower = 2 * place + 1

-- Where no name is refused, the first vector that isn't what it has to be, and the junction at which it fails first.
pub record IsFirstRefusedVector (grid : Grid) (row : Record) (part : FlowPart) (number : ℕ) (side : Side)
    (junction : ℕ) : Type 0 where
  pub names : NamesAreGood grid part
  pub place : ℕ
  pub named : NamedLink
  pub is_named : slice_get part place ≡ Some named
  pub number_is : named.link ≡ number
  pub earlier : (before : ℕ) (other : NamedLink) (face : Side) → slice_get part before ≡ Some other
      → vector_turn before face < vector_turn place side → HasItsVector grid row other face
  pub link : GridLink
  pub is_link : slice_get grid.links number ≡ Some link
  pub fails : FailsFirst (Some (held_for row link side)) grid Main side (vector_on side named.held) junction

-- A part is refused by this cause: all its names are judged before any vector.
abbrev pub IsRefusedPart : Grid → Record → FlowPart → FlowFails → Type 0
IsRefusedPart grid row part (Name number) = IsFirstRefusedName grid part number
IsRefusedPart grid row part (Vector number side junction) = IsFirstRefusedVector grid row part number side junction
