-- The links that a run is asked to name: their names, which are lists of bytes, and their numbers, which count from 0.
-- Source: this program's.
use Rattle.std.specs.Prelude.{◌≡◌, ◌≢◌, ℕ, ◌<◌, ◌≤◌, List, length, slice_get, Some, All, AllPairs}
use Rattle.std.specs.List.{AllZip}
use Rattle.hyd_spec.specs.ProgramTypes.{Project, Link}
use Rattle.hyd_spec.specs.NodeNumbers.{junction_count}
use Rattle.hyd_spec_flows.specs.FlowTexts.{most_names}

-- The link of this number has this name, in the bytes of the file. A network has no two links of one name.
abbrev pub IsLinkNamed : Project → List ℕ → ℕ → Type 0
IsLinkNamed project name number = slice_get project.link_ids number ≡ Some name

-- No link has it.
abbrev pub NamesNoLink : Project → List ℕ → Type 0
NamesNoLink project name = (number : ℕ) → IsLinkNamed project name number → ⊥

-- There is a link of this number, and it joins two junctions: neither of its nodes is a reservoir or a tank.
abbrev pub JoinsTwoJunctions : Project → ℕ → Type 0
JoinsTwoJunctions project number =
    (link : Link) × ((slice_get project.links.list number ≡ Some link)
    × ((link.from < junction_count project) × (link.to < junction_count project)))

-- The links of these names have these numbers, in order: as many numbers as names.
abbrev pub AreLinksOf : Project → List (List ℕ) → List ℕ → Type 0
AreLinksOf project names numbers = AllZip (IsLinkNamed project) names numbers

-- A run may name the links of these numbers: one of them at least and 16 at most, none twice, and each joins two
-- junctions.
pub record MayBeNamed (project : Project) (numbers : List ℕ) : Type 0 where
  pub some : 1 ≤ length numbers
  pub at_most : length numbers ≤ most_names
  pub distinct : AllPairs (λ one later. one ≢ later) numbers
  pub join : All (JoinsTwoJunctions project) numbers
