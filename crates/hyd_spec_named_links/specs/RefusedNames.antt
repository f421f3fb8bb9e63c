-- The first of the names that a run was asked to name that is refused, and the line that tells it.
-- Source: this program's.
use Rattle.std.specs.Prelude.{◌≡◌, ℕ, suc, List, [], ◌∷◌, All, take, slice_get, Some, codes, decimal}
use Rattle.hyd_spec.specs.ProgramTypes.{Project}
use Rattle.hyd_spec_certificates.specs.CertificateText.{line}
use Rattle.hyd_spec_named_links.specs.NamedLinks.{IsLinkNamed, NamesNoLink, JoinsTwoJunctions}
use Rattle.hyd_spec_named_links.specs.declared.NameFails.{NameFails}
use Rattle.hyd_spec_named_links.specs.declared.NameFails.TheVariants.{NoLink, NotBetweenJunctions}

-- The name is that of a link that joins two junctions.
abbrev pub IsGoodName : Project → List ℕ → Type 0
IsGoodName project name = (number : ℕ) × (IsLinkNamed project name number × JoinsTwoJunctions project number)

-- The name is refused for a cause: no link has it, or one has that doesn't join two junctions.
abbrev pub NameIsRefused : Project → List ℕ → NameFails → Type 0
NameIsRefused project name NoLink = NamesNoLink project name
NameIsRefused project name NotBetweenJunctions =
    (number : ℕ) × (IsLinkNamed project name number × (JoinsTwoJunctions project number → ⊥))

-- The first name that is refused in either way, in the order in which they were given, its place among them, which
-- counts from 1, and its cause: all names before it are good.
pub record IsRefusedAt (project : Project) (names : List (List ℕ)) (place : ℕ) (cause : NameFails) : Type 0 where
  pub before : ℕ
  pub place_is : place ≡ suc before
  pub name : List ℕ
  pub is_name : slice_get names before ≡ Some name
  pub refused : NameIsRefused project name cause
  pub first : All (IsGoodName project) (take before names)

-- The number of a cause in the line, as for a name that isn't there and for a value out of range in a file.
abbrev pub name_cause_number : NameFails → ℕ
name_cause_number NoLink = 5
name_cause_number NotBetweenJunctions = 3

-- `REFUSED line 0 cause C detail I`: the cause and the place of the name.
abbrev pub refused_name_line : ℕ → NameFails → List ℕ
refused_name_line place cause =
    line (codes "REFUSED" ∷ (codes "line" ∷ (decimal 0 ∷ (codes "cause" ∷ (decimal (name_cause_number cause)
    ∷ (codes "detail" ∷ (decimal place ∷ [])))))))
