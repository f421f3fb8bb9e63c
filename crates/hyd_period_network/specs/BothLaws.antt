-- The two laws of a link as one holds them, and those of all links.
use Rattle.std.specs.Prelude.{◌≡◌, ◌<◌, ℕ, List, [], ◌∷◌, length, slice_index_or}
use Rattle.hyd_law.specs.declared.link_law_kinds.LinkLaw.{LinkLaw}
use Rattle.hyd_period_network.specs.declared.both_laws.BothLaws.{BothLaws}
use Rattle.hyd_period_network.specs.declared.junctions_ends_and_settings.Ends.{Ends}

-- the first of some laws, and where there is none another
abbrev pub first_or : LinkLaw → List LinkLaw → LinkLaw
first_or own [] = own
first_or own (law ∷ laws) = law

-- the law of a link, whatever the tanks at its ends allow
abbrev pub own_of : BothLaws → LinkLaw
own_of both = both.own

-- its law between its tanks
abbrev pub law_of : BothLaws → LinkLaw
law_of both = first_or both.own both.between.items

-- a link that has no room for a second law ends at two of the nodes before this one
abbrev pub IsFree : ℕ → ℕ → ℕ → BothLaws → Type 0
IsFree before from to both = length both.between.items ≡ 0 → (from < before) × (to < before)

-- so it is for each link
abbrev pub AreFree : ℕ → List Ends → List BothLaws → Type 0
AreFree before ends laws = (k : ℕ) (e : Ends) (both : BothLaws) → k < length ends
    → IsFree before (slice_index_or ends k e).from (slice_index_or ends k e).to (slice_index_or laws k both)
