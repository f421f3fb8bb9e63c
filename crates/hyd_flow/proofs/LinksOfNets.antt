-- The links of a net that join two junctions.
use Rattle.std.proofs.Common.{◌≡◌, ℕ, ◌<◌, length, subst, Option, IfSome}
use Rattle.std.specs.Prelude.{slice_get}
use Rattle.std.proofs.lemmas.Option.{slice_get_within}
use Rattle.hyd_spec_certificates.specs.PeriodNetwork.{Grid, GridLink}
use Rattle.hyd_spec_flows.specs.FlowParts.{JoinsJunctions}

-- it is one of the grid
pub link_in : (grid : Grid) (number : ℕ) → JoinsJunctions grid number → number < length grid.links
link_in grid number joins = slice_get_within grid.links number joins.0 joins.1.0

-- its nodes as the net tells them
pub ends_are : (grid : Grid) (number from to : ℕ) (joins : JoinsJunctions grid number)
    → IfSome (slice_get grid.links number) (λ (l : GridLink). (l.from ≡ from) × (l.to ≡ to))
    → (joins.0.from ≡ from) × (joins.0.to ≡ to)
ends_are grid number from to joins told =
    subst (λ (o : Option GridLink). IfSome o (λ (l : GridLink). (l.from ≡ from) × (l.to ≡ to))) joins.1.0 told

pub from_inside : (grid : Grid) (number from to : ℕ) (joins : JoinsJunctions grid number)
    → IfSome (slice_get grid.links number) (λ (l : GridLink). (l.from ≡ from) × (l.to ≡ to))
    → from < length grid.junctions
from_inside grid number from to joins told =
    subst (λ (n : ℕ). n < length grid.junctions) (ends_are grid number from to joins told).0 joins.1.1.0

pub to_inside : (grid : Grid) (number from to : ℕ) (joins : JoinsJunctions grid number)
    → IfSome (slice_get grid.links number) (λ (l : GridLink). (l.from ≡ from) × (l.to ≡ to))
    → to < length grid.junctions
to_inside grid number from to joins told =
    subst (λ (n : ℕ). n < length grid.junctions) (ends_are grid number from to joins told).1 joins.1.1.1
