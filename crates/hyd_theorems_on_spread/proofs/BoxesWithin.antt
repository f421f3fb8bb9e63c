-- Heads of all nodes of every network within a spread lie between certificates of the two sides, and the flows of links
-- in their boxes.
use Rattle.std.proofs.Common.{◌≡◌, ℕ, ◌<◌, ℤ, ◌-ℤ◌, sym, subst, arith, List}
use Rattle.std.specs.Prelude.{Some, slice_get}
use Rattle.std.proofs.lemmas.Int.{ints}
use Rattle.hyd_num.proofs.Integers.{times_plus, times_minus}
use Rattle.hyd_spec.specs.ProgramTypes.{Project, LinkState}
use Rattle.hyd_spec.specs.declared.TankState.{TankState}
use Rattle.hyd_spec.specs.Assignment.{Assignment, head_at, flow_at, node_heads}
use Rattle.hyd_spec_certificates.specs.declared.Problem.TheVariants.{Main}
use Rattle.hyd_spec_certificates.specs.declared.Side.TheVariants.{Upper, Lower}
use Rattle.hyd_spec_certificates.specs.Interval.{Interval}
use Rattle.hyd_spec_certificates.specs.FlowIntervals.{flow_box}
use Rattle.hyd_spec_certificates.specs.PeriodNetwork.{GridLink, all_heads, grid_links}
use Rattle.hyd_spec_spread.specs.Spreads.{Spread}
use Rattle.hyd_spec_spread.specs.NetworksWithin.{NodeData, with_data}
use Rattle.hyd_spec_spread.specs.OutermostGrids.{IsCertificateOver}
use Rattle.hyd_theorems_on_definitions.specs.LyingInIntervals.{LiesIn, LieBetween}
use Rattle.hyd_theorems_on_definitions.proofs.FlowsAtOneNode.{flow-below, flow-above}
use Rattle.hyd_theorems_on_definitions.proofs.FlowsInBoxes.{IsFollowed, followed_at}
use Rattle.hyd_theorems_on_definitions.proofs.NetOutflowsRise.{SoundLinks}
use Rattle.hyd_theorems_on_spread.specs.AssignmentsWithin.{IsAssignmentWithin}
use Rattle.hyd_theorems_on_spread.proofs.HeadsWithin.{all-below, all-above}
use Rattle.hyd_theorems_on_spread.proofs.LinksWithin.{links-sound, links-alike, count-within}

boxed : (S : ℕ) (below above heads : List ℤ) (link : GridLink) (q : ℤ) → 0 < S → LieBetween S below above heads
    → IsFollowed S heads link q → LiesIn S (flow_box link below above) q
boxed S below above heads link q some between f = record {
  low =
      let l = (between link.from).low in
      let h = (between link.to).high in
      let a = flow-below link.law S (head_at below link.from -ℤ head_at above link.to)
      (head_at heads link.from -ℤ head_at heads link.to) q f.sound some
      (omega (arith, ints, l, h, times_minus S (head_at below link.from) (head_at above link.to))) f.follows in
      rw times_minus (omega (arith, ints, a));
  high =
      let l = (between link.to).low in
      let h = (between link.from).high in
      let a = flow-above link.law S (head_at above link.from -ℤ head_at below link.to)
      (head_at heads link.from -ℤ head_at heads link.to) q f.sound some
      (omega (arith, ints, l, h, times_minus S (head_at above link.from) (head_at below link.to))) f.follows in
      rw times_plus (omega (arith, ints, a));
}

module _ (project : Project) (spread : Spread) (S time : ℕ) (intervals : List Interval) (levels : List ℤ)
    (tanks : List TankState) (links : List LinkState) (nodes : NodeData) (assignment : Assignment)
    (is : IsAssignmentWithin project spread S time intervals levels tanks links nodes assignment) where
  pub heads-between : (below above : List ℤ)
      → (under : IsCertificateOver project spread time intervals tanks links Main Lower below)
      → (over : IsCertificateOver project spread time intervals tanks links Main Upper above)
      → LieBetween S (all_heads under.grid Main Lower below) (all_heads over.grid Main Upper above)
      (node_heads (with_data project nodes) S time levels assignment.heads)
  heads-between below above under over m = record {
    low =
        let l = all-above project spread S time intervals levels tanks links nodes assignment is under.grid below
        under.is_outermost under.is_certificate m in
        omega (arith, ints, l);
    high =
        let l = all-below project spread S time intervals levels tanks links nodes assignment is over.grid above
        over.is_outermost over.is_certificate m in
        omega (arith, ints, l);
  }

  pub flow-within : (below above : List ℤ)
      → LieBetween S below above (node_heads (with_data project nodes) S time levels assignment.heads) → (l : ℕ)
      (link : GridLink) → slice_get (grid_links project tanks project.links.list links) l ≡ Some link
      → LiesIn S (flow_box link below above) (flow_at assignment.flows l)
  flow-within below above between l link at =
      let same = links-alike project nodes tanks project.links.list links
      (count-within project spread time nodes is.within) in
      boxed S below above (node_heads (with_data project nodes) S time levels assignment.heads) link
      (flow_at assignment.flows l) (let s = is.assigned.scale in omega (arith, s)) between
      (followed_at (with_data project nodes) tanks S (node_heads (with_data project nodes) S time levels
      assignment.heads) project.links.list links assignment.flows is.assigned.links_follow
      (subst (λ (ls : List GridLink). SoundLinks ls) (sym same) (links-sound project tanks links is.made)) l link
      (subst (λ (ls : List GridLink). slice_get ls l ≡ Some link) (sym same) at))
