-- The flows of every assignment lie in the spans.
use Rattle.std.proofs.Common.{◌≡◌, ℕ, ◌+◌, ◌<◌, ℤ, ◌-ℤ◌, ◌≤ℤ◌, zero, suc, refl, sym, ap, subst, ◌∙◌, arith, Bool, List}
use Rattle.std.proofs.Common.{[], ◌∷◌, length}
use Rattle.std.specs.Prelude.{Option, Some, slice_get}
use Rattle.std.specs.Option.{IfSome}
use Rattle.std.proofs.lemmas.Int.{ints}
use Rattle.std.proofs.lemmas.List.{length-map}
use Rattle.hyd_num.specs.declared.spans.Span.{Span}
use Rattle.hyd_num.proofs.Integers.{times_minus}
use Rattle.hyd_net.specs.ListView.{ListView}
use Rattle.hyd_spec.specs.ProgramTypes.{HeadPoint, LinkKind, LinkState}
use Rattle.hyd_spec.specs.Scale.{at_scale}
use Rattle.hyd_spec.specs.NodeNumbers.{tank_node}
use Rattle.hyd_spec.specs.DemandsHeadsAndPumpLifts.{reservoir_head}
use Rattle.hyd_spec.specs.Assignment.{head_at, node_heads}
use Rattle.hyd_spec_certificates.specs.SpansAsIntervals.{flows_of}
use Rattle.hyd_spec_certificates.specs.declared.Problem.TheVariants.{Main, Pinned}
use Rattle.hyd_spec_certificates.specs.declared.Side.TheVariants.{Upper, Lower}
use Rattle.hyd_spec_certificates.specs.Interval.{Interval}
use Rattle.hyd_spec_certificates.specs.PeriodNetwork.{Grid, GridLink, GridJunction, all_heads}
use Rattle.hyd_spec_certificates.specs.FlowIntervals.{difference, flow_box, out_box, inflow_box}
use Rattle.hyd_spec_certificates.specs.StatusesOfLinks.{status_of}
use Rattle.hyd_spec_certificates.specs.declared.StatusWord.{StatusWord}
use Rattle.hyd_spec_certificates.specs.StatusesOfLinks.{StatusHolds}
use Rattle.hyd_theorems_on_definitions.specs.LyingInIntervals.{LiesIn, LieBetween}
use Rattle.hyd_theorems_on_definitions.proofs.FlowsInBoxes.{heads_between, flow_lies, outflow_lies}
use Rattle.hyd_theorems_on_definitions.proofs.ComparisonPrinciple.{one_each}
use Rattle.hyd_theorems_on_definitions.proofs.PinnedTankInflows.{inflow_lies}
use Rattle.hyd_theorems_on_definitions.proofs.StatusWords.{status_holds}
use Rattle.hyd_bounds.specs.VectorsInOrder.{IsSpan}
use Rattle.hyd_bounds.specs.FlowsAndStatusesOfAssignments.{HoldsFlow, HoldsOutflow, HoldsInflow, HoldsStatus}
use Rattle.hyd_lemmas.proofs.ListsOptionsAndResults.{item_there}

-- what lies in an interval lies in its span
in-span : (S : ℕ) (span : Span) (interval : Interval) (z : ℤ) → IsSpan span interval → LiesIn S interval z
    → LiesIn S (flows_of span) z
in-span S span interval z is lies = record {
  low = subst (λ (x : ℤ). at_scale S x ≤ℤ z) (sym is.lo_is) lies.low;
  high = subst (λ (x : ℤ). z ≤ℤ at_scale S x) (sym is.hi_is) lies.high;
}

-- the links of a grid, by number
link-at : (links : List GridLink) (l : ℕ) → l < length links → (link : GridLink) × (slice_get links l ≡ Some link)
link-at [] l lt = absurd (omega (arith, lt))
link-at (x ∷ links) zero lt = (x, refl)
link-at (x ∷ links) (suc l) lt = link-at links l (omega (arith, lt))

module _ (grid : Grid) where
  pub holds-flow : (below above : List ℤ) (l : ℕ) (span : Span) → l < length grid.links
      → IfSome (slice_get grid.links l) (λ (link : GridLink). IsSpan span (flow_box link (all_heads grid Main Lower
      below) (all_heads grid Main Upper above)))
      → HoldsFlow grid below above l span
  holds-flow below above l span lt box project S time intervals levels tanks links assignment compared under over =
      let at = link-at grid.links l lt in
      let is = subst (λ (o : Option GridLink). IfSome o (λ (link : GridLink). IsSpan span (flow_box link (all_heads
      grid Main Lower below) (all_heads grid Main Upper above)))) at.1 box in
      in-span S span _ _ is (flow_lies project S time intervals levels tanks links assignment grid _ _ compared
      (heads_between project S time intervals levels tanks links assignment grid below above compared under over) l
      at.0 at.1)

  pub holds-outflow : (j : ℕ) (low high : ℤ) (span : Span) → j < length grid.junctions
      → IfSome (slice_get grid.junctions j) (λ (junction : GridJunction). IsSpan span (out_box junction low high))
      → HoldsOutflow grid j low high span
  holds-outflow j low high span lt box project S time intervals levels tanks links assignment below above compared
      under over low_is high_is =
      let at = item_there grid.junctions j lt in
      let is = subst (λ (o : Option GridJunction). IfSome o (λ (junction : GridJunction). IsSpan span (out_box junction
      low high))) at.1 box in
      let here : IsSpan span (out_box at.0 (head_at below j) (head_at above j)) = rw (low_is, high_is) is in
      in-span S span _ _ here (outflow_lies project S time intervals levels tanks links assignment grid below above
      compared under over j at.0 at.1)

  pub holds-inflow : (k node count : ℕ) (below above : List ℤ) (span : Span) → length grid.junctions ≡ count
      → node ≡ count + length grid.reservoirs + k
      → IsSpan span (inflow_box grid k node below above) → HoldsInflow grid k below above span
  holds-inflow k node count below above span each node_is box project S time intervals levels tanks links assignment
      compared under over =
      let long = one_each project S time intervals levels tanks links assignment grid (Pinned k) Lower below compared
      under in
      let heads = compared.assigned.head_each in
      let own = under.one_each in
      let reservoirs = ap (λ (xs : List ℤ). length xs) compared.is_grid.reservoirs ∙ length-map project.reservoirs.list
      (reservoir_head project time) in
      let same : node ≡ tank_node project k = omega (arith, long, heads, own, each, reservoirs, node_is) in
      in-span S span _ _ (subst (λ (n : ℕ). IsSpan span (inflow_box grid k n below above)) same box)
      (inflow_lies project S time intervals levels tanks links assignment grid k below above compared under over)

  -- the head difference along a link lies between those of the certificates
  difference-lies : (S : ℕ) (below above heads : List ℤ) (link : GridLink) → LieBetween S below above heads
      → LiesIn S (difference link below above) (head_at heads link.from -ℤ head_at heads link.to)
  difference-lies S below above heads link between = record {
    low = let l = (between link.from).low in let h = (between link.to).high in omega (
      arith,
      ints,
      l,
      h,
      times_minus S
          (head_at below link.from) (head_at above link.to),
    );
    high = let l = (between link.to).low in let h = (between link.from).high in omega (
      arith,
      ints,
      l,
      h,
      times_minus S
          (head_at above link.from) (head_at below link.to),
    );
  }

  pub holds-status : (below above : List ℤ) (us : Bool) (bends : List (ListView HeadPoint)) (kind : LinkKind) (state :
      LinkState) (link : GridLink) (word : StatusWord)
      → word ≡ status_of us bends kind state (difference link (all_heads grid Main Lower below) (all_heads grid Main
      Upper above))
      → HoldsStatus grid below above us bends kind state link word
  holds-status below above us bends kind state link word is project S time intervals levels tanks links assignment unit
      patterns compared under over made sizes =
      let heads = node_heads project S time levels assignment.heads in
      let d = difference link (all_heads grid Main Lower below) (all_heads grid Main Upper above) in
      let x = head_at heads link.from -ℤ head_at heads link.to in
      subst (λ (w : StatusWord). StatusHolds us bends w kind state S x) (sym is)
      (status_holds unit us patterns bends kind state S d x compared.some made sizes (difference-lies S _ _ heads link
      (heads_between project S time intervals levels tanks links assignment grid below above compared under over)))
