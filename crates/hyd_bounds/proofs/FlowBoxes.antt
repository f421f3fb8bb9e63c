-- The flow box of a link, and vectors that end before a node.
use Rattle.std.proofs.Common.{◌≡◌, ◌≤◌, ℕ, zero, suc, ℤ, pos, ◌+ℤ◌, ◌-ℤ◌, refl, ap, subst, ◌∙◌, arith, List, [], ◌∷◌}
use Rattle.std.proofs.Common.{length, map}
use Rattle.std.specs.Prelude.{Option, slice_get, slice_set, Some}
use Rattle.std.specs.Option.{IfSome}
use Rattle.hyd_num.specs.declared.spans.Span.{Span}
use Rattle.hyd_spec.specs.Assignment.{head_at}
use Rattle.hyd_spec.specs.Scale.{missed_flow_ticks}
use Rattle.hyd_spec_certificates.specs.EnclosingFunctions.{low, high}
use Rattle.hyd_spec_certificates.specs.PeriodNetwork.{GridLink}
use Rattle.hyd_spec_certificates.specs.FlowIntervals.{flow_box}
use Rattle.hyd_law.specs.LinkLaws.{link_low, link_high}
use Rattle.hyd_law.specs.declared.link_law_kinds.LinkLaw.{LinkLaw}
use Rattle.hyd_period_network.specs.declared.junctions_ends_and_settings.Ends.{Ends}
use Rattle.hyd_period_network.specs.ExactLaw.{exact_law}
use Rattle.hyd_vector_check.proofs.FlowsOfLinkEnds.{StandsFor}
use Rattle.hyd_bounds.specs.VectorsInOrder.{IsSpan}

-- the link at a number has these ends
abbrev pub HasTheseEnds : Ends → GridLink → Type 0
HasTheseEnds ends link = (link.from ≡ ends.from) × (link.to ≡ ends.to)

pub ends-of : (links : List GridLink) (k : ℕ) (law : LinkLaw) (ends : Ends) (there : StandsFor links k law)
    → IfSome (slice_get links k) (HasTheseEnds ends) → HasTheseEnds ends there.link
ends-of links k law ends there is = subst (λ (o : Option GridLink). IfSome o (HasTheseEnds ends)) there.is_link is

pub flow-box-is : (links : List GridLink) (k : ℕ) (law : LinkLaw) (ends : Ends) (below above : List ℤ)
    (least greatest : ℤ) (span : Span)
    → StandsFor links k law → IfSome (slice_get links k) (HasTheseEnds ends)
    → least ≡ (head_at below ends.from -ℤ head_at above ends.to)
    → greatest ≡ (head_at above ends.from -ℤ head_at below ends.to)
    → span.lo ≡ (link_low law least -ℤ pos missed_flow_ticks)
    → span.hi ≡ (link_high law greatest +ℤ pos missed_flow_ticks)
    → IfSome (slice_get links k) (λ (l : GridLink). IsSpan span (flow_box l below above))
flow-box-is links k law ends below above least greatest span there ends_are least_is greatest_is lo_is hi_is =
    let e = ends-of links k law ends there ends_are in
    let d : least ≡ (head_at below there.link.from -ℤ head_at above there.link.to) = rw (e.0, e.1) least_is in
    let g : greatest ≡ (head_at above there.link.from -ℤ head_at below there.link.to) = rw (e.0, e.1) greatest_is in
    rw there.is_link (record {
      lo_is = lo_is
          ∙ ap (λ (q : ℤ). q -ℤ pos missed_flow_ticks) (there.stands.low_is least ∙ ap (low there.link.law) d);
      hi_is = hi_is
          ∙ ap (λ (q : ℤ). q +ℤ pos missed_flow_ticks) (there.stands.high_is greatest ∙ ap (high there.link.law) g);
    })

-- a number put in the place of none changes nothing
pub set-beyond : (u : List ℤ) (i : ℕ) (x : ℤ) → length u ≤ i → slice_set u i x ≡ u
set-beyond [] i x le = refl
set-beyond (h ∷ u) zero x le = absurd (omega (arith, le))
set-beyond (h ∷ u) (suc i) x le = ap (λ (v : List ℤ). h ∷ v) (set-beyond u i x (omega (arith, le)))

pub placed-ends : (links : List GridLink) (k : ℕ) (ends : Ends) (place : GridLink) → slice_get links k ≡ Some place
    → IfSome (slice_get links k) (HasTheseEnds ends) → HasTheseEnds ends place
placed-ends links k ends place at is = subst (λ (o : Option GridLink). IfSome o (HasTheseEnds ends)) at is

pub some-same : {X : Type 0} (x y : X) → Some x ≡ Some y → x ≡ y
some-same x y e = cc

-- the exact law at a number
pub law-at : (own : List LinkLaw) (k : ℕ) (law : LinkLaw) → slice_get own k ≡ Some law
    → slice_get (map exact_law own) k ≡ Some (exact_law law)
law-at [] k law e = cc
law-at (x ∷ own) zero law e = ap (λ (l : LinkLaw). Some (exact_law l)) (some-same x law e)
law-at (x ∷ own) (suc k) law e = law-at own k law e
