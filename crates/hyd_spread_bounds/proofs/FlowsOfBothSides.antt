-- The head difference along a link and its flow box, from heads of all nodes below and above.
use Rattle.std.proofs.Common.{◌≡◌, ℕ, zero, suc, ℤ, pos, ◌+ℤ◌, ◌-ℤ◌, ◌≤ℤ◌, ap, ap₂, subst, ◌∙◌, arith, List, [], ◌∷◌}
use Rattle.std.specs.Prelude.{Option, slice_get}
use Rattle.std.specs.Option.{IfSome}
use Rattle.std.proofs.lemmas.Int.{ints}
use Rattle.hyd_num.specs.declared.spans.Span.{Span}
use Rattle.hyd_spec.specs.Assignment.{head_at}
use Rattle.hyd_spec.specs.Scale.{missed_flow_ticks}
use Rattle.hyd_spec_certificates.specs.Interval.{Interval}
use Rattle.hyd_spec_certificates.specs.EnclosingFunctions.{low, high}
use Rattle.hyd_spec_certificates.specs.PeriodNetwork.{GridLink}
use Rattle.hyd_spec_certificates.specs.FlowIntervals.{difference, flow_box}
use Rattle.hyd_law.specs.LinkLaws.{link_low, link_high}
use Rattle.hyd_law.specs.declared.link_law_kinds.LinkLaw.{LinkLaw}
use Rattle.hyd_period_network.specs.declared.junctions_ends_and_settings.Ends.{Ends}
use Rattle.hyd_vector_check.proofs.FlowsOfLinkEnds.{StandsFor}
use Rattle.hyd_bounds.specs.VectorsInOrder.{IsSpan, AreInOrder}
use Rattle.hyd_bounds.proofs.FlowBoxes.{HasTheseEnds}

abbrev pub between : ℤ → ℤ → Interval
between lo hi = record { lo = lo; hi = hi }

-- two numbers are the head difference along a link
abbrev pub IsDifference : List ℤ → List ℤ → ℤ → ℤ → GridLink → Type 0
IsDifference below above least greatest link = between least greatest ≡ difference link below above

pub difference-is : (links : List GridLink) (k : ℕ) (ends : Ends) (below above : List ℤ) (least greatest : ℤ)
    → IfSome (slice_get links k) (HasTheseEnds ends)
    → least ≡ (head_at below ends.from -ℤ head_at above ends.to)
    → greatest ≡ (head_at above ends.from -ℤ head_at below ends.to)
    → IfSome (slice_get links k) (IsDifference below above least greatest)
difference-is [] k ends below above least greatest is lo hi = tt
difference-is (x ∷ links) zero ends below above least greatest is lo hi = rw (is.0, is.1) (ap₂ between lo hi)
difference-is (x ∷ links) (suc k) ends below above least greatest is lo hi =
    difference-is links k ends below above least greatest is lo hi

module _ (links : List GridLink) (k : ℕ) (law : LinkLaw) (below above : List ℤ) (least greatest : ℤ)
    (there : StandsFor links k law) (is : IfSome (slice_get links k) (IsDifference below above least greatest)) where
  its-difference : between least greatest ≡ difference there.link below above
  its-difference =
      subst (λ (o : Option GridLink). IfSome o (IsDifference below above least greatest)) there.is_link is

  pub differences-ordered : AreInOrder (pos 0) below above → least ≤ℤ greatest
  differences-ordered order =
      let lo = ap (λ (x : Interval). x.lo) its-difference in
      let hi = ap (λ (x : Interval). x.hi) its-difference in
      let from = order there.link.from in
      let to = order there.link.to in
      omega (arith, ints, lo, hi, from, to)

  pub flow-is : (span : Span) → span.lo ≡ (link_low law least -ℤ pos missed_flow_ticks)
      → span.hi ≡ (link_high law greatest +ℤ pos missed_flow_ticks)
      → IfSome (slice_get links k) (λ (l : GridLink). IsSpan span (flow_box l below above))
  flow-is span lo hi = rw there.is_link (record {
    lo_is = lo ∙ ap (λ (q : ℤ). q -ℤ pos missed_flow_ticks) (there.stands.low_is least
        ∙ ap (λ (x : Interval). low there.link.law x.lo) its-difference);
    hi_is = hi ∙ ap (λ (q : ℤ). q +ℤ pos missed_flow_ticks) (there.stands.high_is greatest
        ∙ ap (λ (x : Interval). high there.link.law x.hi) its-difference);
  })
