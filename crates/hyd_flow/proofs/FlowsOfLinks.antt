-- The interval of a named link by its law.
use Rattle.std.proofs.Common.{◌≡◌, ℕ, ℤ, pos, ◌+ℤ◌, ◌-ℤ◌, ◌≤ℤ◌, List, length, All, sym, ap, subst, ◌∙◌, Option, IfSome}
use Rattle.std.specs.Prelude.{Some, slice_get}
use Rattle.hyd_num.specs.declared.spans.Span.{Span}
use Rattle.hyd_spec.specs.Assignment.{head_at}
use Rattle.hyd_spec.specs.Scale.{missed_flow_ticks}
use Rattle.hyd_spec_certificates.specs.Certificate.{IsInBox}
use Rattle.hyd_spec_certificates.specs.EnclosingFunctions.{low, high}
use Rattle.hyd_spec_certificates.specs.PeriodNetwork.{Grid, GridLink}
use Rattle.hyd_spec_certificates.specs.RecordAndStanding.{Record, vector_on}
use Rattle.hyd_spec_certificates.specs.declared.Side.{Side}
use Rattle.hyd_spec_flows.specs.FlowParts.{NamedLink, HasItsVector, JoinsJunctions, flow_interval}
use Rattle.hyd_law.specs.LinkLaws.{link_low, link_high}
use Rattle.hyd_law.specs.declared.link_law_kinds.LinkLaw.{LinkLaw}
use Rattle.hyd_bounds.specs.VectorsInOrder.{IsSpan}
use Rattle.hyd_period_network.specs.LawsInSettings.{Stands}
use Rattle.hyd_lemmas.proofs.ListsOptionsAndResults.{same_item}
use Rattle.hyd_theorems_on_flows.specs.RecordOnGrid.{IsCertified}
use Rattle.hyd_theorems_on_flows.proofs.IntervalsInOrder.{interval_in_order}
use Rattle.hyd_flow.proofs.LinksOfNets.{ends_are}

-- a vector has a head in the box for each junction
pub long_there : (grid : Grid) (row : Record) (named : NamedLink) (side : Side) (u : List ℤ)
    → u ≡ vector_on side named.held → HasItsVector grid row named side → length u ≡ length grid.junctions
long_there grid row named side u is has = ap length is ∙ has.1.1.one_each

pub box_there : (grid : Grid) (row : Record) (named : NamedLink) (side : Side) (u : List ℤ)
    → u ≡ vector_on side named.held → HasItsVector grid row named side → All IsInBox u
box_there grid row named side u is has = subst (All IsInBox) (sym is) has.1.1.in_box

module _ (grid : Grid) (row : Record) (named : NamedLink) (law : LinkLaw) (from to : ℕ)
    (joins : JoinsJunctions grid named.link)
    (told : IfSome (slice_get grid.links named.link) (λ (l : GridLink). (l.from ≡ from) × (l.to ≡ to)))
    (stands : IfSome (slice_get grid.links named.link) (λ (l : GridLink). Stands law l.law)) (low_at high_at : ℤ)
    (low_is : low_at ≡ (head_at named.held.upper from -ℤ head_at named.held.upper to))
    (high_is : high_at ≡ (head_at named.held.lower from -ℤ head_at named.held.lower to)) where
  its_stands : Stands law joins.0.law
  its_stands = subst (λ (o : Option GridLink). IfSome o (λ (l : GridLink). Stands law l.law)) joins.1.0 stands

  pub low_end : (link_low law low_at -ℤ pos missed_flow_ticks) ≡ (flow_interval joins.0 named).lo
  low_end =
      let e = ends_are grid named.link from to joins told in
      let d : low_at ≡ (head_at named.held.upper joins.0.from -ℤ head_at named.held.upper joins.0.to) =
      rw (e.0, e.1) low_is in
      ap (λ (q : ℤ). q -ℤ pos missed_flow_ticks) (its_stands.low_is low_at ∙ ap (low joins.0.law) d)

  pub high_end : (link_high law high_at +ℤ pos missed_flow_ticks) ≡ (flow_interval joins.0 named).hi
  high_end =
      let e = ends_are grid named.link from to joins told in
      let d : high_at ≡ (head_at named.held.lower joins.0.from -ℤ head_at named.held.lower joins.0.to) =
      rw (e.0, e.1) high_is in
      ap (λ (q : ℤ). q +ℤ pos missed_flow_ticks) (its_stands.high_is high_at ∙ ap (high joins.0.law) d)

  pub ends_ordered : IsCertified grid row → ((side : Side) → HasItsVector grid row named side)
      → (link_low law low_at -ℤ pos missed_flow_ticks) ≤ℤ (link_high law high_at +ℤ pos missed_flow_ticks)
  ends_ordered is has =
      subst (λ (z : ℤ). z ≤ℤ (link_high law high_at +ℤ pos missed_flow_ticks)) (sym low_end)
      (subst (λ (z : ℤ). (flow_interval joins.0 named).lo ≤ℤ z) (sym high_end)
      (interval_in_order grid row is joins.0 named joins.1.0 joins.1.1.0 joins.1.1.1 has))

  pub span_is : (span : Span) → span.lo ≡ (link_low law low_at -ℤ pos missed_flow_ticks)
      → span.hi ≡ (link_high law high_at +ℤ pos missed_flow_ticks)
      → (link : GridLink) → slice_get grid.links named.link ≡ Some link → IsSpan span (flow_interval link named)
  span_is span lo hi link at =
      subst (λ (l : GridLink). IsSpan span (flow_interval l named))
      (same_item GridLink joins.0 link (sym joins.1.0 ∙ at))
      (record { lo_is = lo ∙ low_end; hi_is = hi ∙ high_end })
