-- Heads and flows that are read, one after another.
use Rattle.std.proofs.Common.{◌≡◌, ℕ, ◌+◌, ◌<◌, ◌≤◌, ℤ, pos, List, [], ◌∷◌, ◌++◌, length, map, take, Option, Some, sym}
use Rattle.std.proofs.Common.{ap, subst, ◌∙◌, append_assoc, arith}
use Rattle.std.specs.Prelude.{slice_get, IfSome}
use Rattle.std.proofs.lemmas.List.{take_more, take_all, map_push, map_more, length-map}
use Rattle.std.proofs.lemmas.Option.{slice_get_within, slice_get-get_or}
use Rattle.hyd_num.specs.declared.spans.Span.{Span}
use Rattle.hyd_spec.specs.ProgramTypes.{Project}
use Rattle.hyd_spec.specs.Assignment.{head_at}
use Rattle.hyd_spec.specs.NodeNumbers.{nodes_before_tanks}
use Rattle.hyd_spec_certificates.specs.SpansAsIntervals.{flows_of}
use Rattle.hyd_spec_certificates.specs.Interval.{Interval}
use Rattle.hyd_spec_certificates.specs.PeriodNetwork.{GridLink}
use Rattle.hyd_period_network.specs.NetView.{NetView}
use Rattle.hyd_period_network.specs.Demands.{IsNetJunction}
use Rattle.hyd_period_network.specs.NetsSetToPeriods.{IsNetOf, ends_of}
use Rattle.hyd_lemmas.proofs.ListsOptionsAndResults.{item_is, item_there}
use Rattle.hyd_period_network.proofs.NetOfSoundProject.{long_zipped}
use Rattle.hyd_period_facts.specs.PassedOn.{IsSpan}
use Rattle.hyd_period_facts.proofs.InflowsByNumber.{span_is}

-- ---- counts of a net of a network

pub nodes_are : (project : Project) (net : NetView) → IsNetOf project net
    → length net.junctions + length net.reservoirs ≡ nodes_before_tanks project
nodes_are project net of =
    let junctions = long_zipped IsNetJunction project.junctions.list net.junctions of.junctions in
    let reservoirs = of.each_reservoir in
    omega (arith, junctions, reservoirs)

pub links_are : (project : Project) (net : NetView) → IsNetOf project net
    → length net.ends ≡ length project.links.list
links_are project net of = ap length of.ends ∙ length-map project.links.list ends_of

-- ---- reservoirs

-- one reservoir more
pub one_behind : (before heads reservoirs : List ℤ) (r : ℕ) (head : ℤ) → slice_get reservoirs r ≡ Some head
    → heads ≡ before ++ take r reservoirs
    → heads ++ head ∷ [] ≡ before ++ take (r + 1) reservoirs
one_behind before heads reservoirs r head at is =
    let next = take_more reservoirs r head (slice_get_within reservoirs r head at) in
    let item = item_is reservoirs r head head at in
    ap (λ (hs : List ℤ). hs ++ head ∷ []) is
    ∙ append_assoc before (take r reservoirs) (head ∷ [])
    ∙ ap (λ (hs : List ℤ). before ++ hs)
    (ap (λ (h : ℤ). take r reservoirs ++ h ∷ []) (sym item) ∙ sym next)

-- all reservoirs
pub all_behind : (before heads reservoirs : List ℤ) (r : ℕ) → length reservoirs ≤ r
    → heads ≡ before ++ take r reservoirs → heads ≡ before ++ reservoirs
all_behind before heads reservoirs r past is =
    is ∙ ap (λ (hs : List ℤ). before ++ hs) (take_all r reservoirs past)

-- the head of a reservoir is the item of its number
pub reservoir_is : (reservoirs : List ℤ) (r : ℕ) (head : ℤ) → r < length reservoirs → head ≡ head_at reservoirs r
    → slice_get reservoirs r ≡ Some head
reservoir_is reservoirs r head within is =
    slice_get-get_or reservoirs r (pos 0) within ∙ ap (λ (h : ℤ). Some h) (sym is)

-- ---- flows

-- one flow more
pub one_more : (box : GridLink → Interval) (links : List GridLink) (flows : List Span) (flow : Span) (i : ℕ)
    → i < length links → map flows_of flows ≡ map box (take i links)
    → IfSome (slice_get links i) (λ link. IsSpan flow (box link))
    → map flows_of (flows ++ flow ∷ []) ≡ map box (take (i + 1) links)
one_more box links flows flow i h before here =
    let there = item_there links i h in
    let is : IsSpan flow (box there.0) =
    subst (λ (o : Option GridLink). IfSome o (λ link. IsSpan flow (box link))) there.1 here in
    let item = item_is links i there.0 there.0 there.1 in
    map_push flows_of flows flow
    ∙ ap (λ (boxes : List Interval). boxes ++ flows_of flow ∷ []) before
    ∙ ap (λ (last : Interval). map box (take i links) ++ last ∷ [])
    (span_is flow (box there.0) is ∙ ap box (sym item))
    ∙ sym (map_more box links i there.0 h)

-- all flows
pub all_flows : (box : GridLink → Interval) (links : List GridLink) (flows : List Span) (i : ℕ) → length links ≤ i
    → map flows_of flows ≡ map box (take i links) → map flows_of flows ≡ map box links
all_flows box links flows i past is = is ∙ ap (map box) (take_all i links past)
