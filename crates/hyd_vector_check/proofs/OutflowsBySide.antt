-- Outflows, and net outflows, on both sides.
use Rattle.std.proofs.Common.{◌≡◌, ℕ, ◌<◌, ℤ, pos, ◌+ℤ◌, ◌-ℤ◌, refl, sym, ap, ◌∙◌, arith, true, false, List, length}
use Rattle.std.specs.Prelude.{Option, slice_set}
use Rattle.std.proofs.lemmas.Int.{ints}
use Rattle.std.proofs.lemmas.List.{get_or-set_same}
use Rattle.hyd_spec.specs.ProgramTypes.{Capacity}
use Rattle.hyd_spec_certificates.specs.declared.Problem.{Problem}
use Rattle.hyd_spec_certificates.specs.declared.Side.{Side}
use Rattle.hyd_spec_certificates.specs.declared.Side.TheVariants.{Upper, Lower}
use Rattle.hyd_spec_certificates.specs.EnclosingFunctions.{DemandLaw, demand_low, demand_high, emitter_low}
use Rattle.hyd_spec_certificates.specs.EnclosingFunctions.{emitter_high}
use Rattle.hyd_spec_certificates.specs.PeriodNetwork.{Grid, GridJunction, all_heads}
use Rattle.hyd_spec_certificates.specs.NetOutflow.{outflow_low, outflow_high}
use Rattle.hyd_vector_check.specs.NetOutflowBySide.{is_lower, flows_out, outflow, net_outflow}

pub outflow-is : (side : Side) (junction : GridJunction) (h p d e : ℤ) (demand : DemandLaw) (emitter : Option Capacity)
    → p ≡ h -ℤ junction.elevation → junction.demand ≡ demand → junction.emitter ≡ emitter
    → (is_lower side ≡ false → d ≡ demand_low demand p) → (is_lower side ≡ true → d ≡ demand_high demand p)
    → (is_lower side ≡ false → e ≡ emitter_low emitter p) → (is_lower side ≡ true → e ≡ emitter_high emitter p)
    → (d +ℤ e) ≡ outflow side junction h
outflow-is Upper junction h p d e demand emitter p-is demand-is emitter-is d-low d-high e-low e-high =
    let a : d ≡ demand_low junction.demand (h -ℤ junction.elevation) = d-low refl
    ∙ (λ i. demand_low (sym demand-is i) (p-is i)) in
    let b : e ≡ emitter_low junction.emitter (h -ℤ junction.elevation) = e-low refl
    ∙ (λ i. emitter_low (sym emitter-is i) (p-is i)) in
    omega (arith, ints, a, b)
outflow-is Lower junction h p d e demand emitter p-is demand-is emitter-is d-low d-high e-low e-high =
    let a : d ≡ demand_high junction.demand (h -ℤ junction.elevation) = d-high refl
    ∙ (λ i. demand_high (sym demand-is i) (p-is i)) in
    let b : e ≡ emitter_high junction.emitter (h -ℤ junction.elevation) = e-high refl
    ∙ (λ i. emitter_high (sym emitter-is i) (p-is i)) in
    omega (arith, ints, a, b)

pub net-is : (side : Side) (grid : Grid) (problem : Problem) (u : List ℤ) (i : ℕ) (h f o : ℤ)
    (junction : GridJunction) → i < length u
    → f ≡ flows_out side (all_heads grid problem side (slice_set u i h)) i grid.links → o ≡ outflow side junction h
    → (f +ℤ o) ≡ net_outflow side grid problem (slice_set u i h) i junction
net-is Upper grid problem u i h f o junction lt flows out =
    let e = ap (λ (x : ℤ). outflow_low junction x) (get_or-set_same u i h (pos 0) lt) in
    omega (arith, ints, flows, out, e)
net-is Lower grid problem u i h f o junction lt flows out =
    let e = ap (λ (x : ℤ). outflow_high junction x) (get_or-set_same u i h (pos 0) lt) in
    omega (arith, ints, flows, out, e)
