-- The draw with which a held junction would pass, from what flows out of it at its head.
use Rattle.std.proofs.Common.{◌≡◌, ℕ, ◌<◌, ℤ, pos, neg_ℤ, ◌+ℤ◌, ◌-ℤ◌, ap, subst, ◌∙◌, arith, List, length}
use Rattle.std.specs.Prelude.{slice_set}
use Rattle.std.proofs.lemmas.Int.{ints}
use Rattle.std.proofs.lemmas.List.{set-get_or}
use Rattle.hyd_spec.specs.Assignment.{head_at}
use Rattle.hyd_spec_certificates.specs.declared.Problem.TheVariants.{Main}
use Rattle.hyd_spec_certificates.specs.declared.Side.{Side}
use Rattle.hyd_spec_certificates.specs.declared.Side.TheVariants.{Upper, Lower}
use Rattle.hyd_spec_certificates.specs.PeriodNetwork.{Grid, GridJunction, all_heads}
use Rattle.hyd_spec_certificates.specs.NetOutflow.{margin}
use Rattle.hyd_spec_certificates.specs.BoxesWithHeldJunction.{passing_draw}
use Rattle.hyd_vector_check.specs.NetOutflowBySide.{flows_out, outflow, net_outflow}
use Rattle.hyd_vector_check.proofs.OutflowsBySide.{net-is}

-- q is the net outflow of junction i
pub leaves-is : (side : Side) (grid : Grid) (u : List ℤ) (i : ℕ) (h f o : ℤ) (here : GridJunction) → i < length u
    → h ≡ head_at u i
    → f ≡ flows_out side (all_heads grid Main side (slice_set u i h)) i grid.links → o ≡ outflow side here h
    → (f +ℤ o) ≡ net_outflow side grid Main u i here
leaves-is side grid u i h f o here inside at flows out =
    let whole : slice_set u i h ≡ u = ap (slice_set u i) at ∙ set-get_or u i (pos 0) in
    subst (λ (v : List ℤ). (f +ℤ o) ≡ net_outflow side grid Main v i here) whole
    (net-is side grid Main u i h f o here inside flows out)

pub upper-draw : (side : Side) (grid : Grid) (u : List ℤ) (i : ℕ) (here : GridJunction) (q m d : ℤ) → side ≡ Upper
    → q ≡ net_outflow side grid Main u i here → m ≡ margin grid i → d ≡ (m +ℤ pos 1) -ℤ q
    → d ≡ passing_draw grid side u i here
upper-draw Upper grid u i here q m d is flows margin-is draw = omega (arith, ints, flows, margin-is, draw)
upper-draw Lower grid u i here q m d is flows margin-is draw = absurd (cc)

pub lower-draw : (side : Side) (grid : Grid) (u : List ℤ) (i : ℕ) (here : GridJunction) (q m d : ℤ) → side ≡ Lower
    → q ≡ net_outflow side grid Main u i here → m ≡ margin grid i → d ≡ neg_ℤ (m +ℤ pos 1) -ℤ q
    → d ≡ passing_draw grid side u i here
lower-draw Upper grid u i here q m d is flows margin-is draw = absurd (cc)
lower-draw Lower grid u i here q m d is flows margin-is draw = omega (arith, ints, flows, margin-is, draw)
