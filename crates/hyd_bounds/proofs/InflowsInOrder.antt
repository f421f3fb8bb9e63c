-- What flows into a tank: from the vectors below at most what flows in from those above.
use Rattle.std.proofs.Common.{◌≡◌, ℕ, zero, suc, ◌+◌, ◌-◌, ◌<◌, ℤ, pos, ◌-ℤ◌, ◌≤ℤ◌, true, ◌==◌, List, [], ◌∷◌, length}
use Rattle.std.proofs.Common.{refl, ap, arith}
use Rattle.std.specs.Prelude.{slice_index_or, if◌then◌else◌}
use Rattle.std.proofs.lemmas.Int.{ints}
use Rattle.std.proofs.lemmas.List.{get_or-append_right}
use Rattle.hyd_spec.specs.Assignment.{head_at}
use Rattle.hyd_spec.specs.Lists.{map_from}
use Rattle.hyd_spec_certificates.specs.declared.Problem.TheVariants.{Pinned}
use Rattle.hyd_spec_certificates.specs.declared.Side.{Side}
use Rattle.hyd_spec_certificates.specs.declared.Side.TheVariants.{Upper, Lower}
use Rattle.hyd_spec_certificates.specs.Interval.{Interval, exactly, width}
use Rattle.hyd_spec_certificates.specs.EnclosingFunctions.{low, high}
use Rattle.hyd_spec_certificates.specs.PeriodNetwork.{Grid, end_on, opposite, tank_side, fixed_heads, all_heads}
use Rattle.hyd_spec_certificates.specs.NetOutflow.{net}
use Rattle.hyd_theorems_on_definitions.specs.SoundLawsAndGrids.{IsSteady}
use Rattle.hyd_theorems_on_definitions.proofs.NetOutflowsRise.{low-rises, high-rises, IsTop, net-rises, net-ordered}
use Rattle.hyd_bounds.specs.VectorsInOrder.{AreInOrder}

same : (k : ℕ) → (k == k) ≡ true
same k = search arith

-- the ends of tanks from number k on, with tank p pinned
abbrev pinned_ends : Side → ℕ → ℕ → List Interval → List ℤ
pinned_ends side p k tanks = map_from (λ j tank. end_on (tank_side (Pinned p) side j) tank) k tanks

lower-end : (p k : ℕ) (x : Interval) → p ≡ k → end_on (if p == k then opposite Lower else Lower) x ≡ x.hi
lower-end p k x e = rw (e, same k) refl

upper-end : (p k : ℕ) (x : Interval) → p ≡ k → end_on (if p == k then opposite Upper else Upper) x ≡ x.lo
upper-end p k x e = rw (e, same k) refl

-- the two heads of a pinned tank are apart by the width of its interval
tank-gap : (p k : ℕ) (tanks : List Interval) (t : ℕ) → p ≡ k + t → t < length tanks
    → (head_at (pinned_ends Lower p k tanks) t -ℤ head_at (pinned_ends Upper p k tanks) t)
    ≡ width (slice_index_or tanks t (exactly (pos 0)))
tank-gap p k [] t e lt = absurd (omega (arith, lt))
tank-gap p k (x ∷ tanks) zero e lt =
    let here : p ≡ k = omega (arith, e) in
    let a = lower-end p k x here in
    let b = upper-end p k x here in
    omega (arith, ints, a, b)
tank-gap p k (x ∷ tanks) (suc t) e lt = tank-gap p (suc k) tanks t (omega (arith, e)) (omega (arith, lt))

-- the node of tank number t, after so many junctions and the reservoirs
node-gap : (grid : Grid) (t node count : ℕ) (u v : List ℤ) → length u ≡ count → length v ≡ count
    → node ≡ count + length grid.reservoirs + t
    → t < length grid.tanks
    → (head_at (all_heads grid (Pinned t) Lower u) node -ℤ head_at (all_heads grid (Pinned t) Upper v) node)
    ≡ width (slice_index_or grid.tanks t (exactly (pos 0)))
node-gap grid t node count u v eu ev is lt =
    let r = length grid.reservoirs in
    let past : node - count - r ≡ t = omega (arith, is) in
    let below = get_or-append_right u (fixed_heads grid (Pinned t) Lower) count node (pos 0) eu (omega (arith, is)) in
    let above = get_or-append_right v (fixed_heads grid (Pinned t) Upper) count node (pos 0) ev (omega (arith, is)) in
    let below_tank = get_or-append_right grid.reservoirs (pinned_ends Lower t 0 grid.tanks) r (node - count) (pos 0)
    refl (omega (arith, is)) in
    let above_tank = get_or-append_right grid.reservoirs (pinned_ends Upper t 0 grid.tanks) r (node - count) (pos 0)
    refl (omega (arith, is)) in
    let below_at = ap (head_at (pinned_ends Lower t 0 grid.tanks)) past in
    let above_at = ap (head_at (pinned_ends Upper t 0 grid.tanks)) past in
    let gap = tank-gap t 0 grid.tanks t (omega arith) lt in
    omega (arith, ints, below, above, below_tank, above_tank, below_at, above_at, gap)

-- at most as much flows out of the tank under the vectors above as under those below
pub flows-in-order : (grid : Grid) → IsSteady grid → (t node count : ℕ) (u v : List ℤ) → length u ≡ count
    → length v ≡ count
    → node ≡ count + length grid.reservoirs + t → t < length grid.tanks
    → AreInOrder (width (slice_index_or grid.tanks t (exactly (pos 0)))) (all_heads grid (Pinned t) Lower u)
    (all_heads grid (Pinned t) Upper v)
    → net low high (all_heads grid (Pinned t) Upper v) node grid.links
    ≤ℤ net high low (all_heads grid (Pinned t) Lower u) node grid.links
flows-in-order grid steady t node count u v eu ev is lt ordered =
    let below = all_heads grid (Pinned t) Lower u in
    let above = all_heads grid (Pinned t) Upper v in
    let gap = node-gap grid t node count u v eu ev is lt in
    let top : IsTop below above node = λ m. let o = ordered m in omega (arith, ints, o, gap) in
    let rises = net-rises low high low-rises high-rises above below node top grid.links steady.sound.links in
    let both = net-ordered below node grid.links steady.sound.links in
    omega (arith, ints, rises, both)
