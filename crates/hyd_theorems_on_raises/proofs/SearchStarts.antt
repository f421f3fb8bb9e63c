-- Where a search may begin: at the near end of the box, at a certificate of the other side, and with a held junction at
-- its head.
use Rattle.std.proofs.Common.{◌≡◌, ℕ, zero, suc, ◌<◌, ℤ, pos, ◌-ℤ◌, ◌≤ℤ◌, ◌<ℤ◌, neg_ℤ, refl, sym, ap, subst, ◌∙◌, arith}
use Rattle.std.proofs.Common.{Bool, true, false, ◌==◌, List, [], ◌∷◌, ◌++◌, length}
use Rattle.std.specs.Prelude.{Some, None, Option, slice_get, slice_set, slice_index_or, replicate, MatchBool}
use Rattle.std.proofs.lemmas.Int.{ints}
use Rattle.std.proofs.lemmas.Option.{slice_get_within}
use Rattle.std.proofs.lemmas.List.{length-set}
use Rattle.hyd_spec_certificates.specs.declared.Side.{Side}
use Rattle.hyd_spec_certificates.specs.declared.Side.TheVariants.{Upper, Lower}
use Rattle.hyd_spec_certificates.specs.declared.Problem.{Problem}
use Rattle.hyd_spec_certificates.specs.declared.Problem.TheVariants.{Main, Pinned}
use Rattle.hyd_spec.specs.Lists.{map_from}
use Rattle.hyd_spec_certificates.specs.Interval.{Interval}
use Rattle.hyd_spec.specs.Assignment.{head_at}
use Rattle.hyd_spec_certificates.specs.PeriodNetwork.{Grid, GridJunction, all_heads, fixed_heads, opposite, end_on}
use Rattle.hyd_spec_certificates.specs.PeriodNetwork.{tank_side}
use Rattle.hyd_spec_certificates.specs.EnclosingFunctions.{low, high}
use Rattle.hyd_spec_certificates.specs.TurnsOfProblems.{beginning}
use Rattle.hyd_spec_certificates.specs.declared.HeldJunction.{HeldJunction}
use Rattle.hyd_spec_certificates.specs.Certificate.{box_limit, IsInBox, Passes, Suits, IsBeyond, IsCertificate}
use Rattle.hyd_spec_certificates.specs.Certificate.{IsCertificateHolding}
use Rattle.hyd_theorems_on_definitions.proofs.HeadsOfAllNodes.{head_front, IsGreatestBelow, greatest_below}
use Rattle.hyd_theorems_on_definitions.specs.SoundLawsAndGrids.{IsSteady}
use Rattle.hyd_theorems_on_definitions.proofs.NetOutflowsRise.{IsTop, net-rises, low-rises, high-rises, net-ordered}
use Rattle.hyd_theorems_on_definitions.proofs.NetOutflowsRise.{outflow-rises}
use Rattle.hyd_theorems_on_definitions.proofs.NetOutflowsRise.{demand-at}
use Rattle.hyd_spec_certificates.specs.StartsRaisesAndLeaps.{LiesBeyond, IsStart, IsOrderedHolding}
use Rattle.hyd_theorems_on_definitions.specs.Sides.{along, near_end}
use Rattle.hyd_theorems_on_raises.proofs.WhereOneLiesBeyondByMost.{beyond-is, is-beyond, lead, suits-nearer}
use Rattle.hyd_theorems_on_raises.proofs.RaisesAndTightVector.{beyond-self, by-beyond, set-here, set-there, set-one}
use Rattle.hyd_theorems_on_raises.proofs.RaisesAndTightVector.{set-in-box}
use Rattle.hyd_theorems_on_raises.proofs.RaisesAndTightVector.{along-floor}
use Rattle.hyd_theorems_on_raises.proofs.RaisesInAnyOrder.{vector-self}
use Rattle.hyd_lemmas.proofs.ListsOptionsAndResults.{item_there}

-- ---- the near end of the box

pub beginning-is : (side : Side) (n : ℕ) → beginning side n ≡ replicate n (near_end side)
beginning-is Upper n = refl
beginning-is Lower n = refl

end-in-box : (side : Side) → IsInBox (near_end side)
end-in-box Upper = record { above_floor = omega (arith, ints); below_ceiling = omega (arith, ints) }
end-in-box Lower = record { above_floor = omega (arith, ints); below_ceiling = omega (arith, ints) }

along-begin : (side : Side) → along side (near_end side) ≡ pos 0 -ℤ pos box_limit
along-begin Upper = omega (arith, ints)
along-begin Lower = omega (arith, ints)

replicated : (n m : ℕ) (x d : ℤ) → m < n → slice_index_or (replicate n x) m d ≡ x
replicated zero m x d lt = absurd (omega (arith, lt))
replicated (suc n) zero x d lt = refl
replicated (suc n) (suc m) x d lt = replicated n m x d (omega (arith, lt))

long-replicated : (n : ℕ) (x : ℤ) → length (replicate n x) ≡ n
long-replicated zero x = refl
long-replicated (suc n) x = let e = long-replicated n x in omega (arith, e)

pub start-end : (held : Option HeldJunction) (grid : Grid) (problem : Problem) (side : Side)
    → IsStart held grid problem side (beginning side (length grid.junctions))
start-end held grid problem side = subst (λ (u : List ℤ). IsStart held grid problem side u)
    (sym (beginning-is side (length grid.junctions))) (record {
      one_each = long-replicated (length grid.junctions) (near_end side);
      in_box = λ k d lt. (let l = long-replicated (length grid.junctions) (near_end side) in subst IsInBox
          (sym (replicated (length grid.junctions) k (near_end side) d (omega (arith, lt, l)))) (end-in-box side));
      nearer = λ w certificate m lt.
          let l = long-replicated (length grid.junctions) (near_end side) in
          let c = certificate.one_each in
          let a = along-floor side (head_at w m) (certificate.in_box m (pos 0) (omega (arith, lt, l, c))) in
          let b = along-begin side in
          let e = ap (along side)
          (replicated (length grid.junctions) m (near_end side) (pos 0) (omega (arith, lt, l))) in
          is-beyond side (head_at (replicate (length grid.junctions) (near_end side)) m) (head_at w m)
          (omega (arith, ints, a, b, e));
    })

-- ---- a held junction at its head

-- every certificate has the held head there
held-head : (grid : Grid) (problem : Problem) (side : Side) (a : ℕ) (h : ℤ) (w : List ℤ) (junction : GridJunction)
    → IsCertificateHolding (Some (record { junction = a; head = h })) grid problem side w
    → slice_get grid.junctions a ≡ Some junction → head_at w a ≡ h
held-head grid problem side a h w junction certificate at = by (a == a) same (certificate.passes a junction at)
  where
    same : (a == a) ≡ true
    same = search arith

    by : (b : Bool) → b ≡ true → MatchBool b (head_at w a ≡ h) (Passes grid problem side w a junction) → head_at w a ≡ h
    by true e is = is
    by false e is = absurd (cc)

-- so a start may have it too
pub start-held : (grid : Grid) (problem : Problem) (side : Side) (a : ℕ) (h : ℤ) (u : List ℤ) → IsStart
    (Some (record { junction = a; head = h })) grid problem side u → a < length u → IsInBox h
    → IsStart (Some (record { junction = a; head = h })) grid problem side (slice_set u a h)
start-held grid problem side a h u start inside in_box = record {
  one_each = length-set u a h ∙ start.one_each;
  in_box = set-in-box u a h in_box start.in_box;
  nearer = λ w certificate.
      let l = start.one_each in
      let at = item_there grid.junctions a (omega (arith, inside, l)) in
      set-one side u w a h inside (subst (λ (y : ℤ). IsBeyond side h y)
      (sym (held-head grid problem side a h w at.0 certificate at.1)) (beyond-self side h))
      (start.nearer w certificate);
}

-- a certificate with one head drawn nearer is one in which that junction is held there
pub drawn : (grid : Grid) → IsSteady grid → (problem : Problem) (side : Side) (a : ℕ) (h : ℤ) (u : List ℤ)
    → IsCertificate grid problem side u → a < length u → IsInBox h → IsBeyond side h (head_at u a)
    → IsCertificateHolding (Some (record { junction = a; head = h })) grid problem side (slice_set u a h)
drawn grid steady problem side a h u certificate inside in_box near = record {
  one_each = length-set u a h ∙ certificate.one_each;
  in_box = set-in-box u a h in_box certificate.in_box;
  passes = λ i junction at. by i junction at (a == i) refl;
}
  where
    nearer : LiesBeyond side (slice_set u a h) u
    nearer = set-one side u u a h inside near (vector-self side u)

    by : (i : ℕ) (junction : GridJunction) → slice_get grid.junctions i ≡ Some junction → (b : Bool) → (a == i) ≡ b
        → MatchBool b (head_at (slice_set u a h) i ≡ h) (Passes grid problem side (slice_set u a h) i junction)
    by i junction at true e = (let same : i ≡ a = search (arith, e) in ap (head_at (slice_set u a h)) same
        ∙ set-here u a h inside)
    by i junction at false e =
        let ne : i ≡ a → ⊥ = search (arith, e) in
        suits-nearer grid steady problem None side (slice_set u a h) u i junction (length-set u a h)
        (let l = length-set u a h in let s = inside-at i junction at in omega (arith, l, s)) nearer
        (set-there u a i h ne) at (certificate.passes i junction at)
      where
        inside-at : (i : ℕ) (junction : GridJunction) → slice_get grid.junctions i ≡ Some junction → i < length u
        inside-at i junction at = let b = slice_get_within grid.junctions i junction at in let c =
            certificate.one_each in omega (arith, b, c)

-- ---- two sides

module _ (grid : Grid) (steady : IsSteady grid) where
  -- an upper and a lower vector can't both pass where the lower one exceeds the upper one by most
  no-clash : (p q : Problem) (u v : List ℤ) (i : ℕ) (junction : GridJunction) → IsTop (all_heads grid q Lower v)
      (all_heads grid p Upper u) i → i < length u → i < length v → head_at u i ≤ℤ head_at v i
      → slice_get grid.junctions i ≡ Some junction → Passes grid p Upper u i junction
      → Passes grid q Lower v i junction → ⊥
  no-clash p q u v i junction top in-u in-v le at over under =
      let flows = net-rises low high low-rises high-rises (all_heads grid p Upper u)
      (all_heads grid q Lower v) i top grid.links steady.sound.links in
      let order = net-ordered (all_heads grid q Lower v) i grid.links steady.sound.links in
      let leaves = outflow-rises junction (head_at u i) (head_at v i)
      (demand-at grid.junctions i junction steady.demands at) le in
      omega (arith, ints, flows, order, leaves, over, under)

  clash : (side : Side) (p q : Problem) (u v : List ℤ) (i : ℕ) (junction : GridJunction)
      → ((m : ℕ) → lead side (all_heads grid q (opposite side) v) (all_heads grid p side u) m ≤ℤ lead side
      (all_heads grid q (opposite side) v) (all_heads grid p side u) i)
      → i < length u → i < length v → pos 0 ≤ℤ lead side v u i
      → slice_get grid.junctions i ≡ Some junction → Passes grid p side u i junction → Passes grid q
      (opposite side) v i junction → ⊥
  clash Upper p q u v i junction most in-u in-v ahead at own other = no-clash p q u v i junction
      (λ m. most m) in-u in-v (omega (arith, ints, ahead)) at own other
  clash Lower p q u v i junction most in-u in-v ahead at own other =
      no-clash q p v u i junction (λ m. (let a = most m in omega (arith, ints, a))) in-v in-u
      (omega (arith, ints, ahead)) at other own

  lead-both : (side : Side) (v w above below : List ℤ) (t : ℤ) → length v ≡ length w →
      ((m : ℕ) → lead side above below m ≤ℤ t) → ((m : ℕ) → m < length v → lead side v w m ≤ℤ t)
      → (m : ℕ) → lead side (v ++ above) (w ++ below) m ≤ℤ t
  lead-both side [] [] above below t same after each m = after m
  lead-both side [] (y ∷ w) above below t same after each m = absurd (omega (arith, same))
  lead-both side (x ∷ v) [] above below t same after each m = absurd (omega (arith, same))
  lead-both side (x ∷ v) (y ∷ w) above below t same after each zero = each 0 (omega arith)
  lead-both side (x ∷ v) (y ∷ w) above below t same after each (suc m) = lead-both side v w above below t
      (omega (arith, same)) after (λ k lt. each (suc k) (omega (arith, lt))) m

  module _ (side : Side) (held : Option HeldJunction) (p q : Problem)
      (fixed : (m : ℕ) → lead side (fixed_heads grid q (opposite side)) (fixed_heads grid p side) m ≤ℤ pos 0)
      (v : List ℤ) (other : IsCertificate grid q (opposite side) v) (ordered : IsOrderedHolding held side v) where
    none-ahead : (u : List ℤ) → IsCertificateHolding held grid p side u → (i : ℕ) → IsGreatestBelow (lead side v u)
        (length v) i → pos 0 <ℤ lead side v u i → ⊥
    none-ahead u own i best ahead =
        let inside = best.below in
        let same : length v ≡ length u = other.one_each ∙ sym own.one_each in
        let long = other.one_each in
        let at = item_there grid.junctions i (omega (arith, inside, long)) in
        let all : (m : ℕ) → lead side (all_heads grid q (opposite side) v)
        (all_heads grid p side u) m ≤ℤ lead side v u i =
        lead-both side v u (fixed_heads grid q (opposite side)) (fixed_heads grid p side) (lead side v u i) same
        (λ m. (let f = fixed m in omega (arith, ints, f, ahead))) best.each in
        let front = ap (along side) (head_front v (fixed_heads grid q (opposite side)) i inside) in
        let back = ap (along side) (head_front u (fixed_heads grid p side) i (omega (arith, inside, same))) in
        by i at.0 at.1 held ordered (own.passes i at.0 at.1) ahead
        (λ passes. clash side p q u v i at.0 (λ m. (let a = all m in omega (arith, ints, a, front, back)))
        (omega (arith, inside, same)) inside (omega (arith, ints, ahead)) at.1 passes (other.passes i at.0 at.1))
      where
        by-test : (i : ℕ) (junction : GridJunction) (a : ℕ) (b : Bool) (h : ℤ) → (a == i) ≡ b → IsBeyond side
            (head_at v a) h → MatchBool b (head_at u i ≡ h) (Passes grid p side u i junction) → pos 0 <ℤ lead side v u i
            → (Passes grid p side u i junction → ⊥) → ⊥
        by-test i junction a true h e near is ahead fails =
            let same : a ≡ i = search (arith, e) in
            let f = ap (along side) is in
            let g = beyond-is side (head_at v i) h (subst (λ (k : ℕ). IsBeyond side (head_at v k) h) same near) in
            omega (arith, ints, f, g, ahead)
        by-test i junction a false h e near is ahead fails = fails is

        by : (i : ℕ) (junction : GridJunction) → slice_get grid.junctions i ≡ Some junction →
            (some : Option HeldJunction) → IsOrderedHolding some side v → Suits some grid p side u i junction
            → pos 0 <ℤ lead side v u i
            → (Passes grid p side u i junction → ⊥) → ⊥
        by i junction at None near is ahead fails = fails is
        by i junction at (Some h) near is ahead fails = by-test i junction h.junction
            (h.junction == i) h.head refl near is ahead fails

    -- a certificate of the other side is a start
    pub start-other : IsStart held grid p side v
    start-other = record {
      one_each = other.one_each;
      in_box = other.in_box;
      nearer = λ u own m lt. by-beyond side (head_at v m) (head_at u m) (λ beyond. beyond)
          (λ ahead. absurd (
          let (i, best) = greatest_below (lead side v u) (length v) (omega (arith, lt)) in
          let b = best.each m lt in
          none-ahead u own i best (omega (arith, ints, b, ahead))));
    }

-- ---- fixed heads of main and of any problem

ends-ordered : (side : Side) (problem : Problem) (k : ℕ) (x : Interval) → x.lo ≤ℤ x.hi
    → along side (end_on (tank_side Main (opposite side) k) x) ≤ℤ along side (end_on (tank_side problem side k) x)
ends-ordered Upper Main k x le = le
ends-ordered Lower Main k x le = omega (arith, ints, le)
ends-ordered Upper (Pinned t) k x le = by (t == k)
  where
    by : (b : Bool) → x.lo ≤ℤ end_on (Rattle.std.specs.Prelude.if◌then◌else◌ b Lower Upper) x
    by true = omega (arith, ints)
    by false = le
ends-ordered Lower (Pinned t) k x le = by (t == k)
  where
    by : (b : Bool) → neg_ℤ x.hi ≤ℤ neg_ℤ (end_on (Rattle.std.specs.Prelude.if◌then◌else◌ b Upper Lower) x)
    by true = omega (arith, ints)
    by false = omega (arith, ints, le)

tanks-ordered : (side : Side) (problem : Problem) (from : ℕ) (tanks : List Interval) →
    ((k : ℕ) (x : Interval) → slice_get tanks k ≡ Some x → x.lo ≤ℤ x.hi) → (m : ℕ)
    → lead side (map_from (λ k tank. end_on (tank_side Main (opposite side) k) tank) from tanks)
    (map_from (λ k tank. end_on (tank_side problem side k) tank) from tanks) m ≤ℤ pos 0
tanks-ordered side problem from [] each m = omega (arith, ints)
tanks-ordered side problem from (x ∷ tanks) each zero = let a = ends-ordered side problem from x (each 0 x refl) in
    omega (arith, ints, a)
tanks-ordered side problem from (x ∷ tanks) each (suc m) = tanks-ordered side problem (suc from) tanks
    (λ k y at. each (suc k) y at) m

reservoirs-same : (side : Side) (reservoirs xs ys : List ℤ) → ((m : ℕ) → lead side xs ys m ≤ℤ pos 0) → (m : ℕ)
    → lead side (reservoirs ++ xs) (reservoirs ++ ys) m ≤ℤ pos 0
reservoirs-same side [] xs ys each m = each m
reservoirs-same side (r ∷ reservoirs) xs ys each zero = omega (arith, ints)
reservoirs-same side (r ∷ reservoirs) xs ys each (suc m) = reservoirs-same side reservoirs xs ys each m

pub main-fixed : (grid : Grid) (side : Side) (problem : Problem) →
    ((k : ℕ) (x : Interval) → slice_get grid.tanks k ≡ Some x → x.lo ≤ℤ x.hi) → (m : ℕ)
    → lead side (fixed_heads grid Main (opposite side)) (fixed_heads grid problem side) m ≤ℤ pos 0
main-fixed grid side problem each m = reservoirs-same side grid.reservoirs _ _
    (tanks-ordered side problem 0 grid.tanks each) m
