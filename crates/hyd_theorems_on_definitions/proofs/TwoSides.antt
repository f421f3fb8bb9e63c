-- Certificates of two sides: a lower one lies below an upper one, plus what its fixed heads exceed the other's by.
use Rattle.std.proofs.Common.{◌≡◌, ℕ, ◌<◌, ℤ, pos, ◌+ℤ◌, ◌-ℤ◌, ◌≤ℤ◌, ◌<ℤ◌, sym, ◌∙◌, arith, List, length}
use Rattle.std.proofs.lemmas.Int.{ints, by_lt_z}
use Rattle.hyd_spec_certificates.specs.declared.Side.TheVariants.{Upper, Lower}
use Rattle.hyd_spec_certificates.specs.declared.Problem.{Problem}
use Rattle.hyd_spec.specs.Assignment.{head_at}
use Rattle.hyd_spec_certificates.specs.EnclosingFunctions.{low, high}
use Rattle.hyd_spec_certificates.specs.PeriodNetwork.{Grid, all_heads, fixed_heads}
use Rattle.hyd_spec_certificates.specs.Certificate.{IsCertificate}
use Rattle.hyd_theorems_on_definitions.specs.SoundLawsAndGrids.{IsSteady}
use Rattle.hyd_num.proofs.Integers.{one_times}
use Rattle.hyd_theorems_on_definitions.proofs.NetOutflowsRise.{low-rises, high-rises, IsTop, net-rises, net-ordered}
use Rattle.hyd_theorems_on_definitions.proofs.NetOutflowsRise.{outflow-rises, demand-at}
use Rattle.hyd_theorems_on_definitions.proofs.HeadsOfAllNodes.{excess, excess_after, head_front, IsGreatestBelow}
use Rattle.hyd_theorems_on_definitions.proofs.HeadsOfAllNodes.{greatest_below}
use Rattle.hyd_lemmas.proofs.ListsOptionsAndResults.{item_there}

-- ---- the comparison

module _ (grid : Grid) (steady : IsSteady grid) (p q : Problem) (u v : List ℤ) (t : ℤ)
    (above : IsCertificate grid p Upper u) (below : IsCertificate grid q Lower v)
    (room : pos 0 ≤ℤ t) (fixed : (m : ℕ) → excess 1 (fixed_heads grid q Lower) (fixed_heads grid p Upper) m ≤ℤ t) where
  same-long : length v ≡ length u
  same-long = below.one_each ∙ sym above.one_each

  none-there : (i : ℕ) → IsGreatestBelow (excess 1 v u) (length v) i → t ≤ℤ excess 1 v u i → ⊥
  none-there i best ge =
      let inside : i < length grid.junctions = (let a = below.one_each in let b = best.below in omega (arith, a, b)) in
      let long-u : i < length u = (let a = above.one_each in omega (arith, inside, a)) in
      let here = item_there grid.junctions i inside in
      let top : IsTop (all_heads grid q Lower v) (all_heads grid p Upper u) i = (λ m.
      let e = excess_after 1 v u (fixed_heads grid q Lower) (fixed_heads grid p Upper) (excess 1 v u i) same-long
      (λ k. let f = fixed k in omega (arith, ints, f, ge)) m (λ lt. best.each m lt) in
      rw (head_front v (fixed_heads grid q Lower) i best.below, head_front u (fixed_heads grid p Upper) i long-u)
      (omega (arith, ints, e, one_times (head_at (all_heads grid p Upper u) m), one_times (head_at u i)))) in
      let flows = net-rises low high low-rises high-rises (all_heads grid p Upper u) (all_heads grid q Lower v)
      i top grid.links steady.sound.links in
      let order = net-ordered (all_heads grid q Lower v) i grid.links steady.sound.links in
      let leaves = outflow-rises here.0 (head_at u i) (head_at v i)
      (demand-at grid.junctions i here.0 steady.demands here.1)
      (omega (arith, ints, ge, room, one_times (head_at u i))) in
      let over = above.passes i here.0 here.1 in
      let under = below.passes i here.0 here.1 in
      omega (arith, ints, flows, order, leaves, over, under)

  pub junctions_below : (j : ℕ) → j < length v → head_at v j <ℤ (head_at u j +ℤ t)
  junctions_below j lt = by_lt_z (head_at v j) (head_at u j +ℤ t) (λ less. less)
      (λ ge. absurd (
      let (i, best) = greatest_below (excess 1 v u) (length v) (omega (arith, lt)) in
      let b = best.each j lt in
      none-there i best (omega (arith, ints, b, ge, one_times (head_at u j), one_times (head_at u i)))))

  pub heads_below_plus : (m : ℕ) → head_at (all_heads grid q Lower v) m ≤ℤ (head_at (all_heads grid p Upper u) m +ℤ t)
  heads_below_plus m =
      let e = excess_after 1 v u (fixed_heads grid q Lower) (fixed_heads grid p Upper) t same-long fixed m
      (λ lt. let b = junctions_below m lt in omega (arith, ints, b, one_times (head_at u m))) in
      omega (arith, ints, e, one_times (head_at (all_heads grid p Upper u) m))

-- the same in plain differences
pub lower-below : (grid : Grid) → IsSteady grid → (p q : Problem) (u v : List ℤ) (t : ℤ) → IsCertificate grid p Upper u
    → IsCertificate grid q Lower v → pos 0 ≤ℤ t
    → ((m : ℕ) → (head_at (fixed_heads grid q Lower) m -ℤ head_at (fixed_heads grid p Upper) m) ≤ℤ t) → (j : ℕ)
    → j < length v → head_at v j <ℤ (head_at u j +ℤ t)
lower-below grid steady p q u v t above below room fixed j lt =
    junctions_below grid steady p q u v t above below room (λ m. let f = fixed m in
    omega (arith, ints, f, one_times (head_at (fixed_heads grid p Upper) m))) j lt
