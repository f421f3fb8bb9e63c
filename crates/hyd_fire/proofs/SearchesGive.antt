-- What a search gives, from any start in which a held junction stands at its head.
use Rattle.std.proofs.Common.{◌≡◌, ℕ, zero, suc, ◌<◌, ℤ, pos, neg_ℤ, ◌-ℤ◌, refl, sym, subst, ◌∙◌, arith, List, length}
use Rattle.std.specs.Prelude.{Option, None, Some, replicate, slice_index_or}
use Rattle.std.proofs.lemmas.Int.{ints}
use Rattle.std.proofs.lemmas.List.{length-set}
use Rattle.hyd_spec.specs.Assignment.{head_at}
use Rattle.hyd_spec_certificates.specs.declared.Problem.TheVariants.{Main}
use Rattle.hyd_spec_certificates.specs.declared.Side.{Side}
use Rattle.hyd_spec_certificates.specs.declared.Side.TheVariants.{Upper, Lower}
use Rattle.hyd_spec_certificates.specs.declared.HeldJunction.{HeldJunction}
use Rattle.hyd_spec_certificates.specs.PeriodNetwork.{Grid}
use Rattle.hyd_spec_certificates.specs.Certificate.{box_limit, IsBeyond}
use Rattle.hyd_spec_certificates.specs.StartsRaisesAndLeaps.{LiesBeyond, IsStart}
use Rattle.hyd_spec_certificates.specs.TurnsOfProblems.{beginning}
use Rattle.hyd_theorems_on_definitions.specs.SoundLawsAndGrids.{IsSteady}
use Rattle.hyd_theorems_on_definitions.specs.Sides.{along}
use Rattle.hyd_theorems_on_raises.proofs.WhereOneLiesBeyondByMost.{is-beyond}
use Rattle.hyd_theorems_on_raises.proofs.RaisesAndTightVector.{along-floor, beyond-self, set-one}
use Rattle.hyd_theorems_on_raises.proofs.RaisesInAnyOrder.{spent-nearer}
use Rattle.hyd_theorems_on_raises.proofs.SearchStarts.{start-end}
use Rattle.hyd_sweep.specs.Sweeps.{SweepGives}
use Rattle.hyd_sweep.specs.declared.answers_of_sweeps.Swept.{Swept}
use Rattle.hyd_sweep.specs.declared.answers_of_sweeps.Swept.TheVariants.{Least, NoCertificate, RoundsSpent}
use Rattle.hyd_fire.specs.TurnsWithHeldJunction.{HoldsBelow, StandsHeld}
use Rattle.hyd_fire.specs.SearchesOnSides.{from_end, IsSought}

replicated : (n m : ℕ) (x : ℤ) → m < n → slice_index_or (replicate n x) m (pos 0) ≡ x
replicated zero m x lt = absurd (omega (arith, lt))
replicated (suc n) zero x lt = refl
replicated (suc n) (suc m) x lt = replicated n m x (omega (arith, lt))

along-begun : (side : Side) (n m : ℕ) → m < n → along side (head_at (beginning side n) m) ≡ pos 0 -ℤ pos box_limit
along-begun Upper n m lt = let e = replicated n m (neg_ℤ (pos box_limit)) lt in omega (arith, ints, e)
along-begun Lower n m lt = let e = replicated n m (pos box_limit) lt in omega (arith, ints, e)

module _ (grid : Grid) (side : Side) where
  -- the end of the box has as many heads as there are junctions
  long-end : length (beginning side (length grid.junctions)) ≡ length grid.junctions
  long-end = (start-end None grid Main side).one_each

  -- whatever lies in the box lies beyond its end
  beyond-end : (held : Option HeldJunction) (u : List ℤ) → IsStart held grid Main side u
      → LiesBeyond side (beginning side (length grid.junctions)) u
  beyond-end held u start m lt =
      let n = length grid.junctions in
      let l = long-end in
      let within : m < n = omega (arith, lt, l) in
      let one = start.one_each in
      let e = along-begun side n m within in
      let f = along-floor side (head_at u m) (start.in_box m (pos 0) (omega (arith, within, one))) in
      is-beyond side (head_at (beginning side n) m) (head_at u m) (omega (arith, ints, e, f))

  long-from : (held : Option HeldJunction) → length (from_end held side (length grid.junctions))
      ≡ length grid.junctions
  long-from None = long-end
  long-from (Some there) =
      length-set (beginning side (length grid.junctions)) there.junction there.head ∙ long-end

  -- and where a held junction stands at its head, beyond that end with the junction at its head
  beyond-from : (held : Option HeldJunction) (u : List ℤ) → IsStart held grid Main side u → StandsHeld held u
      → HoldsBelow held (length u) → LiesBeyond side (from_end held side (length grid.junctions)) u
  beyond-from None u start stands below = beyond-end None u start
  beyond-from (Some there) u start stands below =
      let n = length grid.junctions in
      let one = start.one_each in
      let l = long-end in
      let inside = below there.junction there.head refl in
      let at : head_at u there.junction ≡ there.head = stands there.junction there.head inside refl in
      set-one side (beginning side n) u there.junction there.head (omega (arith, inside, one, l))
      (subst (λ (h : ℤ). IsBeyond side there.head h) (sym at) (beyond-self side there.head))
      (beyond-end (Some there) u start)

pub sought-by : (held : Option HeldJunction) (grid : Grid) → IsSteady grid → (side : Side) (rounds : ℕ)
    (first u : List ℤ) (swept : Swept) → IsStart held grid Main side first → StandsHeld held first
    → HoldsBelow held (length first) → SweepGives held grid Main side rounds first u swept
    → IsSought held grid side rounds u swept
sought-by held grid steady side rounds first u Least start stands below gives = gives
sought-by held grid steady side rounds first u (NoCertificate j) start stands below gives = gives.1.1.1
sought-by held grid steady side rounds first u RoundsSpent start stands below gives =
    let spent = spent-nearer held grid steady Main side rounds (from_end held side (length grid.junctions)) first
    gives.0 (long-from grid side held) (beyond-from grid side held first start stands below) start gives.1.0 gives.1.1.0
    in record { reached = spent.0; by_rounds = spent.1.0; not_one = spent.1.1 }
