-- Rounds that are spent from any start are spent from the end of the box.
use Rattle.std.proofs.Common.{◌≡◌, ℕ, zero, suc, ◌<◌, ℤ, pos, neg_ℤ, ◌-ℤ◌, refl, arith, List, length}
use Rattle.std.specs.Prelude.{None, replicate, slice_index_or}
use Rattle.std.proofs.lemmas.Int.{ints}
use Rattle.hyd_spec.specs.Assignment.{head_at}
use Rattle.hyd_spec_certificates.specs.declared.Problem.{Problem}
use Rattle.hyd_spec_certificates.specs.declared.Side.{Side}
use Rattle.hyd_spec_certificates.specs.declared.Side.TheVariants.{Upper, Lower}
use Rattle.hyd_spec_certificates.specs.PeriodNetwork.{Grid}
use Rattle.hyd_spec_certificates.specs.Certificate.{box_limit, IsInBox}
use Rattle.hyd_spec_certificates.specs.StartsRaisesAndLeaps.{LiesBeyond, IsStart}
use Rattle.hyd_theorems_on_definitions.specs.SoundLawsAndGrids.{IsSteady}
use Rattle.hyd_theorems_on_definitions.specs.Sides.{along}
use Rattle.hyd_spec_certificates.specs.TurnsOfProblems.{beginning}
use Rattle.hyd_theorems_on_raises.proofs.WhereOneLiesBeyondByMost.{is-beyond}
use Rattle.hyd_theorems_on_raises.proofs.RaisesAndTightVector.{along-floor}
use Rattle.hyd_theorems_on_raises.proofs.RaisesInAnyOrder.{spent-nearer}
use Rattle.hyd_theorems_on_raises.proofs.SearchStarts.{start-end}
use Rattle.hyd_sweep.specs.Sweeps.{SweepGives}
use Rattle.hyd_sweep.specs.declared.answers_of_sweeps.Swept.TheVariants.{RoundsSpent}
use Rattle.hyd_period_vectors.specs.SoughtVectors.{AreSpent}

replicated : (n m : ℕ) (x : ℤ) → m < n → slice_index_or (replicate n x) m (pos 0) ≡ x
replicated zero m x lt = absurd (omega (arith, lt))
replicated (suc n) zero x lt = refl
replicated (suc n) (suc m) x lt = replicated n m x (omega (arith, lt))

-- a head at the end of the box
along-end : (side : Side) (n m : ℕ) → m < n → along side (head_at (beginning side n) m) ≡ pos 0 -ℤ pos box_limit
along-end Upper n m lt = let e = replicated n m (neg_ℤ (pos box_limit)) lt in omega (arith, ints, e)
along-end Lower n m lt = let e = replicated n m (pos box_limit) lt in omega (arith, ints, e)

-- whatever lies in the box lies beyond its end
beyond-end : (side : Side) (n : ℕ) (u : List ℤ) → length (beginning side n) ≡ n
    → ((m : ℕ) → m < n → IsInBox (head_at u m)) → LiesBeyond side (beginning side n) u
beyond-end side n u long inside m lt =
    let within : m < n = omega (arith, lt, long) in
    let e = along-end side n m within in
    let f = along-floor side (head_at u m) (inside m within) in
    is-beyond side (head_at (beginning side n) m) (head_at u m) (omega (arith, ints, e, f))

pub spent-anywhere : (grid : Grid) → IsSteady grid → (problem : Problem) (side : Side) (rounds : ℕ) (u new : List ℤ)
    → IsStart None grid problem side u → SweepGives None grid problem side rounds u new RoundsSpent
    → AreSpent grid problem side rounds
spent-anywhere grid steady problem side rounds u new start (v, (by_rounds, (missed, rest))) =
    let n = length grid.junctions in
    let end = start-end None grid problem side in
    let spent = spent-nearer None grid steady problem side rounds (beginning side n) u v end.one_each
    (beyond-end side n u end.one_each
    (λ m lt. start.in_box m (pos 0) (let l = start.one_each in omega (arith, lt, l))))
    start by_rounds missed in
    record { reached = spent.0; by_rounds = spent.1.0; not_one = spent.1.1 }
