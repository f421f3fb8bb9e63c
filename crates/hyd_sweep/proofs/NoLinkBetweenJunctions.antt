-- Sweeps where no link joins two junctions.
use Rattle.std.proofs.Common.{◌≡◌, ℕ, ◌≤◌, ℤ, ◌∙◌, arith, List, length}
use Rattle.std.specs.Prelude.{Option}
use Rattle.std.specs.List.{AllByRecursion}
use Rattle.hyd_spec_certificates.specs.declared.Side.{Side}
use Rattle.hyd_spec_certificates.specs.declared.Problem.{Problem}
use Rattle.hyd_spec_certificates.specs.declared.HeldJunction.{HeldJunction}
use Rattle.hyd_spec_certificates.specs.PeriodNetwork.{Grid}
use Rattle.hyd_spec_certificates.specs.Certificate.{IsCertificateHolding, AreRoundsHolding, none, more}
use Rattle.hyd_spec_certificates.specs.StartsRaisesAndLeaps.{JoinsNone}
use Rattle.hyd_theorems_on_raises.proofs.NoLinkBetweenJunctions.{one-round}
use Rattle.hyd_sweep.specs.declared.answers_of_sweeps.Swept.TheVariants.{RoundsSpent}
use Rattle.hyd_sweep.specs.Sweeps.{SweepGives, EndsWhereApart}

module _ (held : Option HeldJunction) (grid : Grid) (problem : Problem) (side : Side) where
  -- the last of some rounds leads to a certificate
  rounds-end : AllByRecursion (JoinsNone (length grid.junctions)) grid.links → (n : ℕ) (u w : List ℤ)
      → length u ≡ length grid.junctions → 1 ≤ n
      → AreRoundsHolding held grid problem side n u w → IsCertificateHolding held grid problem side w
  rounds-end apart _ u _ long some none = absurd (omega (arith, some))
  rounds-end apart _ u w long some (more {n = n} {v = v} round rest) =
      after n v w (one-round held grid problem side apart u v long round)
      (round.one_each ∙ long) rest
    where
      after : (n : ℕ) (v w : List ℤ) → IsCertificateHolding held grid problem side v
          → length v ≡ length grid.junctions → AreRoundsHolding held grid problem side n v w
          → IsCertificateHolding held grid problem side w
      after _ v _ here long none = here
      after _ v w here long (more {n = n} {v = x} round rest) =
          after n x w (one-round held grid problem side apart v x long round) (round.one_each ∙ long) rest

  pub spent-ends : (rounds : ℕ) (old new : List ℤ) → length old ≡ length grid.junctions
      → SweepGives held grid problem side rounds old new RoundsSpent → EndsWhereApart grid rounds RoundsSpent
  spent-ends rounds old new long gives apart some e =
      gives.1.1.0 (rounds-end apart rounds old gives.0 long some gives.1.0)
