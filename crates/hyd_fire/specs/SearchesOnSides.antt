-- What a search for the tight vector of a side gives, with or without a junction held.
-- Source: this program's.
use Rattle.std.specs.Prelude.{ℕ, ℤ, List, length, slice_set, Option, Some, None}
use Rattle.hyd_spec_certificates.specs.declared.Problem.TheVariants.{Main}
use Rattle.hyd_spec_certificates.specs.declared.Side.{Side}
use Rattle.hyd_spec_certificates.specs.declared.HeldJunction.{HeldJunction}
use Rattle.hyd_spec_certificates.specs.PeriodNetwork.{Grid}
use Rattle.hyd_spec_certificates.specs.Certificate.{IsCertificateHolding, IsTightHolding, AreRoundsHolding}
use Rattle.hyd_spec_certificates.specs.TurnsOfProblems.{beginning}
use Rattle.hyd_sweep.specs.declared.answers_of_sweeps.Swept.{Swept}
use Rattle.hyd_sweep.specs.declared.answers_of_sweeps.Swept.TheVariants.{Least, NoCertificate, RoundsSpent}

-- where plain rounds begin: at the end of the box, a held junction at its head
abbrev pub from_end : Option HeldJunction → Side → ℕ → List ℤ
from_end None side n = beginning side n
from_end (Some held) side n = slice_set (beginning side n) held.junction held.head

-- so many plain rounds from there exist, and lead to no certificate
pub record AreSpentFromEnd (held : Option HeldJunction) (grid : Grid) (side : Side) (rounds : ℕ) : Type 0 where
  pub reached : List ℤ
  pub by_rounds : AreRoundsHolding held grid Main side rounds (from_end held side (length grid.junctions)) reached
  pub not_one : IsCertificateHolding held grid Main side reached → ⊥

-- what a search gives: the tight vector, that there is no certificate, or that rounds are spent
abbrev pub IsSought : Option HeldJunction → Grid → Side → ℕ → List ℤ → Swept → Type 0
IsSought held grid side rounds u Least = IsTightHolding held grid Main side u
IsSought held grid side rounds u (NoCertificate j) = (w : List ℤ) → IsCertificateHolding held grid Main side w → ⊥
IsSought held grid side rounds u RoundsSpent = AreSpentFromEnd held grid side rounds
