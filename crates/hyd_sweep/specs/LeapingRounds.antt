-- Rounds with leaps, and how a sweep by them goes.
-- Source: this program's.
use Rattle.std.specs.Prelude.{ℕ, ◌<◌, ◌≤◌, ℤ}
use Rattle.std.specs.Prelude.{List, length, Option, Some, suc}
use Rattle.hyd_spec_certificates.specs.declared.Problem.{Problem}
use Rattle.hyd_spec_certificates.specs.declared.Side.{Side}
use Rattle.hyd_spec_certificates.specs.declared.HeldJunction.{HeldJunction}
use Rattle.hyd_spec_certificates.specs.PeriodNetwork.{Grid}
use Rattle.hyd_sweep.specs.declared.answers_of_sweeps.Swept.{Swept}
use Rattle.hyd_sweep.specs.declared.answers_of_sweeps.Swept.TheVariants.{Least, NoCertificate, RoundsSpent}
use Rattle.hyd_sweep.specs.Sweeps.{AreRaises, RoundGives, numbers}
use Rattle.hyd_sweep.specs.Leaps.{LeapsLeadTo}
use Rattle.hyd_sweep.specs.Strides.{GoesOnWithin}

-- so many rounds in file order, each with leaps after it, lead from the first vector to the last
pub data AreLeapingRounds (held : Option HeldJunction) (grid : Grid) (problem : Problem) (side : Side)
    : ℕ → List ℤ → List ℤ → Type 0 where
  no_round : {u : List ℤ} → AreLeapingRounds held grid problem side 0 u u
  one_round : {n : ℕ} {u v w x : List ℤ} → AreLeapingRounds held grid problem side n u v
      → AreRaises held grid problem side (numbers (length grid.junctions)) v w
      → LeapsLeadTo held grid problem side w x → GoesOnWithin side v w x
      → AreLeapingRounds held grid problem side (suc n) u x

-- how a sweep with leaps goes: some of the rounds, or all of them; where a junction has no value, a part of one more
abbrev pub SweepGoes : Option HeldJunction → Grid → Problem → Side → ℕ → List ℤ → List ℤ → Swept → Type 0
SweepGoes held grid problem side rounds old new Least =
    (n : ℕ) × ((n ≤ rounds) × AreLeapingRounds held grid problem side n old new)
SweepGoes held grid problem side rounds old new (NoCertificate j) =
    (n : ℕ) × ((n < rounds) × ((v : List ℤ) × (AreLeapingRounds held grid problem side n old v
    × RoundGives held grid problem side v new (Some j))))
SweepGoes held grid problem side rounds old new RoundsSpent = AreLeapingRounds held grid problem side rounds old new
