-- The word of a junction while a pipe is shut: what the vectors of the changed period show of its pressure, and what
-- each word claims of every assignment. Heads are in head ticks.
-- Source: this program's, after the bounds of heads (Rheinboldt 1970).
use Rattle.std.specs.Prelude.{ℕ, ℤ, ◌≤ℤ◌, ◌⊎◌, List, length, ⊤}
use Rattle.hyd_num.specs.Rational.{Rational}
use Rattle.hyd_spec.specs.Assignment.{head_at}
use Rattle.hyd_spec_certificates.specs.declared.Problem.TheVariants.{Main}
use Rattle.hyd_spec_certificates.specs.declared.Side.{Side}
use Rattle.hyd_spec_certificates.specs.declared.Side.TheVariants.{Upper, Lower}
use Rattle.hyd_spec_certificates.specs.PeriodNetwork.{Grid}
use Rattle.hyd_spec_certificates.specs.Certificate.{IsCertificate, IsTight, AreRounds}
use Rattle.hyd_spec_certificates.specs.TurnsOfProblems.{beginning}
use Rattle.hyd_spec_pressure_targets.specs.declared.ClosureWord.{ClosureWord}
use Rattle.hyd_spec_pressure_targets.specs.declared.ClosureWord.TheVariants.{Safe, Low, NoCertificate, RoundsSpent}
use Rattle.hyd_spec_pressure_targets.specs.declared.ClosureWord.TheVariants.{Unsure}
use Rattle.hyd_spec_pressure_targets.specs.TargetHeads.{IsAboveTarget, IsBelowTarget}

-- ---- what vectors show

-- A LOWER certificate has at least the upper head of the target at the junction.
pub record IsShownSafe (grid : Grid) (j : ℕ) (high : ℤ) : Type 0 where
  pub heads : List ℤ
  pub certificate : IsCertificate grid Main Lower heads
  pub enough : high ≤ℤ head_at heads j

-- An UPPER certificate has at most its lower head.
pub record IsShownLow (grid : Grid) (j : ℕ) (low : ℤ) : Type 0 where
  pub heads : List ℤ
  pub certificate : IsCertificate grid Main Upper heads
  pub too_little : head_at heads j ≤ℤ low

-- No certificate shows either.
pub record IsOpen (grid : Grid) (j : ℕ) (low high : ℤ) : Type 0 where
  pub not_safe : IsShownSafe grid j high → ⊥
  pub not_low : IsShownLow grid j low → ⊥

-- No vector is a certificate of a side.
abbrev pub HasNoneOn : Grid → Side → Type 0
HasNoneOn grid side = (u : List ℤ) → IsCertificate grid Main side u → ⊥

-- A side has a tight vector.
abbrev pub HasTight : Grid → Side → Type 0
HasTight grid side = (u : List ℤ) × IsTight grid Main side u

-- So many plain rounds exist, from the floor of the box for UPPER and its ceiling for LOWER, and lead to no
-- certificate.
pub record AreSpentOn (grid : Grid) (rounds : ℕ) (side : Side) : Type 0 where
  pub reached : List ℤ
  pub by_rounds : AreRounds grid Main side rounds (beginning side (length grid.junctions)) reached
  pub not_one : IsCertificate grid Main side reached → ⊥

-- ---- words

-- No certificate shows either word, and there is none of one side.
pub record IsWithoutCertificate (grid : Grid) (j : ℕ) (low high : ℤ) : Type 0 where
  pub is_open : IsOpen grid j low high
  pub none : HasNoneOn grid Upper ⊎ HasNoneOn grid Lower

-- No certificate shows either, and both sides have tight vectors.
pub record IsBetween (grid : Grid) (j : ℕ) (low high : ℤ) : Type 0 where
  pub is_open : IsOpen grid j low high
  pub upper : HasTight grid Upper
  pub lower : HasTight grid Lower

-- The word of junction number j with the target between two heads. That rounds are spent may hide any other word.
abbrev pub IsWord : Grid → ℕ → ℕ → ℤ → ℤ → ClosureWord → Type 0
IsWord grid rounds j low high Safe = IsShownSafe grid j high
IsWord grid rounds j low high Low = IsShownLow grid j low
IsWord grid rounds j low high NoCertificate = IsWithoutCertificate grid j low high
IsWord grid rounds j low high RoundsSpent = AreSpentOn grid rounds Upper ⊎ AreSpentOn grid rounds Lower
IsWord grid rounds j low high Unsure = IsBetween grid j low high

-- ---- what a word claims

-- SAFE and LOW claim that the pressure at the junction is above, or below, the target; the other words claim nothing.
abbrev pub WordHolds : ℕ → ℤ → Rational → ℤ → ClosureWord → Type 0
WordHolds S elevation target h Safe = IsAboveTarget S elevation target h
WordHolds S elevation target h Low = IsBelowTarget S elevation target h
WordHolds S elevation target h NoCertificate = ⊤
WordHolds S elevation target h RoundsSpent = ⊤
WordHolds S elevation target h Unsure = ⊤
