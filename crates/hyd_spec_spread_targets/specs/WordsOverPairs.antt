-- The word of a junction while a pipe is shut, whatever the data within a spread are: what the vectors of the two
-- outermost grids show of its pressure, and what each word claims of every assignment. Heads are in head ticks.
-- Source: this program's, after the bounds of heads (Rheinboldt 1970).
use Rattle.std.specs.Prelude.{ℕ, ℤ, ◌⊎◌}
use Rattle.hyd_num.specs.Rational.{Rational}
use Rattle.hyd_spec.specs.ProgramTypes.{Project}
use Rattle.hyd_spec.specs.Assignment.{Assignment, head_at}
use Rattle.hyd_spec_certificates.specs.declared.Side.TheVariants.{Upper, Lower}
use Rattle.hyd_spec_pressure_targets.specs.declared.ClosureWord.{ClosureWord}
use Rattle.hyd_spec_pressure_targets.specs.declared.ClosureWord.TheVariants.{Safe, Low, NoCertificate, RoundsSpent}
use Rattle.hyd_spec_pressure_targets.specs.declared.ClosureWord.TheVariants.{Unsure}
use Rattle.hyd_spec_pressure_targets.specs.ClosureWords.{IsShownSafe, IsShownLow, HasNoneOn, HasTight, AreSpentOn}
use Rattle.hyd_spec_pressure_targets.specs.ClosureWords.{WordHolds}
use Rattle.hyd_spec_spread.specs.Spreads.{Spread}
use Rattle.hyd_spec_spread_runs.specs.OutermostPairs.{Pair}
use Rattle.hyd_spec_spread_targets.specs.FirstPeriodWithin.{IsFirstWithShutWithin}

-- ---- words

-- No certificate shows either word, each of its side on the grid of that side.
pub record IsOpenOver (pair : Pair) (j : ℕ) (low high : ℤ) : Type 0 where
  pub not_safe : IsShownSafe pair.lower j high → ⊥
  pub not_low : IsShownLow pair.upper j low → ⊥

-- No certificate shows either, and there is none of one side on its grid.
pub record IsWithoutCertificateOver (pair : Pair) (j : ℕ) (low high : ℤ) : Type 0 where
  pub is_open : IsOpenOver pair j low high
  pub none : HasNoneOn pair.upper Upper ⊎ HasNoneOn pair.lower Lower

-- No certificate shows either, and both sides have tight vectors on their grids.
pub record IsBetweenOver (pair : Pair) (j : ℕ) (low high : ℤ) : Type 0 where
  pub is_open : IsOpenOver pair j low high
  pub upper : HasTight pair.upper Upper
  pub lower : HasTight pair.lower Lower

-- The word of junction number j with the target between two heads. That rounds are spent may hide any other word.
abbrev pub IsWordOver : Pair → ℕ → ℕ → ℤ → ℤ → ClosureWord → Type 0
IsWordOver pair rounds j low high Safe = IsShownSafe pair.lower j high
IsWordOver pair rounds j low high Low = IsShownLow pair.upper j low
IsWordOver pair rounds j low high NoCertificate = IsWithoutCertificateOver pair j low high
IsWordOver pair rounds j low high RoundsSpent = AreSpentOn pair.upper rounds Upper ⊎ AreSpentOn pair.lower rounds Lower
IsWordOver pair rounds j low high Unsure = IsBetweenOver pair j low high

-- ---- what a word claims

-- With the pipe shut the word holds of the junction in every assignment of the first period of every network within
-- the spread, at every scale.
abbrev pub WordHoldsWithin : Project → Spread → ℕ → ℕ → ℤ → Rational → ClosureWord → Type 0
WordHoldsWithin project spread pipe j elevation target word =
    (S : ℕ) (assignment : Assignment) → IsFirstWithShutWithin project spread S pipe assignment
    → WordHolds S elevation target (head_at assignment.heads j) word
