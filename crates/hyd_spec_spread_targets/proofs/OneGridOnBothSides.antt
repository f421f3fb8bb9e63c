-- With one grid on both sides a bracket and a word for the pair are those of the grid.
use Rattle.std.proofs.Common.{ℕ, ℤ}
use Rattle.std.specs.Prelude.{◌↔◌}
use Rattle.hyd_spec_certificates.specs.PeriodNetwork.{Grid}
use Rattle.hyd_spec_pressure_targets.specs.declared.Bracket.{Bracket}
use Rattle.hyd_spec_pressure_targets.specs.declared.ClosureWord.{ClosureWord}
use Rattle.hyd_spec_pressure_targets.specs.declared.ClosureWord.TheVariants.{Safe, Low, NoCertificate}
use Rattle.hyd_spec_pressure_targets.specs.declared.ClosureWord.TheVariants.{RoundsSpent, Unsure}
use Rattle.hyd_spec_pressure_targets.specs.BracketOfDraws.{IsBracket}
use Rattle.hyd_spec_pressure_targets.specs.ClosureWords.{IsWord}
use Rattle.hyd_spec_spread_runs.specs.OutermostPairs.{Pair}
use Rattle.hyd_spec_spread_targets.specs.BracketsOverPairs.{IsBracketOver}
use Rattle.hyd_spec_spread_targets.specs.WordsOverPairs.{IsWordOver}

abbrev pub both : Grid → Pair
both grid = record { upper = grid; lower = grid }

pub bracket-alone : (grid : Grid) (place : ℕ) (low high : ℤ) (rounds : ℕ) (bracket : Bracket)
    → IsBracketOver (both grid) place low high rounds bracket ↔ IsBracket grid place low high rounds bracket
bracket-alone grid place low high rounds bracket = (
  λ is. record { below = is.below; above = is.above },
  λ is. record { below = is.below; above = is.above },
)

pub word-alone : (grid : Grid) (rounds j : ℕ) (low high : ℤ) (word : ClosureWord)
    → IsWordOver (both grid) rounds j low high word ↔ IsWord grid rounds j low high word
word-alone grid rounds j low high Safe = (λ is. is, λ is. is)
word-alone grid rounds j low high Low = (λ is. is, λ is. is)
word-alone grid rounds j low high NoCertificate = (
  λ is. record {
    is_open = record { not_safe = is.is_open.not_safe; not_low = is.is_open.not_low };
    none = is.none;
  },
  λ is. record {
    is_open = record { not_safe = is.is_open.not_safe; not_low = is.is_open.not_low };
    none = is.none;
  },
)
word-alone grid rounds j low high RoundsSpent = (λ is. is, λ is. is)
word-alone grid rounds j low high Unsure = (
  λ is. record {
    is_open = record { not_safe = is.is_open.not_safe; not_low = is.is_open.not_low };
    upper = is.upper;
    lower = is.lower;
  },
  λ is. record {
    is_open = record { not_safe = is.is_open.not_safe; not_low = is.is_open.not_low };
    upper = is.upper;
    lower = is.lower;
  },
)
