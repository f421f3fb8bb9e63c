-- Flows that are not beyond the one that is sought at a head.
use Rattle.std.specs.Prelude.{ℕ, Bool, not, Option}
use Rattle.hyd_num.specs.declared.binary.Scaled.{Scaled}
use Rattle.hyd_num.specs.declared.pairs.Pair.{Pair}
use Rattle.hyd_spec_power_laws.specs.WholeFlows.{passes_low, passes_high}
use Rattle.hyd_power_laws.specs.declared.flow_tests.End.{End}
use Rattle.hyd_power_laws.specs.declared.flow_tests.End.TheVariants.{Low, High}

-- it passes the lower test, or doesn't pass the upper one
abbrev pub is_within : End → Scaled → Option Pair → ℕ → ℕ → Bool
is_within Low k minor d q = passes_low k minor d q
is_within High k minor d q = not (passes_high k minor d q)
