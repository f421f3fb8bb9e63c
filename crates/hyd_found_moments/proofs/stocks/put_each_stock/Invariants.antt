use Rattle.std.specs.Prelude.{ℕ}
use Rattle.hyd_spec_witnesses.specs.WitnessText.{AreValues}
use Rattle.hyd_found_moments.proofs.stocks.put_each_stock.Given as goal

-- they are values as far as they were
abbrev pub invariant-loop-tank : goal.invariant-loop-tank
invariant-loop-tank l =
    ((count : ℕ) → AreValues count l.initial.levels → AreValues count l.levels)
    × ((count : ℕ) → AreValues count l.initial.volumes → AreValues count l.volumes)
