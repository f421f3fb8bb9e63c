use Rattle.std.proofs.Common.{◌-◌}
use Rattle.hyd_power_laws.specs.Brackets.{IsBracket}
use Rattle.hyd_power_laws.proofs.searches.halved.Given as goal

abbrev pub invariant-loop-beyond : goal.invariant-loop-beyond
invariant-loop-beyond l = IsBracket l.test l.within l.beyond

abbrev pub decreases-loop-beyond : goal.decreases-loop-beyond
decreases-loop-beyond l = l.beyond - l.within
