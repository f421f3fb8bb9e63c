use Rattle.std.proofs.Common.{◌≡◌, ◌++◌, drop}
use Rattle.hyd_tests_on_laws_periods_and_tanks.proofs.law.listed.Given as goal

abbrev pub invariant-loop-knot : goal.invariant-loop-knot
invariant-loop-knot l = l.list.list ++ drop l.knot-index l.knots ≡ l.knots
