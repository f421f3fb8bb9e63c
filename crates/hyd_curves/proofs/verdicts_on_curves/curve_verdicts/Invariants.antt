use Rattle.std.proofs.Common.{take}
use Rattle.hyd_spec_input.specs.Project.{Match}
use Rattle.hyd_curves.specs.VerdictsOnCurves.{IsVerdictOf}
use Rattle.hyd_curves.specs.Points.{each}
use Rattle.hyd_curves.proofs.verdicts_on_curves.curve_verdicts.Given as goal

abbrev pub invariant-loop-list : goal.invariant-loop-list
invariant-loop-list l = Match (IsVerdictOf l.unit) (each (take l.list-index l.points.lists.items)) l.each.items
