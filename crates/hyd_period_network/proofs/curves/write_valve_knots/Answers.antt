use Rattle.std.proofs.Common.{List, ◌++◌, map, ap, ◌∙◌, refl}
use Rattle.hyd_net.specs.Curves.{Knot as Place}
use Rattle.hyd_net.specs.declared.curves.HeadPoint.{HeadPoint}
use Rattle.hyd_period_network.proofs.KnotsOfCurves.{valve_curve}
use Rattle.hyd_period_network.proofs.curves.write_valve_knots.Goals as goal

pub returns-clause-curve : goal.returns-clause-curve
returns-clause-curve c =
    valve_curve c.args.points.now c.add_forward_knots.new.knots.list c.requires.curve
    (c.add_forward_knots.ensures.added
    ∙ ap (λ (xs : List Place). xs ++ map (λ (p : HeadPoint). record {
      place = p.head;
      value = p.flow;
    }) c.args.points.now) (c.add_reverse_knots.ensures.added ∙ (rw c.clear.ensures.empty refl)))
    c.add_forward_knots.ensures.ranges
