use Rattle.std.proofs.Common.{length, arith, ap}
use Rattle.hyd_curves.specs.VerdictsOnCurves.{IsVerdictOf}
use Rattle.hyd_curves.specs.Points.{points_in}
use Rattle.hyd_curves.proofs.VerdictsOnCurvesLemmas.{all_named, verdict_more, verdicts_all}
use Rattle.hyd_curves.proofs.verdicts_on_curves.curve_verdicts.Goals as goal

pub loop-list-preserved : goal.loop-list-preserved
loop-list-preserved c =
    let one : IsVerdictOf c.args.unit (points_in c.list-item.result.list) c.judge.result =
    rw c.as_slice.ensures at c.judge.ensures in
    verdict_more c.args.unit c.args.points.now.lists.items c.loop-list.list-index c.list-item.result
    c.loop-list.each.items c.push.new.self.items c.judge.result
    (omega (arith, c.loop-list-test.true, ap length c.deref-list-items.ensures.value))
    (rw c.deref-list-items.ensures.value at c.list-item.is) c.loop-list.invariant one c.in_ok-push.ensures.items

pub returns : goal.returns
returns c = λ rows names u are.
    all_named rows names c.args.unit c.args.points.now (record { each = c.loop-list.each }) u are
    (verdicts_all c.args.unit c.args.points.now.lists.items c.loop-list.list-index c.loop-list.each.items
    (omega (arith, c.loop-list-test.false, ap length c.deref-list-items.ensures.value)) c.loop-list.invariant)
