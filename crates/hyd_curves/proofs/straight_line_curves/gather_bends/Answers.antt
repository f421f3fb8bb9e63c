use Rattle.hyd_curves.proofs.StraightLineCurveLemmas.{all_bends}
use Rattle.hyd_curves.proofs.straight_line_curves.gather_bends.Goals as goal

pub returns : goal.returns
returns c =
    let all = all_bends c.args.text.now.text c.args.lines.now c.loop-place.place c.loop-place.bends
    c.loop-place.invariant c.loop-place-test.false in
    record { names = all.0; lists = all.1 }
