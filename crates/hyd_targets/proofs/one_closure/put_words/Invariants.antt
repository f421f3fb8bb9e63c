use Rattle.std.proofs.Common.{take}
use Rattle.std.specs.Prelude.{Ok}
use Rattle.hyd_spec.specs.Lists.{joined, map_from}
use Rattle.hyd_io.specs.TextPutIn.{Puts}
use Rattle.hyd_spec_pressure_targets.specs.LinesOfTargets.{word_line}
use Rattle.hyd_fire.specs.SidesOfClosures.{word_by}
use Rattle.hyd_targets.proofs.one_closure.put_words.Given as goal

-- the lines of the junctions so far were put
abbrev pub invariant-loop-junction : goal.invariant-loop-junction
invariant-loop-junction g l = Puts g.D.Desk.files g.D.Desk.rest g.D.Desk.written g.D.Desk.printed g.D.Desk.target
    g.D.Desk.ready g.D.Desk.counts g.D.Desk.openings
    (joined (map_from (λ j target. word_line l.project j (word_by l.study l.sides j target)) 0
    (take l.junction l.targets))) (Ok tt) l.fn.pen l.pen l.fn.desk l.desk
