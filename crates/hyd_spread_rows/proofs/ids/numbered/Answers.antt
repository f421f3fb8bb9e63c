use Rattle.std.proofs.Common.{arith}
use Rattle.hyd_spread_rows.proofs.ResolvedLemmas.{id-more}
use Rattle.hyd_spread_rows.proofs.ids.numbered.Goals as goal

pub loop-number-preserved : goal.loop-number-preserved
loop-number-preserved c =
    id-more c.args.project.now.node_ids c.loop-number.number c.id.result.now c.loop-number.ids c.add.new.self
    c.in_ok-add.field-0 c.requires.ids.distinct_nodes
    (let t = c.loop-number-test.true in let e = c.count-number-end.ensures in omega (arith, t, e)) c.id.ensures
    c.loop-number.invariant c.in_ok-add.ensures.present c.in_ok-add.ensures.names
