use Rattle.std.proofs.Common.{arith}
use Rattle.hyd_cert.specs.RecordView.{row_of}
use Rattle.hyd_period_network.specs.NetAsPeriodNetwork.{grid_of}
use Rattle.hyd_flow.proofs.FoundVectors.{held_found, near_found}
use Rattle.hyd_flow.proofs.search.find_vector.Goals as goal

pub returns-then-finds_least-clause-held : goal.returns-then-finds_least-clause-held
returns-then-finds_least-clause-held c =
    held_found (grid_of c.args.net.now) (row_of c.args.row.now) c.requires.given.certified c.args.from c.args.side
    c.held_for-held.result c.held_for-held.ensures c.finds_least.new.heads
    (c.finds_least.ensures.tight c.if-finds_least.true)

pub returns-then-finds_least-clause-near : goal.returns-then-finds_least-clause-near
returns-then-finds_least-clause-near c =
    near_found (grid_of c.args.net.now) (row_of c.args.row.now) c.requires.given.certified c.args.from c.args.side
    c.held_for-held.result c.held_for-held.ensures c.args.rounds c.finds_least.new.heads
    (let a = c.requires.inside in let e = c.junctions-junctions.ensures.each in omega (arith, a, e))
    (c.finds_least.ensures.tight c.if-finds_least.true)
