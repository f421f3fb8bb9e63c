use Rattle.std.proofs.Common.{ap, ◌∙◌, subst, arith, List, ℤ}
use Rattle.std.specs.Prelude.{slice_set}
use Rattle.hyd_cert.specs.RecordView.{row_of}
use Rattle.hyd_period_network.specs.NetAsPeriodNetwork.{grid_of}
use Rattle.hyd_flow.specs.NearVectors.{IsNear}
use Rattle.hyd_flow.proofs.FoundVectors.{held_put, near_put, held_near, near_spent}
use Rattle.hyd_flow.proofs.search.put_spent.Goals as goal

pub returns-then-finds_near-clause-held : goal.returns-then-finds_near-clause-held
returns-then-finds_near-clause-held c =
    held_near (grid_of c.args.net.now) (row_of c.args.row.now) c.requires.given.certified c.args.from c.args.side
    c.args.held c.requires.held c.finds_near.new.heads
    (subst (λ (own : List ℤ). IsNear c.args.held (grid_of c.args.net.now) c.args.side own c.finds_near.new.heads)
    c.vector-own.ensures (c.finds_near.ensures.near c.if-finds_near.true))

pub returns-then-finds_near-clause-near : goal.returns-then-finds_near-clause-near
returns-then-finds_near-clause-near c =
    near_spent (grid_of c.args.net.now) (row_of c.args.row.now) c.requires.given.certified c.args.from c.args.side
    c.args.held c.requires.held c.args.rounds c.finds_near.new.heads
    (subst (λ (own : List ℤ). IsNear c.args.held (grid_of c.args.net.now) c.args.side own c.finds_near.new.heads)
    c.vector-own.ensures (c.finds_near.ensures.near c.if-finds_near.true)) c.requires.spent

pub returns-clause-held : goal.returns-clause-held
returns-clause-held c =
    let held = c.args.held in
    held_put (grid_of c.args.net.now) (row_of c.args.row.now) c.requires.given.certified c.args.from c.args.side
    held c.requires.held c.draw.new.heads
    (c.draw.ensures ∙ ap (λ (u : List ℤ). slice_set u held.junction held.head) c.vector-own.ensures)
    (let a = c.requires.inside in let e = c.junctions-junctions.ensures.each in omega (arith, a, e))

pub returns-clause-near : goal.returns-clause-near
returns-clause-near c =
    let held = c.args.held in
    near_put (grid_of c.args.net.now) (row_of c.args.row.now) c.requires.given.certified c.args.from c.args.side
    held c.requires.held c.args.rounds c.draw.new.heads
    (c.draw.ensures ∙ ap (λ (u : List ℤ). slice_set u held.junction held.head) c.vector-own.ensures)
    c.requires.spent
