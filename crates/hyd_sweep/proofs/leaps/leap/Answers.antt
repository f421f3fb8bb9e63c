use Rattle.std.proofs.Common.{sym, subst, ◌∙◌, List, ℤ}
use Rattle.hyd_spec_certificates.specs.StartsRaisesAndLeaps.{IsStart}
use Rattle.hyd_period_network.specs.NetAsPeriodNetwork.{grid_of}
use Rattle.hyd_sweep.proofs.LeapsInTurn.{start-in-turn, in-turn}
use Rattle.hyd_sweep.proofs.leaps.leap.Goals as goal

pub returns-clause-start : goal.returns-clause-start
returns-clause-start c leapt start =
    subst (λ (u : List ℤ). IsStart c.args.held (grid_of c.args.net.now) c.args.problem c.args.side u)
    (sym c.copy_from_slice.ensures.after)
    (start-in-turn c.args.held (grid_of c.args.net.now) c.junctions-junctions.ensures.steady c.args.problem
    c.args.side c.args.u.now c.args.to.now start
    (c.take_turns.ensures.leaps.0 c.if-not-take_turns.false))

pub returns-then-not-are_in_box-clause-every : goal.returns-then-not-are_in_box-clause-every
returns-then-not-are_in_box-clause-every c leap = sym c.if-not-are_in_box.true ∙ c.are_in_box.ensures.1 leap.in_box

pub returns-then-not-lies_beyond-clause-every : goal.returns-then-not-lies_beyond-clause-every
returns-then-not-lies_beyond-clause-every c leap = sym c.if-not-lies_beyond.true ∙ c.lies_beyond.ensures.1 leap.beyond

pub returns-then-not-take_turns-clause-every : goal.returns-then-not-take_turns-clause-every
returns-then-not-take_turns-clause-every c leap =
    sym c.if-not-take_turns.true ∙ c.take_turns.ensures.leaps.1
    (in-turn c.args.held (grid_of c.args.net.now) c.junctions-junctions.ensures.steady c.args.problem c.args.side
    c.args.u.now c.args.to.now leap)
