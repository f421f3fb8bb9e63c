use Rattle.std.proofs.Common.{◌∙◌, sym, subst, List, ℤ, Some}
use Rattle.hyd_spec_certificates.specs.declared.Problem.TheVariants.{Main}
use Rattle.hyd_spec_certificates.specs.StartsRaisesAndLeaps.{IsStart}
use Rattle.hyd_period_network.specs.NetAsPeriodNetwork.{grid_of}
use Rattle.hyd_spent_rounds.proofs.RoundsWithinBound.{spent-past}
use Rattle.hyd_spent_rounds.proofs.spent_rounds.are_spent.Goals as goal

pub returns-clause-spent : goal.returns-clause-spent
returns-clause-spent c = λ yes.
    let grid = grid_of c.args.net.now in
    let held = c.args.held in
    let side = c.args.side in
    spent-past held grid c.junctions-junctions.ensures.steady side c.args.start.now c.args.bound.now c.args.step
    (c.is_bound.ensures c.if-not-is_bound.false) (c.requires.bound_each ∙ c.requires.start.one_each)
    c.args.rounds c.leap.new.u
    (c.leap.ensures.start c.if-not-leap.false (subst (λ (u : List ℤ). IsStart (Some held) grid Main side u)
    (sym c.copy_from_slice.ensures.after) c.requires.start))
    (c.lie_past.ensures yes)
