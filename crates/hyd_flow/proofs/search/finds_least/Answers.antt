use Rattle.std.proofs.Common.{ap, ◌∙◌, subst, List, ℤ}
use Rattle.hyd_spec_certificates.specs.declared.Problem.TheVariants.{Main}
use Rattle.hyd_spec_certificates.specs.RecordAndStanding.{vector_of}
use Rattle.hyd_cert.specs.RecordView.{row_of}
use Rattle.hyd_period_network.specs.NetAsPeriodNetwork.{grid_of}
use Rattle.hyd_spent_rounds.specs.SpentRounds.{AreSpent}
use Rattle.hyd_flow.proofs.FoundVectors.{start_here}
use Rattle.hyd_flow.proofs.search.finds_least.Goals as goal

pub finds_spent-requires-clause-start : goal.finds_spent-requires-clause-start
finds_spent-requires-clause-start c =
    let row = row_of c.args.row.now in
    start_here (grid_of c.args.net.now) row c.requires.given.certified c.args.from c.args.side
    c.args.held c.requires.held c.vector-start.result.now
    (c.vector-start.ensures ∙ ap (vector_of row Main) c.opposite.ensures)

pub returns-then-finds_spent-clause-spent : goal.returns-then-finds_spent-clause-spent
returns-then-finds_spent-clause-spent c = λ e.
    subst (λ (u : List ℤ). AreSpent c.args.held (grid_of c.args.net.now) c.args.side c.args.rounds u)
    (c.vector-start.ensures ∙ ap (vector_of (row_of c.args.row.now) Main) c.opposite.ensures)
    (c.finds_spent.ensures.spent c.if-finds_spent.true)
