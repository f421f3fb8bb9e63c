use Rattle.std.proofs.Common.{ap, ◌∙◌}
use Rattle.hyd_spec_certificates.specs.declared.Problem.TheVariants.{Main}
use Rattle.hyd_spec_certificates.specs.RecordAndStanding.{vector_of}
use Rattle.hyd_cert.specs.RecordView.{row_of}
use Rattle.hyd_period_network.specs.NetAsPeriodNetwork.{grid_of}
use Rattle.hyd_flow.proofs.FoundVectors.{start_here, spent_sweep}
use Rattle.hyd_flow.proofs.search.sweeps_to_least.Goals as goal

pub tighten-requires-clause-start : goal.tighten-requires-clause-start
tighten-requires-clause-start c =
    let row = row_of c.args.row.now in
    start_here (grid_of c.args.net.now) row c.requires.given.certified c.args.from c.args.side
    c.args.held c.requires.held c.copy_from_slice.new.self
    (c.copy_from_slice.ensures.after ∙ (c.vector.ensures ∙ ap (vector_of row Main) c.opposite.ensures))

pub returns-in-NoCertificate-clause-spent : goal.returns-in-NoCertificate-clause-spent
returns-in-NoCertificate-clause-spent c = λ e reached others holds.
    c.in-NoCertificate.ensures.sweep.1.1.1 reached holds

pub returns-in-RoundsSpent-clause-spent : goal.returns-in-RoundsSpent-clause-spent
returns-in-RoundsSpent-clause-spent c = λ e.
    let row = row_of c.args.row.now in
    let spent = c.in-RoundsSpent.ensures.sweep in
    spent_sweep (grid_of c.args.net.now) row c.requires.given.certified c.args.from c.args.side
    c.args.held c.requires.held c.args.rounds c.copy_from_slice.new.self spent.0
    (c.copy_from_slice.ensures.after ∙ (c.vector.ensures ∙ ap (vector_of row Main) c.opposite.ensures)) spent.1.0
    spent.1.1.0
