use Rattle.std.proofs.Common.{ap, subst, ◌∙◌}
use Rattle.std.specs.Prelude.{length}
use Rattle.hyd_spec_certificates.specs.Certificate.{IsCertificate}
use Rattle.hyd_period_network.specs.NetAsPeriodNetwork.{grid_of}
use Rattle.hyd_cert.specs.RecordView.{row_of}
use Rattle.hyd_sim.proofs.HandedInVectors.{one-more-before, problem-there, vector-long}
use Rattle.hyd_open_sim_start.proofs.given_vectors.check_one.Goals as goal

pub returns-in-Ok-clause-certificate : goal.returns-in-Ok-clause-certificate
returns-in-Ok-clause-certificate c =
    let grid = grid_of c.args.net.now in
    one-more-before (IsCertificate grid) (length c.args.net.now.tanks) c.args.problem c.args.side
    (row_of c.args.row.now) c.requires.before
    (subst (IsCertificate grid c.args.problem c.args.side) c.vector.ensures c.in-Ok.ensures.certificate)

pub check-requires-clause-one_each : goal.check-requires-clause-one_each
check-requires-clause-one_each c =
    let row = c.args.row.now in
    ap length c.vector.ensures
    ∙ (vector-long row c.args.problem c.args.side
    (problem-there c.args.net.now row.tanks c.args.problem c.requires.fits.tanks c.requires.pinned)
    ∙ c.requires.fits.junctions)
