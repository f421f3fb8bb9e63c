use Rattle.std.proofs.Common.{ℤ, List, ap, sym, ◌∙◌}
use Rattle.std.specs.Prelude.{None, length}
use Rattle.hyd_spec_certificates.specs.Certificate.{IsCertificate, FailsFirst}
use Rattle.hyd_spec_certificates.specs.PeriodNetwork.{Grid}
use Rattle.hyd_cert.specs.RecordView.{row_of}
use Rattle.hyd_period_network.specs.NetView.{NetView}
use Rattle.hyd_sim.proofs.HandedInVectors.{one-more-before, vector-long}
use Rattle.hyd_spread_networks.specs.NetsOfSpreads.{pair_of}
use Rattle.hyd_spread_sim.specs.GivenVectors.{IsCertificateOn}
use Rattle.hyd_spread_sim.proofs.HandedInOverSpreads.{on-side, problem-on}
use Rattle.hyd_spread_sim.proofs.given_vectors.check_one.Goals as goal

pub check-requires-clause-one_each : goal.check-requires-clause-one_each
check-requires-clause-one_each c =
    ap length c.vector.ensures
    ∙ (vector-long c.args.row.now c.args.problem c.args.side c.requires.problem
    ∙ ((c.requires.fits c.args.side).junctions ∙ sym (ap (λ (n : NetView). length n.junctions) c.on.ensures)))

pub check-requires-clause-pinned : goal.check-requires-clause-pinned
check-requires-clause-pinned c =
    problem-on _ c.on.result.now c.args.row.now.tanks c.args.problem c.on.ensures (c.requires.fits c.args.side).tanks
    c.requires.problem

pub returns-in-Ok-clause-certificate : goal.returns-in-Ok-clause-certificate
returns-in-Ok-clause-certificate c =
    let nets = c.args.nets.now in
    let row = row_of c.args.row.now in
    one-more-before (IsCertificateOn (pair_of nets)) c.args.row.now.tanks c.args.problem c.args.side row
    c.requires.before
    (on-side nets c.args.side c.on.result.now c.on.ensures
    (λ (g : Grid) (u : List ℤ). IsCertificate g c.args.problem c.args.side u) _ _ c.vector.ensures
    c.in-Ok.ensures.certificate)

pub returns-in-Err-clause-fails : goal.returns-in-Err-clause-fails
returns-in-Err-clause-fails c = record {
  is_problem = c.requires.problem;
  earlier = c.requires.before;
  fails = on-side c.args.nets.now c.args.side c.on.result.now c.on.ensures
      (λ (g : Grid) (u : List ℤ). FailsFirst None g c.args.problem c.args.side u c.in-Err.fails.junction) _ _
      c.vector.ensures c.in-Err.ensures.fails;
}
