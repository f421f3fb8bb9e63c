use Rattle.std.proofs.Common.{◌+◌, ◌*◌}
use Rattle.std.specs.Prelude.{length}
use Rattle.hyd_spec_certificates.specs.Certificate.{IsCertificate}
use Rattle.hyd_period_network.specs.NetAsPeriodNetwork.{grid_of}
use Rattle.hyd_cert.specs.RecordView.{row_of}
use Rattle.hyd_period_vectors.specs.SoughtVectors.{EachBefore}
use Rattle.hyd_open_sim_start.proofs.given_vectors.check_vectors.Given as goal

abbrev pub invariant-loop-tank : goal.invariant-loop-tank
invariant-loop-tank l =
    EachBefore (IsCertificate (grid_of l.net)) (length l.net.tanks) (2 * l.tank + 2) (row_of l.row)
