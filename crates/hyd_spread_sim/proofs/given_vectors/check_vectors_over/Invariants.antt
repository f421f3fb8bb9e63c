use Rattle.std.proofs.Common.{◌+◌, ◌*◌}
use Rattle.hyd_cert.specs.RecordView.{row_of}
use Rattle.hyd_period_vectors.specs.SoughtVectors.{EachBefore}
use Rattle.hyd_spread_networks.specs.NetsOfSpreads.{pair_of}
use Rattle.hyd_spread_sim.specs.GivenVectors.{IsCertificateOn}
use Rattle.hyd_spread_sim.proofs.given_vectors.check_vectors_over.Given as goal

abbrev pub invariant-loop-tank : goal.invariant-loop-tank
invariant-loop-tank l =
    EachBefore (IsCertificateOn (pair_of l.nets)) l.row.tanks (2 * l.tank + 2) (row_of l.row)
