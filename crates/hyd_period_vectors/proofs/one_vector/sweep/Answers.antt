use Rattle.std.proofs.Common.{refl}
use Rattle.hyd_period_network.specs.NetAsPeriodNetwork.{grid_of}
use Rattle.hyd_period_vectors.proofs.RoundsSpentAnywhere.{spent-anywhere}
use Rattle.hyd_period_vectors.proofs.SoughtVectors.{stuck-there}
use Rattle.hyd_period_vectors.proofs.one_vector.sweep.Goals as goal

pub returns-in-RoundsSpent-clause-lack : goal.returns-in-RoundsSpent-clause-lack
returns-in-RoundsSpent-clause-lack c = (
  refl,
  (
    refl,
    spent-anywhere (grid_of c.args.net.now) c.junctions-junctions.ensures.steady c.args.problem
        c.args.side c.args.rounds c.args.heads.now c.tighten.new.u c.requires.start c.in-RoundsSpent.ensures.sweep,
  ),
)

pub returns-in-NoCertificate-clause-lack : goal.returns-in-NoCertificate-clause-lack
returns-in-NoCertificate-clause-lack c =
    let gives = c.in-NoCertificate.ensures.sweep in (
      refl,
      (
        refl,
        (
          gives.0,
          (
            gives.1.1.1,
            stuck-there (grid_of c.args.net.now) c.args.problem c.args.side c.args.rounds c.in-NoCertificate.junction
                c.args.heads.now c.tighten.new.u c.requires.begun gives.1.1.0 c.in-NoCertificate.ensures.goes,
          ),
        ),
      ),
    )
