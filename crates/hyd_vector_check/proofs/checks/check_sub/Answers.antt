use Rattle.std.proofs.Common.{subst}
use Rattle.std.proofs.lemmas.Result.{on_ok_weaker}
use Rattle.hyd_spec_certificates.specs.declared.Problem.{Problem}
use Rattle.hyd_spec_certificates.specs.declared.Side.TheVariants.{Lower}
use Rattle.hyd_spec_certificates.specs.Certificate.{IsCertificate}
use Rattle.hyd_period_network.specs.NetAsPeriodNetwork.{grid_of}
use Rattle.hyd_vector_check.proofs.CertificateComparisons.{below-all, below-pinned, below-upper}
use Rattle.hyd_vector_check.proofs.checks.check_sub.Goals as goal

pub returns-clause-below : goal.returns-clause-below
returns-clause-below c main = on_ok_weaker c.check.result
    (λ is. below-all (grid_of c.args.net.now) c.args.u.now (subst
    (λ (p : Problem). IsCertificate (grid_of c.args.net.now) p Lower c.args.u.now) main is))
    c.check.ensures.certificate

pub returns-clause-below_pinned : goal.returns-clause-below_pinned
returns-clause-below_pinned c tank pinned = on_ok_weaker c.check.result
    (λ is. below-pinned (grid_of c.args.net.now) c.args.u.now tank
    (subst (λ (p : Problem). IsCertificate (grid_of c.args.net.now) p Lower c.args.u.now) pinned is))
    c.check.ensures.certificate

pub returns-clause-below_upper : goal.returns-clause-below_upper
returns-clause-below_upper c = on_ok_weaker c.check.result (below-upper (grid_of c.args.net.now) c.args.u.now
    c.junctions-junctions.ensures.steady c.args.problem) c.check.ensures.certificate
