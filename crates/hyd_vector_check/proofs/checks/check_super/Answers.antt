use Rattle.std.proofs.Common.{subst}
use Rattle.std.proofs.lemmas.Result.{on_ok_weaker}
use Rattle.hyd_spec_certificates.specs.declared.Problem.{Problem}
use Rattle.hyd_spec_certificates.specs.declared.Side.TheVariants.{Upper}
use Rattle.hyd_spec_certificates.specs.Certificate.{IsCertificate}
use Rattle.hyd_period_network.specs.NetAsPeriodNetwork.{grid_of}
use Rattle.hyd_vector_check.proofs.CertificateComparisons.{above-all, above-pinned, above-lower}
use Rattle.hyd_vector_check.proofs.checks.check_super.Goals as goal

pub returns-clause-above : goal.returns-clause-above
returns-clause-above c main = on_ok_weaker c.check.result
    (λ is. above-all (grid_of c.args.net.now) c.args.u.now (subst
    (λ (p : Problem). IsCertificate (grid_of c.args.net.now) p Upper c.args.u.now) main is))
    c.check.ensures.certificate

pub returns-clause-above_pinned : goal.returns-clause-above_pinned
returns-clause-above_pinned c tank pinned = on_ok_weaker c.check.result
    (λ is. above-pinned (grid_of c.args.net.now) c.args.u.now tank
    (subst (λ (p : Problem). IsCertificate (grid_of c.args.net.now) p Upper c.args.u.now) pinned is))
    c.check.ensures.certificate

pub returns-clause-above_lower : goal.returns-clause-above_lower
returns-clause-above_lower c = on_ok_weaker c.check.result (above-lower (grid_of c.args.net.now) c.args.u.now
    c.junctions-junctions.ensures.steady c.args.problem) c.check.ensures.certificate
