use Rattle.std.proofs.Common.{◌≡◌, subst}
use Rattle.std.specs.Prelude.{Err}
use Rattle.hyd_spec_certificates.specs.declared.CertRefused.{CertRefused}
use Rattle.hyd_spec_spread_refusals.specs.RefusedSpreadRecords.{IsRefusedOver}
use Rattle.hyd_open_certificates.specs.OpenRowView.{open_record_of}
use Rattle.hyd_spread_sim.specs.SpreadRunView.{SpreadSimView, standing_of}
use Rattle.hyd_spread_sim.proofs.spread_sim.SpreadSim.accept.Goals as goal

pub returns-clause-exactly : goal.returns-clause-exactly
returns-clause-exactly c =
    subst (λ (v : SpreadSimView). (cause : CertRefused)
    → IsRefusedOver v.project v.nets.spread (standing_of v) (open_record_of c.args.given.now) cause
    → c.take.result ≡ Err cause) c.self.view_is (λ cause is. c.take.ensures.exactly cause is)
