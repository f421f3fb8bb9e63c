use Rattle.std.proofs.Common.{◌≡◌, subst}
use Rattle.std.specs.Prelude.{Err}
use Rattle.hyd_spec_certificates.specs.declared.CertRefused.{CertRefused}
use Rattle.hyd_spec_certificates.specs.RefusedRecords.{IsRefused}
use Rattle.hyd_cert.specs.RecordView.{row_of}
use Rattle.hyd_sim.specs.RunView.{SimView, standing_of}
use Rattle.hyd_sim.proofs.sim.Sim.accept.Goals as goal

pub returns-clause-exactly : goal.returns-clause-exactly
returns-clause-exactly c =
    subst (λ (v : SimView). (cause : CertRefused)
    → IsRefused v.project (standing_of v) (row_of c.args.row.now) cause → c.take.result ≡ Err cause) c.self.view_is
    (λ cause is. c.take.ensures.exactly cause is)
