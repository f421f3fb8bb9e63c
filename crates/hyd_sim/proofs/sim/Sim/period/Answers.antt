use Rattle.std.proofs.Common.{◌≡◌, false, subst}
use Rattle.std.specs.Prelude.{IsOk}
use Rattle.hyd_spec.specs.NodeNumbers.{tank_count}
use Rattle.hyd_spec_certificates.specs.RecordAndStanding.{Record as Row}
use Rattle.hyd_cert.specs.RecordView.{row_of}
use Rattle.hyd_period_vectors.specs.SoughtVectors.{HaveSame}
use Rattle.hyd_sim.specs.Steps.{IsProposal}
use Rattle.hyd_sim.specs.RunView.{SimView, standing_of}
use Rattle.hyd_sim.proofs.sim.Sim.period.Goals as goal

pub returns-clause-proposal : goal.returns-clause-proposal
returns-clause-proposal g c =
    subst (λ (v : SimView). (w : Row) → v.settings.tight ≡ false
    → IsProposal (g.F.Finder.told c.args.finder.now) v.project v.settings (standing_of v) w
    → IsOk c.advance.result × HaveSame (tank_count v.project) (row_of c.advance.new.row) w) c.self.view_is
    (λ w e p. c.advance.ensures.proposal w e p)
