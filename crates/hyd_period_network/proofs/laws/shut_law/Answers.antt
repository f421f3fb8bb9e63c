use Rattle.std.proofs.Common.{subst}
use Rattle.hyd_law.specs.declared.link_law_kinds.LinkLaw.{LinkLaw}
use Rattle.hyd_period_network.specs.LawsInSettings.{HasRoom}
use Rattle.hyd_period_network.proofs.laws.shut_law.Goals as goal

pub returns-in-Bent-clause-room : goal.returns-in-Bent-clause-room
returns-in-Bent-clause-room c n room = c.closed_curve.ensures.room n
    (subst (λ (l : LinkLaw). HasRoom n l) c.in-Bent.is room)
