use Rattle.hyd_spec_certificates.specs.declared.Problem.TheVariants.{Main}
use Rattle.hyd_theorems_on_raises.proofs.SearchStarts.{start-end, start-other, main-fixed, start-held, drawn}
use Rattle.hyd_theorems_on_raises.proofs.starts.Goals as goal

pub returns-clause-at_end : goal.returns-clause-at_end
returns-clause-at_end c = start-end

pub returns-clause-other : goal.returns-clause-other
returns-clause-other c grid steady side held problem tanks v other ordered =
    start-other grid steady side held problem Main (main-fixed grid side problem tanks) v other ordered

pub returns-clause-at_held : goal.returns-clause-at_held
returns-clause-at_held c grid problem side held u start inside in_box =
    start-held grid problem side held.junction held.head u start inside in_box

pub returns-clause-drawn : goal.returns-clause-drawn
returns-clause-drawn c grid steady problem side held u certificate inside in_box near =
    drawn grid steady problem side held.junction held.head u certificate inside in_box near
