use Rattle.hyd_theorems_on_spread.proofs.HeadsWithin.{heads-below, heads-above}
use Rattle.hyd_theorems_on_spread.proofs.HistoriesWithin.{each-period, assignment-of}
use Rattle.hyd_theorems_on_spread.proofs.histories.Goals as goal

pub returns-clause-above : goal.returns-clause-above
returns-clause-above c = λ project sound spread S periods history k period at intervals lie u certificate.
    let one = each-period project sound spread S periods history k period at in
    heads-below project spread S period.time intervals period.levels period.tanks period.links one.nodes
    period.assignment (assignment-of project sound spread S period one intervals lie) certificate.grid u
    certificate.is_outermost certificate.is_certificate

pub returns-clause-below : goal.returns-clause-below
returns-clause-below c = λ project sound spread S periods history k period at intervals lie u certificate.
    let one = each-period project sound spread S periods history k period at in
    heads-above project spread S period.time intervals period.levels period.tanks period.links one.nodes
    period.assignment (assignment-of project sound spread S period one intervals lie) certificate.grid u
    certificate.is_outermost certificate.is_certificate
