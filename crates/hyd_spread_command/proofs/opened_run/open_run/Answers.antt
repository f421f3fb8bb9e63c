-- A run that was opened is for the spread of the text, and its nets are the network's.
use Rattle.std.proofs.Common.{◌∙◌, subst}
use Rattle.hyd_spec.specs.ProgramTypes.{Project}
use Rattle.hyd_spread_networks.specs.NetsOfSpreads.{AreNetsOf}
use Rattle.hyd_spread_rows.specs.SpreadsRead.{IfFault}
use Rattle.hyd_spread_files.specs.RefusedSpreads.{IsSpreadFault}
use Rattle.hyd_spread_files.proofs.OpenedRuns.{gives}
use Rattle.hyd_spread_command.proofs.opened_run.open_run.Goals as goal

pub returns-in-Ok-clause-gives : goal.returns-in-Ok-clause-gives
returns-in-Ok-clause-gives c =
    gives c.args.project c.args.text.now c.in-Ok.sim.nets c.in_ok-start.ensures.begins
    (c.in-Ok.ensures.spread ∙ c.in_ok-start.ensures.spread)
    (subst (λ (p : Project). AreNetsOf p c.in-Ok.sim.nets) c.in-Ok.ensures.project
    c.project-project.ensures.is_sim.nets)

pub returns-in-Err-clause-fault : goal.returns-in-Err-clause-fault
returns-in-Err-clause-fault c =
    subst (λ (p : Project). IfFault c.nets_fault.result (λ fault.
    IsSpreadFault p c.args.text.now fault.line fault.cause))
    c.in-Err.ensures.kept c.nets_fault.ensures
