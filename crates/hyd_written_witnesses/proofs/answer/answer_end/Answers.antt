-- The status of the end, or of the fault that broke its line off.
use Rattle.std.proofs.Common.{sym, subst}
use Rattle.hyd_command_answers.specs.FaultsAndRefusals.{HasCause}
use Rattle.hyd_command_answers.specs.declared.status.Status.{Status}
use Rattle.hyd_written_witnesses.specs.Statuses.{said, cut_off}
use Rattle.hyd_written_witnesses.proofs.StatusesOfWitness.{halt_cause}
use Rattle.hyd_written_witnesses.proofs.answer.answer_end.Goals as goal

pub returns-in-Ok-clause-cause : goal.returns-in-Ok-clause-cause
returns-in-Ok-clause-cause g c =
    let before = g.D.Desk.counts c.args.desk.now in
    let now = g.D.Desk.counts c.print_halt.new.desk in
    subst (λ (s : Status). HasCause s before now) (sym c.status_of_halt.ensures)
    (halt_cause c.args.end.halt before now c.in-Ok.ensures.steady)

pub returns-in-Ok-clause-says : goal.returns-in-Ok-clause-says
returns-in-Ok-clause-says g c = said c.status_of_halt.ensures c.in-Ok.ensures.whole

pub returns-in-Err-clause-says : goal.returns-in-Err-clause-says
returns-in-Err-clause-says g c = cut_off c.in-Err.fault c.fault_status.ensures c.in-Err.ensures.front
