-- The run is of the network that was read.
use Rattle.std.proofs.Common.{subst}
use Rattle.hyd_spec.specs.ProgramTypes.{Project}
use Rattle.hyd_command_answers.specs.DeskContents.{seen}
use Rattle.hyd_cli.specs.TaskWithNetwork.{DoesTask}
use Rattle.hyd_cli.proofs.TaskWithoutMemory.{does_nothing}
use Rattle.hyd_cli.proofs.task_with_network.do_with_network.Goals as goal

pub returns-in-Ok-clause-does : goal.returns-in-Ok-clause-does
returns-in-Ok-clause-does g c =
    let before = seen g.D.Desk.files g.D.Desk.written g.D.Desk.printed c.args.desk.now in
    let now = seen g.D.Desk.files g.D.Desk.written g.D.Desk.printed c.do_by_run-status.new.desk in
    subst (λ (p : Project). DoesTask c.args.task p c.do_by_run-status.result before now
    (g.D.Desk.openings c.args.desk.now)
    (g.D.Desk.openings c.do_by_run-status.new.desk) (g.D.Desk.ready c.do_by_run-status.new.desk))
    c.in-Ok.ensures.project
    c.do_by_run-status.ensures.does

pub returns-in-Err-clause-does : goal.returns-in-Err-clause-does
returns-in-Err-clause-does g c = does_nothing c.args.task c.args.project _ _ _
