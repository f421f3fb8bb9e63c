use Rattle.std.proofs.Common.{sym, ◌∙◌}
use Rattle.hyd_cert.specs.RecordView.{row_of}
use Rattle.hyd_sim.specs.RunView.{standing_for}
use Rattle.hyd_sim.proofs.TakenAndRefusedRecords.{demand-refused}
use Rattle.hyd_sim.proofs.handed_in_record.check_due.Goals as goal

pub returns-then-is_err-clause-refused : goal.returns-then-is_err-clause-refused
returns-then-is_err-clause-refused c =
    demand-refused c.args.project.now (standing_for c.args.standing.now) (row_of c.args.given.now)
    c.start_period.result (sym c.is_err.ensures.value ∙ c.if-is_err.true) c.start_period.ensures.in_range
    c.requires.in_place
