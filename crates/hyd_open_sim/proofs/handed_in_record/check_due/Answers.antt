use Rattle.std.proofs.Common.{sym, ◌∙◌}
use Rattle.hyd_open_certificates.specs.OpenRowView.{open_record_of}
use Rattle.hyd_open_sim_start.specs.StandingsOfOpenRuns.{standing_for}
use Rattle.hyd_open_sim.proofs.TakenAndRefusedRecords.{demand-refused}
use Rattle.hyd_open_sim.proofs.handed_in_record.check_due.Goals as goal

pub returns-then-is_err-clause-refused : goal.returns-then-is_err-clause-refused
returns-then-is_err-clause-refused c =
    demand-refused c.args.project.now (standing_for c.args.standing.now) (open_record_of c.args.given.now)
    c.start_period.result (sym c.is_err.ensures.value ∙ c.if-is_err.true) c.start_period.ensures.in_range
    c.requires.in_place
