-- The run is of the network whose room it stands in.
use Rattle.std.proofs.Common.{ap, sym, subst, ◌∙◌}
use Rattle.hyd_spec.specs.ProgramTypes.{Project}
use Rattle.hyd_spec_open_ends.specs.OpenStandings.{initial_open_standing}
use Rattle.hyd_cert.specs.Lines.{Header}
use Rattle.hyd_open_certificates.specs.OpenLines.{open_header}
use Rattle.hyd_open_check.specs.OpenRunsChecked.{header_for as open_header_for}
use Rattle.hyd_command_answers.specs.DeskContents.{seen}
use Rattle.hyd_check_command.specs.OpenCheckAnswers.{AnswersOpenCert}
use Rattle.hyd_check_command.proofs.whole_check.check_by_open_run.Goals as goal

pub check_open_text-status-requires-clause-start : goal.check_open_text-status-requires-clause-start
check_open_text-status-requires-clause-start g c =
    c.of-sim.ensures.standing ∙ ap initial_open_standing (sym c.of-sim.ensures.project)

pub check_open_text-status-requires-clause-header : goal.check_open_text-status-requires-clause-header
check_open_text-status-requires-clause-header g c =
    ap (λ (h : Header). open_header h.junctions h.tanks) c.requires.header
    ∙ ap open_header_for (sym c.of-sim.ensures.project)

pub returns-clause-answers : goal.returns-clause-answers
returns-clause-answers g c certificate told =
    let before = seen g.D.Desk.files g.D.Desk.written g.D.Desk.printed c.args.desk.now in
    let now = seen g.D.Desk.files g.D.Desk.written g.D.Desk.printed c.check_open_text-status.new.desk in
    subst (λ (p : Project). AnswersOpenCert p certificate c.check_open_text-status.result before now)
    c.of-sim.ensures.project (c.check_open_text-status.ensures.answers certificate told)
