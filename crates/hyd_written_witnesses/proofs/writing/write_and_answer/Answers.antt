-- What the passes and the line of their end leave.
use Rattle.std.proofs.Common.{◌≡◌, ◌∙◌, sym, subst}
use Rattle.hyd_io.specs.declared.desk.Openings.{Openings}
use Rattle.hyd_spec.specs.ProgramTypes.{Project}
use Rattle.hyd_command_answers.specs.DeskContents.{seen}
use Rattle.hyd_witness_stream.specs.SearchEnds.{halt_line}
use Rattle.hyd_written_witnesses.specs.Statuses.{SaysHalt}
use Rattle.hyd_written_witnesses.specs.CommandWitness.{SearchesWitness}
use Rattle.hyd_written_witnesses.proofs.AnswersOfSearch.{end_answered, fault_answered, cause_behind}
use Rattle.hyd_written_witnesses.proofs.writing.write_and_answer.Goals as goal

pub returns-in-Ok-clause-cause : goal.returns-in-Ok-clause-cause
returns-in-Ok-clause-cause g c =
    cause_behind c.answer_end.result _ _ _ c.in-Ok.ensures.passed.steady c.answer_end.ensures.cause

pub returns-in-Ok-clause-searches : goal.returns-in-Ok-clause-searches
returns-in-Ok-clause-searches g c =
    let project = c.args.bench.now.sim.project in
    let before = seen g.D.Desk.files g.D.Desk.written g.D.Desk.printed c.args.desk.now in
    let between = seen g.D.Desk.files g.D.Desk.written g.D.Desk.printed c.write_passes.new.desk in
    let now = seen g.D.Desk.files g.D.Desk.written g.D.Desk.printed c.answer_end.new.desk in
    let end = c.in-Ok.end in
    let same : c.project.result.now ≡ project = c.project.ensures.project ∙ c.write_passes.ensures.project in
    let says : SaysHalt end c.answer_end.result (halt_line project end.periods end.halt) between now =
    subst (λ (p : Project). SaysHalt end c.answer_end.result (halt_line p end.periods end.halt) between now) same
    c.answer_end.ensures.says in
    subst (λ (o : Openings). SearchesWitness project c.args.cert.now c.args.out.now c.answer_end.result before now
    (g.D.Desk.openings c.args.desk.now) o) (sym c.answer_end.ensures.openings_stay)
    (end_answered project c.args.cert.now c.args.out.now end before between (g.D.Desk.counts c.args.desk.now)
    (g.D.Desk.counts c.write_passes.new.desk) c.in-Ok.ensures.passed (g.D.Desk.openings c.args.desk.now)
    (g.D.Desk.openings c.write_passes.new.desk) c.in-Ok.ensures.opens c.answer_end.result now says)

pub returns-in-Err-clause-cause : goal.returns-in-Err-clause-cause
returns-in-Err-clause-cause g c = c.in-Err.ensures.passed.cause

pub returns-in-Err-clause-searches : goal.returns-in-Err-clause-searches
returns-in-Err-clause-searches g c =
    fault_answered c.args.bench.now.sim.project c.args.cert.now c.args.out.now _ _ (g.D.Desk.counts c.args.desk.now)
    (g.D.Desk.counts c.write_passes.new.desk) _ _ c.in-Err.status c.in-Err.ensures.passed c.in-Err.ensures.opens
