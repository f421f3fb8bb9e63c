-- What was sought for the network of the bench.
use Rattle.std.proofs.Common.{subst}
use Rattle.hyd_spec.specs.ProgramTypes.{Project}
use Rattle.hyd_command_answers.specs.DeskContents.{seen}
use Rattle.hyd_written_witnesses.specs.CommandWitness.{SearchesWitness}
use Rattle.hyd_written_witnesses.proofs.AnswersOfSearch.{nothing_searched}
use Rattle.hyd_written_witnesses.proofs.writing.write_of_network.Goals as goal

pub returns-in-Ok-clause-searches : goal.returns-in-Ok-clause-searches
returns-in-Ok-clause-searches g c =
    let before = seen g.D.Desk.files g.D.Desk.written g.D.Desk.printed c.args.desk.now in
    let now = seen g.D.Desk.files g.D.Desk.written g.D.Desk.printed c.write_and_answer-status.new.desk in
    subst (λ (p : Project). SearchesWitness p c.args.cert.now c.args.out.now c.write_and_answer-status.result before now
    (g.D.Desk.openings c.args.desk.now) (g.D.Desk.openings c.write_and_answer-status.new.desk)) c.in-Ok.ensures.project
    c.write_and_answer-status.ensures.searches

pub returns-in-Err-clause-searches : goal.returns-in-Err-clause-searches
returns-in-Err-clause-searches g c = nothing_searched c.args.project c.args.cert.now c.args.out.now _ _
