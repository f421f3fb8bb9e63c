-- The names are looked up, and the network is run with their links, or the first that doesn't fit is refused.
use Rattle.std.proofs.Common.{ℕ, List, subst}
use Rattle.hyd_command_answers.specs.DeskContents.{seen}
use Rattle.hyd_naming_command.specs.NamingAnswers.{AnswersRunNaming, named, refused}
use Rattle.hyd_naming_command.proofs.command.run_named.Goals as goal

pub returns-in-Ok-clause-answers : goal.returns-in-Ok-clause-answers
returns-in-Ok-clause-answers g c =
    let before = seen g.D.Desk.files g.D.Desk.written g.D.Desk.printed c.args.desk.now in
    let now = seen g.D.Desk.files g.D.Desk.written g.D.Desk.printed c.run_network.new.desk in
    named c.in-Ok.links c.in-Ok.ensures.are (c.in-Ok.ensures.may c.requires.some)
    (subst (λ (n : List ℕ). AnswersRunNaming c.args.project n c.args.settings c.args.cert.now c.run_network.result
    before now) c.as_slice.ensures c.run_network.ensures.answers)

pub returns-in-Err-clause-answers : goal.returns-in-Err-clause-answers
returns-in-Err-clause-answers g c = refused _ _ c.in-Err.ensures.refused c.refuse_name.ensures.answers
