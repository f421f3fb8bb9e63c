-- The command of the words is the one that is carried out.
use Rattle.std.proofs.Common.{Option, sym, ◌∙◌, map, subst}
use Rattle.std.specs.Prelude.{string_bytes}
use Rattle.hyd_command_words.specs.CommandGrammar.{Order}
use Rattle.hyd_command_answers.specs.DeskContents.{seen}
use Rattle.hyd_cli.specs.Commands.{DoesOrder}
use Rattle.hyd_cli.proofs.CommandsOfWords.{names_apart}
use Rattle.hyd_cli.proofs.OrdersWithoutMemory.{orders_nothing}
use Rattle.hyd_cli.proofs.whole_command.tool.Goals as goal

pub carry_out-requires-clause-apart : goal.carry_out-requires-clause-apart
carry_out-requires-clause-apart g c order asked =
    names_apart (map string_bytes c.args.words.now) order (sym c.in-Ok.ensures.command ∙ asked)

pub returns-in-Ok-clause-does : goal.returns-in-Ok-clause-does
returns-in-Ok-clause-does g c =
    let before = seen g.D.Desk.files g.D.Desk.written g.D.Desk.printed c.args.desk.now in
    let now = seen g.D.Desk.files g.D.Desk.written g.D.Desk.printed c.carry_out.new.desk in
    subst (λ (o : Option Order). DoesOrder o c.carry_out.result before now (g.D.Desk.openings c.args.desk.now)
    (g.D.Desk.openings c.carry_out.new.desk) (g.D.Desk.ready c.carry_out.new.desk)) c.in-Ok.ensures.command
    c.carry_out.ensures.does

pub returns-in-Err-clause-does : goal.returns-in-Err-clause-does
returns-in-Err-clause-does g c = orders_nothing _ _ _ _
