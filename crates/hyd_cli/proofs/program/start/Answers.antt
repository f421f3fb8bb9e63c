-- The words that are collected are those behind the program's name.
use Rattle.std.proofs.Common.{Option, ◌∙◌, ap, map, subst}
use Rattle.std.specs.Prelude.{string_bytes}
use Rattle.hyd_command_words.specs.CommandGrammar.{Order, order_of}
use Rattle.hyd_command_answers.specs.DeskContents.{seen}
use Rattle.hyd_cli.specs.Commands.{DoesOrder}
use Rattle.hyd_cli.proofs.OrdersWithoutMemory.{orders_nothing}
use Rattle.hyd_cli.proofs.program.start.Goals as goal

pub returns-in-Ok-clause-does : goal.returns-in-Ok-clause-does
returns-in-Ok-clause-does g c =
    let before = seen g.D.Desk.files g.D.Desk.written g.D.Desk.printed c.args.desk.now in
    let now = seen g.D.Desk.files g.D.Desk.written g.D.Desk.printed c.tool.new.desk in
    subst (λ (o : Option Order). DoesOrder o c.tool.result before now (g.D.Desk.openings c.args.desk.now)
    (g.D.Desk.openings c.tool.new.desk) (g.D.Desk.ready c.tool.new.desk))
    (ap order_of (ap (map string_bytes) c.deref.ensures.value ∙ c.in-Ok.ensures.words)) c.tool.ensures.does

pub returns-in-Err-clause-does : goal.returns-in-Err-clause-does
returns-in-Err-clause-does g c = orders_nothing _ _ _ _
