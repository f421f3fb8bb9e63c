use Rattle.hyd_command_words.proofs.NamesBetweenCommas.{none_given}
use Rattle.hyd_command_words.proofs.command.LinkNames.is_empty.Goals as goal

pub returns : goal.returns
returns c = none_given c.args.self.now.ids c.is_none.result c.is_none.ensures
