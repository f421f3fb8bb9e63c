use Rattle.std.proofs.Common.{refl}
use Rattle.hyd_num.specs.Numeral.{is_numeral, nano_of, magnitude_of}
use Rattle.hyd_command_words.specs.OptionsAndNames.{kind_of}
use Rattle.hyd_cases_of_definitions.proofs.commands.targets_for_spreads.Goals as goal

pub returns-clause-fires : goal.returns-clause-fires
unfolding kind_of is_numeral nano_of magnitude_of
returns-clause-fires c = refl

pub returns-clause-closes : goal.returns-clause-closes
unfolding kind_of is_numeral nano_of magnitude_of
returns-clause-closes c = refl

pub returns-clause-refused : goal.returns-clause-refused
unfolding kind_of is_numeral nano_of magnitude_of
returns-clause-refused c = refl
