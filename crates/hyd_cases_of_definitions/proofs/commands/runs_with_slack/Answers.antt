use Rattle.std.proofs.Common.{refl}
use Rattle.hyd_num.specs.Numeral.{is_numeral, nano_of, magnitude_of}
use Rattle.hyd_command_words.specs.OptionsAndNames.{kind_of}
use Rattle.hyd_cases_of_definitions.proofs.commands.runs_with_slack.Goals as goal

pub returns-clause-seconds : goal.returns-clause-seconds
unfolding kind_of is_numeral nano_of magnitude_of
returns-clause-seconds c = refl

pub returns-clause-positions : goal.returns-clause-positions
unfolding kind_of is_numeral nano_of magnitude_of
returns-clause-positions c = refl

pub returns-clause-refused : goal.returns-clause-refused
unfolding kind_of is_numeral nano_of magnitude_of
returns-clause-refused c = refl
