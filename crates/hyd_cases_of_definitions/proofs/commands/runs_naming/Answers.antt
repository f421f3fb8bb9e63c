use Rattle.std.proofs.Common.{refl}
use Rattle.hyd_num.specs.Numeral.{is_numeral, nano_of, magnitude_of}
use Rattle.hyd_command_words.specs.OptionsAndNames.{kind_of}
use Rattle.hyd_cases_of_definitions.proofs.commands.runs_naming.Goals as goal

pub returns-clause-names : goal.returns-clause-names
unfolding kind_of is_numeral nano_of magnitude_of
returns-clause-names c = refl

pub returns-clause-positions : goal.returns-clause-positions
unfolding kind_of is_numeral nano_of magnitude_of
returns-clause-positions c = refl
