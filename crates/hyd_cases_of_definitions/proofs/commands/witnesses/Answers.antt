use Rattle.std.proofs.Common.{refl}
use Rattle.hyd_num.specs.Numeral.{is_numeral, nano_of, magnitude_of}
use Rattle.hyd_command_words.specs.OptionsAndNames.{kind_of}
use Rattle.hyd_cases_of_definitions.proofs.commands.witnesses.Goals as goal

pub returns : goal.returns
unfolding kind_of is_numeral nano_of magnitude_of
returns c = record { meets = refl }
