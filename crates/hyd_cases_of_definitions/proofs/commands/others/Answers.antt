use Rattle.std.proofs.Common.{refl}
use Rattle.hyd_num.specs.Numeral.{is_numeral, nano_of, magnitude_of}
use Rattle.hyd_command_words.specs.OptionsAndNames.{kind_of}
use Rattle.hyd_cases_of_definitions.proofs.commands.others.Goals as goal

pub returns-clause-checks : goal.returns-clause-checks
unfolding kind_of is_numeral nano_of magnitude_of
returns-clause-checks c = refl

pub returns-clause-gens : goal.returns-clause-gens
unfolding kind_of is_numeral nano_of magnitude_of
returns-clause-gens c = refl
