use Rattle.std.proofs.Common.{refl}
use Rattle.hyd_num.specs.Numeral.{is_numeral, nano_of, magnitude_of}
use Rattle.hyd_command_words.specs.OptionsAndNames.{kind_of}
use Rattle.hyd_cases_of_definitions.proofs.commands.refused.Goals as goal

pub returns-clause-names : goal.returns-clause-names
unfolding kind_of is_numeral nano_of magnitude_of
returns-clause-names c = refl

pub returns-clause-rounds : goal.returns-clause-rounds
unfolding kind_of is_numeral nano_of magnitude_of
returns-clause-rounds c = refl

pub returns-clause-widths : goal.returns-clause-widths
unfolding kind_of is_numeral nano_of magnitude_of
returns-clause-widths c = refl

pub returns-clause-others : goal.returns-clause-others
unfolding kind_of is_numeral nano_of magnitude_of
returns-clause-others c = refl

pub returns-clause-targets : goal.returns-clause-targets
unfolding kind_of is_numeral nano_of magnitude_of
returns-clause-targets c = refl

pub returns-clause-flows : goal.returns-clause-flows
unfolding kind_of is_numeral nano_of magnitude_of
returns-clause-flows c = refl

pub returns-clause-flows_alone : goal.returns-clause-flows_alone
unfolding kind_of is_numeral nano_of magnitude_of
returns-clause-flows_alone c = refl

pub returns-clause-witnesses : goal.returns-clause-witnesses
unfolding kind_of is_numeral nano_of magnitude_of
returns-clause-witnesses c = refl
