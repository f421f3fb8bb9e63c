use Rattle.std.proofs.Common.{refl}
use Rattle.hyd_cases_of_definitions.proofs.numbers.numerals.Goals as goal
use Rattle.hyd_num.specs.Numeral.{is_numeral}

pub returns-clause-numbers : goal.returns-clause-numbers
unfolding is_numeral
returns-clause-numbers c = refl

pub returns-clause-others : goal.returns-clause-others
unfolding is_numeral
returns-clause-others c = refl
