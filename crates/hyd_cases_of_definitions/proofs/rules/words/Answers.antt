use Rattle.std.proofs.Common.{refl}
use Rattle.hyd_cases_of_definitions.proofs.rules.words.Goals as goal

pub returns-clause-words : goal.returns-clause-words
returns-clause-words c = refl

pub returns-clause-settings : goal.returns-clause-settings
returns-clause-settings c = refl
