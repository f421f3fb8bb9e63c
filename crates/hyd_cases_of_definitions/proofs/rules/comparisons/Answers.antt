use Rattle.std.proofs.Common.{refl}
use Rattle.hyd_cases_of_definitions.proofs.rules.comparisons.Goals as goal

pub returns-clause-less : goal.returns-clause-less
returns-clause-less c = refl

pub returns-clause-notmore : goal.returns-clause-notmore
returns-clause-notmore c = refl

pub returns-clause-more : goal.returns-clause-more
returns-clause-more c = refl

pub returns-clause-notless : goal.returns-clause-notless
returns-clause-notless c = refl

pub returns-clause-less_whole : goal.returns-clause-less_whole
returns-clause-less_whole c = refl

pub returns-clause-notmore_whole : goal.returns-clause-notmore_whole
returns-clause-notmore_whole c = refl

pub returns-clause-more_whole : goal.returns-clause-more_whole
returns-clause-more_whole c = refl

pub returns-clause-notless_whole : goal.returns-clause-notless_whole
returns-clause-notless_whole c = refl
