use Rattle.std.proofs.Common.{refl}
use Rattle.hyd_cases_of_definitions.proofs.rules.times.Goals as goal

pub returns-clause-less : goal.returns-clause-less
returns-clause-less c = λ project readings span number step lo. rw (lo) refl

pub returns-clause-notmore : goal.returns-clause-notmore
returns-clause-notmore c = λ project readings span number step lo. rw (lo) refl

pub returns-clause-more : goal.returns-clause-more
returns-clause-more c = λ project readings span number step lo. rw (lo) refl

pub returns-clause-notless : goal.returns-clause-notless
returns-clause-notless c = λ project readings span number step lo. rw (lo) refl

pub returns-clause-equal : goal.returns-clause-equal
returns-clause-equal c = λ project readings span number step lo. rw (lo, step) refl

pub returns-clause-unequal : goal.returns-clause-unequal
returns-clause-unequal c = λ project readings span number step lo. rw (lo, step) refl
