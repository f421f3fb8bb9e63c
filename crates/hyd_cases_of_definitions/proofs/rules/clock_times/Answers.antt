use Rattle.std.proofs.Common.{refl}
use Rattle.hyd_cases_of_definitions.proofs.rules.clock_times.Goals as goal

pub returns-clause-less_after : goal.returns-clause-less_after
returns-clause-less_after c = λ project readings span number step clock lo. rw (lo, clock) refl

pub returns-clause-less_across : goal.returns-clause-less_across
returns-clause-less_across c = λ project readings span number step clock lo. rw (lo, clock) refl

pub returns-clause-notmore_after : goal.returns-clause-notmore_after
returns-clause-notmore_after c = λ project readings span number step clock lo. rw (lo, clock) refl

pub returns-clause-more_after : goal.returns-clause-more_after
returns-clause-more_after c = λ project readings span number step clock lo. rw (lo, clock) refl

pub returns-clause-notless_after : goal.returns-clause-notless_after
returns-clause-notless_after c = λ project readings span number step clock lo. rw (lo, clock) refl

pub returns-clause-equal_after : goal.returns-clause-equal_after
returns-clause-equal_after c = λ project readings span number step clock lo. rw (lo, clock, step) refl

pub returns-clause-equal_across : goal.returns-clause-equal_across
returns-clause-equal_across c = λ project readings span number step clock lo. rw (lo, clock, step) refl

pub returns-clause-unequal_after : goal.returns-clause-unequal_after
returns-clause-unequal_after c = λ project readings span number step clock lo. rw (lo, clock, step) refl
