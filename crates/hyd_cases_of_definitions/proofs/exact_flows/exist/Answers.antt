use Rattle.std.proofs.Common.{refl, pos, neg_ℤ}
use Rattle.hyd_cases_of_definitions.proofs.exact_flows.exist.Goals as goal
use Rattle.hyd_cases_of_definitions.proofs.CapacitiesWithGivenEnds.{can_be, with_ends}

pub returns-clause-valve : goal.returns-clause-valve
unfolding can_be
returns-clause-valve c = λ origin. with_ends origin 5361655754717038823 (neg_ℤ (pos 36)) 5361655754717038826
    (neg_ℤ (pos 36)) refl

pub returns-clause-pipe : goal.returns-clause-pipe
unfolding can_be
returns-clause-pipe c = λ origin. with_ends origin 6703202733254145186 (neg_ℤ (pos 36)) 6703202733254145207
    (neg_ℤ (pos 36)) refl

pub returns-clause-pipe_in_feet : goal.returns-clause-pipe_in_feet
unfolding can_be
returns-clause-pipe_in_feet c = λ origin. with_ends origin 6432419053715539634 (neg_ℤ (pos 40)) 6432419053715539655
    (neg_ℤ (pos 40)) refl

pub returns-clause-pump : goal.returns-clause-pump
unfolding can_be
returns-clause-pump c = λ origin. with_ends origin 7694822175827558399 (neg_ℤ (pos 41)) 7694822175827558401
    (neg_ℤ (pos 41)) refl

pub returns-clause-pump_in_feet : goal.returns-clause-pump_in_feet
unfolding can_be
returns-clause-pump_in_feet c = λ origin. with_ends origin 6124886692936332063 (neg_ℤ (pos 40)) 6124886692936332066
    (neg_ℤ (pos 40)) refl

pub returns-clause-emitter : goal.returns-clause-emitter
unfolding can_be
returns-clause-emitter c = λ origin. with_ends origin 5252998605364946534 (neg_ℤ (pos 48)) 5252998605364946535
    (neg_ℤ (pos 48)) refl

pub returns-clause-driven : goal.returns-clause-driven
unfolding can_be
returns-clause-driven c = λ origin. with_ends origin 7505999378950826666 (neg_ℤ (pos 44)) 7505999378950826667
    (neg_ℤ (pos 44)) refl

pub returns-clause-driven_in_pounds : goal.returns-clause-driven_in_pounds
unfolding can_be
returns-clause-driven_in_pounds c = λ origin. with_ends origin 4953984467136903447 (neg_ℤ (pos 44))
    4953984467136903448 (neg_ℤ (pos 44)) refl
