use Rattle.hyd_theorems_on_definitions.proofs.laws.held_ends.Goals as goal
use Rattle.hyd_theorems_on_definitions.proofs.OneWayHeldLaws.{reverse_low, reverse_high, forward_low, forward_high}
use Rattle.hyd_theorems_on_definitions.proofs.OneWayHeldLaws.{reverse_at_least}
use Rattle.hyd_theorems_on_definitions.proofs.OneWayHeldLaws.{reverse_at_most, forward_at_least, forward_at_most}

pub returns-clause-reverse_low : goal.returns-clause-reverse_low
returns-clause-reverse_low c = reverse_low

pub returns-clause-reverse_high : goal.returns-clause-reverse_high
returns-clause-reverse_high c = reverse_high

pub returns-clause-forward_low : goal.returns-clause-forward_low
returns-clause-forward_low c = forward_low

pub returns-clause-forward_high : goal.returns-clause-forward_high
returns-clause-forward_high c = forward_high

pub returns-clause-reverse_at_least : goal.returns-clause-reverse_at_least
returns-clause-reverse_at_least c = reverse_at_least

pub returns-clause-reverse_at_most : goal.returns-clause-reverse_at_most
returns-clause-reverse_at_most c = reverse_at_most

pub returns-clause-forward_at_least : goal.returns-clause-forward_at_least
returns-clause-forward_at_least c = forward_at_least

pub returns-clause-forward_at_most : goal.returns-clause-forward_at_most
returns-clause-forward_at_most c = forward_at_most
