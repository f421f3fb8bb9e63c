use Rattle.std.proofs.Common.{inl, inr}
use Rattle.hyd_capacities.proofs.capacity_range.capacity.Goals as goal

pub returns-then-is_below_least-clause-refused : goal.returns-then-is_below_least-clause-refused
returns-then-is_below_least-clause-refused c =
    record { pair = c.args.pair; made = c.requires; outside = inr c.if-is_below_least.ensures.below }

pub returns-then-is_from_greatest-clause-refused : goal.returns-then-is_from_greatest-clause-refused
returns-then-is_from_greatest-clause-refused c =
    record { pair = c.args.pair; made = c.requires; outside = inl c.if-is_from_greatest.ensures.from }
