use Rattle.hyd_period_network.proofs.laws.without_reverse.Goals as goal

pub returns-then-forbidden-clause-stands : goal.returns-then-forbidden-clause-stands
returns-then-forbidden-clause-stands c of s = rw c.if-forbidden.true (c.one_way.ensures.stands of s)

pub returns-clause-stands : goal.returns-clause-stands
returns-clause-stands c of s = rw c.if-forbidden.false s
