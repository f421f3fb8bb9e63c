use Rattle.hyd_period_network.proofs.laws.restricted.Goals as goal

pub returns-clause-stands : goal.returns-clause-stands
returns-clause-stands c of s = c.without_reverse.ensures.stands _ (c.without_forward.ensures.stands of s)

pub returns-clause-room : goal.returns-clause-room
returns-clause-room c n room = c.without_reverse.ensures.room n (c.without_forward.ensures.room n room)
