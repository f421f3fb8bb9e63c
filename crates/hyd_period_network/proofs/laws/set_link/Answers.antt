use Rattle.hyd_period_network.proofs.laws.set_link.Goals as goal

pub set_both-requires-clause-held : goal.set_both-requires-clause-held
set_both-requires-clause-held c = record {
  own = record { sound = c.requires.stand.own_is.stands.sound; room = c.requires.stand.own_room };
  law = record { sound = c.requires.stand.law_is.sound; room = c.requires.stand.law_room };
}
