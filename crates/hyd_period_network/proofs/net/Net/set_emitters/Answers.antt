use Rattle.std.proofs.Common.{◌≡◌, ℕ, ◌+◌, ◌++◌, List, length, map, take, drop, subst, ap, sym, ◌∙◌}
use Rattle.hyd_period_network.specs.declared.junctions_ends_and_settings.NetJunction.{NetJunction}
use Rattle.hyd_period_network.specs.NetView.{NetView}
use Rattle.hyd_period_network.specs.BothLaws.{own_of, law_of, AreFree}
use Rattle.hyd_period_network.specs.LinkEnds.{AreRowsOf}
use Rattle.hyd_period_network.specs.GivenData.{with_emitters}
use Rattle.hyd_period_network.proofs.GivenDataLemmas.{count_given, but_given, given_sound, nodes_given}
use Rattle.hyd_period_network.proofs.OverwrittenLists.{refilled}
use Rattle.hyd_period_network.proofs.net.Net.set_emitters.Goals as goal

-- the net before
abbrev old : goal.After-self-1 → NetView
old c = record {
  junctions = c.self.inside.junctions.items;
  demands = c.self.inside.demands.items;
  reservoirs = c.self.inside.reservoirs.items;
  tanks = c.self.inside.tanks.items;
  ends = c.self.inside.ends.items;
  settings = c.self.inside.settings.items;
  own = map own_of c.self.inside.laws.items;
  laws = map law_of c.self.inside.laws.items;
}

each : (c : goal.After-self-1) → length c.args.emitters.now ≡ length (old c).junctions
each c = c.requires.each ∙ sym (ap (λ (n : NetView). length n.junctions) c.self.view_is)

given : (c : goal.After-self-1) → c.give_emitters.new.junctions
    ≡ with_emitters c.self.inside.junctions.items c.args.emitters.now
given c = c.give_emitters.ensures
    ∙ ap (λ (js : List NetJunction). with_emitters js c.args.emitters.now) c.deref_mut.ensures.value

-- the written list stands whole in its place
junctions_are : (c : goal.After-self-1) → take c.self.inside.junctions.len (c.give_emitters.new.junctions
    ++ drop (length c.give_emitters.new.junctions) c.self.inside.junctions.items)
    ≡ with_emitters c.self.inside.junctions.items c.args.emitters.now
junctions_are c =
    let count = ap length (given c) ∙ count_given c.self.inside.junctions.items c.args.emitters.now (each c)
    ∙ sym (ap length c.deref_mut.ensures.value) in
    refilled c.self.inside.junctions.len c.give_emitters.new.junctions _ (count ∙ c.deref_mut.ensures.len) ∙ given c

pub returns-clause-given : goal.returns-clause-given
returns-clause-given c =
    rw (junctions_are c) (ap (λ (n : NetView). record n { junctions = with_emitters n.junctions c.args.emitters.now })
    c.self.view_is)

pub returns-clause-of : goal.returns-clause-of
returns-clause-of c project of =
    rw (junctions_are c) (but_given (old c) c.args.emitters.now (each c) project (rw c.self.view_is of))

pub invariant_of-self : goal.invariant_of-self
invariant_of-self c =
    let sound = given_sound (old c) c.args.emitters.now (each c) c.requires.sound c.self.invariant.0 in
    let rows = subst (λ (n : ℕ). AreRowsOf n c.self.inside.ends.items c.self.inside.rows.items)
    (sym (nodes_given (old c) c.args.emitters.now (each c))) c.self.invariant.1.0 in
    let free = subst (λ (n : ℕ). AreFree (n + length c.self.inside.reservoirs.items) c.self.inside.ends.items
    c.self.inside.laws.items) (sym (count_given c.self.inside.junctions.items c.args.emitters.now (each c)))
    c.self.invariant.1.1 in
    rw (junctions_are c) (sound, (rows, free))
