use Rattle.std.proofs.Common.{◌≡◌, ℕ, ℤ, ◌+◌, ◌++◌, List, length, map, take, drop, subst, ap, sym, ◌∙◌, arith, All}
use Rattle.std.specs.List.{AllZip}
use Rattle.std.proofs.lemmas.List.{length-map}
use Rattle.hyd_spec.specs.NodeNumbers.{nodes_before_tanks}
use Rattle.hyd_spec.specs.ProgramTypes.{Project}
use Rattle.hyd_period_network.specs.BothLaws.{own_of, law_of, AreFree}
use Rattle.hyd_period_network.specs.declared.junctions_ends_and_settings.Ends.{Ends}
use Rattle.hyd_net.specs.NumberRanges.{IsHead}
use Rattle.hyd_period_network.specs.NetView.{NetView}
use Rattle.hyd_period_network.specs.LawsInSettings.{AreLaws}
use Rattle.hyd_period_network.specs.SoundNets.{IsSoundNet}
use Rattle.hyd_period_network.specs.LinkEnds.{AreRowsOf}
use Rattle.hyd_period_network.specs.GivenData.{HasElevation, IsNetButEmitters}
use Rattle.hyd_period_network.proofs.GivenLinks.{IsSetWith, put_with, states_with, own_with, shut_with}
use Rattle.hyd_period_network.proofs.OverwrittenLists.{refilled}
use Rattle.hyd_period_network.proofs.NetOfSoundProject.{sound_with, long_zipped}
use Rattle.hyd_period_network.proofs.LawsOfBoth.{laws_of_both, both_of_laws, before_as}
use Rattle.hyd_period_network.proofs.net.Net.set_period_with.Goals as goal

pub set_links-requires-clause-stand : goal.set_links-requires-clause-stand
set_links-requires-clause-stand c =
    let project = c.args.project.now in
    let laws = subst (λ (n : NetView). AreLaws project project.links.list n.settings n.own n.laws)
    (sym c.self.view_is) c.requires.of.laws in
    let each : length c.self.inside.laws.items ≡ length project.links.list =
    sym (length-map c.self.inside.laws.items law_of) ∙ ap (λ (n : NetView). length n.laws) c.self.view_is
    ∙ c.requires.of.each_law in
    let stand = both_of_laws project project.links.list c.self.inside.settings.items c.self.inside.laws.items each laws in
    rw (c.deref_mut-4.ensures.value, c.deref_mut-5.ensures.value) stand

-- as many nodes stand before the tanks as in the network
before_is : (project : Project) (inside now : NetView) → inside ≡ now → IsNetButEmitters project now
    → nodes_before_tanks project ≡ length inside.junctions + length inside.reservoirs
before_is project inside now same of =
    before_as project inside now same (long_zipped HasElevation project.junctions.list now.junctions of.junctions)
    of.each_reservoir

pub set_links-requires-clause-free : goal.set_links-requires-clause-free
set_links-requires-clause-free c =
    let free = subst (λ (es : List Ends). AreFree (nodes_before_tanks c.args.project.now) es
    c.self.inside.laws.items) (ap (λ (n : NetView). n.ends) c.self.view_is ∙ c.requires.of.ends)
    (subst (λ (n : ℕ). AreFree n c.self.inside.ends.items c.self.inside.laws.items)
    (sym (before_is _ _ _ c.self.view_is c.requires.of)) c.self.invariant.1.1) in
    rw (c.deref_mut-5.ensures.value) free

-- the net after all is written
abbrev new : goal.After-self-5-1 → NetView
new c = record {
  junctions = c.self.inside.junctions.items;
  demands = c.give_demands.new.demands;
  reservoirs = c.give_heads.new.heads;
  tanks = c.set_tanks.new.heads;
  ends = c.self.inside.ends.items;
  settings = c.set_links.new.settings;
  own = map own_of c.set_links.new.laws;
  laws = map law_of c.set_links.new.laws;
}

set : (c : goal.After-self-5-1) → IsSetWith c.args.project.now c.args.demands.now c.args.heads.now c.args.levels.now
    c.args.tanks.now c.args.links.now (new c)
set c =
    let of = c.requires.of in
    let d = ap length c.deref_mut.ensures.value in
    let t = ap length c.deref_mut-3.ensures.value in
    let s = ap length c.deref_mut-4.ensures.value in
    let l = ap length c.deref_mut-5.ensures.value in
    let vd = ap (λ (n : NetView). length n.demands) c.self.view_is in
    let vt = ap (λ (n : NetView). length n.tanks) c.self.view_is in
    let vs = ap (λ (n : NetView). length n.settings) c.self.view_is in
    let vl = sym (length-map c.self.inside.laws.items law_of) ∙ ap (λ (n : NetView). length n.laws) c.self.view_is in
    let each : length c.set_links.new.laws ≡ length c.args.project.now.links.list =
    c.set_links.ensures.count_laws ∙ l ∙ vl ∙ of.each_law in
    record {
      of = record {
        ends = ap (λ (n : NetView). n.ends) c.self.view_is ∙ of.ends;
        junctions = subst (λ (n : NetView). AllZip HasElevation c.args.project.now.junctions.list n.junctions)
            (sym c.self.view_is) of.junctions;
        each_demand = c.give_demands.ensures.count ∙ d ∙ vd ∙ of.each_demand;
        each_reservoir = ap length c.give_heads.ensures ∙ c.requires.each_head;
        each_tank = c.set_tanks.ensures.count ∙ t ∙ vt ∙ of.each_tank;
        each_setting = c.set_links.ensures.count_settings ∙ s ∙ vs ∙ of.each_setting;
        each_own = length-map c.set_links.new.laws own_of ∙ each;
        each_law = length-map c.set_links.new.laws law_of ∙ each;
        demands = c.give_demands.ensures.held;
        laws = laws_of_both c.args.project.now c.args.project.now.links.list c.set_links.new.settings
            c.set_links.new.laws each c.set_links.ensures.stand;
      };
      each_state = c.requires.states.each;
      given_demands = c.give_demands.ensures.set;
      given_heads = c.give_heads.ensures;
      tank_heads = c.set_tanks.ensures.set;
      settings = c.set_links.ensures.set;
    }

-- each written list stands whole in its place
demands_are : (c : goal.After-self-5-1) → take c.self.inside.demands.len (c.give_demands.new.demands
    ++ drop (length c.give_demands.new.demands) c.self.inside.demands.items) ≡ c.give_demands.new.demands
demands_are c = refilled c.self.inside.demands.len c.give_demands.new.demands _ (c.give_demands.ensures.count
    ∙ c.deref_mut.ensures.len)

reservoirs_are : (c : goal.After-self-5-1) → take c.self.inside.reservoirs.len (c.give_heads.new.heads
    ++ drop (length c.give_heads.new.heads) c.self.inside.reservoirs.items) ≡ c.give_heads.new.heads
reservoirs_are c =
    let v = ap (λ (n : NetView). length n.reservoirs) c.self.view_is in
    let was = ap length c.deref_mut-2.ensures.value in
    let count : length c.give_heads.new.heads ≡ length c.deref_mut-2.result.now =
    ap length c.give_heads.ensures ∙ c.requires.each_head ∙ sym c.requires.of.each_reservoir ∙ sym v ∙ sym was in
    refilled c.self.inside.reservoirs.len c.give_heads.new.heads _ (count ∙ c.deref_mut-2.ensures.len)

tanks_are : (c : goal.After-self-5-1) → take c.self.inside.tanks.len
    (c.set_tanks.new.heads ++ drop (length c.set_tanks.new.heads) c.self.inside.tanks.items) ≡ c.set_tanks.new.heads
tanks_are c = refilled c.self.inside.tanks.len c.set_tanks.new.heads _ (c.set_tanks.ensures.count
    ∙ c.deref_mut-3.ensures.len)

settings_are : (c : goal.After-self-5-1) → take c.self.inside.settings.len (c.set_links.new.settings
    ++ drop (length c.set_links.new.settings) c.self.inside.settings.items) ≡ c.set_links.new.settings
settings_are c = refilled c.self.inside.settings.len c.set_links.new.settings _ (c.set_links.ensures.count_settings
    ∙ c.deref_mut-4.ensures.len)

laws_are : (c : goal.After-self-5-1) → take c.self.inside.laws.len
    (c.set_links.new.laws ++ drop (length c.set_links.new.laws) c.self.inside.laws.items) ≡ c.set_links.new.laws
laws_are c = refilled c.self.inside.laws.len c.set_links.new.laws _ (c.set_links.ensures.count_laws
    ∙ c.deref_mut-5.ensures.len)

pub returns-clause-stays : goal.returns-clause-stays
returns-clause-stays c =
    rw (demands_are c, reservoirs_are c, tanks_are c, settings_are c, laws_are c) (set c).of

pub returns-clause-junctions : goal.returns-clause-junctions
returns-clause-junctions c = ap (λ (n : NetView). n.junctions) c.self.view_is

pub returns-clause-put : goal.returns-clause-put
returns-clause-put c =
    rw (demands_are c, reservoirs_are c, tanks_are c, settings_are c, laws_are c)
    (put_with _ _ _ _ _ _ (new c) (set c))

pub returns-clause-states : goal.returns-clause-states
returns-clause-states c = rw (settings_are c) (states_with _ _ _ _ _ _ (new c) (set c))

pub returns-clause-own : goal.returns-clause-own
returns-clause-own c = rw (laws_are c) (own_with _ _ _ _ _ _ (new c) (set c))

pub returns-clause-shut : goal.returns-clause-shut
returns-clause-shut c = rw (laws_are c) (shut_with _ _ _ _ _ _ (new c) (set c))

pub invariant_of-self : goal.invariant_of-self
invariant_of-self c =
    let r = ap length c.give_heads.ensures ∙ c.requires.each_head ∙ sym c.requires.of.each_reservoir
    ∙ sym (ap (λ (n : NetView). length n.reservoirs) c.self.view_is) in
    let t = c.set_tanks.ensures.count ∙ ap length c.deref_mut-3.ensures.value in
    let sound : IsSoundNet (new c) = sound_with c.args.project.now (new c) c.requires.sound (set c).of
    c.self.invariant.0.junctions
    (subst (λ (hs : List ℤ). All IsHead hs) (sym c.give_heads.ensures) c.requires.heads)
    c.set_tanks.ensures.range in
    let rows : AreRowsOf (length c.self.inside.junctions.items + length c.give_heads.new.heads
    + length c.set_tanks.new.heads) c.self.inside.ends.items c.self.inside.rows.items =
    subst (λ (n : ℕ). AreRowsOf n c.self.inside.ends.items c.self.inside.rows.items) (omega (arith, r, t))
    c.self.invariant.1.0 in
    let free : AreFree (length c.self.inside.junctions.items + length c.give_heads.new.heads)
    c.self.inside.ends.items c.set_links.new.laws =
    subst (λ (n : ℕ). AreFree n c.self.inside.ends.items c.set_links.new.laws)
    (omega (arith, r, before_is _ _ _ c.self.view_is c.requires.of))
    (subst (λ (es : List Ends). AreFree (nodes_before_tanks c.args.project.now) es c.set_links.new.laws)
    (sym (ap (λ (n : NetView). n.ends) c.self.view_is ∙ c.requires.of.ends)) c.set_links.ensures.free) in
    rw (demands_are c, reservoirs_are c, tanks_are c, settings_are c, laws_are c) (sound, (rows, free))
