use Rattle.std.proofs.Common.{◌≡◌, ◌∙◌, ℕ, ℤ, List, length, sym, subst, ap, ap₂}
use Rattle.hyd_spec.specs.Lists.{Each}
use Rattle.hyd_spec.specs.ProgramTypes.{LinkState}
use Rattle.hyd_spec.specs.declared.TankState.{TankState}
use Rattle.hyd_spec_witnesses.specs.MetPeriods.{Moment}
use Rattle.hyd_spec_witnesses.specs.MiddleCandidate.{LinkIsHalfway, DemandIsHalfway}
use Rattle.hyd_spec_witnesses.specs.WitnessText.{IsMoment, AreValues, counts_of}
use Rattle.hyd_period_network.specs.Demands.{IsNetJunction}
use Rattle.hyd_period_network.specs.NetAsPeriodNetwork.{grid_of, states_of}
use Rattle.hyd_period_network.proofs.NetOfSoundProject.{long_zipped}
use Rattle.hyd_witness_texts.specs.MomentView.{moment_of}
use Rattle.hyd_met_flows.specs.Periods.{period_in}
use Rattle.hyd_middle_flows.specs.HalfwayFlows.{with_flows, with_demands, with_emitters}
use Rattle.hyd_middle_flows.proofs.MiddleMoments.{is_middle, heads_kept, set_kept}
use Rattle.hyd_middle_flows.proofs.OtherFlows.{demands_fit, emitters_fit}
use Rattle.hyd_middle_flows.proofs.periods.put_flows_halfway.Goals as goal

pub put_demands-requires-clause-heads : goal.put_demands-requires-clause-heads
put_demands-requires-clause-heads c =
    subst (λ (n : ℕ). AreValues n c.put_flows.new.into.heads.list)
    (long_zipped IsNetJunction c.args.project.now.junctions.list c.args.net.now.junctions c.requires.set.of.junctions)
    c.put_flows.ensures.moment.heads

pub put_demands-requires-clause-demands : goal.put_demands-requires-clause-demands
put_demands-requires-clause-demands c =
    subst (λ (n : ℕ). AreValues n c.put_flows.new.into.demands.list)
    (long_zipped IsNetJunction c.args.project.now.junctions.list c.args.net.now.junctions c.requires.set.of.junctions)
    c.put_flows.ensures.moment.demands

pub put_emitters-requires-clause-heads : goal.put_emitters-requires-clause-heads
put_emitters-requires-clause-heads c =
    subst (AreValues (length c.args.net.now.junctions)) (sym (ap (λ (m : Moment). m.heads) c.put_demands.ensures.rest))
    (subst (λ (n : ℕ). AreValues n c.put_flows.new.into.heads.list)
    (long_zipped IsNetJunction c.args.project.now.junctions.list c.args.net.now.junctions c.requires.set.of.junctions)
    c.put_flows.ensures.moment.heads)

pub put_emitters-requires-clause-emitters : goal.put_emitters-requires-clause-emitters
put_emitters-requires-clause-emitters c =
    subst (AreValues (length c.args.net.now.junctions))
    (sym (ap (λ (m : Moment). m.emitters) c.put_demands.ensures.rest))
    (subst (λ (n : ℕ). AreValues n c.put_flows.new.into.emitters.list)
    (long_zipped IsNetJunction c.args.project.now.junctions.list c.args.net.now.junctions c.requires.set.of.junctions)
    c.put_flows.ensures.moment.emitters)

pub returns : goal.returns
returns c =
    let project = c.args.project.now in
    let net = c.args.net.now in
    let tanks = c.args.tanks.now in
    let counts = counts_of project in
    let first = moment_of c.args.into.now in
    let second = moment_of c.put_flows.new.into in
    let third = moment_of c.put_demands.new.into in
    let last = moment_of c.put_emitters.new.into in
    let flows = c.put_flows.ensures.rest in
    let demands = c.put_demands.ensures.rest in
    let emitters = c.put_emitters.ensures.rest in
    let as_many = long_zipped IsNetJunction project.junctions.list net.junctions c.requires.set.of.junctions in
    let both : last ≡ with_emitters (with_demands second third.demands) last.emitters =
    emitters ∙ ap (λ (m : Moment). with_emitters m last.emitters) demands in
    let all : last ≡ with_emitters (with_demands (with_flows first second.flows) third.demands) last.emitters =
    both ∙ ap (λ (m : Moment). with_emitters (with_demands m third.demands) last.emitters) flows in
    let rest = all ∙ ap₂ (λ (f d : List ℤ). with_emitters (with_demands (with_flows first f) d) last.emitters)
    (sym (ap (λ (m : Moment). m.flows) all)) (sym (ap (λ (m : Moment). m.demands) all)) in
    let demands-are : IsMoment counts third = subst (IsMoment counts) (sym demands)
    (demands_fit counts second c.put_flows.ensures.moment third.demands
    (subst (λ (n : ℕ). AreValues n third.demands) (sym as_many) c.put_demands.ensures.fit)) in
    let moment-is : IsMoment counts last = subst (IsMoment counts) (sym emitters)
    (emitters_fit counts third demands-are last.emitters
    (subst (λ (n : ℕ). AreValues n last.emitters) (sym as_many) c.put_emitters.ensures.fit)) in
    let links-are : Each (grid_of net).links (LinkIsHalfway project (period_in last tanks (states_of net))) =
    (λ k here at. subst (λ (m : Moment). LinkIsHalfway project (period_in m tanks (states_of net)) k here) (sym both)
    (c.put_flows.ensures.links k here at)) in
    let got : (t : List TankState) (l : List LinkState)
    → Each (grid_of net).junctions (DemandIsHalfway (period_in last t l)) =
    (λ t l k here at. subst (λ (m : Moment). DemandIsHalfway (period_in m t l) k here) (sym emitters)
    (c.put_demands.ensures.demands t l k here at)) in
    record {
      rest = rest;
      moment = moment-is;
      links = links-are;
      demands = got;
      emitters = c.put_emitters.ensures.emitters;
      middle = λ reached row has set-for.
          is_middle project reached row last net tanks moment-is
          (heads_kept project reached row first last last.flows last.demands last.emitters rest has) c.requires.set
          (set_kept project reached first last net tanks last.flows last.demands last.emitters rest set-for) links-are
          got c.put_emitters.ensures.emitters;
    }
