use Rattle.std.proofs.Common.{◌≡◌, ◌+◌, ◌∙◌, sym, subst, arith, ℕ, suc}
use Rattle.std.proofs.lemmas.Bool.{false≢true}
use Rattle.hyd_period_network.specs.NetAsPeriodNetwork.{grid_of}
use Rattle.hyd_spec_certificates.specs.StartsRaisesAndLeaps.{HasRounds}
use Rattle.hyd_theorems_on_raises.proofs.RaisesInAnyOrder.{has-begins, has-on}
use Rattle.hyd_sweep.specs.Sweeps.{RoundGives}
use Rattle.hyd_sweep.specs.LeapingRounds.{AreLeapingRounds, no_round, one_round}
use Rattle.hyd_sweep.proofs.ReachOfStrides.{goes-on}
use Rattle.std.specs.Prelude.{Option}
use Rattle.hyd_sweep.proofs.NoLinkBetweenJunctions.{spent-ends}
use Rattle.hyd_sweep.proofs.RaisesRoundsAndSweeps.{round-more, round-start, sweep-none, sweep-spent}
use Rattle.hyd_sweep.proofs.sweeper.tighten_by_leaps.Goals as goal

pub loop-spent-init : goal.loop-spent-init
loop-spent-init c = record {
  start = c.requires.start;
  way = no_round;
  rounds = has-begins c.args.held (grid_of
      c.args.net.now) c.junctions-junctions.ensures.steady c.args.problem c.args.side c.args.u.now
      c.requires.start.one_each;
}

pub returns-in-Some-clause-sweep : goal.returns-in-Some-clause-sweep
returns-in-Some-clause-sweep c =
    sweep-none c.args.held (grid_of c.args.net.now) c.junctions-junctions.ensures.steady c.args.problem c.args.side
    c.args.rounds c.args.u.now c.loop-spent.u c.round.new.u c.in-Some.junction c.loop-spent.invariant.start
    (subst (λ (r : Option ℕ). RoundGives c.args.held (grid_of c.args.net.now) c.args.problem c.args.side
    c.loop-spent.u c.round.new.u r) c.in-Some.is c.round.ensures)

pub loop-spent-preserved : goal.loop-spent-preserved
loop-spent-preserved c =
    let held = c.args.held in
    let grid = grid_of c.args.net.now in
    let problem = c.args.problem in
    let side = c.args.side in
    let start = c.loop-spent.invariant.start in
    let gives = subst (λ (r : Option ℕ). RoundGives held grid problem side c.loop-spent.u c.round.new.u r)
    c.in_default.is c.round.ensures in
    let next = round-start held grid c.junctions-junctions.ensures.steady problem side c.loop-spent.u c.round.new.u
    gives start in
    let rounds = round-more held grid c.junctions-junctions.ensures.steady problem side c.loop-spent.spent
    c.args.u.now c.loop-spent.u c.round.new.u start.one_each c.loop-spent.invariant.rounds gives in
    let leads = c.leap_on.ensures.leads in
    record {
      start = leads.start next;
      way = subst (λ (n : ℕ). AreLeapingRounds held grid problem side n c.args.u.now c.leap_on.new.u) (let e : suc
          c.loop-spent.spent ≡ c.loop-spent.spent + 1 = omega arith in e)
          (one_round c.loop-spent.invariant.way gives leads
          (goes-on side c.loop-spent.u c.round.new.u c.leap_on.new.u c.put_ways.new.ways c.copy_from_slice.new.self
          c.copy_from_slice.ensures.after c.put_ways.ensures.ways c.leap_on.ensures.near));
      rounds = subst (λ (n : ℕ). HasRounds held grid problem side n c.args.u.now c.leap_on.new.u)
          (let e : suc c.loop-spent.spent ≡ c.loop-spent.spent + 1 = omega arith in e)
          (has-on held grid c.junctions-junctions.ensures.steady problem side (suc c.loop-spent.spent) c.args.u.now
          c.round.new.u c.leap_on.new.u rounds leads.beyond next.one_each);
    }

pub put_ways-requires-clause-in_box : goal.put_ways-requires-clause-in_box
put_ways-requires-clause-in_box c =
    let held = c.args.held in
    let grid = grid_of c.args.net.now in
    let gives = subst (λ (r : Option ℕ). RoundGives held grid c.args.problem c.args.side c.loop-spent.u c.round.new.u
    r) c.in_default.is c.round.ensures in
    (round-start held grid c.junctions-junctions.ensures.steady c.args.problem c.args.side c.loop-spent.u c.round.new.u
    gives c.loop-spent.invariant.start).in_box

pub leap_on-requires-clause-in_box : goal.leap_on-requires-clause-in_box
leap_on-requires-clause-in_box c =
    let held = c.args.held in
    let grid = grid_of c.args.net.now in
    let gives = subst (λ (r : Option ℕ). RoundGives held grid c.args.problem c.args.side c.loop-spent.u c.round.new.u
    r) c.in_default.is c.round.ensures in
    (round-start held grid c.junctions-junctions.ensures.steady c.args.problem c.args.side c.loop-spent.u c.round.new.u
    gives c.loop-spent.invariant.start).in_box

pub returns-else-suits_everywhere-2-clause-sweep : goal.returns-else-suits_everywhere-2-clause-sweep
returns-else-suits_everywhere-2-clause-sweep c =
    let held = c.args.held in
    let grid = grid_of c.args.net.now in
    let all : c.loop-spent.spent ≡ c.args.rounds = (let a = c.loop-spent-test.false in
    let b = c.loop-spent.auto.spent-end in omega (arith, a, b)) in
    sweep-spent held grid c.junctions-junctions.ensures.steady c.args.problem c.args.side c.args.rounds c.args.u.now
    c.loop-spent.u c.loop-spent.invariant.start
    (subst (λ (n : ℕ). HasRounds held grid c.args.problem c.args.side n c.args.u.now c.loop-spent.u) all
    c.loop-spent.invariant.rounds)
    (λ each. false≢true (sym c.if-suits_everywhere-2.false ∙ c.suits_everywhere-2.ensures.1 each))

pub returns-else-suits_everywhere-2-clause-apart : goal.returns-else-suits_everywhere-2-clause-apart
returns-else-suits_everywhere-2-clause-apart c =
    spent-ends c.args.held (grid_of c.args.net.now) c.args.problem c.args.side c.args.rounds c.args.u.now c.loop-spent.u
    c.requires.start.one_each (returns-else-suits_everywhere-2-clause-sweep c)
