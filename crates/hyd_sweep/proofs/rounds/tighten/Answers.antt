use Rattle.std.proofs.Common.{◌≡◌, ◌+◌, ◌∙◌, sym, subst, arith, ℕ, suc, length}
use Rattle.std.proofs.lemmas.Bool.{false≢true}
use Rattle.hyd_period_network.specs.NetAsPeriodNetwork.{grid_of}
use Rattle.hyd_spec_certificates.specs.StartsRaisesAndLeaps.{HasRounds}
use Rattle.hyd_theorems_on_raises.proofs.RaisesInAnyOrder.{has-begins}
use Rattle.hyd_sweep.specs.Sweeps.{RoundGives, AreRaises, no_raise, numbers, in_rounds}
use Rattle.std.specs.Prelude.{Option}
use Rattle.hyd_sweep.proofs.NoLinkBetweenJunctions.{spent-ends}
use Rattle.hyd_sweep.proofs.RaisesRoundsAndSweeps.{raises-append, round-more, round-start, sweep-none, sweep-spent}
use Rattle.hyd_sweep.proofs.rounds.tighten.Goals as goal

pub loop-spent-init : goal.loop-spent-init
loop-spent-init c = record {
  start = c.requires.start;
  way = no_raise;
  rounds = has-begins c.args.held (grid_of c.args.net.now) c.junctions-junctions.ensures.steady c.args.problem
      c.args.side c.args.u.now c.requires.start.one_each;
}

pub returns-in-Some-clause-sweep : goal.returns-in-Some-clause-sweep
returns-in-Some-clause-sweep c =
    sweep-none c.args.held (grid_of c.args.net.now) c.junctions-junctions.ensures.steady c.args.problem c.args.side
    c.args.rounds c.args.u.now c.loop-spent.u c.round.new.u c.in-Some.junction c.loop-spent.invariant.start
    (subst (λ (r : Option ℕ). RoundGives c.args.held (grid_of c.args.net.now) c.args.problem c.args.side
    c.loop-spent.u c.round.new.u r) c.in-Some.is c.round.ensures)

pub returns-in-Some-clause-goes : goal.returns-in-Some-clause-goes
returns-in-Some-clause-goes c =
    let held = c.args.held in
    let grid = grid_of c.args.net.now in
    let gives = subst (λ (r : Option ℕ). RoundGives held grid c.args.problem c.args.side c.loop-spent.u c.round.new.u r)
    c.in-Some.is c.round.ensures in (
      c.loop-spent.spent,
      (
        c.loop-spent-test.true,
        raises-append held grid c.junctions-junctions.ensures.steady c.args.problem c.args.side
            (in_rounds c.loop-spent.spent (length grid.junctions)) (numbers c.in-Some.junction) c.args.u.now
            c.loop-spent.u c.round.new.u c.loop-spent.invariant.way gives.1.0,
      ),
    )

pub loop-spent-preserved : goal.loop-spent-preserved
loop-spent-preserved c =
    let held = c.args.held in
    let grid = grid_of c.args.net.now in
    let problem = c.args.problem in
    let side = c.args.side in
    let start = c.loop-spent.invariant.start in
    let gives = subst (λ (r : Option ℕ). RoundGives held grid problem side c.loop-spent.u c.round.new.u r)
    c.in_default.is c.round.ensures in
    record {
      start = round-start held grid c.junctions-junctions.ensures.steady problem side c.loop-spent.u c.round.new.u
          gives start;
      way = subst (λ (n : ℕ). AreRaises held grid problem side (in_rounds n (length grid.junctions)) c.args.u.now
          c.round.new.u) (let e : suc c.loop-spent.spent ≡ c.loop-spent.spent + 1 = omega arith in e)
          (raises-append held grid c.junctions-junctions.ensures.steady problem side
          (in_rounds c.loop-spent.spent (length grid.junctions)) (numbers (length grid.junctions)) c.args.u.now
          c.loop-spent.u c.round.new.u c.loop-spent.invariant.way gives);
      rounds = subst (λ (n : ℕ). HasRounds held grid problem side n c.args.u.now c.round.new.u)
          (let e : suc c.loop-spent.spent ≡ c.loop-spent.spent + 1 = omega arith in e)
          (round-more held grid c.junctions-junctions.ensures.steady problem side c.loop-spent.spent c.args.u.now
          c.loop-spent.u c.round.new.u start.one_each c.loop-spent.invariant.rounds gives);
    }

pub returns-else-suits_everywhere-2-clause-sweep : goal.returns-else-suits_everywhere-2-clause-sweep
returns-else-suits_everywhere-2-clause-sweep c =
    let held = c.args.held in
    let grid = grid_of c.args.net.now in
    let all : c.loop-spent.spent ≡ c.args.rounds = (let a = c.loop-spent-test.false in
    let b = c.loop-spent.auto.spent-end in omega (arith, a, b)) in
    sweep-spent held grid c.junctions-junctions.ensures.steady c.args.problem c.args.side c.args.rounds c.args.u.now
    c.loop-spent.u c.loop-spent.invariant.start
    (subst (λ (n : ℕ). HasRounds held grid c.args.problem c.args.side n c.args.u.now c.loop-spent.u) all
    c.loop-spent.invariant.rounds)
    (λ each. false≢true (sym c.if-suits_everywhere-2.false ∙ c.suits_everywhere-2.ensures.1 each))

pub returns-else-suits_everywhere-2-clause-apart : goal.returns-else-suits_everywhere-2-clause-apart
returns-else-suits_everywhere-2-clause-apart c =
    spent-ends c.args.held (grid_of c.args.net.now) c.args.problem c.args.side c.args.rounds c.args.u.now c.loop-spent.u
    c.requires.start.one_each (returns-else-suits_everywhere-2-clause-sweep c)
