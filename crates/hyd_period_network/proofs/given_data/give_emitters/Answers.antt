use Rattle.std.proofs.Common.{refl, arith}
use Rattle.hyd_period_network.proofs.GivenDataLemmas.{one_given, all_given}
use Rattle.hyd_period_network.proofs.given_data.give_emitters.Goals as goal

pub loop-i-init : goal.loop-i-init
loop-i-init c = record { count = refl; given = λ k d lt e. absurd (omega (arith, lt)); rest = λ k d le. refl }

pub loop-i-preserved : goal.loop-i-preserved
loop-i-preserved c =
    one_given c.loop-i.i c.args.junctions.now c.args.emitters.now c.loop-i.junctions c.index-junctions-i.result
    c.give_emitter.new.junction c.index-emitters-i.result c.loop-i.invariant (omega arith) (omega arith)
    c.index-emitters-i.is c.give_emitter.ensures

pub returns : goal.returns
returns c =
    all_given c.args.junctions.now c.args.emitters.now c.loop-i.junctions c.requires.each c.loop-i.invariant.count
    (λ k d lt e. c.loop-i.invariant.given k d (omega (arith, lt, c.requires.each)) e)
