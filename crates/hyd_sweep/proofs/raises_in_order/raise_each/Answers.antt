use Rattle.std.proofs.Common.{◌≡◌, ◌+◌, ◌<◌, ◌∙◌, sym, subst, ap, arith, ℕ, List, [], ◌∷◌, ◌++◌, length, slice_index_or}
use Rattle.std.proofs.Common.{take, suc, Bool}
use Rattle.hyd_period_network.specs.NetAsPeriodNetwork.{grid_of}
use Rattle.hyd_sweep.specs.Sweeps.{IsFollowing, RaiseGives}
use Rattle.hyd_sweep.specs.declared.answers_of_sweeps.Raised.{Raised}
use Rattle.hyd_sweep.proofs.RaisesRoundsAndSweeps.{following-begins, following-passed, following-moved, take-more}
use Rattle.hyd_sweep.proofs.raises_in_order.raise_each.Goals.{in-Passed, in-Moved}
use Rattle.hyd_sweep.proofs.raises_in_order.raise_each.Goals as goal

pub loop-i-init : goal.loop-i-init
loop-i-init c = following-begins c.args.held (grid_of c.args.net.now) c.junctions-junctions.ensures.steady
    c.args.problem c.args.side c.args.u.now (c.requires.one_each ∙ sym c.junctions-junctions.ensures.each)
    c.requires.in_box

pub loop-i-preserved : goal.loop-i-preserved
loop-i-preserved c =
    let held = c.args.held in
    let grid = grid_of c.args.net.now in
    let problem = c.args.problem in
    let side = c.args.side in
    let k = c.loop-i.i-index in
    let order = c.args.order.now in
    let i = slice_index_or order k 0 in
    let lt = c.loop-i-test.true in
    let more : take (k + 1) order ≡ take k order ++ (i ∷ []) = ap (λ (n : ℕ). take n order) (let e : k + 1 ≡ suc k =
    omega arith in e) ∙ take-more order k lt in
    let inside : i < length grid.junctions = (let a = c.requires.inside k 0 lt in let b = c.requires.one_each in let
    e = c.junctions-junctions.ensures.each in omega (arith, a, b, e)) in
    elim c.match-raise.branch [
      | in-Passed w ↦ subst (λ (o : List ℕ). IsFollowing held grid problem side o c.args.u.now c.raise.new.u
          c.match-raise.moved) (sym more)
          (subst (λ (m : Bool). IsFollowing held grid problem side (take k order ++ (i ∷ [])) c.args.u.now
          c.raise.new.u m) (sym w.moved-is)
          (following-passed held grid c.junctions-junctions.ensures.steady problem side (take k order) c.args.u.now
          c.loop-i.u c.raise.new.u c.loop-i.moved i inside c.loop-i.invariant
          (subst (λ (r : Raised). RaiseGives held grid problem side i c.loop-i.u c.raise.new.u r) w.in-Passed.is
          c.raise.ensures)))
      | in-Moved w ↦ subst (λ (o : List ℕ). IsFollowing held grid problem side o c.args.u.now c.raise.new.u
          c.match-raise.moved) (sym more)
          (subst (λ (m : Bool). IsFollowing held grid problem side (take k order ++ (i ∷ [])) c.args.u.now
          c.raise.new.u m) (sym w.moved-is)
          (following-moved held grid c.junctions-junctions.ensures.steady problem side (take k order) c.args.u.now
          c.loop-i.u c.raise.new.u c.loop-i.moved i inside (c.requires.one_each ∙ sym
          c.junctions-junctions.ensures.each) c.loop-i.invariant
          (subst (λ (r : Raised). RaiseGives held grid problem side i c.loop-i.u c.raise.new.u r) w.in-Moved.is
          c.raise.ensures)))
    ]
