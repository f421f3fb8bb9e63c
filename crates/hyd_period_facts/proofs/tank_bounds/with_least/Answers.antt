use Rattle.std.proofs.Common.{◌≡◌, ◌∙◌, ◌++◌, ◌∷◌, [], ℤ, false, ap, sym, subst, to_z, of_z, get_or, arith}
use Rattle.std.specs.Int.{w64}
use Rattle.std.proofs.lemmas.Int.{ints}
use Rattle.hyd_net.specs.NetworkRanges.{IsTank}
use Rattle.hyd_spec.specs.ProgramTypes.{Tank}
use Rattle.hyd_period_facts.specs.Watched.{AreEnds}
use Rattle.hyd_lemmas.proofs.ListsOptionsAndResults.{item_is}
use Rattle.hyd_lemmas.proofs.ListsOptionsAndResults.{each_is}
use Rattle.hyd_period_facts.proofs.WatchedLevelsSoFar.{no_least, least_so}
use Rattle.hyd_period_facts.proofs.tank_bounds.with_least.Goals as goal

pub returns-then-is_empty : goal.returns-then-is_empty
returns-then-is_empty c = λ watched each state at is are.
    no_least c.args.project.now c.args.facts.now c.args.cap c.args.tank each state watched c.args.ends
    (sym (c.is_empty.ensures state is) ∙ c.if-is_empty.true) are

pub returns : goal.returns
returns c = λ watched each state at is are.
    let project = c.args.project.now in
    let k = c.args.tank in
    let here : Tank = c.index-as_slice-tank.result in
    let same : here ≡ each =
    each_is project.tanks.list c.as_slice.result.now k here each c.index-as_slice-tank.is c.as_slice.ensures at in
    let sizes : IsTank project.shapes.list each =
    subst (IsTank project.shapes.list) (item_is project.tanks.list k each each at)
    (c.requires.sound.quantities.tanks k each c.requires.in_range) in
    let lowest = sizes.lowest in
    let apart = sizes.apart in
    let bottom = sizes.bottom.at_least in
    let top = sizes.top.at_most in
    let e : here.minimum ≡ each.minimum = ap (λ (t : Tank). t.minimum) same in
    let read : Tank = get_or c.as_slice.result.now k here in
    let also : here.minimum ≡ read.minimum = ap (λ (t : Tank). t.minimum) c.index-as_slice-tank.is in
    let kept : to_z w64 (of_z w64 read.minimum) ≡ here.minimum = omega
    (arith, ints, lowest, apart, bottom, top, e, also) in
    least_so project c.args.facts.now c.args.cap k here each state watched c.with_watch.result
    (sym (c.is_empty.ensures state is) ∙ c.if-is_empty.false) same
    (subst (λ (t : ℤ). AreEnds project c.args.facts.now c.args.cap
    (watched ++ record { tank = k; target = t; rising = false } ∷ []) c.with_watch.result) kept
    (c.with_watch.ensures watched are))
