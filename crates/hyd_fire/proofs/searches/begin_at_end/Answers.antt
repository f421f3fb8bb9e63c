use Rattle.std.proofs.Common.{◌≡◌, ◌∙◌, sym, subst, w64, to_z, of_z, arith, ℤ}
use Rattle.std.specs.Prelude.{Option, Some, slice_set}
use Rattle.std.proofs.lemmas.Int.{ints}
use Rattle.hyd_spec_certificates.specs.declared.Problem.TheVariants.{Main}
use Rattle.hyd_spec_certificates.specs.declared.HeldJunction.{HeldJunction}
use Rattle.hyd_spec_certificates.specs.Certificate.{IsInBox}
use Rattle.hyd_spec_certificates.specs.StartsRaisesAndLeaps.{IsStart}
use Rattle.hyd_period_network.specs.NetAsPeriodNetwork.{grid_of}
use Rattle.hyd_sweep.specs.Sweeps.{HoldsInBox}
use Rattle.hyd_theorems_on_raises.proofs.SearchStarts.{start-held}
use Rattle.hyd_fire.proofs.searches.begin_at_end.Goals as goal

pub bounds-heads-there : goal.bounds-heads-there
bounds-heads-there c =
    let below = c.requires.held_below c.in-Some.there.junction c.in-Some.there.head c.in-Some.is in
    let each = c.junctions-junctions.ensures.each in
    let one = c.requires.one_each in
    let start = c.begin.ensures.start c.args.held (grid_of c.args.net.now) Main (one ∙ sym each) in
    let long = start.one_each in
    omega (arith, below, long, each, one)

pub returns-in-Some-clause-start : goal.returns-in-Some-clause-start
returns-in-Some-clause-start c =
    let grid = grid_of c.args.net.now in
    let there = c.in-Some.there in
    let below = c.requires.held_below there.junction there.head c.in-Some.is in
    let each = c.junctions-junctions.ensures.each in
    let one = c.requires.one_each in
    let box : IsInBox there.head = subst HoldsInBox c.in-Some.is c.requires.held_in_box in
    let low = box.above_floor in
    let top = box.below_ceiling in
    let kept : to_z w64 (of_z w64 there.head) ≡ there.head = omega (arith, ints, low, top) in
    let start = c.begin.ensures.start (Some there) grid Main (one ∙ sym each) in
    let long = start.one_each in
    subst (λ (h : ℤ). IsStart c.args.held grid Main c.args.side (slice_set c.begin.new.u there.junction h)) (sym kept)
    (subst (λ (held : Option HeldJunction). IsStart held grid Main c.args.side
    (slice_set c.begin.new.u there.junction there.head)) (sym c.in-Some.is)
    (start-held grid Main c.args.side there.junction there.head c.begin.new.u start
    (omega (arith, below, long, each, one)) box))
