use Rattle.std.proofs.Common.{◌≡◌, ◌<◌, ◌∙◌, sym, subst, w64, to_z, of_z, arith, ℤ, length}
use Rattle.std.specs.Prelude.{slice_set}
use Rattle.std.proofs.lemmas.Int.{ints}
use Rattle.std.proofs.lemmas.Bool.{false≢true}
use Rattle.hyd_spec.specs.Assignment.{head_at}
use Rattle.hyd_spec_certificates.specs.declared.Problem.TheVariants.{Main}
use Rattle.hyd_spec_certificates.specs.Certificate.{Passes}
use Rattle.hyd_spec_certificates.specs.PeriodNetwork.{GridJunction}
use Rattle.hyd_period_network.specs.NetAsPeriodNetwork.{grid_of}
use Rattle.hyd_lemmas.proofs.ListsOptionsAndResults.{same_item, item_there}
use Rattle.hyd_sweep.proofs.RaiseValues.{free-fails}
use Rattle.hyd_fire.specs.TurnsWithHeldJunction.{AreInTurn}
use Rattle.hyd_fire.proofs.TurnsShowStarts.{turns-more}
use Rattle.hyd_fire.proofs.proposed_starts.take_turn.Goals as goal

pub returns : goal.returns
returns c =
    let held = c.args.held in
    let grid = grid_of c.args.net.now in
    let steady = c.junctions-junctions.ensures.steady in
    let side = c.args.side in
    let v = c.args.to.now in
    let y = c.args.heads.now in
    let i = c.args.i in
    let long : length v ≡ length grid.junctions = c.requires.one_each ∙ sym c.junctions-junctions.ensures.each in
    let a = c.if-i-junctions.false in
    let e = c.requires.one_each in
    let b = c.junctions-junctions.ensures.count in
    let inside : i < length v = omega (arith, a, b, e) in
    let within : i < length y = (let l = c.requires.turns.one_each in omega (arith, inside, l)) in
    let at = item_there grid.junctions i (omega (arith, inside, long)) in
    let read : to_z w64 (of_z w64 c.head_of.result) ≡ c.head_of.result = omega (arith, ints) in
    let head : to_z w64 (of_z w64 c.head_of.result) ≡ head_at v i = read ∙ c.head_of.ensures in
    let free = c.is_held.ensures c.if-is_held.false in
    subst (λ (x : ℤ). AreInTurn held grid side v (slice_set y i x)) (sym head)
    (turns-more held grid steady side v y i at.0 long inside at.1
    (free-fails held grid steady Main side y i within y at.0 free
    (λ passes. false≢true (sym c.if-passes.false ∙ c.passes.ensures.1 (λ other there.
    subst (λ (j : GridJunction). Passes grid Main side y i j)
    (same_item GridJunction at.0 other (sym at.1 ∙ there)) passes))))
    c.requires.turns)
