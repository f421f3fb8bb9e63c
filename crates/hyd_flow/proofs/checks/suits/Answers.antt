use Rattle.std.proofs.Common.{◌≡◌, ◌<◌, ◌∙◌, Bool, true, ◌==◌, sym, subst, w64, to_z, of_z, arith, length, eq-eqb}
use Rattle.std.proofs.Common.{MatchBool}
use Rattle.std.proofs.lemmas.Int.{ints}
use Rattle.hyd_spec.specs.Assignment.{head_at}
use Rattle.hyd_spec_certificates.specs.declared.Problem.TheVariants.{Main}
use Rattle.hyd_spec_certificates.specs.Certificate.{Passes}
use Rattle.hyd_period_network.specs.NetAsPeriodNetwork.{grid_of}
use Rattle.hyd_lemmas.proofs.ListsOptionsAndResults.{item_there}
use Rattle.hyd_flow.proofs.checks.suits.Goals as goal

pub returns-then-held-i : goal.returns-then-held-i
returns-then-held-i c =
    let grid = grid_of c.args.net.now in
    let u = c.args.u.now in
    let i = c.args.i in
    let held = c.args.held.now in
    let test : (held.junction == i) ≡ true = eq-eqb held.junction i c.if-held-i.true in
    let here : to_z w64 (of_z w64 c.head_of.result) ≡ head_at u i = (let k : to_z w64 (of_z w64 c.head_of.result)
    ≡ c.head_of.result = omega (arith, ints) in k ∙ c.head_of.ensures) in
    let low = c.requires.held_in_box.above_floor in
    let top = c.requires.held_in_box.below_ceiling in
    let kept : to_z w64 (of_z w64 held.head) ≡ held.head = omega (arith, ints, low, top) in
    let within : i < length grid.junctions = (let a = c.requires.inside in let b = c.requires.one_each in
    let e = c.junctions-junctions.ensures.each in omega (arith, a, b, e)) in (
      (λ same junction at. subst (λ (b : Bool). MatchBool b (head_at u i ≡ held.head)
          (Passes grid Main c.args.side u i junction)) (sym test) (sym here ∙ (c.is_same.ensures.0 same ∙ kept))),
      (λ suits. c.is_same.ensures.1 (let at = item_there grid.junctions i within in
          here ∙ (subst (λ (b : Bool). MatchBool b (head_at u i ≡ held.head)
          (Passes grid Main c.args.side u i at.0)) test (suits at.0 at.1) ∙ sym kept))),
    )
