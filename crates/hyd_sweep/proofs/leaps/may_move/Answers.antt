use Rattle.std.proofs.Common.{◌≡◌, ◌<◌, ◌∙◌, sym, subst, w64, to_z, of_z, arith, List, ℤ, length, Bool, true, false}
use Rattle.std.proofs.Common.{refl, inl, inr}
use Rattle.std.specs.Prelude.{IsTrue}
use mathlib.Core.Bool.{not as not_bool}
use Rattle.std.proofs.lemmas.Int.{ints}
use Rattle.std.proofs.lemmas.Bool.{false≢true}
use Rattle.hyd_spec.specs.Assignment.{head_at}
use Rattle.hyd_spec_certificates.specs.Certificate.{Passes}
use Rattle.hyd_spec_certificates.specs.StartsRaisesAndLeaps.{Fails}
use Rattle.hyd_spec_certificates.specs.PeriodNetwork.{GridJunction}
use Rattle.hyd_period_network.specs.NetAsPeriodNetwork.{grid_of}
use Rattle.hyd_lemmas.proofs.ListsOptionsAndResults.{same_item, item_there}
use Rattle.hyd_sweep.proofs.RaiseValues.{free-fails, fails-free, held-stays}
use Rattle.hyd_sweep.proofs.LeapsInTurn.{one-turn}
use Rattle.hyd_sweep.proofs.leaps.may_move.Goals as goal

yes-not : (b : Bool) → IsTrue (not_bool b) → IsTrue b → ⊥
yes-not true a e = false≢true a
yes-not false a e = false≢true e

not-yes : (b : Bool) → (IsTrue b → ⊥) → IsTrue (not_bool b)
not-yes true missing = absurd (missing refl)
not-yes false missing = refl

pub returns-in-Some : goal.returns-in-Some
returns-in-Some c =
    let held = c.args.held in
    let grid = grid_of c.args.net.now in
    let steady = c.junctions-junctions.ensures.steady in
    let i = c.args.i in
    let head : to_z w64 (of_z w64 c.head_of.result) ≡ head_at c.args.to.now i =
    (let k : to_z w64 (of_z w64 c.head_of.result) ≡ c.head_of.result = omega (arith, ints) in
    k ∙ c.head_of.ensures) in
    let from : to_z w64 (of_z w64 c.head_of-2.result) ≡ head_at c.args.u.now i =
    (let k : to_z w64 (of_z w64 c.head_of-2.result) ≡ c.head_of-2.result = omega (arith, ints) in
    k ∙ c.head_of-2.ensures) in
    let within : i < length grid.junctions = (let a = c.requires.inside in let b = c.requires.one_each in
    let e = c.junctions-junctions.ensures.each in omega (arith, a, b, e)) in (
      (λ e. absurd (false≢true e)),
      (λ may. (
          let at = item_there grid.junctions i within in
          absurd (elim (may at.0 at.1) [
            | inl same ↦ false≢true (sym c.if-is_same.false ∙ c.is_same.ensures.1 (head ∙ (same ∙ sym from)))
            | inr fails ↦ held-stays held grid steady c.args.problem c.args.side c.args.u.now i c.requires.inside
                c.in-Some.field-0 c.args.heads.now at.0 c.in-Some.ensures.0
                (fails c.args.heads.now c.requires.turn)
          ])
          )),
    )

pub returns-in-None : goal.returns-in-None
returns-in-None c =
    let held = c.args.held in
    let grid = grid_of c.args.net.now in
    let steady = c.junctions-junctions.ensures.steady in
    let problem = c.args.problem in
    let side = c.args.side in
    let u = c.args.u.now in
    let v = c.args.to.now in
    let heads = c.args.heads.now in
    let i = c.args.i in
    let head : to_z w64 (of_z w64 c.head_of.result) ≡ head_at v i = (let k : to_z w64 (of_z w64 c.head_of.result)
    ≡ c.head_of.result = omega (arith, ints) in k ∙ c.head_of.ensures) in
    let from : to_z w64 (of_z w64 c.head_of-2.result) ≡ head_at u i = (let k : to_z w64 (of_z w64 c.head_of-2.result)
    ≡ c.head_of-2.result = omega (arith, ints) in k ∙ c.head_of-2.ensures) in
    let within : i < length grid.junctions = (let a = c.requires.inside in let b = c.requires.one_each in
    let e = c.junctions-junctions.ensures.each in omega (arith, a, b, e)) in (
      (λ not junction at. inr (λ y turn. subst (λ (z : List ℤ). Fails held grid problem side z i junction)
          (one-turn side u v heads y i c.requires.turn turn)
          (free-fails held grid steady problem side u i c.requires.inside heads junction c.in-None.ensures (λ passes.
          yes-not c.passes.result not (c.passes.ensures.1 (λ other there.
          subst (λ (j : GridJunction). Passes grid problem side heads i j)
          (same_item GridJunction junction other (sym at ∙ there)) passes)))))),
      (λ may. not-yes c.passes.result (λ yes. (
          let at = item_there grid.junctions i within in
          elim (may at.0 at.1) [
            | inl same ↦ false≢true (sym c.if-is_same.false ∙ c.is_same.ensures.1 (head ∙ (same ∙ sym from)))
            | inr fails ↦ fails-free held grid steady problem side u i c.requires.inside heads at.0 c.in-None.ensures
                (fails heads c.requires.turn) (c.passes.ensures.0 yes at.0 at.1)
          ]
          ))),
    )
