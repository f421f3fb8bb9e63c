use Rattle.std.proofs.Common.{◌≡◌, ◌<◌, ◌*◌, ◌∙◌, ◌-ℤ◌, ◌≤ℤ◌, ℕ, ℤ, pos, length, unsigned_abs, sym, subst, arith, w64}
use Rattle.std.proofs.Common.{to_z, of_z, inl, inr}
use Rattle.std.specs.Prelude.{slice_set}
use Rattle.std.proofs.lemmas.Int.{ints}
use Rattle.std.proofs.lemmas.Bool.{cases_eq}
use Rattle.std.proofs.lemmas.List.{length-set}
use Rattle.hyd_spec.specs.Assignment.{head_at}
use Rattle.hyd_theorems_on_definitions.specs.Sides.{along}
use Rattle.hyd_theorems_on_raises.proofs.RaisesAndTightVector.{set-here, set-there}
use Rattle.hyd_sweep.proofs.strides.propose.Goals as goal

pub loop-i-preserved : goal.loop-i-preserved
loop-i-preserved c =
    let i = c.loop-i.i in
    let side = c.args.side in
    let times = c.args.stride.times in
    let u = c.args.u.now in
    let ways = c.args.ways.now in
    let to = c.loop-i.to in
    let inv = c.loop-i.invariant in
    let inside : i < length to = (let a = c.loop-i-test.true in let b = c.junctions-i-end.ensures.count in let d =
    c.requires.one_each in let e = c.requires.to_each in let f = inv.each in omega (arith, a, b, d, e, f)) in
    let r = c.head.result in
    let x = to_z w64 (of_z w64 r) in
    let kept : x ≡ r = omega (arith, ints) in
    let from : to_z w64 (of_z w64 c.head_of.result) ≡ head_at u i = (let k : to_z w64 (of_z w64 c.head_of.result) ≡
    c.head_of.result = omega (arith, ints) in k ∙ c.head_of.ensures) in
    let way : to_z w64 (of_z w64 c.head_of-in-loop-i.result) ≡ head_at ways i = (let k : to_z w64 (of_z w64
    c.head_of-in-loop-i.result) ≡ c.head_of-in-loop-i.result = omega (arith, ints) in k ∙
    c.head_of-in-loop-i.ensures) in
    let far : (along side r -ℤ along side (head_at u i)) ≤ℤ pos (times * unsigned_abs (head_at ways i)) =
    subst (λ (z : ℤ). (along side r -ℤ along side (head_at u i)) ≤ℤ pos (times * unsigned_abs z)) way
    (subst (λ (z : ℤ). (along side r -ℤ along side z) ≤ℤ pos (times * unsigned_abs (to_z w64 (of_z w64
    c.head_of-in-loop-i.result)))) from c.head.ensures) in
    record {
      each = length-set to i x ∙ inv.each;
      near = λ k lt. elim (cases_eq k i) [
        | inl e ↦ subst (λ (m : ℕ). (along side (head_at (slice_set to i x) m) -ℤ along side (head_at u m)) ≤ℤ pos
            (times * unsigned_abs (head_at ways m))) (sym e)
            (subst (λ (z : ℤ). (along side z -ℤ along side (head_at u i)) ≤ℤ pos (times * unsigned_abs (head_at ways
            i))) (sym (set-here to i x inside ∙ kept)) far)
        | inr ne ↦ subst (λ (z : ℤ). (along side z -ℤ along side (head_at u k)) ≤ℤ pos (times * unsigned_abs (head_at
            ways k))) (sym (set-there to i k x ne)) (inv.near k (omega (arith, lt, ne)))
      ];
    }
