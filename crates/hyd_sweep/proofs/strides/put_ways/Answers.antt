use Rattle.std.proofs.Common.{◌≡◌, ◌<◌, ◌∙◌, ◌-ℤ◌, ℕ, pos, length, sym, subst, arith, w64, to_z, of_z, inl, inr}
use Rattle.std.specs.Prelude.{slice_set}
use Rattle.std.proofs.lemmas.Int.{ints}
use Rattle.std.proofs.lemmas.Bool.{cases_eq}
use Rattle.std.proofs.lemmas.List.{length-set}
use Rattle.hyd_spec.specs.Assignment.{head_at}
use Rattle.hyd_theorems_on_raises.proofs.RaisesAndTightVector.{set-here, set-there}
use Rattle.hyd_sweep.proofs.strides.put_ways.Goals as goal

pub loop-i-preserved : goal.loop-i-preserved
loop-i-preserved c =
    let i = c.loop-i.i in
    let u = c.args.u.now in
    let before = c.args.ways.now in
    let ways = c.loop-i.ways in
    let inv = c.loop-i.invariant in
    let inside : i < length u = (let a = c.loop-i-test.true in let b = c.junctions-i-end.ensures.count in let d =
    c.requires.one_each in omega (arith, a, b, d)) in
    let within : i < length before = (let a = c.requires.ways_each in omega (arith, inside, a)) in
    let there : i < length ways = (let a = inv.each in omega (arith, within, a)) in
    let here = c.requires.in_box i (pos 0) inside in
    let earlier = c.requires.earlier_in_box i (pos 0) within in
    let x = to_z w64 (of_z w64 (to_z w64 (of_z w64 c.head_of.result) -ℤ to_z w64 (of_z w64
    c.head_of-in-loop-i.result))) in
    let is : x ≡ (head_at u i -ℤ head_at before i) = (
    let a = c.head_of.ensures in
    let b = c.head_of-in-loop-i.ensures in
    let d = inv.left i (omega arith) in
    let e = here.above_floor in
    let f = here.below_ceiling in
    let g = earlier.above_floor in
    let h = earlier.below_ceiling in omega (arith, ints, a, b, d, e, f, g, h)) in
    record {
      each = length-set ways i x ∙ inv.each;
      done = λ k lt. elim (cases_eq k i) [
        | inl e ↦ subst (λ (m : ℕ). head_at (slice_set ways i x) m ≡ (head_at u m -ℤ head_at before m)) (sym e)
            (set-here ways i x there ∙ is)
        | inr ne ↦ set-there ways i k x ne ∙ inv.done k (omega (arith, lt, ne))
      ];
      left = λ k le. set-there ways i k x (λ e. absurd (omega (arith, le, e))) ∙ inv.left k (omega (arith, le));
    }
