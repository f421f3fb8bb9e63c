use Rattle.std.proofs.Common.{◌≡◌, ◌<◌, ◌∙◌, sym, subst, w64, to_z, of_z, arith, ℕ, ℤ, pos, length, inl, inr}
use Rattle.std.specs.Prelude.{slice_set}
use Rattle.std.proofs.lemmas.Int.{ints}
use Rattle.std.proofs.lemmas.Bool.{cases_eq}
use Rattle.std.proofs.lemmas.List.{length-set, get_or_default}
use Rattle.hyd_spec.specs.Assignment.{head_at}
use Rattle.hyd_spec_certificates.specs.Certificate.{IsInBox}
use Rattle.hyd_theorems_on_raises.proofs.RaisesAndTightVector.{set-here, set-there}
use Rattle.hyd_fire.specs.TurnsWithHeldJunction.{FirstHead}
use Rattle.hyd_fire.proofs.proposed_starts.put_first_heads.Goals as goal

pub loop-i-preserved : goal.loop-i-preserved
loop-i-preserved c =
    let i = c.loop-i.i in
    let v = c.args.to.now in
    let side = c.args.side in
    let held = c.args.held in
    let heads = c.loop-i.heads in
    let inv = c.loop-i.invariant in
    let r = c.in-Some.head in
    let a = c.loop-i-test.true in
    let b = c.junctions-i-end.ensures.count in
    let d = c.requires.one_each in
    let h = c.requires.heads_each in
    let f = inv.each in
    let inside : i < length heads = omega (arith, a, b, d, h, f) in
    let x = to_z w64 (of_z w64 r) in
    let kept : x ≡ r = omega (arith, ints) in
    let read : to_z w64 (of_z w64 c.head_of-proposed.result) ≡ c.head_of-proposed.result = omega (arith, ints) in
    let to : to_z w64 (of_z w64 c.head_of-proposed.result) ≡ head_at v i = read ∙ c.head_of-proposed.ensures in
    let here : head_at (slice_set heads i x) i ≡ r = set-here heads i x inside ∙ kept in
    let first : FirstHead held side i (head_at v i) (head_at (slice_set heads i x) i) =
    subst (λ (y : ℤ). FirstHead held side i (head_at v i) y) (sym here)
    (subst (λ (y : ℤ). FirstHead held side i y r) to c.in-Some.ensures.first) in
    record {
      each = length-set heads i x ∙ inv.each;
      first = λ k lt. elim (cases_eq k i) [
        | inl e ↦ subst (λ (m : ℕ). FirstHead held side m (head_at v m) (head_at (slice_set heads i x) m)) (sym e) first
        | inr ne ↦ subst (λ (y : ℤ). FirstHead held side k (head_at v k) y) (sym (set-there heads i k x ne))
            (inv.first k (omega (arith, lt, ne)))
      ];
      in_box = λ k lt. elim (cases_eq k i) [
        | inl e ↦ subst (λ (m : ℕ). IsInBox (head_at (slice_set heads i x) m)) (sym e)
            (subst IsInBox (sym here) c.in-Some.ensures.in_box)
        | inr ne ↦ subst IsInBox (sym (set-there heads i k x ne)) (inv.in_box k (omega (arith, lt, ne)))
      ];
      to_in_box = λ k lt. elim (cases_eq k i) [
        | inl e ↦ subst (λ (m : ℕ). IsInBox (head_at v m)) (sym e)
            (subst IsInBox to (c.is_in_box.ensures.0 c.if-not-is_in_box.false))
        | inr ne ↦ inv.to_in_box k (omega (arith, lt, ne))
      ];
    }

pub returns-clause-first : goal.returns-clause-first
returns-clause-first c all =
    let heads = c.loop-i.heads in
    let v = c.args.to.now in
    let a = c.loop-i-test.false in
    let b = c.junctions-i-end.ensures.count in
    let e = c.requires.one_each in
    let f = c.requires.heads_each in
    let g = c.loop-i.invariant.each in
    record {
      one_each = g ∙ f;
      in_box = λ k d lt. subst IsInBox (get_or_default heads k (pos 0) d lt)
          (c.loop-i.invariant.in_box k (omega (arith, lt, a, b, e, f, g)));
      to_in_box = λ k d lt. subst IsInBox (get_or_default v k (pos 0) d lt)
          (c.loop-i.invariant.to_in_box k (omega (arith, lt, a, b, e)));
      first = λ k lt. c.loop-i.invariant.first k (omega (arith, lt, a, b, e));
    }
