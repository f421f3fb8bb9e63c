use Rattle.std.proofs.Common.{◌≡◌, ◌<◌, ◌∙◌, sym, subst, ap, w64, to_z, of_z, arith, ℕ, pos, length, inl, inr}
use Rattle.std.specs.Prelude.{slice_set, ◌≢◌}
use Rattle.std.proofs.lemmas.Int.{ints}
use Rattle.std.proofs.lemmas.Bool.{cases_eq}
use Rattle.std.proofs.lemmas.List.{length-set, get_or_default}
use Rattle.hyd_spec.specs.Assignment.{head_at}
use Rattle.hyd_spec_certificates.specs.Certificate.{IsInBox}
use Rattle.hyd_theorems_on_raises.proofs.RaisesAndTightVector.{set-here, set-there}
use Rattle.hyd_sweep.specs.Leaps.{nearer}
use Rattle.hyd_sweep.proofs.leaps.put_first_turn.Goals as goal

pub loop-i-preserved : goal.loop-i-preserved
loop-i-preserved c =
    let i = c.loop-i.i in
    let u = c.args.u.now in
    let v = c.args.to.now in
    let heads = c.loop-i.heads in
    let inv = c.loop-i.invariant in
    let r = c.before_turn.result in
    let inside : i < length heads = (let a = c.loop-i-test.true in let b = c.junctions-i-end.ensures.count in
    let d = c.requires.one_each in let e = c.requires.heads_each in let f = inv.each in
    omega (arith, a, b, d, e, f)) in
    let x = to_z w64 (of_z w64 r) in
    let kept : x ≡ r = omega (arith, ints) in
    let from : to_z w64 (of_z w64 c.head_of.result) ≡ head_at u i = (let k : to_z w64 (of_z w64 c.head_of.result)
    ≡ c.head_of.result = omega (arith, ints) in k ∙ c.head_of.ensures) in
    let to : to_z w64 (of_z w64 c.head_of-in-loop-i.result) ≡ head_at v i =
    (let k : to_z w64 (of_z w64 c.head_of-in-loop-i.result) ≡ c.head_of-in-loop-i.result = omega (arith, ints) in
    k ∙ c.head_of-in-loop-i.ensures) in
    let here : head_at (slice_set heads i x) i ≡ r = set-here heads i x inside ∙ kept in
    record {
      each = length-set heads i x ∙ inv.each;
      still = λ k lt. elim (cases_eq k i) [
        | inl e ↦ subst (λ (m : ℕ). head_at v m ≡ head_at u m → head_at (slice_set heads i x) m ≡ head_at v m) (sym e)
            (λ same. here ∙ (c.before_turn.ensures.still (to ∙ (same ∙ sym from)) ∙ to))
        | inr ne ↦ (λ same. set-there heads i k x ne ∙ inv.still k (omega (arith, lt, ne)) same)
      ];
      short = λ k lt. elim (cases_eq k i) [
        | inl e ↦ subst (λ (m : ℕ). head_at v m ≢ head_at u m → head_at (slice_set heads i x) m
            ≡ nearer c.args.side (head_at v m)) (sym e)
            (λ differs. here ∙ (c.before_turn.ensures.short (λ same. differs (sym to ∙ (same ∙ from)))
            ∙ ap (nearer c.args.side) to))
        | inr ne ↦ (λ differs. set-there heads i k x ne ∙ inv.short k (omega (arith, lt, ne)) differs)
      ];
      in_box = λ k lt. elim (cases_eq k i) [
        | inl e ↦ subst (λ (m : ℕ). IsInBox (head_at (slice_set heads i x) m)) (sym e)
            (subst IsInBox (sym here) c.before_turn.ensures.in_box)
        | inr ne ↦ subst IsInBox (sym (set-there heads i k x ne)) (inv.in_box k (omega (arith, lt, ne)))
      ];
    }

pub returns-clause-in_box : goal.returns-clause-in_box
returns-clause-in_box c k d lt =
    let heads = c.loop-i.heads in
    let a = c.loop-i-test.false in
    let b = c.junctions-i-end.ensures.count in
    let e = c.requires.one_each in
    let f = c.requires.heads_each in
    let g = c.loop-i.invariant.each in
    subst IsInBox (get_or_default heads k (pos 0) d lt) (c.loop-i.invariant.in_box k (omega (arith, lt, a, b, e, f, g)))
