use Rattle.std.proofs.Common.{◌≡◌, ◌<◌, ◌∙◌, ℕ, ℤ, pos, ◌+ℤ◌, length, inl, inr, sym, subst, ap, List, arith}
use Rattle.std.specs.Int.{w128}
use Rattle.std.specs.Prelude.{slice_set}
use Rattle.std.proofs.lemmas.Bool.{cases_eq}
use Rattle.std.proofs.lemmas.Int.{to_z-of_z}
use Rattle.std.proofs.lemmas.List.{length-set, get_or_default, get_or-set_same, get_or-set_other}
use Rattle.hyd_spec.specs.Assignment.{head_at}
use Rattle.hyd_spec_witnesses.specs.WitnessText.{IsValue}
use Rattle.hyd_middle_flows.proofs.HeadsBetween.{are_between}
use Rattle.hyd_middle_flows.proofs.heads.put_each_head.Goals as goal

pub loop-place-preserved : goal.loop-place-preserved
loop-place-preserved c =
    let i : ℕ = c.loop-place.place in
    let inv = c.loop-place.invariant in
    let lower = c.args.lower.now in
    let upper = c.args.upper.now in
    let heads = c.loop-place.into in
    let h = c.head_between-head.result in
    let e = c.store.ensures ∙ ap (slice_set heads i) (to_z-of_z w128 h (record { sfits = c.head_between-head.type_inv }))
    in
    let inside : i < length heads = (let a = c.loop-place-test.true in let b = inv.each in omega (arith, a, b)) in
    let here = get_or-set_same heads i h (pos 0) inside in
    record {
      each = ap length e ∙ (length-set heads i h ∙ inv.each);
      between = λ k lt. subst (λ (xs : List ℤ). head_at xs k ≡ head_at lower k +ℤ head_at upper k) (sym e)
          (elim (cases_eq k i) [
            | inl same ↦ subst (λ (m : ℕ). head_at (slice_set heads i h) m ≡ head_at lower m +ℤ head_at upper m)
                (sym same) (here ∙ c.head_between-head.ensures.value)
            | inr ne ↦ get_or-set_other heads i k h (pos 0) ne ∙ inv.between k (omega (arith, lt, ne))
          ]);
      small = λ k lt. subst (λ (xs : List ℤ). IsValue (head_at xs k)) (sym e)
          (elim (cases_eq k i) [
            | inl same ↦ subst (λ (m : ℕ). IsValue (head_at (slice_set heads i h) m)) (sym same)
                (subst IsValue (sym here) c.head_between-head.ensures.small)
            | inr ne ↦ subst IsValue (sym (get_or-set_other heads i k h (pos 0) ne))
                (inv.small k (omega (arith, lt, ne)))
          ]);
    }

pub returns : goal.returns
returns c =
    let inv = c.loop-place.invariant in
    let heads = c.loop-place.into in
    let each = inv.each in
    let past = c.loop-place-test.false in
    record {
      value = are_between c.args.lower.now c.args.upper.now heads (c.requires.each_lower ∙ sym each)
          (c.requires.each_upper ∙ sym each) (λ k lt. inv.between k (omega (arith, lt, each, past)));
      fit = record {
        one_each = each;
        in_range = λ k d lt. subst IsValue (get_or_default heads k (pos 0) d lt)
            (inv.small k (omega (arith, lt, each, past)));
      };
    }
