-- Values put one after another.
use Rattle.std.proofs.Common.{◌≡◌, ℕ, ◌+◌, ◌<◌, ℤ, pos, List, length, inl, inr, sym, subst, arith}
use Rattle.std.specs.Prelude.{Some, slice_get, slice_set}
use Rattle.std.proofs.lemmas.Bool.{cases_eq}
use Rattle.std.proofs.lemmas.List.{length-set, get_or-set_same, get_or-set_other}
use Rattle.std.proofs.lemmas.List.Elements.{All-set}
use Rattle.hyd_spec.specs.Assignment.{flow_at}
use Rattle.hyd_spec_witnesses.specs.WitnessText.{AreValues, IsValue}

-- the values of the first items have this property
abbrev pub Have : {X : Type 0} → (ℕ → X → ℤ → Type 0) → List X → List ℤ → ℕ → Type 0
Have {X} P items values n = (k : ℕ) (here : X) → k < n → slice_get items k ≡ Some here → P k here (flow_at values k)

-- one more
pub one_more : {X : Type 0} (P : ℕ → X → ℤ → Type 0) (items : List X) (values : List ℤ) (i : ℕ) (q : ℤ)
    → i < length values → Have P items values i → ((here : X) → slice_get items i ≡ Some here → P i here q)
    → Have P items (slice_set values i q) (i + 1)
one_more {X} P items values i q inside so_far next k here lt at =
    elim (cases_eq k i) [
      | inl e ↦ subst (λ (m : ℕ). P m here (flow_at (slice_set values i q) m)) (sym e)
          (subst (P i here) (sym (get_or-set_same values i q (pos 0) inside))
          (next here (subst (λ (m : ℕ). slice_get items m ≡ Some here) e at)))
      | inr ne ↦ subst (P k here) (sym (get_or-set_other values i k q (pos 0) ne))
          (so_far k here (omega (arith, lt, ne)) at)
    ]

pub values_set : (n : ℕ) (values : List ℤ) (i : ℕ) (q : ℤ) → AreValues n values → IsValue q
    → AreValues n (slice_set values i q)
values_set n values i q are fits = record {
  one_each = (let a = length-set values i q in let b = are.one_each in omega (arith, a, b));
  in_range = All-set IsValue values i q fits are.in_range;
}
