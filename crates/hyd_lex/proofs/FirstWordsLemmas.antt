-- Words found one after another are those of a list by their places.
use Rattle.std.proofs.Common.{◌≡◌, ◌<◌, ◌≤◌, ℕ, zero, suc, ◌+◌, List, [], ◌∷◌, Some, None, Option, length, drop, get_or, slice_get}
use Rattle.std.proofs.Common.{slice_set, refl, sym, ap, ◌∙◌, arith, inl, inr}
use Rattle.std.specs.Borrow.{Bor}
use Rattle.std.proofs.Common.{nat_lt, ltb-true, ltb-false}
use Rattle.std.proofs.lemmas.Bool.{cases_Bool}
use Rattle.std.proofs.lemmas.List.{get_or-set_same, get_or-set_other}
use Rattle.hyd_spec_lines.specs.WordsOfLines.{text_of}

pub word_at : (ws : List (List ℕ)) (k : ℕ) (w : List ℕ) (rest : List (List ℕ)) → drop k ws ≡ w ∷ rest
    → slice_get ws k ≡ Some w
word_at [] zero w rest e = absurd (omega (arith, ap length e))
word_at [] (suc k) w rest e = absurd (omega (arith, ap length e))
word_at (x ∷ xs) zero w rest e = ap (λ l. slice_get l 0) e
word_at (x ∷ xs) (suc k) w rest e = word_at xs k w rest e

pub none_at : (ws : List (List ℕ)) (k : ℕ) → drop k ws ≡ [] → slice_get ws k ≡ None
none_at [] zero e = refl
none_at [] (suc k) e = refl
none_at (x ∷ xs) zero e = absurd (omega (arith, ap length e))
none_at (x ∷ xs) (suc k) e = none_at xs k e

pub behind_word : (ws : List (List ℕ)) (k : ℕ) (w : List ℕ) (rest : List (List ℕ)) → drop k ws ≡ w ∷ rest
    → drop (suc k) ws ≡ rest
behind_word [] zero w rest e = absurd (omega (arith, ap length e))
behind_word [] (suc k) w rest e = absurd (omega (arith, ap length e))
behind_word (x ∷ xs) zero w rest e = ap (λ l. drop 1 l) e
behind_word (x ∷ xs) (suc k) w rest e = behind_word xs k w rest e

pub behind_last : (ws : List (List ℕ)) (k : ℕ) → drop k ws ≡ [] → drop (suc k) ws ≡ []
behind_last [] zero e = refl
behind_last [] (suc k) e = refl
behind_last (x ∷ xs) zero e = absurd (omega (arith, ap length e))
behind_last (x ∷ xs) (suc k) e = behind_last xs k e

-- One word more is found.
pub found_more : (ws : List (List ℕ)) (found : List (Option (Bor (List ℕ)))) (p : ℕ) (w : Bor (List ℕ)) → p < length found
    → slice_get ws p ≡ Some w.now
    → ((k : ℕ) → k < p → text_of (get_or found k None) ≡ slice_get ws k)
    → (k : ℕ) → k < p + 1 → text_of (get_or (slice_set found p (Some w)) k None) ≡ slice_get ws k
found_more ws found p w within here before k l = elim (cases_Bool (nat_lt k p)) [
  | inl t ↦ (let less : k < p = ltb-true k p t in
      rw (get_or-set_other found p k (Some w) None (λ e. absurd (omega (arith, less, e)))) (before k less))
  | inr f ↦ (let least : p ≤ k = ltb-false k p f in
      let same : k ≡ p = omega (arith, least, l) in
      rw (same, get_or-set_same found p (Some w) None within) (sym here))
]

-- No word more is found.
pub none_more : (ws : List (List ℕ)) (found : List (Option (Bor (List ℕ)))) (p : ℕ) → drop p ws ≡ []
    → ((k : ℕ) → k < p → text_of (get_or found k None) ≡ slice_get ws k)
    → ((k : ℕ) → p ≤ k → get_or found k None ≡ None)
    → (k : ℕ) → k < p + 1 → text_of (get_or found k None) ≡ slice_get ws k
none_more ws found p ended before none k l = elim (cases_Bool (nat_lt k p)) [
  | inl t ↦ before k (ltb-true k p t)
  | inr f ↦ (let least : p ≤ k = ltb-false k p f in
      let same : k ≡ p = omega (arith, least, l) in
      ap text_of (none k least) ∙ rw same (sym (none_at ws p ended)))
]
