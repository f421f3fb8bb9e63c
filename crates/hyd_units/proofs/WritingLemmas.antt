-- One text written after another.
use Rattle.std.proofs.Common.{◌≡◌, ℕ, ◌+◌, ◌-◌, ◌≤◌, List, ◌++◌, drop, ap, ◌∙◌, arith, append_assoc, length-append}
use Rattle.std.proofs.Common.{subst}
use Rattle.std.proofs.lemmas.List.{drop-drop}
use Rattle.hyd_units.specs.TextInBuffer.{Writes}

behind : {A : Type 0} (xs ys : List A) (i j : ℕ) → i ≤ j → drop i xs ≡ drop i ys → drop j xs ≡ drop j ys
behind xs ys i j h e =
    let d : i + (j - i) ≡ j = omega arith in
    let a : drop (j - i) (drop i xs) ≡ drop (j - i) (drop i ys) = ap (drop (j - i)) e in
    rw (drop-drop (j - i) i xs, drop-drop (j - i) i ys, d) at a

pub Writes-append : (old middle new : List ℕ) (from to end : ℕ) (a b : List ℕ) → Writes old middle from to a
    → Writes middle new to end b → Writes old new from end (a ++ b)
Writes-append old middle new from to end a b first second = record {
  end = omega (arith, length-append a b, first.end, second.end);
  front = second.front ∙ ap (λ xs. xs ++ b) first.front ∙ append_assoc _ a b;
  rest = second.rest ∙ behind middle old to end (omega (arith, second.end)) first.rest;
}

pub Writes-equal : (old new : List ℕ) (from to : ℕ) (a b : List ℕ) → a ≡ b → Writes old new from to a
    → Writes old new from to b
Writes-equal old new from to a b e w = subst (λ text. Writes old new from to text) e w
