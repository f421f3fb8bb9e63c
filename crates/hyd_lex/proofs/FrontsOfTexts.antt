-- Fronts of texts, and a line without its carriage return.
use Rattle.std.proofs.Common.{◌≡◌, ℕ, ◌-◌, ◌==◌, ◌≤◌, List, length, take, sym, ap, ◌∙◌, arith, inl, inr, slice_index}
use Rattle.std.specs.Str.Lines.{strip_carriage_return}
use Rattle.std.proofs.Math.Seq.{take-length}
use Rattle.std.proofs.lemmas.Bool.{cases_Bool}
use Rattle.std.proofs.lemmas.List.{length-take, take_min}

-- a front, by its own length
pub front_of_take : (n : ℕ) (xs : List ℕ) → take n xs ≡ take (length (take n xs)) xs
front_of_take n xs = sym (take_min n xs) ∙ ap (λ k. take k xs) (sym (length-take n xs))

pub length_of_take : (n : ℕ) (xs : List ℕ) → length (take n xs) ≤ length xs
length_of_take n xs = omega (arith, length-take n xs)

-- a line without its carriage return is a front of it
pub front_of_strip : (xs : List ℕ) → strip_carriage_return xs ≡ take (length (strip_carriage_return xs)) xs
front_of_strip xs = elim (cases_Bool (slice_index xs (length xs - 1) == 13)) [
  | inl t ↦ rw t (front_of_take (length xs - 1) xs)
  | inr f ↦ rw f (sym (take-length xs))
]

pub length_of_strip : (xs : List ℕ) → length (strip_carriage_return xs) ≤ length xs
length_of_strip xs = elim (cases_Bool (slice_index xs (length xs - 1) == 13)) [
  | inl t ↦ rw t (length_of_take (length xs - 1) xs)
  | inr f ↦ rw f (omega arith)
]
