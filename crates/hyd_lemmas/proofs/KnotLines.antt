-- The line through two knots, as a fraction, and the knots of a list from one on.
use Rattle.std.proofs.Common.{◌≡◌, ℤ, ◌<ℤ◌, refl, sym, ◌*◌, pos, ◌+ℤ◌, ◌-ℤ◌, ◌*ℤ◌, unsigned_abs, ap, ◌∙◌, arith, ℕ, ◌+◌}
use Rattle.std.proofs.Common.{◌<◌, List, [], ◌∷◌, length, drop, slice_index_or}
use Rattle.hyd_spec.specs.PassedOn.{Knot, on_line, between}
use Rattle.std.proofs.lemmas.Int.{ints}
use Rattle.std.proofs.lemmas.List.{drop_more, drop_all}
use Rattle.hyd_num.proofs.Integers.{one_times}
use Rattle.hyd_lemmas.proofs.BooleanTests.{lt-from}

pub on_line_is : (a b : Knot) (d : ℤ) → a.place <ℤ b.place → on_line 1 a b d ≡ between 1 a b d
on_line_is a b d less = sym (rw (lt-from a.place b.place less) refl)

pub line_is : (a b : Knot) (d p q : ℤ) → a.place <ℤ b.place → p ≡ (b.place -ℤ a.place) *ℤ a.value
    → q ≡ (b.value -ℤ a.value) *ℤ (d -ℤ a.place)
    → p +ℤ q ≡ (on_line 1 a b d).num
line_is a b d p q less e f =
    let w : b.place -ℤ a.place ≡ pos (1 * unsigned_abs (b.place -ℤ a.place)) = omega (arith, ints) in
    let x : d -ℤ a.place ≡ d -ℤ (pos 1 *ℤ a.place) = ap (λ (z : ℤ). d -ℤ z) (sym (one_times a.place)) in
    let l : p ≡ pos (1 * unsigned_abs (b.place -ℤ a.place)) *ℤ a.value = e ∙ ap (λ (z : ℤ). z *ℤ a.value) w in
    let r : q ≡ (b.value -ℤ a.value) *ℤ (d -ℤ (pos 1 *ℤ a.place)) =
    f ∙ ap (λ (z : ℤ). (b.value -ℤ a.value) *ℤ z) x in
    rw (l, r) refl

-- the first two of the knots after the first i
pub two-more : (knots : List Knot) (i : ℕ) (a : Knot) → i + 1 < length knots → drop i knots ≡ slice_index_or knots i a
    ∷ (slice_index_or knots (i + 1) a ∷ drop (i + 1 + 1) knots)
two-more knots i a h = drop_more knots i a (omega arith) ∙ ap (λ (ks : List Knot). slice_index_or knots i a ∷ ks)
    (drop_more knots (i + 1) a h)

-- the last knot
pub one-more : (knots : List Knot) (i : ℕ) (a : Knot) → i + 1 ≡ length knots → drop i knots ≡ slice_index_or knots i a
    ∷ []
one-more knots i a h = drop_more knots i a (omega arith) ∙ ap (λ (ks : List Knot). slice_index_or knots i a ∷ ks)
    (drop_all (i + 1) knots (omega (arith, h)))
