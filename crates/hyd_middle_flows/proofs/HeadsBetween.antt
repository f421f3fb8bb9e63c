-- Heads halfway between two vectors, one by one.
use Rattle.std.proofs.Common.{◌≡◌, ℕ, zero, suc, ◌<◌, ℤ, pos, ◌+ℤ◌, List, [], ◌∷◌, length}
use Rattle.std.proofs.Common.{refl, ◌∙◌, sym, arith}
use Rattle.std.proofs.lemmas.List.{ext_get_or}
use Rattle.hyd_spec.specs.Assignment.{head_at}
use Rattle.hyd_spec_witnesses.specs.MiddleCandidate.{heads_between}

pub long_between : (lower upper : List ℤ) → length lower ≡ length upper
    → length (heads_between lower upper) ≡ length lower
long_between [] upper e = refl
long_between (l ∷ lower) [] e = absurd (omega (arith, e))
long_between (l ∷ lower) (u ∷ upper) e = (let r = long_between lower upper (omega (arith, e)) in omega (arith, r))

pub head_between : (lower upper : List ℤ) (k : ℕ) → length lower ≡ length upper → k < length lower
    → head_at (heads_between lower upper) k ≡ head_at lower k +ℤ head_at upper k
head_between [] upper k e lt = absurd (omega (arith, lt))
head_between (l ∷ lower) [] k e lt = absurd (omega (arith, e))
head_between (l ∷ lower) (u ∷ upper) zero e lt = refl
head_between (l ∷ lower) (u ∷ upper) (suc k) e lt = head_between lower upper k (omega (arith, e)) (omega (arith, lt))

-- the heads are those between, where each is
pub are_between : (lower upper heads : List ℤ) → length lower ≡ length heads → length upper ≡ length heads
    → ((k : ℕ) → k < length heads → head_at heads k ≡ head_at lower k +ℤ head_at upper k)
    → heads ≡ heads_between lower upper
are_between lower upper heads l u each =
    ext_get_or (pos 0) heads (heads_between lower upper)
    (let n = long_between lower upper (omega (arith, l, u)) in omega (arith, n, l))
    (λ k lt. each k lt ∙ sym (head_between lower upper k (omega (arith, l, u)) (omega (arith, l, lt))))
