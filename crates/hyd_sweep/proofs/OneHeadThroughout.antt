-- Vectors with one head throughout.
use Rattle.std.proofs.Common.{◌≡◌, ℤ, refl, ap, List, [], ◌∷◌, ◌++◌, length, take, drop}
use Rattle.std.specs.Prelude.{map, replicate}

pub filled : (xs : List ℤ) (e : ℤ) → map (λ (x : ℤ). e) (take (length xs) xs) ++ drop (length xs) xs
    ≡ replicate (length xs) e
filled [] e = refl
filled (x ∷ xs) e = ap (λ (ys : List ℤ). e ∷ ys) (filled xs e)
