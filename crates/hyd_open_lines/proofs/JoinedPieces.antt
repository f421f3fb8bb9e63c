-- Pieces of text one after another.
use Rattle.std.proofs.Common.{◌≡◌, ℕ, ◌+◌, ◌<◌, List, [], ◌∷◌, ◌++◌, map, length, take, drop, get_or, ap, sym, ◌∙◌}
use Rattle.std.proofs.Common.{append-nil}
use Rattle.std.proofs.lemmas.List.{take_more, take-append-drop, map-append}
use Rattle.hyd_spec.specs.Lists.{joined}
use Rattle.hyd_lemmas.proofs.ListsOptionsAndResults.{join-append}

-- one piece more
pub joined-more : {X : Type 0} (f : X → List ℕ) (xs : List X) (i : ℕ) (d : X) → i < length xs
    → joined (map f (take i xs)) ++ f (get_or xs i d) ≡ joined (map f (take (i + 1) xs))
joined-more f xs i d inside =
    sym (ap (λ ys. joined (map f ys)) (take_more xs i d inside)
    ∙ (ap joined (map-append f (take i xs) (get_or xs i d ∷ []))
    ∙ (join-append (map f (take i xs)) (f (get_or xs i d) ∷ [])
    ∙ ap (λ ys. joined (map f (take i xs)) ++ ys) (append-nil (f (get_or xs i d))))))

-- the pieces up to one, and the others
pub joined-split : {X : Type 0} (f : X → List ℕ) (xs : List X) (i : ℕ) (d : X) → i < length xs
    → (joined (map f (take i xs)) ++ f (get_or xs i d)) ++ joined (map f (drop (i + 1) xs)) ≡ joined (map f xs)
joined-split f xs i d inside =
    ap (λ ys. ys ++ joined (map f (drop (i + 1) xs))) (joined-more f xs i d inside)
    ∙ (sym (join-append (map f (take (i + 1) xs)) (map f (drop (i + 1) xs)))
    ∙ ap joined (sym (map-append f (take (i + 1) xs) (drop (i + 1) xs)) ∙ ap (map f) (take-append-drop (i + 1) xs)))
