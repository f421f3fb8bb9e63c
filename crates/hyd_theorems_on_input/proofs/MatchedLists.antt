-- Lists that match item by item.
use Rattle.std.proofs.Common.{◌++◌, List, [], ◌∷◌, ◌≡◌, map, refl, ap₂, sym, ◌∙◌}
use Rattle.hyd_spec_input.specs.Project.{Match}
use Rattle.std.proofs.lemmas.List.{map-id}

pub match_push : {A B : Type 0} (R : A → B → Type 0) (xs : List A) (ys : List B) (x : A) (y : B) → Match R xs ys
    → R x y → Match R (xs ++ x ∷ []) (ys ++ y ∷ [])
match_push R [] [] x y m r = (r, tt)
match_push R [] (b ∷ bs) x y m r = absurd m
match_push R (a ∷ rest) [] x y m r = absurd m
match_push R (a ∷ rest) (b ∷ bs) x y m r = (m.0, match_push R rest bs x y m.1 r)

-- lists that match one list have one image, where each item has one
pub one_image : {A B : Type 0} (R : A → B → Type 0) (f : B → B) (xs : List A) (ys zs : List B)
    → ((x : A) (y z : B) → R x y → R x z → f y ≡ f z) → Match R xs ys → Match R xs zs → map f ys ≡ map f zs
one_image R f [] [] [] one m n = refl
one_image R f [] [] (z ∷ zs) one m n = absurd n
one_image R f [] (y ∷ ys) zs one m n = absurd m
one_image R f (x ∷ xs) [] zs one m n = absurd m
one_image R f (x ∷ xs) (y ∷ ys) [] one m n = absurd n
one_image R f (x ∷ xs) (y ∷ ys) (z ∷ zs) one m n =
    ap₂ (λ v vs. v ∷ vs) (one x y z m.0 n.0) (one_image R f xs ys zs one m.1 n.1)

pub one_list : {A B : Type 0} (R : A → B → Type 0) (xs : List A) (ys zs : List B)
    → ((x : A) (y z : B) → R x y → R x z → y ≡ z) → Match R xs ys → Match R xs zs → ys ≡ zs
one_list R xs ys zs one m n = sym (map-id ys) ∙ one_image R (λ y. y) xs ys zs one m n ∙ map-id zs
