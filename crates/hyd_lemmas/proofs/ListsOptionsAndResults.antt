-- Lists, options and results: what one more item brings, and that an item is one.
use Rattle.std.proofs.Common.{◌≡◌, ◌≢◌, ℕ, List, ap, zero, suc, ◌<◌, [], ◌∷◌, length, refl, arith, ◌++◌, sym, ◌∙◌}
use Rattle.std.proofs.Common.{append_assoc, map, append-nil, ◌+◌}
use Rattle.std.specs.Prelude.{Option, Some, slice_index_or, slice_get, Result, Ok, Err, OnOk, None}
use Rattle.hyd_spec.specs.Lists.{joined, present, map_from}
use Rattle.std.proofs.lemmas.List.{map-append}
use Rattle.std.specs.List.{AllByRecursion}

pub same_item : (X : Type 0) (x y : X) → ◌≡◌ {A = Option X} (Some x) (Some y) → x ≡ y
same_item X x y e = cc

pub differ : (a b : List ℕ) → (slice_index_or a 0 0 ≡ slice_index_or b 0 0 → ⊥) → a ≢ b
differ a b unlike e = unlike (ap (λ (l : List ℕ). slice_index_or l 0 0) e)

pub any_default : {X : Type 0} (xs : List X) (i : ℕ) (d e : X) → i < length xs
    → slice_index_or xs i d ≡ slice_index_or xs i e
any_default [] i d e h = absurd (omega arith)
any_default (x ∷ xs) zero d e h = refl
any_default (x ∷ xs) (suc i) d e h = any_default xs i d e (omega arith)

pub item_is : {X : Type 0} (xs : List X) (k : ℕ) (x d : X) → slice_get xs k ≡ Some x → slice_index_or xs k d ≡ x
item_is {X} [] k x d at = absurd (cc)
item_is {X} (y ∷ xs) zero x d at = cc
item_is {X} (y ∷ xs) (suc k) x d at = item_is xs k x d at

pub mapped : {X Y : Type 0} (f : X → Y) (xs : List X) (k : ℕ) (d : Y) (e : X) → k < length xs
    → slice_index_or (map f xs) k d ≡ f (slice_index_or xs k e)
mapped {X} {Y} f [] k d e h = absurd (omega (arith, h))
mapped {X} {Y} f (x ∷ xs) zero d e h = refl
mapped {X} {Y} f (x ∷ xs) (suc k) d e h = mapped f xs k d e (omega (arith, h))

pub item_there : {X : Type 0} (xs : List X) (k : ℕ) → k < length xs → (x : X) × (slice_get xs k ≡ Some x)
item_there {X} [] k h = absurd (omega (arith, h))
item_there {X} (x ∷ xs) zero h = (x, refl)
item_there {X} (x ∷ xs) (suc k) h = item_there xs k (omega (arith, h))

pub join-append : {X : Type 0} (xs ys : List (List X)) → joined (xs ++ ys) ≡ joined xs ++ joined ys
join-append [] ys = refl
join-append (x ∷ xs) ys = ap (λ rest. x ++ rest) (join-append xs ys) ∙ sym (append_assoc x (joined xs) (joined ys))

-- what is joined of the pieces of two lists
pub joined_append : {X Y : Type 0} (f : X → List Y) (xs ys : List X)
    → joined (map f (xs ++ ys)) ≡ joined (map f xs) ++ joined (map f ys)
joined_append f xs ys = ap joined (map-append f xs ys) ∙ join-append (map f xs) (map f ys)

pub join-more : {X Y : Type 0} (f : X → List Y) (xs : List X) (x : X)
    → joined (map f (xs ++ (x ∷ []))) ≡ joined (map f xs) ++ f x
join-more f xs x =
    ap joined (map-append f xs (x ∷ [])) ∙ (join-append (map f xs) (f x ∷ []) ∙ ap (λ ys. joined (map f xs) ++ ys)
    (append-nil (f x)))

pub same_some : {A : Type 0} (o : Option A) (a b : A) → o ≡ Some a → o ≡ Some b → a ≡ b
same_some o a b e f = let same : Some a ≡ Some b = sym e ∙ f in cc

-- what holds of an answer that is there
pub on-ok : {A E : Type 0} (P Q : Type 0) (result : Result A E) → (P → Q) → OnOk result P → OnOk result Q
on-ok P Q (Ok value) f p = f p
on-ok P Q (Err fault) f p = p

pub all-more : {X : Type 0} (P : X → Type 0) (xs : List X) (x : X) → AllByRecursion P xs → P x
    → AllByRecursion P (xs ++ (x ∷ []))
all-more P [] x all here = (here, tt)
all-more P (y ∷ xs) x all here = (all.0, all-more P xs x all.1 here)

pub present_push : {X : Type 0} (xs : List (Option X)) (o : Option X)
    → present (xs ++ o ∷ []) ≡ present xs ++ present (o ∷ [])
present_push {X} [] o = refl
present_push {X} (Some x ∷ xs) o = ap (λ (ys : List X). x ∷ ys) (present_push xs o)
present_push {X} (None ∷ xs) o = present_push xs o

pub same_from : {X Y : Type 0} (f g : ℕ → X → Y) (from : ℕ) (xs : List X)
    → ((k : ℕ) (x : X) → slice_get xs k ≡ Some x → f (from + k) x ≡ g (from + k) x)
    → map_from f from xs ≡ map_from g from xs
same_from {X} {Y} f g from [] same = refl
same_from {X} {Y} f g from (x ∷ xs) same =
    let here : f from x ≡ g from x =
    ap (λ (n : ℕ). f n x) (let e : from ≡ from + 0 = omega arith in e) ∙ same 0 x refl
    ∙ ap (λ (n : ℕ). g n x) (let e : from + 0 ≡ from = omega arith in e) in
    ap (λ (y : Y). y ∷ map_from f (suc from) xs) here
    ∙ ap (λ (ys : List Y). g from x ∷ ys) (same_from f g (suc from) xs (λ k z at.
    ap (λ (n : ℕ). f n z) (let e : suc from + k ≡ from + suc k = omega arith in e) ∙ same (suc k) z at
    ∙ ap (λ (n : ℕ). g n z) (let e : from + suc k ≡ suc from + k = omega arith in e)))

-- a list without length has no items
pub no_items : {X : Type 0} (xs : List X) → length xs ≡ 0 → xs ≡ []
no_items [] e = refl
no_items (x ∷ xs) e = absurd (omega (arith, e))

pub somes_same : {X : Type 0} (xs ys : List X) → map {B = Option X} Some xs ≡ map {B = Option X} Some ys → xs ≡ ys
somes_same {X} [] [] e = refl
somes_same {X} [] (y ∷ ys) e = absurd (cc)
somes_same {X} (x ∷ xs) [] e = absurd (cc)
somes_same {X} (x ∷ xs) (y ∷ ys) e =
    let here : x ≡ y = cc in
    let rest : map {B = Option X} Some xs ≡ map {B = Option X} Some ys = cc in
    ap (λ (z : X). z ∷ xs) here ∙ ap (λ (zs : List X). y ∷ zs) (somes_same xs ys rest)

-- an item of a list that f made of the items and their numbers
pub numbered_at : {X Y : Type 0} (f : ℕ → X → Y) (from : ℕ) (xs : List X) (k : ℕ) (x : X) (d : Y)
    → slice_get xs k ≡ Some x
    → slice_index_or (map_from f from xs) k d ≡ f (from + k) x
numbered_at {X} {Y} f from [] k x d e = absurd (cc)
numbered_at {X} {Y} f from (y ∷ xs) zero x d e =
    let same = same_item X y x e in let n : from ≡ from + 0 = omega arith in
    ap (λ (z : X). f from z) same ∙ ap (λ (m : ℕ). f m x) n
numbered_at {X} {Y} f from (y ∷ xs) (suc k) x d e =
    let n : suc from + k ≡ from + suc k = omega arith in
    numbered_at f (suc from) xs k x d e ∙ ap (λ (m : ℕ). f m x) n

pub as_long : {X Y : Type 0} (f : ℕ → X → Y) (from : ℕ) (xs : List X) → length (map_from f from xs) ≡ length xs
as_long {X} {Y} f from [] = refl
as_long {X} {Y} f from (x ∷ xs) = ap suc (as_long f (suc from) xs)

-- the item that was read at a place
pub each_is : {X : Type 0} (xs ys : List X) (k : ℕ) (here each : X) → here ≡ slice_index_or ys k here → ys ≡ xs
    → slice_get xs k ≡ Some each → here ≡ each
each_is {X} xs ys k here each is are at =
    is ∙ ap (λ (zs : List X). slice_index_or zs k here) are ∙ item_is xs k each here at
