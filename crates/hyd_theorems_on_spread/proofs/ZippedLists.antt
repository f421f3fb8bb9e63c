-- Lists side by side.
use Rattle.std.proofs.Common.{◌≡◌, ℕ, zero, suc, ◌<◌, refl, subst, arith, List, [], ◌∷◌, length}
use Rattle.std.specs.Prelude.{Some, slice_get}
use Rattle.std.specs.List.{AllZip}
use Rattle.hyd_lemmas.proofs.ListsOptionsAndResults.{same_item}

pub zip-long : {X Y : Type 0} (R : X → Y → Type 0) (xs : List X) (ys : List Y) → AllZip R xs ys → length xs ≡ length ys
zip-long R [] [] all = refl
zip-long R [] (y ∷ ys) all = absurd all
zip-long R (x ∷ xs) [] all = absurd all
zip-long R (x ∷ xs) (y ∷ ys) all = let e = zip-long R xs ys all.1 in omega (arith, e)

-- what stands beside an item of the first list
pub record IsBeside {X Y : Type 0} (R : X → Y → Type 0) (ys : List Y) (i : ℕ) (x : X) : Type 0 where
  pub beside : Y
  pub is_beside : slice_get ys i ≡ Some beside
  pub holds : R x beside

pub beside-first : {X Y : Type 0} (R : X → Y → Type 0) (xs : List X) (ys : List Y) → AllZip R xs ys → (i : ℕ) (x : X)
    → slice_get xs i ≡ Some x → IsBeside R ys i x
beside-first R [] ys all i x is = absurd (cc)
beside-first R (z ∷ xs) [] all i x is = absurd all
beside-first {X} R (z ∷ xs) (y ∷ ys) all zero x is =
    record { beside = y; is_beside = refl; holds = subst (λ (w : X). R w y) (same_item X z x is) all.0 }
beside-first R (z ∷ xs) (y ∷ ys) all (suc i) x is =
    let r = beside-first R xs ys all.1 i x is in
    record { beside = r.beside; is_beside = r.is_beside; holds = r.holds }

pub item-at : {X : Type 0} (xs : List X) (i : ℕ) → i < length xs → (x : X) × (slice_get xs i ≡ Some x)
item-at [] i lt = absurd (omega arith)
item-at (x ∷ xs) zero lt = (x, refl)
item-at (x ∷ xs) (suc i) lt = item-at xs i (omega arith)

-- two relations that lead from one list to another, and from that to a third, with one that leads from the first to a
-- fourth
pub zip-through : {K X B Y : Type 0} (P : K → X → Type 0) (Q : K → B → Type 0) (R : B → Y → Type 0)
    (T : X → Y → Type 0) → ((k : K) (x : X) (b : B) (y : Y) → P k x → Q k b → R b y → T x y) → (ks : List K)
    (xs : List X) (bs : List B) (ys : List Y) → AllZip P ks xs → AllZip Q ks bs → AllZip R bs ys → AllZip T xs ys
zip-through P Q R T f [] [] [] [] p q r = tt
zip-through P Q R T f [] [] [] (y ∷ ys) p q r = absurd r
zip-through P Q R T f [] [] (b ∷ bs) ys p q r = absurd q
zip-through P Q R T f [] (x ∷ xs) bs ys p q r = absurd p
zip-through P Q R T f (k ∷ ks) [] bs ys p q r = absurd p
zip-through P Q R T f (k ∷ ks) (x ∷ xs) [] ys p q r = absurd q
zip-through P Q R T f (k ∷ ks) (x ∷ xs) (b ∷ bs) [] p q r = absurd r
zip-through P Q R T f (k ∷ ks) (x ∷ xs) (b ∷ bs) (y ∷ ys) p q r =
    (f k x b y p.0 q.0 r.0, zip-through P Q R T f ks xs bs ys p.1 q.1 r.1)
