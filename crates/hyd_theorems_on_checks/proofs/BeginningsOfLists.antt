-- Lists of which one begins with the other, and texts that are joined of pieces.
use Rattle.std.proofs.Common.{◌≡◌, ℕ, ◌⊎◌, inl, inr, List, [], ◌∷◌, ◌++◌, length, length-append, refl, sym, ap, ap₂}
use Rattle.std.proofs.Common.{◌∙◌, append-nil, arith}
use Rattle.hyd_lemmas.proofs.ListsOptionsAndResults.{no_items}

-- the list begins with the other one
pub record Begins {X : Type 0} (front whole : List X) : Type 0 where
  pub more : List X
  pub is : whole ≡ front ++ more

pub begins_more : {X : Type 0} (x y : X) (front whole : List X) → x ≡ y → Begins front whole
    → Begins (x ∷ front) (y ∷ whole)
begins_more x y front whole same k = record { more = k.more; is = ap₂ (λ z zs. z ∷ zs) (sym same) k.is }

pub begin_more : {X : Type 0} (x y : X) (a b : List X) → x ≡ y → Begins a b ⊎ Begins b a
    → Begins (x ∷ a) (y ∷ b) ⊎ Begins (y ∷ b) (x ∷ a)
begin_more x y a b same (inl k) = inl (begins_more x y a b same k)
begin_more x y a b same (inr k) = inr (begins_more y x b a (sym same) k)

-- of two fronts of a list one begins with the other
pub fronts : (a r b s : List ℕ) → a ++ r ≡ b ++ s → Begins a b ⊎ Begins b a
fronts [] r b s e = inl (record { more = b; is = refl })
fronts (x ∷ a) r [] s e = inr (record { more = x ∷ a; is = refl })
fronts (x ∷ a) r (y ∷ b) s e =
    let same : x ≡ y = cc in let after : a ++ r ≡ b ++ s = cc in begin_more x y a b same (fronts a r b s after)

-- two lists that begin with each other are the same
pub both_ways : {X : Type 0} (a b : List X) → Begins a b → Begins b a → a ≡ b
both_ways a b k m =
    let x = ap length k.is ∙ length-append a k.more in
    let y = ap length m.is ∙ length-append b m.more in
    let none : m.more ≡ [] = no_items m.more (omega (arith, x, y)) in
    m.is ∙ (ap (λ t. b ++ t) none ∙ append-nil b)

-- a list begins with all of another one and an item more, or with a front of that
pub before_last : {X : Type 0} (front whole : List X) (last : X) → Begins front (whole ++ (last ∷ []))
    → (front ≡ whole ++ (last ∷ [])) ⊎ Begins front whole
before_last [] whole last k = inr (record { more = whole; is = refl })
before_last (x ∷ front) [] last k =
    let same : last ≡ x = (let e = k.is in cc) in
    let rest : [] ≡ front ++ k.more = (let e = k.is in cc) in
    let none : front ≡ [] = no_items front (let n = ap length rest ∙ length-append front k.more in omega (arith, n)) in
    inl (ap₂ (λ z zs. z ∷ zs) (sym same) none)
before_last (x ∷ front) (y ∷ whole) last k =
    let same : y ≡ x = (let e = k.is in cc) in
    let rest : whole ++ (last ∷ []) ≡ front ++ k.more = (let e = k.is in cc) in
    longer (sym same) (before_last front whole last (record { more = k.more; is = rest }))
  where
    longer : x ≡ y → (front ≡ whole ++ (last ∷ [])) ⊎ Begins front whole
        → ((x ∷ front) ≡ (y ∷ (whole ++ (last ∷ [])))) ⊎ Begins (x ∷ front) (y ∷ whole)
    longer same (inl e) = inl (ap₂ (λ z zs. z ∷ zs) same e)
    longer same (inr b) = inr (begins_more x y front whole same b)

-- the last items of two lists, and what is before them
pub lasts : {X : Type 0} (a b : List X) (x y : X) → a ++ (x ∷ []) ≡ b ++ (y ∷ []) → (a ≡ b) × (x ≡ y)
lasts [] [] x y e = (refl, cc)
lasts [] (z ∷ b) x y e =
    let n = ap length e in let m = length-append b (y ∷ []) in absurd (omega (arith, n, m))
lasts (z ∷ a) [] x y e =
    let n = ap length e in let m = length-append a (x ∷ []) in absurd (omega (arith, n, m))
lasts (w ∷ a) (z ∷ b) x y e =
    let same : w ≡ z = cc in let after : a ++ (x ∷ []) ≡ b ++ (y ∷ []) = cc in let rest = lasts a b x y after in
    (ap₂ (λ c cs. c ∷ cs) same rest.0, rest.1)
