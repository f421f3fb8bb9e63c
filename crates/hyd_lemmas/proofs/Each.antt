-- What holds of each item of a list: of one, of two, and by a test.
use Rattle.std.proofs.Common.{◌≡◌, ℕ, zero, suc, List, [], ◌∷◌, subst, Bool, true}
use Rattle.std.specs.List.{All, list_all}
use Rattle.std.proofs.lemmas.Bool.{and_parts}
use Rattle.std.proofs.lemmas.List.Elements.{All-nil, All-cons}
use Rattle.hyd_spec.specs.Lists.{Each}

pub each_one : (X : Type 0) (P : ℕ → X → Type 0) (x : X) → P 0 x → Each (x ∷ []) P
each_one X P x p zero z e = let same : x ≡ z = cc in subst (P 0) same p
each_one X P x p (suc k) z e = absurd (cc)

pub each_two : (X : Type 0) (P : ℕ → X → Type 0) (x y : X) → P 0 x → P 1 y → Each (x ∷ y ∷ []) P
each_two X P x y p q zero z e = let same : x ≡ z = cc in subst (P 0) same p
each_two X P x y p q (suc zero) z e = let same : y ≡ z = cc in subst (P 1) same q
each_two X P x y p q (suc (suc k)) z e = absurd (cc)

pub all_by : (X : Type 0) (P : X → Type 0) (test : X → Bool) → ((x : X) → test x ≡ true → P x) → (xs : List X)
    → list_all test xs ≡ true → All P xs
all_by X P test tells [] holds = All-nil P
all_by X P test tells (x ∷ xs) holds =
    let both = and_parts (test x) (list_all test xs) holds in
    All-cons P x xs (tells x both.0) (all_by X P test tells xs both.1)
