-- What tests show.
use Rattle.std.proofs.Common.{◌≡◌, Bool, true, false, ℤ, ◌<ℤ◌, refl, arith}
use Rattle.std.specs.Bool.{OnTrue, OnFalse}
use Rattle.std.proofs.lemmas.Int.{ints}
use lib.Signed.{le_z}

pub on_true : (b : Bool) (P : Type 0) → (b ≡ true → P) → OnTrue b P
on_true true P f = f refl
on_true false P f = tt

pub on_false : (b : Bool) (P : Type 0) → (b ≡ false → P) → OnFalse b P
on_false true P f = tt
on_false false P f = f refl

pub le_z-no : (a b : ℤ) → le_z a b ≡ false → b <ℤ a
le_z-no a b h = grind (arith, ints)

-- what is shown of one statement is shown of another that says the same
pub also_true : (b : Bool) (A P : Type 0) → OnTrue b A → (A → P) → OnTrue b P
also_true true A P h f = f h
also_true false A P h f = tt

pub also_false : (b : Bool) (A P : Type 0) → OnFalse b (A → ⊥) → (P → A) → OnFalse b (P → ⊥)
also_false true A P h f = tt
also_false false A P h f = λ p. h (f p)

-- what a test shows where it held, and where it failed
pub shown : (b : Bool) (P : Type 0) → b ≡ true → OnTrue b P → P
shown true P e h = h
shown false P e h = absurd (cc)

pub refuted : (b : Bool) (P : Type 0) → b ≡ false → OnFalse b P → P
refuted true P e h = absurd (cc)
refuted false P e h = h
