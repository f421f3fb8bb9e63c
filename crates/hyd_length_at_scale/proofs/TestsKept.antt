-- What a test shows.
use Rattle.std.proofs.Common.{◌≡◌, ℕ, Bool, true, false, sym, eqb-true}
use Rattle.std.specs.Prelude.{not, ◌==◌}
use Rattle.std.specs.Bool.{OnTrue, OnFalse}

-- where it held, and where it failed
pub held : (b : Bool) (P : Type 0) → b ≡ true → OnTrue b P → P
held true P e h = h
held false P e h = absurd (cc)

pub failed : (b : Bool) (P : Type 0) → b ≡ false → OnFalse b P → P
failed true P e h = absurd (cc)
failed false P e h = h

-- of a list that isn't empty, by its length
pub where_empty : (b : Bool) (n : ℕ) (P : Type 0) → b ≡ (n == 0) → (n ≡ 0 → P) → OnFalse (not b) P
where_empty true n P e f = f (eqb-true n 0 (sym e))
where_empty false n P e f = tt
