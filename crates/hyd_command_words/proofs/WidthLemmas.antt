-- Numbers that are too great for a width.
use Rattle.std.proofs.Common.{◌≡◌, ℕ, zero, suc, ◌^◌, ◌<◌, ◌&&◌, Bool, true, false, List, None, pos, int_lt, int_le}
use Rattle.std.proofs.Common.{nat_le, refl, arith}
use Rattle.std.proofs.lemmas.Bool.{lt-leb}
use Rattle.hyd_num.specs.Numeral.{is_numeral, is_negative, magnitude_of, nano_of, signed}
use Rattle.hyd_command_words.specs.CommandGrammar.{width_in_ticks}

and_false : (a b : Bool) → b ≡ false → (a && b) ≡ false
and_false true b e = e
and_false false b e = refl

out_of_range : (negative : Bool) (n : ℕ) → 10 ^ 21 < n
    → (int_lt (pos 0) (signed negative n) && int_le (signed negative n) (pos (10 ^ 12))) ≡ false
out_of_range true zero big = absurd (omega arith)
out_of_range true (suc n) big = refl
out_of_range false n big =
    let over : nat_le n (10 ^ 12) ≡ false = lt-leb n (10 ^ 12) (omega arith) in
    and_false (int_lt (pos 0) (pos n)) (int_le (pos n) (pos (10 ^ 12))) over

-- a number of more than 10^12 m is no width
pub too_large : (text : List ℕ) → 10 ^ 21 < magnitude_of text → None ≡ width_in_ticks text
unfolding nano_of
too_large text big =
    rw (and_false (is_numeral text) _ (out_of_range (is_negative text) (magnitude_of text) big)) refl
