-- Numbers that are too great for a pressure.
use Rattle.std.proofs.Common.{◌≡◌, ◌∙◌, ℕ, zero, suc, ◌^◌, ◌<◌, Bool, true, false, List, None, nat_le, refl, ap, arith}
use Rattle.std.proofs.Common.{unsigned_abs}
use Rattle.std.proofs.lemmas.Bool.{lt-leb}
use Rattle.hyd_num.specs.Numeral.{is_numeral, is_negative, magnitude_of, nano_of, signed}
use Rattle.hyd_command_words.specs.CommandGrammar.{pressure_of}
use Rattle.hyd_command_words.proofs.KindsOfWords.{and_false}

magnitude_is : (negative : Bool) (n : ℕ) → unsigned_abs (signed negative n) ≡ n
magnitude_is true zero = refl
magnitude_is true (suc n) = refl
magnitude_is false n = refl

-- a number of more than 10^12 is no pressure
pub too_large : (text : List ℕ) → 10 ^ 21 < magnitude_of text → None ≡ pressure_of text
unfolding nano_of
too_large text big =
    let over : nat_le (magnitude_of text) (10 ^ 13) ≡ false = lt-leb (magnitude_of text) (10 ^ 13) (omega arith) in
    let above : nat_le (unsigned_abs (signed (is_negative text) (magnitude_of text))) (10 ^ 13) ≡ false =
    ap (λ (n : ℕ). nat_le n (10 ^ 13)) (magnitude_is (is_negative text) (magnitude_of text)) ∙ over in
    rw (and_false (is_numeral text) _ above) refl
