-- Words on whole numbers that several definitions share.
use Rattle.std.specs.Prelude.{ℕ, ℤ, pos, int_div, int_le, Bool, ◌&&◌}

-- z / d cut toward zero.
abbrev pub cut : ℤ → ℕ → ℤ
cut z d = int_div z (pos d)

-- Two numbers are equal.
abbrev pub is_same_number : ℤ → ℤ → Bool
is_same_number a b = int_le a b && int_le b a
