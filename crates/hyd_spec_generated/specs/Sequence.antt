-- The linear congruential sequence from which demands are drawn.
-- Source: the example of `rand` in the C standard (ISO/IEC 9899, `srand`), here modulo 2^31.
use Rattle.std.specs.Prelude.{ℕ, zero, suc, ◌+◌, ◌*◌, ◌/◌, ◌%◌, ◌^◌}

-- The number that follows a number of the sequence.
abbrev pub following : ℕ → ℕ
following number = (1103515245 * number + 12345) % 2 ^ 31

-- The number at a place of the sequence, which begins with the seed at place 0.
abbrev pub drawn : ℕ → ℕ → ℕ
drawn seed zero = seed
drawn seed (suc place) = following (drawn seed place)

-- The digit of a number of the sequence. Its low bits repeat soon, so 16 of them are cut off.
abbrev pub digit_of : ℕ → ℕ
digit_of number = number / 2 ^ 16 % 10
