-- Times and times of day, as one or two words.
-- Source: EPANET 2.2 User Manual, appendix C ([TIMES]); the bounds are this program's.
use Rattle.std.specs.Prelude.{ℕ, ◌+◌, ◌*◌, ◌/◌, ◌%◌, ◌^◌, Bool, false, ◌==◌, ◌&&◌, not, nat_le, nat_lt, List, [], ◌∷◌}
use Rattle.std.specs.Prelude.{length, codes, Option, Some, None, slice_get, if◌then◌else◌, ℤ, pos, ◌*ℤ◌}
use Rattle.std.specs.List.{list_all, list_any, slice_split}
use lib.Signed.{le_z, lt_z}
use borrow.Author.Differences.{up}
use Rattle.hyd_num.specs.Numeral as numeral
use Rattle.hyd_num.specs.Numeral.{is_digit, nano_of}
use Rattle.hyd_spec_lines.specs.WordsOfLines.{is_keyword}
use Rattle.hyd_spec_lines.specs.Headings.{first_named, either}
use Rattle.hyd_spec_input.specs.Columns.{Column, first, unless, is_there, number, one_of, needed, optional, ends, word}
use Rattle.hyd_net.specs.declared.refusal_cause.Cause.{Cause}
use Rattle.hyd_net.specs.declared.refusal_cause.Cause.TheVariants.{Syntax, Range}

-- ---- h:mm and h:mm:ss

-- `:`
abbrev pub is_colon : ℕ → Bool
is_colon byte = byte == 58

abbrev pub has_colon : List ℕ → Bool
has_colon word = list_any is_colon word

-- one digit at least, and so many at most
abbrev pub are_digits : ℕ → List ℕ → Bool
are_digits most part = list_all is_digit part && (nat_le 1 (length part) && nat_le (length part) most)

-- minutes or seconds: one or two digits, below 60
abbrev pub is_sixtieth : List ℕ → Bool
is_sixtieth part = are_digits 2 part && nat_lt (numeral.number part) 60

-- hours of one to six digits, minutes, and maybe seconds
abbrev pub are_parts : List (List ℕ) → Bool
are_parts (hours ∷ minutes ∷ []) = are_digits 6 hours && is_sixtieth minutes
are_parts (hours ∷ minutes ∷ seconds ∷ []) = are_digits 6 hours && (is_sixtieth minutes && is_sixtieth seconds)
are_parts _ = false

abbrev pub seconds_of_parts : List (List ℕ) → ℕ
seconds_of_parts (hours ∷ minutes ∷ []) = 3600 * numeral.number hours + 60 * numeral.number minutes
seconds_of_parts (hours ∷ minutes ∷ seconds ∷ []) =
    3600 * numeral.number hours + 60 * numeral.number minutes + numeral.number seconds
seconds_of_parts _ = 0

-- a word of hours, minutes and seconds where it has a colon, else a number
abbrev pub moment_word : Column
moment_word word = if has_colon word then unless (are_parts (slice_split is_colon word)) Syntax else number word

-- its billionths of a second, where one of the number is so many seconds
abbrev pub moment_nano : ℕ → List ℕ → ℤ
moment_nano per word =
    if has_colon word then pos (seconds_of_parts (slice_split is_colon word) * 10 ^ 9) else nano_of word *ℤ pos per

-- ---- units

abbrev pub short_units : List (List ℕ × ℕ)
short_units = (codes "SEC", 1) ∷ (codes "SECONDS", 1) ∷ (codes "MIN", 60) ∷ (codes "MINUTES", 60) ∷ []

abbrev pub long_units : List (List ℕ × ℕ)
long_units = (codes "HOUR", 3600) ∷ (codes "HOURS", 3600) ∷ (codes "DAY", 86400) ∷ (codes "DAYS", 86400) ∷ []

-- the seconds of a unit
unfoldable pub unit_seconds : List ℕ → Option ℕ
unit_seconds word = either (first_named short_units word) (first_named long_units word)

-- a number without a unit is one of hours
abbrev pub or_hour : Option ℕ → ℕ
or_hour None = 3600
or_hour (Some seconds) = seconds

abbrev pub seconds_per : Option (List ℕ) → ℕ
seconds_per None = 3600
seconds_per (Some word) = or_hour (unit_seconds word)

-- a unit that is known, after a number alone
abbrev pub unit_word : List ℕ → Column
unit_word moment word = unless (is_there (unit_seconds word) && not (has_colon moment)) Syntax

-- ---- times

-- a time in billionths of a second
abbrev pub time_nano : ℕ → List (List ℕ) → ℤ
time_nano k words = moment_nano (seconds_per (slice_get words (k + 1))) (word k words)

-- whole seconds of billionths, cut
abbrev pub whole_seconds : ℤ → ℕ
whole_seconds nano = up nano / 10 ^ 9

-- a time isn't negative, and is from a least number of whole seconds to 10^8
abbrev pub time_range : ℕ → ℤ → Option Cause
time_range least nano =
    unless (le_z (pos 0) nano && (nat_le least (whole_seconds nano) && nat_le (whole_seconds nano) (10 ^ 8))) Range

-- the words from a number on are a time of at least so many seconds
abbrev pub time : ℕ → ℕ → List (List ℕ) → Option Cause
time least k words =
    first (needed moment_word k words ∷ optional (unit_word (word k words)) (k + 1) words
    ∷ time_range least (time_nano k words) ∷ ends (k + 2) words ∷ [])

-- its seconds
abbrev pub time_seconds : ℕ → List (List ℕ) → ℕ
time_seconds k words = whole_seconds (time_nano k words)

-- ---- times of day

abbrev pub half_day : Column
half_day word = one_of (codes "AM" ∷ codes "PM" ∷ []) word

-- in billionths of a second
abbrev pub clock_nano : ℕ → List (List ℕ) → ℤ
clock_nano k words = moment_nano 3600 (word k words)

-- from 0 to below 24 hours, or with AM or PM from 1 to below 13
abbrev pub clock_range : Option (List ℕ) → ℤ → Option Cause
clock_range None nano = unless (le_z (pos 0) nano && lt_z nano (pos (86400 * 10 ^ 9))) Range
clock_range (Some half) nano = unless (le_z (pos (3600 * 10 ^ 9)) nano && lt_z nano (pos (46800 * 10 ^ 9))) Range

-- the words from a number on are a time of day
abbrev pub clock : ℕ → List (List ℕ) → Option Cause
clock k words =
    first (needed moment_word k words ∷ optional half_day (k + 1) words
    ∷ clock_range (slice_get words (k + 1)) (clock_nano k words) ∷ ends (k + 2) words ∷ [])

-- 12 counts as 0, and PM adds 12 hours
abbrev pub of_half : Option (List ℕ) → ℕ → ℕ
of_half None seconds = seconds
of_half (Some half) seconds = seconds % 43200 + (if is_keyword (codes "PM") half then 43200 else 0)

-- its seconds of the day
abbrev pub clock_seconds : ℕ → List (List ℕ) → ℕ
clock_seconds k words = of_half (slice_get words (k + 1)) (whole_seconds (clock_nano k words))
