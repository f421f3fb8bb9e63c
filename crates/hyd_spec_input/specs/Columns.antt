-- What is asked of the words of a row, from left to right.
-- Source: EPANET 2.2 User Manual, appendix C; the bounds are this program's.
use Rattle.std.specs.Prelude.{ℕ, ◌*◌, ◌^◌, Bool, true, false, ◌&&◌, not, nat_le, List, [], ◌∷◌, length, codes, Option}
use Rattle.std.specs.Prelude.{Some, None, slice_get, if◌then◌else◌, ℤ, pos, neg_ℤ}
use Rattle.std.specs.Ordering.{int_eq}
use lib.Signed.{le_z}
use Rattle.hyd_num.specs.Numeral.{is_numeral, magnitude_of, nano_of}
use Rattle.hyd_spec_lines.specs.WordsOfLines.{is_keyword}
use Rattle.hyd_spec_lines.specs.Headings.{is_one_of}
use Rattle.hyd_net.specs.declared.refusal_cause.Cause.{Cause}
use Rattle.hyd_net.specs.declared.refusal_cause.Cause.TheVariants.{Syntax, Number, Range, Unsupported, Limit}

-- ---- the first of several faults

-- the fault of what comes first, else that of what comes next
abbrev pub or_else : Option Cause → Option Cause → Option Cause
or_else (Some cause) next = Some cause
or_else None next = next

-- the first fault of several
abbrev pub first : List (Option Cause) → Option Cause
first [] = None
first (fault ∷ faults) = or_else fault (first faults)

-- a fault unless a test passes
abbrev pub unless : Bool → Cause → Option Cause
unless passes cause = if passes then None else Some cause

-- ---- one word

-- what is asked of a word
abbrev pub Column : Type 0
Column = List ℕ → Option Cause

-- any word
abbrev pub any : Column
any word = None

-- an ID has at most 31 bytes
abbrev pub id : Column
id word = unless (nat_le (length word) 31) (Limit 3)

-- one of these keywords
abbrev pub one_of : List (List ℕ) → Column
one_of keywords word = unless (is_one_of keywords word) Syntax

-- there is something that a word stands for
abbrev pub is_there : {A : Type 0} → Option A → Bool
is_there None = false
is_there (Some meaning) = true

-- a word that stands for something
abbrev pub meant : {A : Type 0} → (List ℕ → Option A) → Column
meant meaning word = unless (is_there (meaning word)) Syntax

-- a number whose value is at most 10^12 up or down
abbrev pub number : Column
number word = unless (is_numeral word && nat_le (magnitude_of word) (10 ^ 21)) Number

-- a number in a range
abbrev pub number_where : (ℤ → Bool) → Column
number_where in_range word = or_else (number word) (unless (in_range (nano_of word)) Range)

-- billionths of a whole number
abbrev pub units : ℕ → ℤ
units n = pos (n * 10 ^ 9)

-- a number from one bound to another, in billionths
abbrev pub number_within : ℤ → ℤ → Column
number_within low high = number_where (λ nano. le_z low nano && le_z nano high)

-- a number of at least 0
abbrev pub not_negative : Column
not_negative = number_where (λ nano. le_z (pos 0) nano)

-- a number from 0 to a whole number
abbrev pub up_to : ℕ → Column
up_to most = number_within (pos 0) (units most)

-- a number above 0, up to a whole number
abbrev pub above_0_to : ℕ → Column
above_0_to most = number_within (pos 1) (units most)

-- a number up to a whole number up or down
abbrev pub within : ℕ → Column
within most = number_within (neg_ℤ (units most)) (units most)

-- a number that has to be this one, in billionths
abbrev pub only : ℤ → ℕ → Column
only nano reason word = or_else (number word) (unless (int_eq (nano_of word) nano) (Unsupported reason))

-- one of these keywords, where some of them aren't supported
abbrev pub supported : List (List ℕ) → List (List ℕ) → ℕ → Column
supported keywords unsupported reason word =
    or_else (one_of keywords word) (unless (not (is_one_of unsupported word)) (Unsupported reason))

-- OPEN, CLOSED or a number
abbrev pub status_words : List (List ℕ)
status_words = codes "OPEN" ∷ codes "CLOSED" ∷ []

abbrev pub asked : Column
asked word = if is_one_of status_words word then None else number word

-- ---- the words of a row, counted from 0

-- a word that is needed; behind a word that is missing there is none
abbrev pub of_needed : Column → Option (List ℕ) → Option Cause
of_needed column None = Some Syntax
of_needed column (Some word) = column word

abbrev pub needed : Column → ℕ → List (List ℕ) → Option Cause
needed column k words = of_needed column (slice_get words k)

-- a word that may be missing
abbrev pub of_word : Column → Option (List ℕ) → Option Cause
of_word column None = None
of_word column (Some word) = column word

abbrev pub optional : Column → ℕ → List (List ℕ) → Option Cause
optional column k words = of_word column (slice_get words k)

-- a row has no word of this number
abbrev pub ends : ℕ → List (List ℕ) → Option Cause
ends k words = unless (nat_le (length words) k) Syntax

-- ---- the values of words

-- a word, empty where it isn't there
abbrev pub or_empty : Option (List ℕ) → List ℕ
or_empty None = []
or_empty (Some word) = word

abbrev pub word : ℕ → List (List ℕ) → List ℕ
word k words = or_empty (slice_get words k)

-- the number that a word writes, in billionths
abbrev pub amount : ℕ → List (List ℕ) → ℤ
amount k words = nano_of (word k words)

-- the number of a word that may not be there
abbrev pub nano_or : ℤ → Option (List ℕ) → ℤ
nano_or default None = default
nano_or default (Some word) = nano_of word

abbrev pub amount_or : ℤ → ℕ → List (List ℕ) → ℤ
amount_or default k words = nano_or default (slice_get words k)

-- a word is there and is this keyword
abbrev pub is_option_keyword : List ℕ → Option (List ℕ) → Bool
is_option_keyword keyword None = false
is_option_keyword keyword (Some word) = is_keyword keyword word

abbrev pub word_is : ℕ → List ℕ → List (List ℕ) → Bool
word_is k keyword words = is_option_keyword keyword (slice_get words k)

-- a word is there and is one of these keywords
abbrev pub is_option_of : List (List ℕ) → Option (List ℕ) → Bool
is_option_of keywords None = false
is_option_of keywords (Some word) = is_one_of keywords word

abbrev pub word_is_of : ℕ → List (List ℕ) → List (List ℕ) → Bool
word_is_of k keywords words = is_option_of keywords (slice_get words k)
