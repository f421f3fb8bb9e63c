-- The rows of what belongs to nodes and links, each judged by itself.
-- Source: EPANET 2.2 User Manual, appendix C ([DEMANDS] to [STATUS]); the bounds are this program's.
use Rattle.std.specs.Prelude.{ℕ, ◌^◌, List, [], ◌∷◌, map, drop, Option, None, ℤ}
use Rattle.hyd_num.specs.Numeral.{nano_of}
use Rattle.hyd_spec_input.specs.Columns.{Column, any, id, number, up_to, within, asked, or_else, first, needed}
use Rattle.hyd_spec_input.specs.Columns.{optional, ends}
use Rattle.hyd_net.specs.declared.refusal_cause.Cause.{Cause}

-- junction, demand, pattern, category
abbrev pub demand : List (List ℕ) → Option Cause
demand words =
    first (needed id 0 words ∷ needed number 1 words ∷ optional id 2 words ∷ optional any 3 words ∷ ends 4 words ∷ [])

-- junction, coefficient
abbrev pub emitter : List (List ℕ) → Option Cause
emitter words = first (needed id 0 words ∷ needed (up_to (10 ^ 6)) 1 words ∷ ends 2 words ∷ [])

-- ID, x, y
abbrev pub curve : List (List ℕ) → Option Cause
curve words = first (needed id 0 words ∷ needed number 1 words ∷ needed number 2 words ∷ ends 3 words ∷ [])

-- the first fault of words that are all of one column
abbrev pub each : Column → List (List ℕ) → Option Cause
each column [] = None
each column (word ∷ words) = or_else (column word) (each column words)

-- ID, and one or more multipliers
abbrev pub pattern : List (List ℕ) → Option Cause
pattern words = first (needed id 0 words ∷ needed any 1 words ∷ each (within (10 ^ 6)) (drop 1 words) ∷ [])

-- its multipliers, in billionths
abbrev pub multipliers : List (List ℕ) → List ℤ
multipliers words = map nano_of (drop 1 words)

-- link, and OPEN, CLOSED or a number
abbrev pub status : List (List ℕ) → Option Cause
status words = first (needed id 0 words ∷ needed asked 1 words ∷ ends 2 words ∷ [])
