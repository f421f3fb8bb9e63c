-- The rows of nodes and links, each judged by itself, and what their words say.
-- Source: EPANET 2.2 User Manual, appendix C ([JUNCTIONS] to [VALVES]); the bounds are this program's.
use Rattle.std.specs.Prelude.{ℕ, ◌^◌, Bool, true, false, ◌==◌, ◌&&◌, ◌||◌, not, List, [], ◌∷◌, length, codes, drop, Option}
use Rattle.std.specs.Prelude.{Some, None, slice_get, if◌then◌else◌, ℤ, pos}
use Rattle.std.specs.Str.{bytes_eq}
use lib.Signed.{le_z}
use Rattle.hyd_num.specs.Numeral.{nano_of}
use Rattle.hyd_spec_lines.specs.WordsOfLines.{is_keyword}
use Rattle.hyd_spec_input.specs.Columns.{Column, id, one_of, number, number_where, number_within, not_negative, up_to}
use Rattle.hyd_spec_input.specs.Columns.{above_0_to, supported, or_else, first, unless, is_there, needed, optional}
use Rattle.hyd_spec_input.specs.Columns.{ends, word, amount_or, amount, word_is, word_is_of, units}
use Rattle.hyd_spec_input.specs.declared.EarlierKeys.{EarlierKeys}
use Rattle.hyd_net.specs.declared.refusal_cause.Cause.{Cause}
use Rattle.hyd_net.specs.declared.refusal_cause.Cause.TheVariants.{Syntax, Range, Unsupported}

-- ---- nodes

-- ID, elevation, base demand, pattern
abbrev pub junction : List (List ℕ) → Option Cause
junction words =
    first (needed id 0 words ∷ needed number 1 words ∷ optional number 2 words ∷ optional id 3 words ∷ ends 4 words
    ∷ [])

-- ID, head, pattern
abbrev pub reservoir : List (List ℕ) → Option Cause
reservoir words = first (needed id 0 words ∷ needed number 1 words ∷ optional id 2 words ∷ ends 3 words ∷ [])

-- `*` stands for no volume curve
abbrev pub is_no_curve : List ℕ → Bool
is_no_curve word = bytes_eq word (codes "*")

abbrev pub curve_or_none : Column
curve_or_none word = if is_no_curve word then None else id word

-- the volume curve that a tank's word names
abbrev pub curve_in : Option (List ℕ) → Option (List ℕ)
curve_in None = None
curve_in (Some word) = if is_no_curve word then None else Some word

abbrev pub tank_curve : List (List ℕ) → Option (List ℕ)
tank_curve words = curve_in (slice_get words 7)

-- a level of at least 0 that a test allows beside the initial level
abbrev pub level : (ℤ → Bool) → Column
level allowed = number_where (λ nano. le_z (pos 0) nano && allowed nano)

-- a tank is a tenth of a unit across at least; with a volume curve the diameter isn't used, and may be 0
abbrev pub least_diameter : Option (List ℕ) → ℤ
least_diameter None = pos (10 ^ 8)
least_diameter (Some curve) = pos 0

abbrev pub diameter : List (List ℕ) → Column
diameter words = number_within (least_diameter (tank_curve words)) (units 1000)

-- ID, bottom, initial, minimum and maximum level, diameter, minimum volume, volume curve, overflow. The three levels
-- are compared at the first word at which their order can be seen to fail.
abbrev pub tank : List (List ℕ) → Option Cause
tank words =
    first (needed id 0 words ∷ needed number 1 words ∷ needed not_negative 2 words
    ∷ needed (level (λ nano. le_z nano (amount 2 words))) 3 words
    ∷ needed (level (λ nano. le_z (amount 2 words) nano)) 4 words ∷ needed (diameter words) 5 words
    ∷ optional not_negative 6 words ∷ optional curve_or_none 7 words
    ∷ optional (one_of (codes "NO" ∷ codes "YES" ∷ [])) 8 words ∷ ends 9 words ∷ [])

-- a full tank takes in water that is spilled
abbrev pub tank_overflows : List (List ℕ) → Bool
tank_overflows words = word_is 8 (codes "YES") words

-- ---- links

-- another ID than that of the first node
abbrev pub other_end : List (List ℕ) → Column
other_end words second = or_else (id second) (unless (not (bytes_eq second (word 1 words))) Range)

-- ID and two nodes
abbrev pub link_ends : List (List ℕ) → Option Cause
link_ends words = first (needed id 0 words ∷ needed id 1 words ∷ needed (other_end words) 2 words ∷ [])

abbrev pub pipe_statuses : List (List ℕ)
pipe_statuses = codes "OPEN" ∷ codes "CLOSED" ∷ codes "CV" ∷ []

-- a seventh word alone is a status where it is one of these words
abbrev pub has_status_alone : List (List ℕ) → Bool
has_status_alone words = (length words == 7) && word_is_of 6 pipe_statuses words

abbrev pub minor_or_status : List (List ℕ) → Column
minor_or_status words word = if has_status_alone words then None else up_to (10 ^ 6) word

-- a pipe's roughness: Manning's has a range; the range of a Hazen-Williams coefficient is judged with the other rows
abbrev pub roughness : Bool → Column
roughness true = number
roughness false = above_0_to 10

-- ID, two nodes, length, diameter, roughness, minor loss coefficient, status, where losses are by Hazen-Williams or not
abbrev pub pipe_by : Bool → List (List ℕ) → Option Cause
pipe_by by_power words =
    first (link_ends words ∷ needed (above_0_to (10 ^ 6)) 3 words ∷ needed (above_0_to (10 ^ 4)) 4 words
    ∷ needed (roughness by_power) 5 words ∷ optional (minor_or_status words) 6 words
    ∷ optional (one_of pipe_statuses) 7 words
    ∷ ends 8 words ∷ [])

-- a pipe whose roughness is any number
abbrev pub pipe : List (List ℕ) → Option Cause
pipe words = pipe_by true words

-- the place of the word that is a pipe's status
abbrev pub status_place : List (List ℕ) → ℕ
status_place words = if has_status_alone words then 6 else 7

abbrev pub has_check_valve : List (List ℕ) → Bool
has_check_valve words = word_is (status_place words) (codes "CV") words

abbrev pub is_closed_pipe : List (List ℕ) → Bool
is_closed_pipe words = word_is (status_place words) (codes "CLOSED") words

-- a pipe's minor loss coefficient, in billionths
abbrev pub pipe_minor : List (List ℕ) → ℤ
pipe_minor words = if has_status_alone words then pos 0 else amount_or (pos 0) 6 words

-- ---- pumps

abbrev pub pump_keywords : List (List ℕ)
pump_keywords = codes "HEAD" ∷ codes "SPEED" ∷ codes "PATTERN" ∷ codes "POWER" ∷ []

-- before the first pair
abbrev pub none_earlier : EarlierKeys
none_earlier = record { head = false; speed = false; pattern = false }

-- an earlier pair has the keyword
abbrev pub is_repeated : EarlierKeys → List ℕ → Bool
is_repeated earlier key =
    if is_keyword (codes "HEAD") key then earlier.head
    else (if is_keyword (codes "SPEED") key then earlier.speed
    else (if is_keyword (codes "PATTERN") key then earlier.pattern else false))

-- with one keyword more
abbrev pub and_key : EarlierKeys → List ℕ → EarlierKeys
and_key earlier key = record {
  head = earlier.head || is_keyword (codes "HEAD") key;
  speed = earlier.speed || is_keyword (codes "SPEED") key;
  pattern = earlier.pattern || is_keyword (codes "PATTERN") key;
}

-- a keyword that no earlier pair has; constant power isn't supported
abbrev pub pump_key : EarlierKeys → Column
pump_key earlier key =
    first (one_of pump_keywords key ∷ unless (not (is_repeated earlier key)) Syntax
    ∷ unless (not (is_keyword (codes "POWER") key)) (Unsupported 3) ∷ [])

abbrev pub pump_value : List ℕ → Column
pump_value key word = if is_keyword (codes "SPEED") key then up_to 10 word else id word

-- pairs of a keyword and a value, after earlier ones
abbrev pub pump_pairs : EarlierKeys → List (List ℕ) → Option Cause
pump_pairs earlier [] = None
pump_pairs earlier (key ∷ []) = or_else (pump_key earlier key) (Some Syntax)
pump_pairs earlier (key ∷ value ∷ words) =
    first (pump_key earlier key ∷ pump_value key value ∷ pump_pairs (and_key earlier key) words ∷ [])

-- the value of a keyword among pairs
abbrev pub pair_value : List ℕ → List (List ℕ) → Option (List ℕ)
pair_value keyword [] = None
pair_value keyword (key ∷ []) = None
pair_value keyword (key ∷ value ∷ words) = if is_keyword keyword key then Some value else pair_value keyword words

-- a pump's curve and pattern, and the word of its speed
abbrev pub pump_curve : List (List ℕ) → Option (List ℕ)
pump_curve words = pair_value (codes "HEAD") (drop 3 words)

abbrev pub pump_pattern : List (List ℕ) → Option (List ℕ)
pump_pattern words = pair_value (codes "PATTERN") (drop 3 words)

abbrev pub pump_speed_word : List (List ℕ) → Option (List ℕ)
pump_speed_word words = pair_value (codes "SPEED") (drop 3 words)

-- ID, two nodes, and pairs, of which HEAD is needed
abbrev pub pump : List (List ℕ) → Option Cause
pump words =
    first (link_ends words ∷ pump_pairs none_earlier (drop 3 words) ∷ unless (is_there (pump_curve words)) Syntax ∷ [])

-- a pump's speed in billionths, 1 where none is given
abbrev pub speed_of : Option (List ℕ) → ℤ
speed_of None = units 1
speed_of (Some word) = nano_of word

abbrev pub pump_speed : List (List ℕ) → ℤ
pump_speed words = speed_of (pump_speed_word words)

-- ---- valves

abbrev pub valve_types : List (List ℕ)
valve_types = codes "TCV" ∷ codes "FCV" ∷ codes "GPV" ∷ codes "PRV" ∷ codes "PSV" ∷ codes "PBV" ∷ []

abbrev pub unsupported_types : List (List ℕ)
unsupported_types = codes "PRV" ∷ codes "PSV" ∷ codes "PBV" ∷ []

abbrev pub is_throttle : List (List ℕ) → Bool
is_throttle words = word_is 4 (codes "TCV") words

abbrev pub is_general : List (List ℕ) → Bool
is_general words = word_is 4 (codes "GPV") words

-- a loss coefficient, a curve's ID, or a flow
abbrev pub valve_setting : List (List ℕ) → Column
valve_setting words word =
    if is_throttle words then up_to (10 ^ 6) word else (if is_general words then id word else not_negative word)

-- ID, two nodes, diameter, type, setting, minor loss coefficient
abbrev pub valve : List (List ℕ) → Option Cause
valve words =
    first (link_ends words ∷ needed (above_0_to (10 ^ 4)) 3 words
    ∷ needed (supported valve_types unsupported_types 2) 4 words
    ∷ needed (valve_setting words) 5 words ∷ optional (up_to (10 ^ 6)) 6 words ∷ ends 7 words ∷ [])

-- the curve of a general purpose valve
abbrev pub valve_curve : List (List ℕ) → Option (List ℕ)
valve_curve words = if is_general words then slice_get words 5 else None

-- a valve's minor loss coefficient, in billionths
abbrev pub valve_minor : List (List ℕ) → ℤ
valve_minor words = amount_or (pos 0) 6 words
