-- The rows of a spread, each judged against the network: `DEMAND * 10%`, `DEMAND J7 0.8 1.3`, `EMITTER J7 0.9 1.1`,
-- `HEAD Lake -0.5 0.5`, `LEVEL Hill 1.5 4.5`. The second word names a junction, a junction with an emitter, a reservoir
-- or a tank, or is `*` for all of them; an ID that is `*` can't be named alone.
-- Source: this program's.
use Rattle.std.specs.Prelude.{ℕ, ◌+◌, ◌-◌, ◌/◌, ◌^◌, Bool, true, false, ◌&&◌, ◌==◌, is_some, nat_le, nat_lt}
use Rattle.std.specs.Prelude.{List, [], ◌∷◌, length, take, position, codes, Option, Some, None, slice_get, slice_index}
use Rattle.std.specs.Prelude.{if◌then◌else◌, ℤ, pos, neg_ℤ, ◌+ℤ◌, ◌-ℤ◌, unsigned_abs}
use Rattle.std.specs.List.{list_all}
use Rattle.std.specs.Str.{bytes_eq}
use lib.Signed.{le_z}
use Rattle.hyd_num.specs.FileQuantity.{head_ticks}
use Rattle.hyd_num.specs.Numeral.{nano_of}
use Rattle.hyd_spec.specs.ProgramTypes.{Project, Junction, Tank}
use Rattle.hyd_spec.specs.NodeNumbers.{junction_count, nodes_before_tanks, tank_number}
use Rattle.hyd_spec.specs.DemandsHeadsAndPumpLifts.{is_us}
use Rattle.hyd_spec_lines.specs.Headings.{first_named}
use Rattle.hyd_spec_input.specs.Columns.{Column, id, number_where, number_within, units, first, unless, needed, ends}
use Rattle.hyd_spec_input.specs.Columns.{word, amount}
use Rattle.hyd_net.specs.declared.refusal_cause.Cause.{Cause}
use Rattle.hyd_net.specs.declared.refusal_cause.Cause.TheVariants.{Syntax, UnknownName}
use Rattle.hyd_spec_spread_rows.specs.declared.Subject.{Subject}
use Rattle.hyd_spec_spread_rows.specs.declared.Subject.TheVariants.{Demand, Emitter, Head, Level}
use Rattle.hyd_spec_spread_rows.specs.declared.Ends.{Ends}

-- ---- what a row is about

-- the first word, in any letter case
abbrev pub subjects : List (List ℕ × Subject)
subjects =
    (codes "DEMAND", Demand) ∷ (codes "EMITTER", Emitter) ∷ (codes "HEAD", Head) ∷ (codes "LEVEL", Level) ∷ []

unfoldable pub subject_of : List (List ℕ) → Option Subject
subject_of words = first_named subjects (word 0 words)

-- `*` stands for all
abbrev pub is_all : List ℕ → Bool
is_all name = bytes_eq name (codes "*")

-- the node that a name has
abbrev pub node_named : Project → List ℕ → Option ℕ
node_named project name = position (bytes_eq name) project.node_ids

-- the junction has an emitter
abbrev pub emits : Option Junction → Bool
emits None = false
emits (Some junction) = is_some junction.emitter

-- a node is what a row may be about: a junction, one with an emitter, a reservoir or a tank
abbrev pub may_be : Project → Subject → ℕ → Bool
may_be project Demand node = nat_lt node (junction_count project)
may_be project Emitter node = emits (slice_get project.junctions.list node)
may_be project Head node = nat_le (junction_count project) node && nat_lt node (nodes_before_tanks project)
may_be project Level node = nat_le (nodes_before_tanks project) node

-- a name is that of such a node
abbrev pub is_of : Project → Subject → Option ℕ → Bool
is_of project subject None = false
is_of project subject (Some node) = may_be project subject node

abbrev pub is_known : Project → Subject → List ℕ → Bool
is_known project subject name = if is_all name then true else is_of project subject (node_named project name)

-- ---- its numbers

-- a word that ends by `%`, and what stands before that
abbrev pub ends_by_percent : List ℕ → Bool
ends_by_percent text = slice_index text (length text - 1) == 37

abbrev pub before_percent : List ℕ → List ℕ
before_percent text = take (length text - 1) text

-- a percentage from 0 to a greatest one, in billionths
abbrev pub percent : ℤ → Column
percent most text = number_within (pos 0) most (before_percent text)

-- The factors of demands go down to 0. Those of emitters stay above it, as no emitter has the coefficient 0.
abbrev pub least_factor : Subject → ℤ
least_factor Emitter = pos 1
least_factor subject = pos 0

-- so does the greatest percentage
abbrev pub greatest_percentage : Subject → ℤ
greatest_percentage Emitter = pos (10 ^ 11 - 100)
greatest_percentage subject = units 100

-- a percentage, or the least and the greatest factor, with 1 between them
abbrev pub factor_words : Subject → List (List ℕ) → Option Cause
factor_words subject words =
    if ends_by_percent (word 2 words)
    then first (needed (percent (greatest_percentage subject)) 2 words ∷ ends 3 words ∷ [])
    else first (needed (number_within (least_factor subject) (units 1)) 2 words
    ∷ needed (number_within (units 1) (units (10 ^ 6))) 3 words ∷ ends 4 words ∷ [])

-- how far a head may lie below and above the file's, at most 10,000 feet or metres
abbrev pub offset_words : List (List ℕ) → Option Cause
offset_words words =
    first (needed (number_within (neg_ℤ (units (10 ^ 4))) (pos 0)) 2 words
    ∷ needed (number_within (pos 0) (units (10 ^ 4))) 3 words ∷ ends 4 words ∷ [])

-- the tanks that a name means
abbrev pub some_tank : Option Tank → List Tank
some_tank None = []
some_tank (Some tank) = tank ∷ []

abbrev pub tank_at : Project → Option ℕ → Option Tank
tank_at project None = None
tank_at project (Some node) = slice_get project.tanks.list (tank_number project node)

abbrev pub tanks_meant : Project → List ℕ → List Tank
tanks_meant project name =
    if is_all name then project.tanks.list else some_tank (tank_at project (node_named project name))

-- a number of feet or metres in head ticks
abbrev pub in_head_ticks : Project → ℤ → ℤ
in_head_ticks project nano = head_ticks (is_us project) nano

-- a level from the minimum of each tank that is meant to its initial level, and from that to its maximum
abbrev pub is_low_level : Project → List Tank → ℤ → Bool
is_low_level project tanks nano =
    list_all (λ (tank : Tank). le_z tank.minimum (in_head_ticks project nano)
    && le_z (in_head_ticks project nano) tank.initial) tanks

abbrev pub is_high_level : Project → List Tank → ℤ → Bool
is_high_level project tanks nano =
    list_all (λ (tank : Tank). le_z tank.initial (in_head_ticks project nano)
    && le_z (in_head_ticks project nano) tank.maximum) tanks

abbrev pub level_words : Project → List Tank → List (List ℕ) → Option Cause
level_words project tanks words =
    first (needed (number_where (is_low_level project tanks)) 2 words
    ∷ needed (number_where (is_high_level project tanks)) 3 words ∷ ends 4 words ∷ [])

abbrev pub number_words : Project → Subject → List (List ℕ) → Option Cause
number_words project Demand words = factor_words Demand words
number_words project Emitter words = factor_words Emitter words
number_words project Head words = offset_words words
number_words project Level words = level_words project (tanks_meant project (word 1 words)) words

-- ---- what is wrong with a row

abbrev pub fault_about : Project → Option Subject → List (List ℕ) → Option Cause
fault_about project None words = Some Syntax
fault_about project (Some subject) words =
    first (needed id 1 words ∷ unless (is_known project subject (word 1 words)) UnknownName
    ∷ number_words project subject words ∷ [])

-- the first thing that is wrong, word by word from the left
abbrev pub row_fault : Project → List (List ℕ) → Option Cause
row_fault project words = fault_about project (subject_of words) words

-- ---- what a row says

-- a percentage as a part of 1, in billionths, rounded up
abbrev pub part_of_one : ℤ → ℕ
part_of_one percentage = (unsigned_abs percentage + 99) / 100

abbrev pub factor_ends : List (List ℕ) → Ends
factor_ends words =
    if ends_by_percent (word 2 words) then record {
      low = units 1 -ℤ pos (part_of_one (nano_of (before_percent (word 2 words))));
      high = units 1 +ℤ pos (part_of_one (nano_of (before_percent (word 2 words))));
    }
    else record { low = amount 2 words; high = amount 3 words }

abbrev pub length_ends : Project → List (List ℕ) → Ends
length_ends project words =
    record { low = in_head_ticks project (amount 2 words); high = in_head_ticks project (amount 3 words) }

abbrev pub ends_of : Project → Subject → List (List ℕ) → Ends
ends_of project Demand words = factor_ends words
ends_of project Emitter words = factor_ends words
ends_of project Head words = length_ends project words
ends_of project Level words = length_ends project words
