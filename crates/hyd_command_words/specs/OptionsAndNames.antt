-- What the words behind a command's name say, read from left to right: values of options, names, and what no command
-- takes.
use Rattle.std.specs.Prelude.{ℕ, nat_eq, Bool, true, false, not, ◌||◌, List, [], ◌∷◌, map, drop, Option, Some, None}
use Rattle.std.specs.Prelude.{bytes_eq, codes, if◌then◌else◌, filter, length}
use Rattle.std.specs.List.{starts_with, filter_map, list_any}

-- one word, as bytes
abbrev pub Word : Type 0
Word = List ℕ

-- what one word says, or an option and the word that is its value
pub data Part : Type 0 where
  -- `--sweeps` with a value
  sweeps : Word → Part
  -- `--width` with a value
  width : Word → Part
  -- `--slack` with a value
  slack : Word → Part
  -- `--flows` with a value
  flows : Word → Part
  -- `--spread` with a value
  spread : Word → Part
  -- `--tight`
  tight : Part
  -- a word by its position
  name : Word → Part
  -- what no command takes
  wrong : Part

-- what a word is by itself
pub data Kind : Type 0 where
  says : Part → Kind
  -- the option whose value is the next word, by what it says with that value
  wants : (Word → Part) → Kind
  -- `--`, behind which every word stands by its position
  ends : Kind

-- the word begins with `-`
abbrev pub begins_with_dash : Word → Bool
begins_with_dash word = starts_with nat_eq word (codes "-")

-- the word stands by its position: it doesn't begin with `-`, or is `-` alone
abbrev pub is_name : Word → Bool
is_name word = not (begins_with_dash word) || bytes_eq word (codes "-")

-- an option with its value behind `=`
abbrev pub option_with_value : Word → Kind
option_with_value word =
    if starts_with nat_eq word (codes "--sweeps=") then says (sweeps (drop 9 word))
    else (if starts_with nat_eq word (codes "--width=") then says (width (drop 8 word))
    else (if starts_with nat_eq word (codes "--slack=") then says (slack (drop 8 word))
    else (if starts_with nat_eq word (codes "--flows=") then says (flows (drop 8 word))
    else (if starts_with nat_eq word (codes "--spread=") then says (spread (drop 9 word))
    else says wrong))))

-- an option alone, before its value where it has one, or with its value
abbrev pub option_kind : Word → Kind
option_kind word =
    if bytes_eq word (codes "--tight") then says tight
    else (if bytes_eq word (codes "--sweeps") then wants sweeps
    else (if bytes_eq word (codes "--width") then wants width
    else (if bytes_eq word (codes "--slack") then wants slack
    else (if bytes_eq word (codes "--flows") then wants flows
    else (if bytes_eq word (codes "--spread") then wants spread
    else option_with_value word)))))

unfoldable pub kind_of : Word → Kind
kind_of word =
    if bytes_eq word (codes "--") then ends
    else (if is_name word then says (name word) else option_kind word)

-- an option with the next word as its value, which doesn't begin with `-`
abbrev pub with_value : (Word → Part) → Word → Part
with_value make value = if begins_with_dash value then wrong else make value

-- A word of this kind, and what the words behind it say, where an option waits for its value or none does.
abbrev pub parts_from : Kind → List Word → (Option (Word → Part) → List Part) → List Part
parts_from (says part) behind next = part ∷ next None
parts_from (wants make) behind next = next (Some make)
parts_from ends behind next = map name behind

-- what the words say, where an option waits for its value or none does
abbrev pub parts_waiting : List Word → Option (Word → Part) → List Part
parts_waiting [] None = []
parts_waiting [] (Some make) = wrong ∷ []
parts_waiting (word ∷ behind) None = parts_from (kind_of word) behind (parts_waiting behind)
parts_waiting (word ∷ behind) (Some make) = with_value make word ∷ parts_waiting behind None

-- what the words say, one after the other
abbrev pub parts : List Word → List Part
parts words = parts_waiting words None

-- ---- all that is said, by what it is about

abbrev pub sweeps_value : Part → Option Word
sweeps_value (sweeps value) = Some value
sweeps_value _ = None

abbrev pub width_value : Part → Option Word
width_value (width value) = Some value
width_value _ = None

abbrev pub slack_value : Part → Option Word
slack_value (slack value) = Some value
slack_value _ = None

abbrev pub flows_value : Part → Option Word
flows_value (flows value) = Some value
flows_value _ = None

abbrev pub spread_value : Part → Option Word
spread_value (spread value) = Some value
spread_value _ = None

abbrev pub named : Part → Option Word
named (name word) = Some word
named _ = None

abbrev pub is_tight : Part → Bool
is_tight tight = true
is_tight _ = false

abbrev pub is_wrong : Part → Bool
is_wrong wrong = true
is_wrong _ = false

-- the values of each option, how often `--tight` stands, the words by their positions, and whether anything is wrong
pub record Said : Type 0 where
  pub sweeps_values : List Word
  pub width_values : List Word
  pub slack_values : List Word
  pub flows_values : List Word
  pub spread_values : List Word
  pub tight_count : ℕ
  pub names : List Word
  pub has_wrong : Bool

-- what these parts say
abbrev pub said_by : List Part → Said
said_by said = record {
  sweeps_values = filter_map sweeps_value said;
  width_values = filter_map width_value said;
  slack_values = filter_map slack_value said;
  flows_values = filter_map flows_value said;
  spread_values = filter_map spread_value said;
  tight_count = length (filter is_tight said);
  names = filter_map named said;
  has_wrong = list_any is_wrong said;
}

-- what these words say
abbrev pub said : List Word → Said
said words = said_by (parts words)
