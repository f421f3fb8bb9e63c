-- The value of `--flows`: the names of links, between commas.
use Rattle.std.specs.Prelude.{ℕ, nat_le, ◌==◌, Bool, true, not, ◌&&◌, List, [], ◌∷◌, length, Option, Some, None}
use Rattle.std.specs.Prelude.{bytes_eq, if◌then◌else◌}
use Rattle.std.specs.List.{list_all, list_any, slice_split}
use Rattle.hyd_command_words.specs.OptionsAndNames.{Word}

-- the byte `,`
abbrev pub is_comma : ℕ → Bool
is_comma byte = byte == 44

-- What stands between the commas of a text, from left to right: without a comma all of it, and between two commas that
-- stand together, or outside one at an end, the empty text.
abbrev pub names_between_commas : Word → List Word
names_between_commas text = slice_split is_comma text

-- how many names there may be
abbrev pub most_names : ℕ
most_names = 16

-- a name has as many bytes as an ID of a file: 1 to 31
abbrev pub has_length_of_id : Word → Bool
has_length_of_id name = nat_le 1 (length name) && nat_le (length name) 31

-- no name stands twice
abbrev pub all_differ : List Word → Bool
all_differ [] = true
all_differ (name ∷ later) = not (list_any (bytes_eq name) later) && all_differ later

-- at most so many names, each as long as an ID may be, and none twice
abbrev pub are_names : ℕ → List Word → Bool
are_names most names = nat_le (length names) most && (list_all has_length_of_id names && all_differ names)

-- IDS: the names between its commas
abbrev pub names_of_ids : Word → Option (List Word)
names_of_ids ids =
    if are_names most_names (names_between_commas ids) then Some (names_between_commas ids) else None

-- the names that an option names, where it stands, and else none
abbrev pub names_given : Option Word → List Word
names_given None = []
names_given (Some ids) = names_between_commas ids
