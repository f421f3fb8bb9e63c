-- The commands, and which words are one: the name of a command, then its options and names.
use Rattle.std.specs.Prelude.{ℕ, ◌-◌, ◌^◌, nat_le, ◌==◌, Bool, not, ◌&&◌, ◌||◌, List, [], ◌∷◌, length, Option, Some, None}
use Rattle.std.specs.Prelude.{unsigned_abs}
use Rattle.std.specs.Prelude.{option_map, option_and_then, bytes_eq, codes, if◌then◌else◌, ℤ, pos, ◌*ℤ◌, int_lt, int_le}
use Rattle.std.specs.List.{list_all}
use Rattle.hyd_num.specs.Numeral.{is_digit, is_numeral, nano_of, number}
use Rattle.hyd_command_words.specs.NamesOfLinks.{names_of_ids}
use Rattle.hyd_command_words.specs.OptionsAndNames.{Word, Said, said, begins_with_dash}

-- the two files of a command: NET, the network, and CERT, its certificate
pub record TwoFiles : Type 0 where
  pub net : Word
  pub cert : Word

-- `run`: its files, the greatest number of rounds, the width in head ticks of 10^-13 m, whether vectors are tight, by how
-- many seconds ends of periods may be open, and the names of the links whose flows are asked for
pub record RunOrder : Type 0 where
  pub files : TwoFiles
  pub rounds : ℕ
  pub width : ℤ
  pub tight : Bool
  pub slack : ℕ
  pub flows : List Word

-- `run` for a spread: what is asked of the run, which names no links, and FILE, that of the spread
pub record SpreadRunOrder : Type 0 where
  pub run : RunOrder
  pub spread : Word

-- `check` for a spread: its files, and FILE, that of the spread
pub record SpreadCheckOrder : Type 0 where
  pub files : TwoFiles
  pub spread : Word

-- `gen`: its seed, the number of junctions, and its files
pub record GenOrder : Type 0 where
  pub seed : ℕ
  pub junctions : ℕ
  pub files : TwoFiles

-- `fire`: its file, the junction's name, the target pressure in billionths of the file's pressure unit, and the greatest
-- number of rounds
pub record FireOrder : Type 0 where
  pub net : Word
  pub junction : Word
  pub pressure : ℤ
  pub rounds : ℕ

-- `closures`: its file, the target pressure in billionths of the file's pressure unit, and the greatest number of rounds
pub record ClosuresOrder : Type 0 where
  pub net : Word
  pub pressure : ℤ
  pub rounds : ℕ

-- `fire` for a spread: what is asked of it, and FILE, that of the spread
pub record SpreadFireOrder : Type 0 where
  pub fire : FireOrder
  pub spread : Word

-- `closures` for a spread: what is asked of it, and FILE, that of the spread
pub record SpreadClosuresOrder : Type 0 where
  pub closures : ClosuresOrder
  pub spread : Word

-- `witness`: its files, and OUT, that of the witness
pub record WitnessOrder : Type 0 where
  pub files : TwoFiles
  pub out : Word

-- `meet`: its file, and that of the witness
pub record MeetOrder : Type 0 where
  pub net : Word
  pub witness : Word

-- a command with its options and names
pub data Order : Type 0 where
  run : RunOrder → Order
  run_over : SpreadRunOrder → Order
  check : TwoFiles → Order
  check_over : SpreadCheckOrder → Order
  gen : GenOrder → Order
  fire : FireOrder → Order
  fire_over : SpreadFireOrder → Order
  closures : ClosuresOrder → Order
  closures_over : SpreadClosuresOrder → Order
  witness : WitnessOrder → Order
  meet : MeetOrder → Order

-- ---- numbers

-- one digit at least, at most this many, and nothing else
abbrev pub is_short_number : ℕ → Word → Bool
is_short_number most word = (list_all is_digit word && nat_le 1 (length word)) && nat_le (length word) most

-- a number of at most this many digits, from the least to the greatest
abbrev pub number_within : (most least greatest : ℕ) → Word → Option ℕ
number_within most least greatest word =
    if is_short_number most word && (nat_le least (number word) && nat_le (number word) greatest)
    then Some (number word) else None

-- the value of an option that stands once at most, by default this
abbrev pub once : {X : Type 0} → X → (Word → Option X) → List Word → Option X
once default read [] = Some default
once default read (value ∷ []) = read value
once default read values = None

-- N where a command does not give it: the greatest number of rounds of a vector
abbrev pub default_rounds : ℕ
default_rounds = 200

-- N: at most 100,000
abbrev pub rounds_of : List Word → Option ℕ
rounds_of values = once default_rounds (number_within 6 0 100000) values

-- A number of metres above 0 and at most 1,000, in head ticks; what stands behind its ninth decimal is cut off first.
abbrev pub width_in_ticks : Word → Option ℤ
width_in_ticks word =
    if is_numeral word && (int_lt (pos 0) (nano_of word) && int_le (nano_of word) (pos (10 ^ 12)))
    then Some (nano_of word *ℤ pos (10 ^ 4)) else None

-- W where a command does not give it, in head ticks of 10^-13 m: 0.01 m
abbrev pub default_width : ℤ
default_width = pos (10 ^ 11)

-- W
abbrev pub width_of : List Word → Option ℤ
width_of values = once default_width width_in_ticks values

-- N of `--slack` where a command does not give it: no end is open.
abbrev pub default_slack : ℕ
default_slack = 0

-- the seconds of `--slack`: at most a day
abbrev pub slack_of : List Word → Option ℕ
slack_of values = once default_slack (number_within 5 0 86400) values

-- IDS, by default none: no name
abbrev pub flows_of : List Word → Option (List Word)
flows_of values = once [] names_of_ids values

-- SEED: below 2^31
abbrev pub seed_of : Word → Option ℕ
seed_of word = number_within 10 0 (2 ^ 31 - 1) word

-- JUNCTIONS
abbrev pub junctions_of : Word → Option ℕ
junctions_of word = number_within 5 1 10000 word

-- P: a number of at most 10^4 in magnitude, in billionths; what stands behind its ninth decimal is cut off first.
abbrev pub pressure_of : Word → Option ℤ
pressure_of word =
    if is_numeral word && nat_le (unsigned_abs (nano_of word)) (10 ^ 13) then Some (nano_of word) else None

-- ---- names

-- FILE: a name that doesn't begin with `-`
abbrev pub file_name : Word → Option Word
file_name word = if begins_with_dash word then None else Some word

-- FILE of `--spread`, where it is given
abbrev pub spread_of : List Word → Option (Option Word)
spread_of values = once None (λ word. option_map Some (file_name word)) values

-- NET and CERT, which differ
abbrev pub differing : Word → Word → Option TwoFiles
differing net cert = if bytes_eq net cert then None else Some (record { net = net; cert = cert })

-- two names and no more
abbrev pub two_files : List Word → Option TwoFiles
two_files (net ∷ cert ∷ []) = differing net cert
two_files names = None

-- a file is neither of the two
abbrev pub is_apart : Word → TwoFiles → Bool
is_apart file files = not (bytes_eq files.net file || bytes_eq files.cert file)

-- SEED, JUNCTIONS, NET and CERT
abbrev pub gen_of : (seed junctions net cert : Word) → Option GenOrder
gen_of seed junctions net cert =
    option_and_then (λ s. option_and_then (λ j. option_map (λ f. record { seed = s; junctions = j; files = f })
    (differing net cert)) (junctions_of junctions)) (seed_of seed)

-- four of them and no more
abbrev pub gen_order : List Word → Option GenOrder
gen_order (seed ∷ junctions ∷ net ∷ cert ∷ []) = gen_of seed junctions net cert
gen_order names = None

-- NET, J and P and no more; J may be any word.
abbrev pub fire_order : ℕ → List Word → Option FireOrder
fire_order rounds (net ∷ junction ∷ pressure ∷ []) =
    option_map (λ p. record { net = net; junction = junction; pressure = p; rounds = rounds }) (pressure_of pressure)
fire_order rounds names = None

-- NET and P and no more
abbrev pub closures_order : ℕ → List Word → Option ClosuresOrder
closures_order rounds (net ∷ pressure ∷ []) =
    option_map (λ p. record { net = net; pressure = p; rounds = rounds }) (pressure_of pressure)
closures_order rounds names = None

-- NET, CERT and OUT, no two of which are the same
abbrev pub witness_of : (net cert out : Word) → Option WitnessOrder
witness_of net cert out =
    if bytes_eq net out || bytes_eq cert out then None
    else option_map (λ f. record { files = f; out = out }) (differing net cert)

-- three of them and no more
abbrev pub witness_order : List Word → Option WitnessOrder
witness_order (net ∷ cert ∷ out ∷ []) = witness_of net cert out
witness_order names = None

-- NET and FILE, which differ
abbrev pub meet_of : Word → Word → Option MeetOrder
meet_of net file = if bytes_eq net file then None else Some (record { net = net; witness = file })

-- two of them and no more
abbrev pub meet_order : List Word → Option MeetOrder
meet_order (net ∷ file ∷ []) = meet_of net file
meet_order names = None

-- ---- commands

-- nothing is wrong, and `--tight` stands once at most
abbrev pub is_sound : Said → Bool
is_sound s = not s.has_wrong && nat_le s.tight_count 1

-- nothing is wrong, and no option but `--spread` stands
abbrev pub has_spread_at_most : Said → Bool
has_spread_at_most s =
    not s.has_wrong && (s.tight_count == 0 && (length s.sweeps_values == 0
    && (length s.width_values == 0 && (length s.slack_values == 0 && length s.flows_values == 0))))

-- nothing is wrong, and no option stands
abbrev pub has_names_alone : Said → Bool
has_names_alone s = has_spread_at_most s && (length s.spread_values == 0)

-- nothing is wrong, and no option but `--sweeps` and `--spread` stands
abbrev pub has_rounds_and_spread_at_most : Said → Bool
has_rounds_and_spread_at_most s =
    not s.has_wrong && (s.tight_count == 0
    && (length s.width_values == 0 && (length s.slack_values == 0 && length s.flows_values == 0)))

-- flows of links are asked for only where no end may be open
abbrev pub go_together : ℕ → List Word → Bool
go_together slack links = (slack == 0) || (length links == 0)

-- what is asked of a run: NET and CERT, with `--sweeps N`, `--width W`, `--tight`, `--slack N` and `--flows IDS` once
-- each at most
abbrev pub run_order : Said → Option RunOrder
run_order s =
    if is_sound s
    then option_and_then (λ n. option_and_then (λ w. option_and_then (λ late. option_and_then (λ links.
    if go_together late links then option_map (λ f. record {
      files = f;
      rounds = n;
      width = w;
      tight = s.tight_count == 1;
      slack = late;
      flows = links;
    }) (two_files s.names) else None) (flows_of s.flows_values)) (slack_of s.slack_values)) (width_of s.width_values))
    (rounds_of s.sweeps_values)
    else None

-- a run, and where FILE is given, one for its spread: FILE is neither of the two files, and no flows of links are asked
-- for
abbrev pub run_with : Option Word → RunOrder → Option Order
run_with None order = Some (run order)
run_with (Some file) order =
    if is_apart file order.files && (length order.flows == 0)
    then Some (run_over (record { run = order; spread = file })) else None

-- `run NET CERT`, with `--spread FILE` once at most, and what else is asked of the run
abbrev pub run_command : Said → Option Order
run_command s =
    option_and_then (λ order. option_and_then (λ file. run_with file order) (spread_of s.spread_values)) (run_order s)

-- a check, and where FILE is given, one for its spread: FILE is neither of the two files
abbrev pub check_with : Option Word → TwoFiles → Option Order
check_with None files = Some (check files)
check_with (Some file) files =
    if is_apart file files then Some (check_over (record { files = files; spread = file })) else None

-- `check NET CERT`, with `--spread FILE` once at most
abbrev pub check_command : Said → Option Order
check_command s =
    if has_spread_at_most s
    then option_and_then (λ files. option_and_then (λ file. check_with file files) (spread_of s.spread_values))
    (two_files s.names)
    else None

-- `gen SEED JUNCTIONS NET CERT`
abbrev pub gen_command : Said → Option Order
gen_command s = if has_names_alone s then option_map gen (gen_order s.names) else None

-- what is asked of `fire`: NET, J and P, with `--sweeps N` once at most
abbrev pub fire_asked : Said → Option FireOrder
fire_asked s =
    if has_rounds_and_spread_at_most s
    then option_and_then (λ n. fire_order n s.names) (rounds_of s.sweeps_values) else None

-- `fire`, and where FILE is given, `fire` for its spread: FILE isn't NET
abbrev pub fire_with : Option Word → FireOrder → Option Order
fire_with None order = Some (fire order)
fire_with (Some file) order =
    if bytes_eq order.net file then None else Some (fire_over (record { fire = order; spread = file }))

-- `fire NET J P`, with `--spread FILE` once at most, and `--sweeps N`
abbrev pub fire_command : Said → Option Order
fire_command s =
    option_and_then (λ order. option_and_then (λ file. fire_with file order) (spread_of s.spread_values)) (fire_asked s)

-- what is asked of `closures`: NET and P, with `--sweeps N` once at most
abbrev pub closures_asked : Said → Option ClosuresOrder
closures_asked s =
    if has_rounds_and_spread_at_most s
    then option_and_then (λ n. closures_order n s.names) (rounds_of s.sweeps_values) else None

-- `closures`, and where FILE is given, `closures` for its spread: FILE isn't NET
abbrev pub closures_with : Option Word → ClosuresOrder → Option Order
closures_with None order = Some (closures order)
closures_with (Some file) order =
    if bytes_eq order.net file then None else Some (closures_over (record { closures = order; spread = file }))

-- `closures NET P`, with `--spread FILE` once at most, and `--sweeps N`
abbrev pub closures_command : Said → Option Order
closures_command s =
    option_and_then (λ order. option_and_then (λ file. closures_with file order) (spread_of s.spread_values))
    (closures_asked s)

-- `witness NET CERT OUT`
abbrev pub witness_command : Said → Option Order
witness_command s = if has_names_alone s then option_map witness (witness_order s.names) else None

-- `meet NET FILE`
abbrev pub meet_command : Said → Option Order
meet_command s = if has_names_alone s then option_map meet (meet_order s.names) else None

-- the command of this name, if what is said behind it fits
abbrev pub order_named : Word → Said → Option Order
order_named word s =
    if bytes_eq word (codes "run") then run_command s
    else (if bytes_eq word (codes "check") then check_command s
    else (if bytes_eq word (codes "gen") then gen_command s
    else (if bytes_eq word (codes "fire") then fire_command s
    else (if bytes_eq word (codes "closures") then closures_command s
    else (if bytes_eq word (codes "witness") then witness_command s
    else (if bytes_eq word (codes "meet") then meet_command s
    else None))))))

-- the command of the words, if they are one
abbrev pub order_of : List Word → Option Order
order_of [] = None
order_of (word ∷ behind) = order_named word (said behind)
