-- Which files a desk on real files empties: those that begin as what this program writes and, where a network is to be
-- written, those that begin as a network.
-- Source: this program's; the sections are those of the EPANET 2.2 User Manual, appendix C.
use Rattle.std.specs.Prelude.{ℕ, nat_eq, nat_le, Bool, false, not, ◌==◌, ◌||◌, ◌&&◌, List, [], ◌∷◌, codes, map, length}
use Rattle.std.specs.Prelude.{take, drop, position, Option, Some, None}
use Rattle.std.specs.List.{starts_with, list_any, list_all, slice_split}
use Rattle.std.specs.Char.{to_ascii_uppercase, is_ascii_digit}
use Rattle.hyd_io.specs.declared.files_to_write.Content.{Content}
use Rattle.hyd_io.specs.declared.files_to_write.Content.TheVariants.{Network, Certificate}

-- parts two numbers of a header
abbrev pub is_space : ℕ → Bool
is_space byte = byte == 32

-- ends a line
abbrev pub is_line_feed : ℕ → Bool
is_line_feed byte = byte == 10

-- no zero stands in front of other digits
abbrev pub has_no_zero_in_front : List ℕ → Bool
has_no_zero_in_front word = nat_eq (length word) 1 || not (starts_with nat_eq word (codes "0"))

-- a number as a header has it: digits, at least one
abbrev pub is_number : List ℕ → Bool
is_number word = nat_le 1 (length word) && (list_all is_ascii_digit word && has_no_zero_in_front word)

-- so many numbers, parted by single spaces
abbrev pub are_numbers : ℕ → List ℕ → Bool
are_numbers count text = nat_eq (length (slice_split is_space text)) count
    && list_all is_number (slice_split is_space text)

-- these bytes, and so many numbers behind them
abbrev pub is_header : List ℕ → ℕ → List ℕ → Bool
is_header name count line = starts_with nat_eq line name && are_numbers count (drop (length name) line)

-- The header of a certificate, with its version and the counts of junctions and of tanks, or that of a witness, with
-- its version, its scale and the counts of junctions, links and tanks.
abbrev pub is_header_of_ours : List ℕ → Bool
is_header_of_ours line = is_header (codes "HYDCERT ") 3 line || is_header (codes "HYDWIT ") 5 line

-- what stands before a place is a header, where there is such a place
abbrev pub is_header_before : Option ℕ → List ℕ → Bool
is_header_before None front = false
is_header_before (Some place) front = is_header_of_ours (take place front)

-- the front of a certificate or of a witness: its first line is whole, and their header
abbrev pub begins_as_certificate : List ℕ → Bool
begins_as_certificate front = is_header_before (position is_line_feed front) front

-- the headings of the sections of an input file
abbrev pub headings : List (List ℕ)
headings =
    codes "[TITLE]" ∷ codes "[JUNCTIONS]" ∷ codes "[RESERVOIRS]" ∷ codes "[TANKS]" ∷ codes "[PIPES]" ∷ codes "[PUMPS]"
    ∷ codes "[VALVES]" ∷ codes "[TAGS]" ∷ codes "[DEMANDS]" ∷ codes "[STATUS]" ∷ codes "[PATTERNS]" ∷ codes "[CURVES]"
    ∷ codes "[CONTROLS]" ∷ codes "[RULES]" ∷ codes "[ENERGY]" ∷ codes "[EMITTERS]" ∷ codes "[QUALITY]"
    ∷ codes "[SOURCES]" ∷ codes "[REACTIONS]" ∷ codes "[MIXING]" ∷ codes "[TIMES]" ∷ codes "[REPORT]"
    ∷ codes "[OPTIONS]" ∷ codes "[COORDINATES]" ∷ codes "[VERTICES]" ∷ codes "[LABELS]" ∷ codes "[BACKDROP]" ∷ []

-- the front of a network: a heading in any letter case
abbrev pub begins_as_network : List ℕ → Bool
begins_as_network front = list_any (starts_with nat_eq (map to_ascii_uppercase front)) headings

-- A file that begins so is emptied where such a content is to be written: a certificate or a witness always, a network
-- for a network.
abbrev pub may_be_emptied : Content → List ℕ → Bool
may_be_emptied Certificate front = begins_as_certificate front
may_be_emptied Network front = begins_as_certificate front || begins_as_network front
