-- The text of a generated network: an input file of any number of junctions, of which a seed decides the demands.
-- Junctions are numbered from 1 and stand in rows of 50, one row under the other. A pipe leads from each junction to
-- the next one of its row, and one to the junction under it. A reservoir feeds the first junction, and a tank is at
-- the last one. Source: this program's own; the lines are those of the EPANET 2.2 User Manual, appendix C.
use Rattle.std.specs.Prelude.{ℕ, ◌+◌, ◌%◌, ◌==◌, nat_le, Bool, not, ◌&&◌, List, [], ◌∷◌, ◌++◌, map, codes}
use Rattle.std.specs.Prelude.{if◌then◌else◌}
use Rattle.std.specs.Fmt.{decimal}
use Rattle.std.specs.List.{range_with_len, flat_map}
use Rattle.hyd_spec_certificates.specs.CertificateText.{line}
use Rattle.hyd_spec_generated.specs.Sequence.{drawn, digit_of}

-- One word, as bytes.
abbrev pub Word : Type 0
Word = List ℕ

-- A line, by its words.
abbrev pub Line : Type 0
Line = List Word

-- ---- the lines before the junctions

-- Flows in m3/d and Chezy-Manning's losses, a day of 24 hours, and the multipliers that demands take hour by hour.
abbrev pub first_lines : List Line
first_lines =
    (codes "[OPTIONS]" ∷ [])
    ∷ (codes "UNITS" ∷ codes "CMD" ∷ [])
    ∷ (codes "HEADLOSS" ∷ codes "C-M" ∷ [])
    ∷ (codes "[TIMES]" ∷ [])
    ∷ (codes "DURATION" ∷ codes "24" ∷ [])
    ∷ (codes "[PATTERNS]" ∷ [])
    ∷ (codes "1" ∷ codes "1" ∷ codes "0.5" ∷ codes "1" ∷ codes "1.5" ∷ [])
    ∷ (codes "[JUNCTIONS]" ∷ [])
    ∷ []

-- ---- junctions

-- The numbers of the junctions, in order.
abbrev pub numbers : ℕ → List ℕ
numbers junctions = range_with_len 1 junctions

-- `Ji`, the ID of a junction.
abbrev pub junction_id : ℕ → Word
junction_id i = codes "J" ++ decimal i

-- The demand of a junction in m3/d: the digit of the number at its place in the sequence.
abbrev pub demand : ℕ → ℕ → ℕ
demand seed i = digit_of (drawn seed i)

-- A junction at elevation 0, with this demand.
abbrev pub junction_with : ℕ → ℕ → Line
junction_with i demand = junction_id i ∷ codes "0" ∷ decimal demand ∷ []

-- The line of a junction, with its own demand.
abbrev pub junction_line : ℕ → ℕ → Line
junction_line seed i = junction_with i (demand seed i)

-- ---- the reservoir and the tank

-- A reservoir with its head at 60 m, and a tank at elevation 50 m with its level at 5 m, between 0 and 10 m, and a
-- diameter of 200 m.
abbrev pub source_lines : List Line
source_lines =
    (codes "[RESERVOIRS]" ∷ [])
    ∷ (codes "R" ∷ codes "60" ∷ [])
    ∷ (codes "[TANKS]" ∷ [])
    ∷ (codes "T" ∷ codes "50" ∷ codes "5" ∷ codes "0" ∷ codes "10" ∷ codes "200" ∷ codes "0" ∷ [])
    ∷ []

-- ---- pipes

-- The number of junctions in a row.
abbrev pub row : ℕ
row = 50

-- There is a next junction in the row: this one doesn't end it, and isn't the last.
abbrev pub has_next : ℕ → ℕ → Bool
has_next junctions i = not (i % row == 0) && nat_le (i + 1) junctions

-- There is a junction under this one, in the next row.
abbrev pub has_under : ℕ → ℕ → Bool
has_under junctions i = nat_le (i + row) junctions

-- A pipe from one node to another: 100 m long, 300 mm wide, with Manning's n of 0.01 and no minor loss.
abbrev pub pipe_line : (id from to : Word) → Line
pipe_line id from to = id ∷ from ∷ to ∷ codes "100" ∷ codes "300" ∷ codes "0.01" ∷ codes "0" ∷ []

-- `Hi`, to the next junction of the row.
abbrev pub next_pipe : ℕ → ℕ → List Line
next_pipe junctions i =
    if has_next junctions i then pipe_line (codes "H" ++ decimal i) (junction_id i) (junction_id (i + 1)) ∷ [] else []

-- `Vi`, to the junction under it.
abbrev pub under_pipe : ℕ → ℕ → List Line
under_pipe junctions i =
    if has_under junctions i then pipe_line (codes "V" ++ decimal i) (junction_id i) (junction_id (i + row)) ∷ []
    else []

-- The pipes that begin at a junction.
abbrev pub pipes_from : ℕ → ℕ → List Line
pipes_from junctions i = next_pipe junctions i ++ under_pipe junctions i

-- The pipes of the reservoir and of the tank.
abbrev pub source_pipes : ℕ → List Line
source_pipes junctions =
    pipe_line (codes "PR") (codes "R") (junction_id 1)
    ∷ pipe_line (codes "PT") (junction_id junctions) (codes "T")
    ∷ []

-- All pipes: of each junction in order, then of the reservoir and the tank.
abbrev pub pipe_lines : ℕ → List Line
pipe_lines junctions =
    (codes "[PIPES]" ∷ []) ∷ flat_map (pipes_from junctions) (numbers junctions) ++ source_pipes junctions

-- ---- the text

-- The lines of the network of a seed and of so many junctions, in order.
abbrev pub generated_lines : (seed junctions : ℕ) → List Line
generated_lines seed junctions =
    first_lines ++ map (junction_line seed) (numbers junctions) ++ source_lines ++ pipe_lines junctions

-- Their text: one space between words, and a line feed behind each line.
abbrev pub generated_text : (seed junctions : ℕ) → List ℕ
generated_text seed junctions = flat_map line (generated_lines seed junctions)
