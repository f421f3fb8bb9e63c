-- The text of a certificate: a header, the records in order, and an end line. Each line ends by a line feed.
-- Source: this program's format.
use Rattle.std.specs.Prelude.{◌≡◌, ℕ, ◌+◌, ◌<◌, ◌≤◌, ◌^◌, ◌==◌, ℤ, Bool, ◌||◌, ◌⊎◌, is_some, List, [], ◌∷◌, ◌++◌}
use Rattle.std.specs.Prelude.{length, map, All, codes, if◌then◌else◌}
use Rattle.std.specs.Fmt.{decimal, signed_decimal}
use Rattle.std.specs.List.{list_any}
use Rattle.hyd_spec.specs.ProgramTypes.{Project, Tank}
use Rattle.hyd_spec.specs.Lists.{joined}
use Rattle.hyd_spec_certificates.specs.Certificate.{IsInBox}
use Rattle.hyd_spec_certificates.specs.RecordAndStanding.{Record, Vectors}

-- A line: its words parted by single spaces.
abbrev pub words : List (List ℕ) → List ℕ
words [] = []
words (word ∷ []) = word
words (word ∷ rest) = word ++ (32 ∷ words rest)

-- A line and its line feed.
abbrev pub line : List (List ℕ) → List ℕ
line parts = words parts ++ (10 ∷ [])

-- ---- lines

-- The version of a network's certificates: 2 where a tank has a volume curve or overflows, else 1.
abbrev pub version_of : Project → ℕ
version_of project =
    if list_any (λ (tank : Tank). is_some tank.shape || tank.overflow) project.tanks.list then 2 else 1

-- `HYDCERT v n k`: the version, and the counts of junctions and tanks.
abbrev pub header_line : ℕ → ℕ → ℕ → List ℕ
header_line version junctions tanks =
    line (codes "HYDCERT" ∷ (decimal version ∷ (decimal junctions ∷ (decimal tanks ∷ []))))

-- `PERIOD p t s`: number, start and length of a period.
abbrev pub period_line : Record → List ℕ
period_line row = line (codes "PERIOD" ∷ (decimal row.number ∷ (decimal row.time ∷ (decimal row.length ∷ []))))

-- One line for each head of a vector, with the vector's key.
abbrev pub head_lines : List ℕ → List ℤ → List ℕ
head_lines key heads = joined (map (λ h. line (key ∷ (signed_decimal h ∷ []))) heads)

-- The lines of a problem's two vectors, the UPPER one first, with a key for each.
abbrev pub vectors_text : List ℕ → List ℕ → Vectors → List ℕ
vectors_text upper lower vectors = head_lines upper vectors.upper ++ head_lines lower vectors.lower

-- A record: its period, then the vectors with all tanks alike (MU, ML) and those with each tank pinned in turn (PU,
-- PL).
abbrev pub record_text : Record → List ℕ
record_text row =
    period_line row ++ (vectors_text (codes "MU") (codes "ML") row.main
    ++ joined (map (vectors_text (codes "PU") (codes "PL")) row.pinned))

-- `END p FINISHED` or `END p STOPPED`.
abbrev pub end_line : ℕ → Bool → List ℕ
end_line periods finished =
    line (codes "END" ∷ (decimal periods ∷ ((if finished then codes "FINISHED" else codes "STOPPED") ∷ [])))

-- The number of line feeds of a text.
abbrev pub line_feeds : List ℕ → ℕ
line_feeds [] = 0
line_feeds (code ∷ rest) = (if code == 10 then 1 else 0) + line_feeds rest

-- A header of a version for so many junctions and tanks, the records, and the end line.
abbrev pub certificate_text : ℕ → ℕ → ℕ → List Record → ℕ → Bool → List ℕ
certificate_text version junctions tanks rows periods finished =
    header_line version junctions tanks ++ (joined (map record_text rows) ++ end_line periods finished)

-- ---- readings

-- A vector of a record of a network with so many junctions.
pub record IsVector (junctions : ℕ) (u : List ℤ) : Type 0 where
  pub one_each : length u ≡ junctions
  pub in_box : All IsInBox u

-- A record that a certificate for so many junctions and tanks can hold: its numbers are below 2^32, its heads in
-- the box.
pub record IsRow (junctions tanks : ℕ) (row : Record) : Type 0 where
  pub number_fits : row.number < 2 ^ 32
  pub time_fits : row.time < 2 ^ 32
  pub length_fits : row.length < 2 ^ 32
  pub main_upper : IsVector junctions row.main.upper
  pub main_lower : IsVector junctions row.main.lower
  pub pinned_each : length row.pinned ≡ tanks
  pub pinned_upper : All (λ vectors. IsVector junctions vectors.upper) row.pinned
  pub pinned_lower : All (λ vectors. IsVector junctions vectors.lower) row.pinned

-- The text is that of this version, 1 or 2, of these counts and records, and of an end line with this number and word.
-- No line has more than 64 bytes with its line feed: of a header that says it (a count below 10^64 has at most 64
-- digits), of the others it follows, as their numbers are below 2^32 and their heads in the box.
pub record IsCertificateText (text : List ℕ) (version junctions tanks : ℕ) (rows : List Record) (periods : ℕ)
    (finished : Bool) : Type 0 where
  pub known : (version ≡ 1) ⊎ (version ≡ 2)
  pub junctions_fit : junctions < 10 ^ 64
  pub tanks_fit : tanks < 10 ^ 64
  pub header_fits : length (header_line version junctions tanks) ≤ 64
  pub rows_fit : All (IsRow junctions tanks) rows
  pub periods_fit : periods < 2 ^ 32
  pub is_text : text ≡ certificate_text version junctions tanks rows periods finished
