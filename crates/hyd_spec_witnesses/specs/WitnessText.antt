-- The text of a witness: a header, the periods in order, and an end line. Each line ends by a line feed.
-- Source: this program's format.
use Rattle.std.specs.Prelude.{◌≡◌, ℕ, ◌^◌, ◌<◌, ◌≤◌, ℤ, unsigned_abs, List, [], ◌∷◌, ◌++◌, length, map, All, codes}
use Rattle.std.specs.Fmt.{decimal, signed_decimal}
use Rattle.hyd_spec.specs.ProgramTypes.{Project}
use Rattle.hyd_spec.specs.Lists.{joined}
use Rattle.hyd_spec.specs.NodeNumbers.{junction_count, tank_count}
use Rattle.hyd_spec_certificates.specs.CertificateText.{line}
use Rattle.hyd_spec_witnesses.specs.MetPeriods.{Moment}

-- ---- counts

-- How many junctions, links and tanks a network has.
pub record Counts : Type 0 where
  pub junctions : ℕ
  pub links : ℕ
  pub tanks : ℕ

-- Those of a network.
abbrev pub counts_of : Project → Counts
counts_of project = record {
  junctions = junction_count project;
  links = length project.links.list;
  tanks = tank_count project;
}

-- ---- lines

-- `HYDWIT 1 s n m k`: the version, the scale, and the counts of junctions, links and tanks.
abbrev pub witness_header : ℕ → Counts → List ℕ
witness_header scale counts =
    line (codes "HYDWIT" ∷ (decimal 1 ∷ (decimal scale ∷ (decimal counts.junctions ∷ (decimal counts.links
    ∷ (decimal counts.tanks ∷ []))))))

-- `PERIOD p t s`: number, start and length of a period.
abbrev pub moment_line : Moment → List ℕ
moment_line moment =
    line (codes "PERIOD" ∷ (decimal moment.number ∷ (decimal moment.time ∷ (decimal moment.length ∷ []))))

-- One line for each value, behind a key.
abbrev pub value_lines : List ℕ → List ℤ → List ℕ
value_lines key values = joined (map (λ value. line (key ∷ (signed_decimal value ∷ []))) values)

-- `L x v`: a tank's level and its volume.
abbrev pub stock_line : ℤ → ℤ → List ℕ
stock_line level volume = line (codes "L" ∷ (signed_decimal level ∷ (signed_decimal volume ∷ [])))

-- One such line for each tank.
abbrev pub stock_lines : List ℤ → List ℤ → List ℕ
stock_lines [] volumes = []
stock_lines (level ∷ levels) [] = []
stock_lines (level ∷ levels) (volume ∷ volumes) = stock_line level volume ++ stock_lines levels volumes

-- The lines of a period: heads (H), flows (Q), demand flows (D), emitter flows (E), levels and volumes (L).
abbrev pub moment_text : Moment → List ℕ
moment_text moment =
    moment_line moment ++ (value_lines (codes "H") moment.heads ++ (value_lines (codes "Q") moment.flows
    ++ (value_lines (codes "D") moment.demands ++ (value_lines (codes "E") moment.emitters
    ++ stock_lines moment.levels moment.volumes))))

-- `END p`: how many periods there are.
abbrev pub witness_end : ℕ → List ℕ
witness_end periods = line (codes "END" ∷ (decimal periods ∷ []))

-- A header for a scale and so many of each, the periods, and the end line.
abbrev pub witness_text : ℕ → Counts → List Moment → List ℕ
witness_text scale counts moments =
    witness_header scale counts ++ (joined (map moment_text moments) ++ witness_end (length moments))

-- ---- readings

-- A value of a witness is at most 10^24 in magnitude.
abbrev pub value_limit : ℕ
value_limit = 10 ^ 24

abbrev pub IsValue : ℤ → Type 0
IsValue value = unsigned_abs value ≤ value_limit

-- So many values.
pub record AreValues (count : ℕ) (values : List ℤ) : Type 0 where
  pub one_each : length values ≡ count
  pub in_range : All IsValue values

-- A period that a witness for so many of each can hold: its numbers are below 2^32.
pub record IsMoment (counts : Counts) (moment : Moment) : Type 0 where
  pub number_fits : moment.number < 2 ^ 32
  pub time_fits : moment.time < 2 ^ 32
  pub length_fits : moment.length < 2 ^ 32
  pub heads : AreValues counts.junctions moment.heads
  pub flows : AreValues counts.links moment.flows
  pub demands : AreValues counts.junctions moment.demands
  pub emitters : AreValues counts.junctions moment.emitters
  pub levels : AreValues counts.tanks moment.levels
  pub volumes : AreValues counts.tanks moment.volumes

-- A scale is a power of two from 1 to 1,024.
pub record IsScale (scale : ℕ) : Type 0 where
  pub power : ℕ
  pub is_power : scale ≡ 2 ^ power
  pub at_most : power ≤ 10

-- The text is that of a witness of this scale with these periods, whose end line has their number.
pub record IsWitnessText (counts : Counts) (text : List ℕ) (scale : ℕ) (moments : List Moment) : Type 0 where
  pub is_scale : IsScale scale
  pub moments_fit : All (IsMoment counts) moments
  pub count_fits : length moments < 2 ^ 32
  pub is_text : text ≡ witness_text scale counts moments
