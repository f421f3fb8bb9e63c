-- The parts of a witness, and what can come behind some of its periods.
use Rattle.std.specs.Prelude.{◌≡◌, ◌≢◌, ℕ, ◌+◌, ◌*◌, ◌^◌, ◌<◌, ℤ, List, ◌++◌, Option, Some, length, map, All, codes}
use Rattle.hyd_spec.specs.Lists.{joined}
use Rattle.hyd_spec_witnesses.specs.MetPeriods.{Moment}
use Rattle.hyd_spec_witnesses.specs.WitnessText.{Counts, AreValues, IsMoment, value_lines, stock_lines, moment_text}
use Rattle.hyd_spec_witnesses.specs.WitnessText.{witness_end}

-- ---- the lists of a period

-- The lines of so many values with that key.
pub record AreValueLines (key : List ℕ) (count : ℕ) (text : List ℕ) : Type 0 where
  pub values : List ℤ
  pub are_values : AreValues count values
  pub is : text ≡ value_lines key values

-- The lines of so many levels and volumes.
pub record AreStockLines (count : ℕ) (text : List ℕ) : Type 0 where
  pub levels : List ℤ
  pub volumes : List ℤ
  pub are_levels : AreValues count levels
  pub are_volumes : AreValues count volumes
  pub is : text ≡ stock_lines levels volumes

-- One such text and then the other.
pub record IsOneThen (IsFirst IsSecond : List ℕ → Type 0) (text : List ℕ) : Type 0 where
  pub first : List ℕ
  pub second : List ℕ
  pub is_first : IsFirst first
  pub is_second : IsSecond second
  pub parts : text ≡ first ++ second

-- The lines of a period behind its PERIOD line.
abbrev pub AreLists : Counts → List ℕ → Type 0
AreLists counts =
    IsOneThen (AreValueLines (codes "H") counts.junctions) (IsOneThen (AreValueLines (codes "Q") counts.links)
    (IsOneThen (AreValueLines (codes "D") counts.junctions) (IsOneThen (AreValueLines (codes "E") counts.junctions)
    (AreStockLines counts.tanks))))

-- Those of a moment.
abbrev pub lists_text : Moment → List ℕ
lists_text moment =
    value_lines (codes "H") moment.heads ++ (value_lines (codes "Q") moment.flows
    ++ (value_lines (codes "D") moment.demands ++ (value_lines (codes "E") moment.emitters
    ++ stock_lines moment.levels moment.volumes)))

-- Its lists have a value for each junction, link and tank.
pub record HasValues (counts : Counts) (moment : Moment) : Type 0 where
  pub heads : AreValues counts.junctions moment.heads
  pub flows : AreValues counts.links moment.flows
  pub demands : AreValues counts.junctions moment.demands
  pub emitters : AreValues counts.junctions moment.emitters
  pub levels : AreValues counts.tanks moment.levels
  pub volumes : AreValues counts.tanks moment.volumes

-- How many lines they are.
abbrev pub list_lines : Counts → ℕ
list_lines counts = counts.junctions + (counts.links + (counts.junctions + (counts.junctions + counts.tanks)))

-- ---- behind some periods

-- What a witness can have behind so many periods: further periods, and the END line with the number of all.
pub record IsRest (counts : Counts) (periods : ℕ) (text : List ℕ) : Type 0 where
  pub moments : List Moment
  pub moments_fit : All (IsMoment counts) moments
  pub count_fits : periods + length moments < 2 ^ 32
  pub is_text : text ≡ joined (map moment_text moments) ++ witness_end (periods + length moments)

-- The text doesn't go on with a whole period that a witness can have behind so many.
abbrev pub LacksMoment : Counts → ℕ → Option (List ℕ) → Type 0
LacksMoment counts periods text = (moment : Moment) (rest : List ℕ) → IsMoment counts moment → periods + 1 < 2 ^ 32
    → text ≢ Some (moment_text moment ++ rest)

-- How many lines a header line and so many periods have.
abbrev pub lines_of : Counts → ℕ → ℕ
lines_of counts periods = 1 + periods * (1 + list_lines counts)
