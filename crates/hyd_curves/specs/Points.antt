-- The points of curves, by the numbers that the curves' names have in a table.
use Rattle.std.specs.Prelude.{◌≡◌, ℕ, List, [], ◌∷◌, ◌++◌, map, length, take, Option, Some, None, slice_index_or}
use Rattle.hyd_spec_lines.specs.Lines.{Row}
use Rattle.hyd_net.specs.ListView.{ListView}
use Rattle.hyd_spec_input.specs.MeaningsAcrossRows.{number_in}
use Rattle.hyd_spec_input.specs.SectionsAndTables.{Point, curve_named}
use Rattle.hyd_curves.specs.declared.points.CurvePoint.{CurvePoint}
use Rattle.hyd_curves.specs.declared.points.Points.{Points}

-- the point of a row
abbrev pub point_in : CurvePoint → Point
point_in point = record { x = point.x.nano; y = point.y.nano }

abbrev pub points_in : List CurvePoint → List Point
points_in points = map point_in points

-- the points of each list
abbrev pub each : List (ListView CurvePoint) → List (List Point)
each lists = map (λ (list : ListView CurvePoint). points_in list.list) lists

-- the list of a number, where there is one
abbrev pub list_of : List (List Point) → Option ℕ → List Point
list_of lists None = []
list_of lists (Some number) = slice_index_or lists number []

-- for each name, the list of its number in a table has the points of its curve, and there are none without a number
pub record ArePoints (rows : List Row) (names : List (List ℕ)) (points : Points) : Type 0 where
  pub named : (name : List ℕ) → list_of (each points.lists.items) (number_in names name) ≡ curve_named rows name

-- ---- one row after another

-- one list has one more point, the others are as before
pub record HasOneMore (before after : List (List Point)) (number : ℕ) (point : Point) : Type 0 where
  pub even : length after ≡ length before
  pub here : slice_index_or after number [] ≡ slice_index_or before number [] ++ point ∷ []
  pub others : (k : ℕ) → (k ≡ number → ⊥) → slice_index_or after k [] ≡ slice_index_or before k []

-- a list for each name, with the points of the first k rows
pub record AreGathered (rows : List Row) (k : ℕ) (names : List (List ℕ)) (points : Points) : Type 0 where
  pub even : length points.lists.items ≡ length names
  pub points_are : ArePoints (take k rows) names points
