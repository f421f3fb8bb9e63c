-- Volume curves that tanks name, each name once.
use Rattle.std.specs.Prelude.{◌≡◌, ◌≤◌, ◌^◌, ℕ, List, [], ◌∷◌, ◌++◌, length, take, if◌then◌else◌, unsigned_abs}
use Rattle.hyd_spec_lines.specs.Lines.{Row}
use Rattle.hyd_net.specs.ListView.{ListView}
use Rattle.hyd_net.specs.declared.curves.VolumePoint.{VolumePoint}
use Rattle.hyd_spec_input.specs.MeaningsAcrossRows.{is_among, shape_names}
use Rattle.hyd_spec_input.specs.Project.{Match, shape_points}
use Rattle.hyd_curves.specs.declared.volume_curves.Shapes.{Shapes}

-- a level and a volume of at most 10^18 ticks either way
pub record IsSmallVolume (point : VolumePoint) : Type 0 where
  pub level : unsigned_abs point.level ≤ 10 ^ 18
  pub volume : unsigned_abs point.volume ≤ 10 ^ 18

-- names with one more, where it isn't there
abbrev pub with_name : List (List ℕ) → List ℕ → List (List ℕ)
with_name names name = if is_among name names then names else names ++ name ∷ []

-- each list has the points of its name
abbrev pub AreShapes : List Row → Shapes → Type 0
AreShapes rows shapes = Match (λ (name : List ℕ) (list : ListView VolumePoint). list.list ≡ shape_points rows name)
    shapes.names
    shapes.lists.list

-- the volume curves that the tanks of the first k rows name
pub record AreShapesAt (rows : List Row) (k : ℕ) (shapes : Shapes) : Type 0 where
  pub names : shapes.names ≡ shape_names (take k rows)
  pub few : length shapes.names ≤ k
  pub lists : AreShapes rows shapes
