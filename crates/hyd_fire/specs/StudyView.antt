-- What contracts see of a `Study`.
use Rattle.std.specs.Prelude.{ℤ, List}

-- the vectors of both sides that a closure left
pub record StudyView : Type 0 where
  pub upper : List ℤ
  pub lower : List ℤ
