-- What callers see of a factor: how many nodes its matrix has, and for how many links numbers off the diagonal are
-- handed in.
use Rattle.std.specs.Prelude.{ℕ}

pub record Shape : Type 0 where
  pub nodes : ℕ
  pub links : ℕ
