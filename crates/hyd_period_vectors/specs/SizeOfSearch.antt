-- How many junctions and how many rounds a search is opened for.
use Rattle.std.specs.Prelude.{ℕ}

pub record Room : Type 0 where
  pub junctions : ℕ
  pub rounds : ℕ
