-- What a call that writes into a buffer changes.
use Rattle.std.specs.Prelude.{◌≡◌, ℕ, ◌+◌, List, ◌++◌, length, take, drop}

-- the text stands from one place to another; what is before and behind stays as it was
pub record Writes (old new : List ℕ) (from to : ℕ) (text : List ℕ) : Type 0 where
  pub end : to ≡ from + length text
  pub front : take to new ≡ take from old ++ text
  pub rest : drop to new ≡ drop to old
