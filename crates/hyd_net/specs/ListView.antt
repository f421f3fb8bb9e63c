-- What contracts see of a `List`.
use Rattle.std.specs.Prelude.{ℕ, List}

-- the items in order, and how many more fit without memory being taken
pub record ListView (T : Type 0) : Type 0 where
  pub list : List T
  pub spare : ℕ

-- a list without room beside its items
abbrev pub listed : {T : Type 0} → List T → ListView T
listed items = record { list = items; spare = 0 }
