-- The IDs of nodes or of links, as lists of bytes.
use Rattle.std.specs.Prelude.{ℕ, ◌^◌, ◌≤◌, ◌≢◌, List, length, AllPairs}

-- no two IDs are equal
abbrev pub AreDistinct : List (List ℕ) → Type 0
AreDistinct ids = AllPairs (λ first later. first ≢ later) ids

-- what a table of IDs keeps: its IDs are distinct, and few enough for 32-bit numbers
pub record IsTable (ids : List (List ℕ)) : Type 0 where
  pub distinct : AreDistinct ids
  pub few : length ids ≤ 2 ^ 31

-- an ID has 1 to 31 bytes
abbrev pub IsId : List ℕ → Type 0
IsId id = (1 ≤ length id) × (length id ≤ 31)
