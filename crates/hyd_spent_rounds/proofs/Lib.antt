pub mod RoundsWithinBound
