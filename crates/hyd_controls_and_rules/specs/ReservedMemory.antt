-- Room for the changes that rules make: a row for each link.
use Rattle.std.specs.Prelude.{◌+◌, ◌≤◌, length}
use Rattle.std.specs.Vec.{vec_capacity}
use Rattle.hyd_controls_and_rules.specs.declared.changes.Changes.TheInside.{Inside}

-- the rows that stand are among those that fit, for which there is room, and for as many offers
pub record HasRoom (changes : Inside) : Type 0 where
  pub places : length changes.rows.list ≤ changes.room
  pub room : changes.room ≤ length changes.rows.list + changes.rows.spare
  pub offers : changes.room ≤ vec_capacity changes.best
