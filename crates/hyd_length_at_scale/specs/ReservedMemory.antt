-- The room that the end of a period has.
use Rattle.std.specs.Prelude.{◌≡◌, ◌+◌, ◌≤◌, length}
use Rattle.hyd_spec.specs.ProgramTypes.{Project}
use Rattle.hyd_spec.specs.NodeNumbers.{tank_count}
use Rattle.hyd_length_at_scale.specs.declared.room.TrialRoom.{TrialRoom}
use Rattle.hyd_length_at_scale.specs.declared.room.EndRoom.{EndRoom}

-- There is room for a trial of the rules of a network: a level for each tank, a value for each rule, and a change for
-- each link.
pub record IsTrialRoomFor (project : Project) (room : TrialRoom) : Type 0 where
  pub levels : length room.levels.items ≡ tank_count project
  pub values : length room.values.items ≡ length project.rules.list
  pub changes : length project.links.list ≤ room.changes.spare + length room.changes.list

-- There is room for the end of each period: for a trial, and a state for each link.
pub record IsRoomFor (project : Project) (room : EndRoom) : Type 0 where
  pub trial : IsTrialRoomFor project room.trial
  pub links : length room.links.items ≡ length project.links.list
