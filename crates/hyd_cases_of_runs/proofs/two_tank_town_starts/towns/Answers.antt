use Rattle.std.proofs.Common.{refl}
use Rattle.hyd_cases_of_runs.proofs.two_tank_town_starts.towns.Goals as goal
use Rattle.hyd_cases_of_runs.specs.TwoTankTown.{no_room}

pub returns : goal.returns
returns c = λ capacity. record {
  room = no_room;
  capacity = capacity;
  options_are = refl;
  times_are = refl;
  node_ids = refl;
  link_ids = refl;
  junctions = refl;
  reservoirs = refl;
  tanks = refl;
  links_are = refl;
  patterns = refl;
  shapes = refl;
  bends = refl;
  controls_are = refl;
  rules = refl;
}
