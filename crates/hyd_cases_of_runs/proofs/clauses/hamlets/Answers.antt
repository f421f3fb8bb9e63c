use Rattle.std.proofs.Common.{refl}
use Rattle.hyd_cases_of_runs.proofs.clauses.hamlets.Goals as goal
use Rattle.hyd_cases_of_runs.specs.TwoTankTown.{no_room}

pub returns : goal.returns
returns c = record {
  room = no_room;
  options_are = refl;
  times_are = refl;
  node_ids = refl;
  link_ids = refl;
  junctions = refl;
  reservoirs = refl;
  tanks = refl;
  links_are = refl;
  patterns = refl;
  shapes = refl;
  bends = refl;
  controls = refl;
  rules = refl;
}
