-- The town's network as one value, which examples compute on.
use Rattle.std.proofs.Common.{◌≡◌, [], ◌∷◌}
use Rattle.std.specs.Prelude.{codes}
use Rattle.hyd_spec.specs.ProgramTypes.{Project}
use Rattle.hyd_cases_of_runs.specs.TwoTankTown.{IsTown, options, times, east, west, spring, north, south, links, speeds}
use Rattle.hyd_cases_of_runs.specs.TwoTankTown.{controls}
use Rattle.hyd_cases_of_runs.specs.TwoTankTown.{low, night, rest, idle}

-- the lists keep their room
abbrev pub written : {project : Project} → IsTown project → Project
written {project} town = record {
  options = options;
  times = times;
  node_ids = codes "EAST" ∷ codes "WEST" ∷ codes "SPRING" ∷ codes "NORTH" ∷ codes "SOUTH" ∷ [];
  link_ids = codes "LIFT" ∷ codes "FILL" ∷ codes "UPPER" ∷ codes "MAIN" ∷ codes "LOWER" ∷ [];
  junctions = record project.junctions { list = east (town.room 16) ∷ west (town.room 17) ∷ [] };
  reservoirs = record project.reservoirs { list = spring ∷ [] };
  tanks = record project.tanks { list = north ∷ south ∷ [] };
  links = record project.links { list = links town.capacity };
  patterns = record project.patterns { list = speeds (town.room 18) ∷ [] };
  shapes = record project.shapes { list = [] };
  bends = record project.bends { list = [] };
  controls = record project.controls { list = controls };
  rules = record project.rules { list = low town.room ∷ night town.room ∷ rest town.room ∷ idle town.room ∷ [] };
}

pub town_is : {project : Project} (town : IsTown project) → project ≡ written town
town_is {project} town = λ i. record {
  options = town.options_are i;
  times = town.times_are i;
  node_ids = town.node_ids i;
  link_ids = town.link_ids i;
  junctions = record project.junctions { list = town.junctions i };
  reservoirs = record project.reservoirs { list = town.reservoirs i };
  tanks = record project.tanks { list = town.tanks i };
  links = record project.links { list = town.links_are i };
  patterns = record project.patterns { list = town.patterns i };
  shapes = record project.shapes { list = town.shapes i };
  bends = record project.bends { list = town.bends i };
  controls = record project.controls { list = town.controls_are i };
  rules = record project.rules { list = town.rules i };
}
