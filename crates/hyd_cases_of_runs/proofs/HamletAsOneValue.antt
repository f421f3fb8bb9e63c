-- The hamlet's network as one value, which examples compute on.
use Rattle.std.proofs.Common.{◌≡◌, [], ◌∷◌}
use Rattle.std.specs.Prelude.{codes}
use Rattle.hyd_spec.specs.ProgramTypes.{Project}
use Rattle.hyd_cases_of_runs.specs.Hamlet.{IsHamlet, options, times, junction, reservoir, tank, links, rule}

-- the lists keep their room
abbrev pub written : {project : Project} → IsHamlet project → Project
written {project} hamlet = record {
  options = options;
  times = times;
  node_ids = codes "J" ∷ codes "R" ∷ codes "T" ∷ [];
  link_ids = codes "FILL" ∷ codes "DOWN" ∷ [];
  junctions = record project.junctions { list = junction (hamlet.room 4) ∷ [] };
  reservoirs = record project.reservoirs { list = reservoir ∷ [] };
  tanks = record project.tanks { list = tank ∷ [] };
  links = record project.links { list = links };
  patterns = record project.patterns { list = [] };
  shapes = record project.shapes { list = [] };
  bends = record project.bends { list = [] };
  controls = record project.controls { list = [] };
  rules = record project.rules { list = rule hamlet.room ∷ [] };
}

pub hamlet_is : {project : Project} (hamlet : IsHamlet project) → project ≡ written hamlet
hamlet_is {project} hamlet = λ i. record {
  options = hamlet.options_are i;
  times = hamlet.times_are i;
  node_ids = hamlet.node_ids i;
  link_ids = hamlet.link_ids i;
  junctions = record project.junctions { list = hamlet.junctions i };
  reservoirs = record project.reservoirs { list = hamlet.reservoirs i };
  tanks = record project.tanks { list = hamlet.tanks i };
  links = record project.links { list = hamlet.links_are i };
  patterns = record project.patterns { list = hamlet.patterns i };
  shapes = record project.shapes { list = hamlet.shapes i };
  bends = record project.bends { list = hamlet.bends i };
  controls = record project.controls { list = hamlet.controls i };
  rules = record project.rules { list = hamlet.rules i };
}
