-- The network of the example: a reservoir at 100 m, a throttle control valve of 304.8 mm at a setting of 100, and a
-- junction at elevation 0 with a demand of 1000 cubic metres a day.
use Rattle.std.specs.Prelude.{pos, [], ◌∷◌, None}
use Rattle.hyd_spec.specs.ProgramTypes.{Capacity}
use Rattle.hyd_spec.specs.Law.{QuadraticLaw}
use Rattle.hyd_spec_certificates.specs.EnclosingFunctions.{Fixed}
use Rattle.hyd_spec_certificates.specs.PeriodNetwork.{Grid, GridJunction}

-- The junction.
abbrev pub end : GridJunction
end = record { elevation = pos 0; demand = Fixed (pos 10000000000); emitter = None }

-- Node 1 is the reservoir.
abbrev pub one_valve : Capacity → Grid
one_valve capacity = record {
  junctions = end ∷ [];
  reservoirs = pos 1000000000000000 ∷ [];
  tanks = [];
  links = record { from = 1; to = 0; law = QuadraticLaw capacity } ∷ [];
}

-- The same with a demand of 100,000,000 cubic metres a day, which the valve can't carry at any head within 100 km.
abbrev pub thirsty_end : GridJunction
thirsty_end = record { elevation = pos 0; demand = Fixed (pos 1000000000000000); emitter = None }

abbrev pub thirsty_valve : Capacity → Grid
thirsty_valve capacity = record (one_valve capacity) { junctions = thirsty_end ∷ [] }
