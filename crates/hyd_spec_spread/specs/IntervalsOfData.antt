-- What a spread leaves open of the data of a network at a time: the demand of each junction in flow ticks, after its
-- categories, patterns and the demand multiplier, and the head of each reservoir in head ticks.
-- Source: this program's, with ends rounded outward as in Moore 1966 (Interval Analysis).
use Rattle.std.specs.Prelude.{ℕ, ◌^◌, ℤ, pos, negsuc, ◌*ℤ◌, List, Option}
use Rattle.hyd_num.specs.Rational.{Rational, floor, ceiling}
use Rattle.hyd_spec.specs.ProgramTypes.{Project, Junction, Reservoir, Tank, Capacity}
use Rattle.hyd_spec.specs.Lists.{map_from}
use Rattle.hyd_spec.specs.DemandsHeadsAndPumpLifts.{demand_of, reservoir_head}
use Rattle.hyd_spec.specs.Tank.{walls_of, kept_volume}
use Rattle.hyd_spec_certificates.specs.Interval.{Interval, shifted}
use Rattle.hyd_spec_spread.specs.Spreads.{Factors, Spread, demand_factors, emitter_factors, head_offsets}
use Rattle.hyd_spec_spread.specs.Spreads.{level_interval}

-- ---- products

-- A number times a factor, as an exact value.
abbrev pub times_factor : ℕ → ℤ → Rational
times_factor factor z = record { num = pos factor *ℤ z; den = 10 ^ 9 }

-- The interval of the products of a number by the factors, its ends whole. A number below 0 is least by the greatest
-- factor, and greatest by the least one.
abbrev pub products : Factors → ℤ → Interval
products factors (pos n) = record {
  lo = floor (times_factor factors.least (pos n));
  hi = ceiling (times_factor factors.greatest (pos n));
}
products factors (negsuc n) = record {
  lo = floor (times_factor factors.greatest (negsuc n));
  hi = ceiling (times_factor factors.least (negsuc n));
}

-- ---- junctions and reservoirs

-- What is known of a junction at a time: its elevation, the interval of its demand, and the file's emitter with the
-- factors of its coefficient.
pub record KnownJunction : Type 0 where
  pub elevation : ℤ
  pub demand : Interval
  pub emitter : Option Capacity
  pub factors : Factors

-- What a spread leaves of junction number j.
abbrev pub known_junction : Project → Spread → ℕ → ℕ → Junction → KnownJunction
known_junction project spread time j junction = record {
  elevation = junction.elevation;
  demand = products (demand_factors spread j) (demand_of project time junction);
  emitter = junction.emitter;
  factors = emitter_factors spread j;
}

-- Of all junctions, in order.
abbrev pub known_junctions : Project → Spread → ℕ → List KnownJunction
known_junctions project spread time = map_from (known_junction project spread time) 0 project.junctions.list

-- The interval of the head of reservoir number r.
abbrev pub known_head : Project → Spread → ℕ → ℕ → Reservoir → Interval
known_head project spread time r reservoir = shifted (reservoir_head project time reservoir) (head_offsets spread r)

-- Of the heads of all reservoirs, in order.
abbrev pub known_heads : Project → Spread → ℕ → List Interval
known_heads project spread time = map_from (known_head project spread time) 0 project.reservoirs.list

-- ---- tanks at the start

-- The interval of each tank's initial level.
abbrev pub known_levels : Project → Spread → List Interval
known_levels project spread = map_from (level_interval spread) 0 project.tanks.list

-- The interval of the volume that tank number k holds at the start.
abbrev pub known_volume : Project → Spread → ℕ → Tank → Interval
known_volume project spread k tank = record {
  lo = kept_volume (walls_of project tank) (level_interval spread k tank).lo;
  hi = kept_volume (walls_of project tank) (level_interval spread k tank).hi;
}

-- Of the volumes of all tanks, in order.
abbrev pub known_volumes : Project → Spread → List Interval
known_volumes project spread = map_from (known_volume project spread) 0 project.tanks.list
