-- Demands and heads by the numbers of junctions and reservoirs.
-- Source: EPANET 2.2 User Manual, chapter 3 (junctions, reservoirs, time patterns).
use Rattle.std.specs.Prelude.{ℕ, ℤ, pos, ◌<◌, ◌≤◌, unsigned_abs, slice_get}
use Rattle.std.specs.Option.{option_map_or}
use Rattle.hyd_net.specs.NumberRanges.{flow_limit}
use Rattle.hyd_spec.specs.ProgramTypes.{Project}
use Rattle.hyd_spec.specs.DemandsHeadsAndPumpLifts.{demand_of, reservoir_head}

-- the demand of a junction of this number at a time, in flow ticks; none where there is no such junction
abbrev pub junction_demand : Project → ℕ → ℕ → ℤ
junction_demand project time junction =
    option_map_or (λ j. demand_of project time j) (slice_get project.junctions.list junction) (pos 0)

-- the head of a reservoir of this number at a time, in head ticks; 0 where there is no such reservoir
abbrev pub head_of_reservoir : Project → ℕ → ℕ → ℤ
head_of_reservoir project time reservoir =
    option_map_or (λ r. reservoir_head project time r) (slice_get project.reservoirs.list reservoir) (pos 0)

-- a demand of a period: at most the greatest flow of a file either way
abbrev pub IsInRange : ℤ → Type 0
IsInRange demand = unsigned_abs demand ≤ flow_limit

-- a demand that is greater
abbrev pub IsOutOfRange : ℤ → Type 0
IsOutOfRange demand = flow_limit < unsigned_abs demand
