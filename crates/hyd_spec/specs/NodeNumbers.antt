-- How many nodes a network has, and how they are numbered: junctions first, then reservoirs, then tanks.
-- Source: EPANET 2.2 User Manual, chapter 3 (physical components); the numbering is this program's.
use Rattle.std.specs.Prelude.{ℕ, ◌+◌, ◌-◌, Bool, length, nat_le}
use Rattle.hyd_spec.specs.ProgramTypes.{Project}

-- The number of junctions.
abbrev pub junction_count : Project → ℕ
junction_count project = length project.junctions.list

-- The number of reservoirs.
abbrev pub reservoir_count : Project → ℕ
reservoir_count project = length project.reservoirs.list

-- The number of tanks.
abbrev pub tank_count : Project → ℕ
tank_count project = length project.tanks.list

-- The number of nodes before the first tank.
abbrev pub nodes_before_tanks : Project → ℕ
nodes_before_tanks project = junction_count project + reservoir_count project

-- The node of tank number `tank`.
abbrev pub tank_node : Project → ℕ → ℕ
tank_node project tank = nodes_before_tanks project + tank

-- The node is a tank.
abbrev pub is_tank : Project → ℕ → Bool
is_tank project node = nat_le (nodes_before_tanks project) node

-- The tank's number of a node that is a tank.
abbrev pub tank_number : Project → ℕ → ℕ
tank_number project node = node - nodes_before_tanks project
