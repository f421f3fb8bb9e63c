-- How many of each the tables of a network hold at most: this program's limits, all whole numbers.
use Rattle.std.specs.Prelude.{ℕ}

-- junctions
abbrev pub most_junctions : ℕ
most_junctions = 10000

-- reservoirs
abbrev pub most_reservoirs : ℕ
most_reservoirs = 1000

-- tanks
abbrev pub most_tanks : ℕ
most_tanks = 32

-- pipes, pumps and valves together
abbrev pub most_links : ℕ
most_links = 20000

-- patterns
abbrev pub most_patterns : ℕ
most_patterns = 1000

-- multipliers of all patterns together
abbrev pub most_multipliers : ℕ
most_multipliers = 1000000

-- curves
abbrev pub most_curves : ℕ
most_curves = 1000

-- points of all curves together
abbrev pub most_points : ℕ
most_points = 100000

-- demands that have a row of their own
abbrev pub most_demands : ℕ
most_demands = 100000

-- simple controls
abbrev pub most_controls : ℕ
most_controls = 10000

-- rules
abbrev pub most_rules : ℕ
most_rules = 10000

-- clauses and actions of all rules together
abbrev pub most_parts : ℕ
most_parts = 100000
