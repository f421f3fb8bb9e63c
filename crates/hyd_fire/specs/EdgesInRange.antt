-- Edges that can be printed.
use Rattle.std.specs.Prelude.{◌≤◌, ◌^◌, unsigned_abs, ⊤}
use Rattle.hyd_spec_pressure_targets.specs.declared.Edge.{Edge}
use Rattle.hyd_spec_pressure_targets.specs.declared.Edge.TheVariants.{Flow, NoCertificate, RoundsSpent}

-- a draw is at most 10^27 flow ticks in magnitude
abbrev pub IsSmallEdge : Edge → Type 0
IsSmallEdge (Flow draw) = unsigned_abs draw ≤ 10 ^ 27
IsSmallEdge NoCertificate = ⊤
IsSmallEdge RoundsSpent = ⊤
