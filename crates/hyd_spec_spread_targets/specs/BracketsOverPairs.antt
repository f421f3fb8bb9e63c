-- How much may be drawn at a junction with a target pressure whatever the data within a spread are: a bracket of two
-- edges, each on the outermost grid of its side.
-- Source: this program's, after available fire flow (AWWA Manual M31) and the bounds of heads (Rheinboldt 1970).
use Rattle.std.specs.Prelude.{ℕ, ℤ, ◌≤ℤ◌, ⊤}
use Rattle.hyd_num.specs.Rational.{Rational}
use Rattle.hyd_spec.specs.ProgramTypes.{Project}
use Rattle.hyd_spec.specs.Scale.{at_scale}
use Rattle.hyd_spec.specs.Assignment.{Assignment, head_at}
use Rattle.hyd_spec_certificates.specs.declared.Side.TheVariants.{Upper, Lower}
use Rattle.hyd_spec_pressure_targets.specs.declared.Edge.{Edge}
use Rattle.hyd_spec_pressure_targets.specs.declared.Edge.TheVariants.{Flow, NoCertificate, RoundsSpent}
use Rattle.hyd_spec_pressure_targets.specs.declared.Bracket.{Bracket}
use Rattle.hyd_spec_pressure_targets.specs.TargetHeads.{IsAboveTarget, IsBelowTarget}
use Rattle.hyd_spec_pressure_targets.specs.BracketOfDraws.{IsEdge}
use Rattle.hyd_spec_spread.specs.Spreads.{Spread}
use Rattle.hyd_spec_spread_runs.specs.OutermostPairs.{Pair}
use Rattle.hyd_spec_spread_targets.specs.FirstPeriodWithin.{IsFirstDrawingWithin}

-- ---- edges

-- The bracket of junction number `place` with the target between two heads: the one edge by LOWER vectors of the LOWER
-- grid that hold it at the upper head, the other by UPPER vectors of the UPPER grid that hold it at the lower head.
pub record IsBracketOver (pair : Pair) (place : ℕ) (low high : ℤ) (rounds : ℕ) (bracket : Bracket) : Type 0 where
  pub below : IsEdge pair.lower Lower (record { junction = place; head = high }) rounds bracket.below
  pub above : IsEdge pair.upper Upper (record { junction = place; head = low }) rounds bracket.above

-- ---- what the edges say

-- With each draw up to the edge (S-th parts of a flow tick) the pressure is above the target, in every assignment of
-- the first period of every network within the spread at every scale.
abbrev pub IsEnoughWithin : Project → Spread → ℕ → ℤ → Rational → Edge → Type 0
IsEnoughWithin project spread place elevation target (Flow draw) =
    (S : ℕ) (q : ℤ) (assignment : Assignment) → IsFirstDrawingWithin project spread S place q assignment
    → q ≤ℤ at_scale S draw → IsAboveTarget S elevation target (head_at assignment.heads place)
IsEnoughWithin project spread place elevation target NoCertificate = ⊤
IsEnoughWithin project spread place elevation target RoundsSpent = ⊤

-- With each draw from the edge on it is below.
abbrev pub IsTooMuchWithin : Project → Spread → ℕ → ℤ → Rational → Edge → Type 0
IsTooMuchWithin project spread place elevation target (Flow draw) =
    (S : ℕ) (q : ℤ) (assignment : Assignment) → IsFirstDrawingWithin project spread S place q assignment
    → at_scale S draw ≤ℤ q → IsBelowTarget S elevation target (head_at assignment.heads place)
IsTooMuchWithin project spread place elevation target NoCertificate = ⊤
IsTooMuchWithin project spread place elevation target RoundsSpent = ⊤
