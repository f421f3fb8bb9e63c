-- How much may be drawn at a junction with a target pressure: a bracket of two edges, each from the tight vector that
-- holds the junction at the target. Heads are in head ticks, flows in flow ticks.
-- Source: this program's, after available fire flow (AWWA Manual M31) and the bounds of heads (Rheinboldt 1970).
use Rattle.std.specs.Prelude.{◌≡◌, ℕ, ℤ, ◌≤ℤ◌, List, length, slice_get, slice_set, Some, ⊤}
use Rattle.hyd_num.specs.Rational.{Rational}
use Rattle.hyd_spec.specs.ProgramTypes.{Project}
use Rattle.hyd_spec.specs.Scale.{at_scale}
use Rattle.hyd_spec.specs.Assignment.{Assignment, head_at}
use Rattle.hyd_spec_certificates.specs.declared.Problem.TheVariants.{Main}
use Rattle.hyd_spec_certificates.specs.declared.Side.{Side}
use Rattle.hyd_spec_certificates.specs.declared.Side.TheVariants.{Upper, Lower}
use Rattle.hyd_spec_certificates.specs.declared.HeldJunction.{HeldJunction}
use Rattle.hyd_spec_certificates.specs.PeriodNetwork.{Grid, GridJunction}
use Rattle.hyd_spec_certificates.specs.Certificate.{IsCertificateHolding, IsTightHolding, AreRoundsHolding}
use Rattle.hyd_spec_certificates.specs.BoxesWithHeldJunction.{passing_draw}
use Rattle.hyd_spec_certificates.specs.TurnsOfProblems.{beginning}
use Rattle.hyd_spec_pressure_targets.specs.declared.Edge.{Edge}
use Rattle.hyd_spec_pressure_targets.specs.declared.Edge.TheVariants.{Flow, NoCertificate, RoundsSpent}
use Rattle.hyd_spec_pressure_targets.specs.declared.Bracket.{Bracket}
use Rattle.hyd_spec_pressure_targets.specs.TargetHeads.{IsAboveTarget, IsBelowTarget}
use Rattle.hyd_spec_pressure_targets.specs.FirstPeriod.{IsFirstDrawing}

-- ---- edges

-- The draw with which the held junction of the tight vector would pass.
pub record IsTightDraw (grid : Grid) (side : Side) (held : HeldJunction) (draw : ℤ) : Type 0 where
  pub heads : List ℤ
  pub tight : IsTightHolding (Some held) grid Main side heads
  pub here : GridJunction
  pub is_here : slice_get grid.junctions held.junction ≡ Some here
  pub draw_is : draw ≡ passing_draw grid side heads held.junction here

-- So many plain rounds exist, from the floor of the box for UPPER and its ceiling for LOWER with the junction at its
-- held head, and lead to no certificate.
pub record AreSpentHolding (grid : Grid) (side : Side) (held : HeldJunction) (rounds : ℕ) : Type 0 where
  pub reached : List ℤ
  pub by_rounds : AreRoundsHolding (Some held) grid Main side rounds
      (slice_set (beginning side (length grid.junctions)) held.junction held.head) reached
  pub not_one : IsCertificateHolding (Some held) grid Main side reached → ⊥

-- An edge is that draw, or says why there is none to be had.
abbrev pub IsEdge : Grid → Side → HeldJunction → ℕ → Edge → Type 0
IsEdge grid side held rounds (Flow draw) = IsTightDraw grid side held draw
IsEdge grid side held rounds NoCertificate = (u : List ℤ) → IsCertificateHolding (Some held) grid Main side u → ⊥
IsEdge grid side held rounds RoundsSpent = AreSpentHolding grid side held rounds

-- The bracket of junction number `place` with the target between two heads: the one edge by LOWER vectors that hold it
-- at the upper head, the other by UPPER vectors that hold it at the lower head.
pub record IsBracket (grid : Grid) (place : ℕ) (low high : ℤ) (rounds : ℕ) (bracket : Bracket) : Type 0 where
  pub below : IsEdge grid Lower (record { junction = place; head = high }) rounds bracket.below
  pub above : IsEdge grid Upper (record { junction = place; head = low }) rounds bracket.above

-- ---- what the edges say

-- With each draw up to the edge (S-th parts of a flow tick) the pressure is above the target, in every assignment of
-- the first period at every scale.
abbrev pub IsEnough : Project → ℕ → ℤ → Rational → Edge → Type 0
IsEnough project place elevation target (Flow draw) =
    (S : ℕ) (q : ℤ) (assignment : Assignment) → IsFirstDrawing project S place q assignment
    → q ≤ℤ at_scale S draw → IsAboveTarget S elevation target (head_at assignment.heads place)
IsEnough project place elevation target NoCertificate = ⊤
IsEnough project place elevation target RoundsSpent = ⊤

-- With each draw from the edge on it is below.
abbrev pub IsTooMuch : Project → ℕ → ℤ → Rational → Edge → Type 0
IsTooMuch project place elevation target (Flow draw) =
    (S : ℕ) (q : ℤ) (assignment : Assignment) → IsFirstDrawing project S place q assignment
    → at_scale S draw ≤ℤ q → IsBelowTarget S elevation target (head_at assignment.heads place)
IsTooMuch project place elevation target NoCertificate = ⊤
IsTooMuch project place elevation target RoundsSpent = ⊤
