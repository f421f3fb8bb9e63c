-- With a draw up to the one edge the pressure is above the target in every network within the spread, from the other
-- edge on below it.
use Rattle.std.proofs.Common.{ℕ, ◌<◌, ℤ, ap, arith}
use Rattle.std.proofs.lemmas.Int.{ints}
use Rattle.hyd_num.specs.Rational.{Rational}
use Rattle.hyd_net.specs.Sound.{IsSound}
use Rattle.hyd_spec.specs.ProgramTypes.{Project}
use Rattle.hyd_spec.specs.Scale.{at_scale}
use Rattle.hyd_spec.specs.Assignment.{head_at}
use Rattle.hyd_spec_certificates.specs.declared.Side.TheVariants.{Upper, Lower}
use Rattle.hyd_spec_pressure_targets.specs.declared.Edge.{Edge}
use Rattle.hyd_spec_pressure_targets.specs.declared.Edge.TheVariants.{Flow, NoCertificate, RoundsSpent}
use Rattle.hyd_spec_pressure_targets.specs.TargetHeads.{target_low, target_high}
use Rattle.hyd_spec_pressure_targets.specs.BracketOfDraws.{IsEdge}
use Rattle.hyd_spec_spread.specs.Spreads.{Spread}
use Rattle.hyd_spec_spread.specs.IntervalsOfData.{known_levels}
use Rattle.hyd_spec_spread_runs.specs.OutermostPairs.{Pair}
use Rattle.hyd_spec_spread_runs.specs.RunsForSpreads.{StartIsDecided}
use Rattle.hyd_spec_spread_targets.specs.FirstPeriodWithin.{IsFirstPair}
use Rattle.hyd_spec_spread_targets.specs.BracketsOverPairs.{IsEnoughWithin, IsTooMuchWithin}
use Rattle.hyd_theorems_on_pressure_targets.proofs.TargetHeads.{above-target, below-target}
use Rattle.hyd_theorems_on_spread_targets.proofs.HeldComparisonWithin.{drawn-within}
use Rattle.hyd_theorems_on_spread_targets.proofs.FirstPeriodWithin.{drawing-within, known_tanks, known_links}

module _ (project : Project) (sound : IsSound project) (spread : Spread) (decided : StartIsDecided project spread)
    (pair : Pair) (is : IsFirstPair project spread pair) (place rounds : ℕ) (elevation : ℤ) (target : Rational)
    (some : 0 < target.den) where
  pub edge-enough : (edge : Edge)
      → IsEdge pair.lower Lower (record { junction = place; head = target_high elevation target }) rounds edge
      → IsEnoughWithin project spread place elevation target edge
  edge-enough (Flow draw) at = λ S q assignment first most.
      let scale = first.assigned.scale in
      let there : 0 < S = omega (arith, scale) in
      let draw-is = at.draw_is in
      let within = drawn-within project spread S 0 (known_levels project spread) first.levels
      (known_tanks project sound spread) (known_links project sound spread) place q first.nodes assignment
      (drawing-within project sound spread decided S place there q assignment first) pair.lower Lower
      (target_high elevation target) at.heads at.here (is Lower) at.tight.is_certificate at.is_here
      (let e = ap (at_scale S) draw-is in omega (arith, ints, most, e)) in
      above-target S elevation target (head_at assignment.heads place) some (omega (arith, ints, within))
  edge-enough NoCertificate at = tt
  edge-enough RoundsSpent at = tt

  pub edge-too-much : (edge : Edge)
      → IsEdge pair.upper Upper (record { junction = place; head = target_low elevation target }) rounds edge
      → IsTooMuchWithin project spread place elevation target edge
  edge-too-much (Flow draw) at = λ S q assignment first least.
      let scale = first.assigned.scale in
      let there : 0 < S = omega (arith, scale) in
      let draw-is = at.draw_is in
      let within = drawn-within project spread S 0 (known_levels project spread) first.levels
      (known_tanks project sound spread) (known_links project sound spread) place q first.nodes assignment
      (drawing-within project sound spread decided S place there q assignment first) pair.upper Upper
      (target_low elevation target) at.heads at.here (is Upper) at.tight.is_certificate at.is_here
      (let e = ap (at_scale S) draw-is in omega (arith, ints, least, e)) in
      below-target S elevation target (head_at assignment.heads place) some within
  edge-too-much NoCertificate at = tt
  edge-too-much RoundsSpent at = tt
