-- With a draw up to the one edge the pressure is above the target, from the other edge on below it.
use Rattle.std.proofs.Common.{ℕ, ◌<◌, ℤ, ap, arith}
use Rattle.std.proofs.lemmas.Int.{ints}
use Rattle.hyd_num.specs.Rational.{Rational}
use Rattle.hyd_net.specs.Sound.{IsSound}
use Rattle.hyd_spec.specs.ProgramTypes.{Project}
use Rattle.hyd_spec.specs.Scale.{at_scale}
use Rattle.hyd_spec.specs.Assignment.{head_at}
use Rattle.hyd_spec.specs.History.{initial_levels}
use Rattle.hyd_spec_certificates.specs.declared.Side.TheVariants.{Upper, Lower}
use Rattle.hyd_spec_certificates.specs.PeriodNetwork.{Grid}
use Rattle.hyd_spec_certificates.specs.RecordAndStanding.{initial_standing}
use Rattle.hyd_spec_pressure_targets.specs.declared.Edge.{Edge}
use Rattle.hyd_spec_pressure_targets.specs.declared.Edge.TheVariants.{Flow, NoCertificate, RoundsSpent}
use Rattle.hyd_spec_pressure_targets.specs.TargetHeads.{target_low, target_high}
use Rattle.hyd_spec_pressure_targets.specs.FirstPeriod.{first_tanks, first_links, IsFirstGrid}
use Rattle.hyd_spec_pressure_targets.specs.BracketOfDraws.{IsEdge, IsEnough, IsTooMuch}
use Rattle.hyd_theorems_on_definitions.proofs.HeldFlows.{drawn_within}
use Rattle.hyd_theorems_on_pressure_targets.proofs.TargetHeads.{above-target, below-target}
use Rattle.hyd_theorems_on_pressure_targets.proofs.FirstPeriodCompared.{compared-drawing}

module _ (project : Project) (sound : IsSound project) (grid : Grid) (is : IsFirstGrid project grid)
    (place rounds : ℕ) (elevation : ℤ) (target : Rational) (some : 0 < target.den) where
  pub edge-enough : (edge : Edge)
      → IsEdge grid Lower (record { junction = place; head = target_high elevation target }) rounds edge
      → IsEnough project place elevation target edge
  edge-enough (Flow draw) at = λ S q assignment drawing most.
      let scale = drawing.scale in
      let there : 0 < S = omega (arith, scale) in
      let draw-is = at.draw_is in
      let within = drawn_within project S 0 (initial_standing project).levels (initial_levels project S)
      (first_tanks project S) (first_links project S) place q assignment grid
      (compared-drawing project sound S there grid is place q assignment drawing) Lower (target_high elevation target)
      at.heads at.here at.tight.is_certificate at.is_here
      (let e = ap (at_scale S) draw-is in omega (arith, ints, most, e)) in
      above-target S elevation target (head_at assignment.heads place) some (omega (arith, ints, within))
  edge-enough NoCertificate at = tt
  edge-enough RoundsSpent at = tt

  pub edge-too-much : (edge : Edge)
      → IsEdge grid Upper (record { junction = place; head = target_low elevation target }) rounds edge
      → IsTooMuch project place elevation target edge
  edge-too-much (Flow draw) at = λ S q assignment drawing least.
      let scale = drawing.scale in
      let there : 0 < S = omega (arith, scale) in
      let draw-is = at.draw_is in
      let within = drawn_within project S 0 (initial_standing project).levels (initial_levels project S)
      (first_tanks project S) (first_links project S) place q assignment grid
      (compared-drawing project sound S there grid is place q assignment drawing) Upper (target_low elevation target)
      at.heads at.here at.tight.is_certificate at.is_here
      (let e = ap (at_scale S) draw-is in omega (arith, ints, least, e)) in
      below-target S elevation target (head_at assignment.heads place) some within
  edge-too-much NoCertificate at = tt
  edge-too-much RoundsSpent at = tt
