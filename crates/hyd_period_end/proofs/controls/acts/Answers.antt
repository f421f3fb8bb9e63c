use Rattle.std.proofs.Common.{◌∙◌, ℤ, ap}
use Rattle.std.specs.Int.{w64}
use Rattle.std.proofs.lemmas.Int.{to_z-of_z}
use Rattle.hyd_spec_certificates.specs.SpansAsIntervals.{levels_of}
use Rattle.hyd_spec_certificates.specs.Interval.{Interval}
use Rattle.hyd_spec_certificates.specs.ThreeValuedLogic.{is_yes}
use Rattle.hyd_spec_certificates.specs.Decided.{control_truth}
use Rattle.hyd_period_end.proofs.controls.acts.Goals as goal

pub returns : goal.returns
returns c =
    c.control_holds.ensures
    ∙ ap (λ (t : ℤ). is_yes (control_truth (levels_of c.level_at-level.result) c.args.above t))
    (to_z-of_z w64 c.args.ticks c.ranges.ticks)
    ∙ ap (λ (x : Interval). is_yes (control_truth x c.args.above c.args.ticks)) c.level_at-level.ensures
