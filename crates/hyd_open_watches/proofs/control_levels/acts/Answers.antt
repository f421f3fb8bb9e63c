use Rattle.std.proofs.Common.{◌∙◌, ℤ, ap, List}
use Rattle.std.specs.Prelude.{map, slice_index_or}
use Rattle.std.specs.Int.{w64}
use Rattle.std.proofs.lemmas.Int.{to_z-of_z}
use Rattle.hyd_spec_certificates.specs.SpansAsIntervals.{levels_of}
use Rattle.hyd_spec_certificates.specs.Interval.{Interval}
use Rattle.hyd_spec_certificates.specs.ThreeValuedLogic.{is_yes}
use Rattle.hyd_spec_certificates.specs.Decided.{control_truth, nowhere}
use Rattle.hyd_spec_certificates.specs.declared.LevelSpan.{LevelSpan}
use Rattle.hyd_open_watches.proofs.control_levels.acts.Goals as goal

pub returns : goal.returns
returns c =
    c.control_holds.ensures
    ∙ ap (λ (t : ℤ). is_yes (control_truth (levels_of c.level_at-level.result) c.args.above t))
    (to_z-of_z w64 c.args.ticks c.ranges.ticks)
    ∙ ap (λ (x : Interval). is_yes (control_truth x c.args.above c.args.ticks)) c.level_at-level.ensures
    ∙ ap (λ (levels : List LevelSpan). is_yes (control_truth (slice_index_or (map levels_of levels) c.args.tank nowhere)
    c.args.above c.args.ticks)) c.as_slice.ensures
