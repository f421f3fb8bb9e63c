use Rattle.std.proofs.Common.{◌≡◌, ℕ, ◌<◌, false, map, slice_index_or}
use Rattle.hyd_spec.specs.ProgramTypes.{Control}
use Rattle.hyd_spec_certificates.specs.SpansAsIntervals.{levels_of}
use Rattle.hyd_spec_certificates.specs.Stops.{is_open_control}
use Rattle.hyd_controls_and_rules.proofs.pump_patterns_and_simple_controls.find_open.Given as goal

abbrev pub invariant-loop-number : goal.invariant-loop-number
invariant-loop-number l = (k : ℕ) (d : Control) → k < l.number
    → is_open_control (map levels_of l.levels) (slice_index_or l.controls k d) ≡ false
