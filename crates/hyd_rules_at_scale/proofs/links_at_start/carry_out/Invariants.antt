use Rattle.std.proofs.Common.{◌≡◌, length, drop}
use Rattle.hyd_spec.specs.PumpPatternsAndSimpleControls.{acts_at}
use Rattle.hyd_laws_at_scale.specs.Scales.{parts_of}
use Rattle.hyd_controls_and_rules.specs.PumpPatternsAndSimpleControls.{controlled_by}
use Rattle.hyd_rules_at_scale.proofs.links_at_start.carry_out.Given as goal

abbrev pub invariant-loop-control : goal.invariant-loop-control
invariant-loop-control l = record {
  count : length l.links ≡ length l.initial.links;
  states : controlled_by l.project l.time (acts_at (parts_of l.scale) l.levels) (drop l.control-index l.controls)
      l.links
      ≡ controlled_by l.project l.time (acts_at (parts_of l.scale) l.levels) l.controls l.initial.links;
}
