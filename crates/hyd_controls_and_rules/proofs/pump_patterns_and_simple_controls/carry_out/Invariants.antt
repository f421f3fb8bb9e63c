use Rattle.std.proofs.Common.{◌≡◌, ◌+◌, ◌≤◌, ◌++◌, length, map, drop}
use Rattle.hyd_spec_certificates.specs.SpansAsIntervals.{levels_of}
use Rattle.hyd_spec_certificates.specs.Decided.{acts_on}
use Rattle.hyd_spec_certificates.specs.ChangesAtStart.{control_changes}
use Rattle.hyd_controls_and_rules.specs.PumpPatternsAndSimpleControls.{controlled_by}
use Rattle.hyd_controls_and_rules.proofs.pump_patterns_and_simple_controls.carry_out.Given as goal

abbrev pub invariant-loop-number : goal.invariant-loop-number
invariant-loop-number l = record {
  count : length l.links ≡ length l.initial.links;
  states : controlled_by l.project l.time (acts_on (map levels_of l.levels)) (drop l.number l.controls) l.links
      ≡ controlled_by l.project l.time (acts_on (map levels_of l.levels)) l.controls l.initial.links;
  rows : l.changes.list ++ control_changes l.project l.time (acts_on (map levels_of l.levels)) l.number
      (drop l.number l.controls) l.links
      ≡ l.initial.changes.list ++ control_changes l.project l.time (acts_on
      (map levels_of l.levels)) 0 l.controls l.initial.links;
  spare : l.initial.changes.spare + length l.initial.changes.list ≡ l.changes.spare + length l.changes.list;
  most : length l.changes.list ≤ length l.initial.changes.list + l.number;
}
