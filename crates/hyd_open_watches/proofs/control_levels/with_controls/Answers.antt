use Rattle.std.proofs.Common.{List, ◌++◌, take}
use Rattle.std.specs.Prelude.{map}
use Rattle.hyd_spec_certificates.specs.SpansAsIntervals.{levels_of}
use Rattle.hyd_spec_certificates.specs.Decided.{Watch}
use Rattle.hyd_open_watches.specs.Candidates.{AreNearest}
use Rattle.hyd_open_watches.proofs.NearestSoFar.{control_watches, no_more, control_further, all_controls}
use Rattle.hyd_open_watches.proofs.control_levels.with_controls.Goals as goal

pub loop-control-init : goal.loop-control-init
loop-control-init c = λ watched are.
    no_more (λ (ws : List Watch). AreNearest c.args.project.now c.args.facts.now c.args.latest ws c.args.bounds) watched
    are

pub loop-control-preserved : goal.loop-control-preserved
loop-control-preserved c = λ watched are.
    let facts = c.args.facts.now in
    let controls = c.as_slice-control-items.result.now in
    control_further (λ (ws : List Watch). AreNearest c.args.project.now facts c.args.latest ws
    c.with_control-all.result)
    (map levels_of facts.levels.list) c.loop-control.control-index controls c.control-item.result watched
    c.loop-control-test.true c.control-item.is
    (c.with_control-all.ensures (watched ++ control_watches (map levels_of facts.levels.list)
    (take c.loop-control.control-index controls))
    (c.loop-control.invariant watched are))

pub returns : goal.returns
returns c = λ watched are.
    all_controls (λ (ws : List Watch). AreNearest c.args.project.now c.args.facts.now c.args.latest ws
    c.loop-control.all)
    (map levels_of c.args.facts.now.levels.list) c.loop-control.control-index c.as_slice-control-items.result.now
    c.args.project.now.controls.list watched c.loop-control-test.false c.as_slice-control-items.ensures
    (c.loop-control.invariant watched are)
