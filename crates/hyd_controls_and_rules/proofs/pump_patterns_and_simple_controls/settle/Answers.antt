use Rattle.std.proofs.Common.{◌∙◌, ap, map, List}
use Rattle.hyd_spec.specs.ProgramTypes.{LinkState}
use Rattle.hyd_spec.specs.PumpPatternsAndSimpleControls.{controlled}
use Rattle.hyd_spec_certificates.specs.SpansAsIntervals.{levels_of}
use Rattle.hyd_spec_certificates.specs.Decided.{acts_on}
use Rattle.hyd_controls_and_rules.proofs.SameStartAtEveryLevel.{start_is}
use Rattle.hyd_controls_and_rules.proofs.pump_patterns_and_simple_controls.settle.Goals as goal

pub returns-clause-holds : goal.returns-clause-holds
returns-clause-holds c = λ S exact some lie.
    let project = c.args.project.now in
    let intervals = map levels_of c.args.levels.now in
    c.carry_out.ensures.links
    ∙ ap (λ (states : List LinkState). controlled project c.args.time (acts_on intervals) states) c.set_pumps.ensures
    ∙ start_is project S c.args.time intervals exact c.args.links.now some lie c.in_ok-find_open.ensures.decided
