use Rattle.std.proofs.Common.{List, length, map, sym, ap, subst, refl, ◌∙◌}
use Rattle.hyd_spec.specs.PumpPatternsAndSimpleControls.{started}
use Rattle.hyd_spec.specs.History.{initial_links}
use Rattle.hyd_spec_certificates.specs.declared.LevelSpan.{LevelSpan}
use Rattle.hyd_spec_certificates.specs.SpansAsIntervals.{levels_of}
use Rattle.hyd_spec_certificates.specs.Decided.{acts_on}
use Rattle.hyd_spec_certificates.specs.Valid.{ControlsAreDecided}
use Rattle.hyd_spread_targets.proofs.FirstPeriodsReady.{levels-lie, controls-decided, ready-at-start}
use Rattle.hyd_spread_targets.proofs.first_period_over.FirstPeriodOver.open.Goals as goal

pub states_at_start-requires-clause-each_level : goal.states_at_start-requires-clause-each_level
states_at_start-requires-clause-each_level c =
    ap length c.as_slice.ensures ∙ (levels-lie c.args.project.now c.args.start c.requires.start).each

pub states_at_start-requires-clause-decided : goal.states_at_start-requires-clause-decided
states_at_start-requires-clause-decided c =
    subst (λ (ls : List LevelSpan). ControlsAreDecided c.args.project.now (map levels_of ls)) (sym c.as_slice.ensures)
    (controls-decided c.args.project.now c.args.start c.requires.start)

pub returns-clause-ready : goal.returns-clause-ready
returns-clause-ready c =
    let project = c.args.project.now in
    ready-at-start project c.args.start c.requires.start _ c.in_ok-nets.ensures.of c.in_ok-nets.ensures.spread refl
    (c.in_ok-started.ensures.states
    ∙ ap (λ (ls : List LevelSpan). started project 0 (acts_on (map levels_of ls)) (initial_links project))
    c.as_slice.ensures)
    (sym c.in_ok-links.links.ok.0 ∙ (c.in_ok-links.ensures.cases.1 ∙ (c.in_ok-started.started.ok.0
    ∙ c.in_ok-started.ensures.each)))
