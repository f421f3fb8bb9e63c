use Rattle.std.specs.Prelude.{codes}
use Rattle.hyd_build_nodes_patterns_and_options.proofs.LinesInForce.{hydraulic_gives, pattern_gives, report_gives}
use Rattle.hyd_build_nodes_patterns_and_options.proofs.LinesInForce.{rule_gives}
use Rattle.hyd_build_nodes_patterns_and_options.proofs.times.times_in_force.Goals as goal

pub seconds-written-requires-clause-gives : goal.seconds-written-requires-clause-gives
seconds-written-requires-clause-gives c = hydraulic_gives (codes "TIMESTEP")

pub seconds-pattern-requires-clause-gives : goal.seconds-pattern-requires-clause-gives
seconds-pattern-requires-clause-gives c = pattern_gives (codes "TIMESTEP")

pub seconds-report-requires-clause-gives : goal.seconds-report-requires-clause-gives
seconds-report-requires-clause-gives c = report_gives (codes "TIMESTEP")

pub seconds-rule-requires-clause-gives : goal.seconds-rule-requires-clause-gives
seconds-rule-requires-clause-gives c = rule_gives (codes "TIMESTEP")

pub seconds-requires-clause-gives : goal.seconds-requires-clause-gives
seconds-requires-clause-gives c = pattern_gives (codes "START")

pub seconds-requires-2-clause-gives : goal.seconds-requires-2-clause-gives
seconds-requires-2-clause-gives c = report_gives (codes "START")
