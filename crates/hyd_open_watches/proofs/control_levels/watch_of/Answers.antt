use Rattle.std.proofs.Common.{◌∙◌, sym, to_z, of_z}
use Rattle.std.specs.Int.{w64}
use Rattle.hyd_period_facts.specs.FactsBeforeEnd.{stocks_in}
use Rattle.hyd_open_watches.proofs.LevelsAhead.{not_held_ahead}
use Rattle.hyd_open_watches.proofs.control_levels.watch_of.Goals as goal

pub returns-clause-short : goal.returns-clause-short
returns-clause-short c = λ tank at.
    not_held_ahead tank (stocks_in c.args.facts.now c.in-Level.tank).level c.in-Level.above
    (to_z w64 (of_z w64 c.in-Level.ticks))
    (c.requires.tanks.held c.in-Level.tank tank at).level
    (sym c.acts.ensures ∙ c.if-acts.false)
