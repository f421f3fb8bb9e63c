use Rattle.std.proofs.Common.{sym, ◌∙◌}
use Rattle.hyd_theorems_on_spread_starts.proofs.OpenTanks.{tank-there}
use Rattle.hyd_spread_start.proofs.OpenTanksOfCode.{line-is, line-there}
use Rattle.hyd_spec_spread.specs.IntervalsOfData.{known_levels}
use Rattle.hyd_spec_spread_rows.specs.TextsOfSpreads.{spread_in}
use Rattle.hyd_spread_start.proofs.start_faults.start_fault.Goals as goal

pub level_line-requires-clause-tank : goal.level_line-requires-clause-tank
level_line-requires-clause-tank c =
    tank-there c.args.project.now (known_levels c.args.project.now (spread_in c.args.project.now c.args.text.now))
    c.requires.sound c.args.tank c.requires.open

pub returns : goal.returns
returns c =
    line-is c.args.project.now c.args.text.now c.args.tank c.in-Some.line c.requires.sound c.requires.no_other
    c.requires.open (sym c.in-Some.is ∙ c.level_line.ensures)

pub unreachable-requires : goal.unreachable-requires
unreachable-requires c =
    line-there c.args.project.now c.args.text.now c.args.tank c.requires.sound c.requires.open
    (sym c.in-None.is ∙ c.level_line.ensures)
