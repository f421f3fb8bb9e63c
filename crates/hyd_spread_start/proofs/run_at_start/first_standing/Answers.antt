use Rattle.std.proofs.Common.{subst, sym}
use Rattle.hyd_spec_spread.specs.Spreads.{Spread, IsSpread}
use Rattle.hyd_spec_spread.specs.IntervalsOfData.{known_levels}
use Rattle.hyd_spec_spread_starts.specs.StartsOfSpreads.{IsOpenTank}
use Rattle.hyd_theorems_on_spread_rows.proofs.SpreadsOfTexts.{is-spread}
use Rattle.hyd_spread_start.proofs.run_at_start.first_standing.Goals as goal

pub put_stocks-requires-clause-spread : goal.put_stocks-requires-clause-spread
put_stocks-requires-clause-spread c =
    subst (IsSpread c.args.project.now) (sym c.requires.rows)
    (is-spread c.args.project.now c.requires.sound c.args.text.now c.requires.no_fault)

pub start_fault-requires-clause-open : goal.start_fault-requires-clause-open
start_fault-requires-clause-open c =
    subst (λ (spread : Spread). IsOpenTank c.args.project.now (known_levels c.args.project.now spread) c.in-Err.tank)
    c.requires.rows c.in-Err.ensures.open
