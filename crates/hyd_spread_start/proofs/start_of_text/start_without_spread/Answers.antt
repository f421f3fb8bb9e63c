use Rattle.hyd_spread_rows.specs.declared.resolved.SpreadRows.{SpreadRows}
use Rattle.hyd_spread_start.proofs.StartsAlone.{says-none, begins-alone}
use Rattle.hyd_spread_start.proofs.start_of_text.start_without_spread.Goals as goal

pub returns-clause-spread : goal.returns-clause-spread
returns-clause-spread c =
    let rows : SpreadRows = record {
      demands = c.new.result;
      emitters = c.new-2.result;
      heads = c.new-3.result;
      levels = c.new-4.result;
    } in
    says-none rows c.new.ensures.items c.new-2.ensures.items c.new-3.ensures.items c.new-4.ensures.items

pub returns-clause-run : goal.returns-clause-run
returns-clause-run c =
    begins-alone _ c.new.ensures.items c.new-2.ensures.items c.new-3.ensures.items c.new-4.ensures.items
    c.args.project.now c.requires _ c.in_ok-standing.ensures.initial c.in_ok-standing.ensures.standing
