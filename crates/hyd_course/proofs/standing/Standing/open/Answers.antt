use Rattle.std.proofs.Common.{pos, length, sym, ap, subst, ◌∙◌, arith}
use Rattle.std.specs.List.{All, AllZip}
use Rattle.std.proofs.lemmas.Int.{ints}
use Rattle.std.proofs.lemmas.List.{length-replicate}
use Rattle.std.proofs.lemmas.List.Elements.{All-replicate}
use Rattle.hyd_stocks_at_scale.specs.Motions.{IsSmallStock}
use Rattle.hyd_stocks_at_scale.specs.declared.motions.Stock.{Stock}
use Rattle.hyd_theorems_on_histories.specs.Agreement.{IsOwnState}
use Rattle.hyd_theorems_on_histories.proofs.CommandedLinkStates.{initial_own}
use Rattle.hyd_course.specs.Standings.{IsSmallInflow}
use Rattle.hyd_course.proofs.standing.Standing.open.Goals as goal

pub returns-clause-is : goal.returns-clause-is
returns-clause-is c =
    let project = c.args.project.now in
    let none : Stock = record { level = pos 0; volume = pos 0 } in
    let n = c.len-tanks.result in
    let many = c.len-tanks.ensures in
    let stocks = c.in_ok-stocks.ensures in
    let inflows = c.in_ok-inflows.ensures in
    record {
      stock_each = ap length stocks ∙ length-replicate n none ∙ many;
      inflow_each = ap length inflows ∙ length-replicate n (pos 0) ∙ many;
      stocks = subst (All IsSmallStock) (sym stocks) (All-replicate IsSmallStock n none
          (record { level = omega (arith, ints); volume = omega (arith, ints) }));
      inflows = subst (All IsSmallInflow) (sym inflows) (All-replicate IsSmallInflow n (pos 0) (omega (arith, ints)));
      within = tt;
      states = subst (AllZip (IsOwnState project) project.links.list) (sym c.in_ok-commanded.ensures)
          (initial_own project c.requires);
    }
