use Rattle.std.proofs.Common.{length, sym, ap, subst, ◌∙◌}
use Rattle.std.specs.List.{All, AllZip}
use Rattle.hyd_stocks_at_scale.specs.Motions.{IsSmallStock}
use Rattle.hyd_theorems_on_histories.specs.Agreement.{IsOwnState}
use Rattle.hyd_theorems_on_histories.proofs.CommandedLinkStates.{initial_own}
use Rattle.hyd_course.specs.Standings.{IsSmallInflow}
use Rattle.hyd_course.proofs.OwnLinkStates.{state_each}
use Rattle.hyd_course.proofs.standing.Standing.begin.Goals as goal

pub restore-requires : goal.restore-requires
restore-requires c =
    state_each c.args.project.now c.args.project.now.links.list c.args.self.now.commanded.items c.requires.is.states

pub returns-clause-is : goal.returns-clause-is
returns-clause-is c =
    let project = c.args.project.now in
    let stocks = ap (λ v. v.items) c.restore.ensures.stocks in
    let inflows = ap (λ v. v.items) c.restore.ensures.inflows in
    record {
      stock_each = ap length stocks ∙ c.requires.is.stock_each;
      inflow_each = ap length inflows ∙ c.requires.is.inflow_each;
      stocks = subst (All IsSmallStock) (sym stocks) c.requires.is.stocks;
      inflows = subst (All IsSmallInflow) (sym inflows) c.requires.is.inflows;
      within = tt;
      states = subst (AllZip (IsOwnState project) project.links.list) (sym c.restore.ensures.commanded)
          (initial_own project c.requires.sound);
    }
