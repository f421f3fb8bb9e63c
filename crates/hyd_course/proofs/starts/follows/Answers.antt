use Rattle.std.proofs.Common.{sym, ap, arith}
use Rattle.hyd_met_flows.proofs.Tests.{also_true, also_false}
use Rattle.hyd_course.specs.declared.standing.Lasted.{Lasted}
use Rattle.hyd_course.proofs.StandingsAndStarts.{same_last}
use Rattle.hyd_course.proofs.starts.follows.Goals as goal

pub returns-clause-yes : goal.returns-clause-yes
returns-clause-yes c = λ before kept.
    let same = same_last c.args.project.now before c.args.standing.now c.args.last c.requires.last kept in
    let time = ap (λ (l : Lasted). l.time) same in
    let long = ap (λ (l : Lasted). l.length) same in
    also_true c.are_next.result _ _ (c.are_next.ensures.yes before kept (sym long))
    (λ stocks. record {
      not_last = λ e. absurd (omega (arith, e, time));
      at_time = omega (arith, time, long);
      stocks = stocks;
    })

pub returns-clause-no : goal.returns-clause-no
returns-clause-no c = λ before kept.
    let same = same_last c.args.project.now before c.args.standing.now c.args.last c.requires.last kept in
    also_false c.are_next.result _ _ (c.are_next.ensures.no before kept (sym (ap (λ (l : Lasted). l.length) same)))
    (λ follows. follows.stocks)
