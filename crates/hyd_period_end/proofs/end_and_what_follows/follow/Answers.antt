use Rattle.std.proofs.Common.{subst}
use Rattle.hyd_period_facts.specs.TankStart.{IsUnsettled}
use Rattle.hyd_period_end.proofs.EndedPeriods.{open-tank, open-control}
use Rattle.hyd_period_end.proofs.end_and_what_follows.follow.Goals as goal

pub returns-in-Err-Tank-clause-open : goal.returns-in-Err-Tank-clause-open
returns-in-Err-Tank-clause-open c = λ grid standing row links started leaves.
    open-tank c.args.project.now grid standing row c.args.seconds links c.follow.new.self.levels.list
    (c.follow.ensures.levels grid standing row started) leaves c.in-Err-Tank.found
    (subst (IsUnsettled c.args.project.now c.follow.new.self.levels.list) c.in-Err-Tank.field-0-is
    c.in-Err-Tank.ensures.open)

pub returns-in-Err-Control-clause-open : goal.returns-in-Err-Control-clause-open
returns-in-Err-Control-clause-open c = λ grid standing row links started leaves.
    let first = subst (IsUnsettled c.args.project.now c.follow.new.self.levels.list) c.in-Err-Control.field-0-is
    c.in-Err-Control.ensures.open in
    open-control c.args.project.now grid standing row c.args.seconds links c.follow.new.self.levels.list
    (c.follow.ensures.levels grid standing row started) leaves c.in-Err-Control.found first.0 first.1
