use Rattle.std.proofs.Common.{ap, arith}
use Rattle.hyd_spec_certificates.specs.RecordAndStanding.{Record, Standing}
use Rattle.hyd_cert.specs.Lines.{Header}
use Rattle.hyd_cert.specs.RecordView.{row_of}
use Rattle.hyd_period_network.specs.NetAsPeriodNetwork.{grid_of}
use Rattle.hyd_period_end.specs.FactsBeforeVectors.{AreBegun}
use Rattle.hyd_period_end.specs.OpenMatters.{IsOpenAt, SharesVectors}
use Rattle.hyd_period_end.specs.declared.undecided.Open.{Open}
use Rattle.hyd_sim.specs.RunView.{standing_for}
use Rattle.hyd_sim.proofs.PeriodsByFoundVectors.{closed-over, begins-before}
use Rattle.hyd_sim.proofs.MissingVectors.{if-err, on-ok-four}
use Rattle.hyd_sim.proofs.end_of_due_period.end_period.Goals as goal

pub end_run-requires-clause-tanks : goal.end_run-requires-clause-tanks
end_run-requires-clause-tanks c = ap (λ (h : Header). h.tanks) c.requires.header

pub finish-requires-clause-tanks : goal.finish-requires-clause-tanks
finish-requires-clause-tanks c = ap (λ (h : Header). h.tanks) c.requires.header

pub finish-requires-clause-before_end : goal.finish-requires-clause-before_end
finish-requires-clause-before_end c =
    let time = c.requires.begun.time in
    let before = begins-before c.args.project.now c.args.standing.now c.requires.standing c.if-standing-project.false in
    omega (arith, time, before)

pub returns-clause-over : goal.returns-clause-over
returns-clause-over c =
    let project = c.args.project.now in
    let here = c.args.standing.now in
    on-ok-four _ _ _ _ _ c.finish.result
    (λ closed held have some. closed-over project here (grid_of c.args.net.now) c.finish.new.row c.finish.new.facts
    c.finish.new.self c.if-standing-project.false (closed (standing_for here) c.requires.begun) held have some)
    c.finish.ensures.closed c.finish.ensures.held c.finish.ensures.have c.finish.ensures.some

pub returns-clause-open : goal.returns-clause-open
returns-clause-open c =
    let project = c.args.project.now in
    let standing = standing_for c.args.standing.now in
    let grid = grid_of c.args.net.now in
    if-err (λ (found : Open). (at : Standing) (other : Record) → AreBegun project at c.args.facts.now
    → SharesVectors other (row_of c.args.row.now) → IsOpenAt project grid at other found)
    (λ (found : Open). (other : Record) → SharesVectors other (row_of c.args.row.now)
    → IsOpenAt project grid standing other found) c.finish.result
    (λ found all other share. all standing other c.requires.begun share) c.finish.ensures.open

pub returns-then-standing-project-clause-over : goal.returns-then-standing-project-clause-over
returns-then-standing-project-clause-over c = c.end_run.ensures.over c.args.close.now
