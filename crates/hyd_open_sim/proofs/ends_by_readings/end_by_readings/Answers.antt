use Rattle.std.proofs.Common.{◌≡◌, ◌∙◌, refl, arith}
use Rattle.hyd_spec_certificates.specs.Stops.{IsTightRow}
use Rattle.hyd_period_end.specs.declared.undecided.Open.{Open}
use Rattle.hyd_open_period_end.specs.LookedAt.{ForPeriod, ForRecord}
use Rattle.hyd_open_period_end.specs.OpenMatters.{IsOpenlyOpenAt, IsLeftOpen}
use Rattle.hyd_open_period_end.proofs.StocksThere.{there-of}
use Rattle.hyd_open_sim_start.specs.StandingsOfOpenRuns.{known_for, standing_for}
use Rattle.hyd_open_sim_start.proofs.StandingsAtStarts.{late-small}
use Rattle.hyd_sim.proofs.MissingVectors.{if-err, on-ok-four}
use Rattle.hyd_open_sim.proofs.EndsOfDuePeriods.{closed-over, last-decided, last-lengths, on-err, on-ok}
use Rattle.hyd_open_sim.proofs.StandingsBehindPeriods.{begins-before}
use Rattle.hyd_open_sim.proofs.ends_by_readings.end_by_readings.Goals as goal

pub finish-requires-clause-there : goal.finish-requires-clause-there
finish-requires-clause-there c =
    there-of c.args.project.now (known_for c.args.standing.now) c.args.facts.now c.requires.begun
    c.requires.standing.firm.tidy

pub finish-requires-clause-begins : goal.finish-requires-clause-begins
finish-requires-clause-begins c = record {
  standing = standing_for c.args.standing.now;
  late_is = refl;
  begun = c.requires.begun;
}

pub finish-requires-clause-late : goal.finish-requires-clause-late
finish-requires-clause-late c =
    late-small c.args.project.now c.args.standing.now c.requires.sound c.requires.standing

pub finish-requires-clause-before_end : goal.finish-requires-clause-before_end
finish-requires-clause-before_end c =
    let time = c.requires.begun.time in
    let before = begins-before c.args.project.now c.args.standing.now c.requires.standing c.if-standing-project.false in
    omega (arith, time, before)

pub returns-clause-over : goal.returns-clause-over
returns-clause-over c =
    let project = c.args.project.now in
    let here = c.args.standing.now in
    on-ok-four _ _ _ _ _ c.finish.result
    (λ closed within held have grid other looked shortest length. closed-over project c.args.slack here grid other
    c.finish.new.facts c.finish.new.self c.if-standing-project.false
    (closed grid (standing_for here) other refl c.requires.begun looked shortest length) within held have)
    c.finish.ensures.closed c.finish.ensures.within_slack c.finish.ensures.held c.finish.ensures.have

pub returns-clause-open : goal.returns-clause-open
returns-clause-open c =
    let project = c.args.project.now in
    let here = c.args.standing.now in
    let facts = c.args.facts.now in
    let readings = c.args.close.now.readings in
    if-err (λ (what : Open). ForPeriod project here.late facts readings
    (λ grid standing other. IsOpenlyOpenAt project grid standing c.args.slack other what))
    (λ (what : Open). ForRecord project facts readings
    (λ grid other. IsOpenlyOpenAt project grid (standing_for here) c.args.slack other what)) c.finish.result
    (λ what all grid other looked. all grid (standing_for here) other refl c.requires.begun looked)
    c.finish.ensures.open

pub returns-clause-stops : goal.returns-clause-stops
returns-clause-stops c =
    let project = c.args.project.now in
    let here = c.args.standing.now in
    let facts = c.args.facts.now in
    let readings = c.args.close.now.readings in
    if-err (λ (what : Open). ForPeriod project here.late facts readings
    (λ grid standing other. IsTightRow project standing.known grid other.row
    → IsLeftOpen project standing c.args.slack what))
    (λ (what : Open). ForRecord project facts readings
    (λ grid other. IsTightRow project (known_for here) grid other.row
    → IsLeftOpen project (standing_for here) c.args.slack what)) c.finish.result
    (λ what all grid other looked tight. all grid (standing_for here) other refl c.requires.begun looked tight)
    c.finish.ensures.stops

pub returns-clause-matter : goal.returns-clause-matter
returns-clause-matter c = λ wide.
    on-err _ _ c.finish.result
    (λ all grid other looked. all grid (standing_for c.args.standing.now) other refl c.requires.begun looked)
    (c.finish.ensures.matter wide)

pub returns-clause-decided : goal.returns-clause-decided
returns-clause-decided c =
    on-ok _ _ c.finish.result
    (λ all grid other looked. all grid (standing_for c.args.standing.now) other refl c.requires.begun looked)
    c.finish.ensures.decided

pub returns-clause-lengths : goal.returns-clause-lengths
returns-clause-lengths c =
    on-ok _ _ c.finish.result
    (λ all grid other looked apart. all grid (standing_for c.args.standing.now) other refl c.requires.begun looked
    apart)
    c.finish.ensures.lengths

pub returns-then-standing-project-clause-over : goal.returns-then-standing-project-clause-over
returns-then-standing-project-clause-over c = λ grid other looked shortest length.
    c.end_run.ensures.over c.args.slack grid other looked (shortest ∙ c.end_run.ensures.shortest)
    (length ∙ c.end_run.ensures.length)

pub returns-then-standing-project-clause-decided : goal.returns-then-standing-project-clause-decided
returns-then-standing-project-clause-decided c = λ grid other looked.
    last-decided c.args.project.now c.args.standing.now grid other c.if-standing-project.true

pub returns-then-standing-project-clause-lengths : goal.returns-then-standing-project-clause-lengths
returns-then-standing-project-clause-lengths c = λ grid other looked.
    last-lengths c.args.project.now c.args.standing.now grid other _ _ c.if-standing-project.true
    c.end_run.ensures.shortest c.end_run.ensures.length
