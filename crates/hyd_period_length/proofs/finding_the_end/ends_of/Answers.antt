use Rattle.std.proofs.Common.{ℕ, subst}
use Rattle.hyd_spec_certificates.specs.Decided.{IsClockLength}
use Rattle.hyd_period_length.proofs.finding_the_end.ends_of.Goals as goal

pub returns-clause-earliest : goal.returns-clause-earliest
returns-clause-earliest c = λ grid standing row started.
    let project = c.args.project.now in
    let cap : ℕ = c.clock_length-cap.result in
    c.level_ends.ensures.earliest grid standing row started
    (subst (λ (t : ℕ). IsClockLength project t cap) started.time c.clock_length-cap.ensures.length)

pub returns-clause-latest : goal.returns-clause-latest
returns-clause-latest c = λ grid standing row started.
    let project = c.args.project.now in
    let cap : ℕ = c.clock_length-cap.result in
    c.level_ends.ensures.latest grid standing row started
    (subst (λ (t : ℕ). IsClockLength project t cap) started.time c.clock_length-cap.ensures.length)
