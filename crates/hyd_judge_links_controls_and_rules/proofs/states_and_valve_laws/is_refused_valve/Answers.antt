use Rattle.std.proofs.Common.{arith}
use Rattle.std.specs.Prelude.{pos, ◌<ℤ◌}
use Rattle.std.proofs.lemmas.Int.{ints}
use Rattle.hyd_judge_links_controls_and_rules.proofs.StateAndValveLawLemmas.{refused_valve, refused_numbers}
use Rattle.hyd_judge_links_controls_and_rules.proofs.states_and_valve_laws.is_refused_valve.Goals as goal

pub returns-in-Ok : goal.returns-in-Ok
returns-in-Ok c = (
  λ e. absurd (let x : ⊥ = cc in x),
  λ is. absurd (c.in-Ok.ensures.accepted (refused_numbers c.args.diameter c.args.coefficient c.args.us is)),
)

pub returns-in-Err : goal.returns-in-Err
returns-in-Err c =
    let above : pos 0 <ℤ c.args.coefficient.nano = omega (arith, ints) in
    (λ e. refused_valve c.args.diameter c.args.coefficient c.args.us above c.in-Err.ensures.refused, λ is. search)
