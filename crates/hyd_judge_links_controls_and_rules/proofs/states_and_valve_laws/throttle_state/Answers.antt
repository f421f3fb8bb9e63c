use Rattle.std.proofs.Common.{arith, subst}
use Rattle.std.specs.Prelude.{ℤ}
use Rattle.std.proofs.lemmas.Int.{ints}
use Rattle.hyd_spec_input.specs.Project.{IsOpenValve}
use Rattle.hyd_judge_links_controls_and_rules.proofs.states_and_valve_laws.throttle_state.Goals as goal

pub returns : goal.returns
returns c = (
  omega (arith, ints),
  subst (λ (d : ℤ). IsOpenValve c.args.us d c.args.number.nano c.valve_law.result) c.diameter.ensures.nano
      c.valve_law.ensures,
)
