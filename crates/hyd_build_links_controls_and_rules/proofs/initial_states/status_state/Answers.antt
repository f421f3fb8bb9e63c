use Rattle.hyd_build_links_controls_and_rules.proofs.InitialStateLemmas.{status_open}
use Rattle.hyd_build_links_controls_and_rules.proofs.initial_states.status_state.Goals as goal

pub returns-in_default : goal.returns-in_default
returns-in_default c = λ words is. status_open words c.args.status is c.in_default.not-Closed
