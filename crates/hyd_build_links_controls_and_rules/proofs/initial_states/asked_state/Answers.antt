use Rattle.hyd_build_links_controls_and_rules.proofs.PipePumpAndValveFacts.{no_fault}
use Rattle.hyd_build_links_controls_and_rules.proofs.InitialStateLemmas.{status_facts, settable}
use Rattle.hyd_build_links_controls_and_rules.proofs.initial_states.asked_state.Goals as goal

pub unreachable-requires : goal.unreachable-requires
unreachable-requires c =
    no_fault _ _ (status_facts c.args.text.now.text c.args.given.now c.args.line.now c.args.status.now c.requires.row
    c.requires.status).own c.in_default.ensures

pub link_state-requires-clause-right : goal.link_state-requires-clause-right
link_state-requires-clause-right c =
    (status_facts c.args.text.now.text c.args.given.now c.args.line.now c.args.status.now c.requires.row
    c.requires.status).link

pub link_state-requires-clause-settable : goal.link_state-requires-clause-settable
link_state-requires-clause-settable c =
    settable c.args.text.now.text c.args.given.now c.args.line.now c.args.status.now c.requires.row c.requires.status
    c.in-Ok.row.to c.in-Ok.ensures.1.to
