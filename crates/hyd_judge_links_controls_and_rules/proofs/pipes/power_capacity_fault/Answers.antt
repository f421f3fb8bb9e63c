use Rattle.hyd_judge_links_controls_and_rules.proofs.RangeLemmas.{refused_power_numbers}
use Rattle.hyd_judge_links_controls_and_rules.proofs.pipes.power_capacity_fault.Goals as goal

pub returns-in-Ok : goal.returns-in-Ok
returns-in-Ok c = λ refused. c.in-Ok.ensures.accepted
    (refused_power_numbers c.args.pipe.now.length c.args.pipe.now.diameter c.args.pipe.now.roughness
    c.args.pipe.now.minor c.args.us refused)
