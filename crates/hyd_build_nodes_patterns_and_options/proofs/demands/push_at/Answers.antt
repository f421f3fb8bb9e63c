use Rattle.hyd_build_nodes_patterns_and_options.proofs.DemandLemmas.{one_more}
use Rattle.hyd_build_nodes_patterns_and_options.proofs.demands.push_at.Goals as goal

pub returns : goal.returns
returns c =
    one_more c.args.lists.now.items c.args.number c.index_mut-list.result.now c.push.new.self c.args.demand c.requires
    c.index_mut-list.ensures.value c.in_ok-push.ensures.ok
