use Rattle.std.proofs.Common.{sym, ◌∙◌}
use Rattle.std.proofs.lemmas.Bool.{true≢false}
use Rattle.hyd_sim.proofs.LinkStatesAtStart.{decided-settles}
use Rattle.hyd_open_sim_start.proofs.facts_and_links_at_start.start_links.Goals as goal

pub unreachable-requires : goal.unreachable-requires
unreachable-requires c =
    true≢false (sym c.if-is_err.true ∙ (c.is_err.ensures.value
    ∙ decided-settles c.args.project.now c.args.levels.now c.requires.decided c.settle.result c.settle.ensures.open))
