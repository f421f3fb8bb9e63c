use Rattle.hyd_judge_links_controls_and_rules.proofs.RangeLemmas.{refused_pipe}
use Rattle.hyd_build_links_controls_and_rules.proofs.PipeLemmas.{pipe_made}
use Rattle.hyd_build_links_controls_and_rules.proofs.pipes.manning.Goals as goal

pub unreachable-requires : goal.unreachable-requires
unreachable-requires c =
    let pipe = c.args.pipe.now in
    c.requires.free (refused_pipe pipe.length pipe.diameter pipe.roughness pipe.minor c.args.us
    c.in_default.ensures.refused)

pub returns : goal.returns
returns c = λ rows row us formula is.
    (formula, pipe_made rows row c.args.us c.args.pipe.now c.in-Ok.cap us is c.in-Ok.ensures.made c.in-Ok.ensures.origin)
