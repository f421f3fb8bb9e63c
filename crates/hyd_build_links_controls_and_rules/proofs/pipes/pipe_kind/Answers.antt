use Rattle.std.proofs.Common.{ap, ◌∙◌}
use Rattle.hyd_num.specs.FileQuantity.{is_us_unit}
use Rattle.hyd_spec_lines.specs.Lines.{row_of}
use Rattle.hyd_build_links_controls_and_rules.specs.RowsToBuildLinksFrom.{rows_from}
use Rattle.hyd_judge_links_controls_and_rules.proofs.RangeLemmas.{positive_up_to, minor_up_to}
use Rattle.hyd_build_links_controls_and_rules.proofs.PipePumpAndValveFacts.{no_fault, pipe_facts}
use Rattle.hyd_build_links_controls_and_rules.proofs.pipes.pipe_kind.Goals as goal

pub unreachable-requires : goal.unreachable-requires
unreachable-requires c =
    no_fault _ _ (pipe_facts c.args.text.now.text c.args.given.now c.args.line.now c.requires).own c.in_default.ensures

pub loss_of-loss-requires-clause-length : goal.loss_of-loss-requires-clause-length
loss_of-loss-requires-clause-length c =
    positive_up_to 1000000 c.in-Ok.pipe.length _ c.in-Ok.ensures.1.length
    (pipe_facts c.args.text.now.text c.args.given.now c.args.line.now c.requires).numbers.long

pub loss_of-loss-requires-clause-diameter : goal.loss_of-loss-requires-clause-diameter
loss_of-loss-requires-clause-diameter c =
    positive_up_to 10000 c.in-Ok.pipe.diameter _ c.in-Ok.ensures.1.diameter
    (pipe_facts c.args.text.now.text c.args.given.now c.args.line.now c.requires).numbers.across

pub loss_of-loss-requires-clause-roughness : goal.loss_of-loss-requires-clause-roughness
loss_of-loss-requires-clause-roughness c = λ formula.
    positive_up_to 10 c.in-Ok.pipe.roughness _ c.in-Ok.ensures.1.roughness
    ((pipe_facts c.args.text.now.text c.args.given.now c.args.line.now c.requires).numbers.rough formula)

pub loss_of-loss-requires-clause-coefficient : goal.loss_of-loss-requires-clause-coefficient
loss_of-loss-requires-clause-coefficient c = λ formula.
    positive_up_to 10000 c.in-Ok.pipe.roughness _ c.in-Ok.ensures.1.roughness
    ((pipe_facts c.args.text.now.text c.args.given.now c.args.line.now c.requires).coefficient formula)

pub loss_of-loss-requires-clause-minor : goal.loss_of-loss-requires-clause-minor
loss_of-loss-requires-clause-minor c =
    minor_up_to c.in-Ok.pipe.minor _ c.in-Ok.ensures.1.minor
    (pipe_facts c.args.text.now.text c.args.given.now c.args.line.now c.requires).numbers.fittings

pub loss_of-loss-requires-clause-free : goal.loss_of-loss-requires-clause-free
loss_of-loss-requires-clause-free c =
    (pipe_facts c.args.text.now.text c.args.given.now c.args.line.now c.requires).free c.in-Ok.pipe c.is_us.result
    c.in-Ok.ensures.1 c.is_us.ensures

pub returns : goal.returns
returns c =
    let rows = rows_from c.args.text.now.text c.args.given.now in
    let row = row_of c.args.text.now.text c.args.line.now in
    c.kind_of.ensures rows row c.in-Ok.ensures.1.status
    (c.loss_of-loss.ensures rows row (c.is_us.ensures ∙ ap is_us_unit c.requires.right.unit_is)
    c.requires.right.by_power_is c.in-Ok.ensures.1)
