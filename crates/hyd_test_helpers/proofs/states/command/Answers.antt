use Rattle.std.proofs.Common.{List, slice_index_or, subst, arith}
use Rattle.hyd_spec.specs.ProgramTypes.{Link}
use Rattle.hyd_net.specs.LinkStates.{CanHave}
use Rattle.hyd_test_helpers.proofs.Commands.{set_stands}
use Rattle.hyd_test_helpers.proofs.states.command.Goals as goal

pub returns : goal.returns
returns c =
    let link = c.index-links-number.result in
    set_stands c.args.project.now c.args.states.now c.args.link link c.in-Some.state c.requires
    (omega (arith, c.if-number-states.false))
    (subst (λ (ls : List Link). CanHave (slice_index_or ls c.args.link link).kind c.in-Some.state)
    c.as_slice-links.ensures c.in-Some.ensures.can)
    (c.in-Some.ensures.made c.args.project.now.options.unit)
