use Rattle.std.proofs.Common.{List, length, sym, ap, ◌∙◌, arith}
use Rattle.std.specs.Prelude.{slice_set}
use Rattle.std.proofs.lemmas.Bool.{true≢false}
use Rattle.std.proofs.lemmas.List.{length-set}
use Rattle.hyd_spec.specs.ProgramTypes.{LinkState, Closed}
use Rattle.hyd_first_period.proofs.LinksAtFirst.{states-with-shut, long-at-first, still-ready, none-refused}
use Rattle.hyd_first_period.proofs.first_period.FirstPeriod.start_with_shut.Goals as goal

pub restore-requires : goal.restore-requires
restore-requires c =
    c.requires.ready.each ∙ sym (ap length c.requires.ready.started
    ∙ long-at-first c.args.project.now c.requires.sound)

pub close-requires : goal.close-requires
close-requires c =
    let inside = c.requires.inside in
    let long = ap length (c.restore.ensures.links ∙ c.requires.ready.started)
    ∙ long-at-first c.args.project.now c.requires.sound in
    omega (arith, inside, long)

pub set-requires-clause-ready : goal.set-requires-clause-ready
set-requires-clause-ready c =
    still-ready c.args.project.now c.args.self.now c.close.new.self c.requires.ready
    (c.close.ensures.net ∙ c.restore.ensures.net) (c.close.ensures.stocks ∙ c.restore.ensures.stocks)
    (c.close.ensures.started ∙ c.restore.ensures.started)
    (ap length c.close.ensures.links
    ∙ (length-set c.restore.new.self.links.items c.args.link Closed
    ∙ (ap length (c.restore.ensures.links ∙ c.requires.ready.started)
    ∙ long-at-first c.args.project.now c.requires.sound)))

pub set-requires-clause-states : goal.set-requires-clause-states
set-requires-clause-states c =
    states-with-shut c.args.project.now c.requires.sound _ c.args.link
    (c.close.ensures.links ∙ ap (λ (ls : List LinkState). slice_set ls c.args.link Closed)
    (c.restore.ensures.links ∙ c.requires.ready.started))

pub unreachable-requires : goal.unreachable-requires
unreachable-requires c =
    true≢false (sym c.if-is_err.true ∙ (c.is_err.ensures.value
    ∙ none-refused c.args.project.now c.set.result c.requires.in_range c.set.ensures.refused))
