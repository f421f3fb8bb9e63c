use Rattle.hyd_build_links_controls_and_rules.specs.RowsToBuildLinksFrom.{rows_from}
use Rattle.hyd_build_links_controls_and_rules.proofs.LinksBuiltSoFarLemmas.{built_none, built_all}
use Rattle.hyd_build_links_controls_and_rules.proofs.links.add_section.Goals as goal

pub loop-place-init : goal.loop-place-init
loop-place-init c = λ before m.
    built_none (rows_from c.args.text.now.text c.args.given.now) before c.args.section c.args.links.now.list m

pub returns : goal.returns
returns c = λ before m.
    built_all c.args.text.now.text c.args.given.now.lines.now before c.args.section c.loop-place.place
    c.loop-place.links.list (c.loop-place.invariant before m) c.loop-place-test.false
