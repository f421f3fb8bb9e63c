use Rattle.std.proofs.Common.{◌∙◌, sym, subst}
use Rattle.hyd_spec_certificates.specs.declared.LevelSpan.{LevelSpan}
use Rattle.hyd_spec_certificates.specs.Certificate.{IsInBox}
use Rattle.hyd_lemmas.proofs.ListsOptionsAndResults.{item_there}
use Rattle.hyd_targets.proofs.TargetsOfJunctions.{low-in-box, high-in-box, target-there}
use Rattle.hyd_spread_targets.specs.InquiriesWithin.{target_within}
use Rattle.hyd_spread_targets.proofs.spread_inquiry.SpreadInquiry.target.Goals as goal

pub returns-clause-value : goal.returns-clause-value
returns-clause-value c here at =
    c.index.ensures ∙ target-there c.args.project.now (target_within c.args.project.now c.args.self.now)
    c.args.self.now.targets.items c.args.junction here _ c.requires.open.targets at

pub returns-clause-low_in_box : goal.returns-clause-low_in_box
returns-clause-low_in_box c =
    let project = c.args.project.now in
    let is-open = c.requires.open in
    let at = item_there project.junctions.list c.args.junction c.requires.inside in
    subst (λ (t : LevelSpan). IsInBox t.lo)
    (sym (c.index.ensures ∙ target-there project (target_within project c.args.self.now)
    c.args.self.now.targets.items c.args.junction at.0 _ is-open.targets at.1))
    (low-in-box project c.requires.sound c.args.self.now.pressure.nano is-open.small c.args.junction at.0 at.1)

pub returns-clause-high_in_box : goal.returns-clause-high_in_box
returns-clause-high_in_box c =
    let project = c.args.project.now in
    let is-open = c.requires.open in
    let at = item_there project.junctions.list c.args.junction c.requires.inside in
    subst (λ (t : LevelSpan). IsInBox t.hi)
    (sym (c.index.ensures ∙ target-there project (target_within project c.args.self.now)
    c.args.self.now.targets.items c.args.junction at.0 _ is-open.targets at.1))
    (high-in-box project c.requires.sound c.args.self.now.pressure.nano is-open.small c.args.junction at.0 at.1)
