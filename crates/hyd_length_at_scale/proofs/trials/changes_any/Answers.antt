use Rattle.std.proofs.Common.{◌≡◌, ◌∙◌, ◌++◌, List, length, ap, sym}
use Rattle.hyd_lemmas.proofs.ListsOptionsAndResults.{no_items}
use Rattle.hyd_spec.specs.declared.Change.{Change}
use Rattle.hyd_spec.specs.Rules.{rule_changes}
use Rattle.hyd_theorems_on_histories.proofs.LengthAndLinkStates.{unchanged}
use Rattle.hyd_length_at_scale.proofs.TestsKept.{where_empty}
use Rattle.hyd_length_at_scale.proofs.trials.changes_any.Goals as goal

pub returns-clause-stays : goal.returns-clause-stays
returns-clause-stays c =
    let changes : List Change = rule_changes c.args.project.now c.args.values.now c.args.links.now in
    let rows : c.act.new.changes.list ≡ changes =
    c.act.ensures.rows ∙ ap (λ (before : List Change). before ++ changes) c.clear.ensures.empty in
    where_empty c.is_empty.result (length c.rows.result.now) (c.act.new.links ≡ c.args.links.now) c.is_empty.ensures
    (λ none. c.act.ensures.links ∙ unchanged c.args.project.now c.args.values.now c.args.links.now
    (sym rows ∙ no_items c.act.new.changes.list (ap length (sym c.rows.ensures) ∙ none)))
