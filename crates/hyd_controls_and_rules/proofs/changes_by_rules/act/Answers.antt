use Rattle.std.proofs.Common.{◌≡◌, ◌++◌, List, Option, length, refl, sym, subst, ap, ◌∙◌, arith}
use Rattle.std.proofs.lemmas.List.{nil_from_length}
use Rattle.hyd_net.specs.ListView.{ListView}
use Rattle.hyd_spec.specs.declared.Change.{Change}
use Rattle.hyd_spec.specs.Rules.{offers_from, rule_changes}
use Rattle.hyd_controls_and_rules.specs.declared.actions_by_priority.Offer as program
use Rattle.hyd_controls_and_rules.specs.ActionsByPriority.{AreBest}
use Rattle.hyd_controls_and_rules.proofs.ChangesByBestOffers.{whole_table, changes_are, states_are, spare_is}
use Rattle.hyd_controls_and_rules.proofs.NoRules.{acted_alone, changes_alone}
use Rattle.hyd_controls_and_rules.proofs.changes_by_rules.act.Goals as goal

pub returns-then-len-eq0-clause-links : goal.returns-then-len-eq0-clause-links
returns-then-len-eq0-clause-links c = acted_alone c.args.project.now c.args.values.now c.args.links.now
    (nil_from_length c.args.project.now.rules.list (sym c.len.ensures ∙ c.if-len-eq0.true))

pub returns-then-len-eq0-clause-rows : goal.returns-then-len-eq0-clause-rows
returns-then-len-eq0-clause-rows c = changes_alone c.args.project.now c.args.values.now c.args.links.now
    c.args.changes.now.list (nil_from_length c.args.project.now.rules.list (sym c.len.ensures ∙ c.if-len-eq0.true))

pub returns-clause-links : goal.returns-clause-links
returns-clause-links c =
    let project = c.args.project.now in
    let count = length project.links.list in
    let table : c.deref.result.now ≡ c.rank_offers.new.best =
    c.deref.ensures.value ∙ whole_table c.rank_offers.new.best c.lengthen.new.best.items
    c.lengthen.new.best.len (omega arith) in
    let are = subst (λ (best : List (Option program.Offer)). AreBest count (offers_from 0 project.rules.list
    c.args.values.now) best) (sym table) c.rank_offers.ensures in
    c.carry_out.ensures.links ∙ states_are project c.args.values.now count c.deref.result.now
    c.args.links.now are c.requires.each_link

pub returns-clause-rows : goal.returns-clause-rows
returns-clause-rows c =
    let project = c.args.project.now in
    let count = length project.links.list in
    let table : c.deref.result.now ≡ c.rank_offers.new.best =
    c.deref.ensures.value ∙ whole_table c.rank_offers.new.best c.lengthen.new.best.items
    c.lengthen.new.best.len (omega arith) in
    let are = subst (λ (best : List (Option program.Offer)). AreBest count (offers_from 0 project.rules.list
    c.args.values.now) best) (sym table) c.rank_offers.ensures in
    c.carry_out.ensures.rows
    ∙ ap (λ (more : List Change). c.changes.inside.rows.list ++ more) (changes_are project
    c.args.values.now count c.deref.result.now c.args.links.now are c.requires.each_link)
    ∙ ap (λ (view : ListView Change). view.list ++ rule_changes project c.args.values.now c.args.links.now)
    c.changes.view_is

pub returns-clause-spare : goal.returns-clause-spare
returns-clause-spare c =
    spare_is c.changes.inside.rows.list c.carry_out.new.rows.list c.changes.inside.room _ _ _
    (length c.args.links.now)
    (ap (λ (view : ListView Change). length view.list) c.changes.view_is) (ap (λ
    (view : ListView Change). view.spare) c.changes.view_is)
    refl c.changes.invariant.places c.carry_out.ensures.most
    (omega (arith, c.requires.room, c.requires.each_link))

pub returns-clause-most : goal.returns-clause-most
returns-clause-most c =
    let held : length c.changes.inside.rows.list ≡ length c.args.changes.now.list = ap (λ
    (view : ListView Change). length view.list) c.changes.view_is in
    omega (arith, held, c.carry_out.ensures.most)
