use Rattle.std.proofs.Common.{◌≡◌, ◌∙◌, ◌<◌, ◌≤◌, ℕ, ltb, true, false, length, ap, arith}
use Rattle.std.proofs.lemmas.Bool.Decides.{nat_tests}
use Rattle.hyd_spec.specs.Rules.{rule_changes}
use Rattle.hyd_theorems_on_histories.proofs.LengthAndLinkStates.{unchanged}
use Rattle.hyd_period_length.proofs.AppendedChanges.{none_added, some_added, view_stays}
use Rattle.hyd_open_rules.proofs.rule_instants.changes_any.Goals as goal

not_more : (a b x y : ℕ) → a ≡ x → b ≡ y → ltb a b ≡ false → y ≤ x
not_more a b x y p q e = grind (arith, nat_tests)

is_more : (a b x y : ℕ) → a ≡ x → b ≡ y → ltb a b ≡ true → x < y
is_more a b x y p q e = grind (arith, nat_tests)

pub returns-clause-none : goal.returns-clause-none
returns-clause-none c = λ e.
    none_added c.args.changes.now.list c.act.new.changes.list
    (rule_changes c.args.project.now c.args.values.now c.args.links.now) c.act.ensures.rows
    (not_more _ _ _ _ (ap length c.rows-before.ensures) (ap length c.rows.ensures) e)

pub returns-clause-some : goal.returns-clause-some
returns-clause-some c = λ e.
    some_added c.args.changes.now.list c.act.new.changes.list
    (rule_changes c.args.project.now c.args.values.now c.args.links.now) c.act.ensures.rows
    (is_more _ _ _ _ (ap length c.rows-before.ensures) (ap length c.rows.ensures) e)

pub returns-clause-links_stay : goal.returns-clause-links_stay
returns-clause-links_stay c = λ e.
    c.act.ensures.links ∙ unchanged c.args.project.now c.args.values.now c.args.links.now
    (none_added c.args.changes.now.list c.act.new.changes.list
    (rule_changes c.args.project.now c.args.values.now c.args.links.now) c.act.ensures.rows
    (not_more _ _ _ _ (ap length c.rows-before.ensures) (ap length c.rows.ensures) e))

pub returns-clause-changes_stay : goal.returns-clause-changes_stay
returns-clause-changes_stay c = λ e.
    view_stays c.args.changes.now c.act.new.changes
    (rule_changes c.args.project.now c.args.values.now c.args.links.now) c.act.ensures.rows c.act.ensures.spare
    (not_more _ _ _ _ (ap length c.rows-before.ensures) (ap length c.rows.ensures) e)
