use Rattle.std.proofs.Common.{◌∙◌}
use Rattle.hyd_curves.proofs.NamesOnceLemmas.{with_is}
use Rattle.hyd_curves.proofs.VolumeCurveLemmas.{list_more}
use Rattle.hyd_curves.proofs.volume_curves.Shapes.add.Goals as goal

pub returns-then-not-new-clause-names : goal.returns-then-not-new-clause-names
returns-then-not-new-clause-names c = with_is _ _ _ _ c.in_ok-new.ensures.present c.in_ok-new.ensures.names

pub returns-clause-names : goal.returns-clause-names
returns-clause-names c = with_is _ _ _ _ c.in_ok-new.ensures.present c.in_ok-new.ensures.names

pub returns-clause-lists : goal.returns-clause-lists
returns-clause-lists c = λ rows before e.
    list_more rows c.args.self.now (record { names = c.add.new.self; lists = c.push.new.self }) c.args.name.now
    c.in_ok-shape.field-0 before (c.in_ok-shape.ensures ∙ e) (rw c.if-not-new.false at c.in_ok-new.ensures.names)
    c.in_ok-push.ensures.ok
