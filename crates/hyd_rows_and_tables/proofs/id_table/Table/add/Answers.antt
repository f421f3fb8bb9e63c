use Rattle.std.proofs.Common.{refl, sym, ◌∙◌}
use Rattle.hyd_rows_and_tables.specs.RowsOfLines.{rows_at}
use Rattle.hyd_rows_and_tables.proofs.TableLemmas.{new_is, firsts_push, firsts_keep, not_false}
use Rattle.hyd_rows_and_tables.proofs.id_table.Table.add.Goals as goal

pub returns-in_ok-push-clause-new : goal.returns-in_ok-push-clause-new
returns-in_ok-push-clause-new c = λ rows table.
    rw (← c.own_id.ensures) (new_is c.own_id.result.now (rows_at c.args.text.now.text c.args.self.now.firsts.items)
    rows c.args.self.now.names c.in_ok-new.new table.aligned table.same c.in_ok-new.ensures.present)

pub returns-in_ok-push-clause-table : goal.returns-in_ok-push-clause-table
returns-in_ok-push-clause-table c = λ rows table.
    firsts_push c.args.text.now.text rows c.args.self.now.names c.add.new.self c.args.self.now.firsts.items
    c.push.new.self.items c.own_id.result.now c.args.line.now
    table c.own_id.ensures c.requires.lies (c.in_ok-new.ensures.names
    ∙ rw c.if-new.true refl) c.in_ok-push.ensures.items

pub returns-else-new-clause-new : goal.returns-else-new-clause-new
returns-else-new-clause-new c = λ rows table.
    rw (← c.own_id.ensures) (new_is c.own_id.result.now (rows_at c.args.text.now.text c.args.self.now.firsts.items)
    rows c.args.self.now.names c.in_ok-new.new table.aligned table.same c.in_ok-new.ensures.present)

pub returns-else-new-clause-table : goal.returns-else-new-clause-table
returns-else-new-clause-table c = λ rows table.
    let n = new_is c.own_id.result.now (rows_at c.args.text.now.text c.args.self.now.firsts.items) rows
    c.args.self.now.names c.in_ok-new.new table.aligned table.same c.in_ok-new.ensures.present in
    firsts_keep c.args.text.now.text rows c.args.self.now.names c.add.new.self c.args.self.now.firsts.items
    c.args.line.now
    table (c.in_ok-new.ensures.names ∙ rw c.if-new.false refl) (rw (← c.own_id.ensures) (not_false
    (sym c.if-new.false ∙ n)))
