use Rattle.std.proofs.Common.{sym}
use Rattle.hyd_rows_and_tables.proofs.TableLemmas.{found_at, found_lies, not_found}
use Rattle.hyd_rows_and_tables.proofs.id_table.Table.find.Goals as goal

pub returns-in_err-number-clause-none : goal.returns-in_err-number-clause-none
returns-in_err-number-clause-none c = rw c.from_residual.ensures
    (λ rows table. not_found c.args.text.now.text rows c.args.self.now.names c.args.self.now.firsts.items
    c.args.name.now table (sym c.in_err-number.ensures.value))

pub returns-clause-some : goal.returns-clause-some
returns-clause-some c = λ rows table. found_at c.args.text.now.text rows c.args.self.now.names
    c.args.self.now.firsts.items c.args.name.now c.in_ok-number.number c.index.result.now table
    (sym c.in_ok-number.ensures.value) c.index.ensures

pub returns-clause-lies : goal.returns-clause-lies
returns-clause-lies c = λ rows table. found_lies c.args.text.now.text rows c.args.self.now.names
    c.args.self.now.firsts.items c.args.name.now c.in_ok-number.number c.index.result.now table
    (sym c.in_ok-number.ensures.value) c.index.ensures
