use Rattle.hyd_rows_and_tables.specs.RowsOfLines.{rows_at}
use Rattle.hyd_rows_and_tables.proofs.TableLemmas.{even}
use Rattle.hyd_inp.proofs.IdsInTheirOrder.{are_node_ids}
use Rattle.hyd_inp.proofs.numbered_names.nodes_apart.Goals as goal

pub are_in_order-requires-clause-even : goal.are_in_order-requires-clause-even
are_in_order-requires-clause-even c =
    even c.args.text.now.text _ c.args.table.now.names c.args.table.now.firsts.items c.requires.table

pub returns-then-are_in_order-clause-none : goal.returns-then-are_in_order-clause-none
returns-then-are_in_order-clause-none c =
    are_node_ids (rows_at c.args.text.now.text c.args.lines.now) c.args.table.now.names
    (c.are_in_order.ensures c.if-are_in_order.true)
