use Rattle.std.proofs.Common.{rules}
use Rattle.hyd_rows_and_tables.proofs.RowsSoFar.{one_more}
use Rattle.hyd_rows_and_tables.proofs.gathered_rows.gather.Goals as goal

pub loop-item-preserved : goal.loop-item-preserved
loop-item-preserved c = record {
  text = search rules;
  rows = search (one_more, rules);
  fault = search rules;
  few = search rules;
  lie = search rules;
}
