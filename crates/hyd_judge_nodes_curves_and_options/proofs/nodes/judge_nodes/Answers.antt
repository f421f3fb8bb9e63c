use Rattle.std.proofs.Common.{refl, arith, length, ap}
use Rattle.hyd_spec_input.specs.SectionsAndTables.{is_node}
use Rattle.hyd_rows_and_tables.specs.RowsOfLines.{rows_at}
use Rattle.hyd_rows_and_tables.proofs.WrongInSectionLemmas.{table_of_all, found_fewer}
use Rattle.hyd_judge_nodes_curves_and_options.specs.JudgedNodes.{IsWrongNode}
use Rattle.hyd_judge_nodes_curves_and_options.proofs.nodes.judge_nodes.Goals as goal

pub loop-place-init : goal.loop-place-init
loop-place-init c = record {
  counts = record {
    junctions = refl;
    reservoirs = refl;
    tanks = refl;
    few_junctions = omega arith;
    few_reservoirs = omega arith;
    few_tanks = omega arith;
  };
  table = c.new.ensures.table c.args.text.now.text;
  few = omega (arith, ap length c.new.ensures.empty);
  found = λ k l. absurd (omega arith);
}

pub returns : goal.returns
returns c =
    let text = c.args.text.now.text in
    let lines = c.args.lines.now in
    record {
      table = table_of_all text lines c.loop-place.place is_node c.loop-place.nodes.table.names
          c.loop-place.nodes.table.firsts.items c.loop-place.invariant.table c.loop-place-test.false;
      found = found_fewer (rows_at text lines) (IsWrongNode (rows_at text lines)) c.loop-place.place (length lines)
          c.loop-place.nodes.found c.loop-place.invariant.found c.loop-place-test.false;
    }
