use Rattle.std.proofs.Common.{refl, arith, length, ap}
use Rattle.hyd_spec_input.specs.SectionsAndTables.{is_link}
use Rattle.hyd_rows_and_tables.specs.RowsOfLines.{rows_at}
use Rattle.hyd_rows_and_tables.proofs.WrongInSectionLemmas.{table_of_all, found_fewer}
use Rattle.hyd_judge_links_controls_and_rules.specs.LinksSoFar.{IsWrongLink}
use Rattle.hyd_judge_links_controls_and_rules.proofs.links.judge_links.Goals as goal

pub loop-place-init : goal.loop-place-init
loop-place-init c = record {
  count = refl;
  small = omega arith;
  table = c.new.ensures.table c.args.text.now.text;
  few = omega (arith, ap length c.new.ensures.empty);
  found = λ k l. absurd (omega arith);
}

pub returns : goal.returns
returns c =
    let text = c.args.text.now.text in
    let lines = c.args.lines.now in
    record {
      table = table_of_all text lines c.loop-place.place is_link c.loop-place.links.table.names
          c.loop-place.links.table.firsts.items c.loop-place.invariant.table c.loop-place-test.false;
      found = found_fewer (rows_at text lines) (IsWrongLink (rows_at text lines)) c.loop-place.place (length lines)
          c.loop-place.links.found c.loop-place.invariant.found c.loop-place-test.false;
    }
