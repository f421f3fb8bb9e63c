use Rattle.std.proofs.Common.{ap, length, map, arith}
use Rattle.std.proofs.lemmas.Bool.{eqb-true}
use Rattle.hyd_spec_lines.specs.declared.section.Section.{Section}
use Rattle.hyd_spec_input.specs.SectionsAndTables.{rows_of, own_id}
use Rattle.hyd_rows_and_tables.specs.RowsOfLines.{rows_at}
use Rattle.hyd_inp.proofs.IdsInTheirOrder.{in_turn}
use Rattle.hyd_inp.proofs.ids_in_order.are_in_order.Goals as goal

pub returns : goal.returns
returns c =
    let ids = λ (section : Section). map own_id (rows_of section (rows_at c.args.text.now.text c.args.lines.now)) in
    let names = c.args.table.now.names in
    let third = c.in-Some-count_behind-2.third in λ same.
    in_turn names (ids c.args.one) (ids c.args.two) (ids c.args.three) c.in-Some.first
    c.in-Some-count_behind.second third
    c.in-Some.ensures.ids c.in-Some-count_behind.ensures.ids c.in-Some-count_behind-2.ensures.ids
    (omega (
      arith,
      eqb-true third (length c.as_slice.result.now) same,
      ap length c.as_slice.ensures.value,
      c.requires.even,
    ))
