use Rattle.std.proofs.Common.{◌≡◌, length}
use Rattle.hyd_spec_lines.specs.Lines.{items_of, all_rows_in}
use Rattle.hyd_spec_input.specs.OptionsAndTimesInForce.{has_hazen_williams}
use Rattle.hyd_network_rows.specs.FormulaByLines.{formula_with}
use Rattle.hyd_network_rows.proofs.last_lines_of_options.has_hazen_williams_throughout.Given as goal

abbrev pub invariant-loop-item : goal.invariant-loop-item
invariant-loop-item l = record {
  text : l.reader.text ≡ l.text.text;
  formula : formula_with l.by_power (all_rows_in l.reader.rest)
      ≡ has_hazen_williams (all_rows_in (items_of l.text.text));
}

abbrev pub decreases-loop-item : goal.decreases-loop-item
decreases-loop-item l = length l.reader.rest
