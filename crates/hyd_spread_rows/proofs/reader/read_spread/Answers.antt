use Rattle.std.proofs.Common.{ℕ, List, All, sym, subst, arith}
use Rattle.hyd_spec_lines.specs.WordsOfLines.{text_lines}
use Rattle.hyd_spec_spread_rows.specs.declared.Ends.{Ends}
use Rattle.hyd_spec_spread_rows.specs.RangesOfEnds.{AreFactors, AreOffsets}
use Rattle.hyd_spec_spread_rows.specs.TextsOfSpreads.{HasNoFault, rows_of}
use Rattle.hyd_theorems_on_spread_rows.proofs.SpreadsOfTexts.{demands-right, emitters-right, heads-right}
use Rattle.hyd_spread_rows.proofs.reader.read_spread.Goals as goal

pub read_rows-requires-clause-said : goal.read_rows-requires-clause-said
read_rows-requires-clause-said c = c.in_ok-tables.ensures.said c.args.project.now

pub returns-clause-range : goal.returns-clause-range
returns-clause-range c =
    let project = c.args.project.now in
    let text : List ℕ = c.args.text.now in
    let none : HasNoFault project text = record {
      short = omega (arith, c.if-text-gt-LONGEST_TEXT.false);
      lines = c.in-None.ensures.fine;
    } in
    let rows = rows_of (text_lines text) in
    let said = c.in-None.ensures.said in
    record {
      demands = subst (λ (es : List Ends). All AreFactors es) (sym (c.in_ok-rows.ensures.demands rows said))
          (demands-right project text none);
      emitters = subst (λ (es : List Ends). All AreFactors es) (sym (c.in_ok-rows.ensures.emitters rows said))
          (emitters-right project text none);
      heads = subst (λ (es : List Ends). All AreOffsets es) (sym (c.in_ok-rows.ensures.heads rows said))
          (heads-right project text none);
    }
