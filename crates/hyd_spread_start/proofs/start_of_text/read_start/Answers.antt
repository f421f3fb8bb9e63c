use Rattle.std.proofs.Common.{sym, subst}
use Rattle.hyd_spec_spread.specs.Spreads.{IsSpread}
use Rattle.hyd_theorems_on_spread_rows.proofs.SpreadsOfTexts.{is-spread}
use Rattle.hyd_spread_start.proofs.start_of_text.read_start.Goals as goal

pub returns-clause-run : goal.returns-clause-run
returns-clause-run c = record {
  spread = subst (IsSpread c.args.project.now) (sym c.in_ok-rows.ensures.spread)
      (is-spread c.args.project.now c.requires c.args.text.now c.in_ok-rows.ensures.no_fault);
  range = c.in_ok-rows.ensures.range;
  decided = c.in_ok-standing.ensures.decided;
  initial = c.in_ok-standing.ensures.initial;
  standing = c.in_ok-standing.ensures.standing;
}
