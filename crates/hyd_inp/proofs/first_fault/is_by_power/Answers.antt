use Rattle.std.proofs.Common.{sym, ap, ◌∙◌}
use Rattle.hyd_spec_lines.specs.Lines.{items_of}
use Rattle.hyd_spec_input.specs.OptionsAndTimesInForce.{has_hazen_williams}
use Rattle.hyd_theorems_on_input.proofs.FormulaInForce.{formula_of_rows}
use Rattle.hyd_inp.proofs.first_fault.is_by_power.Goals as goal

pub returns-in-None : goal.returns-in-None
returns-in-None c =
    c.has_hazen_williams.ensures ∙ ap has_hazen_williams c.requires.rows
    ∙ sym (formula_of_rows (items_of c.args.text.now.text) (sym c.requires.end ∙ c.in-None.is))
