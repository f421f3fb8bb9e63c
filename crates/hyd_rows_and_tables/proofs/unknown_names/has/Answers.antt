use Rattle.std.proofs.Common.{sym, ap, ◌∙◌}
use Rattle.hyd_rows_and_tables.proofs.TableLemmas.{has_id-is, is_there}
use Rattle.hyd_rows_and_tables.proofs.unknown_names.has.Goals as goal

pub returns-in-Some : goal.returns-in-Some
returns-in-Some c = λ rows table.
    sym (has_id-is c.args.name.now rows ∙ ap is_there (c.in-Some.ensures.some rows table))

pub returns-in-None : goal.returns-in-None
returns-in-None c = λ rows table.
    sym (has_id-is c.args.name.now rows ∙ ap is_there (c.in-None.ensures.none rows table))
