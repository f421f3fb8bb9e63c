use Rattle.std.proofs.Common.{◌≡◌, ◌++◌, ◌∷◌, [], sym, subst, List, ℕ}
use Rattle.std.specs.Prelude.{Option}
use Rattle.hyd_spec_lines.specs.WordsOfLines.{words_in, body}
use Rattle.hyd_spread_rows.specs.RowsRead.{IsRead}
use Rattle.hyd_spread_rows.specs.RowsSaid.{AreSaid}
use Rattle.hyd_spread_rows.specs.declared.rows.Row.{Row}
use Rattle.hyd_spread_rows.proofs.ReadLemmas.{blank-said}
use Rattle.hyd_spread_rows.proofs.reader.take_in.Goals as goal

pub returns-in-Ok-None-clause-said : goal.returns-in-Ok-None-clause-said
returns-in-Ok-None-clause-said c = λ rows distinct said.
    let project = c.args.project.now in
    let words = words_in (body c.args.line.now) in
    let none : words ≡ [] = subst (λ (row : Option Row). IsRead project words row) c.in-Ok-None.field-0-is
    c.in-Ok-None.ensures.1 in
    subst (λ (ws : List (List ℕ)). AreSaid project (rows ++ ws ∷ []) c.args.tables.now) (sym none)
    (blank-said project rows c.args.tables.now said)
