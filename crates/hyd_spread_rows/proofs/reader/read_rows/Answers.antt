use Rattle.std.proofs.Common.{◌≡◌, ◌≤◌, ◌∷◌, ℕ, List, sym, subst, length, drop}
use Rattle.std.proofs.lemmas.List.{take_rest}
use Rattle.hyd_spec_lines.specs.WordsOfLines.{text_lines}
use Rattle.hyd_spread_rows.proofs.ReadLemmas.{read-next}
use Rattle.hyd_spread_rows.proofs.reader.read_rows.Goals as goal

pub loop-at-preserved : goal.loop-at-preserved
loop-at-preserved c =
    let text = c.args.text.now in
    let at = c.loop-at.at in
    let line = c.first_line-used.result.0.now in
    let used = c.first_line-used.result.1 in
    let rest = take_rest text at in
    read-next c.args.project.now text at c.loop-at.number used line c.loop-at.tables c.take_in.new.tables
    c.loop-at.invariant
    (subst (λ (xs : List ℕ). text_lines xs ≡ line ∷ text_lines (drop used xs)) rest c.first_line-used.ensures.lines)
    c.first_line-used.ensures.some
    (subst (λ (xs : List ℕ). used ≤ length xs) rest c.first_line-used.ensures.within)
    (sym c.in-None.ensures.fault) (λ rows said. c.in-None.ensures.said rows c.requires.distinct said)
    c.in-None.ensures.places
