use Rattle.std.proofs.Common.{◌≡◌, ◌+◌, ◌≤◌, ◌∷◌, ℕ, List, ap, subst, length, drop, ◌∙◌, arith}
use Rattle.std.specs.Prelude.{Some, if◌then◌else◌}
use Rattle.std.proofs.lemmas.List.{take_rest}
use Rattle.hyd_spec_lines.specs.WordsOfLines.{text_lines, words_in}
use Rattle.hyd_spec_spread_rows.specs.TextsOfSpreads.{names, names_all}
use Rattle.hyd_spread_rows.proofs.LineThatCountsLemmas.{hear-next, heard-all}
use Rattle.hyd_spread_rows.proofs.lines_that_count.last_lines.Goals as goal

pub loop-at-preserved : goal.loop-at-preserved
loop-at-preserved c =
    let text = c.args.text.now in
    let at = c.loop-at.at in
    let line = c.first_line-used.result.0.now in
    let used = c.first_line-used.result.1 in
    let rest = take_rest text at in
    hear-next c.args.subject c.args.id.now text at c.loop-at.number used line c.loop-at.last c.hear.new.self
    c.loop-at.invariant
    (subst (λ (xs : List ℕ). text_lines xs ≡ line ∷ text_lines (drop used xs)) rest c.first_line-used.ensures.lines)
    c.first_line-used.ensures.some
    (subst (λ (xs : List ℕ). used ≤ length xs) rest c.first_line-used.ensures.within)
    (c.hear.ensures.named
    ∙ ap (λ (b : List ℕ). if names c.args.subject c.args.id.now (words_in b) then Some (c.loop-at.number + 1)
    else c.loop-at.last.named) c.body.ensures)
    (c.hear.ensures.all
    ∙ ap (λ (b : List ℕ). if names_all c.args.subject (words_in b) then Some (c.loop-at.number + 1)
    else c.loop-at.last.all) c.body.ensures)

pub returns : goal.returns
returns c =
    heard-all c.args.subject c.args.id.now c.args.text.now c.loop-at.at c.loop-at.number c.loop-at.last
    c.loop-at.invariant (let over = c.loop-at-test.false in omega (arith, over))
