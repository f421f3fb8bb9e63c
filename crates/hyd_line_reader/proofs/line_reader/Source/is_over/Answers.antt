use Rattle.std.proofs.Common.{◌<◌, List, ℕ, length, sym, ◌∙◌, subst}
use Rattle.hyd_line_reader.proofs.SplitTexts.{not_over}
use Rattle.hyd_line_reader.proofs.Numerals.{some_length}
use Rattle.hyd_line_reader.proofs.line_reader.Source.is_over.Goals as goal

pub returns-then-not-is_empty-clause-more : goal.returns-then-not-is_empty-clause-more
returns-then-not-is_empty-clause-more g c = λ b. not_over c.args.self.now (g.D.Desk.rest c.args.desk.now)
    (subst (λ (h : List ℕ). 0 < length h) c.held.ensures (some_length c.held.result.now (sym c.is_empty.ensures
    ∙ c.if-not-is_empty.true)))
