use Rattle.std.proofs.Common.{◌≡◌, sym, ap, subst, ◌∙◌, List}
use Rattle.hyd_spec.specs.ProgramTypes.{Tank}
use Rattle.hyd_spec_lines.specs.WordsOfLines.{words_in}
use Rattle.hyd_option_and_rule_lines.specs.FaultOrValue.{Judged}
use Rattle.hyd_spec_spread_rows.specs.RowsOfSpreads.{tanks_meant, level_words, length_ends, number_words}
use Rattle.hyd_spec_spread_rows.specs.RowsOfSpreads.{ends_of}
use Rattle.hyd_spec_spread_rows.specs.declared.Subject.{Subject}
use Rattle.hyd_spread_rows.proofs.numbers.numbers.Goals as goal

pub returns-in-Level : goal.returns-in-Level
returns-in-Level c =
    let words = words_in c.args.body.now in
    subst (λ (subject : Subject). Judged (number_words c.args.project.now subject words) c.levels.result
    (λ ends. ends ≡ ends_of c.args.project.now subject words)) (sym c.in-Level.is)
    (subst (λ (ts : List Tank). Judged (level_words c.args.project.now ts words) c.levels.result
    (λ ends. ends ≡ length_ends c.args.project.now words))
    (c.tanks_meant.ensures ∙ ap (tanks_meant c.args.project.now) c.requires.name) c.levels.ensures)
