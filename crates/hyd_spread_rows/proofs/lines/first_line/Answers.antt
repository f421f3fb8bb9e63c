use Rattle.std.proofs.Common.{◌≤◌, ◌≡◌, not, length, take, arith, ap, sym, ◌∙◌}
use Rattle.std.specs.List.{position_or_len}
use Rattle.std.proofs.lemmas.List.Sums.{prefix_len-le-length}
use Rattle.std.proofs.Math.Seq.{take-length}
use Rattle.hyd_spec_lines.specs.WordsOfLines.{is_line_feed}
use Rattle.hyd_lex.proofs.FirstLine.{line_before_feed, line_at_end}
use Rattle.hyd_spread_rows.proofs.lines.first_line.Goals as goal

pub returns-then-length-text-clause-lines : goal.returns-then-length-text-clause-lines
returns-then-length-text-clause-lines c =
    rw (
      c.without_carriage_return-line.ensures,
      c.line_length-length.ensures,
    ) (line_before_feed c.args.text.now
    (rw (← c.line_length-length.ensures) c.if-length-text.true))

pub returns-else-length-text-clause-lines : goal.returns-else-length-text-clause-lines
returns-else-length-text-clause-lines c =
    let t = c.args.text.now in
    let within : position_or_len is_line_feed t ≤ length t = prefix_len-le-length (λ x. not (is_line_feed x)) t in
    let n : c.line_length-length.result ≡ length t = omega (arith, c.line_length-length.ensures) in
    let whole : take c.line_length-length.result t ≡ t = ap (λ k. take k t) n ∙ take-length t in
    rw (
      c.without_carriage_return-line.ensures,
      whole,
      n,
    ) (line_at_end t c.requires (sym c.line_length-length.ensures ∙ n))
