use Rattle.std.proofs.Common.{◌≤◌, ◌-◌, ◌^◌, length, take, drop, arith}
use Rattle.std.proofs.lemmas.List.{length-take, length-drop}
use Rattle.hyd_lex.proofs.CountsAtMostBytes.{word_within}
use Rattle.hyd_lex.proofs.lines.Lines.word.Goals as goal

pub returns-clause-few : goal.returns-clause-few
returns-clause-few c =
    let text = c.self.inside.text.now in
    let short : length (take (c.args.line.now.to - c.args.line.now.from) (drop c.args.line.now.from text)) ≤ 2 ^ 26 =
    omega (
      arith,
      length-take (c.args.line.now.to - c.args.line.now.from) (drop c.args.line.now.from text),
      length-drop c.args.line.now.from text,
      c.self.invariant.0,
    ) in
    word_within _ c.args.number (2 ^ 26) c.word.result c.word.ensures short
