use Rattle.std.proofs.Common.{arith}
use Rattle.hyd_spec_lines.specs.WordsOfLines.{text_lines}
use Rattle.hyd_spec_lines.specs.declared.section.Region.TheVariants.{BeforeHeadings}
use Rattle.hyd_lex.proofs.CountsAtMostBytes.{few_lines, few_items}
use Rattle.hyd_lex.proofs.WalkGivesRows.{walk_is}
use Rattle.hyd_lex.proofs.lines.Lines.new.Goals as goal

pub returns-clause-rest : goal.returns-clause-rest
returns-clause-rest c = walk_is c.args.text.now

pub returns-clause-few : goal.returns-clause-few
returns-clause-few c = omega (arith, few_items BeforeHeadings 1 (text_lines c.args.text.now), few_lines c.args.text.now)
