use Rattle.hyd_spec_lines.specs.Lines.{row_of}
use Rattle.hyd_judge_links_controls_and_rules.proofs.rule_parts.read_part.Goals as goal

pub returns-in-Ok : goal.returns-in-Ok
returns-in-Ok c = c.part_of.ensures c.args.acting (row_of c.args.text.now.text c.args.line.now).words c.in-Ok.ensures.1
