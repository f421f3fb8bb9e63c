-- The line of what is found.
use Rattle.std.proofs.Common.{sym, subst}
use Rattle.hyd_io.specs.TextPutIn.{Puts}
use Rattle.hyd_witness_trials.specs.Findings.{finding_line}
use Rattle.hyd_witness_trials.specs.declared.finding.Finding.{Finding}
use Rattle.hyd_witness_commands.proofs.lines.put_finding.Goals as goal

pub returns-in-Fails : goal.returns-in-Fails
returns-in-Fails g c =
    subst
    (λ (f : Finding). Puts g.D.Desk.files g.D.Desk.rest g.D.Desk.written g.D.Desk.printed g.D.Desk.target
    g.D.Desk.ready g.D.Desk.counts g.D.Desk.openings
    (finding_line c.args.project.now f) c.put_unmet.result c.args.pen.now c.put_unmet.new.pen c.args.desk.now c.put_unmet.new.desk)
    (sym c.in-Fails.is) c.put_unmet.ensures

pub returns-in-BadLine : goal.returns-in-BadLine
returns-in-BadLine g c =
    subst
    (λ (f : Finding). Puts g.D.Desk.files g.D.Desk.rest g.D.Desk.written g.D.Desk.printed g.D.Desk.target
    g.D.Desk.ready g.D.Desk.counts g.D.Desk.openings
    (finding_line c.args.project.now f) c.put_bad_line.result c.args.pen.now c.put_bad_line.new.pen c.args.desk.now c.put_bad_line.new.desk)
    (sym c.in-BadLine.is) c.put_bad_line.ensures
