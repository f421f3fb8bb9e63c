use Rattle.std.proofs.Common.{ap, sym}
use Rattle.hyd_io.proofs.PutLemmas.{puts_same}
use Rattle.hyd_spec_reports_with_flows.specs.FlowLines.{refused_flow_line}
use Rattle.hyd_report.proofs.flow_lines.put_refused_flow.Goals as goal

pub returns-in-Name : goal.returns-in-Name
returns-in-Name g c =
    puts_same _ _ _ _ _ _ _ (ap (refused_flow_line c.args.project.now c.args.period) (sym c.in-Name.is))
    (c.put_refused_name.ensures c.args.project.now)

pub returns-in-Vector : goal.returns-in-Vector
returns-in-Vector g c =
    puts_same _ _ _ _ _ _ _ (ap (refused_flow_line c.args.project.now c.args.period) (sym c.in-Vector.is))
    c.put_refused_vector.ensures
