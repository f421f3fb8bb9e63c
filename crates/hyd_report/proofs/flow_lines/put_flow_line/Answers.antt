-- There is one way to round the ends outward.
use Rattle.std.proofs.Common.{ℤ, ap₂, subst, sym}
use Rattle.hyd_spec_certificates.specs.Interval.{Interval}
use Rattle.hyd_spec_certificates.specs.SpansAsIntervals.{flows_of}
use Rattle.hyd_report.specs.PrintedIntervals.{ArePrinted}
use Rattle.hyd_report.specs.declared.printed_intervals.Quantity.TheVariants.{Flow}
use Rattle.hyd_report.proofs.PrintLemmas.{low_end, high_end}
use Rattle.hyd_report.proofs.flow_lines.put_flow_line.Goals as goal

pub returns : goal.returns
returns g c = λ ends prints.
    let ticks = flows_of c.args.flow.now in
    c.put_parts.ensures ends (subst (λ (i : Interval). ArePrinted i c.print_flows-flow.result)
    (sym (ap₂ (λ (lo hi : ℤ). record { lo = lo; hi = hi })
    (low_end c.args.project.now Flow ticks ends.lo prints.down)
    (high_end c.args.project.now Flow ticks ends.hi prints.up))) c.print_flows-flow.ensures)
