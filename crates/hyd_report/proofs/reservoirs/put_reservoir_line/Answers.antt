-- The heads are those of its parts.
use Rattle.std.proofs.Common.{to_z-of_z}
use Rattle.hyd_report.specs.PrintedIntervals.{printed, quantity_in, ArePrinted}
use Rattle.hyd_report.specs.declared.printed_intervals.Quantity.TheVariants.{Head}
use Rattle.hyd_report.proofs.reservoirs.put_reservoir_line.Goals as goal

pub returns : goal.returns
returns g c =
    let head : ArePrinted (printed (quantity_in c.args.project.now Head) (record {
      lo = c.args.lower;
      hi = c.args.upper;
    })) c.print_heads-head.result =
    simp (to_z-of_z, c.ranges.lower, c.ranges.upper) at c.print_heads-head.ensures in
    c.put_parts.ensures _ head
