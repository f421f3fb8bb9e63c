-- The heads and the pressures are those of its parts.
use Rattle.std.proofs.Common.{◌-ℤ◌, to_z-of_z}
use Rattle.hyd_report.specs.PrintedIntervals.{printed, quantity_in, ArePrinted}
use Rattle.hyd_report.specs.declared.printed_intervals.Quantity.TheVariants.{Head, Pressure}
use Rattle.hyd_report.proofs.junctions.put_junction_line.Goals as goal

pub returns : goal.returns
returns g c =
    let project = c.args.project.now in
    let head : ArePrinted (printed (quantity_in project Head) (record {
      lo = c.args.lower;
      hi = c.args.upper;
    })) c.print_heads-head.result =
    simp (to_z-of_z, c.ranges.lower, c.ranges.upper) at c.print_heads-head.ensures in
    let pressure : ArePrinted (printed (quantity_in project Pressure) (record {
      lo = c.args.lower -ℤ c.args.elevation;
      hi = c.args.upper -ℤ c.args.elevation;
    })) c.print_pressures-pressure.result =
    simp (to_z-of_z, c.ranges.lower, c.ranges.upper, c.ranges.elevation) at c.print_pressures-pressure.ensures in
    c.put_parts.ensures _ _ _ head pressure c.print_flows-outflow.ensures
