-- The differences fit.
use Rattle.std.proofs.Common.{◌≡◌, ◌-ℤ◌, to_z-of_z, FitsSigned, w64}
use Rattle.std.specs.Int.{w128}
use Rattle.hyd_report.specs.PrintedIntervals.{printed, quantity_in, ArePrinted}
use Rattle.hyd_report.specs.declared.printed_intervals.Quantity.TheVariants.{Pressure}
use Rattle.hyd_report.proofs.printed_intervals.print_pressures.Goals as goal

pub returns : goal.returns
returns c =
    let low_fits : FitsSigned w128 c.above.result = record { sfits = c.above.type_inv } in
    let high_fits : FitsSigned w128 c.above-2.result = record { sfits = c.above-2.type_inv } in
    let lower_fits : FitsSigned w64 c.args.lower = c.ranges.lower in
    let upper_fits : FitsSigned w64 c.args.upper = c.ranges.upper in
    let elevation_fits : FitsSigned w64 c.args.elevation = c.ranges.elevation in
    let low : c.above.result ≡ c.args.lower -ℤ c.args.elevation = simp to_z-of_z at c.above.ensures.difference in
    let high : c.above-2.result ≡ c.args.upper -ℤ c.args.elevation = simp to_z-of_z at c.above-2.ensures.difference in
    let are : ArePrinted (printed (quantity_in c.args.project.now Pressure)
    (record { lo = c.above.result; hi = c.above-2.result })) c.print_ends.result =
    simp to_z-of_z at c.print_ends.ensures in
    rw (low, high) at are
