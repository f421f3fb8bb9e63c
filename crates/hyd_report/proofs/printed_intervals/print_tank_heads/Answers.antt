-- The sums fit.
use Rattle.std.proofs.Common.{◌≡◌, ◌+ℤ◌, to_z-of_z, FitsSigned, w64, rules}
use Rattle.std.specs.Int.{w128}
use Rattle.hyd_report.specs.PrintedIntervals.{printed, quantity_in, ArePrinted}
use Rattle.hyd_report.specs.declared.printed_intervals.Quantity.TheVariants.{Head}
use Rattle.hyd_report.proofs.printed_intervals.print_tank_heads.Goals as goal

pub returns : goal.returns
returns c =
    let low_fits : FitsSigned w128 c.raised.result = record { sfits = c.raised.type_inv } in
    let high_fits : FitsSigned w128 c.raised-2.result = record { sfits = c.raised-2.type_inv } in
    let lo_fits : FitsSigned w64 c.args.levels.now.lo = search rules in
    let hi_fits : FitsSigned w64 c.args.levels.now.hi = search rules in
    let bottom_fits : FitsSigned w64 c.args.bottom = c.ranges.bottom in
    let low : c.raised.result ≡ c.args.levels.now.lo +ℤ c.args.bottom = simp to_z-of_z at c.raised.ensures.sum in
    let high : c.raised-2.result ≡ c.args.levels.now.hi +ℤ c.args.bottom = simp to_z-of_z at c.raised-2.ensures.sum in
    let are : ArePrinted (printed (quantity_in c.args.project.now Head)
    (record { lo = c.raised.result; hi = c.raised-2.result })) c.print_ends.result =
    simp to_z-of_z at c.print_ends.ensures in
    rw (low, high) at are
