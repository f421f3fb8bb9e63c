-- Each end is its own decimal.
use Rattle.std.proofs.Common.{ap, ◌∙◌, to_z-of_z, FitsSigned}
use Rattle.std.specs.Int.{w128}
use Rattle.hyd_num.specs.PrintedDecimals.{IsRoundedDown, IsRoundedUp, decimal_text}
use Rattle.hyd_report.specs.PrintedIntervals.{quantity_in}
use Rattle.hyd_report.proofs.PrintLemmas.{low_end, high_end}
use Rattle.hyd_report.proofs.printed_intervals.print_ends.Goals as goal

pub returns : goal.returns
returns c =
    let low_fits : FitsSigned w128 c.args.low = c.ranges.low in
    let high_fits : FitsSigned w128 c.args.high = c.ranges.high in
    let down : IsRoundedDown (quantity_in c.args.project.now c.args.quantity c.args.low) c.print_ticks.ensures.count =
    simp to_z-of_z at c.print_ticks.ensures.rounded in
    let up : IsRoundedUp (quantity_in c.args.project.now c.args.quantity c.args.high) c.print_ticks-2.ensures.count =
    simp to_z-of_z at c.print_ticks-2.ensures.rounded in
    record {
      low = c.print_ticks.ensures.shown ∙ ap decimal_text (low_end c.args.project.now c.args.quantity
          (record { lo = c.args.low; hi = c.args.high }) _ down);
      high = c.print_ticks-2.ensures.shown ∙ ap decimal_text (high_end c.args.project.now c.args.quantity
          (record { lo = c.args.low; hi = c.args.high }) _ up);
    }
