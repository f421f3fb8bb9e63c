use Rattle.std.proofs.Common.{FitsSigned}
use Rattle.std.specs.Int.{w128}
use Rattle.std.proofs.lemmas.Int.{to_z-of_z}
use Rattle.hyd_units.proofs.RoundedFlows.{IsRounded-quotient}
use Rattle.hyd_units.proofs.printed_quantities.flow_decimal.Goals as goal

pub returns : goal.returns
returns c =
    let fits : FitsSigned w128 c.divide.result = record { sfits = c.divide.type_inv } in
    let told = rw (
      to_z-of_z w128 c.args.ticks c.ranges.ticks,
      c.factor-numerator.ensures.numerator,
      c.factor-numerator.ensures.denominator,
    ) at c.divide.ensures in
    rw (to_z-of_z w128 c.divide.result fits) (IsRounded-quotient _ _ _ _ told)
