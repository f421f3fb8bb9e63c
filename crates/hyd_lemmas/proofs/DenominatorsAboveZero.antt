-- Quantities in a file's units have denominators above 0.
use Rattle.std.proofs.Common.{◌<◌, ℤ, arith, Bool, true, false}
use Rattle.hyd_num.specs.PrintedDecimals.{flow_quantity, head_quantity, pressure_quantity}
use Rattle.hyd_num.specs.declared.flow_units.FlowUnit.{FlowUnit}
use Rattle.hyd_num.specs.declared.flow_units.FlowUnit.TheVariants.{Cfs, Gpm, Mgd, Imgd, Afd, Lps, Lpm, Mld, Cmh, Cmd}

pub flow_above : (unit : FlowUnit) (t : ℤ) → 0 < (flow_quantity unit t).den
flow_above Cfs t = omega arith
flow_above Gpm t = omega arith
flow_above Mgd t = omega arith
flow_above Imgd t = omega arith
flow_above Afd t = omega arith
flow_above Lps t = omega arith
flow_above Lpm t = omega arith
flow_above Mld t = omega arith
flow_above Cmh t = omega arith
flow_above Cmd t = omega arith

pub head_above : (us : Bool) (t : ℤ) → 0 < (head_quantity us t).den
head_above true t = omega arith
head_above false t = omega arith

pub pressure_above : (us : Bool) (t : ℤ) → 0 < (pressure_quantity us t).den
pressure_above true t = omega arith
pressure_above false t = omega arith
