use Rattle.std.proofs.Common.{arith}
use Rattle.hyd_theorems_on_spread_runs.proofs.BoundedByRecords.{certified, is_bounded}
use Rattle.hyd_theorems_on_spread_runs.proofs.bounds.Goals as goal

pub returns : goal.returns
returns c = λ project sound spread S some pair standing row next kept valid time levels volumes commanded agrees period
    begins nodes is. is_bounded project sound spread S (omega (arith, some)) pair standing row
    (certified project spread standing pair row next kept valid) time levels volumes commanded agrees period begins
    nodes is
