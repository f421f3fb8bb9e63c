use Rattle.std.proofs.Common.{arith}
use Rattle.hyd_theorems_on_open_spreads.proofs.AgreementOverPairs.{is_bounded_openly}
use Rattle.hyd_theorems_on_open_spreads.proofs.bounds.Goals as goal

pub returns : goal.returns
returns c = λ project sound spread S some pair standing found next kept valid time levels volumes commanded agrees period
    begins nodes is. is_bounded_openly project sound spread S (omega (arith, some)) pair standing found next kept valid
    time levels volumes commanded agrees period begins nodes is
