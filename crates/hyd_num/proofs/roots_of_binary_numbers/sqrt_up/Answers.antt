use Rattle.std.proofs.Common.{◌*◌}
use Rattle.hyd_num.specs.BinaryNumbers.{numerator, denominator}
use Rattle.hyd_num.proofs.CapacityRoots.{root_of_raised}
use Rattle.hyd_num.proofs.roots_of_binary_numbers.sqrt_up.Goals as goal

pub returns : goal.returns
returns c = root_of_raised (numerator c.args.c * c.args.d) (denominator c.args.c) c.times_up.result c.root_up.result
    c.times_up.ensures.at_least c.times_up.ensures.next_below c.root_up.ensures
