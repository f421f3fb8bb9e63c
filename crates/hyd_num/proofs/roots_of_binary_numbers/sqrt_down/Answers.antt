use Rattle.std.proofs.Common.{◌*◌}
use Rattle.hyd_num.specs.BinaryNumbers.{numerator, denominator}
use Rattle.hyd_num.proofs.CapacityRoots.{root_of_cut}
use Rattle.hyd_num.proofs.roots_of_binary_numbers.sqrt_down.Goals as goal

pub returns : goal.returns
returns c = root_of_cut (numerator c.args.c * c.args.d) (denominator c.args.c) c.times_down.result c.isqrt.result
    c.times_down.ensures.at_most c.times_down.ensures.next_above c.isqrt.ensures.square_at_most
    c.isqrt.ensures.next_above
