use Rattle.hyd_num.specs.BinaryNumbers.{numerator, denominator}
use Rattle.hyd_num.proofs.EndsInOrder.{denominator_positive}
use Rattle.hyd_laws_at_scale.specs.Scales.{parts_of}
use Rattle.hyd_laws_at_scale.proofs.Scales.{power_from}
use Rattle.hyd_laws_at_scale.proofs.ScaledRoots.{one_in_range, taken_least, taken_greatest, down_taken}
use Rattle.hyd_laws_at_scale.proofs.quadratic.root_below.Goals as goal

pub taken-requires : goal.taken-requires
taken-requires c =
    one_in_range c.args.c (parts_of c.args.scale) (power_from c.args.scale.power) c.requires.greatest

pub sqrt_down-requires-clause-least : goal.sqrt_down-requires-clause-least
sqrt_down-requires-clause-least c =
    taken_least (numerator c.args.c) (denominator c.args.c) (numerator c.taken.result) (denominator c.taken.result)
    (parts_of c.args.scale) (denominator_positive c.args.c) (power_from c.args.scale.power) c.taken.ensures
    c.requires.least

pub sqrt_down-requires-clause-greatest : goal.sqrt_down-requires-clause-greatest
sqrt_down-requires-clause-greatest c =
    taken_greatest (numerator c.args.c) (denominator c.args.c) (numerator c.taken.result) (denominator c.taken.result)
    (parts_of c.args.scale) (denominator_positive c.taken.result) c.taken.ensures c.requires.greatest

pub returns : goal.returns
returns c = down_taken c.args.c c.taken.result (parts_of c.args.scale) c.args.d c.sqrt_down.result c.taken.ensures
    c.sqrt_down.ensures
