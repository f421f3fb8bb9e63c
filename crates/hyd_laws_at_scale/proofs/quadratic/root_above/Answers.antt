use Rattle.hyd_num.specs.BinaryNumbers.{numerator, denominator}
use Rattle.hyd_num.proofs.EndsInOrder.{denominator_positive}
use Rattle.hyd_laws_at_scale.specs.Scales.{parts_of}
use Rattle.hyd_laws_at_scale.proofs.Scales.{power_from}
use Rattle.hyd_laws_at_scale.proofs.ScaledRoots.{one_in_range, taken_least, taken_greatest, up_taken}
use Rattle.hyd_laws_at_scale.proofs.quadratic.root_above.Goals as goal

pub taken-requires : goal.taken-requires
taken-requires c =
    one_in_range c.args.c (parts_of c.args.scale) (power_from c.args.scale.power) c.requires.greatest

pub sqrt_up-requires-clause-least : goal.sqrt_up-requires-clause-least
sqrt_up-requires-clause-least c =
    taken_least (numerator c.args.c) (denominator c.args.c) (numerator c.taken.result) (denominator c.taken.result)
    (parts_of c.args.scale) (denominator_positive c.args.c) (power_from c.args.scale.power) c.taken.ensures
    c.requires.least

pub sqrt_up-requires-clause-greatest : goal.sqrt_up-requires-clause-greatest
sqrt_up-requires-clause-greatest c =
    taken_greatest (numerator c.args.c) (denominator c.args.c) (numerator c.taken.result) (denominator c.taken.result)
    (parts_of c.args.scale) (denominator_positive c.taken.result) c.taken.ensures c.requires.greatest

pub returns : goal.returns
returns c = up_taken c.args.c c.taken.result (parts_of c.args.scale) c.args.d c.sqrt_up.result c.taken.ensures
    c.sqrt_up.ensures
