use Rattle.std.proofs.Common.{arith}
use Rattle.hyd_num.specs.PrintedDecimals.{fixed_point}
use Rattle.hyd_units.proofs.Digits.{length-four_places}
use Rattle.hyd_units.proofs.WritingLemmas.{Writes-append}
use Rattle.hyd_units.proofs.decimal_texts.write_four_places.Goals as goal

pub write_whole-point-requires : goal.write_whole-point-requires
write_whole-point-requires c = omega (arith, length-four_places c.args.n)

pub write_byte-places-requires : goal.write_byte-places-requires
write_byte-places-requires c = omega (arith, length-four_places c.args.n, c.write_whole-point.ensures.end)

pub write_last_digits-requires : goal.write_last_digits-requires
write_last_digits-requires c =
    omega (arith, length-four_places c.args.n, c.write_whole-point.ensures.end, c.write_byte-places.ensures.end)

pub returns : goal.returns
unfolding fixed_point
returns c =
    Writes-append _ _ _ _ _ _ _ _ c.write_whole-point.ensures
    (Writes-append _ _ _ _ _ _ _ _ c.write_byte-places.ensures c.write_last_digits.ensures)
