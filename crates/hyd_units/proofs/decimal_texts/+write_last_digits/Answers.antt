use Rattle.std.proofs.Common.{◌-◌, ◌<◌, arith}
use Rattle.hyd_units.proofs.Digits.{length-last_digits, last_digits_by}
use Rattle.hyd_units.proofs.WritingLemmas.{Writes-append, Writes-equal}
use Rattle.hyd_units.proofs.decimal_texts.+write_last_digits.Goals as goal

pub write_byte-requires : goal.write_byte-requires
write_byte-requires t c =
    omega (
      arith,
      c.write_last_digits-ones.ensures.end,
      length-last_digits (c.args.places - 1)
          c.without_last_digit.result,
    )

pub returns : goal.returns
returns t c =
    let places : 0 < c.args.places = omega arith in
    Writes-equal _ _ _ _ _ _ (last_digits_by c.args.places c.args.n _ _ c.without_last_digit.ensures
    c.last_digit.ensures places)
    (Writes-append _ _ _ _ _ _ _ _ c.write_last_digits-ones.ensures c.write_byte.ensures)
