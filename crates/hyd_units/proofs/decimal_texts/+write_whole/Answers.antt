use Rattle.std.proofs.Common.{length, ap, sym, arith}
use Rattle.std.proofs.lemmas.Fmt.{decimal_digit}
use Rattle.hyd_units.proofs.Digits.{decimal_by, length-decimal_by}
use Rattle.hyd_units.proofs.WritingLemmas.{Writes-append, Writes-equal}
use Rattle.hyd_units.proofs.decimal_texts.+write_whole.Goals as goal

pub write_byte-requires : goal.write_byte-requires
write_byte-requires t c = omega (arith, ap length (decimal_digit c.args.n c.if-n-lt10.true))

pub returns-then-n-lt10 : goal.returns-then-n-lt10
returns-then-n-lt10 t c = Writes-equal _ _ _ _ _ _ (sym (decimal_digit c.args.n c.if-n-lt10.true)) c.write_byte.ensures

pub write_whole-ones-requires : goal.write_whole-ones-requires
write_whole-ones-requires t c = (
  omega (arith, c.without_last_digit.ensures),
  omega (
    arith,
    length-decimal_by c.args.n c.without_last_digit.result c.without_last_digit.ensures c.if-n-lt10.false
        c.ranges.n.fits,
    c.without_last_digit.ensures,
  ),
)

pub write_byte-requires-2 : goal.write_byte-requires-2
write_byte-requires-2 t c =
    omega (
      arith,
      c.write_whole-ones.ensures.end,
      length-decimal_by c.args.n c.without_last_digit.result
          c.without_last_digit.ensures c.if-n-lt10.false c.ranges.n.fits,
    )

pub returns : goal.returns
returns t c =
    Writes-equal _ _ _ _ _ _ (decimal_by c.args.n _ _ c.without_last_digit.ensures c.last_digit.ensures
    c.if-n-lt10.false c.ranges.n.fits)
    (Writes-append _ _ _ _ _ _ _ _ c.write_whole-ones.ensures c.write_byte-2.ensures)
