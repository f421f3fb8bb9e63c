use Rattle.std.proofs.Common.{arith}
use Rattle.std.proofs.lemmas.Str.Parse.{digit_at}
use Rattle.hyd_line_reader.proofs.Numerals.{digits_more, value_more, front_fits}
use Rattle.hyd_line_reader.proofs.words.digits.Goals as goal

pub overflow_mul-value : goal.overflow_mul-value
overflow_mul-value c =
    let k = front_fits c.args.word.now c.loop-byte.byte-index (omega arith) (omega arith)
    c.loop-byte.invariant.digits in
    omega (arith, k)

pub overflow_add-value : goal.overflow_add-value
overflow_add-value c =
    let k = front_fits c.args.word.now c.loop-byte.byte-index (omega arith) (omega arith)
    c.loop-byte.invariant.digits in
    omega (arith, k)

pub loop-byte-preserved : goal.loop-byte-preserved
loop-byte-preserved c = record {
  digits = digits_more c.args.word.now c.loop-byte.byte-index (omega arith) c.if-byte-lt48.false c.if-byte-gt57.false
      c.loop-byte.invariant.digits;
  spelled = let e = value_more c.args.word.now c.loop-byte.byte-index (omega arith) c.if-byte-lt48.false
      c.if-byte-gt57.false in
      let f = c.loop-byte.invariant.spelled in cc;
}

pub returns-then-byte-lt48-clause-none : goal.returns-then-byte-lt48-clause-none
returns-then-byte-lt48-clause-none c = λ all. let k = digit_at c.args.word.now c.loop-byte.byte-index all
    (omega arith) in omega (arith, k.0)

pub returns-then-byte-gt57-clause-none : goal.returns-then-byte-gt57-clause-none
returns-then-byte-gt57-clause-none c = λ all. let k = digit_at c.args.word.now c.loop-byte.byte-index all
    (omega arith) in omega (arith, k.1)
