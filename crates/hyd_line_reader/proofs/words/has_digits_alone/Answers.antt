use Rattle.std.proofs.Common.{arith}
use Rattle.std.proofs.lemmas.Str.Parse.{digit_at}
use Rattle.hyd_line_reader.proofs.Numerals.{digits_more}
use Rattle.hyd_line_reader.proofs.words.has_digits_alone.Goals as goal

pub loop-byte-preserved : goal.loop-byte-preserved
loop-byte-preserved c = digits_more c.args.word.now c.loop-byte.byte-index (omega arith) c.if-byte-lt48.false
    c.if-byte-gt57.false c.loop-byte.invariant

pub returns-then-byte-lt48-clause-no : goal.returns-then-byte-lt48-clause-no
returns-then-byte-lt48-clause-no c = λ b all. let k = digit_at c.args.word.now c.loop-byte.byte-index all
    (omega arith) in omega (arith, k.0)

pub returns-then-byte-gt57-clause-no : goal.returns-then-byte-gt57-clause-no
returns-then-byte-gt57-clause-no c = λ b all. let k = digit_at c.args.word.now c.loop-byte.byte-index all
    (omega arith) in omega (arith, k.1)
