use Rattle.std.proofs.Common.{arith}
use Rattle.hyd_witness_texts.proofs.WitnessLines.{other_end}
use Rattle.hyd_witness_texts.proofs.period_or_end_line.is_end.Goals as goal

pub returns-clause-no : goal.returns-clause-no
returns-clause-no c = λ apart. other_end c.args.line.now c.in-Some.word.now c.in-Some-small_number.number c.args.periods
    c.in-Some-small_number.ensures.fits (omega arith) c.in-Some.ensures.some c.in-Some-small_number.ensures.some apart
