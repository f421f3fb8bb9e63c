use Rattle.hyd_witness_texts.proofs.WitnessLines.{no_period_or_end}
use Rattle.hyd_witness_texts.proofs.period_or_end_line.period_or_end.Goals as goal

pub returns-in_default-clause-none : goal.returns-in_default-clause-none
returns-in_default-clause-none c = no_period_or_end c.args.periods c.args.line.now c.in_default.ensures.none
    (c.is_end.ensures.no c.if-is_end.false)
