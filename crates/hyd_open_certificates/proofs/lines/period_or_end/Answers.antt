use Rattle.hyd_open_certificates.proofs.OpenLineLemmas.{none_of_both}
use Rattle.hyd_open_certificates.proofs.lines.period_or_end.Goals as goal

pub returns-in-None-end_line-clause-none : goal.returns-in-None-end_line-clause-none
returns-in-None-end_line-clause-none c = none_of_both c.args.line.now c.in-None.ensures.none
    c.in-None-end_line.ensures.none
