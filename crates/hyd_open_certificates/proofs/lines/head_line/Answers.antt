use Rattle.hyd_cert.proofs.LineLemmas.{head_rest}
use Rattle.hyd_open_certificates.proofs.lines.head_line.Goals as goal

pub returns-clause-none : goal.returns-clause-none
returns-clause-none c = head_rest c.args.line.now c.args.front.now c.in_ok-word.word.now c.head.result
    c.in_ok-word.ensures.some c.head.ensures.none
