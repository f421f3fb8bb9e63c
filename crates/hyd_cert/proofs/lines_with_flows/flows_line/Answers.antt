use Rattle.std.proofs.Common.{arith}
use Rattle.hyd_cert.proofs.FlowLineLemmas.{flows_apart}
use Rattle.hyd_cert.proofs.lines_with_flows.flows_line.Goals as goal

pub returns-then-count-eq0-clause-none : goal.returns-then-count-eq0-clause-none
returns-then-count-eq0-clause-none c =
    flows_apart c.args.line.now c.in_ok-word.word.now c.in_ok-count.field-0 c.in_ok-word.ensures.some
    c.in_ok-count.ensures.some c.in_ok-count.ensures.fits (λ some most. omega (arith, some, c.if-count-eq0.true))

pub returns-then-count-gt-MOST_NAMES-clause-none : goal.returns-then-count-gt-MOST_NAMES-clause-none
returns-then-count-gt-MOST_NAMES-clause-none c =
    flows_apart c.args.line.now c.in_ok-word.word.now c.in_ok-count.field-0 c.in_ok-word.ensures.some
    c.in_ok-count.ensures.some c.in_ok-count.ensures.fits
    (λ some most. omega (arith, most, c.if-count-gt-MOST_NAMES.true))
