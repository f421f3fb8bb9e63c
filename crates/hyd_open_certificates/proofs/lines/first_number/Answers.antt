use Rattle.hyd_cert.proofs.LineLemmas.{first_number, no_space}
use Rattle.hyd_open_certificates.proofs.lines.first_number.Goals as goal

pub returns-in_default-clause-none : goal.returns-in_default-clause-none
returns-in_default-clause-none c = λ n rest fits e. no_space c.args.text.now rest n c.in_default.ensures.none e

pub returns-in_default-small_number-clause-none : goal.returns-in_default-small_number-clause-none
returns-in_default-small_number-clause-none c = λ n rest fits e.
    c.in_default-small_number.ensures.none n fits (first_number c.args.text.now c.in-Some.word.now c.in-Some.rest.now
    rest n fits c.in-Some.ensures.word c.in-Some.ensures.some e).0
