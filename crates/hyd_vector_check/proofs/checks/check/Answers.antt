use Rattle.hyd_spec_certificates.specs.Certificate.{outside}
use Rattle.hyd_vector_check.proofs.checks.check.Goals as goal

pub returns-in-Some-clause-fails : goal.returns-in-Some-clause-fails
returns-in-Some-clause-fails c =
    let first = c.in-Some.ensures.some in outside first.inside first.outside first.before
