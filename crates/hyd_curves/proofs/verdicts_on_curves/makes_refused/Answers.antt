use Rattle.hyd_curves.proofs.CapacityLemmas.{refused_is, accepted_is}
use Rattle.hyd_curves.proofs.verdicts_on_curves.makes_refused.Goals as goal

pub returns-in-Ok-clause-accepted : goal.returns-in-Ok-clause-accepted
returns-in-Ok-clause-accepted c = λ points straight e.
    accepted_is c.args.unit c.args.flow c.args.drop c.args.thirds points c.in-Ok.ensures.accepted e

pub returns-in-Err-clause-refused : goal.returns-in-Err-clause-refused
returns-in-Err-clause-refused c = λ points straight e.
    refused_is c.args.unit c.args.flow c.args.drop c.args.thirds points c.in-Err.ensures.refused straight e
