use Rattle.std.proofs.Common.{arith}
use Rattle.hyd_cases_of_open_ends.proofs.VillageOpenRefusals.{other_lengths}
use Rattle.hyd_cases_of_open_ends.proofs.refusals.length.Goals as goal

pub returns-clause-shortest : goal.returns-clause-shortest
returns-clause-shortest c = other_lengths 0 5 (λ has. let e = has.0 in omega (arith, e))

pub returns-clause-longest : goal.returns-clause-longest
returns-clause-longest c = other_lengths 5 0 (λ has. let e = has.1 in omega (arith, e))

pub returns-clause-both : goal.returns-clause-both
returns-clause-both c = other_lengths 5 5 (λ has. let e = has.0 in omega (arith, e))
