use Rattle.std.proofs.Common.{refl}
use Rattle.hyd_cases_of_open_ends.proofs.ways.Goals as goal

pub returns-clause-shortest : goal.returns-clause-shortest
returns-clause-shortest c = refl

pub returns-clause-longest : goal.returns-clause-longest
returns-clause-longest c = refl

pub returns-clause-first : goal.returns-clause-first
returns-clause-first c = refl

pub returns-clause-late : goal.returns-clause-late
returns-clause-late c = refl

pub returns-clause-last : goal.returns-clause-last
returns-clause-last c = refl

pub returns-clause-last_at_instant : goal.returns-clause-last_at_instant
returns-clause-last_at_instant c = refl
