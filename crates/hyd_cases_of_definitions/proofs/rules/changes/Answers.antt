use Rattle.std.proofs.Common.{refl}
use Rattle.hyd_cases_of_definitions.proofs.rules.changes.Goals as goal

pub returns-clause-changes : goal.returns-clause-changes
returns-clause-changes c = λ project a b c rules pa pb pc ay an by bn cy cn. rw (
  rules,
  pa,
  pb,
  pc,
  ay,
  an,
  by,
  bn,
  cy,
  cn,
) refl

pub returns-clause-acted : goal.returns-clause-acted
returns-clause-acted c = λ project a b c rules pa pb pc ay an by bn cy cn. rw (
  rules,
  pa,
  pb,
  pc,
  ay,
  an,
  by,
  bn,
  cy,
  cn,
) refl
