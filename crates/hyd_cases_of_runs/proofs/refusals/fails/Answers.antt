use Rattle.std.proofs.Common.{refl}
use Rattle.std.specs.Fmt.{digits}
use Rattle.hyd_cases_of_runs.proofs.VillageRefusals.{low_refused, far_refused}
use Rattle.hyd_cases_of_runs.proofs.refusals.fails.Goals as goal

pub returns-clause-nearer : goal.returns-clause-nearer
returns-clause-nearer c = low_refused

pub returns-clause-out_of_box : goal.returns-clause-out_of_box
returns-clause-out_of_box c = far_refused

pub returns-clause-line : goal.returns-clause-line
unfolding digits
returns-clause-line c = refl
