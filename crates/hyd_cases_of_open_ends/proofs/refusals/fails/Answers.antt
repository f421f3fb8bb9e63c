use Rattle.hyd_cases_of_open_ends.proofs.VillageOpenRefusals.{low_refused_openly, far_refused_openly}
use Rattle.hyd_cases_of_open_ends.proofs.refusals.fails.Goals as goal

pub returns-clause-nearer : goal.returns-clause-nearer
returns-clause-nearer c = low_refused_openly

pub returns-clause-out_of_box : goal.returns-clause-out_of_box
returns-clause-out_of_box c = far_refused_openly
