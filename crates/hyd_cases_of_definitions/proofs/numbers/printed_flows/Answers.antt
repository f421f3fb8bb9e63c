use Rattle.std.proofs.Common.{refl}
use Rattle.hyd_cases_of_definitions.proofs.numbers.printed_flows.Goals as goal
use Rattle.std.specs.Fmt.{digits}
use Rattle.hyd_num.specs.PrintedDecimals.{fixed_point}

pub returns-clause-cfs_down : goal.returns-clause-cfs_down
unfolding digits fixed_point
returns-clause-cfs_down c = refl

pub returns-clause-cfs_up : goal.returns-clause-cfs_up
unfolding digits fixed_point
returns-clause-cfs_up c = refl

pub returns-clause-gpm_down : goal.returns-clause-gpm_down
unfolding digits fixed_point
returns-clause-gpm_down c = refl

pub returns-clause-gpm_up : goal.returns-clause-gpm_up
unfolding digits fixed_point
returns-clause-gpm_up c = refl

pub returns-clause-mgd_down : goal.returns-clause-mgd_down
unfolding digits fixed_point
returns-clause-mgd_down c = refl

pub returns-clause-mgd_up : goal.returns-clause-mgd_up
unfolding digits fixed_point
returns-clause-mgd_up c = refl

pub returns-clause-imgd_down : goal.returns-clause-imgd_down
unfolding digits fixed_point
returns-clause-imgd_down c = refl

pub returns-clause-imgd_up : goal.returns-clause-imgd_up
unfolding digits fixed_point
returns-clause-imgd_up c = refl

pub returns-clause-afd_down : goal.returns-clause-afd_down
unfolding digits fixed_point
returns-clause-afd_down c = refl

pub returns-clause-afd_up : goal.returns-clause-afd_up
unfolding digits fixed_point
returns-clause-afd_up c = refl

pub returns-clause-lps_down : goal.returns-clause-lps_down
unfolding digits fixed_point
returns-clause-lps_down c = refl

pub returns-clause-lps_up : goal.returns-clause-lps_up
unfolding digits fixed_point
returns-clause-lps_up c = refl

pub returns-clause-lpm_down : goal.returns-clause-lpm_down
unfolding digits fixed_point
returns-clause-lpm_down c = refl

pub returns-clause-lpm_up : goal.returns-clause-lpm_up
unfolding digits fixed_point
returns-clause-lpm_up c = refl

pub returns-clause-mld_down : goal.returns-clause-mld_down
unfolding digits fixed_point
returns-clause-mld_down c = refl

pub returns-clause-mld_up : goal.returns-clause-mld_up
unfolding digits fixed_point
returns-clause-mld_up c = refl

pub returns-clause-cmh_down : goal.returns-clause-cmh_down
unfolding digits fixed_point
returns-clause-cmh_down c = refl

pub returns-clause-cmh_up : goal.returns-clause-cmh_up
unfolding digits fixed_point
returns-clause-cmh_up c = refl

pub returns-clause-cmd_down : goal.returns-clause-cmd_down
unfolding digits fixed_point
returns-clause-cmd_down c = refl

pub returns-clause-cmd_up : goal.returns-clause-cmd_up
unfolding digits fixed_point
returns-clause-cmd_up c = refl
