use Rattle.std.proofs.Common.{refl}
use Rattle.hyd_cases_of_definitions.proofs.numbers.flows.Goals as goal

pub returns-clause-cfs : goal.returns-clause-cfs
returns-clause-cfs c = refl

pub returns-clause-gpm : goal.returns-clause-gpm
returns-clause-gpm c = refl

pub returns-clause-mgd : goal.returns-clause-mgd
returns-clause-mgd c = refl

pub returns-clause-imgd : goal.returns-clause-imgd
returns-clause-imgd c = refl

pub returns-clause-afd : goal.returns-clause-afd
returns-clause-afd c = refl

pub returns-clause-lps : goal.returns-clause-lps
returns-clause-lps c = refl

pub returns-clause-lpm : goal.returns-clause-lpm
returns-clause-lpm c = refl

pub returns-clause-mld : goal.returns-clause-mld
returns-clause-mld c = refl

pub returns-clause-cmh : goal.returns-clause-cmh
returns-clause-cmh c = refl

pub returns-clause-cmd : goal.returns-clause-cmd
returns-clause-cmd c = refl
