use Rattle.hyd_theorems_on_rereading.proofs.SameHeaders.{same_compared, same_version, same_junctions, same_tanks}
use Rattle.hyd_theorems_on_rereading.proofs.same.Goals as goal

pub returns-clause-compared : goal.returns-clause-compared
returns-clause-compared c = same_compared

pub returns-clause-version : goal.returns-clause-version
returns-clause-version c = same_version

pub returns-clause-junctions : goal.returns-clause-junctions
returns-clause-junctions c = same_junctions

pub returns-clause-tanks : goal.returns-clause-tanks
returns-clause-tanks c = same_tanks
