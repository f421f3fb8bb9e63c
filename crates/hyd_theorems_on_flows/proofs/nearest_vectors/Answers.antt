use Rattle.hyd_theorems_on_flows.proofs.HeldVectors.{tight_near, spent_near}
use Rattle.hyd_theorems_on_flows.proofs.nearest_vectors.Goals as goal

pub returns-clause-tight : goal.returns-clause-tight
returns-clause-tight c = λ rounds grid row is link side u. tight_near grid row is link side rounds u

pub returns-clause-spent : goal.returns-clause-spent
returns-clause-spent c = λ rounds grid row is link side. spent_near grid row is link side rounds
