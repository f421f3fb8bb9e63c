use Rattle.hyd_theorems_on_witnesses.proofs.EnclosingAtScale.{enclosed-below, enclosed-above, met-follows}
use Rattle.hyd_theorems_on_witnesses.proofs.flows_at_scale.Goals as goal

pub returns-clause-below : goal.returns-clause-below
returns-clause-below c = enclosed-below

pub returns-clause-above : goal.returns-clause-above
returns-clause-above c = enclosed-above

pub returns-clause-met : goal.returns-clause-met
returns-clause-met c = λ S law d q some sound met. met-follows S law d q some sound met.near.from met.near.to
