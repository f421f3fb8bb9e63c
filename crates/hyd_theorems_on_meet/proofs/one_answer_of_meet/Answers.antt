use Rattle.hyd_theorems_on_meet.proofs.OneAnswer.{one_met, one_unmet_answer, one_faulty, met_or_unmet, met_or_faulty}
use Rattle.hyd_theorems_on_meet.proofs.OneAnswer.{unmet_or_faulty}
use Rattle.hyd_theorems_on_meet.proofs.one_answer_of_meet.Goals as goal

pub returns-clause-met : goal.returns-clause-met
returns-clause-met c = λ project sound text a b m n. one_met project text a b sound m n

pub returns-clause-unmet : goal.returns-clause-unmet
returns-clause-unmet c = λ project sound text a b u v m n. one_unmet_answer project text a b sound u v m n

pub returns-clause-faulty : goal.returns-clause-faulty
returns-clause-faulty c = λ project text a b m n x y. one_faulty project text a b m n x y

pub returns-clause-met_or_unmet : goal.returns-clause-met_or_unmet
returns-clause-met_or_unmet c = λ project sound text a b u m n. met_or_unmet project text a b sound u m n

pub returns-clause-met_or_faulty : goal.returns-clause-met_or_faulty
returns-clause-met_or_faulty c = λ project text a b n m faulty. met_or_faulty project text a b n m faulty

pub returns-clause-unmet_or_faulty : goal.returns-clause-unmet_or_faulty
returns-clause-unmet_or_faulty c = λ project text a b u n m faulty. unmet_or_faulty project text a b u n m faulty
