-- What was put in is a run that has done no period.
use Rattle.hyd_open_run_so_far.proofs.WholeOpenRunLemmas.{begins-so, open-still}
use Rattle.hyd_open_run_so_far.proofs.first_and_last_lines.begin_run.Goals as goal

pub returns-clause-begins : goal.returns-clause-begins
returns-clause-begins g c = λ project asked same.
    begins-so project asked _ c.put_front.result _ _ same c.put_front.ensures

pub returns-clause-unbroken : goal.returns-clause-unbroken
returns-clause-unbroken g c = open-still _ _ c.put_front.result _ _ c.put_front.ensures
