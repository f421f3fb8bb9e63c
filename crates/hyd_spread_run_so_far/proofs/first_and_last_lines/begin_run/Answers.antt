-- What was put in is a run that has done no period.
use Rattle.hyd_spread_rows.specs.SpreadsRead.{spread_of}
use Rattle.hyd_spread_run_so_far.proofs.WholeSpreadRunLemmas.{begins-so, open-still}
use Rattle.hyd_spread_run_so_far.proofs.first_and_last_lines.begin_run.Goals as goal

pub returns-clause-begins : goal.returns-clause-begins
returns-clause-begins g c = λ asked of_rows same decided.
    begins-so c.args.project.now asked (spread_of c.args.rows.now) _ c.put_front.result _ _ of_rows same decided
    c.put_front.ensures

pub returns-clause-unbroken : goal.returns-clause-unbroken
returns-clause-unbroken g c = open-still _ _ c.put_front.result _ _ c.put_front.ensures
