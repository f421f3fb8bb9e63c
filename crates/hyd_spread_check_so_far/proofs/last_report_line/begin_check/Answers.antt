-- The first lines were put in, and nothing was read.
use Rattle.std.proofs.Common.{ap}
use Rattle.hyd_cert.specs.ReaderView.{fresh, to_come}
use Rattle.hyd_cert_check.specs.declared.outcome.CheckFault.TheVariants.{Output}
use Rattle.hyd_cert_check.proofs.PenLemmas.{not_cert, put-in, put-cut-off}
use Rattle.hyd_spread_rows.specs.SpreadsRead.{spread_of}
use Rattle.hyd_spread_check_so_far.proofs.WholeSpreadCheckLemmas.{so-far-begins, first-cut-short}
use Rattle.hyd_spread_check_so_far.proofs.last_report_line.begin_check.Goals as goal

pub put_first_lines-requires-clause-ready : goal.put_first_lines-requires-clause-ready
put_first_lines-requires-clause-ready g c = not_cert _ _ c.requires.unbroken.to

pub returns-in-Ok-clause-begins : goal.returns-in-Ok-clause-begins
returns-in-Ok-clause-begins g c = λ reader stands lines.
    so-far-begins c.args.project.now (spread_of c.args.rows.now) c.requires.decided _ _ stands lines
    (ap (to_come reader) c.in-Ok.ensures.rest_stays)
    (put-in _ reader reader _ _ _ _ c.requires.unbroken c.in-Ok.ensures)

pub returns-in-Ok-clause-unbroken : goal.returns-in-Ok-clause-unbroken
returns-in-Ok-clause-unbroken g c =
    (put-in _ fresh fresh _ _ _ _ c.requires.unbroken c.in-Ok.ensures).open_still

pub returns-in-Err-clause-begins : goal.returns-in-Err-clause-begins
returns-in-Err-clause-begins g c = λ reader stands lines.
    first-cut-short c.args.project.now (spread_of c.args.rows.now) (Output c.in-Err.fault) _ _ c.requires.sound
    c.requires.spread c.requires.decided stands lines
    (put-cut-off _ c.in-Err.fault reader reader _ _ _ _ c.requires.unbroken c.in-Err.ensures)
