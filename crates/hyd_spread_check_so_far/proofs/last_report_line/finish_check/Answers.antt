-- The pen is emptied.
use Rattle.hyd_cert.specs.ReaderView.{fresh}
use Rattle.hyd_cert_check.specs.declared.outcome.CheckFault.TheVariants.{Output}
use Rattle.hyd_cert_check.proofs.PenLemmas.{not_cert, put-in, put-cut-off, pen-new}
use Rattle.hyd_spread_check_so_far.proofs.WholeSpreadCheckLemmas.{whole-emptied, whole-cut-off}
use Rattle.hyd_spread_check_so_far.proofs.last_report_line.finish_check.Goals as goal

pub empty-requires : goal.empty-requires
empty-requires g c = not_cert _ _ c.requires.to

pub returns-in-Ok-clause-puts : goal.returns-in-Ok-clause-puts
returns-in-Ok-clause-puts g c = λ project spread start reader whole.
    whole-emptied project spread c.args.end start _ _ whole
    (put-in _ reader reader _ _ _ _ c.requires c.in-Ok.ensures.puts)

pub returns-in-Ok-clause-report : goal.returns-in-Ok-clause-report
returns-in-Ok-clause-report g c =
    pen-new _ (put-in _ fresh fresh _ _ _ _ c.requires c.in-Ok.ensures.puts).open_still c.in-Ok.ensures.empty

pub returns-in-Err-clause-puts : goal.returns-in-Err-clause-puts
returns-in-Err-clause-puts g c = λ project spread start reader whole.
    whole-cut-off project spread c.args.end (Output c.in-Err.fault) start _ _ whole
    (put-cut-off _ c.in-Err.fault reader reader _ _ _ _ c.requires c.in-Err.ensures.puts)
