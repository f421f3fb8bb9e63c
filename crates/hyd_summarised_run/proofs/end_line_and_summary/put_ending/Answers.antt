-- The END line ends the certificate, and the summary is that of what was found.
use Rattle.std.proofs.lemmas.Result.{err_from_is_err_and}
use Rattle.std.proofs.Common.{sym, subst}
use Rattle.hyd_net.specs.Sound.{IsSound}
use Rattle.hyd_sim.specs.RunView.{standing_of}
use Rattle.hyd_run.specs.Runs.{outcome_of}
use Rattle.hyd_run.proofs.PenLemmas.{on_any}
use Rattle.hyd_run.proofs.PeriodLemmas.{small-number}
use Rattle.hyd_summarised_run.proofs.PenLemmas.{report-put}
use Rattle.hyd_summarised_run.proofs.RunLemmas.{close-cut-off, is-whole, summary-cut-off}
use Rattle.hyd_summarised_run.proofs.end_line_and_summary.put_ending.Goals as goal

pub print_summary-requires-clause-sound : goal.print_summary-requires-clause-sound
print_summary-requires-clause-sound g c = subst IsSound (sym c.project.ensures.project) c.project.ensures.is_sim.sound

pub print_summary-requires-clause-ready : goal.print_summary-requires-clause-ready
print_summary-requires-clause-ready g c = on_any _ _ c.in_ok-close_certificate.ensures.puts.unbroken.ready

pub returns-in_err-close_certificate-clause-puts : goal.returns-in_err-close_certificate-clause-puts
returns-in_err-close_certificate-clause-puts g c =
    let p = err_from_is_err_and c.from_residual.result c.from_residual.ensures.1 in
    rw (p.1, p.2) (λ ends names start so_far.
    rw c.requires.report (close-cut-off _ c.args.sim.now.settings (outcome_of c.args.ended.end) (standing_of
    c.args.sim.now)
    c.args.ended.events c.number-records.result start _ c.number-records.ensures ends names so_far c.in_err-close_certificate.field-0.0 _
    (rw c.is_finished.ensures at c.in_err-close_certificate.ensures.puts)))

pub returns-in-Ok-clause-puts : goal.returns-in-Ok-clause-puts
returns-in-Ok-clause-puts g c = λ ends names start so_far.
    is-whole _ c.args.sim.now.settings (outcome_of c.args.ended.end) (standing_of c.args.sim.now) c.args.ended.events
    c.number-records.result start _ c.number-records.ensures ends names so_far _ _
    (rw c.number-records.ensures (small-number _ c.project.ensures.is_sim))
    (rw c.is_finished.ensures at c.in_ok-close_certificate.ensures.puts)
    (report-put _ _ _ _ _ _ _ c.in_ok-close_certificate.ensures.puts.unbroken
    (rw (c.requires.report, c.project.ensures.project) at (c.in-Ok.ensures.puts
    (standing_of c.args.sim.now) (sym c.time.ensures))))

pub returns-in-Err-clause-puts : goal.returns-in-Err-clause-puts
returns-in-Err-clause-puts g c = λ ends names start so_far.
    summary-cut-off _ c.args.sim.now.settings (outcome_of c.args.ended.end) (standing_of c.args.sim.now)
    c.args.ended.events
    c.number-records.result start _ c.number-records.ensures ends names so_far c.in-Err.fault _ _
    (rw c.is_finished.ensures at c.in_ok-close_certificate.ensures.puts) c.in_ok-close_certificate.ensures.empty
    (report-put _ _ _ _ _ _ _ c.in_ok-close_certificate.ensures.puts.unbroken
    (rw (c.requires.report, c.project.ensures.project) at (c.in-Err.ensures.puts
    (standing_of c.args.sim.now) (sym c.time.ensures))))
