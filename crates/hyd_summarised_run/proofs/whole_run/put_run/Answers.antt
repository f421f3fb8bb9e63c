-- The header, the steps and the end.
use Rattle.std.proofs.lemmas.Result.{err_from_is_err_and}
use Rattle.std.proofs.Common.{◌∙◌, ap, refl}
use Rattle.hyd_cert.specs.RecordView.{header_of}
use Rattle.hyd_sim.specs.RunView.{standing_of}
use Rattle.hyd_run.specs.Runs.{outcome_of}
use Rattle.hyd_run.proofs.WholeRunLemmas.{fresh-open}
use Rattle.hyd_run.proofs.PenLemmas.{on_any}
use Rattle.hyd_summarised_run.proofs.PenLemmas.{cert-put}
use Rattle.hyd_summarised_run.proofs.RunLemmas.{begun, begun-cut-off, ending-sums}
use Rattle.hyd_summarised_run.proofs.whole_run.put_run.Goals as goal

pub put_header-requires : goal.put_header-requires
put_header-requires g c = on_any _ _ c.requires.ready

pub put_steps-requires : goal.put_steps-requires
put_steps-requires g c =
    (cert-put _ _ _ _ _ _ _ (fresh-open _ _ _ c.requires.certificate refl c.requires.ready)
    c.in_ok-put_header.ensures).unbroken

pub put_ending-requires-clause-unbroken : goal.put_ending-requires-clause-unbroken
put_ending-requires-clause-unbroken g c = c.in-Ok.ensures.unbroken

pub returns-in_err-put_header-clause-puts : goal.returns-in_err-put_header-clause-puts
returns-in_err-put_header-clause-puts g c =
    let p = err_from_is_err_and c.from_residual.result c.from_residual.ensures.1 in
    rw (p.1, p.2) (begun-cut-off _ _ c.in_err-put_header.field-0.0 _ _ _ (ap header_of c.row.ensures ∙ c.project-project.ensures.is_sim.header)
    (cert-put _ _ _ _ _ _ _ (fresh-open _ _ _ c.requires.certificate c.requires.report c.requires.ready)
    c.in_err-put_header.ensures))

pub returns-in-Err-clause-puts : goal.returns-in-Err-clause-puts
returns-in-Err-clause-puts g c =
    rw c.requires.report (c.in-Err.ensures.puts _
    (begun _ c.args.sim.now.settings _ _ _ _ (ap header_of c.row.ensures ∙ c.project-project.ensures.is_sim.header)
    c.requires.start (cert-put _ _ _ _ _ _ _ (fresh-open _ _ _ c.requires.certificate refl
    c.requires.ready) c.in_ok-put_header.ensures)))

pub returns-in-Ok-clause-puts : goal.returns-in-Ok-clause-puts
returns-in-Ok-clause-puts g c =
    let steps = c.in-Ok.ensures.puts in
    rw c.requires.report (ending-sums c.args.sim.now.project c.put_steps.new.sim.project c.args.sim.now.settings
    c.put_steps.new.sim.settings (standing_of c.put_steps.new.sim) c.in-Ok.ended.events
    (outcome_of c.in-Ok.ended.end) c.put_ending.result _ _ _
    c.put_steps.ensures.project c.put_steps.ensures.settings c.put_ending.ensures.puts steps.0
    steps.1.0 (steps.1.1 _
    (begun _ c.args.sim.now.settings _ _ _ _ (ap header_of c.row.ensures ∙ c.project-project.ensures.is_sim.header)
    c.requires.start (cert-put _ _ _ _ _ _ _ (fresh-open _ _ _ c.requires.certificate refl
    c.requires.ready) c.in_ok-put_header.ensures))))
