-- The front, the steps and the end.
use Rattle.std.proofs.lemmas.Result.{err_from_is_err_and}
use Rattle.std.proofs.Common.{◌∙◌, ap}
use Rattle.hyd_cert.specs.RecordView.{header_of}
use Rattle.hyd_run.specs.Runs.{outcome_of}
use Rattle.hyd_sim.specs.RunView.{standing_of}
use Rattle.hyd_run_naming_flows.proofs.WholeRunLemmas.{begun, begun-cut-off, ending-puts}
use Rattle.hyd_run_naming_flows.proofs.whole_run.put_run.Goals as goal

pub put_steps-requires-clause-unbroken : goal.put_steps-requires-clause-unbroken
put_steps-requires-clause-unbroken g c = c.in_ok-put_front.ensures.unbroken

pub put_ending-requires : goal.put_ending-requires
put_ending-requires g c = c.in-Ok.ensures.unbroken

pub returns-in_err-put_front-clause-puts : goal.returns-in_err-put_front-clause-puts
returns-in_err-put_front-clause-puts g c =
    let p = err_from_is_err_and c.from_residual.result c.from_residual.ensures.1 in
    rw (p.1, p.2) (begun-cut-off _ _ _ _ _ _ (ap header_of c.row.ensures ∙ c.project-project.ensures.is_sim.header) c.in_err-put_front.field-0.0
    c.in_err-put_front.ensures)

pub returns-in-Err-clause-puts : goal.returns-in-Err-clause-puts
returns-in-Err-clause-puts g c =
    c.in-Err.ensures.puts _
    (begun _ c.args.sim.now.settings _ _ _ _ (ap header_of c.row.ensures ∙ c.project-project.ensures.is_sim.header) _
    c.requires.start c.in_ok-put_front.ensures)

pub returns-in-Ok-clause-puts : goal.returns-in-Ok-clause-puts
returns-in-Ok-clause-puts g c =
    let steps = c.in-Ok.ensures.puts in
    ending-puts c.args.sim.now.project c.put_steps.new.sim.project c.args.sim.now.settings
    c.put_steps.new.sim.settings _ (standing_of c.put_steps.new.sim) (outcome_of c.in-Ok.end)
    c.put_ending.result _ _ _ c.put_steps.ensures.project c.put_steps.ensures.settings c.put_ending.ensures steps.0
    steps.1.0 (steps.1.1 _
    (begun _ c.args.sim.now.settings _ _ _ _ (ap header_of c.row.ensures ∙ c.project-project.ensures.is_sim.header) _
    c.requires.start c.in_ok-put_front.ensures))
