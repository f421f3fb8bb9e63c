-- The first lines, the steps and the last lines.
use Rattle.std.proofs.lemmas.Result.{err_from_is_err_and}
use Rattle.std.proofs.Common.{◌∙◌, ap, sym, subst}
use Rattle.hyd_net.specs.Sound.{IsSound}
use Rattle.hyd_open_certificates.specs.OpenRowView.{open_header_of}
use Rattle.hyd_open_sim.specs.RunView.{standing_of}
use Rattle.hyd_run.specs.Runs.{outcome_of}
use Rattle.hyd_open_run.specs.PeriodsOfOpenRuns.{asked_of}
use Rattle.hyd_open_run.proofs.OpenStepLemmas.{begun-at, ended-as}
use Rattle.hyd_open_run.proofs.whole_run.put_run.Goals as goal

pub put_steps-requires : goal.put_steps-requires
put_steps-requires g c = c.in_ok-begin_run.ensures.unbroken

pub end_run-requires : goal.end_run-requires
end_run-requires g c = record {
  sound = subst IsSound (sym c.project.ensures.project) c.project.ensures.is_sim.sound;
  unbroken = c.in-Ok.ensures.unbroken;
}

pub returns-in_err-begin_run-clause-puts : goal.returns-in_err-begin_run-clause-puts
returns-in_err-begin_run-clause-puts g c =
    let p = err_from_is_err_and c.from_residual.result c.from_residual.ensures.1 in
    rw (p.1, p.2) (c.in_err-begin_run.ensures.begins c.args.sim.now.project (asked_of c.args.sim.now.settings)
    (ap open_header_of c.found.ensures ∙ c.project-project.ensures.is_sim.header))

pub returns-in-Err-clause-puts : goal.returns-in-Err-clause-puts
returns-in-Err-clause-puts g c =
    c.in-Err.ensures.puts _ (begun-at _ _ _ _ _ _ (sym c.requires.start)
    (c.in_ok-begin_run.ensures.begins c.args.sim.now.project (asked_of c.args.sim.now.settings)
    (ap open_header_of c.found.ensures ∙ c.project-project.ensures.is_sim.header)))

pub returns-in-Ok-clause-puts : goal.returns-in-Ok-clause-puts
returns-in-Ok-clause-puts g c =
    let steps = c.in-Ok.ensures.puts in
    let begun = begun-at _ _ _ _ _ _ (sym c.requires.start)
    (c.in_ok-begin_run.ensures.begins c.args.sim.now.project (asked_of c.args.sim.now.settings)
    (ap open_header_of c.found.ensures ∙ c.project-project.ensures.is_sim.header)) in
    ended-as _ _ (asked_of c.args.sim.now.settings) (standing_of c.put_steps.new.sim)
    (outcome_of c.in-Ok.end) c.end_run.result _ _ _ (c.project.ensures.project ∙ c.put_steps.ensures.project)
    (λ ends start so_far. c.end_run.ensures (asked_of c.args.sim.now.settings) (standing_of c.put_steps.new.sim)
    (sym c.time.ensures) (sym c.number.ensures) ends start so_far) steps.0 (steps.1 _ begun)
