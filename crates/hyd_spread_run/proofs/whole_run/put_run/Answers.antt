-- The first lines, the steps and the last lines.
use Rattle.std.proofs.lemmas.Result.{err_from_is_err_and}
use Rattle.std.proofs.Common.{◌∙◌, ap, sym, subst}
use Rattle.std.specs.Prelude.{Ok, Err}
use Rattle.hyd_net.specs.Sound.{IsSound}
use Rattle.hyd_run.specs.Runs.{outcome_of}
use Rattle.hyd_spread_networks.specs.NetsOfSpreads.{SpreadNetsView}
use Rattle.hyd_spread_sim.specs.SpreadRunView.{standing_of}
use Rattle.hyd_spread_run.specs.PeriodsOfSpreadRuns.{asked_of}
use Rattle.hyd_spread_run.proofs.SpreadStepLemmas.{begun-by, begun-at, ended-as}
use Rattle.hyd_spread_run.proofs.whole_run.put_run.Goals as goal

pub begin_run-requires : goal.begin_run-requires
begin_run-requires g c = record {
  sound = subst IsSound (sym c.project-project.ensures.project) c.project-project.ensures.is_sim.sound;
  unbroken = c.requires.unbroken;
}

pub put_steps-requires-clause-unbroken : goal.put_steps-requires-clause-unbroken
put_steps-requires-clause-unbroken g c = c.in_ok-begin_run.ensures.unbroken

pub end_run-requires : goal.end_run-requires
end_run-requires g c = record {
  sound = subst IsSound (sym c.project.ensures.project) c.project.ensures.is_sim.sound;
  unbroken = c.in-Ok.ensures.unbroken;
}

pub returns-in_err-begin_run-clause-puts : goal.returns-in_err-begin_run-clause-puts
returns-in_err-begin_run-clause-puts g c =
    let p = err_from_is_err_and c.from_residual.result c.from_residual.ensures.1 in
    rw (p.1, p.2) (begun-by c.args.sim.now c.project-project.ensures.is_sim _ _ _ (Err c.in_err-begin_run.field-0.0) _ _
    c.project-project.ensures.project c.found.ensures
    (c.spread-rows.ensures ∙ ap (λ (n : SpreadNetsView). n.spread) c.nets.ensures) c.in_err-begin_run.ensures.begins)

pub returns-in-Err-clause-puts : goal.returns-in-Err-clause-puts
returns-in-Err-clause-puts g c =
    c.in-Err.ensures.puts _ (begun-at _ _ _ _ _ _ (sym c.requires.start)
    (begun-by c.args.sim.now c.project-project.ensures.is_sim _ _ _ (Ok (tt {0})) _ _
    c.project-project.ensures.project c.found.ensures
    (c.spread-rows.ensures ∙ ap (λ (n : SpreadNetsView). n.spread) c.nets.ensures) c.in_ok-begin_run.ensures.begins))

pub returns-in-Ok-clause-puts : goal.returns-in-Ok-clause-puts
returns-in-Ok-clause-puts g c =
    let asked = asked_of c.args.sim.now.settings c.args.sim.now.nets.spread in
    let steps = c.in-Ok.ensures.puts in
    let begun = begun-at _ _ _ _ _ _ (sym c.requires.start)
    (begun-by c.args.sim.now c.project-project.ensures.is_sim _ _ _ (Ok (tt {0})) _ _
    c.project-project.ensures.project c.found.ensures
    (c.spread-rows.ensures ∙ ap (λ (n : SpreadNetsView). n.spread) c.nets.ensures) c.in_ok-begin_run.ensures.begins) in
    ended-as _ _ asked (standing_of c.put_steps.new.sim) (outcome_of c.in-Ok.end) c.end_run.result _ _ _
    (c.project.ensures.project ∙ c.put_steps.ensures.project)
    (λ ends start so_far. c.end_run.ensures asked (standing_of c.put_steps.new.sim)
    (sym c.time.ensures) (sym c.number.ensures) ends start so_far) steps.0 (steps.1 _ begun)
