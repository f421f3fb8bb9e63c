-- The run is whole with its last lines.
use Rattle.std.proofs.Common.{sym, subst}
use Rattle.hyd_net.specs.Sound.{IsSound}
use Rattle.hyd_run.specs.Runs.{outcome_of}
use Rattle.hyd_run.proofs.PeriodLemmas.{small-number}
use Rattle.hyd_sim.specs.RunView.{standing_of}
use Rattle.hyd_run_naming_flows.proofs.WholeRunLemmas.{ended, ended-cut-off}
use Rattle.hyd_run_naming_flows.proofs.whole_run.put_ending.Goals as goal

pub put_last-requires : goal.put_last-requires
put_last-requires g c = record {
  sound = subst IsSound (sym c.project.ensures.project) c.project.ensures.is_sim.sound;
  unbroken = c.requires;
}

pub returns-in-Ok : goal.returns-in-Ok
returns-in-Ok g c = λ ends names named start so_far.
    (let last = c.in-Ok.ensures (standing_of c.args.sim.now) (sym c.time.ensures) in
    ended _ c.project.result.now c.args.sim.now.settings named (outcome_of c.args.end) (standing_of c.args.sim.now)
    start _ _ c.number.result c.project.ensures.project c.number.ensures ends names so_far
    (small-number _ c.project.ensures.is_sim) last.0 last.1)

pub returns-in-Err : goal.returns-in-Err
returns-in-Err g c = λ ends names named start so_far.
    ended-cut-off _ c.project.result.now c.args.sim.now.settings named (outcome_of c.args.end)
    (standing_of c.args.sim.now) start _ _ c.number.result c.project.ensures.project c.number.ensures ends names so_far
    c.in-Err.fault (c.in-Err.ensures (standing_of c.args.sim.now) (sym c.time.ensures))
