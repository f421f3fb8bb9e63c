use Rattle.std.proofs.Common.{◌≡◌, ◌≤◌, ◌*◌, ◌^◌}
use Rattle.hyd_sim.specs.RunView.{standing_of}
use Rattle.hyd_run.specs.Pens.{RunMoment, told, AreOpen}
use Rattle.hyd_run.specs.Runs.{sharpness_of, periods_left}
use Rattle.hyd_summarised_run.specs.SummarisedRuns.{aside, SumsSoFar}
use Rattle.hyd_summarised_run.proofs.steps.put_steps.Given as goal

-- whatever was put in before as a run so far is one still, and each period had no more events than an index can have
abbrev pub invariant-loop-more : goal.invariant-loop-more
invariant-loop-more g l =
    let D = g.D.Desk in
    record {
      project : l.sim.project ≡ l.fn.sim.project;
      settings : l.sim.settings ≡ l.fn.sim.settings;
      unbroken : AreOpen (aside l.certificate
          (told D.files D.rest D.written D.printed D.target D.ready D.counts D.openings l.desk));
      few : l.events ≤ 2 ^ 64 * (standing_of l.sim).number;
      so_far : (start : RunMoment)
          → SumsSoFar l.fn.sim.project (sharpness_of l.fn.sim.settings) (standing_of l.fn.sim) 0 start
          (aside l.fn.certificate
          (told D.files D.rest D.written D.printed D.target D.ready D.counts D.openings l.fn.desk))
          → SumsSoFar l.fn.sim.project (sharpness_of l.fn.sim.settings) (standing_of l.sim) l.events start
          (aside l.certificate
          (told D.files D.rest D.written D.printed D.target D.ready D.counts D.openings l.desk));
    }

abbrev pub decreases-loop-more : goal.decreases-loop-more
decreases-loop-more g l = periods_left l.fn.sim.project (standing_of l.sim)
