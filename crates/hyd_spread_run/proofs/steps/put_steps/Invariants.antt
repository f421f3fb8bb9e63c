use Rattle.std.proofs.Common.{◌≡◌, true}
use Rattle.hyd_spec_spread_reports.specs.TextsOfSpreadReports.{says_nothing}
use Rattle.hyd_run.specs.Pens.{RunMoment, moment, told, AreOpen}
use Rattle.hyd_run.specs.Runs.{periods_left}
use Rattle.hyd_spread_sim.specs.SpreadRunView.{standing_of}
use Rattle.hyd_spread_run_so_far.specs.SpreadRunSoFar.{IsSoFar}
use Rattle.hyd_spread_run.specs.PeriodsOfSpreadRuns.{asked_of}
use Rattle.hyd_spread_run.proofs.steps.put_steps.Given as goal

-- whatever was put in before as a run so far is one still
abbrev pub invariant-loop-end : goal.invariant-loop-end
invariant-loop-end g l =
    let D = g.D.Desk in
    record {
      project : l.sim.project ≡ l.fn.sim.project;
      settings : l.sim.settings ≡ l.fn.sim.settings;
      spread : l.sim.nets.spread ≡ l.fn.sim.nets.spread;
      alike : says_nothing l.sim.nets.spread ≡ true → g.G.Finder.told l.below ≡ g.F.Finder.told l.above;
      unbroken : AreOpen (moment l.certificate l.report
          (told D.files D.rest D.written D.printed D.target D.ready D.counts D.openings l.desk));
      so_far : (start : RunMoment)
          → IsSoFar l.fn.sim.project (asked_of l.fn.sim.settings l.fn.sim.nets.spread) (standing_of l.fn.sim) start
          (moment l.fn.certificate l.fn.report
          (told D.files D.rest D.written D.printed D.target D.ready D.counts D.openings l.fn.desk))
          → IsSoFar l.fn.sim.project (asked_of l.fn.sim.settings l.fn.sim.nets.spread) (standing_of l.sim) start
          (moment l.certificate l.report
          (told D.files D.rest D.written D.printed D.target D.ready D.counts D.openings l.desk));
    }

abbrev pub decreases-loop-end : goal.decreases-loop-end
decreases-loop-end g l = periods_left l.fn.sim.project (standing_of l.sim).known
