use Rattle.std.proofs.Common.{◌≡◌}
use Rattle.hyd_cert.specs.FlowPartView.{part_of}
use Rattle.hyd_sim.specs.RunView.{standing_of}
use Rattle.hyd_run.specs.Pens.{RunMoment, moment, told, AreOpen}
use Rattle.hyd_run.specs.Runs.{periods_left}
use Rattle.hyd_spec_flows.specs.FlowParts.{names_of}
use Rattle.hyd_run_naming_flows.specs.NamingRuns.{IsSoFarNaming}
use Rattle.hyd_run_naming_flows.proofs.steps.put_steps.Given as goal

-- whatever was put in before as a run so far is one still, and the part names the same links
abbrev pub invariant-loop-end : goal.invariant-loop-end
invariant-loop-end g l =
    let D = g.D.Desk in
    record {
      project : l.sim.project ≡ l.fn.sim.project;
      settings : l.sim.settings ≡ l.fn.sim.settings;
      names : names_of (part_of l.part) ≡ names_of (part_of l.fn.part);
      junctions : l.part.junctions ≡ l.fn.part.junctions;
      room : l.search ≡ l.fn.search;
      unbroken : AreOpen (moment l.certificate l.report
          (told D.files D.rest D.written D.printed D.target D.ready D.counts D.openings l.desk));
      so_far : (start : RunMoment)
          → IsSoFarNaming l.fn.sim.project l.fn.sim.settings (names_of (part_of l.fn.part)) (standing_of l.fn.sim) start
          (moment l.fn.certificate l.fn.report
          (told D.files D.rest D.written D.printed D.target D.ready D.counts D.openings l.fn.desk))
          → IsSoFarNaming l.fn.sim.project l.fn.sim.settings (names_of (part_of l.fn.part)) (standing_of l.sim) start
          (moment l.certificate l.report
          (told D.files D.rest D.written D.printed D.target D.ready D.counts D.openings l.desk));
    }

abbrev pub decreases-loop-end : goal.decreases-loop-end
decreases-loop-end g l = periods_left l.fn.sim.project (standing_of l.sim)
