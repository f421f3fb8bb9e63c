use Rattle.std.proofs.Common.{◌≡◌, None}
use Rattle.hyd_spec_open_checks.specs.OpenChecks.{open_header_for}
use Rattle.hyd_open_certificates.specs.OpenRowView.{open_header_of}
use Rattle.hyd_run.specs.Pens.{told}
use Rattle.hyd_run.specs.Runs.{periods_left}
use Rattle.hyd_spread_run.specs.PeriodsOfSpreadRuns.{standing_of}
use Rattle.hyd_cert_check.specs.ReaderAndPen.{CheckMoment, moment}
use Rattle.hyd_cert_check.specs.RecordByRecord.{CanGoOn}
use Rattle.hyd_spread_check_so_far.specs.SpreadCheckSoFar.{IsSoFar}
use Rattle.hyd_spread_check.proofs.records.take_records.Given as goal

-- whatever was put in before as a check so far is one still
abbrev pub invariant-loop-conclusion : goal.invariant-loop-conclusion
invariant-loop-conclusion g l =
    let D = g.D.Desk in
    record {
      project : l.sim.project ≡ l.fn.sim.project;
      settings : l.sim.settings ≡ l.fn.sim.settings;
      spread : l.sim.nets.spread ≡ l.fn.sim.nets.spread;
      running : l.sim.stopped ≡ None;
      header : open_header_of l.row ≡ open_header_for l.fn.sim.project;
      going : CanGoOn (moment l.reader l.pen
          (told D.files D.rest D.written D.printed D.target D.ready D.counts D.openings l.desk));
      so_far : (start : CheckMoment) → IsSoFar l.fn.sim.project l.fn.sim.nets.spread (standing_of l.fn.sim) start
          (moment l.fn.reader l.fn.pen
          (told D.files D.rest D.written D.printed D.target D.ready D.counts D.openings l.fn.desk))
          → IsSoFar l.fn.sim.project l.fn.sim.nets.spread (standing_of l.sim) start (moment l.reader l.pen
          (told D.files D.rest D.written D.printed D.target D.ready D.counts D.openings l.desk));
    }

abbrev pub decreases-loop-conclusion : goal.decreases-loop-conclusion
decreases-loop-conclusion g l = periods_left l.fn.sim.project (standing_of l.sim).known
