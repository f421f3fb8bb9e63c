use Rattle.std.proofs.Common.{◌≡◌, ℕ, None}
use Rattle.hyd_cert.specs.ReaderView.{IsGoing}
use Rattle.hyd_run.specs.Pens.{told}
use Rattle.hyd_run.specs.Runs.{periods_left}
use Rattle.hyd_sim.specs.RunView.{standing_of}
use Rattle.hyd_cert_check.specs.ReaderAndPen.{CheckMoment, moment}
use Rattle.hyd_witness_stream.specs.Benches.{AreFor, IsEntryFor}
use Rattle.hyd_witness_stream.specs.SearchSoFar.{IsFoundSoFar}
use Rattle.hyd_witness_stream.specs.WitnessPen.{IsWriting}
use Rattle.hyd_witness_stream.proofs.records.take_records.Given as goal

-- whatever was found before is found still
abbrev pub invariant-loop-end : goal.invariant-loop-end
invariant-loop-end g l =
    let D = g.D.Desk in
    record {
      project : l.sim.project ≡ l.fn.sim.project;
      running : l.sim.stopped ≡ None;
      entry : IsEntryFor l.fn.sim.project l.entry;
      moments : AreFor l.fn.sim.project l.moments;
      going : IsGoing l.reader.stand;
      writing : IsWriting l.pen;
      ready : D.ready l.desk ≡ D.ready l.fn.desk;
      so_far : (S : ℕ) (start : CheckMoment) → IsFoundSoFar l.fn.sim.project S (standing_of l.fn.sim)
          l.fn.moments.course start (moment l.fn.reader l.fn.pen
          (told D.files D.rest D.written D.printed D.target D.ready D.counts D.openings l.fn.desk))
          → IsFoundSoFar l.fn.sim.project S (standing_of l.sim) l.moments.course start (moment l.reader l.pen
          (told D.files D.rest D.written D.printed D.target D.ready D.counts D.openings l.desk));
    }

abbrev pub decreases-loop-end : goal.decreases-loop-end
decreases-loop-end g l = periods_left l.fn.sim.project (standing_of l.sim)
