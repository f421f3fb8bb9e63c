use Rattle.std.proofs.Common.{◌≡◌, ◌-◌, ◌^◌, ℕ, List, Some}
use Rattle.hyd_io.specs.LeftAsItWas.{KeepsOutput}
use Rattle.hyd_spec_witnesses.specs.WitnessText.{counts_of}
use Rattle.hyd_course.specs.Courses.{IsCourse}
use Rattle.hyd_witness_texts.specs.MomentView.{HasCounts, moment_of}
use Rattle.hyd_witness_texts.specs.ReaderView.{IsGoing, periods_at}
use Rattle.hyd_witness_trials.specs.WitnessSoFar.{IsSoFar}
use Rattle.hyd_witness_trials.proofs.periods.find.Given as goal

-- all periods so far are met
abbrev pub invariant-loop-finding : goal.invariant-loop-finding
invariant-loop-finding g l =
    let D = g.D.Desk in
    record {
      counts : l.reader.counts ≡ counts_of l.project;
      going : IsGoing l.reader.stand;
      course : IsCourse l.project l.course;
      lists : HasCounts (counts_of l.project) (moment_of l.moment);
      so_far : (text : List ℕ) → D.rest l.fn.desk ≡ Some text
          → IsSoFar l.reader.stand l.project text l.reader (D.rest l.desk) l.course;
      steady : D.counts l.desk ≡ D.counts l.fn.desk;
      stays : KeepsOutput D.files D.written D.printed D.target D.ready D.counts D.openings l.fn.desk l.desk;
    }

-- a witness has fewer than 2^32 periods
abbrev pub decreases-loop-finding : goal.decreases-loop-finding
decreases-loop-finding g l = 2 ^ 32 - periods_at l.reader.stand
