-- What a search for a witness works with.
-- Source: this program's.
use Rattle.std.specs.Prelude.{◌≡◌, ℕ, None}
use Rattle.hyd_net.specs.Sound.{IsSound}
use Rattle.hyd_spec.specs.ProgramTypes.{Project}
use Rattle.hyd_spec_certificates.specs.RecordAndStanding.{initial_standing}
use Rattle.hyd_spec_witnesses.specs.MetPeriods.{at_start}
use Rattle.hyd_cert.specs.RecordView.{header_of}
use Rattle.hyd_sim.specs.RunView.{header_for, standing_of}
use Rattle.hyd_course.specs.Courses.{IsCourse, IsCourseOf}
use Rattle.hyd_met_flows.specs.Periods.{IsMomentOf}
use Rattle.hyd_witness_texts.specs.MomentView.{moment_of}
use Rattle.hyd_witness_stream.specs.declared.bench.Bench.{Bench}
use Rattle.hyd_witness_stream.specs.declared.bench.Entry.{Entry}
use Rattle.hyd_witness_stream.specs.declared.bench.MomentSearch.{MomentSearch}

-- There is room for the records of a network and their parts.
pub record IsEntryFor (project : Project) (entry : Entry) : Type 0 where
  pub header : header_of entry.row ≡ header_for project
  pub part : entry.part.junctions ≡ entry.row.junctions

-- There is a course of a network, wherever it stands, and room for its moments.
pub record AreFor (project : Project) (moments : MomentSearch) : Type 0 where
  pub course : IsCourse project moments.course
  pub moment : IsMomentOf project (moment_of moments.moment)

-- The course stands before the first period, at scale S.
pub record AreAtStart (project : Project) (S : ℕ) (moments : MomentSearch) : Type 0 where
  pub are : AreFor project moments
  pub stands : IsCourseOf project S at_start moments.course

-- What a search works with is of one network, wherever its run and its course stand.
pub record IsBench (bench : Bench) : Type 0 where
  pub sound : IsSound bench.sim.project
  pub entry : IsEntryFor bench.sim.project bench.entry
  pub moments : AreFor bench.sim.project bench.moments

-- A search may begin, at scale S: the run is at its start, and so is the course.
pub record IsAtStart (S : ℕ) (bench : Bench) : Type 0 where
  pub is : IsBench bench
  pub standing : standing_of bench.sim ≡ initial_standing bench.sim.project
  pub running : bench.sim.stopped ≡ None
  pub stands : IsCourseOf bench.sim.project S at_start bench.moments.course
