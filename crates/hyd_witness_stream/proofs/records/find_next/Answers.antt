-- What the search is given, and what it finds.
use Rattle.std.proofs.Common.{ap}
use Rattle.hyd_cert.specs.Lines.{Header}
use Rattle.hyd_cert.specs.RecordView.{row_of}
use Rattle.hyd_witness_stream.proofs.FoundLemmas.{finds-as, finds-so}
use Rattle.hyd_witness_stream.proofs.records.find_next.Goals as goal

pub find_moment-requires : goal.find_moment-requires
find_moment-requires c =
    let is = c.project-project.ensures.is_sim in
    let p = c.project-project.ensures.project in
    record {
      sound = rw p is.sound;
      course = rw p c.requires.moments.course;
      junctions = rw (p, c.row-row.ensures) (ap (λ (h : Header). h.junctions) is.header);
      demands = rw (p, c.row-row.ensures) c.requires.demands;
      moment = rw p c.requires.moments.moment;
    }

pub returns-clause-finds : goal.returns-clause-finds
returns-clause-finds c =
    let e = c.find_moment.ensures in
    finds-as c.find_moment.result c.project-project.result.now c.args.sim.now.project (row_of c.row-row.result.now)
    (row_of c.args.sim.now.row) c.args.moments.now.course _ c.project-project.ensures.project
    (ap row_of c.row-row.ensures)
    (finds-so c.find_moment.result c.project-project.result.now (row_of c.row-row.result.now)
    c.args.moments.now.course _ e.yes e.behind e.middle e.no)

pub returns-clause-moments : goal.returns-clause-moments
returns-clause-moments c =
    let p = c.project-project.ensures.project in
    let e = c.find_moment.ensures in
    record { course = rw p at e.course; moment = rw p at e.moment }
