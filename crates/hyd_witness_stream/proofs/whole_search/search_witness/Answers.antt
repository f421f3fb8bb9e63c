-- What was put in went out.
use Rattle.std.proofs.Common.{◌∙◌, ap, sym, subst}
use Rattle.hyd_io.specs.Output.{PenState}
use Rattle.hyd_net.specs.Sound.{IsSound}
use Rattle.hyd_cert.specs.ReaderView.{ReaderView, to_come}
use Rattle.hyd_cert.proofs.CertificatesLineByLine.{nothing-before}
use Rattle.hyd_run.specs.Pens.{told}
use Rattle.hyd_cert_check.specs.ReaderAndPen.{moment}
use Rattle.hyd_witness_stream.proofs.WitnessLemmas.{search-begins, search-cause, search-ends, search-leaves}
use Rattle.hyd_witness_stream.proofs.WitnessLemmas.{search-steady}
use Rattle.hyd_witness_stream.proofs.whole_search.search_witness.Goals as goal

pub put_search-requires-clause-writing : goal.put_search-requires-clause-writing
put_search-requires-clause-writing g c = record {
  to = ap (λ (p : PenState). p.to) c.new-pen.ensures;
  no_fault = ap (λ (p : PenState). p.fault) c.new-pen.ensures;
}

pub returns-clause-ends : goal.returns-clause-ends
returns-clause-ends g c = λ S is is_scale text known.
    let D = g.D.Desk in
    let start = moment c.new-reader.result c.new-pen.result
    (told D.files D.rest D.written D.printed D.target D.ready D.counts D.openings c.args.desk.now) in
    let now = moment c.put_search.new.reader c.put_search.new.pen
    (told D.files D.rest D.written D.printed D.target D.ready D.counts D.openings c.put_search.new.desk) in
    let coming_is = ap (λ (r : ReaderView). to_come r (g.D.Desk.rest c.args.desk.now)) c.new-reader.ensures
    ∙ (nothing-before (g.D.Desk.rest c.args.desk.now) ∙ known) in
    search-ends c.args.bench.now.sim.project is.is.sound S is_scale start now
    (ap (λ (p : PenState). p.held) c.new-pen.ensures) c.put_search.result text coming_is
    (c.put_search.ensures.puts S is.stands)

pub returns-clause-witness : goal.returns-clause-witness
returns-clause-witness g c = λ S is is_scale.
    let D = g.D.Desk in
    let start = moment c.new-reader.result c.new-pen.result
    (told D.files D.rest D.written D.printed D.target D.ready D.counts D.openings c.args.desk.now) in
    let now = moment c.put_search.new.reader c.put_search.new.pen
    (told D.files D.rest D.written D.printed D.target D.ready D.counts D.openings c.put_search.new.desk) in
    search-begins c.args.bench.now.sim.project is.is.sound S is_scale start now
    (ap (λ (p : PenState). p.held) c.new-pen.ensures) c.put_search.result (c.put_search.ensures.puts S is.stands)

pub returns-clause-cause : goal.returns-clause-cause
returns-clause-cause g c =
    let D = g.D.Desk in
    let start = moment c.new-reader.result c.new-pen.result
    (told D.files D.rest D.written D.printed D.target D.ready D.counts D.openings c.args.desk.now) in
    let now = moment c.put_search.new.reader c.put_search.new.pen
    (told D.files D.rest D.written D.printed D.target D.ready D.counts D.openings c.put_search.new.desk) in
    let at = c.requires.bench in
    search-cause c.args.bench.now.sim.project at.0 start now c.put_search.result
    (c.put_search.ensures.puts at.0 at.1.stands)

pub returns-clause-steady : goal.returns-clause-steady
returns-clause-steady g c =
    let D = g.D.Desk in
    let start = moment c.new-reader.result c.new-pen.result
    (told D.files D.rest D.written D.printed D.target D.ready D.counts D.openings c.args.desk.now) in
    let now = moment c.put_search.new.reader c.put_search.new.pen
    (told D.files D.rest D.written D.printed D.target D.ready D.counts D.openings c.put_search.new.desk) in
    let at = c.requires.bench in
    search-steady c.args.bench.now.sim.project at.0 start now c.put_search.result
    (c.put_search.ensures.puts at.0 at.1.stands)

pub returns-clause-leaves : goal.returns-clause-leaves
returns-clause-leaves g c =
    let D = g.D.Desk in
    let start = moment c.new-reader.result c.new-pen.result
    (told D.files D.rest D.written D.printed D.target D.ready D.counts D.openings c.args.desk.now) in
    let now = moment c.put_search.new.reader c.put_search.new.pen
    (told D.files D.rest D.written D.printed D.target D.ready D.counts D.openings c.put_search.new.desk) in
    let at = c.requires.bench in
    search-leaves c.args.bench.now.sim.project at.0 start now c.put_search.result
    (c.put_search.ensures.puts at.0 at.1.stands)

pub returns-clause-bench : goal.returns-clause-bench
returns-clause-bench g c =
    let p = c.put_search.ensures.project in
    record {
      sound = subst IsSound (sym p) c.requires.bench.1.is.sound;
      entry = rw p c.put_search.ensures.entry;
      moments = rw p c.put_search.ensures.moments;
    }
