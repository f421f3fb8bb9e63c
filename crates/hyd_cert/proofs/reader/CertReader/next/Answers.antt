use Rattle.std.proofs.Common.{ap, sym, ◌∙◌}
use Rattle.hyd_cert.specs.PlacesOfLines.{First, Between}
use Rattle.hyd_cert.specs.ReaderView.{ReaderView, place_of, to_come}
use Rattle.hyd_cert.specs.RecordView.{header_of}
use Rattle.hyd_cert.proofs.HeadLemmas.{text_fault_moved}
use Rattle.hyd_cert.proofs.RecordFaultLemmas.{none_moved}
use Rattle.hyd_cert.specs.declared.answers_of_reader.Stand.TheVariants as stand
use Rattle.hyd_cert.proofs.reader.CertReader.next.Goals as goal
use Rattle.hyd_cert.proofs.reader.CertReader.next.Goals.{in-First, in-Between}

pub returns-clause-fault : goal.returns-clause-fault
returns-clause-fault g c =
    let line = ap (λ (v : ReaderView). v.line) c.self.view_is in
    let text = ap (λ (v : ReaderView). to_come v (g.D.Desk.rest c.args.desk.now)) c.self.view_is in
    let place = ap (λ (v : ReaderView). place_of v.stand) c.self.view_is in
    elim c.match-self.branch [
      | in-First w ↦ λ going. text_fault_moved (header_of c.args.into.now) First _ _ _ _ _
          (g.D.Desk.counts c.args.desk.now) _ _ _ _ (sym (ap place_of w.in-First.is) ∙ place) line text
          (sym (ap g.D.Desk.counts w.desk-is)) (sym w.read-is) w.read_first-read.ensures.fault
      | in-Between w ↦ λ going. text_fault_moved (header_of c.args.into.now) Between _ _ _ _ _
          (g.D.Desk.counts c.args.desk.now) _ _ _ _ (sym (ap place_of w.in-Between.is) ∙ place) line text
          (sym (ap g.D.Desk.counts w.desk-is)) (sym w.read-is) w.read_record-read.ensures.fault
    ]

pub returns-clause-no_record : goal.returns-clause-no_record
returns-clause-no_record g c =
    let text = ap (λ (v : ReaderView). to_come v (g.D.Desk.rest c.args.desk.now)) c.self.view_is in
    let at = ap (λ (v : ReaderView). v.stand) c.self.view_is in
    elim c.match-self.branch [
      | in-First w ↦ λ going. none_moved (header_of c.args.into.now) stand.First _ _ _ _ _ (sym w.in-First.is ∙ at) text
          (sym w.read-is) w.read_first-read.ensures.no_record
      | in-Between w ↦ λ going. none_moved (header_of c.args.into.now) stand.Between _ _ _ _ _
          (sym w.in-Between.is ∙ at) text
          (sym w.read-is) w.read_record-read.ensures.no_record
    ]
