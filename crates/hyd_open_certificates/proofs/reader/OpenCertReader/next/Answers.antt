use Rattle.std.proofs.Common.{ap, sym, ◌∙◌}
use Rattle.hyd_cert.specs.ReaderView.{ReaderView, to_come}
use Rattle.hyd_cert.specs.declared.answers_of_reader.Stand.TheVariants as stand
use Rattle.hyd_open_certificates.specs.OpenRowView.{open_header_of}
use Rattle.hyd_open_certificates.proofs.OpenReaderLemmas.{fault_moved, none_moved}
use Rattle.hyd_open_certificates.proofs.reader.OpenCertReader.next.Goals as goal
use Rattle.hyd_open_certificates.proofs.reader.OpenCertReader.next.Goals.{in-First, in-Between}

pub returns-clause-fault : goal.returns-clause-fault
returns-clause-fault g c =
    let line = ap (λ (v : ReaderView). v.line) c.self.view_is in
    let text = ap (λ (v : ReaderView). to_come v (g.D.Desk.rest c.args.desk.now)) c.self.view_is in
    let at = ap (λ (v : ReaderView). v.stand) c.self.view_is in
    elim c.match-self.branch [
      | in-First w ↦ λ going. fault_moved (open_header_of c.args.into.now) stand.First _ _ _ _ _
          (sym w.in-First.is ∙ at) text (sym w.read-is) _ _ (g.D.Desk.counts c.args.desk.now) _ _ line
          (sym (ap g.D.Desk.counts w.desk-is)) w.read_first-read.ensures.fault
      | in-Between w ↦ λ going. fault_moved (open_header_of c.args.into.now) stand.Between _ _ _ _ _
          (sym w.in-Between.is ∙ at) text (sym w.read-is) _ _ (g.D.Desk.counts c.args.desk.now) _ _ line
          (sym (ap g.D.Desk.counts w.desk-is)) w.read_record-read.ensures.fault
    ]

pub returns-clause-no_record : goal.returns-clause-no_record
returns-clause-no_record g c =
    let text = ap (λ (v : ReaderView). to_come v (g.D.Desk.rest c.args.desk.now)) c.self.view_is in
    let at = ap (λ (v : ReaderView). v.stand) c.self.view_is in
    elim c.match-self.branch [
      | in-First w ↦ λ going. none_moved (open_header_of c.args.into.now) stand.First _ _ _ _ _
          (sym w.in-First.is ∙ at) text (sym w.read-is) w.read_first-read.ensures.no_record
      | in-Between w ↦ λ going. none_moved (open_header_of c.args.into.now) stand.Between _ _ _ _ _
          (sym w.in-Between.is ∙ at) text (sym w.read-is) w.read_record-read.ensures.no_record
    ]
