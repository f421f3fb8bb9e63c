use Rattle.std.proofs.Common.{◌∷◌, [], codes}
use Rattle.std.specs.Fmt.{decimal}
use Rattle.hyd_io.specs.DeskBytes.{prepend_known}
use Rattle.hyd_spec_certificates.specs.CertificateText.{words}
use Rattle.hyd_cert.specs.RecordView.{header_of}
use Rattle.hyd_cert.proofs.HeadLemmas.{stuck_first, stuck_behind_header, header_is}
use Rattle.hyd_cert.proofs.RecordFaultLemmas.{none_at_first, none_behind_header}
use Rattle.hyd_cert.proofs.reader.read_first.Goals as goal

pub returns-in-Err-clause-fault : goal.returns-in-Err-clause-fault
returns-in-Err-clause-fault g c =
    stuck_first (header_of c.args.into.now) c.args.lines.now.line
    (prepend_known c.args.lines.now.source (g.D.Desk.rest c.args.desk.now)) (g.D.Desk.counts c.args.desk.now)
    (g.D.Desk.counts c.header.new.desk) c.in-Err.fault
    c.in-Err.ensures.fault

pub returns-in-Ok-clause-fault : goal.returns-in-Ok-clause-fault
returns-in-Ok-clause-fault g c =
    let header = header_of c.args.into.now in
    stuck_behind_header header c.args.lines.now.line c.header.new.self.line
    (words (codes "HYDCERT" ∷ (decimal header.version ∷ (decimal header.junctions ∷ (decimal header.tanks ∷ [])))))
    (prepend_known c.args.lines.now.source (g.D.Desk.rest c.args.desk.now))
    (prepend_known c.header.new.self.source (g.D.Desk.rest c.header.new.desk))
    (g.D.Desk.counts c.args.desk.now) (g.D.Desk.counts c.header.new.desk) (g.D.Desk.counts c.read_record.new.desk)
    c.read_record.result
    (header_is header c.args.into.now.least c.args.into.now.most c.has_small_counts.ensures.junctions
    c.has_small_counts.ensures.tanks) c.in-Ok.ensures.text c.in-Ok.ensures.line c.in-Ok.ensures.steady
    c.read_record.ensures.fault

pub returns-in-Err-clause-no_record : goal.returns-in-Err-clause-no_record
returns-in-Err-clause-no_record g c =
    let header = header_of c.args.into.now in
    none_at_first header _ _ _ _ c.in-Err.fault
    (header_is header c.args.into.now.least c.args.into.now.most c.has_small_counts.ensures.junctions
    c.has_small_counts.ensures.tanks)
    c.in-Err.ensures.fault

pub returns-in-Ok-clause-no_record : goal.returns-in-Ok-clause-no_record
returns-in-Ok-clause-no_record g c =
    none_behind_header (header_of c.args.into.now) _ _ c.read_record.result c.in-Ok.ensures.text
    c.read_record.ensures.no_record
