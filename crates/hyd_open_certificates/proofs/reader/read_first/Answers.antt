use Rattle.hyd_io.specs.DeskBytes.{prepend_known}
use Rattle.hyd_open_certificates.specs.OpenRowView.{open_header_of}
use Rattle.hyd_open_certificates.proofs.OpenLineLemmas.{open_header_is}
use Rattle.hyd_open_certificates.proofs.OpenReaderLemmas.{no_header, no_header_record, behind_header}
use Rattle.hyd_open_certificates.proofs.OpenReaderLemmas.{no_record_behind_header}
use Rattle.hyd_open_certificates.proofs.reader.read_first.Goals as goal

pub returns-in-Err-clause-fault : goal.returns-in-Err-clause-fault
returns-in-Err-clause-fault g c =
    let row = c.args.into.now.row in
    no_header (open_header_of c.args.into.now) (open_header_is row.junctions row.tanks
    c.has_small_counts.ensures.junctions c.has_small_counts.ensures.tanks) c.args.lines.now.line
    (prepend_known c.args.lines.now.source (g.D.Desk.rest c.args.desk.now)) (g.D.Desk.counts c.args.desk.now)
    (g.D.Desk.counts c.header.new.desk) c.in-Err.fault c.in-Err.ensures.fault

pub returns-in-Err-clause-no_record : goal.returns-in-Err-clause-no_record
returns-in-Err-clause-no_record g c =
    let row = c.args.into.now.row in
    no_header_record (open_header_of c.args.into.now) (open_header_is row.junctions row.tanks
    c.has_small_counts.ensures.junctions c.has_small_counts.ensures.tanks) c.args.lines.now.line
    (prepend_known c.args.lines.now.source (g.D.Desk.rest c.args.desk.now)) (g.D.Desk.counts c.args.desk.now)
    (g.D.Desk.counts c.header.new.desk) c.in-Err.fault c.in-Err.ensures.fault

pub returns-in-Ok-clause-fault : goal.returns-in-Ok-clause-fault
returns-in-Ok-clause-fault g c =
    let row = c.args.into.now.row in
    behind_header (open_header_of c.args.into.now) (open_header_is row.junctions row.tanks
    c.has_small_counts.ensures.junctions c.has_small_counts.ensures.tanks) c.args.lines.now.line
    c.header.new.self.line (prepend_known c.args.lines.now.source (g.D.Desk.rest c.args.desk.now))
    (prepend_known c.header.new.self.source (g.D.Desk.rest c.header.new.desk)) (g.D.Desk.counts c.args.desk.now)
    (g.D.Desk.counts c.header.new.desk) (g.D.Desk.counts c.read_record.new.desk) c.read_record.result
    c.in-Ok.ensures.text c.in-Ok.ensures.line c.in-Ok.ensures.steady c.read_record.ensures.fault

pub returns-in-Ok-clause-no_record : goal.returns-in-Ok-clause-no_record
returns-in-Ok-clause-no_record g c =
    no_record_behind_header (open_header_of c.args.into.now) _ _ c.read_record.result c.in-Ok.ensures.text
    c.read_record.ensures.no_record
