use Rattle.hyd_io.specs.DeskBytes.{prepend_known}
use Rattle.hyd_cert.specs.RecordView.{header_of}
use Rattle.hyd_cert.proofs.HeadLemmas.{header_is}
use Rattle.hyd_cert.proofs.AsReadLemmas.{header_as_read, none_at_header, behind_as_read, none_behind_as_read}
use Rattle.hyd_cert.proofs.reader_with_flows.read_first_entry.Goals as goal

pub returns-in-Err-clause-fault : goal.returns-in-Err-clause-fault
returns-in-Err-clause-fault g c =
    header_as_read c.any_header.new.flows (header_of c.args.into.now) _ _ _ _ c.in-Err.fault c.in-Err.ensures.fault

pub returns-in-Err-clause-no_record : goal.returns-in-Err-clause-no_record
returns-in-Err-clause-no_record g c =
    let header = header_of c.args.into.now in
    none_at_header c.any_header.new.flows header _ _ _ _ c.in-Err.fault
    (header_is header c.args.into.now.least c.args.into.now.most c.has_small_counts.ensures.junctions
    c.has_small_counts.ensures.tanks) c.in-Err.ensures.fault

pub returns-in-Ok-clause-fault : goal.returns-in-Ok-clause-fault
returns-in-Ok-clause-fault g c =
    let header = header_of c.args.into.now in
    behind_as_read c.any_header.new.flows header c.args.lines.now.line c.any_header.new.self.line
    (prepend_known c.args.lines.now.source (g.D.Desk.rest c.args.desk.now))
    (prepend_known c.any_header.new.self.source (g.D.Desk.rest c.any_header.new.desk))
    (g.D.Desk.counts c.args.desk.now) (g.D.Desk.counts c.any_header.new.desk) (g.D.Desk.counts c.read_entry.new.desk)
    c.read_entry.result
    (header_is header c.args.into.now.least c.args.into.now.most c.has_small_counts.ensures.junctions
    c.has_small_counts.ensures.tanks) c.in-Ok.ensures.text c.in-Ok.ensures.line c.in-Ok.ensures.steady
    c.read_entry.ensures.fault

pub returns-in-Ok-clause-no_record : goal.returns-in-Ok-clause-no_record
returns-in-Ok-clause-no_record g c =
    none_behind_as_read c.any_header.new.flows (header_of c.args.into.now) _ _ c.read_entry.result c.in-Ok.ensures.text
    c.read_entry.ensures.no_record
