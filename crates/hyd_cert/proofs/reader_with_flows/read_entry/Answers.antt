use Rattle.std.proofs.Common.{◌≡◌, Bool, true, ap, sym, ◌∙◌, subst, arith}
use Rattle.hyd_io.specs.DeskBytes.{prepend_known}
use Rattle.hyd_cert.specs.Lines.{Header}
use Rattle.hyd_cert.specs.RecordView.{header_of, row_of}
use Rattle.hyd_cert.specs.ReaderWithFlows.{IsFaultAsRead}
use Rattle.hyd_cert.specs.declared.answers_of_reader.Stand.TheVariants as stand
use Rattle.hyd_cert.proofs.FlowFaultLemmas.{stuck_in_part}
use Rattle.hyd_cert.proofs.AsReadLemmas.{on_record, stuck_as_read}
use Rattle.hyd_cert.proofs.reader_with_flows.read_entry.Goals as goal

pub returns-in-Err-clause-fault : goal.returns-in-Err-clause-fault
returns-in-Err-clause-fault g c =
    let row = c.read_record.new.into in
    let header = header_of row in
    let next = c.in-Ok-Record.field-0 in
    let is = c.in-Ok-Record.field-0-is in
    let text = prepend_known c.args.lines.now.source (g.D.Desk.rest c.args.desk.now) in
    let before = g.D.Desk.counts c.args.desk.now in
    let now = g.D.Desk.counts c.read_part.new.desk in
    let passed = on_record next is c.in-Ok-Record.ensures.line in
    let same = c.read_record.ensures.header in
    let junctions : header.junctions ≡ c.clear.new.self.junctions = ap (λ (h : Header). h.junctions) same
    ∙ (sym c.requires ∙ sym c.clear.ensures.junctions) in
    let inside = stuck_in_part header (row_of row) c.args.lines.now.line c.read_record.new.lines.line text
    (prepend_known c.read_record.new.lines.source (g.D.Desk.rest c.read_record.new.desk)) before
    (g.D.Desk.counts c.read_record.new.desk) now c.in-Err.fault (on_record next is c.in-Ok-Record.ensures.row)
    (on_record next is c.in-Ok-Record.ensures.«record»)
    (let whole = row.whole in omega (arith, passed, whole)) c.in-Ok-Record.ensures.steady
    (c.in-Err.ensures.stuck header junctions) in
    subst (λ (b : Bool). IsFaultAsRead b (header_of c.args.into.now) stand.Between c.args.lines.now.line text before now
    c.in-Err.fault) (sym c.if-flows.true)
    (subst (λ (h : Header). IsFaultAsRead true h stand.Between c.args.lines.now.line text before now c.in-Err.fault)
    same (stuck_as_read header c.args.lines.now.line text before now c.in-Err.fault inside))
