use Rattle.std.proofs.Common.{◌≡◌, ℕ, length, ap, ◌∙◌, subst, arith}
use Rattle.hyd_io.specs.DeskBytes.{prepend_known}
use Rattle.hyd_witness_texts.specs.FirstFaults.{IsFaultAtFront}
use Rattle.hyd_cert.proofs.VectorLemmas.{refill_whole}
use Rattle.hyd_open_certificates.specs.OpenTexts.{AreHeads}
use Rattle.hyd_open_certificates.specs.OpenFaults.{IsWrongLine}
use Rattle.hyd_open_certificates.specs.OpenRowView.{open_header_of}
use Rattle.hyd_open_certificates.specs.OpenPeriodOrEndLine.{NextFits, next_text}
use Rattle.hyd_open_certificates.specs.declared.lines.Next.{Next}
use Rattle.hyd_open_certificates.specs.declared.lines.Next.TheVariants.{Period, End}
use Rattle.hyd_open_certificates.proofs.OpenRests.{found_is}
use Rattle.hyd_open_certificates.proofs.OpenReaderLemmas.{no_next, no_next_record, in_heads, no_record_in_heads}
use Rattle.hyd_open_certificates.proofs.OpenReaderLemmas.{over_fault, no_record_over, record_read}
use Rattle.hyd_open_certificates.proofs.reader.read_record.Goals as goal

pub returns-in-Err-clause-fault : goal.returns-in-Err-clause-fault
returns-in-Err-clause-fault g c =
    no_next (open_header_of c.args.into.now) c.args.lines.now.line
    (prepend_known c.args.lines.now.source (g.D.Desk.rest c.args.desk.now)) (g.D.Desk.counts c.args.desk.now)
    (g.D.Desk.counts c.period_or_end.new.desk) c.in-Err.fault c.in-Err.ensures.fault

pub returns-in-Err-clause-no_record : goal.returns-in-Err-clause-no_record
returns-in-Err-clause-no_record g c =
    no_next_record (open_header_of c.args.into.now) c.args.lines.now.line
    (prepend_known c.args.lines.now.source (g.D.Desk.rest c.args.desk.now)) (g.D.Desk.counts c.args.desk.now)
    (g.D.Desk.counts c.period_or_end.new.desk) c.in-Err.fault c.in-Err.ensures.fault

pub returns-in-Err-heads-clause-fault : goal.returns-in-Err-heads-clause-fault
returns-in-Err-heads-clause-fault g c =
    let p = c.in-Ok-Period.period in
    let fits : NextFits (Period p) = subst NextFits c.in-Ok-Period.field-0-is c.in-Ok-Period.ensures.fits in
    let text = subst (λ (n : Next). prepend_known c.args.lines.now.source (g.D.Desk.rest c.args.desk.now)
    ≡ prepend_known (next_text n) (prepend_known c.period_or_end.new.self.source
    (g.D.Desk.rest c.period_or_end.new.desk))) c.in-Ok-Period.field-0-is c.in-Ok-Period.ensures.text in
    in_heads (open_header_of c.args.into.now) p.number p.time p.late p.shortest p.longest fits c.args.lines.now.line
    c.period_or_end.new.self.line (prepend_known c.args.lines.now.source (g.D.Desk.rest c.args.desk.now))
    (prepend_known c.period_or_end.new.self.source (g.D.Desk.rest c.period_or_end.new.desk))
    (g.D.Desk.counts c.args.desk.now) (g.D.Desk.counts c.period_or_end.new.desk) (g.D.Desk.counts c.heads.new.desk)
    c.in-Err-heads.fault text
    (subst (λ (n : ℕ). IsWrongLine (IsFaultAtFront (AreHeads c.args.into.now.row.junctions 0 n))
    c.period_or_end.new.self.line
    (prepend_known c.period_or_end.new.self.source (g.D.Desk.rest c.period_or_end.new.desk))
    (g.D.Desk.counts c.period_or_end.new.desk) (g.D.Desk.counts c.heads.new.desk) c.in-Err-heads.fault)
    (ap length c.as_mut_slice.ensures.items ∙ c.args.into.now.row.whole) c.in-Err-heads.ensures.fault)
    c.in-Ok-Period.ensures.line c.in-Ok-Period.ensures.steady

pub returns-in-Err-heads-clause-no_record : goal.returns-in-Err-heads-clause-no_record
returns-in-Err-heads-clause-no_record g c =
    let p = c.in-Ok-Period.period in
    let fits : NextFits (Period p) = subst NextFits c.in-Ok-Period.field-0-is c.in-Ok-Period.ensures.fits in
    let text = subst (λ (n : Next). prepend_known c.args.lines.now.source (g.D.Desk.rest c.args.desk.now)
    ≡ prepend_known (next_text n) (prepend_known c.period_or_end.new.self.source
    (g.D.Desk.rest c.period_or_end.new.desk))) c.in-Ok-Period.field-0-is c.in-Ok-Period.ensures.text in
    no_record_in_heads (open_header_of c.args.into.now) p.number p.time p.late p.shortest p.longest fits
    c.args.lines.now.line c.period_or_end.new.self.line
    (prepend_known c.args.lines.now.source (g.D.Desk.rest c.args.desk.now))
    (prepend_known c.period_or_end.new.self.source (g.D.Desk.rest c.period_or_end.new.desk))
    (g.D.Desk.counts c.args.desk.now) (g.D.Desk.counts c.period_or_end.new.desk) (g.D.Desk.counts c.heads.new.desk)
    c.in-Err-heads.fault text
    (subst (λ (n : ℕ). IsWrongLine (IsFaultAtFront (AreHeads c.args.into.now.row.junctions 0 n))
    c.period_or_end.new.self.line
    (prepend_known c.period_or_end.new.self.source (g.D.Desk.rest c.period_or_end.new.desk))
    (g.D.Desk.counts c.period_or_end.new.desk) (g.D.Desk.counts c.heads.new.desk) c.in-Err-heads.fault)
    (ap length c.as_mut_slice.ensures.items ∙ c.args.into.now.row.whole) c.in-Err-heads.ensures.fault)

pub returns-in-Ok-false-clause-fault : goal.returns-in-Ok-false-clause-fault
returns-in-Ok-false-clause-fault g c =
    let e = c.in-Ok-End.end in
    let fits : NextFits (End e) = subst NextFits c.in-Ok-End.field-0-is c.in-Ok-End.ensures.fits in
    let text = subst (λ (n : Next). prepend_known c.args.lines.now.source (g.D.Desk.rest c.args.desk.now)
    ≡ prepend_known (next_text n) (prepend_known c.period_or_end.new.self.source
    (g.D.Desk.rest c.period_or_end.new.desk))) c.in-Ok-End.field-0-is c.in-Ok-End.ensures.text in (
      2,
      (
        omega (arith, c.saturating_add.ensures, c.is_over.ensures.line, c.in-Ok-End.ensures.line),
        over_fault (open_header_of c.args.into.now) e.periods e.finished
            (prepend_known c.args.lines.now.source (g.D.Desk.rest c.args.desk.now))
            (prepend_known c.period_or_end.new.self.source (g.D.Desk.rest c.period_or_end.new.desk)) fits text
            (c.in-Ok-false.ensures.more c.in-Ok-false.field-0-test),
        c.in-Ok-false.ensures.steady ∙ c.in-Ok-End.ensures.steady,
      ),
    )

pub returns-in-Ok-false-clause-no_record : goal.returns-in-Ok-false-clause-no_record
returns-in-Ok-false-clause-no_record g c =
    let e = c.in-Ok-End.end in
    let text = subst (λ (n : Next). prepend_known c.args.lines.now.source (g.D.Desk.rest c.args.desk.now)
    ≡ prepend_known (next_text n) (prepend_known c.period_or_end.new.self.source
    (g.D.Desk.rest c.period_or_end.new.desk))) c.in-Ok-End.field-0-is c.in-Ok-End.ensures.text in
    no_record_over (open_header_of c.args.into.now) e.periods e.finished
    (prepend_known c.args.lines.now.source (g.D.Desk.rest c.args.desk.now))
    (prepend_known c.period_or_end.new.self.source (g.D.Desk.rest c.period_or_end.new.desk)) text

pub returns-in-Ok-clause-record : goal.returns-in-Ok-clause-record
returns-in-Ok-clause-record g c =
    let p = c.in-Ok-Period.period in
    let row = c.args.into.now.row in
    let text = subst (λ (n : Next). prepend_known c.args.lines.now.source (g.D.Desk.rest c.args.desk.now)
    ≡ prepend_known (next_text n) (prepend_known c.period_or_end.new.self.source
    (g.D.Desk.rest c.period_or_end.new.desk))) c.in-Ok-Period.field-0-is c.in-Ok-Period.ensures.text in
    let many : length c.heads.new.into ≡ length row.vectors.list = c.heads.auto.into
    ∙ ap length c.as_mut_slice.ensures.items in
    let same = refill_whole row.vectors.list c.heads.new.into many in
    record_read row.junctions row.tanks p.number p.time p.late p.shortest p.longest _ c.heads.new.into _ _ _ same
    (ap length same ∙ (many ∙ row.whole)) text c.in-Ok.ensures.text

pub returns-in-Ok-clause-row : goal.returns-in-Ok-clause-row
returns-in-Ok-clause-row g c =
    let p = c.in-Ok-Period.period in
    let row = c.args.into.now.row in
    let fits : NextFits (Period p) = subst NextFits c.in-Ok-Period.field-0-is c.in-Ok-Period.ensures.fits in
    let many : length c.heads.new.into ≡ length row.vectors.list = c.heads.auto.into
    ∙ ap length c.as_mut_slice.ensures.items in
    let same = refill_whole row.vectors.list c.heads.new.into many in
    found_is row.junctions row.tanks p.number p.time p.late p.shortest p.longest _ c.heads.new.into same fits
    (ap length same ∙ (many ∙ row.whole)) c.in-Ok.ensures.in_box
