use Rattle.std.proofs.Common.{◌≡◌, length, ◌∷◌, [], codes, refl, ap, ◌∙◌, subst, arith}
use Rattle.std.specs.Fmt.{decimal}
use Rattle.hyd_io.specs.DeskBytes.{prepend_known}
use Rattle.hyd_spec_certificates.specs.CertificateText.{words}
use Rattle.hyd_cert.specs.Lines.{end_word}
use Rattle.hyd_cert.specs.RecordView.{header_of}
use Rattle.hyd_cert.specs.PeriodOrEndLine.{NextFits, next_text}
use Rattle.hyd_cert.specs.declared.lines.Next.{Next}
use Rattle.hyd_cert.specs.declared.lines.Next.TheVariants.{Period, End}
use Rattle.hyd_cert.proofs.HeadLemmas.{stuck_between, stuck_in_heads, stuck_behind, period_is, end_is}
use Rattle.hyd_cert.proofs.VectorLemmas.{refill_whole, row_read, row_is}
use Rattle.hyd_cert.proofs.RecordFaultLemmas.{none_between, none_in_heads, none_at_end}
use Rattle.hyd_cert.proofs.FlowFaultLemmas.{stuck_before, stuck_among_heads, stuck_over}
use Rattle.hyd_cert.proofs.reader.read_record.Goals as goal

pub returns-in-Err-clause-fault : goal.returns-in-Err-clause-fault
returns-in-Err-clause-fault g c =
    stuck_between (header_of c.args.into.now) c.args.lines.now.line
    (prepend_known c.args.lines.now.source (g.D.Desk.rest c.args.desk.now)) (g.D.Desk.counts c.args.desk.now)
    (g.D.Desk.counts c.period_or_end.new.desk) c.in-Err.fault c.in-Err.ensures.fault

pub returns-in-Err-heads-clause-fault : goal.returns-in-Err-heads-clause-fault
returns-in-Err-heads-clause-fault g c =
    let p = c.in-Ok-Period.period in
    let fits : NextFits (Period p) = subst NextFits c.in-Ok-Period.field-0-is c.in-Ok-Period.ensures.fits in
    let text = subst (λ (n : Next). prepend_known c.args.lines.now.source (g.D.Desk.rest c.args.desk.now)
    ≡ prepend_known (next_text n) (prepend_known c.period_or_end.new.self.source
    (g.D.Desk.rest c.period_or_end.new.desk))) c.in-Ok-Period.field-0-is c.in-Ok-Period.ensures.text in
    stuck_in_heads (header_of c.args.into.now) c.args.lines.now.line c.period_or_end.new.self.line
    (words (codes "PERIOD" ∷ (decimal p.number ∷ (decimal p.time ∷ (decimal p.length ∷ [])))))
    (prepend_known c.args.lines.now.source (g.D.Desk.rest c.args.desk.now))
    (prepend_known c.period_or_end.new.self.source (g.D.Desk.rest c.period_or_end.new.desk))
    (g.D.Desk.counts c.args.desk.now) (g.D.Desk.counts c.period_or_end.new.desk) (g.D.Desk.counts c.heads.new.desk)
    c.in-Err-heads.fault
    (period_is p.number p.time p.length fits.0 fits.1 fits.2)
    text c.in-Ok-Period.ensures.line c.in-Ok-Period.ensures.steady
    (c.in-Err-heads.ensures.fault (header_of c.args.into.now) refl (ap length c.as_mut_slice.ensures.items
    ∙ c.args.into.now.whole))

pub returns-in-Ok-false-clause-fault : goal.returns-in-Ok-false-clause-fault
returns-in-Ok-false-clause-fault g c =
    let e = c.in-Ok-End.end in
    let fits : NextFits (End e) = subst NextFits c.in-Ok-End.field-0-is c.in-Ok-End.ensures.fits in
    let text = subst (λ (n : Next). prepend_known c.args.lines.now.source (g.D.Desk.rest c.args.desk.now)
    ≡ prepend_known (next_text n) (prepend_known c.period_or_end.new.self.source
    (g.D.Desk.rest c.period_or_end.new.desk))) c.in-Ok-End.field-0-is c.in-Ok-End.ensures.text in (
      2,
      (
        omega (arith, c.saturating_add.ensures, c.is_over.ensures.line, c.in-Ok-End.ensures.line),
        stuck_behind (header_of c.args.into.now) 0 0 (words (codes "END"
            ∷ (decimal e.periods ∷ (end_word e.finished ∷ []))))
            (prepend_known c.args.lines.now.source (g.D.Desk.rest c.args.desk.now))
            (prepend_known c.period_or_end.new.self.source (g.D.Desk.rest c.period_or_end.new.desk))
            (end_is e.periods e.finished fits) text (c.in-Ok-false.ensures.more c.in-Ok-false.field-0-test),
        c.in-Ok-false.ensures.steady ∙ c.in-Ok-End.ensures.steady,
      ),
    )

pub returns-in-Ok-clause-record : goal.returns-in-Ok-clause-record
returns-in-Ok-clause-record g c =
    let p = c.in-Ok-Period.period in
    let text = subst (λ (n : Next). prepend_known c.args.lines.now.source (g.D.Desk.rest c.args.desk.now)
    ≡ prepend_known (next_text n) (prepend_known c.period_or_end.new.self.source
    (g.D.Desk.rest c.period_or_end.new.desk))) c.in-Ok-Period.field-0-is c.in-Ok-Period.ensures.text in
    let many : length c.heads.new.into ≡ length c.args.into.now.vectors.list = c.heads.auto.into
    ∙ ap length c.as_mut_slice.ensures.items in
    let same = refill_whole c.args.into.now.vectors.list c.heads.new.into many in
    row_read c.args.into.now.junctions c.args.into.now.tanks p.number p.time p.length _ c.heads.new.into _ _ _ same
    (ap length same ∙ (many ∙ c.args.into.now.whole)) text c.in-Ok.ensures.text

pub returns-in-Ok-clause-row : goal.returns-in-Ok-clause-row
returns-in-Ok-clause-row g c =
    let p = c.in-Ok-Period.period in
    let fits : NextFits (Period p) = subst NextFits c.in-Ok-Period.field-0-is c.in-Ok-Period.ensures.fits in
    let many : length c.heads.new.into ≡ length c.args.into.now.vectors.list = c.heads.auto.into
    ∙ ap length c.as_mut_slice.ensures.items in
    let same = refill_whole c.args.into.now.vectors.list c.heads.new.into many in
    row_is c.args.into.now.junctions c.args.into.now.tanks p.number p.time p.length _ c.heads.new.into same
    (ap length same ∙ (many ∙ c.args.into.now.whole)) c.in-Ok.ensures.in_box fits.0 fits.1 fits.2

-- ---- no whole record

pub returns-in-Err-clause-no_record : goal.returns-in-Err-clause-no_record
returns-in-Err-clause-no_record g c =
    none_between (header_of c.args.into.now) _ _ _ _ c.in-Err.fault c.in-Err.ensures.fault

pub returns-in-Err-heads-clause-no_record : goal.returns-in-Err-heads-clause-no_record
returns-in-Err-heads-clause-no_record g c =
    let p = c.in-Ok-Period.period in
    let fits : NextFits (Period p) = subst NextFits c.in-Ok-Period.field-0-is c.in-Ok-Period.ensures.fits in
    let text = subst (λ (n : Next). prepend_known c.args.lines.now.source (g.D.Desk.rest c.args.desk.now)
    ≡ prepend_known (next_text n) (prepend_known c.period_or_end.new.self.source
    (g.D.Desk.rest c.period_or_end.new.desk))) c.in-Ok-Period.field-0-is c.in-Ok-Period.ensures.text in
    none_in_heads (header_of c.args.into.now) _
    (words (codes "PERIOD" ∷ (decimal p.number ∷ (decimal p.time ∷ (decimal p.length ∷ []))))) _ _ _ _
    c.in-Err-heads.fault (period_is p.number p.time p.length fits.0 fits.1 fits.2) text
    (c.in-Err-heads.ensures.fault (header_of c.args.into.now) refl (ap length c.as_mut_slice.ensures.items
    ∙ c.args.into.now.whole))

pub returns-in-Ok-false-clause-no_record : goal.returns-in-Ok-false-clause-no_record
returns-in-Ok-false-clause-no_record g c =
    let e = c.in-Ok-End.end in
    let fits : NextFits (End e) = subst NextFits c.in-Ok-End.field-0-is c.in-Ok-End.ensures.fits in
    let text = subst (λ (n : Next). prepend_known c.args.lines.now.source (g.D.Desk.rest c.args.desk.now)
    ≡ prepend_known (next_text n) (prepend_known c.period_or_end.new.self.source
    (g.D.Desk.rest c.period_or_end.new.desk))) c.in-Ok-End.field-0-is c.in-Ok-End.ensures.text in
    none_at_end (header_of c.args.into.now) (words (codes "END" ∷ (decimal e.periods ∷ (end_word e.finished ∷ []))))
    _ _ (end_is e.periods e.finished fits) text

-- ---- inside the record

pub returns-in-Err-clause-stuck : goal.returns-in-Err-clause-stuck
returns-in-Err-clause-stuck g c =
    stuck_before (header_of c.args.into.now) c.args.lines.now.line
    (prepend_known c.args.lines.now.source (g.D.Desk.rest c.args.desk.now)) (g.D.Desk.counts c.args.desk.now)
    (g.D.Desk.counts c.period_or_end.new.desk) c.in-Err.fault c.in-Err.ensures.fault

pub returns-in-Err-heads-clause-stuck : goal.returns-in-Err-heads-clause-stuck
returns-in-Err-heads-clause-stuck g c =
    let p = c.in-Ok-Period.period in
    let fits : NextFits (Period p) = subst NextFits c.in-Ok-Period.field-0-is c.in-Ok-Period.ensures.fits in
    let text = subst (λ (n : Next). prepend_known c.args.lines.now.source (g.D.Desk.rest c.args.desk.now)
    ≡ prepend_known (next_text n) (prepend_known c.period_or_end.new.self.source
    (g.D.Desk.rest c.period_or_end.new.desk))) c.in-Ok-Period.field-0-is c.in-Ok-Period.ensures.text in
    stuck_among_heads (header_of c.args.into.now) c.args.lines.now.line c.period_or_end.new.self.line
    (words (codes "PERIOD" ∷ (decimal p.number ∷ (decimal p.time ∷ (decimal p.length ∷ [])))))
    (prepend_known c.args.lines.now.source (g.D.Desk.rest c.args.desk.now))
    (prepend_known c.period_or_end.new.self.source (g.D.Desk.rest c.period_or_end.new.desk))
    (g.D.Desk.counts c.args.desk.now) (g.D.Desk.counts c.period_or_end.new.desk) (g.D.Desk.counts c.heads.new.desk)
    c.in-Err-heads.fault
    (period_is p.number p.time p.length fits.0 fits.1 fits.2)
    text c.in-Ok-Period.ensures.line c.in-Ok-Period.ensures.steady
    (c.in-Err-heads.ensures.fault (header_of c.args.into.now) refl (ap length c.as_mut_slice.ensures.items
    ∙ c.args.into.now.whole))

pub returns-in-Ok-false-clause-stuck : goal.returns-in-Ok-false-clause-stuck
returns-in-Ok-false-clause-stuck g c =
    let e = c.in-Ok-End.end in
    let fits : NextFits (End e) = subst NextFits c.in-Ok-End.field-0-is c.in-Ok-End.ensures.fits in
    let text = subst (λ (n : Next). prepend_known c.args.lines.now.source (g.D.Desk.rest c.args.desk.now)
    ≡ prepend_known (next_text n) (prepend_known c.period_or_end.new.self.source
    (g.D.Desk.rest c.period_or_end.new.desk))) c.in-Ok-End.field-0-is c.in-Ok-End.ensures.text in (
      2,
      (
        omega (arith, c.saturating_add.ensures, c.is_over.ensures.line, c.in-Ok-End.ensures.line),
        stuck_over (header_of c.args.into.now) (words (codes "END" ∷ (decimal e.periods ∷ (end_word e.finished ∷ []))))
            (prepend_known c.args.lines.now.source (g.D.Desk.rest c.args.desk.now))
            (prepend_known c.period_or_end.new.self.source (g.D.Desk.rest c.period_or_end.new.desk))
            (end_is e.periods e.finished fits) text (c.in-Ok-false.ensures.more c.in-Ok-false.field-0-test),
        c.in-Ok-false.ensures.steady ∙ c.in-Ok-End.ensures.steady,
      ),
    )
