use Rattle.std.proofs.Common.{◌≡◌, subst, ◌∙◌, arith}
use Rattle.hyd_io.specs.DeskBytes.{prepend_known}
use Rattle.hyd_witness_texts.specs.MomentView.{moment_of}
use Rattle.hyd_witness_texts.specs.PeriodOrEndLine.{NextFits, next_text}
use Rattle.hyd_witness_texts.specs.declared.period_or_end_line.Next.{Next}
use Rattle.hyd_witness_texts.specs.declared.period_or_end_line.Next.TheVariants.{Period}
use Rattle.hyd_witness_texts.proofs.ReaderLemmas.{no_next, no_next_moment, in_lists, no_moment_in_lists, over_fault}
use Rattle.hyd_witness_texts.proofs.ReaderLemmas.{moment_read, moment_is}
use Rattle.hyd_witness_texts.proofs.reader.read_behind_periods.Goals as goal

pub returns-in-Err-clause-fault : goal.returns-in-Err-clause-fault
returns-in-Err-clause-fault g c = λ counts has.
    no_next counts c.args.before.periods c.args.lines.now.line
    (prepend_known c.args.lines.now.source (g.D.Desk.rest c.args.desk.now)) (g.D.Desk.counts c.args.desk.now)
    (g.D.Desk.counts c.period_or_end.new.desk) c.in-Err.fault c.is_small.ensures c.in-Err.ensures.fault

pub returns-in-Err-clause-no_moment : goal.returns-in-Err-clause-no_moment
returns-in-Err-clause-no_moment g c = λ counts has.
    no_next_moment counts c.args.before.periods c.args.lines.now.line
    (prepend_known c.args.lines.now.source (g.D.Desk.rest c.args.desk.now)) (g.D.Desk.counts c.args.desk.now)
    (g.D.Desk.counts c.period_or_end.new.desk) c.in-Err.fault c.in-Err.ensures.fault

pub returns-in-Err-read_lists-clause-fault : goal.returns-in-Err-read_lists-clause-fault
returns-in-Err-read_lists-clause-fault g c = λ counts has.
    let p = c.in-Ok-Period.period in
    let periods = c.args.before.periods in
    let fits : NextFits periods (Period p) = subst (NextFits periods) c.in-Ok-Period.field-0-is
    c.in-Ok-Period.ensures.fits in
    let text = subst (λ (n : Next). prepend_known c.args.lines.now.source (g.D.Desk.rest c.args.desk.now)
    ≡ prepend_known (next_text periods n) (prepend_known c.period_or_end.new.self.source
    (g.D.Desk.rest c.period_or_end.new.desk))) c.in-Ok-Period.field-0-is c.in-Ok-Period.ensures.text in
    in_lists counts periods p.number p.time p.length (record {
      number_fits = fits.0;
      time_fits = fits.1;
      length_fits = fits.2;
    }) c.args.lines.now.line c.period_or_end.new.self.line
    (prepend_known c.args.lines.now.source (g.D.Desk.rest c.args.desk.now))
    (prepend_known c.period_or_end.new.self.source (g.D.Desk.rest c.period_or_end.new.desk))
    (g.D.Desk.counts c.args.desk.now) (g.D.Desk.counts c.period_or_end.new.desk)
    (g.D.Desk.counts c.read_lists.new.desk) c.in-Err-read_lists.fault text
    (c.in-Err-read_lists.ensures.fault counts (record {
      heads = has.heads;
      flows = has.flows;
      demands = has.demands;
      emitters = has.emitters;
      levels = has.levels;
      volumes = has.volumes;
    })) fits.3 c.in-Ok-Period.ensures.line c.in-Ok-Period.ensures.steady

pub returns-in-Err-read_lists-clause-no_moment : goal.returns-in-Err-read_lists-clause-no_moment
returns-in-Err-read_lists-clause-no_moment g c = λ counts has.
    let p = c.in-Ok-Period.period in
    let periods = c.args.before.periods in
    let fits : NextFits periods (Period p) = subst (NextFits periods) c.in-Ok-Period.field-0-is
    c.in-Ok-Period.ensures.fits in
    let text = subst (λ (n : Next). prepend_known c.args.lines.now.source (g.D.Desk.rest c.args.desk.now)
    ≡ prepend_known (next_text periods n) (prepend_known c.period_or_end.new.self.source
    (g.D.Desk.rest c.period_or_end.new.desk))) c.in-Ok-Period.field-0-is c.in-Ok-Period.ensures.text in
    no_moment_in_lists counts periods p.number p.time p.length (record {
      number_fits = fits.0;
      time_fits = fits.1;
      length_fits = fits.2;
    }) c.args.lines.now.line c.period_or_end.new.self.line
    (prepend_known c.args.lines.now.source (g.D.Desk.rest c.args.desk.now))
    (prepend_known c.period_or_end.new.self.source (g.D.Desk.rest c.period_or_end.new.desk))
    (g.D.Desk.counts c.args.desk.now) (g.D.Desk.counts c.period_or_end.new.desk)
    (g.D.Desk.counts c.read_lists.new.desk) c.in-Err-read_lists.fault text
    (c.in-Err-read_lists.ensures.fault counts (record {
      heads = has.heads;
      flows = has.flows;
      demands = has.demands;
      emitters = has.emitters;
      levels = has.levels;
      volumes = has.volumes;
    }))

pub returns-in-Ok-clause-moment : goal.returns-in-Ok-clause-moment
returns-in-Ok-clause-moment g c =
    let p = c.in-Ok-Period.period in
    let periods = c.args.before.periods in
    let text = subst (λ (n : Next). prepend_known c.args.lines.now.source (g.D.Desk.rest c.args.desk.now)
    ≡ prepend_known (next_text periods n) (prepend_known c.period_or_end.new.self.source
    (g.D.Desk.rest c.period_or_end.new.desk))) c.in-Ok-Period.field-0-is c.in-Ok-Period.ensures.text in
    moment_read (moment_of c.read_lists.new.into) p.number p.time p.length c.in-Ok.ensures.number
    c.in-Ok.ensures.time c.in-Ok.ensures.length
    (prepend_known c.args.lines.now.source (g.D.Desk.rest c.args.desk.now))
    (prepend_known c.period_or_end.new.self.source (g.D.Desk.rest c.period_or_end.new.desk))
    (prepend_known c.read_lists.new.lines.source (g.D.Desk.rest c.read_lists.new.desk)) text c.in-Ok.ensures.text

pub returns-in-Ok-clause-is_moment : goal.returns-in-Ok-clause-is_moment
returns-in-Ok-clause-is_moment g c = λ counts has.
    let p = c.in-Ok-Period.period in
    let periods = c.args.before.periods in
    let fits : NextFits periods (Period p) = subst (NextFits periods) c.in-Ok-Period.field-0-is
    c.in-Ok-Period.ensures.fits in
    moment_is (moment_of c.read_lists.new.into) p.number p.time p.length c.in-Ok.ensures.number
    c.in-Ok.ensures.time c.in-Ok.ensures.length counts (record {
      number_fits = fits.0;
      time_fits = fits.1;
      length_fits = fits.2;
    }) (c.in-Ok.ensures.values counts (record {
      heads = has.heads;
      flows = has.flows;
      demands = has.demands;
      emitters = has.emitters;
      levels = has.levels;
      volumes = has.volumes;
    }))

pub returns-in-Ok-clause-line : goal.returns-in-Ok-clause-line
returns-in-Ok-clause-line g c = λ counts has.
    let l = c.in-Ok-Period.ensures.line in
    let m = c.in-Ok.ensures.line counts (record {
      heads = has.heads;
      flows = has.flows;
      demands = has.demands;
      emitters = has.emitters;
      levels = has.levels;
      volumes = has.volumes;
    }) in
    omega (arith, l, m)

pub returns-in-Ok-clause-lists : goal.returns-in-Ok-clause-lists
returns-in-Ok-clause-lists g c = λ counts has.
    c.read_lists.ensures.counts counts (record {
      heads = has.heads;
      flows = has.flows;
      demands = has.demands;
      emitters = has.emitters;
      levels = has.levels;
      volumes = has.volumes;
    })

pub returns-in-Err-read_lists-clause-lists : goal.returns-in-Err-read_lists-clause-lists
returns-in-Err-read_lists-clause-lists g c = λ counts has.
    c.read_lists.ensures.counts counts (record {
      heads = has.heads;
      flows = has.flows;
      demands = has.demands;
      emitters = has.emitters;
      levels = has.levels;
      volumes = has.volumes;
    })

pub returns-in-Ok-false-clause-fault : goal.returns-in-Ok-false-clause-fault
returns-in-Ok-false-clause-fault g c = λ counts has.
    let periods = c.args.before.periods in
    let text = subst (λ (n : Next). prepend_known c.args.lines.now.source (g.D.Desk.rest c.args.desk.now)
    ≡ prepend_known (next_text periods n) (prepend_known c.period_or_end.new.self.source
    (g.D.Desk.rest c.period_or_end.new.desk))) c.in-Ok-End.field-0-is c.in-Ok-End.ensures.text in (
      2,
      (
        omega (arith, c.saturating_add.ensures, c.is_over.ensures.line, c.in-Ok-End.ensures.line),
        over_fault counts periods (prepend_known c.args.lines.now.source (g.D.Desk.rest c.args.desk.now))
            (prepend_known c.period_or_end.new.self.source (g.D.Desk.rest c.period_or_end.new.desk))
            c.is_small.ensures text (c.in-Ok-false.ensures.more c.in-Ok-false.field-0-test),
        c.in-Ok-false.ensures.steady ∙ c.in-Ok-End.ensures.steady,
      ),
    )
