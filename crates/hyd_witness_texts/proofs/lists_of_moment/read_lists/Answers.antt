use Rattle.std.proofs.lemmas.Result.{err_from_is_err_and}
use Rattle.hyd_io.specs.DeskBytes.{prepend_known}
use Rattle.hyd_witness_texts.proofs.ListsRead.{was_read, counted, counted_stocks, on_err, stuck_in_heads}
use Rattle.hyd_witness_texts.proofs.ListsRead.{stuck_in_flows, stuck_in_demands, stuck_in_emitters, stuck_in_stocks}
use Rattle.hyd_witness_texts.proofs.lists_of_moment.read_lists.Goals as goal

pub returns-in_err-read_values-clause-fault : goal.returns-in_err-read_values-clause-fault
returns-in_err-read_values-clause-fault g c =
    let p = err_from_is_err_and c.from_residual.result c.from_residual.ensures.1 in
    rw (p.1, p.2) (λ counts has.
    stuck_in_heads counts (g.D.Desk.counts c.read_values.new.desk) c.in_err-read_values.field-0.0 c.args.lines.now.line
    (prepend_known c.args.lines.now.source (g.D.Desk.rest c.args.desk.now))
    (g.D.Desk.counts c.args.desk.now) (counted 72 c.args.into.now.heads.list _ c.args.lines.now.line
    (prepend_known c.args.lines.now.source (g.D.Desk.rest c.args.desk.now)) (g.D.Desk.counts c.args.desk.now)
    (g.D.Desk.counts c.read_values.new.desk) c.in_err-read_values.field-0.0 has.heads c.in_err-read_values.ensures.fault))

pub returns-in_err-read_values-2-clause-fault : goal.returns-in_err-read_values-2-clause-fault
returns-in_err-read_values-2-clause-fault g c =
    let p = err_from_is_err_and c.from_residual-in_err-read_values-2.result c.from_residual-in_err-read_values-2.ensures.1 in
    rw (p.1, p.2) (λ counts has.
    stuck_in_flows counts (g.D.Desk.counts c.read_values-2.new.desk) c.in_err-read_values-2.field-0.0 c.args.lines.now.line
    c.read_values.new.lines.line
    (prepend_known c.args.lines.now.source (g.D.Desk.rest c.args.desk.now))
    (prepend_known c.read_values.new.lines.source (g.D.Desk.rest c.read_values.new.desk))
    (g.D.Desk.counts c.args.desk.now) (g.D.Desk.counts c.read_values.new.desk) c.read_values.new.into.list
    (was_read 72 _ c.args.lines.now.line c.read_values.new.lines.line
    (prepend_known c.args.lines.now.source (g.D.Desk.rest c.args.desk.now))
    (prepend_known c.read_values.new.lines.source (g.D.Desk.rest c.read_values.new.desk))
    (g.D.Desk.counts c.args.desk.now) (g.D.Desk.counts c.read_values.new.desk)
    c.args.into.now.heads.list c.read_values.new.into.list has.heads c.read_values.ensures.count c.in_ok-read_values.ensures.fits
    c.in_ok-read_values.ensures.text c.in_ok-read_values.ensures.line c.in_ok-read_values.ensures.steady)
    (counted 81 c.args.into.now.flows.list _ c.read_values.new.lines.line
    (prepend_known c.read_values.new.lines.source (g.D.Desk.rest c.read_values.new.desk)) (g.D.Desk.counts
    c.read_values.new.desk) (g.D.Desk.counts c.read_values-2.new.desk) c.in_err-read_values-2.field-0.0 has.flows
    c.in_err-read_values-2.ensures.fault))

pub returns-in_err-read_values-3-clause-fault : goal.returns-in_err-read_values-3-clause-fault
returns-in_err-read_values-3-clause-fault g c =
    let p = err_from_is_err_and c.from_residual-in_err-read_values-3.result c.from_residual-in_err-read_values-3.ensures.1 in
    rw (p.1, p.2) (λ counts has.
    stuck_in_demands counts (g.D.Desk.counts c.read_values-3.new.desk) c.in_err-read_values-3.field-0.0
    c.args.lines.now.line c.read_values.new.lines.line
    (prepend_known c.args.lines.now.source (g.D.Desk.rest c.args.desk.now))
    (prepend_known c.read_values.new.lines.source (g.D.Desk.rest c.read_values.new.desk))
    (g.D.Desk.counts c.args.desk.now) (g.D.Desk.counts c.read_values.new.desk) c.read_values.new.into.list
    (was_read 72 _ c.args.lines.now.line c.read_values.new.lines.line
    (prepend_known c.args.lines.now.source (g.D.Desk.rest c.args.desk.now))
    (prepend_known c.read_values.new.lines.source (g.D.Desk.rest c.read_values.new.desk))
    (g.D.Desk.counts c.args.desk.now) (g.D.Desk.counts c.read_values.new.desk)
    c.args.into.now.heads.list c.read_values.new.into.list has.heads c.read_values.ensures.count c.in_ok-read_values.ensures.fits
    c.in_ok-read_values.ensures.text c.in_ok-read_values.ensures.line c.in_ok-read_values.ensures.steady)
    c.read_values-2.new.lines.line (prepend_known c.read_values-2.new.lines.source (g.D.Desk.rest
    c.read_values-2.new.desk)) (g.D.Desk.counts c.read_values-2.new.desk)
    c.read_values-2.new.into.list
    (was_read 81 _ c.read_values.new.lines.line c.read_values-2.new.lines.line
    (prepend_known c.read_values.new.lines.source (g.D.Desk.rest c.read_values.new.desk))
    (prepend_known c.read_values-2.new.lines.source (g.D.Desk.rest c.read_values-2.new.desk))
    (g.D.Desk.counts c.read_values.new.desk) (g.D.Desk.counts c.read_values-2.new.desk)
    c.args.into.now.flows.list c.read_values-2.new.into.list has.flows c.read_values-2.ensures.count
    c.in_ok-read_values-2.ensures.fits
    c.in_ok-read_values-2.ensures.text c.in_ok-read_values-2.ensures.line c.in_ok-read_values-2.ensures.steady)
    (counted 68 c.args.into.now.demands.list _ c.read_values-2.new.lines.line
    (prepend_known c.read_values-2.new.lines.source (g.D.Desk.rest c.read_values-2.new.desk)) (g.D.Desk.counts
    c.read_values-2.new.desk) (g.D.Desk.counts c.read_values-3.new.desk) c.in_err-read_values-3.field-0.0 has.demands
    c.in_err-read_values-3.ensures.fault))

pub returns-in_err-read_values-4-clause-fault : goal.returns-in_err-read_values-4-clause-fault
returns-in_err-read_values-4-clause-fault g c =
    let p = err_from_is_err_and c.from_residual-in_err-read_values-4.result c.from_residual-in_err-read_values-4.ensures.1 in
    rw (p.1, p.2) (λ counts has.
    stuck_in_emitters counts (g.D.Desk.counts c.read_values-4.new.desk) c.in_err-read_values-4.field-0.0
    c.args.lines.now.line c.read_values.new.lines.line
    (prepend_known c.args.lines.now.source (g.D.Desk.rest c.args.desk.now))
    (prepend_known c.read_values.new.lines.source (g.D.Desk.rest c.read_values.new.desk))
    (g.D.Desk.counts c.args.desk.now) (g.D.Desk.counts c.read_values.new.desk) c.read_values.new.into.list
    (was_read 72 _ c.args.lines.now.line c.read_values.new.lines.line
    (prepend_known c.args.lines.now.source (g.D.Desk.rest c.args.desk.now))
    (prepend_known c.read_values.new.lines.source (g.D.Desk.rest c.read_values.new.desk))
    (g.D.Desk.counts c.args.desk.now) (g.D.Desk.counts c.read_values.new.desk)
    c.args.into.now.heads.list c.read_values.new.into.list has.heads c.read_values.ensures.count c.in_ok-read_values.ensures.fits
    c.in_ok-read_values.ensures.text c.in_ok-read_values.ensures.line c.in_ok-read_values.ensures.steady)
    c.read_values-2.new.lines.line (prepend_known c.read_values-2.new.lines.source (g.D.Desk.rest
    c.read_values-2.new.desk)) (g.D.Desk.counts c.read_values-2.new.desk)
    c.read_values-2.new.into.list
    (was_read 81 _ c.read_values.new.lines.line c.read_values-2.new.lines.line
    (prepend_known c.read_values.new.lines.source (g.D.Desk.rest c.read_values.new.desk))
    (prepend_known c.read_values-2.new.lines.source (g.D.Desk.rest c.read_values-2.new.desk))
    (g.D.Desk.counts c.read_values.new.desk) (g.D.Desk.counts c.read_values-2.new.desk)
    c.args.into.now.flows.list c.read_values-2.new.into.list has.flows c.read_values-2.ensures.count
    c.in_ok-read_values-2.ensures.fits
    c.in_ok-read_values-2.ensures.text c.in_ok-read_values-2.ensures.line c.in_ok-read_values-2.ensures.steady)
    c.read_values-3.new.lines.line (prepend_known c.read_values-3.new.lines.source (g.D.Desk.rest
    c.read_values-3.new.desk)) (g.D.Desk.counts c.read_values-3.new.desk)
    c.read_values-3.new.into.list
    (was_read 68 _ c.read_values-2.new.lines.line c.read_values-3.new.lines.line
    (prepend_known c.read_values-2.new.lines.source (g.D.Desk.rest c.read_values-2.new.desk))
    (prepend_known c.read_values-3.new.lines.source (g.D.Desk.rest c.read_values-3.new.desk))
    (g.D.Desk.counts c.read_values-2.new.desk) (g.D.Desk.counts c.read_values-3.new.desk)
    c.args.into.now.demands.list c.read_values-3.new.into.list has.demands c.read_values-3.ensures.count
    c.in_ok-read_values-3.ensures.fits
    c.in_ok-read_values-3.ensures.text c.in_ok-read_values-3.ensures.line c.in_ok-read_values-3.ensures.steady)
    (counted 69 c.args.into.now.emitters.list _ c.read_values-3.new.lines.line
    (prepend_known c.read_values-3.new.lines.source (g.D.Desk.rest c.read_values-3.new.desk)) (g.D.Desk.counts
    c.read_values-3.new.desk) (g.D.Desk.counts c.read_values-4.new.desk) c.in_err-read_values-4.field-0.0 has.emitters
    c.in_err-read_values-4.ensures.fault))

pub returns-clause-fault : goal.returns-clause-fault
returns-clause-fault g c = λ counts has. on_err c.read_stocks.result _ _
    (λ f h. stuck_in_stocks counts (g.D.Desk.counts c.read_stocks.new.desk) f c.args.lines.now.line
    c.read_values.new.lines.line
    (prepend_known c.args.lines.now.source (g.D.Desk.rest c.args.desk.now))
    (prepend_known c.read_values.new.lines.source (g.D.Desk.rest c.read_values.new.desk))
    (g.D.Desk.counts c.args.desk.now) (g.D.Desk.counts c.read_values.new.desk) c.read_values.new.into.list
    (was_read 72 _ c.args.lines.now.line c.read_values.new.lines.line
    (prepend_known c.args.lines.now.source (g.D.Desk.rest c.args.desk.now))
    (prepend_known c.read_values.new.lines.source (g.D.Desk.rest c.read_values.new.desk))
    (g.D.Desk.counts c.args.desk.now) (g.D.Desk.counts c.read_values.new.desk)
    c.args.into.now.heads.list c.read_values.new.into.list has.heads c.read_values.ensures.count c.in_ok-read_values.ensures.fits
    c.in_ok-read_values.ensures.text c.in_ok-read_values.ensures.line c.in_ok-read_values.ensures.steady)
    c.read_values-2.new.lines.line (prepend_known c.read_values-2.new.lines.source (g.D.Desk.rest
    c.read_values-2.new.desk)) (g.D.Desk.counts c.read_values-2.new.desk)
    c.read_values-2.new.into.list
    (was_read 81 _ c.read_values.new.lines.line c.read_values-2.new.lines.line
    (prepend_known c.read_values.new.lines.source (g.D.Desk.rest c.read_values.new.desk))
    (prepend_known c.read_values-2.new.lines.source (g.D.Desk.rest c.read_values-2.new.desk))
    (g.D.Desk.counts c.read_values.new.desk) (g.D.Desk.counts c.read_values-2.new.desk)
    c.args.into.now.flows.list c.read_values-2.new.into.list has.flows c.read_values-2.ensures.count
    c.in_ok-read_values-2.ensures.fits
    c.in_ok-read_values-2.ensures.text c.in_ok-read_values-2.ensures.line c.in_ok-read_values-2.ensures.steady)
    c.read_values-3.new.lines.line (prepend_known c.read_values-3.new.lines.source (g.D.Desk.rest
    c.read_values-3.new.desk)) (g.D.Desk.counts c.read_values-3.new.desk)
    c.read_values-3.new.into.list
    (was_read 68 _ c.read_values-2.new.lines.line c.read_values-3.new.lines.line
    (prepend_known c.read_values-2.new.lines.source (g.D.Desk.rest c.read_values-2.new.desk))
    (prepend_known c.read_values-3.new.lines.source (g.D.Desk.rest c.read_values-3.new.desk))
    (g.D.Desk.counts c.read_values-2.new.desk) (g.D.Desk.counts c.read_values-3.new.desk)
    c.args.into.now.demands.list c.read_values-3.new.into.list has.demands c.read_values-3.ensures.count
    c.in_ok-read_values-3.ensures.fits
    c.in_ok-read_values-3.ensures.text c.in_ok-read_values-3.ensures.line c.in_ok-read_values-3.ensures.steady)
    c.read_values-4.new.lines.line (prepend_known c.read_values-4.new.lines.source (g.D.Desk.rest
    c.read_values-4.new.desk)) (g.D.Desk.counts c.read_values-4.new.desk)
    c.read_values-4.new.into.list
    (was_read 69 _ c.read_values-3.new.lines.line c.read_values-4.new.lines.line
    (prepend_known c.read_values-3.new.lines.source (g.D.Desk.rest c.read_values-3.new.desk))
    (prepend_known c.read_values-4.new.lines.source (g.D.Desk.rest c.read_values-4.new.desk))
    (g.D.Desk.counts c.read_values-3.new.desk) (g.D.Desk.counts c.read_values-4.new.desk)
    c.args.into.now.emitters.list c.read_values-4.new.into.list has.emitters c.read_values-4.ensures.count
    c.in_ok-read_values-4.ensures.fits
    c.in_ok-read_values-4.ensures.text c.in_ok-read_values-4.ensures.line c.in_ok-read_values-4.ensures.steady)
    (counted_stocks c.args.into.now.levels.list _ c.read_values-4.new.lines.line
    (prepend_known c.read_values-4.new.lines.source (g.D.Desk.rest c.read_values-4.new.desk)) (g.D.Desk.counts
    c.read_values-4.new.desk) (g.D.Desk.counts c.read_stocks.new.desk) f has.levels h)) c.read_stocks.ensures.fault
