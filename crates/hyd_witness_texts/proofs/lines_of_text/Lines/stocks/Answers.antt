use Rattle.std.proofs.lemmas.Result.{err_from_is_err_and}
use Rattle.std.proofs.Common.{◌≡◌, ℕ, length, slice_set, sym, ◌∙◌, subst, arith}
use Rattle.hyd_io.specs.DeskBytes.{prepend_known}
use Rattle.hyd_io.proofs.LeftAsItWasLemmas.{output_kept_then}
use Rattle.hyd_witness_texts.specs.FirstFaults.{IsTextFault, IsFaultAtFront}
use Rattle.hyd_witness_texts.specs.PartsOfWitness.{AreStockLines}
use Rattle.hyd_witness_texts.proofs.ListsOfValues.{stocks_stuck, stock_read, values_fit, value_stored}
use Rattle.hyd_witness_texts.proofs.lines_of_text.Lines.stocks.Goals as goal

pub returns-in_err-level-clause-fault : goal.returns-in_err-level-clause-fault
returns-in_err-level-clause-fault g c =
    let p = err_from_is_err_and c.from_residual.result c.from_residual.ensures.1 in
    rw (p.1, p.2) (subst (λ (n : ℕ). IsTextFault (IsFaultAtFront (AreStockLines n)) c.args.self.now.line
    (prepend_known c.args.self.now.source (g.D.Desk.rest c.args.desk.now)) (g.D.Desk.counts c.args.desk.now)
    (g.D.Desk.counts c.stock.new.desk) c.in_err-level.field-0.0) c.loop-i.auto.levels
    (stocks_stuck c.loop-i.levels c.loop-i.volumes c.loop-i.i c.args.self.now.line c.loop-i.self.line
    (prepend_known c.args.self.now.source (g.D.Desk.rest c.args.desk.now))
    (prepend_known c.loop-i.self.source (g.D.Desk.rest c.loop-i.desk)) (g.D.Desk.counts c.args.desk.now)
    (g.D.Desk.counts c.loop-i.desk) (g.D.Desk.counts c.stock.new.desk) c.in_err-level.field-0.0 (omega arith)
    (c.loop-i.auto.levels ∙ (c.requires ∙ sym c.loop-i.auto.volumes))
    c.loop-i.invariant.levels c.loop-i.invariant.volumes c.loop-i.invariant.text c.loop-i.invariant.line
    c.loop-i.invariant.steady c.in_err-level.ensures.fault))

pub loop-i-preserved : goal.loop-i-preserved
loop-i-preserved g c =
    let as_many : length c.loop-i.levels ≡ length c.loop-i.volumes = c.loop-i.auto.levels
    ∙ (c.requires ∙ sym c.loop-i.auto.volumes) in
    let set_l : c.store.new.into ≡ slice_set c.loop-i.levels c.loop-i.i c.in_ok-level.level = c.store.ensures
    ∙ value_stored c.loop-i.levels c.loop-i.i c.in_ok-level.level c.in_ok-level.ensures.fits.0 in
    let set_v : c.store-in-loop-i.new.into ≡ slice_set c.loop-i.volumes c.loop-i.i c.in_ok-level.volume = c.store-in-loop-i.ensures
    ∙ value_stored c.loop-i.volumes c.loop-i.i c.in_ok-level.volume c.in_ok-level.ensures.fits.1 in
    record {
      text = stock_read c.loop-i.i c.loop-i.levels c.loop-i.volumes c.store.new.into c.store-in-loop-i.new.into
          c.in_ok-level.level
          c.in_ok-level.volume (prepend_known c.args.self.now.source (g.D.Desk.rest c.args.desk.now))
          (prepend_known c.loop-i.self.source (g.D.Desk.rest c.loop-i.desk))
          (prepend_known c.stock.new.self.source (g.D.Desk.rest c.stock.new.desk)) (omega arith) as_many set_l set_v
          c.loop-i.invariant.text c.in_ok-level.ensures.text;
      levels = values_fit c.loop-i.i c.loop-i.levels c.store.new.into c.in_ok-level.level (omega arith) set_l
          c.loop-i.invariant.levels c.in_ok-level.ensures.fits.0;
      volumes = values_fit c.loop-i.i c.loop-i.volumes c.store-in-loop-i.new.into c.in_ok-level.volume (omega (arith, as_many))
          set_v
          c.loop-i.invariant.volumes c.in_ok-level.ensures.fits.1;
      line = (let l = c.loop-i.invariant.line in let m = c.in_ok-level.ensures.line in omega (arith, l, m));
      steady = c.in_ok-level.ensures.steady ∙ c.loop-i.invariant.steady;
      stays = output_kept_then _ _ _ c.loop-i.invariant.stays c.in_ok-level.ensures.stays;
    }

pub returns-in_err-level-clause-stays : goal.returns-in_err-level-clause-stays
returns-in_err-level-clause-stays g c = output_kept_then _ _ _ c.loop-i.invariant.stays c.in_err-level.ensures.stays
