use Rattle.std.proofs.lemmas.Result.{err_from_is_err_and}
use Rattle.std.proofs.Common.{◌≡◌, ℕ, ◌∷◌, [], slice_set, ◌∙◌, subst, arith}
use Rattle.std.specs.Prelude.{All}
use Rattle.std.proofs.lemmas.List.{take_all}
use Rattle.hyd_io.specs.DeskBytes.{prepend_known}
use Rattle.hyd_io.proofs.LeftAsItWasLemmas.{output_kept_then}
use Rattle.hyd_spec_witnesses.specs.WitnessText.{IsValue}
use Rattle.hyd_witness_texts.specs.FirstFaults.{IsTextFault, IsFaultAtFront}
use Rattle.hyd_witness_texts.specs.PartsOfWitness.{AreValueLines}
use Rattle.hyd_witness_texts.proofs.ListsOfValues.{values_stuck, value_read, values_fit, value_stored}
use Rattle.hyd_witness_texts.proofs.lines_of_text.Lines.values.Goals as goal

pub returns-in_err-value-clause-fault : goal.returns-in_err-value-clause-fault
returns-in_err-value-clause-fault g c =
    let p = err_from_is_err_and c.from_residual.result c.from_residual.ensures.1 in
    rw (p.1, p.2) (subst (λ (n : ℕ). IsTextFault (IsFaultAtFront (AreValueLines (c.args.key ∷ []) n)) c.args.self.now.line
    (prepend_known c.args.self.now.source (g.D.Desk.rest c.args.desk.now)) (g.D.Desk.counts c.args.desk.now)
    (g.D.Desk.counts c.value.new.desk) c.in_err-value.field-0.0) c.loop-i.auto.into
    (values_stuck c.args.key c.requires c.loop-i.into c.loop-i.i c.args.self.now.line c.loop-i.self.line
    (prepend_known c.args.self.now.source (g.D.Desk.rest c.args.desk.now))
    (prepend_known c.loop-i.self.source (g.D.Desk.rest c.loop-i.desk)) (g.D.Desk.counts c.args.desk.now)
    (g.D.Desk.counts c.loop-i.desk) (g.D.Desk.counts c.value.new.desk) c.in_err-value.field-0.0 (omega arith)
    c.loop-i.invariant.fits c.loop-i.invariant.text c.loop-i.invariant.line c.loop-i.invariant.steady
    c.in_err-value.ensures.fault))

pub loop-i-preserved : goal.loop-i-preserved
loop-i-preserved g c =
    let written : c.store.new.into ≡ slice_set c.loop-i.into c.loop-i.i c.in_ok-value.value = c.store.ensures
    ∙ value_stored c.loop-i.into c.loop-i.i c.in_ok-value.value c.in_ok-value.ensures.fits in
    record {
      text = value_read (c.args.key ∷ []) c.loop-i.i c.loop-i.into c.store.new.into c.in_ok-value.value
          (prepend_known c.args.self.now.source (g.D.Desk.rest c.args.desk.now))
          (prepend_known c.loop-i.self.source (g.D.Desk.rest c.loop-i.desk))
          (prepend_known c.value.new.self.source (g.D.Desk.rest c.value.new.desk)) (omega arith) written
          c.loop-i.invariant.text c.in_ok-value.ensures.text;
      fits = values_fit c.loop-i.i c.loop-i.into c.store.new.into c.in_ok-value.value (omega arith) written
          c.loop-i.invariant.fits c.in_ok-value.ensures.fits;
      line = (let l = c.loop-i.invariant.line in let m = c.in_ok-value.ensures.line in omega (arith, l, m));
      steady = c.in_ok-value.ensures.steady ∙ c.loop-i.invariant.steady;
      stays = output_kept_then _ _ _ c.loop-i.invariant.stays c.in_ok-value.ensures.stays;
    }

pub returns-clause-fits : goal.returns-clause-fits
returns-clause-fits g c = subst (All IsValue) (take_all c.loop-i.i c.loop-i.into (omega arith))
    c.loop-i.invariant.fits

pub returns-in_err-value-clause-stays : goal.returns-in_err-value-clause-stays
returns-in_err-value-clause-stays g c =
    output_kept_then _ _ _ c.loop-i.invariant.stays c.in_err-value.ensures.stays
