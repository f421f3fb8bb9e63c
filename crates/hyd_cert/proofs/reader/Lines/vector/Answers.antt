use Rattle.std.proofs.lemmas.Result.{err_from_is_err_and}
use Rattle.std.proofs.Common.{◌≡◌, List, ℤ, length, All, slice_set, ap, ◌∙◌, subst, arith}
use Rattle.hyd_io.specs.DeskBytes.{prepend_known}
use Rattle.std.proofs.lemmas.List.{take_all, length-take-le}
use Rattle.hyd_spec_certificates.specs.Certificate.{IsInBox}
use Rattle.hyd_cert.specs.PlacesWithFlows.{held_lines}
use Rattle.hyd_io.proofs.LeftAsItWasLemmas.{output_kept_then}
use Rattle.hyd_cert.proofs.HeadLemmas.{stored, box_more}
use Rattle.hyd_cert.proofs.FlowTextLemmas.{vector_more, vector_fault}
use Rattle.hyd_cert.proofs.reader.Lines.vector.Goals as goal

pub returns-in_err-head-clause-fault : goal.returns-in_err-head-clause-fault
returns-in_err-head-clause-fault g c =
    let p = err_from_is_err_and c.from_residual.result c.from_residual.ensures.1 in
    rw (p.1, p.2) (let same : length c.loop-i.into ≡ length c.args.into.now = c.loop-i.auto.into in
    vector_fault c.args.front.now (length c.args.into.now) c.loop-i.i _ _ _ _ _ _ _ _ c.in_err-head.field-0.0
    (length-take-le c.loop-i.i c.loop-i.into (omega (arith, c.loop-i-test.true, same)))
    (omega (arith, c.loop-i-test.true, same)) c.loop-i.invariant.in_box c.loop-i.invariant.text
    c.loop-i.invariant.line c.loop-i.invariant.steady c.in_err-head.ensures.fault)

pub returns-in_err-head-clause-stays : goal.returns-in_err-head-clause-stays
returns-in_err-head-clause-stays g c =
    output_kept_then _ _ _ c.loop-i.invariant.stays c.in_err-head.ensures.stays

pub loop-i-preserved : goal.loop-i-preserved
loop-i-preserved g c =
    let written : c.store.new.into ≡ slice_set c.loop-i.into c.loop-i.i c.in_ok-head.head = c.store.ensures
    ∙ stored c.loop-i.into c.loop-i.i c.in_ok-head.head c.in_ok-head.ensures.in_box in
    record {
      text = vector_more c.args.front.now c.loop-i.i c.loop-i.into c.store.new.into c.in_ok-head.head
          (prepend_known c.args.self.now.source (g.D.Desk.rest c.args.desk.now))
          (prepend_known c.loop-i.self.source (g.D.Desk.rest c.loop-i.desk))
          (prepend_known c.head.new.self.source (g.D.Desk.rest c.head.new.desk)) (omega arith) written
          c.loop-i.invariant.text c.in_ok-head.ensures.text;
      in_box = box_more c.loop-i.i c.loop-i.into c.store.new.into c.in_ok-head.head (omega arith) written
          c.loop-i.invariant.in_box c.in_ok-head.ensures.in_box;
      line = (let l = c.loop-i.invariant.line in let m = c.in_ok-head.ensures.line in omega (arith, l, m));
      steady = c.in_ok-head.ensures.steady ∙ c.loop-i.invariant.steady;
      stays = output_kept_then _ _ _ c.loop-i.invariant.stays c.in_ok-head.ensures.stays;
    }

pub returns-clause-text : goal.returns-clause-text
returns-clause-text g c =
    c.loop-i.invariant.text
    ∙ ap (λ (us : List ℤ). prepend_known (held_lines c.args.front.now us)
    (prepend_known c.loop-i.self.source (g.D.Desk.rest c.loop-i.desk)))
    (take_all c.loop-i.i c.loop-i.into (let same : length c.loop-i.into ≡ length c.args.into.now = c.loop-i.auto.into in
    omega (arith, same)))

pub returns-clause-in_box : goal.returns-clause-in_box
returns-clause-in_box g c =
    subst (All IsInBox) (take_all c.loop-i.i c.loop-i.into (let same : length c.loop-i.into
    ≡ length c.args.into.now = c.loop-i.auto.into in omega (arith, same))) c.loop-i.invariant.in_box
