use Rattle.std.proofs.lemmas.Result.{err_from_is_err_and}
use Rattle.std.proofs.Common.{◌≡◌, ℕ, ◌++◌, ◌∷◌, [], List, length, All, slice_set, sym, ap, ◌∙◌, subst, arith}
use Rattle.std.specs.Fmt.{signed_decimal}
use Rattle.hyd_io.specs.DeskBytes.{prepend_known}
use Rattle.std.proofs.lemmas.List.{take_all}
use Rattle.std.proofs.Math.ListN.{length-set}
use Rattle.hyd_spec_certificates.specs.Certificate.{IsInBox}
use Rattle.hyd_cert.specs.Lines.{IsHeadLine}
use Rattle.hyd_cert.specs.PlacesOfLines.{front_at, heads_in}
use Rattle.hyd_cert.specs.Faults.{IsLineFault}
use Rattle.hyd_io.proofs.LeftAsItWasLemmas.{output_kept_then}
use Rattle.hyd_cert.proofs.HeadLemmas.{stored, text_more, box_more, fault_more, fault_here}
use Rattle.hyd_cert.proofs.reader.Lines.heads.Goals as goal

pub returns-in_err-head-clause-fault : goal.returns-in_err-head-clause-fault
returns-in_err-head-clause-fault g c =
    let p = err_from_is_err_and c.from_residual.result c.from_residual.ensures.1 in
    rw (p.1, p.2) (λ header at whole.
    let same : length c.loop-i.into ≡ length c.args.into.now = c.loop-i.auto.into in
    let many : length c.args.into.now ≡ heads_in header.junctions header.tanks = whole
    ∙ ap (λ n. heads_in n header.tanks) (sym at) in
    fault_here header c.loop-i.i c.args.self.now.line c.loop-i.self.line
    (prepend_known c.args.self.now.source (g.D.Desk.rest c.args.desk.now))
    (prepend_known c.loop-i.self.source (g.D.Desk.rest c.loop-i.desk)) (g.D.Desk.counts c.args.desk.now)
    (g.D.Desk.counts c.loop-i.desk) (g.D.Desk.counts c.head.new.desk) c.in_err-head.field-0.0
    (omega (arith, c.loop-i-test.true, many, same)) c.loop-i.invariant.line c.loop-i.invariant.steady
    (subst (λ (f : List ℕ). IsLineFault (IsHeadLine f) c.loop-i.self.line
    (prepend_known c.loop-i.self.source (g.D.Desk.rest c.loop-i.desk)) (g.D.Desk.counts c.loop-i.desk)
    (g.D.Desk.counts c.head.new.desk) c.in_err-head.field-0.0)
    (c.front_of.ensures ∙ ap (λ n. front_at n c.loop-i.i) (sym at)) c.in_err-head.ensures.fault)
    (c.loop-i.invariant.fault header at (same ∙ whole)))

pub loop-i-preserved : goal.loop-i-preserved
loop-i-preserved g c =
    let read : prepend_known c.loop-i.self.source (g.D.Desk.rest c.loop-i.desk)
    ≡ prepend_known (front_at c.args.junctions c.loop-i.i ++ (signed_decimal c.in_ok-head.head ++ (10 ∷ [])))
    (prepend_known c.head.new.self.source (g.D.Desk.rest c.head.new.desk)) =
    c.in_ok-head.ensures.text ∙ ap (λ (f : List ℕ). prepend_known (f ++ (signed_decimal c.in_ok-head.head ++ (10 ∷ [])))
    (prepend_known c.head.new.self.source (g.D.Desk.rest c.head.new.desk))) c.front_of.ensures in
    let written : c.store.new.into ≡ slice_set c.loop-i.into c.loop-i.i c.in_ok-head.head = c.store.ensures
    ∙ stored c.loop-i.into c.loop-i.i c.in_ok-head.head c.in_ok-head.ensures.in_box in
    record {
      text = text_more c.args.junctions c.loop-i.i c.loop-i.into c.store.new.into c.in_ok-head.head
          (prepend_known c.args.self.now.source (g.D.Desk.rest c.args.desk.now))
          (prepend_known c.loop-i.self.source (g.D.Desk.rest c.loop-i.desk))
          (prepend_known c.head.new.self.source (g.D.Desk.rest c.head.new.desk)) (omega arith) written
          c.loop-i.invariant.text read;
      in_box = box_more c.loop-i.i c.loop-i.into c.store.new.into c.in_ok-head.head (omega arith) written
          c.loop-i.invariant.in_box c.in_ok-head.ensures.in_box;
      line = (let l = c.loop-i.invariant.line in let m = c.in_ok-head.ensures.line in omega (arith, l, m));
      fault = λ header at whole.
          let same : length c.store.new.into ≡ length c.loop-i.into = ap length written ∙ length-set c.loop-i.into
          c.loop-i.i c.in_ok-head.head in
          let many : length c.loop-i.into ≡ heads_in header.junctions header.tanks = sym same
          ∙ (whole ∙ ap (λ n. heads_in n header.tanks) (sym at)) in
          fault_more header c.loop-i.i c.in_ok-head.head (prepend_known c.args.self.now.source
          (g.D.Desk.rest c.args.desk.now)) (prepend_known c.loop-i.self.source (g.D.Desk.rest c.loop-i.desk))
          (prepend_known c.head.new.self.source (g.D.Desk.rest c.head.new.desk))
          (omega (arith, c.loop-i-test.true, many)) c.in_ok-head.ensures.in_box
          (read ∙ ap (λ n. prepend_known (front_at n c.loop-i.i ++ (signed_decimal c.in_ok-head.head ++ (10 ∷ [])))
          (prepend_known c.head.new.self.source (g.D.Desk.rest c.head.new.desk))) (sym at))
          (c.loop-i.invariant.fault header at (sym same ∙ whole));
      steady = c.in_ok-head.ensures.steady ∙ c.loop-i.invariant.steady;
      stays = output_kept_then _ _ _ c.loop-i.invariant.stays c.in_ok-head.ensures.stays;
    }

pub returns-clause-in_box : goal.returns-clause-in_box
returns-clause-in_box g c = subst (All IsInBox) (take_all c.loop-i.i c.loop-i.into (omega arith))
    c.loop-i.invariant.in_box
