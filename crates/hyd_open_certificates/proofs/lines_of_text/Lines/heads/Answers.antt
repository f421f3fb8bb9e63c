use Rattle.std.proofs.lemmas.Result.{err_from_is_err_and}
use Rattle.std.proofs.Common.{◌≡◌, ℕ, ◌++◌, ◌∷◌, [], List, All, slice_set, ap, ◌∙◌, subst, arith}
use Rattle.std.specs.Fmt.{signed_decimal}
use Rattle.std.proofs.lemmas.List.{take_all}
use Rattle.hyd_io.specs.DeskBytes.{prepend_known}
use Rattle.hyd_io.proofs.LeftAsItWasLemmas.{output_kept_then}
use Rattle.hyd_spec_certificates.specs.Certificate.{IsInBox}
use Rattle.hyd_witness_texts.specs.FirstFaults.{IsFaultAtFront}
use Rattle.hyd_cert.specs.Lines.{IsHeadLine}
use Rattle.hyd_cert.specs.PlacesOfLines.{front_at}
use Rattle.hyd_cert.specs.Faults.{IsLineFault}
use Rattle.hyd_cert.proofs.HeadLemmas.{stored, text_more, box_more}
use Rattle.hyd_open_certificates.specs.OpenTexts.{AreHeads}
use Rattle.hyd_open_certificates.specs.OpenFaults.{IsWrongLine}
use Rattle.hyd_open_certificates.proofs.HeadsOfRecord.{heads_stuck}
use Rattle.hyd_open_certificates.proofs.lines_of_text.Lines.heads.Goals as goal

pub returns-in_err-head-clause-fault : goal.returns-in_err-head-clause-fault
returns-in_err-head-clause-fault g c =
    let p = err_from_is_err_and c.from_residual.result c.from_residual.ensures.1 in
    rw (p.1, p.2) (subst (λ (n : ℕ). IsWrongLine (IsFaultAtFront (AreHeads c.args.junctions 0 n)) c.args.self.now.line
    (prepend_known c.args.self.now.source (g.D.Desk.rest c.args.desk.now)) (g.D.Desk.counts c.args.desk.now)
    (g.D.Desk.counts c.head.new.desk) c.in_err-head.field-0.0) c.loop-i.auto.into
    (heads_stuck c.args.junctions c.loop-i.into c.loop-i.i c.args.self.now.line c.loop-i.self.line
    (prepend_known c.args.self.now.source (g.D.Desk.rest c.args.desk.now))
    (prepend_known c.loop-i.self.source (g.D.Desk.rest c.loop-i.desk)) (g.D.Desk.counts c.args.desk.now)
    (g.D.Desk.counts c.loop-i.desk) (g.D.Desk.counts c.head.new.desk) c.in_err-head.field-0.0 (omega arith)
    c.loop-i.invariant.in_box c.loop-i.invariant.text c.loop-i.invariant.line c.loop-i.invariant.steady
    (subst (λ (f : List ℕ). IsLineFault (IsHeadLine f) c.loop-i.self.line
    (prepend_known c.loop-i.self.source (g.D.Desk.rest c.loop-i.desk)) (g.D.Desk.counts c.loop-i.desk)
    (g.D.Desk.counts c.head.new.desk) c.in_err-head.field-0.0) c.front_of.ensures c.in_err-head.ensures.fault)))

pub loop-i-preserved : goal.loop-i-preserved
loop-i-preserved g c =
    let read : prepend_known c.loop-i.self.source (g.D.Desk.rest c.loop-i.desk)
    ≡ prepend_known (front_at c.args.junctions c.loop-i.i ++ (signed_decimal c.in_ok-head.head ++ (10 ∷ [])))
    (prepend_known c.head.new.self.source (g.D.Desk.rest c.head.new.desk)) =
    c.in_ok-head.ensures.text ∙ ap (λ (f : List ℕ). prepend_known (f ++ (signed_decimal c.in_ok-head.head ++ (10 ∷ [])))
    (prepend_known c.head.new.self.source (g.D.Desk.rest c.head.new.desk))) c.front_of.ensures in
    let written : c.store.new.into ≡ slice_set c.loop-i.into c.loop-i.i c.in_ok-head.head = c.store.ensures
    ∙ stored c.loop-i.into c.loop-i.i c.in_ok-head.head c.in_ok-head.ensures.in_box in
    record {
      text = text_more c.args.junctions c.loop-i.i c.loop-i.into c.store.new.into c.in_ok-head.head
          (prepend_known c.args.self.now.source (g.D.Desk.rest c.args.desk.now))
          (prepend_known c.loop-i.self.source (g.D.Desk.rest c.loop-i.desk))
          (prepend_known c.head.new.self.source (g.D.Desk.rest c.head.new.desk)) (omega arith) written
          c.loop-i.invariant.text read;
      in_box = box_more c.loop-i.i c.loop-i.into c.store.new.into c.in_ok-head.head (omega arith) written
          c.loop-i.invariant.in_box c.in_ok-head.ensures.in_box;
      line = (let l = c.loop-i.invariant.line in let m = c.in_ok-head.ensures.line in omega (arith, l, m));
      steady = c.in_ok-head.ensures.steady ∙ c.loop-i.invariant.steady;
      stays = output_kept_then _ _ _ c.loop-i.invariant.stays c.in_ok-head.ensures.stays;
    }

pub returns-clause-in_box : goal.returns-clause-in_box
returns-clause-in_box g c = subst (All IsInBox) (take_all c.loop-i.i c.loop-i.into (omega arith))
    c.loop-i.invariant.in_box
