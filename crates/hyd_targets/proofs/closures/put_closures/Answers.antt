use Rattle.std.proofs.lemmas.Result.{err_from_is_err_and}
use Rattle.std.proofs.Common.{◌∙◌, ◌++◌, ◌∷◌, [], ℕ, ◌+◌, sym, ap, subst, refl, arith, append-nil, true, false}
use Rattle.std.proofs.Common.{length, take, List}
use Rattle.std.proofs.lemmas.List.{length-append, take_all}
use Rattle.std.specs.Prelude.{map, Ok}
use Rattle.std.specs.List.{AllZip}
use Rattle.hyd_io.specs.Output.{PenState}
use Rattle.hyd_io.specs.TextPutIn.{Puts}
use Rattle.hyd_io.proofs.PutLemmas.{puts_nothing, puts_then, puts_same}
use Rattle.hyd_lemmas.proofs.ListsOptionsAndResults.{join-more}
use Rattle.hyd_spec.specs.ProgramTypes.{Link}
use Rattle.hyd_spec.specs.Lists.{joined}
use Rattle.hyd_spec_reports.specs.ReportLine.{done_line}
use Rattle.hyd_spec_pressure_targets.specs.PromisesOfTargets.{IsClosure, closure_text}
use Rattle.hyd_targets.specs.declared.inquiry.Inquiry.{Inquiry}
use Rattle.hyd_targets.specs.Inquiries.{IsOpen, target_for}
use Rattle.hyd_targets.specs.ClosuresPutOut.{pipes_among}
use Rattle.hyd_targets.proofs.ClosuresOfPipes.{zipped-more, zipped-long, zipped-pipes, pipe-more, no-pipe-more}
use Rattle.hyd_targets.proofs.ClosuresOfPipes.{still-closure, on-ok-so, if-err-so}
use Rattle.hyd_targets.proofs.closures.put_closures.Goals.{then-is_pipe+in_ok-put_closure, else-is_pipe}
use Rattle.hyd_targets.proofs.closures.put_closures.Goals as goal

pub loop-link-init : goal.loop-link-init
loop-link-init g c = record {
  so_far = ([], (tt, (refl, puts_nothing _ _ c.requires.unbroken)));
  open_still = c.requires.open;
  pressure = refl;
  most = omega arith;
}

pub returns-in_err-put_closure-clause-cut_off : goal.returns-in_err-put_closure-clause-cut_off
returns-in_err-put_closure-clause-cut_off g c =
    let p = err_from_is_err_and c.from_residual.result c.from_residual.ensures.1 in
    rw (p.1, p.2) (let project = c.args.project.now in
    let target = target_for project c.args.inquiry.now in
    let rounds = c.args.rounds in
    let links = c.as_slice-links.result.now in
    let i = c.loop-link.link in
    let so = c.loop-link.invariant.so_far in
    let one = c.in_err-put_closure.ensures.puts in
    let closures = so.0 ++ (one.0 ∷ []) in
    let closure = still-closure project c.loop-link.inquiry c.args.inquiry.now rounds i one.0
    c.loop-link.invariant.pressure one.1.0 in
    let each = subst (λ (ps : List ℕ). AllZip (IsClosure project target rounds) ps closures)
    (sym (pipe-more links i c.index-links-link.result c.loop-link-test.true
    (sym c.is_pipe.ensures ∙ c.if-is_pipe.true)))
    (zipped-more (IsClosure project target rounds) (pipes_among (take i links)) so.0 i one.0 so.1.0 closure) in
    let first = subst (λ (ls : List Link). AllZip (IsClosure project target rounds)
    (take (length closures) (pipes_among ls)) closures) c.as_slice-links.ensures
    (zipped-pipes (IsClosure project target rounds) links (i + 1) closures each) in (
      joined (map (closure_text project) closures) ++ [],
      (
        record { closures = closures; each = first; is_whole = false; all = λ no. absurd (cc); is_text = refl },
        puts_same _ _ _ _ _ _ _ (sym (join-more (closure_text project) so.0 one.0) ∙ sym (append-nil _))
            (puts_then _ _ _ _ _ _ _ _ _ so.1.1.1 one.1.1),
      ),
    ))

pub loop-link-preserved : goal.loop-link-preserved
loop-link-preserved g c =
    let project = c.args.project.now in
    let target = target_for project c.args.inquiry.now in
    let rounds = c.args.rounds in
    let links = c.as_slice-links.result.now in
    let i = c.loop-link.link in
    let so = c.loop-link.invariant.so_far in
    let most = c.loop-link.invariant.most in
    elim c.if-is_pipe.branch [
      | then-is_pipe+in_ok-put_closure w ↦
          let one = w.in_ok-put_closure.ensures.puts in
          let closures = so.0 ++ (one.0 ∷ []) in
          let closure = still-closure project c.loop-link.inquiry c.args.inquiry.now rounds i one.0
          c.loop-link.invariant.pressure one.1.0 in
          let each = subst (λ (ps : List ℕ). AllZip (IsClosure project target rounds) ps closures)
          (sym (pipe-more links i c.index-links-link.result c.loop-link-test.true
          (sym c.is_pipe.ensures ∙ w.if-is_pipe.true)))
          (zipped-more (IsClosure project target rounds) (pipes_among (take i links)) so.0 i one.0 so.1.0 closure) in
          let counted = w.count-is in
          let puts = puts_same _ _ _ _ _ _ _ (sym (join-more (closure_text project) so.0 one.0))
          (puts_then _ _ _ _ _ _ _ _ _ so.1.1.1 one.1.1) in
          record {
            so_far = (
              closures,
              (
                each,
                (
                  counted ∙ (ap (λ (n : ℕ). n + 1) so.1.1.0 ∙ sym (length-append so.0 (one.0 ∷ []))),
                  subst (λ (pen : PenState). Puts g.D.Desk.files g.D.Desk.rest g.D.Desk.written g.D.Desk.printed
                      g.D.Desk.target g.D.Desk.ready g.D.Desk.counts g.D.Desk.openings
                      (joined (map (closure_text project) closures)) (Ok tt) c.args.pen.now pen c.args.desk.now
                      c.if-is_pipe.desk) (sym w.pen-is)
                      (subst (λ (desk : g.row.D.Denot). Puts g.D.Desk.files g.D.Desk.rest g.D.Desk.written
                      g.D.Desk.printed g.D.Desk.target g.D.Desk.ready g.D.Desk.counts g.D.Desk.openings
                      (joined (map (closure_text project) closures)) (Ok tt) c.args.pen.now w.put_closure.new.pen
                      c.args.desk.now desk) (sym w.desk-is) puts),
                ),
              ),
            );
            open_still = subst (IsOpen project) (sym w.inquiry-is) w.in_ok-put_closure.ensures.open;
            pressure = ap (λ (inquiry : Inquiry). inquiry.pressure) w.inquiry-is
                ∙ (w.in_ok-put_closure.ensures.pressure ∙ c.loop-link.invariant.pressure);
            most = omega (arith, counted, most);
          }
      | else-is_pipe w ↦
          let counted = w.count-is in
          record {
            so_far = (
              so.0,
              (
                subst (λ (ps : List ℕ). AllZip (IsClosure project target rounds) ps so.0)
                    (sym (no-pipe-more links i c.index-links-link.result c.loop-link-test.true
                    (sym c.is_pipe.ensures ∙ w.if-is_pipe.false))) so.1.0,
                (
                  counted ∙ so.1.1.0,
                  subst (λ (pen : PenState). Puts g.D.Desk.files g.D.Desk.rest g.D.Desk.written g.D.Desk.printed
                      g.D.Desk.target g.D.Desk.ready g.D.Desk.counts g.D.Desk.openings
                      (joined (map (closure_text project) so.0)) (Ok tt) c.args.pen.now pen c.args.desk.now
                      c.if-is_pipe.desk) (sym w.pen-is)
                      (subst (λ (desk : g.row.D.Denot). Puts g.D.Desk.files g.D.Desk.rest g.D.Desk.written
                      g.D.Desk.printed g.D.Desk.target g.D.Desk.ready g.D.Desk.counts g.D.Desk.openings
                      (joined (map (closure_text project) so.0)) (Ok tt) c.args.pen.now c.loop-link.pen
                      c.args.desk.now desk) (sym w.desk-is) so.1.1.1),
                ),
              ),
            );
            open_still = subst (IsOpen project) (sym w.inquiry-is) c.loop-link.invariant.open_still;
            pressure = ap (λ (inquiry : Inquiry). inquiry.pressure) w.inquiry-is
                ∙ c.loop-link.invariant.pressure;
            most = omega (arith, counted, most);
          }
    ]

pub returns-clause-whole : goal.returns-clause-whole
returns-clause-whole g c =
    let project = c.args.project.now in
    let target = target_for project c.args.inquiry.now in
    let rounds = c.args.rounds in
    let links = c.as_slice-links.result.now in
    let i = c.loop-link.link in
    let so = c.loop-link.invariant.so_far in
    let end = c.loop-link-test.false in
    let each = subst (λ (ls : List Link). AllZip (IsClosure project target rounds) (pipes_among ls) so.0)
    (take_all i links (omega (arith, end)) ∙ c.as_slice-links.ensures) so.1.0 in
    on-ok-so _ c.put_done.result (
      joined (map (closure_text project) so.0) ++ done_line (length so.0),
      (
        record { closures = so.0; each = each; is_text = refl },
        puts_same _ _ _ _ _ _ _
            (ap (λ (n : ℕ). joined (map (closure_text project) so.0) ++ done_line n) so.1.1.0)
            (puts_then _ _ _ _ _ _ _ _ _ so.1.1.1 c.put_done.ensures),
      ),
    )

pub returns-clause-cut_off : goal.returns-clause-cut_off
returns-clause-cut_off g c =
    let project = c.args.project.now in
    let target = target_for project c.args.inquiry.now in
    let rounds = c.args.rounds in
    let links = c.as_slice-links.result.now in
    let i = c.loop-link.link in
    let so = c.loop-link.invariant.so_far in
    let end = c.loop-link-test.false in
    let each = subst (λ (ls : List Link). AllZip (IsClosure project target rounds) (pipes_among ls) so.0)
    (take_all i links (omega (arith, end)) ∙ c.as_slice-links.ensures) so.1.0 in
    let long = zipped-long (IsClosure project target rounds) (pipes_among project.links.list) so.0 each in
    let first = subst (λ (ps : List ℕ). AllZip (IsClosure project target rounds) ps so.0)
    (sym (take_all (length so.0) (pipes_among project.links.list) (omega (arith, long)))) each in
    if-err-so _ c.put_done.result (
      joined (map (closure_text project) so.0) ++ done_line (length so.0),
      (
        record { closures = so.0; each = first; is_whole = true; all = λ _. long; is_text = refl },
        puts_same _ _ _ _ _ _ _
            (ap (λ (n : ℕ). joined (map (closure_text project) so.0) ++ done_line n) so.1.1.0)
            (puts_then _ _ _ _ _ _ _ _ _ so.1.1.1 c.put_done.ensures),
      ),
    )
