-- How texts that are put in at the pen follow one another.
use Rattle.std.proofs.Common.{◌≡◌, ℕ, Bool, List, [], ◌++◌, Option, None, sym, ap, subst, ◌∙◌, append-nil, append_assoc}
use Rattle.std.specs.Prelude.{Result, Ok, Err}
use Rattle.hyd_io.specs.declared.desk.Faults.{Faults}
use Rattle.hyd_io.specs.declared.desk.Openings.{Openings}
use Rattle.hyd_io.specs.declared.output.OutFault.{OutFault}
use Rattle.hyd_io.specs.declared.output.Channel.{Channel}
use Rattle.hyd_io.specs.declared.output.Channel.TheVariants.{Report}
use Rattle.hyd_io.specs.DeskBytes.{Files, Moves, PutOut}
use Rattle.hyd_io.specs.Output.{OnCert, HasOutCause, PenState}
use Rattle.hyd_io.proofs.MovedBytesLemmas.{moves_then, put_out_then, put_out_nothing, moves_nothing}
use Rattle.hyd_cert.specs.ReaderView.{ReaderView}
use Rattle.hyd_io.specs.TextPutIn.{Puts}
use Rattle.hyd_run.specs.Pens.{Told, told}
use Rattle.hyd_cert_check.specs.ReaderAndPen.{CheckMoment, moment, new_pen, IsOpen, LeavesFiles, PutIn, IsCutOff, Rose}
use Rattle.hyd_cert_check.specs.declared.outcome.CheckFault.{CheckFault}
use Rattle.hyd_cert_check.specs.declared.outcome.CheckFault.TheVariants.{Output}
use Rattle.hyd_io.proofs.PutLemmas.{on-report}
use Rattle.hyd_run.proofs.PenLemmas.{second-out, second-moves}

-- ---- what one call puts in

-- nothing is asked of a pen on standard output
pub not_cert : (to : Channel) (P : Type 0) → to ≡ Report → OnCert to P
not_cert to P e = subst (λ (c : Channel). OnCert c P) (sym e) tt

module _ {S : Type 0} {files : S → Option Files} {rest written printed target : S → Option (List ℕ)} {ready : S
    → Bool}
    {counts : S → Faults} {openings : S → Openings} where
  leaves-puts : (text : List ℕ) (result : Result (Unit {0}) OutFault) (p q : PenState) (d e : S) → IsOpen p
      → Puts files rest written printed target ready counts openings text result p q d e
      → LeavesFiles (told files rest written printed target ready counts openings d)
      (told files rest written printed target ready counts openings e)
  leaves-puts text result p q d e is puts = record {
    files_stay = on-report p.to (files e ≡ files d) is.to puts.report_files;
    written_stays = on-report p.to (written e ≡ written d) is.to puts.report_written;
    target_stays = puts.target_stays;
    ready_stays = puts.ready_stays;
    openings_stay = puts.openings_stay;
  }

  pub put-in : (text : List ℕ) (r r' : ReaderView) (p q : PenState) (d e : S) → IsOpen p
      → Puts files rest written printed target ready counts openings text (Ok (tt {0})) p q d e
      → PutIn text (moment r p (told files rest written printed target ready counts openings d))
      (moment r' q (told files rest written printed target ready counts openings e))
  put-in text r r' p q d e is puts = record {
    printed = second-moves p.to (written d) (printed d) (written e) (printed e) (p.held ++ text) q.held is.to
        puts.moves;
    open_still = record { to = puts.to_stays ∙ is.to; no_fault = puts.no_fault };
    steady = puts.steady;
    leaves = leaves-puts text (Ok (tt {0})) p q d e is puts;
  }

  pub put-cut-off : (text : List ℕ) (why : OutFault) (r r' : ReaderView) (p q : PenState) (d e : S) → IsOpen p
      → Puts files rest written printed target ready counts openings text (Err why) p q d e
      → IsCutOff (Output why) text (moment r p (told files rest written printed target ready counts openings d))
      (moment r' q (told files rest written printed target ready counts openings e))
  put-cut-off text why r r' p q d e is puts = record {
    printed = second-out p.to (written d) (printed d) (written e) (printed e) (p.held ++ text) is.to puts.front;
    rose = subst (λ (k : Channel). HasOutCause k why (counts d) (counts e)) is.to (puts.cause is.no_fault);
    leaves = leaves-puts text (Err why) p q d e is puts;
  }

-- ---- one text after another

pub leaves-then : (a b d : Told) → LeavesFiles a b → LeavesFiles b d → LeavesFiles a d
leaves-then a b d first second = record {
  files_stay = second.files_stay ∙ first.files_stay;
  written_stays = second.written_stays ∙ first.written_stays;
  target_stays = second.target_stays ∙ first.target_stays;
  ready_stays = second.ready_stays ∙ first.ready_stays;
  openings_stay = second.openings_stay ∙ first.openings_stay;
}

pub put-then : (a b : List ℕ) (m n o : CheckMoment) → PutIn a m n → PutIn b n o → PutIn (a ++ b) m o
put-then a b m n o first second = record {
  printed = subst (λ (all : List ℕ). Moves m.told.printed o.told.printed all o.pen.held)
      (append_assoc m.pen.held a b)
      (moves_then m.told.printed n.told.printed o.told.printed (m.pen.held ++ a) n.pen.held b o.pen.held
      first.printed second.printed);
  open_still = second.open_still;
  steady = second.steady ∙ first.steady;
  leaves = leaves-then m.told n.told o.told first.leaves second.leaves;
}

-- the second text was cut off
pub cut-off-then : (why : CheckFault) (a b : List ℕ) (m n o : CheckMoment) → PutIn a m n → IsCutOff why b n o
    → IsCutOff why (a ++ b) m o
cut-off-then why a b m n o first second = record {
  printed = subst (PutOut m.told.printed o.told.printed) (append_assoc m.pen.held a b)
      (put_out_then m.told.printed n.told.printed o.told.printed (m.pen.held ++ a) n.pen.held b
      first.printed second.printed);
  rose = subst (λ (k : Faults). Rose why k o.told.counts) first.steady second.rose;
  leaves = leaves-then m.told n.told o.told first.leaves second.leaves;
}

pub put-as : (a b : List ℕ) (m n : CheckMoment) → a ≡ b → PutIn a m n → PutIn b m n
put-as a b m n e put = subst (λ (x : List ℕ). PutIn x m n) e put

pub cut-off-as : (why : CheckFault) (a b : List ℕ) (m n : CheckMoment) → a ≡ b → IsCutOff why a m n → IsCutOff why b m n
cut-off-as why a b m n e cut_off = subst (λ (x : List ℕ). IsCutOff why x m n) e cut_off

-- ---- nothing is put in

-- what is read leaves the pen as it was
pub read-puts : (m n : CheckMoment) → IsOpen m.pen → n.pen ≡ m.pen → n.told.printed ≡ m.told.printed
    → n.told.counts ≡ m.told.counts → LeavesFiles m.told n.told → PutIn [] m n
read-puts m n is pen printed steady leaves = record {
  printed = subst (λ (all : List ℕ). Moves m.told.printed n.told.printed all n.pen.held) (sym (append-nil m.pen.held))
      (subst (λ (held : List ℕ). Moves m.told.printed n.told.printed m.pen.held held) (sym (ap (λ (p : PenState).
      p.held) pen))
      (subst (λ (o : Option (List ℕ)). Moves m.told.printed o m.pen.held m.pen.held) (sym printed)
      (moves_nothing m.told.printed m.pen.held)));
  open_still = subst IsOpen (sym pen) is;
  steady = steady;
  leaves = leaves;
}

-- a read that fails too
pub read-cut-off : (why : CheckFault) (m n : CheckMoment) → n.told.printed ≡ m.told.printed
    → Rose why m.told.counts n.told.counts → LeavesFiles m.told n.told → IsCutOff why [] m n
read-cut-off why m n printed rose leaves = record {
  printed = subst (λ (o : Option (List ℕ)). PutOut m.told.printed o (m.pen.held ++ [])) (sym printed)
      (put_out_nothing m.told.printed (m.pen.held ++ []));
  rose = rose;
  leaves = leaves;
}

-- ---- a pen that is emptied

pub pen-new : (pen : PenState) → IsOpen pen → pen.held ≡ [] → pen ≡ new_pen
pen-new pen is empty =
    ap (λ (t : Channel). record { to = t; fault = pen.fault; held = pen.held }) is.to
    ∙ (ap (λ (x : Option OutFault). record { to = Report; fault = x; held = pen.held }) is.no_fault
    ∙ ap (λ (h : List ℕ). record { to = Report; fault = None; held = h }) empty)

pub new-open : (pen : PenState) → pen ≡ new_pen → IsOpen pen
new-open pen e = record { to = ap (λ (p : PenState). p.to) e; no_fault = ap (λ (p : PenState). p.fault) e }
