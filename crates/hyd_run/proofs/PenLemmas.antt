-- How texts that are put in at two pens follow one another.
use Rattle.std.proofs.Common.{◌≡◌, ℕ, Bool, List, [], ◌++◌, Option, refl, sym, ap, subst, ◌∙◌, append-nil}
use Rattle.std.proofs.Common.{append_assoc, ◌⊎◌, inl, inr}
use Rattle.std.specs.Prelude.{Result, Ok, Err, IsTrue, OnOk, OnErr}
use Rattle.hyd_io.specs.declared.desk.Faults.{Faults}
use Rattle.hyd_io.specs.declared.desk.Openings.{Openings}
use Rattle.hyd_io.specs.declared.output.OutFault.{OutFault}
use Rattle.hyd_io.specs.declared.output.Channel.{Channel}
use Rattle.hyd_io.specs.declared.output.Channel.TheVariants.{Cert, Report}
use Rattle.hyd_io.specs.DeskBytes.{Files, Moves, PutOut, append_known}
use Rattle.hyd_io.specs.Output.{by_channel, OnCert, HasOutCause, PenState}
use Rattle.hyd_io.proofs.MovedBytesLemmas.{moves_then, moves_all, append_known-nil, append_known-append_known}
use Rattle.hyd_io.proofs.PutLemmas.{on-report}
use Rattle.hyd_io.specs.TextPutIn.{Puts}
use Rattle.hyd_run.specs.Pens.{Told, told, RunMoment, moment, AreOpen, LeavesRest, PutIn, IsCutOff, PutsIn}
use Rattle.hyd_run.specs.Pens.{IsCutInOrder, PutsInOrder, IsCutAtEnd, PutsLast}

-- whatever the channel
pub on_any : (to : Channel) (P : Type 0) → P → OnCert to P
on_any Cert P p = p
on_any Report P p = tt

first-moves : (to : Channel) (w p w' p' : Option (List ℕ)) (all held : List ℕ) → to ≡ Cert
    → Moves (by_channel to w p) (by_channel to w' p') all held → Moves w w' all held
first-moves to w p w' p' all held e m = subst (λ (c : Channel). Moves (by_channel c w p) (by_channel c w' p') all
    held) e m

pub second-moves : (to : Channel) (w p w' p' : Option (List ℕ)) (all held : List ℕ) → to ≡ Report
    → Moves (by_channel to w p) (by_channel to w' p') all held → Moves p p' all held
second-moves to w p w' p' all held e m = subst (λ (c : Channel). Moves (by_channel c w p) (by_channel c w' p') all
    held) e m

pub first-out : (to : Channel) (w p w' p' : Option (List ℕ)) (all : List ℕ) → to ≡ Cert
    → PutOut (by_channel to w p) (by_channel to w' p') all → PutOut w w' all
first-out to w p w' p' all e m = subst (λ (c : Channel). PutOut (by_channel c w p) (by_channel c w' p') all) e m

pub second-out : (to : Channel) (w p w' p' : Option (List ℕ)) (all : List ℕ) → to ≡ Report
    → PutOut (by_channel to w p) (by_channel to w' p') all → PutOut p p' all
second-out to w p w' p' all e m = subst (λ (c : Channel). PutOut (by_channel c w p) (by_channel c w' p') all) e m

pub on-cert : (to : Channel) (P : Type 0) → to ≡ Cert → OnCert to P → P
on-cert to P e on = subst (λ (c : Channel). OnCert c P) e on

moves-same : (w w' x : Option (List ℕ)) (all held : List ℕ) → x ≡ w' → Moves w w' all held → Moves w x all held
moves-same w w' x all held e m = subst (λ (o : Option (List ℕ)). Moves w o all held) (sym e) m

moves-from : (w x w' : Option (List ℕ)) (all held : List ℕ) → x ≡ w → Moves x w' all held → Moves w w' all held
moves-from w x w' all held e m = subst (λ (o : Option (List ℕ)). Moves o w' all held) e m

out-from : (w x w' : Option (List ℕ)) (all : List ℕ) → x ≡ w → PutOut x w' all → PutOut w w' all
out-from w x w' all e m = subst (λ (o : Option (List ℕ)). PutOut o w' all) e m

-- where nothing is held back, all went out
front-whole : (w w' : Option (List ℕ)) (all held : List ℕ) → held ≡ [] → (m : Moves w w' all held) → m.front ≡ all
front-whole w w' all held e m = sym (append-nil m.front) ∙ (ap (λ (xs : List ℕ). m.front ++ xs) (sym e) ∙ sym m.whole)

pub leaves-then : (a b d : Told) → LeavesRest a b → LeavesRest b d → LeavesRest a d
leaves-then a b d first second = record {
  others = λ other apart. second.others other (λ same. apart (sym first.target_stays ∙ same)) ∙ first.others other
      apart;
  still_told = second.still_told ∙ first.still_told;
  rest_stays = second.rest_stays ∙ first.rest_stays;
  target_stays = second.target_stays ∙ first.target_stays;
  ready_stays = second.ready_stays ∙ first.ready_stays;
  openings_stay = second.openings_stay ∙ first.openings_stay;
}

module _ {S : Type 0} {files : S → Option Files} {rest written printed target : S → Option (List ℕ)} {ready : S
    → Bool}
    {counts : S → Faults} {openings : S → Openings} where
  pub leaves-puts : (text : List ℕ) (result : Result (Unit {0}) OutFault) (p q : PenState) (d e : S)
      → Puts files rest written printed target ready counts openings text result p q d e
      → LeavesRest (told files rest written printed target ready counts openings d)
      (told files rest written printed target ready counts openings e)
  leaves-puts text result p q d e puts = record {
    others = puts.others;
    still_told = puts.still_told;
    rest_stays = puts.rest_stays;
    target_stays = puts.target_stays;
    ready_stays = puts.ready_stays;
    openings_stay = puts.openings_stay;
  }

  -- what was put in at the certificate's pen is when the report's text is put in
  still-written : (a b : List ℕ) (result : Result (Unit {0}) OutFault) (c c' r r' : PenState) (d e f : S)
      → AreOpen (moment c r (told files rest written printed target ready counts openings d))
      → Puts files rest written printed target ready counts openings a (Ok (tt {0})) c c' d e
      → Puts files rest written printed target ready counts openings b result r r' e f
      → Moves (written d) (written f) (c.held ++ a) c'.held
  still-written a b result c c' r r' d e f unbroken first second =
      moves-same (written d) (written e) (written f) (c.held ++ a) c'.held
      (on-report r.to (written f ≡ written e) unbroken.report_to second.report_written)
      (first-moves c.to (written d) (printed d) (written e) (printed e) (c.held ++ a) c'.held
      unbroken.certificate_to first.moves)

  -- the certificate's text was put in and the report's cut off
  abbrev second-cut-off : (a b : List ℕ) (why : OutFault) (c c' r r' : PenState) (d e f : S)
      → AreOpen (moment c r (told files rest written printed target ready counts openings d))
      → Puts files rest written printed target ready counts openings a (Ok (tt {0})) c c' d e
      → Puts files rest written printed target ready counts openings b (Err why) r r' e f
      → Moves (written d) (written f) (c.held ++ a) c'.held
      → IsCutOff why a b (moment c r (told files rest written printed target ready counts openings d)) (moment c' r'
      (told files rest written printed target ready counts openings f))
  second-cut-off a b why c c' r r' d e f unbroken first second went = record {
    written = (c'.held, went);
    printed = out-from (printed d) (printed e) (printed f) (r.held ++ b)
        (on-cert c.to (printed e ≡ printed d) unbroken.certificate_to first.cert_printed)
        (second-out r.to (written e) (printed e) (written f) (printed f) (r.held ++ b) unbroken.report_to
        second.front);
    rose = inr (subst (λ (k : Channel). HasOutCause k why (counts d) (counts f)) unbroken.report_to
        (subst (λ (k : Faults). HasOutCause r.to why k (counts f)) first.steady (second.cause
        unbroken.report_fault)));
    leaves = leaves-then _ _ _ (leaves-puts a (Ok (tt {0})) c c' d e first) (leaves-puts b (Err why) r r' e f second);
  }

  -- a text at the certificate's pen, and then one at the report's
  pub both-put : (a b : List ℕ) (result : Result (Unit {0}) OutFault) (c c' r r' : PenState) (d e f : S)
      → AreOpen (moment c r (told files rest written printed target ready counts openings d))
      → Puts files rest written printed target ready counts openings a (Ok (tt {0})) c c' d e
      → Puts files rest written printed target ready counts openings b result r r' e f
      → PutsIn a b result (moment c r (told files rest written printed target ready counts openings d)) (moment c'
      r' (told files rest written printed target ready counts openings f))
  both-put a b (Ok done) c c' r r' d e f unbroken first second = record {
    written = still-written a b (Ok done) c c' r r' d e f unbroken first second;
    printed = moves-from (printed d) (printed e) (printed f) (r.held ++ b) r'.held
        (on-cert c.to (printed e ≡ printed d) unbroken.certificate_to first.cert_printed)
        (second-moves r.to (written e) (printed e) (written f) (printed f) (r.held ++ b) r'.held unbroken.report_to
        second.moves);
    unbroken = record {
      certificate_to = first.to_stays ∙ unbroken.certificate_to;
      certificate_fault = first.no_fault;
      report_to = second.to_stays ∙ unbroken.report_to;
      report_fault = second.no_fault;
      ready = subst (λ (b : Bool). IsTrue b) (sym (second.ready_stays ∙ first.ready_stays)) unbroken.ready;
    };
    steady = second.steady ∙ first.steady;
    leaves = leaves-then _ _ _ (leaves-puts a (Ok (tt {0})) c c' d e first) (leaves-puts b (Ok done) r r' e f second);
  }
  both-put a b (Err why) c c' r r' d e f unbroken first second =
      second-cut-off a b why c c' r r' d e f unbroken first second
      (still-written a b (Err why) c c' r r' d e f unbroken first second)

  -- in that order
  pub both-put-in-order : (a b : List ℕ) (result : Result (Unit {0}) OutFault) (c c' r r' : PenState) (d e f : S)
      → AreOpen (moment c r (told files rest written printed target ready counts openings d))
      → Puts files rest written printed target ready counts openings a (Ok (tt {0})) c c' d e
      → Puts files rest written printed target ready counts openings b result r r' e f
      → PutsInOrder a b result (moment c r (told files rest written printed target ready counts openings d)) (moment c'
      r' (told files rest written printed target ready counts openings f))
  both-put-in-order a b (Ok done) c c' r r' d e f unbroken first second =
      both-put a b (Ok done) c c' r r' d e f unbroken first second
  both-put-in-order a b (Err why) c c' r r' d e f unbroken first second = record {
    cut_off = second-cut-off a b why c c' r r' d e f unbroken first second
        (still-written a b (Err why) c c' r r' d e f unbroken first second);
    in_order = inr refl;
  }

  -- the last texts, where the first pen was emptied before the second one
  pub both-put-last : (a b : List ℕ) (result : Result (Unit {0}) OutFault) (c c' r r' : PenState) (d e f : S)
      → AreOpen (moment c r (told files rest written printed target ready counts openings d))
      → Puts files rest written printed target ready counts openings a (Ok (tt {0})) c c' d e → c'.held ≡ []
      → Puts files rest written printed target ready counts openings b result r r' e f
      → PutsLast a b result (moment c r (told files rest written printed target ready counts openings d)) (moment c'
      r' (told files rest written printed target ready counts openings f))
  both-put-last a b (Ok done) c c' r r' d e f unbroken first none second =
      (both-put a b (Ok done) c c' r r' d e f unbroken first second, none)
  both-put-last a b (Err why) c c' r r' d e f unbroken first none second =
      let went : Moves (written d) (written f) (c.held ++ a) c'.held =
      still-written a b (Err why) c c' r r' d e f unbroken first second in
      record {
        cut_off = second-cut-off a b why c c' r r' d e f unbroken first second went;
        in_order = inr (front-whole (written d) (written f) (c.held ++ a) c'.held none went);
      }

  -- the text at the certificate's pen was cut off, and the report's isn't begun
  abbrev pub first-cut-off : (a b : List ℕ) (why : OutFault) (c c' r : PenState) (d e : S)
      → AreOpen (moment c r (told files rest written printed target ready counts openings d))
      → Puts files rest written printed target ready counts openings a (Err why) c c' d e
      → IsCutOff why a b (moment c r (told files rest written printed target ready counts openings d)) (moment c' r
      (told files rest written printed target ready counts openings e))
  first-cut-off a b why c c' r d e unbroken first = record {
    written = first-out c.to (written d) (printed d) (written e) (printed e) (c.held ++ a) unbroken.certificate_to
        first.front;
    printed = (
      r.held ++ b,
      record {
        front = [];
        whole = refl;
        out = on-cert c.to (printed e ≡ printed d) unbroken.certificate_to first.cert_printed
            ∙ sym (append_known-nil (printed d));
      },
    );
    rose = inl (subst (λ (k : Channel). HasOutCause k why (counts d) (counts e)) unbroken.certificate_to
        (first.cause unbroken.certificate_fault));
    leaves = leaves-puts a (Err why) c c' d e first;
  }

  -- then nothing of the report's goes out
  pub cut-off-in-order : (a b : List ℕ) (why : OutFault) (c c' r : PenState) (d e : S)
      → AreOpen (moment c r (told files rest written printed target ready counts openings d))
      → Puts files rest written printed target ready counts openings a (Err why) c c' d e
      → IsCutInOrder why a b (moment c r (told files rest written printed target ready counts openings d)) (moment c' r
      (told files rest written printed target ready counts openings e))
  cut-off-in-order a b why c c' r d e unbroken first =
      record { cut_off = first-cut-off a b why c c' r d e unbroken first; in_order = inl refl }

  pub cut-off-at-end : (a b : List ℕ) (why : OutFault) (c c' r : PenState) (d e : S)
      → AreOpen (moment c r (told files rest written printed target ready counts openings d))
      → Puts files rest written printed target ready counts openings a (Err why) c c' d e
      → IsCutAtEnd why a b (moment c r (told files rest written printed target ready counts openings d)) (moment c' r
      (told files rest written printed target ready counts openings e))
  cut-off-at-end a b why c c' r d e unbroken first =
      record { cut_off = first-cut-off a b why c c' r d e unbroken first; in_order = inl refl }

-- one pair of texts and then another
pub put-then : (a b a' b' : List ℕ) (m n o : RunMoment) → PutIn a b m n → PutIn a' b' n o
    → PutIn (a ++ a') (b ++ b') m o
put-then a b a' b' m n o first second = record {
  written = subst (λ (all : List ℕ). Moves m.told.written o.told.written all o.certificate.held)
      (append_assoc m.certificate.held a a')
      (moves_then m.told.written n.told.written o.told.written (m.certificate.held ++ a) n.certificate.held a'
      o.certificate.held
      first.written second.written);
  printed = subst (λ (all : List ℕ). Moves m.told.printed o.told.printed all o.report.held)
      (append_assoc m.report.held b b')
      (moves_then m.told.printed n.told.printed o.told.printed (m.report.held ++ b) n.report.held b' o.report.held
      first.printed second.printed);
  unbroken = second.unbroken;
  steady = second.steady ∙ first.steady;
  leaves = leaves-then m.told n.told o.told first.leaves second.leaves;
}

-- what went out of what was held and of two texts
pub whole-then : (held a a' front between front' left : List ℕ) → held ++ a ≡ front ++ between
    → between ++ a' ≡ front' ++ left → held ++ (a ++ a') ≡ (front ++ front') ++ left
whole-then held a a' front between front' left e f =
    sym (append_assoc held a a')
    ∙ (ap (λ (xs : List ℕ). xs ++ a') e
    ∙ (append_assoc front between a'
    ∙ (ap (λ (xs : List ℕ). front ++ xs) f ∙ sym (append_assoc front front' left))))

pub out-then : (w w' w'' : Option (List ℕ)) (front front' : List ℕ) → w' ≡ append_known w front
    → w'' ≡ append_known w' front' → w'' ≡ append_known w (front ++ front')
out-then w w' w'' front front' e f =
    f ∙ (ap (λ (o : Option (List ℕ)). append_known o front') e ∙ append_known-append_known w front front')

pub rose-then : (why : OutFault) (f g h : Faults) → g ≡ f → (HasOutCause Cert why g h ⊎ HasOutCause Report why g h)
    → HasOutCause Cert why f h ⊎ HasOutCause Report why f h
rose-then why f g h e (inl x) = inl (subst (λ (k : Faults). HasOutCause Cert why k h) e x)
rose-then why f g h e (inr x) = inr (subst (λ (k : Faults). HasOutCause Report why k h) e x)

-- the second pair was cut off
abbrev pub cut-off-then : (why : OutFault) (a b a' b' : List ℕ) (m n o : RunMoment) → PutIn a b m n
    → IsCutOff why a' b' n o → IsCutOff why (a ++ a') (b ++ b') m o
cut-off-then why a b a' b' m n o first second = record {
  written = (
    second.written.0,
    record {
      front = first.written.front ++ second.written.1.front;
      whole = whole-then m.certificate.held a a' first.written.front n.certificate.held second.written.1.front
          second.written.0 first.written.whole second.written.1.whole;
      out = out-then m.told.written n.told.written o.told.written first.written.front second.written.1.front
          first.written.out second.written.1.out;
    },
  );
  printed = (
    second.printed.0,
    record {
      front = first.printed.front ++ second.printed.1.front;
      whole = whole-then m.report.held b b' first.printed.front n.report.held second.printed.1.front
          second.printed.0 first.printed.whole second.printed.1.whole;
      out = out-then m.told.printed n.told.printed o.told.printed first.printed.front second.printed.1.front
          first.printed.out second.printed.1.out;
    },
  );
  rose = rose-then why m.told.counts n.told.counts o.told.counts first.steady second.rose;
  leaves = leaves-then m.told n.told o.told first.leaves second.leaves;
}

-- ---- pens that are emptied

pub flush-moves : (result : Result (Unit {0}) OutFault) (w w' : Option (List ℕ)) (h h' : List ℕ)
    → OnOk result (w' ≡ append_known w h)
    → OnOk result (h' ≡ []) → OnOk result (Moves w w' (h ++ []) h')
flush-moves (Ok done) w w' h h' e f =
    subst (λ (y : List ℕ). Moves w w' (h ++ []) y) (sym f)
    (subst (λ (x : List ℕ). Moves w w' x []) (sym (append-nil h)) (moves_all w w' h e))
flush-moves (Err why) w w' h h' e f = tt

pub flush-front : (result : Result (Unit {0}) OutFault) (w w' : Option (List ℕ)) (h : List ℕ)
    → OnErr result (PutOut w w' h)
    → OnErr result (PutOut w w' (h ++ []))
flush-front (Ok done) w w' h cut_off = tt
flush-front (Err why) w w' h cut_off = subst (PutOut w w') (sym (append-nil h)) cut_off
