-- How texts that are put in follow one another.
use Rattle.std.proofs.Common.{◌≡◌, ℕ, Bool, List, [], ◌++◌, Option, Some, None, refl, sym, subst, ◌∙◌, append-nil}
use Rattle.std.proofs.Common.{append_assoc}
use Rattle.std.specs.Prelude.{Result, Ok, Err, IfSome, IsSome, IsTrue}
use Rattle.hyd_io.specs.declared.desk.Faults.{Faults}
use Rattle.hyd_io.specs.declared.desk.Openings.{Openings}
use Rattle.hyd_io.specs.declared.output.OutFault.{OutFault}
use Rattle.hyd_io.specs.declared.output.Channel.{Channel}
use Rattle.hyd_io.specs.declared.output.Channel.TheVariants.{Report}
use Rattle.hyd_io.specs.DeskBytes.{Files, Moves, PutOut}
use Rattle.hyd_io.specs.DeskCounts.{NeverFall}
use Rattle.hyd_io.specs.Output.{by_channel, OnCert, OnReport, HasOutCause, PenState}
use Rattle.hyd_io.proofs.MovedBytesLemmas.{moves_then, put_out_then, put_out_more, moves_nothing}
use Rattle.hyd_io.proofs.LeftAsItWasLemmas.{on_report_then, on_cert_then, never_fall_stays, on_report_stays}
use Rattle.hyd_io.proofs.LeftAsItWasLemmas.{on_cert_stays}
use Rattle.hyd_io.specs.TextPutIn.{Puts}

-- what is said of the report's channel, at that channel
pub on-report : (to : Channel) (P : Type 0) → to ≡ Report → OnReport to P → P
on-report to P e on = subst (λ (c : Channel). OnReport c P) e on

no_such : (o : Option OutFault) → IfSome o (λ fault. Ok (tt {0}) ≡ Err fault) → o ≡ None
no_such None again = refl
no_such (Some why) again = absurd (let e : Ok (tt {0}) ≡ Err why = again in cc)

again_then : (o : Option OutFault) (result : Result (Unit {0}) OutFault) → o ≡ None → IfSome o (λ fault. result
    ≡ Err fault)
again_then o result none = subst (λ (f : Option OutFault). IfSome f (λ fault. result ≡ Err fault)) (sym none) tt

nothing_then : {P : Type 0} (o : Option OutFault) → o ≡ None → IsSome o → P
nothing_then None none some = absurd (cc)
nothing_then (Some why) none some = absurd (cc)

cause_on : (why : OutFault) (p q : Channel) (a b d : Faults) → q ≡ p → b ≡ a → HasOutCause q why b d
    → HasOutCause p why a d
cause_on why p q a b d same steady cause =
    subst (λ (c : Channel). HasOutCause c why a d) same (subst (λ (f : Faults). HasOutCause q why f d) steady cause)

never_fall_on : (a b d : Faults) → b ≡ a → NeverFall b d → NeverFall a d
never_fall_on a b d steady never = subst (λ (f : Faults). NeverFall f d) steady never

module _ {S : Type 0} {files : S → Option Files} {rest written printed target : S → Option (List ℕ)} {ready : S → Bool}
    {counts : S → Faults} {openings : S → Openings} where
  -- nothing was put in at a pen without a fault
  pub puts_nothing : (pen : PenState) (desk : S) → pen.fault ≡ None → Puts files rest written printed target ready
      counts openings [] (Ok (tt {0})) pen pen desk desk
  puts_nothing pen desk unbroken = record {
    moves = subst (λ (all : List ℕ). Moves (by_channel pen.to (written desk) (printed desk)) (by_channel pen.to
        (written desk) (printed desk)) all pen.held)
        (sym (append-nil pen.held)) (moves_nothing (by_channel pen.to (written desk) (printed desk)) pen.held);
    front = tt;
    to_stays = refl;
    no_fault = unbroken;
    keeps_fault = tt;
    again = subst (λ (f : Option OutFault). IfSome f (λ fault. Ok (tt {0}) ≡ Err fault)) (sym unbroken) tt;
    does_nothing = λ broken. (refl, refl);
    cause = λ e. tt;
    steady = refl;
    never_fall = never_fall_stays (counts desk);
    report_files = on_report_stays pen.to (files desk);
    report_written = on_report_stays pen.to (written desk);
    cert_printed = on_cert_stays pen.to (printed desk);
    others = λ other apart. refl;
    still_told = refl;
    rest_stays = refl;
    target_stays = refl;
    ready_stays = refl;
    openings_stay = refl;
  }

  moves_on : (a b : List ℕ) (p q r : PenState) (d e f : S) → Puts files rest written printed target ready counts
      openings a (Ok (tt {0})) p q d e
      → Moves (by_channel q.to (written e) (printed e)) (by_channel q.to (written f) (printed f)) (q.held ++ b) r.held
      → Moves (by_channel p.to (written d) (printed d)) (by_channel p.to (written f) (printed f)) (p.held ++
      (a ++ b)) r.held
  moves_on a b p q r d e f first second =
      subst (λ (all : List ℕ). Moves (by_channel p.to (written d) (printed d)) (by_channel p.to (written f)
      (printed f)) all r.held)
      (append_assoc p.held a b)
      (moves_then (by_channel p.to (written d) (printed d)) (by_channel p.to (written e) (printed e)) (by_channel p.to
      (written f) (printed f))
      (p.held ++ a) q.held b r.held first.moves
      (subst (λ (c : Channel). Moves (by_channel c (written e) (printed e)) (by_channel c (written f) (printed f))
      (q.held ++ b) r.held) first.to_stays second))

  cut_off_on : (a b : List ℕ) (p q : PenState) (d e f : S) → Puts files rest written printed target ready counts
      openings a (Ok (tt {0})) p q d e
      → PutOut (by_channel q.to (written e) (printed e)) (by_channel q.to (written f) (printed f)) (q.held ++ b)
      → PutOut (by_channel p.to (written d) (printed d)) (by_channel p.to (written f) (printed f)) (p.held ++ (a ++ b))
  cut_off_on a b p q d e f first second =
      subst (PutOut (by_channel p.to (written d) (printed d)) (by_channel p.to (written f) (printed f)))
      (append_assoc p.held a b)
      (put_out_then (by_channel p.to (written d) (printed d)) (by_channel p.to (written e) (printed e))
      (by_channel p.to (written f) (printed f))
      (p.held ++ a) q.held b first.moves
      (subst (λ (c : Channel). PutOut (by_channel c (written e) (printed e)) (by_channel c (written f) (printed f))
      (q.held ++ b)) first.to_stays second))

  -- one text and then another
  pub puts_then : (a b : List ℕ) (result : Result (Unit {0}) OutFault) (p q r : PenState) (d e f : S)
      → Puts files rest written printed target ready counts openings a (Ok (tt {0})) p q d e
      → Puts files rest written printed target ready counts openings b result q r e f
      → Puts files rest written printed target ready counts openings (a ++ b) result p r d f
  puts_then a b (Ok done) p q r d e f first second = record {
    moves = moves_on a b p q r d e f first second.moves;
    front = tt;
    to_stays = second.to_stays ∙ first.to_stays;
    no_fault = second.no_fault;
    keeps_fault = tt;
    again = again_then p.fault (Ok done) (no_such p.fault first.again);
    does_nothing = nothing_then p.fault (no_such p.fault first.again);
    cause = λ none. tt;
    steady = second.steady ∙ first.steady;
    never_fall = never_fall_on (counts d) (counts e) (counts f) first.steady second.never_fall;
    report_files = on_report_then p.to q.to (files d) (files e) (files f) first.to_stays first.report_files
        second.report_files;
    report_written = on_report_then p.to q.to (written d) (written e) (written f) first.to_stays first.report_written
        second.report_written;
    cert_printed = on_cert_then p.to q.to (printed d) (printed e) (printed f) first.to_stays first.cert_printed
        second.cert_printed;
    others = λ other apart. second.others other (λ same. apart (sym first.target_stays ∙ same))
        ∙ first.others other apart;
    still_told = second.still_told ∙ first.still_told;
    rest_stays = second.rest_stays ∙ first.rest_stays;
    target_stays = second.target_stays ∙ first.target_stays;
    ready_stays = second.ready_stays ∙ first.ready_stays;
    openings_stay = second.openings_stay ∙ first.openings_stay;
  }
  puts_then a b (Err why) p q r d e f first second = record {
    moves = tt;
    front = cut_off_on a b p q d e f first second.front;
    to_stays = second.to_stays ∙ first.to_stays;
    no_fault = tt;
    keeps_fault = second.keeps_fault;
    again = again_then p.fault (Err why) (no_such p.fault first.again);
    does_nothing = nothing_then p.fault (no_such p.fault first.again);
    cause = λ none. cause_on why p.to q.to (counts d) (counts e) (counts f) first.to_stays first.steady
        (second.cause first.no_fault);
    steady = tt;
    never_fall = never_fall_on (counts d) (counts e) (counts f) first.steady second.never_fall;
    report_files = on_report_then p.to q.to (files d) (files e) (files f) first.to_stays first.report_files
        second.report_files;
    report_written = on_report_then p.to q.to (written d) (written e) (written f) first.to_stays first.report_written
        second.report_written;
    cert_printed = on_cert_then p.to q.to (printed d) (printed e) (printed f) first.to_stays first.cert_printed
        second.cert_printed;
    others = λ other apart. second.others other (λ same. apart (sym first.target_stays ∙ same))
        ∙ first.others other apart;
    still_told = second.still_told ∙ first.still_told;
    rest_stays = second.rest_stays ∙ first.rest_stays;
    target_stays = second.target_stays ∙ first.target_stays;
    ready_stays = second.ready_stays ∙ first.ready_stays;
    openings_stay = second.openings_stay ∙ first.openings_stay;
  }

  -- after a fault what would have come next isn't put in either
  pub puts_cut_off : (a b : List ℕ) (why : OutFault) (p q : PenState) (d e : S)
      → Puts files rest written printed target ready counts openings a (Err why) p q d e
      → Puts files rest written printed target ready counts openings (a ++ b) (Err why) p q d e
  puts_cut_off a b why p q d e first = record {
    moves = tt;
    front = subst (PutOut (by_channel p.to (written d) (printed d)) (by_channel p.to (written e) (printed e)))
        (append_assoc p.held a b)
        (put_out_more (by_channel p.to (written d) (printed d)) (by_channel p.to (written e) (printed e))
        (p.held ++ a) b first.front);
    no_fault = tt;
    steady = tt;
    to_stays = first.to_stays;
    keeps_fault = first.keeps_fault;
    again = first.again;
    does_nothing = first.does_nothing;
    cause = first.cause;
    never_fall = first.never_fall;
    report_files = first.report_files;
    report_written = first.report_written;
    cert_printed = first.cert_printed;
    others = first.others;
    still_told = first.still_told;
    rest_stays = first.rest_stays;
    target_stays = first.target_stays;
    ready_stays = first.ready_stays;
    openings_stay = first.openings_stay;
  }

  -- the same text in other words
  pub puts_same : (a b : List ℕ) (result : Result (Unit {0}) OutFault) (p q : PenState) (d e : S) → a ≡ b
      → Puts files rest written printed target ready counts openings a result p q d e
      → Puts files rest written printed target ready counts openings b result p q d e
  puts_same a b result p q d e same first = subst (λ (text : List ℕ). Puts files rest written printed target ready
      counts openings text result p q d e) same first

  -- what is ready stays so
  pub puts_ready : (text : List ℕ) (result : Result (Unit {0}) OutFault) (p q : PenState) (d e : S)
      → Puts files rest written printed target ready counts openings text result p q d e
      → OnCert p.to (IsTrue (ready d)) → OnCert q.to (IsTrue (ready e))
  puts_ready text result p q d e first before =
      subst (λ (c : Channel). OnCert c (IsTrue (ready e))) (sym first.to_stays)
      (subst (λ (b : Bool). OnCert p.to (IsTrue b)) (sym first.ready_stays) before)
