-- How texts that are put into a witness follow one another while a certificate is read.
use Rattle.std.proofs.Common.{◌≡◌, ℕ, Bool, List, [], ◌++◌, Option, sym, ap, subst, ◌∙◌, append-nil}
use Rattle.std.proofs.Common.{append_assoc}
use Rattle.std.specs.Prelude.{Result, Ok, Err, IsTrue, is_some}
use Rattle.hyd_io.specs.declared.desk.Faults.{Faults}
use Rattle.hyd_io.specs.declared.desk.Openings.{Openings}
use Rattle.hyd_io.specs.declared.output.OutFault.{OutFault}
use Rattle.hyd_io.specs.declared.output.Channel.{Channel}
use Rattle.hyd_io.specs.declared.output.Channel.TheVariants.{Cert, Report}
use Rattle.hyd_io.specs.DeskBytes.{Files, Moves, PutOut, append_known, file_at}
use Rattle.hyd_io.specs.LeftAsItWas.{KeepsOutput}
use Rattle.hyd_io.specs.Output.{by_channel, OnCert, HasOutCause, PenState}
use Rattle.hyd_io.specs.TextPutIn.{Puts}
use Rattle.hyd_io.proofs.MovedBytesLemmas.{moves_then, put_out_then, put_out_nothing, moves_nothing}
use Rattle.hyd_io.proofs.MovedBytesLemmas.{moves_whole}
use Rattle.hyd_cert.specs.ReaderView.{ReaderView}
use Rattle.hyd_run.specs.Pens.{Told, told}
use Rattle.hyd_cert_check.specs.ReaderAndPen.{CheckMoment, moment}
use Rattle.hyd_witness_stream.specs.WitnessPen.{IsWriting, LeavesOthers, WrittenIn, IsWriteCut, Rose}
use Rattle.hyd_witness_stream.specs.declared.ending.SearchFault.{SearchFault}
use Rattle.hyd_witness_stream.specs.declared.ending.SearchFault.TheVariants.{Output}

-- what is asked of a pen on a file, where one was created
pub on-file : (to : Channel) (ready : Bool) → IsTrue ready → OnCert to (IsTrue ready)
on-file Cert ready is = is
on-file Report ready is = tt

on-cert : (to : Channel) (P : Type 0) → to ≡ Cert → OnCert to P → P
on-cert to P e on = subst (λ (c : Channel). OnCert c P) e on

first-moves : (to : Channel) (w p w' p' : Option (List ℕ)) (all held : List ℕ) → to ≡ Cert
    → Moves (by_channel to w p) (by_channel to w' p') all held → Moves w w' all held
first-moves to w p w' p' all held e m =
    subst (λ (c : Channel). Moves (by_channel c w p) (by_channel c w' p') all held) e m

first-out : (to : Channel) (w p w' p' : Option (List ℕ)) (all : List ℕ) → to ≡ Cert
    → PutOut (by_channel to w p) (by_channel to w' p') all → PutOut w w' all
first-out to w p w' p' all e m = subst (λ (c : Channel). PutOut (by_channel c w p) (by_channel c w' p') all) e m

-- ---- what one call puts in

module _ {S : Type 0} {files : S → Option Files} {rest written printed target : S → Option (List ℕ)} {ready : S
    → Bool}
    {counts : S → Faults} {openings : S → Openings} where
  leaves-puts : (text : List ℕ) (result : Result (Unit {0}) OutFault) (p q : PenState) (d e : S) → IsWriting p
      → Puts files rest written printed target ready counts openings text result p q d e
      → LeavesOthers (told files rest written printed target ready counts openings d)
      (told files rest written printed target ready counts openings e)
  leaves-puts text result p q d e is puts = record {
    others = puts.others;
    still_told = puts.still_told;
    printed_stays = on-cert p.to (printed e ≡ printed d) is.to puts.cert_printed;
    target_stays = puts.target_stays;
    ready_stays = puts.ready_stays;
    openings_stay = puts.openings_stay;
  }

  pub written-in : (text : List ℕ) (r r' : ReaderView) (p q : PenState) (d e : S) → IsWriting p
      → Puts files rest written printed target ready counts openings text (Ok (tt {0})) p q d e
      → WrittenIn text (moment r p (told files rest written printed target ready counts openings d))
      (moment r' q (told files rest written printed target ready counts openings e))
  written-in text r r' p q d e is puts = record {
    moves = first-moves p.to (written d) (printed d) (written e) (printed e) (p.held ++ text) q.held is.to puts.moves;
    writing = record { to = puts.to_stays ∙ is.to; no_fault = puts.no_fault };
    steady = puts.steady;
    leaves = leaves-puts text (Ok (tt {0})) p q d e is puts;
  }

  pub write-cut : (text : List ℕ) (why : OutFault) (r r' : ReaderView) (p q : PenState) (d e : S) → IsWriting p
      → Puts files rest written printed target ready counts openings text (Err why) p q d e
      → IsWriteCut (Output why) text (moment r p (told files rest written printed target ready counts openings d))
      (moment r' q (told files rest written printed target ready counts openings e))
  write-cut text why r r' p q d e is puts = record {
    front = first-out p.to (written d) (printed d) (written e) (printed e) (p.held ++ text) is.to puts.front;
    rose = subst (λ (k : Channel). HasOutCause k why (counts d) (counts e)) is.to (puts.cause is.no_fault);
    leaves = leaves-puts text (Err why) p q d e is puts;
  }

-- ---- what is read leaves the pen as it was

module _ {S : Type 0} {files : S → Option Files} {written printed target : S → Option (List ℕ)} {ready : S → Bool}
    {counts : S → Faults} {openings : S → Openings} (rest : S → Option (List ℕ)) where
  leaves-read : (d e : S) → KeepsOutput files written printed target ready counts openings d e
      → LeavesOthers (told files rest written printed target ready counts openings d)
      (told files rest written printed target ready counts openings e)
  leaves-read d e stays = record {
    others = λ other apart. ap (λ (f : Option Files). file_at f other) stays.files_stay;
    still_told = ap is_some stays.files_stay;
    printed_stays = stays.printed_stays;
    target_stays = stays.target_stays;
    ready_stays = stays.ready_stays;
    openings_stay = stays.openings_stay;
  }

  pub read-writes : (r r' : ReaderView) (p : PenState) (d e : S) → IsWriting p
      → KeepsOutput files written printed target ready counts openings d e → counts e ≡ counts d
      → WrittenIn [] (moment r p (told files rest written printed target ready counts openings d))
      (moment r' p (told files rest written printed target ready counts openings e))
  read-writes r r' p d e is stays steady = record {
    moves = subst (λ (all : List ℕ). Moves (written d) (written e) all p.held) (sym (append-nil p.held))
        (subst (λ (o : Option (List ℕ)). Moves (written d) o p.held p.held) (sym stays.written_stays)
        (moves_nothing (written d) p.held));
    writing = is;
    steady = steady;
    leaves = leaves-read d e stays;
  }

  pub read-cut : (why : SearchFault) (r r' : ReaderView) (p : PenState) (d e : S)
      → KeepsOutput files written printed target ready counts openings d e → Rose why (counts d) (counts e)
      → IsWriteCut why [] (moment r p (told files rest written printed target ready counts openings d))
      (moment r' p (told files rest written printed target ready counts openings e))
  read-cut why r r' p d e stays rose = record {
    front = subst (λ (o : Option (List ℕ)). PutOut (written d) o (p.held ++ [])) (sym stays.written_stays)
        (put_out_nothing (written d) (p.held ++ []));
    rose = rose;
    leaves = leaves-read d e stays;
  }

-- ---- one text after another

pub leaves-then : (a b d : Told) → LeavesOthers a b → LeavesOthers b d → LeavesOthers a d
leaves-then a b d first second = record {
  others = λ other apart. second.others other (λ same. apart (sym first.target_stays ∙ same))
      ∙ first.others other apart;
  still_told = second.still_told ∙ first.still_told;
  printed_stays = second.printed_stays ∙ first.printed_stays;
  target_stays = second.target_stays ∙ first.target_stays;
  ready_stays = second.ready_stays ∙ first.ready_stays;
  openings_stay = second.openings_stay ∙ first.openings_stay;
}

pub written-then : (a b : List ℕ) (m n o : CheckMoment) → WrittenIn a m n → WrittenIn b n o → WrittenIn (a ++ b) m o
written-then a b m n o first second = record {
  moves = subst (λ (all : List ℕ). Moves m.told.written o.told.written all o.pen.held) (append_assoc m.pen.held a b)
      (moves_then m.told.written n.told.written o.told.written (m.pen.held ++ a) n.pen.held b o.pen.held first.moves
      second.moves);
  writing = second.writing;
  steady = second.steady ∙ first.steady;
  leaves = leaves-then m.told n.told o.told first.leaves second.leaves;
}

-- the second text was cut off
pub cut-then : (why : SearchFault) (a b : List ℕ) (m n o : CheckMoment) → WrittenIn a m n → IsWriteCut why b n o
    → IsWriteCut why (a ++ b) m o
cut-then why a b m n o first second = record {
  front = subst (PutOut m.told.written o.told.written) (append_assoc m.pen.held a b)
      (put_out_then m.told.written n.told.written o.told.written (m.pen.held ++ a) n.pen.held b first.moves
      second.front);
  rose = subst (λ (k : Faults). Rose why k o.told.counts) first.steady second.rose;
  leaves = leaves-then m.told n.told o.told first.leaves second.leaves;
}

pub written-as : (a b : List ℕ) (m n : CheckMoment) → a ≡ b → WrittenIn a m n → WrittenIn b m n
written-as a b m n e put = subst (λ (x : List ℕ). WrittenIn x m n) e put

pub cut-as : (why : SearchFault) (a b : List ℕ) (m n : CheckMoment) → a ≡ b → IsWriteCut why a m n
    → IsWriteCut why b m n
cut-as why a b m n e cut = subst (λ (x : List ℕ). IsWriteCut why x m n) e cut

-- a text, and then nothing more
pub written-on : (a : List ℕ) (m n o : CheckMoment) → WrittenIn a m n → WrittenIn [] n o → WrittenIn a m o
written-on a m n o first second = written-as (a ++ []) a m o (append-nil a) (written-then a [] m n o first second)

-- where the pen held nothing before and all is out, the text went out
pub went-out : (a : List ℕ) (m n : CheckMoment) → m.pen.held ≡ [] → n.pen.held ≡ [] → WrittenIn a m n
    → n.told.written ≡ append_known m.told.written a
went-out a m n none empty put =
    moves_whole m.told.written n.told.written a
    (subst (λ (h : List ℕ). Moves m.told.written n.told.written a h) empty
    (subst (λ (h : List ℕ). Moves m.told.written n.told.written (h ++ a) n.pen.held) none put.moves))

-- what went out of a text that was cut off, and the rest of the text
pub front-out : (why : SearchFault) (a : List ℕ) (m n : CheckMoment) → m.pen.held ≡ [] → IsWriteCut why a m n
    → (front : List ℕ) × ((rest : List ℕ) × ((front ++ rest ≡ a)
    × (n.told.written ≡ append_known m.told.written front)))
front-out why a m n none cut =
    let out = subst (λ (h : List ℕ). PutOut m.told.written n.told.written (h ++ a)) none cut.front in
    (out.1.front, (out.0, (sym out.1.whole, out.1.out)))
