-- What a text leaves that is put in at a new pen on standard output, and flushed.
use Rattle.std.proofs.Common.{◌≡◌, ◌∙◌, ℕ, Bool, List, [], ◌++◌, Option, None, sym, ap, subst}
use Rattle.std.specs.Prelude.{Result, Ok, Err, IfErr, OnOk, OnErr}
use Rattle.std.proofs.lemmas.Result.{on_ok_weaker, on_err_weaker}
use Rattle.hyd_io.specs.declared.desk.Faults.{Faults}
use Rattle.hyd_io.specs.declared.desk.Openings.{Openings}
use Rattle.hyd_io.specs.declared.output.OutFault.{OutFault}
use Rattle.hyd_io.specs.declared.output.Channel.{Channel}
use Rattle.hyd_io.specs.declared.output.Channel.TheVariants.{Report}
use Rattle.hyd_io.specs.DeskBytes.{Files, PutOut}
use Rattle.hyd_io.specs.Output.{by_channel, HasOutCause, OnCert, PenState}
use Rattle.hyd_io.specs.TextPutIn.{Puts, PenEmptied}
use Rattle.hyd_io.proofs.PutLemmas.{on-report}
use Rattle.hyd_num.specs.Rational.{Rational}
use Rattle.hyd_spec.specs.ProgramTypes.{Project}
use Rattle.hyd_spec_pressure_targets.specs.PromisesOfTargets.{ClosuresBreakOff}
use Rattle.hyd_targets.specs.ClosuresPutOut.{AreSoFar}
use Rattle.hyd_command_answers.specs.DeskContents.{Seen, seen, OnlyPrinted, OnlyPrintedFront}
use Rattle.hyd_command_answers.proofs.PrintLemmas.{printed_whole, printed_front, cause_since}
use Rattle.hyd_target_commands.specs.PrintedTexts.{Prints, PrintsFront}

on-second : (to : Channel) (w p w' p' : Option (List ℕ)) (all : List ℕ) → to ≡ Report
    → PutOut (by_channel to w p) (by_channel to w' p') all → PutOut p p' all
on-second to w p w' p' all e m = subst (λ (c : Channel). PutOut (by_channel c w p) (by_channel c w' p') all) e m

abbrev pub IsNewReport : PenState → Type 0
IsNewReport pen = pen ≡ record { to = Report; fault = None; held = [] }

on-standard-output : (pen : PenState) → IsNewReport pen → pen.to ≡ Report
on-standard-output pen new = ap (λ (p : PenState). p.to) new

holds-nothing : (pen : PenState) → IsNewReport pen → pen.held ≡ []
holds-nothing pen new = ap (λ (p : PenState). p.held) new

-- a pen on standard output asks nothing of the file created last
pub asks-nothing : (to : Channel) (P : Type 0) → to ≡ Report → OnCert to P
asks-nothing to P e = subst (λ (c : Channel). OnCert c P) (sym e) tt

module _ {S : Type 0} {files : S → Option Files} {rest written printed target : S → Option (List ℕ)} {ready : S → Bool}
    {counts : S → Faults} {openings : S → Openings} (text : List ℕ) (p q : PenState) (a b : S) (new : IsNewReport p) where
  -- the put failed: a front of the text went out
  module _ (why : OutFault)
      (put : Puts files rest written printed target ready counts openings text (Err why) p q a b) where
    pub front-of-put : OnlyPrintedFront text (seen files written printed a) (seen files written printed b)
    front-of-put = record {
      files = on-report p.to _ (on-standard-output p new) put.report_files;
      written = on-report p.to _ (on-standard-output p new) put.report_written;
      printed = subst (λ (held : List ℕ). PutOut (printed a) (printed b) (held ++ text)) (holds-nothing p new)
          (on-second p.to (written a) (printed a) (written b) (printed b) (p.held ++ text)
          (on-standard-output p new) put.front);
    }

    pub cause-of-put : HasOutCause Report why (counts a) (counts b)
    cause-of-put = subst (λ to. HasOutCause to why (counts a) (counts b)) (on-standard-output p new)
        (put.cause (ap (λ (pen : PenState). pen.fault) new))

  -- the put succeeded, and the pen was flushed
  module _ (r : PenState) (e : S) (result : Result (Unit {0}) OutFault)
      (put : Puts files rest written printed target ready counts openings text (Ok (tt {0})) p q a b)
      (emptied : PenEmptied files rest written printed target ready counts openings result q r b e) where
    still : q.to ≡ Report
    still = put.to_stays ∙ on-standard-output p new

    pub files-by-flush : files e ≡ files a
    files-by-flush = on-report q.to _ still emptied.report_files ∙ on-report p.to _ (on-standard-output p new) put.report_files

    pub written-by-flush : written e ≡ written a
    written-by-flush =
        on-report q.to _ still emptied.report_written ∙ on-report p.to _ (on-standard-output p new) put.report_written

    pub whole-of-flush : OnOk result
        (OnlyPrinted text (seen files written printed a) (seen files written printed e))
    whole-of-flush = on_ok_weaker result (λ w. record {
      files = files-by-flush;
      written = written-by-flush;
      printed = printed_whole _ _ _ _ _ _ _ _ _ _ _ (on-standard-output p new) put.to_stays (holds-nothing p new) put.moves w;
    }) emptied.whole

    pub front-of-flush : OnErr result
        (OnlyPrintedFront text (seen files written printed a) (seen files written printed e))
    front-of-flush = on_err_weaker result (λ k. record {
      files = files-by-flush;
      written = written-by-flush;
      printed = printed_front _ _ _ _ _ _ _ _ _ _ _ (on-standard-output p new) put.to_stays (holds-nothing p new) put.moves k;
    }) emptied.front

    pub cause-of-flush : IfErr result (λ fault. HasOutCause Report fault (counts a) (counts e))
    cause-of-flush = cause_since result _ _ _ _ still put.steady (emptied.cause put.no_fault)

    pub steady-by-flush : OnOk result (counts e ≡ counts a)
    steady-by-flush = on_ok_weaker result (λ s. s ∙ put.steady) emptied.steady

    pub openings-by-flush : openings e ≡ openings a
    openings-by-flush = emptied.openings_stay ∙ put.openings_stay

-- ---- texts of which something holds

pub printed-with : (P : List ℕ → Type 0) (text : List ℕ) (before now : Seen) → P text → OnlyPrinted text before now
    → Prints P before now
printed-with P text before now holds only = record { text = text; holds = holds; only = only }

pub front-with : (P : List ℕ → Type 0) (text : List ℕ) (before now : Seen) → P text
    → OnlyPrintedFront text before now → PrintsFront P before now
front-with P text before now holds only = record { text = text; holds = holds; only = only }

-- a front of the lines of the first closures
pub broken-off : (project : Project) (goal : Rational) (rounds : ℕ) (text : List ℕ) (before now : Seen)
    → AreSoFar project goal rounds text → OnlyPrintedFront text before now
    → Prints (ClosuresBreakOff project goal rounds) before now
broken-off project goal rounds text before now so only = record {
  text = only.printed.1.front;
  holds = record {
    closures = so.closures;
    each = so.each;
    is_whole = so.is_whole;
    all = so.all;
    unprinted = only.printed.0;
    front = sym only.printed.1.whole ∙ so.is_text;
  };
  only = record { files = only.files; written = only.written; printed = only.printed.1.out };
}
