-- A text at one of two pens.
use Rattle.std.proofs.Common.{ℕ, Bool, List, [], Option}
use Rattle.std.specs.Prelude.{Result, Ok, Err}
use Rattle.hyd_io.specs.declared.desk.Faults.{Faults}
use Rattle.hyd_io.specs.declared.desk.Openings.{Openings}
use Rattle.hyd_io.specs.declared.output.OutFault.{OutFault}
use Rattle.hyd_io.specs.DeskBytes.{Files}
use Rattle.hyd_io.specs.Output.{PenState}
use Rattle.hyd_io.specs.TextPutIn.{Puts}
use Rattle.hyd_io.proofs.PutLemmas.{puts_nothing}
use Rattle.hyd_run.specs.Pens.{told, moment, AreOpen, PutsIn}
use Rattle.hyd_run.proofs.PenLemmas.{both-put, first-cut-off}

module _ {S : Type 0} {files : S → Option Files} {rest written printed target : S → Option (List ℕ)} {ready : S → Bool}
    {counts : S → Faults} {openings : S → Openings} where
  -- at the certificate's
  pub cert-put : (a : List ℕ) (result : Result (Unit {0}) OutFault) (c c' r : PenState) (d e : S)
      → AreOpen (moment c r (told files rest written printed target ready counts openings d))
      → Puts files rest written printed target ready counts openings a result c c' d e
      → PutsIn a [] result (moment c r (told files rest written printed target ready counts openings d))
      (moment c' r (told files rest written printed target ready counts openings e))
  cert-put a (Ok done) c c' r d e unbroken put =
      both-put a [] (Ok (tt {0})) c c' r r d e e unbroken put (puts_nothing r e unbroken.report_fault)
  cert-put a (Err why) c c' r d e unbroken put = first-cut-off a [] why c c' r d e unbroken put

  -- at the report's
  pub report-put : (b : List ℕ) (result : Result (Unit {0}) OutFault) (c r r' : PenState) (d e : S)
      → AreOpen (moment c r (told files rest written printed target ready counts openings d))
      → Puts files rest written printed target ready counts openings b result r r' d e
      → PutsIn [] b result (moment c r (told files rest written printed target ready counts openings d))
      (moment c r' (told files rest written printed target ready counts openings e))
  report-put b result c r r' d e unbroken put =
      both-put [] b result c c r r' d d e unbroken (puts_nothing c d unbroken.certificate_fault) put
