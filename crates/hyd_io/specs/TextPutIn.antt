-- What a call says that puts a text in at a pen: what went out, what the pen answers from then on, and what of the
-- desk stays as it was.
use Rattle.std.specs.Prelude.{◌≡◌, ◌≢◌, ℕ, Bool, List, [], ◌++◌, Option, Some, None, IfSome, IsSome, is_some}
use Rattle.std.specs.Prelude.{Result, Err, IfErr, OnOk, OnErr}
use Rattle.hyd_io.specs.declared.desk.Faults.{Faults}
use Rattle.hyd_io.specs.declared.desk.Openings.{Openings}
use Rattle.hyd_io.specs.declared.output.OutFault.{OutFault}
use Rattle.hyd_io.specs.DeskBytes.{Files, file_at, append_known, Moves, PutOut}
use Rattle.hyd_io.specs.DeskCounts.{NeverFall}
use Rattle.hyd_io.specs.Output.{by_channel, OnCert, OnReport, HasOutCause, PenState}

-- A text is put in at a pen. A front of what the pen held and of the text goes out, and the pen holds the rest; after
-- a fault what
-- went out is a front of both, and the pen answers that fault from then on. A pen that has a fault does nothing but
-- answer it. Of
-- the desk nothing else changes but the count of the fault.
pub record Puts {S : Type 0} (files : S → Option Files) (rest written printed target : S → Option (List ℕ)) (ready : S
    → Bool)
    (counts : S → Faults) (openings : S → Openings) (text : List ℕ) (result : Result (Unit {0}) OutFault)
    (pen after : PenState)
    (old new : S) : Type 0 where
  pub moves : OnOk result (Moves (by_channel pen.to (written old) (printed old)) (by_channel pen.to (written new)
      (printed new))
      (pen.held ++ text) after.held)
  pub front : OnErr result (PutOut (by_channel pen.to (written old) (printed old))
      (by_channel pen.to (written new) (printed new)) (pen.held ++ text))
  pub to_stays : after.to ≡ pen.to
  pub no_fault : OnOk result (after.fault ≡ None)
  pub keeps_fault : IfErr result (λ fault. after.fault ≡ Some fault)
  pub again : IfSome pen.fault (λ fault. result ≡ Err fault)
  pub does_nothing : IsSome pen.fault → (after ≡ pen) × (new ≡ old)
  pub cause : pen.fault ≡ None → IfErr result (λ fault. HasOutCause pen.to fault (counts old) (counts new))
  pub steady : OnOk result (counts new ≡ counts old)
  pub never_fall : NeverFall (counts old) (counts new)
  pub report_files : OnReport pen.to (files new ≡ files old)
  pub report_written : OnReport pen.to (written new ≡ written old)
  pub cert_printed : OnCert pen.to (printed new ≡ printed old)
  pub others : (other : List ℕ) → target old ≢ Some other → file_at (files new) other ≡ file_at (files old) other
  pub still_told : is_some (files new) ≡ is_some (files old)
  pub rest_stays : rest new ≡ rest old
  pub target_stays : target new ≡ target old
  pub ready_stays : ready new ≡ ready old
  pub openings_stay : openings new ≡ openings old

-- All that a pen held is put out. After a fault what went out is a front of it, and the pen answers that fault from
-- then on. A pen that has a fault does nothing but answer it. Of the desk nothing else changes but the count of the
-- fault.
pub record PenEmptied {S : Type 0} (files : S → Option Files) (rest written printed target : S → Option (List ℕ))
    (ready : S → Bool) (counts : S → Faults) (openings : S → Openings) (result : Result (Unit {0}) OutFault)
    (pen after : PenState) (old new : S) : Type 0 where
  pub whole : OnOk result (by_channel pen.to (written new) (printed new)
      ≡ append_known (by_channel pen.to (written old) (printed old)) pen.held)
  pub empty : OnOk result (after.held ≡ [])
  pub front : OnErr result (PutOut (by_channel pen.to (written old) (printed old))
      (by_channel pen.to (written new) (printed new)) pen.held)
  pub to_stays : after.to ≡ pen.to
  pub no_fault : OnOk result (after.fault ≡ None)
  pub keeps_fault : IfErr result (λ fault. after.fault ≡ Some fault)
  pub again : IfSome pen.fault (λ fault. result ≡ Err fault)
  pub does_nothing : IsSome pen.fault → (after ≡ pen) × (new ≡ old)
  pub cause : pen.fault ≡ None → IfErr result (λ fault. HasOutCause pen.to fault (counts old) (counts new))
  pub steady : OnOk result (counts new ≡ counts old)
  pub never_fall : NeverFall (counts old) (counts new)
  pub report_files : OnReport pen.to (files new ≡ files old)
  pub report_written : OnReport pen.to (written new ≡ written old)
  pub cert_printed : OnCert pen.to (printed new ≡ printed old)
  pub others : (other : List ℕ) → target old ≢ Some other → file_at (files new) other ≡ file_at (files old) other
  pub still_told : is_some (files new) ≡ is_some (files old)
  pub rest_stays : rest new ≡ rest old
  pub target_stays : target new ≡ target old
  pub ready_stays : ready new ≡ ready old
  pub openings_stay : openings new ≡ openings old
