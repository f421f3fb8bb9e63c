-- Two pens at one desk: what is put in at both, and what goes out of it.
-- Source: this program's.
use Rattle.std.specs.Prelude.{◌≡◌, ◌≢◌, ◌⊎◌, ℕ, Bool, IsTrue, List, [], ◌++◌, Option, Some, None, is_some, Result, Ok}
use Rattle.std.specs.Prelude.{Err}
use Rattle.hyd_io.specs.declared.desk.Faults.{Faults}
use Rattle.hyd_io.specs.declared.desk.Openings.{Openings}
use Rattle.hyd_io.specs.declared.output.Channel.TheVariants.{Cert, Report}
use Rattle.hyd_io.specs.declared.output.OutFault.{OutFault}
use Rattle.hyd_io.specs.DeskBytes.{Files, file_at, Moves, PutOut}
use Rattle.hyd_io.specs.Output.{HasOutCause, PenState}

-- All that a desk tells.
pub record Told : Type 0 where
  pub files : Option Files
  pub rest : Option (List ℕ)
  pub written : Option (List ℕ)
  pub printed : Option (List ℕ)
  pub target : Option (List ℕ)
  pub ready : Bool
  pub counts : Faults
  pub openings : Openings

-- What a desk of some kind tells, by that kind's meanings.
abbrev pub told : {S : Type 0} → (S → Option Files) → (S → Option (List ℕ)) → (S → Option (List ℕ)) → (S
    → Option (List ℕ))
    → (S → Option (List ℕ)) → (S → Bool) → (S → Faults) → (S → Openings) → S → Told
told files rest written printed target ready counts openings desk = record {
  files = files desk;
  rest = rest desk;
  written = written desk;
  printed = printed desk;
  target = target desk;
  ready = ready desk;
  counts = counts desk;
  openings = openings desk;
}

-- The pen of the certificate, the pen of the report, and what their desk tells.
pub record RunMoment : Type 0 where
  pub certificate : PenState
  pub report : PenState
  pub told : Told

abbrev pub moment : PenState → PenState → Told → RunMoment
moment certificate report told = record { certificate = certificate; report = report; told = told }

-- The certificate goes to the file and the report to standard output, a file was created, and neither pen has a
-- fault.
pub record AreOpen (at : RunMoment) : Type 0 where
  pub certificate_to : at.certificate.to ≡ Cert
  pub certificate_fault : at.certificate.fault ≡ None
  pub report_to : at.report.to ≡ Report
  pub report_fault : at.report.fault ≡ None
  pub ready : IsTrue at.told.ready

-- Of what a desk tells only what was written and printed, the counts of faults and the file that is written to may
-- change.
pub record LeavesRest (before now : Told) : Type 0 where
  pub others : (other : List ℕ) → before.target ≢ Some other → file_at now.files other ≡ file_at before.files other
  pub still_told : is_some now.files ≡ is_some before.files
  pub rest_stays : now.rest ≡ before.rest
  pub target_stays : now.target ≡ before.target
  pub ready_stays : now.ready ≡ before.ready
  pub openings_stay : now.openings ≡ before.openings

-- A text was put in at each pen: a front of what the pen held and of the text went out, and the pen holds the rest.
-- No call
-- failed, and the pens are open still.
pub record PutIn (certificate report : List ℕ) (before now : RunMoment) : Type 0 where
  pub written : Moves before.told.written now.told.written (before.certificate.held ++ certificate)
      now.certificate.held
  pub printed : Moves before.told.printed now.told.printed (before.report.held ++ report) now.report.held
  pub unbroken : AreOpen now
  pub steady : now.told.counts ≡ before.told.counts
  pub leaves : LeavesRest before.told now.told

-- One count of faults rose by one: of the calls that write or print, as the fault says, or of those that took
-- nothing.
abbrev pub OneRose : OutFault → Faults → Faults → Type 0
OneRose fault before now = HasOutCause Cert fault before now ⊎ HasOutCause Report fault before now

-- One call failed: of what each pen held and of a text for it a front went out.
pub record IsCutOff (fault : OutFault) (certificate report : List ℕ) (before now : RunMoment) : Type 0 where
  pub written : PutOut before.told.written now.told.written (before.certificate.held ++ certificate)
  pub printed : PutOut before.told.printed now.told.printed (before.report.held ++ report)
  pub rose : OneRose fault before.told.counts now.told.counts
  pub leaves : LeavesRest before.told now.told

-- What a call says that puts a text in at each pen.
abbrev pub PutsIn : List ℕ → List ℕ → Result (Unit {0}) OutFault → RunMoment → RunMoment → Type 0
PutsIn certificate report (Ok done) before now = PutIn certificate report before now
PutsIn certificate report (Err fault) before now = IsCutOff fault certificate report before now

-- One call failed, and nothing was put in for the report before the certificate's text: nothing of the report went out,
-- or what didn't go out of the certificate's text is held by its pen.
pub record IsCutInOrder (fault : OutFault) (certificate report : List ℕ) (before now : RunMoment) : Type 0 where
  pub cut_off : IsCutOff fault certificate report before now
  pub in_order : (cut_off.printed.1.front ≡ []) ⊎ (cut_off.written.0 ≡ now.certificate.held)

-- What a call says that puts a text in at each pen, the certificate's first.
abbrev pub PutsInOrder : List ℕ → List ℕ → Result (Unit {0}) OutFault → RunMoment → RunMoment → Type 0
PutsInOrder certificate report (Ok done) before now = PutIn certificate report before now
PutsInOrder certificate report (Err fault) before now = IsCutInOrder fault certificate report before now

-- One call failed, and nothing of the report went out unless all did of what the certificate's pen held and of the text
-- for it.
pub record IsCutAtEnd (fault : OutFault) (certificate report : List ℕ) (before now : RunMoment) : Type 0 where
  pub cut_off : IsCutOff fault certificate report before now
  pub in_order : (cut_off.printed.1.front ≡ [])
      ⊎ (cut_off.written.1.front ≡ before.certificate.held ++ certificate)

-- What a call says that puts the last text in at each pen, and empties the certificate's before anything is put in for
-- the report.
abbrev pub PutsLast : List ℕ → List ℕ → Result (Unit {0}) OutFault → RunMoment → RunMoment → Type 0
PutsLast certificate report (Ok done) before now =
    PutIn certificate report before now × (now.certificate.held ≡ [])
PutsLast certificate report (Err fault) before now = IsCutAtEnd fault certificate report before now
