-- A reader of a certificate and a pen on standard output at one desk: what is read, what is put in, and what goes out.
-- Source: this program's.
use Rattle.std.specs.Prelude.{◌≡◌, ℕ, List, [], ◌++◌, None, Result, Ok, Err}
use Rattle.hyd_io.specs.declared.desk.Faults.{Faults}
use Rattle.hyd_io.specs.declared.output.Channel.TheVariants.{Report}
use Rattle.hyd_io.specs.DeskCounts.{with_read_fault}
use Rattle.hyd_io.specs.DeskBytes.{Moves, PutOut}
use Rattle.hyd_io.specs.Output.{HasOutCause, PenState}
use Rattle.hyd_cert.specs.ReaderView.{ReaderView}
use Rattle.hyd_cert.specs.declared.answers_of_reader.Stand.TheVariants.{First}
use Rattle.hyd_run.specs.Pens.{Told}
use Rattle.hyd_cert_check.specs.declared.outcome.CheckFault.{CheckFault}
use Rattle.hyd_cert_check.specs.declared.outcome.CheckFault.TheVariants.{Read, Output}

-- The reader of the certificate, the pen of the report, and what their desk tells.
pub record CheckMoment : Type 0 where
  pub reader : ReaderView
  pub pen : PenState
  pub told : Told

-- A reader that has passed no line and answered nothing. What it read ahead is the front of the text.
pub record IsAtStart (reader : ReaderView) : Type 0 where
  pub stand : reader.stand ≡ First
  pub line : reader.line ≡ 0

abbrev pub moment : ReaderView → PenState → Told → CheckMoment
moment reader pen told = record { reader = reader; pen = pen; told = told }

-- A pen on standard output that has no fault.
pub record IsOpen (pen : PenState) : Type 0 where
  pub to : pen.to ≡ Report
  pub no_fault : pen.fault ≡ None

-- A pen on standard output that holds nothing and has no fault.
abbrev pub new_pen : PenState
new_pen = record { to = Report; fault = None; held = [] }

-- Of what a desk tells only what is left to read, what was printed and the counts of faults may change.
pub record LeavesFiles (before now : Told) : Type 0 where
  pub files_stay : now.files ≡ before.files
  pub written_stays : now.written ≡ before.written
  pub target_stays : now.target ≡ before.target
  pub ready_stays : now.ready ≡ before.ready
  pub openings_stay : now.openings ≡ before.openings

-- A text was put in at the pen: a front of what the pen held and of the text went out, and the pen holds the rest. No
-- call failed, and the pen is open still.
pub record PutIn (text : List ℕ) (before now : CheckMoment) : Type 0 where
  pub printed : Moves before.told.printed now.told.printed (before.pen.held ++ text) now.pen.held
  pub open_still : IsOpen now.pen
  pub steady : now.told.counts ≡ before.told.counts
  pub leaves : LeavesFiles before.told now.told

-- One count of faults rose by one, as the fault says: of the calls that read, of those that print, or of those that
-- took nothing.
abbrev pub Rose : CheckFault → Faults → Faults → Type 0
Rose Read before now = now ≡ with_read_fault before
Rose (Output fault) before now = HasOutCause Report fault before now

-- One call failed: of what the pen held and of a text for it a front went out.
pub record IsCutOff (fault : CheckFault) (text : List ℕ) (before now : CheckMoment) : Type 0 where
  pub printed : PutOut before.told.printed now.told.printed (before.pen.held ++ text)
  pub rose : Rose fault before.told.counts now.told.counts
  pub leaves : LeavesFiles before.told now.told

-- What a call says that puts a text in.
abbrev pub PutsIn : List ℕ → Result (Unit {0}) CheckFault → CheckMoment → CheckMoment → Type 0
PutsIn text (Ok done) before now = PutIn text before now
PutsIn text (Err fault) before now = IsCutOff fault text before now
