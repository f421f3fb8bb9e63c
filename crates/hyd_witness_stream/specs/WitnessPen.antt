-- The pen of a witness at a desk from which a certificate is read: what is put in, and what goes out.
-- Source: this program's.
use Rattle.std.specs.Prelude.{◌≡◌, ◌≢◌, ℕ, List, ◌++◌, Option, Some, None, is_some}
use Rattle.hyd_io.specs.declared.desk.Faults.{Faults}
use Rattle.hyd_io.specs.declared.output.Channel.TheVariants.{Cert}
use Rattle.hyd_io.specs.DeskCounts.{with_read_fault}
use Rattle.hyd_io.specs.DeskBytes.{Moves, PutOut, append_known, file_at}
use Rattle.hyd_io.specs.Output.{HasOutCause, PenState}
use Rattle.hyd_run.specs.Pens.{Told}
use Rattle.hyd_cert_check.specs.ReaderAndPen.{CheckMoment}
use Rattle.hyd_witness_stream.specs.declared.ending.SearchFault.{SearchFault}
use Rattle.hyd_witness_stream.specs.declared.ending.SearchFault.TheVariants.{Read, Output}

-- A pen on the file created last that has no fault.
pub record IsWriting (pen : PenState) : Type 0 where
  pub to : pen.to ≡ Cert
  pub no_fault : pen.fault ≡ None

-- Of what a desk tells only what is left to read, what was written, the file that is written to and the counts of
-- faults may change.
pub record LeavesOthers (before now : Told) : Type 0 where
  pub others : (other : List ℕ) → before.target ≢ Some other → file_at now.files other ≡ file_at before.files other
  pub still_told : is_some now.files ≡ is_some before.files
  pub printed_stays : now.printed ≡ before.printed
  pub target_stays : now.target ≡ before.target
  pub ready_stays : now.ready ≡ before.ready
  pub openings_stay : now.openings ≡ before.openings

-- A text was put in at the pen: a front of what the pen held and of the text went out, and the pen holds the rest. No
-- call failed, and the pen writes on.
pub record WrittenIn (text : List ℕ) (before now : CheckMoment) : Type 0 where
  pub moves : Moves before.told.written now.told.written (before.pen.held ++ text) now.pen.held
  pub writing : IsWriting now.pen
  pub steady : now.told.counts ≡ before.told.counts
  pub leaves : LeavesOthers before.told now.told

-- One count of faults rose by one, as the fault says: of the calls that read, of those that write, or of those that
-- took nothing.
abbrev pub Rose : SearchFault → Faults → Faults → Type 0
Rose Read before now = now ≡ with_read_fault before
Rose (Output fault) before now = HasOutCause Cert fault before now

-- One call failed: of what the pen held and of a text for it a front went out.
pub record IsWriteCut (fault : SearchFault) (text : List ℕ) (before now : CheckMoment) : Type 0 where
  pub front : PutOut before.told.written now.told.written (before.pen.held ++ text)
  pub rose : Rose fault before.told.counts now.told.counts
  pub leaves : LeavesOthers before.told now.told

-- A text was written of which this holds.
pub record IsWritten (P : List ℕ → Type 0) (before now : Option (List ℕ)) : Type 0 where
  pub text : List ℕ
  pub holds : P text
  pub written : now ≡ append_known before text
