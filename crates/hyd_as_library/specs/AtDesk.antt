-- What the answers of a run and of a check at a desk in memory say of the desk.
-- Source: this program's.
use Rattle.std.specs.Prelude.{◌≡◌, ◌≢◌, ℕ, ◌⊎◌, List, ◌++◌, Some}
use Rattle.hyd_io.specs.declared.desk.Faults.{Faults}
use Rattle.hyd_io.specs.declared.output.OutFault.{OutFault}
use Rattle.hyd_io.specs.DeskInMemory.{Memory}
use Rattle.hyd_spec.specs.ProgramTypes.{Project}
use Rattle.hyd_spec_reports.specs.PromisesOfRunsAndChecks.{RunWrites, RunBreaksOff}
use Rattle.hyd_sim.specs.declared.settings.Settings.{Settings}
use Rattle.hyd_run.specs.Pens.{OneRose}
use Rattle.hyd_run.specs.Runs.{outcome_of, sharpness_of}
use Rattle.hyd_run.specs.declared.outcome.RunEnd.{RunEnd}
use Rattle.hyd_cert_check.specs.Checks.{CheckEnds, CheckBreaksOff}
use Rattle.hyd_cert_check.specs.ReaderAndPen.{Rose}
use Rattle.hyd_spec_check_ends.specs.declared.CheckEnd.{CheckEnd}
use Rattle.hyd_cert_check.specs.declared.outcome.CheckFault.{CheckFault}
use Rattle.hyd_as_library.specs.declared.Ended.{Ended}
use Rattle.hyd_as_library.specs.declared.Ended.TheVariants.{OutOfMemory, NoPeriod, Desk, Print}

-- ---- runs

-- The file of the name holds the certificate of a run of the network that ended so, as sharp as the settings ask, and
-- its report was printed. Every history agrees with them.
pub record IsRunAt (project : Project) (settings : Settings) (name : List ℕ) (end : RunEnd) (before now : Memory) :
    Type 0 where
  pub certificate : List ℕ
  pub report : List ℕ
  pub run : RunWrites project settings.rounds (sharpness_of settings) (outcome_of end) certificate report
  pub held : now.files name ≡ Some certificate
  pub printed : now.printed ≡ before.printed ++ report

-- A fault broke a run of the network off: the file of the name holds a front of its certificate as far as it went, and
-- a front of its report was printed. Every history agrees with them.
pub record IsRunCutShort (project : Project) (settings : Settings) (name : List ℕ) (before now : Memory) : Type 0 where
  pub certificate : List ℕ
  pub report : List ℕ
  pub run : RunBreaksOff project settings.rounds (sharpness_of settings) certificate report
  pub held : now.files name ≡ Some certificate
  pub printed : now.printed ≡ before.printed ++ report

-- The files are as they were, and nothing was printed.
pub record NothingPut (before now : Memory) : Type 0 where
  pub files : now.files ≡ before.files
  pub printed : now.printed ≡ before.printed

-- Why a run wasn't put out whole, and what stands at the desk then: where there was no memory, all is as it was; where
-- a call on the desk failed, the file couldn't be created, or the run was broken off.
abbrev pub RunFails : Project → Settings → List ℕ → Ended → Memory → Memory → Type 0
RunFails project settings name OutOfMemory before now = now ≡ before
RunFails project settings name NoPeriod before now = ⊥
RunFails project settings name Desk before now =
    NothingPut before now ⊎ IsRunCutShort project settings name before now
RunFails project settings name Print before now = ⊥

-- No file but that of the name was changed, and what is left to read of the file that was opened stays.
pub record ChangesOnly (name : List ℕ) (before now : Memory) : Type 0 where
  pub others : (other : List ℕ) → other ≢ name → now.files other ≡ before.files other
  pub unread : now.unread ≡ before.unread

-- One call on the desk failed that creates, writes or prints, or one took nothing: its count rose by one, and no other
-- did. Want of memory leaves the counts.
abbrev pub RunHasCause : Ended → Faults → Faults → Type 0
RunHasCause OutOfMemory before now = now ≡ before
RunHasCause NoPeriod before now = ⊥
RunHasCause Desk before now = (fault : OutFault) × OneRose fault before now
RunHasCause Print before now = ⊥

-- ---- checks

-- A check of the file of the name came to its end, and its report was printed: what the file holds was accepted as the
-- certificate of a run of the network, and every history agrees with it, or it was refused by one of its lines, by a
-- record or by its END line.
pub record IsCheckAt (project : Project) (name : List ℕ) (end : CheckEnd) (before now : Memory) : Type 0 where
  pub certificate : List ℕ
  pub report : List ℕ
  pub held : before.files name ≡ Some certificate
  pub check : CheckEnds project certificate report end
  pub printed : now.printed ≡ before.printed ++ report

-- A fault broke a check of the file of the name off: a front of its report was printed.
pub record IsCheckCutShort (project : Project) (name : List ℕ) (before now : Memory) : Type 0 where
  pub certificate : List ℕ
  pub report : List ℕ
  pub held : before.files name ≡ Some certificate
  pub check : CheckBreaksOff project certificate report
  pub printed : now.printed ≡ before.printed ++ report

-- Why a check didn't come to its end, and what was printed then: where there was no memory, all is as it was; where a
-- call on the desk failed, the file couldn't be opened, or the check was broken off.
abbrev pub CheckFails : Project → List ℕ → Ended → Memory → Memory → Type 0
CheckFails project name OutOfMemory before now = now ≡ before
CheckFails project name NoPeriod before now = ⊥
CheckFails project name Desk before now = NothingPut before now ⊎ IsCheckCutShort project name before now
CheckFails project name Print before now = ⊥

-- No file was changed, nor to which one is written.
pub record LeavesFiles (before now : Memory) : Type 0 where
  pub files : now.files ≡ before.files
  pub target : now.target ≡ before.target
  pub ready : now.ready ≡ before.ready

-- One call on the desk failed that opens, reads or prints, or one took nothing: its count rose by one, and no other
-- did. Want of memory leaves the counts.
abbrev pub CheckHasCause : Ended → Faults → Faults → Type 0
CheckHasCause OutOfMemory before now = now ≡ before
CheckHasCause NoPeriod before now = ⊥
CheckHasCause Desk before now = (fault : CheckFault) × Rose fault before now
CheckHasCause Print before now = ⊥
