-- What a desk tells of its contents, and what of them a call has left.
-- Source: this program's.
use Rattle.std.specs.Prelude.{◌≡◌, ◌≢◌, ℕ, List, Option}
use Rattle.hyd_io.specs.DeskBytes.{Files, append_known, file_at, PutOut}

-- What a call on the desk can change of contents: the files, what was written since the last `create` that succeeded,
-- and what was printed.
pub record Seen : Type 0 where
  pub files : Option Files
  pub written : Option (List ℕ)
  pub printed : Option (List ℕ)

-- What a desk of some kind tells, by that kind's meanings.
abbrev pub seen : {S : Type 0} → (S → Option Files) → (S → Option (List ℕ)) → (S → Option (List ℕ)) → S → Seen
seen files written printed desk = record { files = files desk; written = written desk; printed = printed desk }

-- All contents are as they were: of files, of what was written, of what was printed.
pub record IsUntouched (before now : Seen) : Type 0 where
  pub files : now.files ≡ before.files
  pub written : now.written ≡ before.written
  pub printed : now.printed ≡ before.printed

-- Nothing was created or written, and the line was printed.
pub record OnlyPrinted (line : List ℕ) (before now : Seen) : Type 0 where
  pub files : now.files ≡ before.files
  pub written : now.written ≡ before.written
  pub printed : now.printed ≡ append_known before.printed line

-- Nothing was created or written, and a front of the line was printed.
pub record OnlyPrintedFront (line : List ℕ) (before now : Seen) : Type 0 where
  pub files : now.files ≡ before.files
  pub written : now.written ≡ before.written
  pub printed : PutOut before.printed now.printed line

-- Nothing was created or written, and a text was printed.
pub record OnlyPrintedSome (before now : Seen) : Type 0 where
  pub files : now.files ≡ before.files
  pub written : now.written ≡ before.written
  pub text : List ℕ
  pub printed : now.printed ≡ append_known before.printed text

-- No file but that of the name was changed.
abbrev pub ChangesOnly : List ℕ → Seen → Seen → Type 0
ChangesOnly name before now = (other : List ℕ) → other ≢ name → file_at now.files other ≡ file_at before.files other

-- All files are as they were, and what was written.
pub record FilesStay (before now : Seen) : Type 0 where
  pub files : now.files ≡ before.files
  pub written : now.written ≡ before.written
