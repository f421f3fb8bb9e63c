-- What a desk on real files tells, and what it says of its calls besides the clauses of every desk.
use Rattle.std.specs.Prelude.{◌≡◌, ℕ, Bool, false, not, List, [], take, Option, Some, None, MatchOption}
use Rattle.std.specs.Io.KnownBytes.{Keeps, Appends, Consumes, IsAtEnd}
use Rattle.hyd_io.specs.declared.desk.Faults.{Faults}
use Rattle.hyd_io.specs.declared.desk.Openings.{Openings}

-- Whether a file is open to be read, whether a file was created and the last `create` succeeded, the two kinds of
-- counts, and, where the file itself tells them, the bytes that are left in the one and those that the other holds.
pub record FilesState : Type 0 where
  pub reading : Bool
  pub ready : Bool
  pub counts : Faults
  pub openings : Openings
  pub unread : Option (List ℕ)
  pub content : Option (List ℕ)

-- no call was made
abbrev pub untouched : FilesState
untouched = record {
  reading = false;
  ready = false;
  counts = record { read = 0; write = 0; print = 0; stall = 0 };
  openings = record { opened = 0; created = 0 };
  unread = None;
  content = None;
}

-- the file that is read stays, and all that is left in it
pub record KeepsInput (old new : FilesState) : Type 0 where
  pub reading : new.reading ≡ old.reading
  pub unread : new.unread ≡ old.unread

-- a file is then open to be read exactly where the call didn't fail; the file that is written stays
pub record OpensFile (old : FilesState) (failed : Bool) (new : FilesState) : Type 0 where
  pub reading : new.reading ≡ not failed
  pub content : new.content ≡ old.content

-- A read gives the front of what was left in the file, and takes it: nothing only where nothing is left. A failed one
-- takes nothing. The file that is written stays.
pub record ReadsFile (old : FilesState) (given : Option (List ℕ)) (new : FilesState) : Type 0 where
  pub reading : new.reading ≡ old.reading
  pub taken : MatchOption given (Keeps old.unread new.unread) (Consumes old.unread new.unread)
  pub end : given ≡ Some [] → IsAtEnd new.unread
  pub content : new.content ≡ old.content

-- A write appends to the file the front of the piece that it took. A failed one appends nothing. The file that is read
-- stays.
pub record WritesFile (old : FilesState) (piece : List ℕ) (taken : Option ℕ) (new : FilesState) : Type 0 where
  pub input : KeepsInput old new
  pub appended : MatchOption taken (Keeps old.content new.content) (λ n. Appends old.content new.content (take n piece))

-- both files stay
pub record PrintsAside (old new : FilesState) : Type 0 where
  pub input : KeepsInput old new
  pub content : new.content ≡ old.content
