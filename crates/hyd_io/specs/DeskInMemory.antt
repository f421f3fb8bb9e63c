-- What a desk in memory shows, and what it says of its calls besides the clauses of every desk.
use Rattle.std.specs.Prelude.{◌≡◌, ℕ, List, [], length, Bool, true, false, if◌then◌else◌, is_none, Option, None}
use Rattle.std.specs.Prelude.{option_map, IfSome, Vec, String, ◌==◌}
use Rattle.std.specs.List.{list_any}
use Rattle.std.specs.BTreeMap.{BTreeMap, get_by_text}
use Rattle.hyd_io.specs.declared.desk.Faults.{Faults}
use Rattle.hyd_io.specs.declared.desk.Openings.{Openings}
use Rattle.hyd_io.specs.DeskBytes.{Files}
use Rattle.hyd_io.specs.DeskCounts.{next_count}

-- what a map of files holds at a name
abbrev pub file_bytes : {A B : Type 0} → BTreeMap (String A) (Vec ℕ B) → Files
file_bytes files name = option_map (λ file. file.items) (get_by_text files name)

-- A desk in memory: its files, what is left to read, the name created last, whether it may be
-- written, what was printed, the numbers of the calls that are to fail and of those that are to
-- take nothing, how many calls, writes and prints there were, the counts of its faults, and how often it opened and
-- created.
pub record Memory : Type 0 where
  pub files : Files
  pub unread : List ℕ
  pub target : Option (List ℕ)
  pub ready : Bool
  pub printed : List ℕ
  pub failing : List ℕ
  pub starving : List ℕ
  pub calls : ℕ
  pub writes : ℕ
  pub prints : ℕ
  pub counts : Faults
  pub openings : Openings

-- a desk with no files on which nothing was done
abbrev pub empty_memory : Memory
empty_memory = record {
  files = λ _. None;
  unread = [];
  target = None;
  ready = false;
  printed = [];
  failing = [];
  starving = [];
  calls = 0;
  writes = 0;
  prints = 0;
  counts = record { read = 0; write = 0; print = 0; stall = 0 };
  openings = record { opened = 0; created = 0 };
}

-- whether the list names the call of that number
abbrev pub is_listed : List ℕ → ℕ → Bool
is_listed list call = list_any (λ n. n == call) list

-- whether the next call is to fail
abbrev pub is_to_fail : Memory → Bool
is_to_fail m = is_listed m.failing (next_count m.calls)

-- whether it is to take nothing
abbrev pub is_to_starve : Memory → Bool
is_to_starve m = is_listed m.starving (next_count m.calls)

-- one call more was counted, the lists stay, and a call that is to fail failed
pub record CountsCall (old : Memory) (failed : Bool) (new : Memory) : Type 0 where
  pub calls : new.calls ≡ next_count old.calls
  pub failing : new.failing ≡ old.failing
  pub starving : new.starving ≡ old.starving
  pub listed : is_to_fail old ≡ true → failed ≡ true

-- `open` fails also where there is no file of that name
pub record OpensToo (old : Memory) (name : List ℕ) (failed : Bool) (new : Memory) : Type 0 where
  pub counted : CountsCall old failed new
  pub absent : old.files name ≡ None → failed ≡ true
  pub writes : new.writes ≡ old.writes
  pub prints : new.prints ≡ old.prints

-- `read` fails exactly where the call is to fail, and then leaves what is left to read
pub record ReadsToo (old : Memory) (failed : Bool) (new : Memory) : Type 0 where
  pub counted : CountsCall old failed new
  pub exactly : failed ≡ is_to_fail old
  pub unread : failed ≡ true → new.unread ≡ old.unread
  pub writes : new.writes ≡ old.writes
  pub prints : new.prints ≡ old.prints

-- a failed `create` leaves all files
pub record CreatesToo (old : Memory) (failed : Bool) (new : Memory) : Type 0 where
  pub counted : CountsCall old failed new
  pub files : failed ≡ true → new.files ≡ old.files
  pub writes : new.writes ≡ old.writes
  pub prints : new.prints ≡ old.prints

-- a call that takes of the piece and doesn't fail takes nothing where it is to starve, else the
-- whole piece
abbrev pub TakesWhole : Memory → List ℕ → Option ℕ → Type 0
TakesWhole old piece taken = IfSome taken (λ n. n ≡ (if is_to_starve old then 0 else length piece))

-- a write is counted
pub record WritesToo (old : Memory) (piece : List ℕ) (taken : Option ℕ) (new : Memory) : Type 0 where
  pub counted : CountsCall old (is_none taken) new
  pub takes : TakesWhole old piece taken
  pub writes : new.writes ≡ next_count old.writes
  pub prints : new.prints ≡ old.prints

-- a print is counted
pub record PrintsToo (old : Memory) (piece : List ℕ) (taken : Option ℕ) (new : Memory) : Type 0 where
  pub counted : CountsCall old (is_none taken) new
  pub takes : TakesWhole old piece taken
  pub writes : new.writes ≡ old.writes
  pub prints : new.prints ≡ next_count old.prints
