-- What a reader of a certificate text shows, and what it stands before.
use Rattle.std.specs.Prelude.{ℕ, Bool, false, List, [], Option, Result, Ok, Err}
use Rattle.hyd_io.specs.DeskBytes.{prepend_known}
use Rattle.hyd_cert.specs.Lines.{Header, header_text}
use Rattle.hyd_cert.specs.PlacesOfLines.{Place, First as AtFirst, Between as AtBetween, Over as AtOver}
use Rattle.hyd_cert.specs.declared.answers_of_reader.Stand.{Stand}
use Rattle.hyd_cert.specs.declared.answers_of_reader.Stand.TheVariants.{First, Between, Over, Stuck}
use Rattle.hyd_cert.specs.declared.answers_of_reader.CertFault.{CertFault}
use Rattle.hyd_cert.specs.declared.answers_of_reader.CertNext.{CertNext}
use Rattle.hyd_cert.specs.declared.answers_of_reader.CertNext.TheVariants.{Record, End}

-- Where it stands, how many lines it passed, the bytes that it read ahead, and whether it read the header line of a
-- text with flows.
pub record ReaderView : Type 0 where
  pub stand : Stand
  pub line : ℕ
  pub ahead : List ℕ
  pub flows : Bool

-- A reader that has read nothing and has no fault.
abbrev pub fresh : ReaderView
fresh = record { stand = First; line = 0; ahead = []; flows = false }

-- What of the text is still to come: what was read ahead, and what the desk has left.
abbrev pub to_come : ReaderView → Option (List ℕ) → Option (List ℕ)
to_come reader rest = prepend_known reader.ahead rest

-- ---- by where it stands

-- It has answered no fault and no end yet.
abbrev pub IsGoing : Stand → Type 0
IsGoing First = Unit {0}
IsGoing Between = Unit {0}
IsGoing (Over end) = ⊥
IsGoing (Stuck fault) = ⊥

-- It has.
abbrev pub IsDone : Stand → Type 0
IsDone First = ⊥
IsDone Between = ⊥
IsDone (Over end) = Unit {0}
IsDone (Stuck fault) = Unit {0}

-- The place of the next line.
abbrev pub place_of : Stand → Place
place_of First = AtFirst
place_of Between = AtBetween
place_of (Over end) = AtOver
place_of (Stuck fault) = AtOver

-- What stands before the record that is next: the header line before the first one.
abbrev pub lead : Stand → Header → List ℕ
lead First header = header_text header
lead Between header = []
lead (Over end) header = []
lead (Stuck fault) header = []

-- How many lines stand before the heads of the record that is next.
abbrev pub lead_lines : Stand → ℕ
lead_lines First = 2
lead_lines Between = 1
lead_lines (Over end) = 0
lead_lines (Stuck fault) = 0

-- The answer that it gives again once it is done.
abbrev pub answer_of : Stand → Result CertNext CertFault
answer_of First = Ok Record
answer_of Between = Ok Record
answer_of (Over end) = Ok (End end.periods end.finished)
answer_of (Stuck fault) = Err fault

-- ---- by what it answered

-- Where it stands after an answer.
abbrev pub stand_of : Result CertNext CertFault → Stand
stand_of (Ok Record) = Between
stand_of (Ok (End periods finished)) = Over (record { periods = periods; finished = finished })
stand_of (Err fault) = Stuck fault

-- The fact, where the answer is a record.
abbrev pub OnRecord : CertNext → Type 0 → Type 0
OnRecord Record P = P
OnRecord (End periods finished) P = Unit {0}

-- The fact of the end's number and word, where the answer is the end.
abbrev pub OnEnd : CertNext → (ℕ → Bool → Type 0) → Type 0
OnEnd Record P = Unit {0}
OnEnd (End periods finished) P = P periods finished
