-- What a reader of a witness shows, and what it stands before.
use Rattle.std.specs.Prelude.{◌≡◌, ◌≢◌, ℕ, List, [], ◌++◌, Option, Some, Result, Ok, Err}
use Rattle.hyd_io.specs.DeskBytes.{prepend_known}
use Rattle.hyd_spec_witnesses.specs.MetPeriods.{Moment as Row}
use Rattle.hyd_spec_witnesses.specs.WitnessText.{Counts, IsScale, IsMoment, witness_header, moment_text}
use Rattle.hyd_spec_witnesses.specs.FaultyLine.{IsWitness}
use Rattle.hyd_witness_texts.specs.PartsOfWitness.{IsRest, LacksMoment}
use Rattle.hyd_witness_texts.specs.declared.answers_of_reader.Stand.{Stand}
use Rattle.hyd_witness_texts.specs.declared.answers_of_reader.Stand.TheVariants.{First, Between, Over, Stuck}
use Rattle.hyd_witness_texts.specs.declared.answers_of_reader.Reached.{Reached}
use Rattle.hyd_witness_texts.specs.declared.answers_of_reader.WitnessFault.{WitnessFault}
use Rattle.hyd_witness_texts.specs.declared.answers_of_reader.WitnessNext.{WitnessNext}
use Rattle.hyd_witness_texts.specs.declared.answers_of_reader.WitnessNext.TheVariants.{Moment, End}

-- The counts of the network, where it stands, how many lines it passed, and the bytes that it read ahead.
pub record ReaderView : Type 0 where
  pub counts : Counts
  pub stand : Stand
  pub line : ℕ
  pub ahead : List ℕ

-- A reader that has read nothing and has no fault.
abbrev pub fresh : Counts → ReaderView
fresh counts = record { counts = counts; stand = First; line = 0; ahead = [] }

-- What of the text is still to come: what was read ahead, and what the desk has left.
abbrev pub to_come : ReaderView → Option (List ℕ) → Option (List ℕ)
to_come reader rest = prepend_known reader.ahead rest

-- ---- by where it stands

-- It has answered no fault and no end yet.
abbrev pub IsGoing : Stand → Type 0
IsGoing First = Unit {0}
IsGoing (Between reached) = Unit {0}
IsGoing (Over reached) = ⊥
IsGoing (Stuck fault) = ⊥

-- It has.
abbrev pub IsDone : Stand → Type 0
IsDone First = ⊥
IsDone (Between reached) = ⊥
IsDone (Over reached) = Unit {0}
IsDone (Stuck fault) = Unit {0}

-- How many periods it has read.
abbrev pub periods_at : Stand → ℕ
periods_at First = 0
periods_at (Between reached) = reached.periods
periods_at (Over reached) = reached.periods
periods_at (Stuck fault) = 0

-- The scale is one that a header line can say, and that of the header line where it was read.
abbrev pub IsScaleAt : Stand → ℕ → Type 0
IsScaleAt First scale = IsScale scale
IsScaleAt (Between reached) scale = scale ≡ reached.scale
IsScaleAt (Over reached) scale = scale ≡ reached.scale
IsScaleAt (Stuck fault) scale = ⊥

-- What stands before the period that is next: the header line before the first one.
abbrev pub lead : Stand → ℕ → Counts → List ℕ
lead First scale counts = witness_header scale counts
lead (Between reached) scale counts = []
lead (Over reached) scale counts = []
lead (Stuck fault) scale counts = []

-- How many lines stand before the lists of the period that is next.
abbrev pub lead_lines : Stand → ℕ
lead_lines First = 2
lead_lines (Between reached) = 1
lead_lines (Over reached) = 0
lead_lines (Stuck fault) = 0

-- What the text still to come can be.
abbrev pub CanCome : Counts → Stand → List ℕ → Type 0
CanCome counts First = IsWitness counts
CanCome counts (Between reached) = IsRest counts reached.periods
CanCome counts (Over reached) = λ text. ⊥
CanCome counts (Stuck fault) = λ text. ⊥

-- The text still to come doesn't go on with a whole period, behind the header line where that is to come.
abbrev pub LacksNext : Counts → Stand → Option (List ℕ) → Type 0
LacksNext counts First text =
    (scale : ℕ) (moment : Row) (rest : List ℕ) → IsScale scale → IsMoment counts moment
    → text ≢ Some (witness_header scale counts ++ (moment_text moment ++ rest))
LacksNext counts (Between reached) text = LacksMoment counts reached.periods text
LacksNext counts (Over reached) text = Unit {0}
LacksNext counts (Stuck fault) text = Unit {0}

-- The answer that it gives again once it is done.
abbrev pub answer_of : Stand → Result WitnessNext WitnessFault
answer_of First = Ok (Moment (record { scale = 0; periods = 0 }))
answer_of (Between reached) = Ok (Moment reached)
answer_of (Over reached) = Ok (End reached)
answer_of (Stuck fault) = Err fault

-- ---- by what it answered

-- Where it stands after an answer.
abbrev pub stand_of : Result WitnessNext WitnessFault → Stand
stand_of (Ok (Moment reached)) = Between reached
stand_of (Ok (End reached)) = Over reached
stand_of (Err fault) = Stuck fault

-- How much was read.
abbrev pub reached_by : WitnessNext → Reached
reached_by (Moment reached) = reached
reached_by (End reached) = reached

-- The fact of how much was read, where the answer is a period.
abbrev pub OnMoment : WitnessNext → (Reached → Type 0) → Type 0
OnMoment (Moment reached) P = P reached
OnMoment (End reached) P = Unit {0}

-- The fact of how much was read, where the answer is the end.
abbrev pub OnEnd : WitnessNext → (Reached → Type 0) → Type 0
OnEnd (Moment reached) P = Unit {0}
OnEnd (End reached) P = P reached
