-- What it means that a text is at fault in a line, where it has to be such a text or to begin with one.
use Rattle.std.specs.Prelude.{◌≡◌, ℕ, ◌+◌, List, ◌++◌, Option, IfSome}
use Rattle.hyd_io.specs.declared.desk.Faults.{Faults}
use Rattle.hyd_io.specs.DeskCounts.{with_read_fault}
use Rattle.hyd_spec_certificates.specs.CertificateText.{line_feeds}
use Rattle.hyd_spec_witnesses.specs.FaultyLine.{IsLines, HasFirstLine}
use Rattle.hyd_cert.specs.PlacesOfLines.{Lacks}
use Rattle.hyd_cert.specs.Faults.{lines_on}
use Rattle.hyd_witness_texts.specs.declared.answers_of_reader.WitnessFault.{WitnessFault}
use Rattle.hyd_witness_texts.specs.declared.answers_of_reader.WitnessFault.TheVariants.{Read, Grammar}

-- The text begins with such a one.
pub record Begins (IsSuch : List ℕ → Type 0) (text : List ℕ) : Type 0 where
  pub front : List ℕ
  pub rest : List ℕ
  pub is_such : IsSuch front
  pub parts : text ≡ front ++ rest

-- The line of this number, counted from 1, is the first at which the text goes wrong: the lines before it go on to a
-- text of the one kind, and with it, the end of the text counted in, they go on to none of the other.
pub record IsFirstFault (GoesOn IsSuch : List ℕ → Type 0) (text : List ℕ) (number : ℕ) : Type 0 where
  pub front : List ℕ
  pub rest : List ℕ
  pub parts : text ≡ front ++ rest
  pub lines : IsLines front
  pub count : line_feeds front + 1 ≡ number
  pub more : List ℕ
  pub goes_on : GoesOn (front ++ more)
  pub stops : (after : List ℕ) → HasFirstLine rest after → IsSuch (front ++ after) → ⊥

-- The text has to be such a one, and its line of this number is the first with which it is none.
abbrev pub IsFaultOf : (List ℕ → Type 0) → List ℕ → ℕ → Type 0
IsFaultOf IsSuch = IsFirstFault IsSuch IsSuch

-- The text has to begin with such a one, and its line of this number is the first with which it doesn't.
abbrev pub IsFaultAtFront : (List ℕ → Type 0) → List ℕ → ℕ → Type 0
IsFaultAtFront IsSuch = IsFirstFault IsSuch (Begins IsSuch)

-- ---- what a reader answers, behind so many lines

-- Of one line: a read failed, or no such line begins the text.
abbrev pub IsLineFault : (List ℕ → Type 0) → ℕ → Option (List ℕ) → Faults → Faults → WitnessFault → Type 0
IsLineFault IsSuch line text before now Read = now ≡ with_read_fault before
IsLineFault IsSuch line text before now (Grammar number) =
    (number ≡ lines_on line 1) × Lacks IsSuch text × (now ≡ before)

-- Of a text: a read failed, or the line is the first that makes it wrong in this way.
abbrev pub IsTextFault : (List ℕ → ℕ → Type 0) → ℕ → Option (List ℕ) → Faults → Faults → WitnessFault → Type 0
IsTextFault IsWrong line text before now Read = now ≡ with_read_fault before
IsTextFault IsWrong line text before now (Grammar number) =
    (offset : ℕ) × ((number ≡ lines_on line offset) × IfSome text (λ told. IsWrong told offset) × (now ≡ before))

-- The fact, where the fault is that of a line.
abbrev pub OnGrammar : WitnessFault → Type 0 → Type 0
OnGrammar Read P = Unit {0}
OnGrammar (Grammar line) P = P
