-- Where the lines of a certificate text stand, which line can stand where, and where a text is at fault.
use Rattle.std.specs.Prelude.{◌≡◌, ◌≢◌, ℕ, suc, ◌+◌, ◌*◌, ◌/◌, ◌%◌, ◌==◌, nat_lt, ℤ, List, [], ◌∷◌, ◌++◌, Option, Some}
use Rattle.std.specs.Prelude.{◌⊎◌, codes, if◌then◌else◌}
use Rattle.std.specs.Fmt.{signed_decimal}
use Rattle.hyd_io.specs.DeskBytes.{prepend_known}
use Rattle.hyd_cert.specs.Lines.{Header, IsHeaderLine, IsPeriodLine, IsHeadLine, IsEndLine}

-- ---- places

-- Where a line stands: first; where a record begins or the END line stands; where the head of this number of a record
-- stands, counted from 0 over all vectors; and behind the END line.
pub data Place : Type 0 where
  First : Place
  Between : Place
  Head : ℕ → Place
  Over : Place

-- The key of a vector, and a space: the vectors of a record are numbered from 0.
abbrev pub front_of : ℕ → List ℕ
front_of vector =
    if vector == 0 then codes "MU "
    else (if vector == 1 then codes "ML " else (if vector % 2 == 0 then codes "PU " else codes "PL "))

-- That of the vector in which the head of this number stands.
abbrev pub front_at : ℕ → ℕ → List ℕ
front_at junctions i = front_of (i / junctions)

-- How many heads a record has.
abbrev pub heads_in : ℕ → ℕ → ℕ
heads_in junctions tanks = junctions * (2 + 2 * tanks)

-- The place behind so many heads of a record.
abbrev pub place_after : ℕ → ℕ → Place
place_after heads i = if nat_lt i heads then Head i else Between

-- The line can stand at the place, and the next one then stands at the place after it.
abbrev pub CanStand : Header → Place → List ℕ → Place → Type 0
CanStand header First line next = IsHeaderLine header line × (next ≡ Between)
CanStand header Between line next =
    (IsPeriodLine line × (next ≡ place_after (heads_in header.junctions header.tanks) 0))
    ⊎ (IsEndLine line × (next ≡ Over))
CanStand header (Head i) line next =
    IsHeadLine (front_at header.junctions i) line
    × (next ≡ place_after (heads_in header.junctions header.tanks) (i + 1))
CanStand header Over line next = ⊥

-- The line can stand at the place, where the first line may be any header line: whether it has the right version and
-- counts is a question of its own.
abbrev pub MayStand : Header → Place → List ℕ → Place → Type 0
MayStand header First line next = (other : Header) × IsHeaderLine other line
MayStand header Between line next = CanStand header Between line next
MayStand header (Head i) line next = CanStand header (Head i) line next
MayStand header Over line next = ⊥

-- ---- texts

-- From a place on, the text has lines that can stand where they do, up to the END line, and nothing more.
pub data Goes (header : Header) : Place → List ℕ → Type 0 where
  ends : Goes header Over []
  goes : {place next : Place} (line : List ℕ) {rest : List ℕ} → CanStand header place line next
      → Goes header next rest → Goes header place (line ++ (10 ∷ rest))

-- No such line begins the text, if it is told.
abbrev pub Lacks : (List ℕ → Type 0) → Option (List ℕ) → Type 0
Lacks IsSuch text = (line rest : List ℕ) → IsSuch line → text ≢ Some (line ++ (10 ∷ rest))

-- Of a text that goes on at a place, the line of this number, counted from 1, is the first that can't stand where it
-- does: no line that may begins what is left there, or the END line was and something is left.
pub data IsFault (header : Header) : Place → Option (List ℕ) → ℕ → Type 0 where
  here : {place : Place} {text : Option (List ℕ)}
      → ((next : Place) → Lacks (λ line. MayStand header place line next) text)
      → (place ≡ Over → text ≢ Some []) → IsFault header place text 1
  later : {place next : Place} (line : List ℕ) {rest : Option (List ℕ)} {number : ℕ} → CanStand header place line next
      → IsFault header next rest number
      → IsFault header place (prepend_known (line ++ (10 ∷ [])) rest) (suc number)

-- The lines of the heads from this number on.
abbrev pub head_text : ℕ → ℕ → List ℤ → List ℕ
head_text junctions i [] = []
head_text junctions i (u ∷ us) =
    front_at junctions i ++ (signed_decimal u ++ (10 ∷ head_text junctions (i + 1) us))
