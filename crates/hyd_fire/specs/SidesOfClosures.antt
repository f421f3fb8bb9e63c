-- What a closure leaves: a vector for each side, and what was found of it on the grid of that side.
-- Source: this program's.
use Rattle.std.specs.Prelude.{◌≡◌, ◌⊎◌, ℕ, ◌≤ℤ◌, ℤ, List, length, slice_get, Some, Bool, true, false, IsTrue}
use Rattle.std.specs.Prelude.{◌&&◌, int_le, if◌then◌else◌}
use Rattle.hyd_spec.specs.Assignment.{head_at}
use Rattle.hyd_spec_certificates.specs.declared.Problem.TheVariants.{Main}
use Rattle.hyd_spec_certificates.specs.declared.Side.{Side}
use Rattle.hyd_spec_certificates.specs.declared.Side.TheVariants.{Upper, Lower}
use Rattle.hyd_spec_certificates.specs.declared.LevelSpan.{LevelSpan}
use Rattle.hyd_spec_certificates.specs.PeriodNetwork.{Grid}
use Rattle.hyd_spec_certificates.specs.Certificate.{IsCertificate, IsTight}
use Rattle.hyd_spec_pressure_targets.specs.ClosureWords.{HasNoneOn, AreSpentOn}
use Rattle.hyd_spec_pressure_targets.specs.declared.ClosureWord.{ClosureWord}
use Rattle.hyd_spec_pressure_targets.specs.declared.ClosureWord.TheVariants.{Safe as SafeWord, Low as LowWord}
use Rattle.hyd_spec_pressure_targets.specs.declared.ClosureWord.TheVariants.{Unsure, NoCertificate as NoWord}
use Rattle.hyd_spec_pressure_targets.specs.declared.ClosureWord.TheVariants.{RoundsSpent as SpentWord}
use Rattle.hyd_spec_spread_runs.specs.OutermostPairs.{Pair}
use Rattle.hyd_fire.specs.declared.answers.Found.{Found}
use Rattle.hyd_fire.specs.declared.answers.Found.TheVariants.{Tight, Passing, NoCertificate, RoundsSpent}
use Rattle.hyd_fire.specs.declared.answers.Sides.{Sides}
use Rattle.hyd_fire.specs.StudyView.{StudyView}

-- ---- one side

-- what was found is so of the vector that stands there
abbrev pub IsFoundOn : Grid → ℕ → Side → List ℤ → Found → Type 0
IsFoundOn grid rounds side u Tight = IsTight grid Main side u
IsFoundOn grid rounds side u Passing = IsCertificate grid Main side u
IsFoundOn grid rounds side u NoCertificate = HasNoneOn grid side
IsFoundOn grid rounds side u RoundsSpent = AreSpentOn grid rounds side

-- a vector stands there
abbrev pub has_vector : Found → Bool
has_vector Tight = true
has_vector Passing = true
has_vector NoCertificate = false
has_vector RoundsSpent = false

-- ---- both sides

-- the vectors that stand there show the word of junction j with the target between two heads: SAFE or LOW
abbrev pub IsShownBy : StudyView → Sides → ℕ → LevelSpan → Type 0
IsShownBy left sides j target = (IsTrue (has_vector sides.lower) × (target.hi ≤ℤ head_at left.lower j))
    ⊎ (IsTrue (has_vector sides.upper) × (head_at left.upper j ≤ℤ target.lo))

-- they show that of each junction
abbrev pub AreAllShown : StudyView → Sides → List LevelSpan → Type 0
AreAllShown left sides targets =
    (j : ℕ) (target : LevelSpan) → slice_get targets j ≡ Some target → IsShownBy left sides j target

-- what a closure leaves, the UPPER vector on the UPPER grid and the LOWER one on the LOWER grid
pub record IsLeft (pair : Pair) (rounds : ℕ) (targets : List LevelSpan) (left : StudyView) (sides : Sides) : Type 0
  where
    pub upper_each : length left.upper ≡ length pair.upper.junctions
    pub lower_each : length left.lower ≡ length pair.lower.junctions
    pub upper : IsFoundOn pair.upper rounds Upper left.upper sides.upper
    pub lower : IsFoundOn pair.lower rounds Lower left.lower sides.lower
    pub upper_passing : sides.upper ≡ Passing → AreAllShown left sides targets ⊎ AreSpentOn pair.upper rounds Upper
    pub lower_passing : sides.lower ≡ Passing → AreAllShown left sides targets ⊎ AreSpentOn pair.lower rounds Lower

-- the word of a junction of which the vectors show none: that there is no certificate where one side has none and the
-- other has none or its tight vector, and that it is unsure where both are tight
abbrev pub word_without : Sides → ClosureWord
word_without sides = by sides.upper sides.lower
  where
    by : Found → Found → ClosureWord
    by Tight Tight = Unsure
    by NoCertificate Tight = NoWord
    by Tight NoCertificate = NoWord
    by NoCertificate NoCertificate = NoWord
    by upper lower = SpentWord

-- the word of junction j with the target between two heads, by the vectors that stand there: SAFE before LOW
abbrev pub word_by : StudyView → Sides → ℕ → LevelSpan → ClosureWord
word_by left sides j target =
    if has_vector sides.lower && int_le target.hi (head_at left.lower j) then SafeWord
    else if has_vector sides.upper && int_le (head_at left.upper j) target.lo then LowWord
    else word_without sides
