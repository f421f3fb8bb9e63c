-- The lines that are printed of a bracket and of closures. Edges are printed in the flow unit of the file, the lower
-- one rounded down, the upper one up.
-- Source: this program's format.
use Rattle.std.specs.Prelude.{◌≡◌, ℕ, ℤ, pos, MatchBool, int_lt, int_le, List, [], ◌∷◌, codes}
use Rattle.hyd_num.specs.PrintedDecimals.{flow_quantity, IsRoundedDown, IsRoundedUp, decimal_text}
use Rattle.hyd_num.specs.declared.flow_units.FlowUnit.{FlowUnit}
use Rattle.hyd_spec.specs.ProgramTypes.{Project}
use Rattle.hyd_spec_certificates.specs.CertificateText.{line}
use Rattle.hyd_spec_reports.specs.ReportLine.{node_id, link_id}
use Rattle.hyd_spec_pressure_targets.specs.declared.Edge.{Edge}
use Rattle.hyd_spec_pressure_targets.specs.declared.Edge.TheVariants.{Flow, NoCertificate as NoVector}
use Rattle.hyd_spec_pressure_targets.specs.declared.Edge.TheVariants.{RoundsSpent as NoRounds}
use Rattle.hyd_spec_pressure_targets.specs.declared.Bracket.{Bracket}
use Rattle.hyd_spec_pressure_targets.specs.declared.ClosureWord.{ClosureWord}
use Rattle.hyd_spec_pressure_targets.specs.declared.ClosureWord.TheVariants.{Safe, Low, NoCertificate, RoundsSpent}
use Rattle.hyd_spec_pressure_targets.specs.declared.ClosureWord.TheVariants.{Unsure}

-- ---- edges

-- A flow rounded down to four decimals.
pub record IsDownText (unit : FlowUnit) (ticks : ℤ) (text : List ℕ) : Type 0 where
  pub count : ℤ
  pub rounded : IsRoundedDown (flow_quantity unit ticks) count
  pub text_is : text ≡ decimal_text count

-- A flow rounded up.
pub record IsUpText (unit : FlowUnit) (ticks : ℤ) (text : List ℕ) : Type 0 where
  pub count : ℤ
  pub rounded : IsRoundedUp (flow_quantity unit ticks) count
  pub text_is : text ≡ decimal_text count

-- The lower edge: `NONE` where it is below 0, since no draw is then known to leave the pressure above the target.
abbrev pub IsBelowText : FlowUnit → Edge → List ℕ → Type 0
IsBelowText unit (Flow draw) text = MatchBool (int_lt draw (pos 0)) (text ≡ codes "NONE") (IsDownText unit draw text)
IsBelowText unit NoVector text = text ≡ codes "NOCERT"
IsBelowText unit NoRounds text = text ≡ codes "ROUNDS"

-- The upper edge: `0.0000` where it is at most 0.
abbrev pub IsAboveText : FlowUnit → Edge → List ℕ → Type 0
IsAboveText unit (Flow draw) text = MatchBool (int_le draw (pos 0)) (text ≡ codes "0.0000") (IsUpText unit draw text)
IsAboveText unit NoVector text = text ≡ codes "NOCERT"
IsAboveText unit NoRounds text = text ≡ codes "ROUNDS"

-- `FIRE id a b`.
pub record IsFireLine (project : Project) (j : ℕ) (bracket : Bracket) (printed : List ℕ) : Type 0 where
  pub below : List ℕ
  pub above : List ℕ
  pub below_is : IsBelowText project.options.unit bracket.below below
  pub above_is : IsAboveText project.options.unit bracket.above above
  pub is_line : printed ≡ line (codes "FIRE" ∷ (node_id project j ∷ (below ∷ (above ∷ []))))

-- ---- closures

-- `SHUT id`.
abbrev pub shut_line : Project → ℕ → List ℕ
shut_line project pipe = line (codes "SHUT" ∷ (link_id project pipe ∷ []))

-- The text of a word. SAFE isn't printed.
abbrev pub word_text : ClosureWord → List ℕ
word_text Safe = codes "SAFE"
word_text Low = codes "LOW"
word_text NoCertificate = codes "NOCERT"
word_text RoundsSpent = codes "ROUNDS"
word_text Unsure = codes "UNSURE"

-- `JUNCTION id WORD` of a junction that isn't safe, and nothing of one that is.
abbrev pub word_line : Project → ℕ → ClosureWord → List ℕ
word_line project j Safe = []
word_line project j Low = line (codes "JUNCTION" ∷ (node_id project j ∷ (word_text Low ∷ [])))
word_line project j NoCertificate = line (codes "JUNCTION" ∷ (node_id project j ∷ (word_text NoCertificate ∷ [])))
word_line project j RoundsSpent = line (codes "JUNCTION" ∷ (node_id project j ∷ (word_text RoundsSpent ∷ [])))
word_line project j Unsure = line (codes "JUNCTION" ∷ (node_id project j ∷ (word_text Unsure ∷ [])))
