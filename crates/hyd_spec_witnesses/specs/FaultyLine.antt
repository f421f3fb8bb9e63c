-- What it means that a text is at fault in a line: the lines before it begin a witness of the network, and with it, the
-- end of the text counted in, they begin none.
-- Source: this program's format.
use Rattle.std.specs.Prelude.{◌≡◌, ◌≢◌, ℕ, ◌+◌, List, [], ◌∷◌, ◌++◌, ◌⊎◌}
use Rattle.std.specs.List.{AllByRecursion}
use Rattle.hyd_spec_certificates.specs.CertificateText.{line_feeds}
use Rattle.hyd_spec_witnesses.specs.MetPeriods.{Moment}
use Rattle.hyd_spec_witnesses.specs.WitnessText.{Counts, IsWitnessText}

-- The text is a witness for so many of each.
pub record IsWitness (counts : Counts) (text : List ℕ) : Type 0 where
  pub scale : ℕ
  pub moments : List Moment
  pub is_text : IsWitnessText counts text scale moments

-- The text has no line feed.
abbrev pub IsOneLine : List ℕ → Type 0
IsOneLine text = AllByRecursion (λ c. c ≢ 10) text

-- The text is whole lines.
abbrev pub IsLines : List ℕ → Type 0
IsLines text = (text ≡ []) ⊎ ((body : List ℕ) × (text ≡ body ++ (10 ∷ [])))

-- The other text begins with the first line of the text: that line and its line feed, whatever follows; or, where the
-- text has no line feed, the whole of it with its end.
pub data HasFirstLine (text : List ℕ) : List ℕ → Type 0 where
  ended : (line rest after : List ℕ) → IsOneLine line → text ≡ line ++ (10 ∷ rest)
      → HasFirstLine text (line ++ (10 ∷ after))
  unended : IsOneLine text → HasFirstLine text text

-- The line of this number, counted from 1, is the first with which, the end of the text counted in, the text begins no
-- witness: the lines before it begin one, and no text that goes on from them with this line is one.
pub record IsFaultyLine (counts : Counts) (text : List ℕ) (number : ℕ) : Type 0 where
  pub front : List ℕ
  pub rest : List ℕ
  pub parts : text ≡ front ++ rest
  pub lines : IsLines front
  pub count : line_feeds front + 1 ≡ number
  pub more : List ℕ
  pub goes_on : IsWitness counts (front ++ more)
  pub stops : (after : List ℕ) → HasFirstLine rest after → IsWitness counts (front ++ after) → ⊥
