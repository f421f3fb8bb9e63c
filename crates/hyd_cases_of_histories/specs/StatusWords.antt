-- Status words of links, each at the places where it begins to hold.
use Rattle.std.specs.Prelude.{◌≡◌, ◌⊎◌, ℕ, ℤ, pos, Bool, List, [], ◌∷◌}
use Rattle.std.proofs.Common.{lit≤}
use Rattle.hyd_net.specs.ListView.{ListView, listed}
use Rattle.hyd_spec.specs.ProgramTypes.{Decimal, HeadPoint, LinkKind, LinkState}
use Rattle.hyd_spec_certificates.specs.declared.StatusWord.{StatusWord}
use Rattle.hyd_spec_certificates.specs.declared.StatusWord.TheVariants.{Unsure as WordUnsure}
use Rattle.hyd_spec_certificates.specs.StatusesOfLinks.{StatusHolds}

-- The word holds of a link in its state, at scale S and head difference x, and beside UNSURE, which always does, no
-- other.
pub record HoldsAlone (us : Bool) (bends : List (ListView HeadPoint)) (word : StatusWord) (kind : LinkKind)
    (state : LinkState) (S : ℕ) (x : ℤ) : Type 0 where
  pub holds : StatusHolds us bends word kind state S x
  pub alone : (other : StatusWord) → StatusHolds us bends other kind state S x → (other ≡ word) ⊎ (other ≡ WordUnsure)

-- The head of a pump's curve of one point, 30 m: its shutoff head is 40 m.
abbrev pub thirty : Decimal
thirty = record { nano = pos 30000000000; bounded = lit≤ tt }

-- A pump's curve by straight lines: 40, 35, 25 and 10 m at 0, 100, 200 and 300 cubic metres a day.
abbrev pub falling : List (ListView HeadPoint)
falling =
    listed (
    record { flow = pos 0; head = pos 400000000000000 }
    ∷ record { flow = pos 1000000000; head = pos 350000000000000 }
    ∷ record { flow = pos 2000000000; head = pos 250000000000000 }
    ∷ record { flow = pos 3000000000; head = pos 100000000000000 }
    ∷ []
    ) ∷ []
