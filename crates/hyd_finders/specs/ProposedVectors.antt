-- The vectors that a finder of certificates tells.
use Rattle.std.specs.Prelude.{◌≡◌, ℕ, ◌+◌, ◌*◌, ℤ, List, length, take, drop, Option, None, Some, ⊤}
use Rattle.hyd_spec_certificates.specs.declared.Problem.{Problem}
use Rattle.hyd_spec_certificates.specs.declared.Problem.TheVariants.{Main, Pinned}
use Rattle.hyd_spec_certificates.specs.declared.Side.{Side}
use Rattle.hyd_spec_certificates.specs.declared.Side.TheVariants.{Upper, Lower}
use Rattle.hyd_period_network.specs.NetView.{NetView}

-- the place of a problem and side among the vectors: MAIN UPPER, MAIN LOWER, then PINNED UPPER and PINNED LOWER of each
-- tank
abbrev pub place : Problem → Side → ℕ
place Main Upper = 0
place Main Lower = 1
place (Pinned tank) Upper = 2 + 2 * tank
place (Pinned tank) Lower = 3 + 2 * tank

-- a list of heads has one vector for each problem and side: n heads each, for a network with so many tanks
abbrev pub IsOfSize : ℕ → ℕ → List ℤ → Type 0
IsOfSize n tanks heads = length heads ≡ n * (2 + 2 * tanks)

-- its vector of a problem and side
abbrev pub told_vector : List ℤ → ℕ → Problem → Side → List ℤ
told_vector heads n problem side = take n (drop (n * place problem side) heads)

-- a finder that tells a list of the net's size leaves that list's vector of the problem and side; any other, anything
abbrev pub Leaves : Option (List ℤ) → NetView → Problem → Side → List ℤ → Type 0
Leaves None net problem side out = ⊤
Leaves (Some heads) net problem side out =
    IsOfSize (length net.junctions) (length net.tanks) heads
    → out ≡ told_vector heads (length net.junctions) problem side
