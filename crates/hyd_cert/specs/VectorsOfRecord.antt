-- The vectors of a record in one list of heads: with all tanks alike, the UPPER one and the LOWER one, then these two
-- with each tank pinned in turn.
use Rattle.std.specs.Prelude.{◌≡◌, ℕ, zero, suc, ◌+◌, ◌*◌, ℤ, List, [], ◌∷◌, length, take, drop}
use Rattle.hyd_spec_certificates.specs.declared.Problem.{Problem}
use Rattle.hyd_spec_certificates.specs.declared.Problem.TheVariants.{Main, Pinned}
use Rattle.hyd_spec_certificates.specs.declared.Side.{Side}
use Rattle.hyd_spec_certificates.specs.declared.Side.TheVariants.{Upper, Lower}
use Rattle.hyd_spec_certificates.specs.RecordAndStanding.{Vectors}
use Rattle.hyd_cert.specs.PlacesOfLines.{heads_in}

-- The list has a head for each junction in each vector.
abbrev pub AreVectors : ℕ → ℕ → List ℤ → Type 0
AreVectors junctions tanks heads = length heads ≡ heads_in junctions tanks

-- The two vectors that a list of heads begins with.
abbrev pub two_vectors : ℕ → List ℤ → Vectors
two_vectors junctions heads = record { upper = take junctions heads; lower = take junctions (drop junctions heads) }

-- What follows them.
abbrev pub behind_two : ℕ → List ℤ → List ℤ
behind_two junctions heads = drop junctions (drop junctions heads)

-- The vectors of so many problems, one after another.
abbrev pub problems_in : ℕ → ℕ → List ℤ → List Vectors
problems_in junctions zero heads = []
problems_in junctions (suc more) heads =
    two_vectors junctions heads ∷ problems_in junctions more (behind_two junctions heads)

-- The number of a vector among those of a record.
abbrev pub place_in : Problem → Side → ℕ
place_in Main Upper = 0
place_in Main Lower = 1
place_in (Pinned tank) Upper = 2 * (tank + 1)
place_in (Pinned tank) Lower = 2 * (tank + 1) + 1
