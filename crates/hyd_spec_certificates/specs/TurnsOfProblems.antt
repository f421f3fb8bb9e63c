-- The order in which vectors of a period are sought, and where rounds begin.
-- Source: this program's.
use Rattle.std.specs.Prelude.{ℕ, ◌+◌, ◌*◌, ◌<◌, ℤ, pos, neg_ℤ, List, replicate}
use Rattle.hyd_spec.specs.ProgramTypes.{Project}
use Rattle.hyd_spec_certificates.specs.declared.Problem.{Problem}
use Rattle.hyd_spec_certificates.specs.declared.Problem.TheVariants.{Main, Pinned}
use Rattle.hyd_spec_certificates.specs.declared.Side.{Side}
use Rattle.hyd_spec_certificates.specs.declared.Side.TheVariants.{Upper, Lower}
use Rattle.hyd_spec_certificates.specs.PeriodNetwork.{Grid}
use Rattle.hyd_spec_certificates.specs.Certificate.{box_limit, IsCertificate}
use Rattle.hyd_spec_certificates.specs.Valid.{IsProblem}

-- The turn of a problem and side in a period: MAIN UPPER, MAIN LOWER, then both sides of each tank pinned, in order.
abbrev pub turn : Problem → Side → ℕ
turn Main Upper = 0
turn Main Lower = 1
turn (Pinned tank) Upper = 2 * tank + 2
turn (Pinned tank) Lower = 2 * tank + 3

-- Every problem and side whose turn comes before has a certificate on the grid.
abbrev pub EarlierHaveCertificates : Project → Grid → Problem → Side → Type 0
EarlierHaveCertificates project grid problem side =
    (earlier : Problem) (other : Side) → IsProblem project earlier → turn earlier other < turn problem side
    → (u : List ℤ) × IsCertificate grid earlier other u

-- The vector from which rounds begin: each head at the floor of the box for UPPER, at its ceiling for LOWER.
abbrev pub beginning : Side → ℕ → List ℤ
beginning Upper count = replicate count (neg_ℤ (pos box_limit))
beginning Lower count = replicate count (pos box_limit)
