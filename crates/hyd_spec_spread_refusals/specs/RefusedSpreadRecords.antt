-- Why a record of a certificate is refused at a standing in a check for a spread: the first of six causes that holds,
-- as without one. Demands are judged at both ends, each vector on the outermost grid of its side, and matters and
-- lengths by what both grids leave open. By how many seconds an end is open is no cause.
-- Source: this program's.
use Rattle.std.specs.Prelude.{◌≡◌, ℕ, ◌<◌, true, false, None}
use Rattle.hyd_spec.specs.ProgramTypes.{Project}
use Rattle.hyd_spec_certificates.specs.declared.Problem.{Problem}
use Rattle.hyd_spec_certificates.specs.declared.Side.{Side}
use Rattle.hyd_spec_certificates.specs.declared.CertRefused.{CertRefused}
use Rattle.hyd_spec_certificates.specs.declared.CertRefused.TheVariants.{Place, Demand, Fails, Open as MatterOpen}
use Rattle.hyd_spec_certificates.specs.declared.CertRefused.TheVariants.{Length, After}
use Rattle.hyd_spec_certificates.specs.Certificate.{IsCertificate, FailsFirst}
use Rattle.hyd_spec_certificates.specs.RecordAndStanding.{Record, vector_of}
use Rattle.hyd_spec_certificates.specs.Valid.{IsProblem}
use Rattle.hyd_spec_certificates.specs.TurnsOfProblems.{turn}
use Rattle.hyd_spec_certificates.specs.RefusedRecords.{refused_period}
use Rattle.hyd_spec_open_ends.specs.OpenStandings.{OpenStanding, OpenRecord}
use Rattle.hyd_spec_open_refusals.specs.RefusedOpenRecords.{IsDueOpenly, IsInPlaceOpenly, LeavesMatterOpen}
use Rattle.hyd_spec_open_refusals.specs.RefusedOpenRecords.{HasOtherLengths}
use Rattle.hyd_spec_spread.specs.Spreads.{Spread}
use Rattle.hyd_spec_spread_runs.specs.OutermostPairs.{Pair, grid_on, spanned}
use Rattle.hyd_spec_spread_runs.specs.RunsForSpreads.{ArePairAt, AreDemandsInRange, AreCertificatesOver}
use Rattle.hyd_spec_open_spreads.specs.OpenRunsForSpreads.{spanning_openly}

-- ---- what may be wrong

-- The first vector of the record that isn't a certificate on the grid of its side, in the order of problems and sides,
-- and the junction at which it fails first.
pub record IsFirstToFailOver (project : Project) (pair : Pair) (row : Record) (problem : Problem) (side : Side)
    (junction : ℕ) : Type 0 where
  pub is_problem : IsProblem project problem
  pub earlier : (before : Problem) (other : Side) → IsProblem project before → turn before other < turn problem side
      → IsCertificate (grid_on other pair) before other (vector_of row before other)
  pub fails : FailsFirst None (grid_on side pair) problem side (vector_of row problem side) junction

-- The certificates of the record leave a matter of the period open.
abbrev pub LeavesMatterOpenOver : Project → Pair → OpenStanding → OpenRecord → Type 0
LeavesMatterOpenOver project pair standing found =
    LeavesMatterOpen project (spanned pair) standing (spanning_openly pair found)

-- The lengths of the record aren't the decided ones.
abbrev pub HasOtherLengthsOver : Project → Pair → OpenStanding → OpenRecord → Type 0
HasOtherLengthsOver project pair standing found =
    HasOtherLengths project (spanned pair) standing (spanning_openly pair found)

-- ---- what is right where a cause comes later in order

-- The record is due, both ends of each demand of its period are in range, and these are the outermost grids of the
-- period.
pub record HasItsPair (project : Project) (spread : Spread) (standing : OpenStanding) (pair : Pair)
    (found : OpenRecord) : Type 0 where
  pub in_place : IsInPlaceOpenly standing found
  pub in_range : AreDemandsInRange project spread standing.known.time
  pub are_pair : ArePairAt project spread standing.known pair

-- And its vectors are certificates, each on the grid of its side.
pub record IsCertifiedOver (project : Project) (spread : Spread) (standing : OpenStanding) (pair : Pair)
    (found : OpenRecord) : Type 0 where
  pub has_pair : HasItsPair project spread standing pair found
  pub certificates : AreCertificatesOver project pair found.row

-- ---- the cause

-- What a cause says of a record at a standing. Those before it in the order (after the end, place, demands, vectors,
-- matters, length) don't hold.
abbrev pub IsRefusedOverBy : Project → Spread → OpenStanding → OpenRecord → CertRefused → Type 0
IsRefusedOverBy project spread standing found (After period) = standing.known.finished ≡ true
IsRefusedOverBy project spread standing found (Place period) =
    (standing.known.finished ≡ false) × (IsDueOpenly standing found → ⊥)
IsRefusedOverBy project spread standing found (Demand period) =
    IsInPlaceOpenly standing found × (AreDemandsInRange project spread standing.known.time → ⊥)
IsRefusedOverBy project spread standing found (Fails period problem side junction) =
    (pair : Pair) × (HasItsPair project spread standing pair found
    × IsFirstToFailOver project pair found.row problem side junction)
IsRefusedOverBy project spread standing found (MatterOpen period) =
    (pair : Pair) × (IsCertifiedOver project spread standing pair found
    × LeavesMatterOpenOver project pair standing found)
IsRefusedOverBy project spread standing found (Length period) =
    (pair : Pair) × (IsCertifiedOver project spread standing pair found
    × ((LeavesMatterOpenOver project pair standing found → ⊥) × HasOtherLengthsOver project pair standing found))

-- A record is refused at a standing for a spread by this cause, which names the period that was due. (This is asked of
-- records with the network's counts of junctions and tanks.)
pub record IsRefusedOver (project : Project) (spread : Spread) (standing : OpenStanding) (found : OpenRecord)
    (cause : CertRefused) : Type 0 where
  pub period_is : refused_period cause ≡ standing.known.number
  pub refused_by : IsRefusedOverBy project spread standing found cause
