-- Why a record of a certificate whose periods may end between two seconds is refused at a standing: the first of six
-- causes that holds, as in other certificates. By how many seconds an end is open is no cause.
-- Source: this program's.
use Rattle.std.specs.Prelude.{◌≡◌, ◌≢◌, ℕ, true, false, List, Option, Some, position}
use Rattle.hyd_spec.specs.ProgramTypes.{Project}
use Rattle.hyd_spec_certificates.specs.declared.CertRefused.{CertRefused}
use Rattle.hyd_spec_certificates.specs.declared.CertRefused.TheVariants.{Place, Demand, Fails, Open as MatterOpen}
use Rattle.hyd_spec_certificates.specs.declared.CertRefused.TheVariants.{Length, After}
use Rattle.hyd_spec_certificates.specs.Interval.{Interval}
use Rattle.hyd_spec_certificates.specs.PeriodNetwork.{Grid}
use Rattle.hyd_spec_certificates.specs.Decided.{Watch}
use Rattle.hyd_spec_certificates.specs.Valid.{IsGridAt, DemandsAreInRange, AreCertificates}
use Rattle.hyd_spec_certificates.specs.Stops.{open_states, is_open_control}
use Rattle.hyd_spec_certificates.specs.RefusedRecords.{IsFirstToFail, refused_period}
use Rattle.hyd_spec_open_ends.specs.OpenStandings.{OpenStanding, OpenRecord}
use Rattle.hyd_spec_open_ends.specs.OpenEnds.{Way, EndsIn, shortest_length, longest_length}
use Rattle.hyd_spec_open_ends.specs.Arrivals.{Arrives}
use Rattle.hyd_spec_open_ends.specs.OpenRecords.{levels_left}

-- ---- what may be wrong

-- The record has the number that is due, and its start lies in the seconds that are due.
pub record IsDueOpenly (standing : OpenStanding) (found : OpenRecord) : Type 0 where
  pub number : found.row.number ≡ standing.known.number
  pub time : found.row.time ≡ standing.known.time
  pub late : found.late ≡ standing.late

-- The record with the lengths of a way in which its period ends, in place of its own.
abbrev pub lasting : OpenStanding → OpenRecord → Way → OpenRecord
lasting standing found way = record {
  row = record found.row { length = longest_length way };
  late = found.late;
  shortest = shortest_length standing.late way;
}

-- Level intervals that are left where the period ends in the way that the certificates of the record decide, whatever
-- lengths the record has.
pub record AreLevelsLeft (project : Project) (grid : Grid) (standing : OpenStanding) (found : OpenRecord)
    (levels : List Interval) : Type 0 where
  pub way : Way
  pub ends : EndsIn project grid standing found.row way
  pub reached : Option Watch
  pub arrives : Arrives project grid standing.known found.row way reached
  pub levels_are : levels ≡ levels_left project grid standing.known (lasting standing found way) reached

-- The certificates of the record leave a matter of the period open: they decide no way in which it ends, or in the
-- decided way not a tank's state or a level control. (The period at the end of the run has no matters.)
pub data LeavesMatterOpen (project : Project) (grid : Grid) (standing : OpenStanding) (found : OpenRecord) : Type 0
  where
    end : standing.known.time ≢ project.times.duration
        → ((way : Way) → EndsIn project grid standing found.row way → ⊥)
        → LeavesMatterOpen project grid standing found
    tank : (levels : List Interval) (number : ℕ) → AreLevelsLeft project grid standing found levels
        → position (λ is_open. is_open) (open_states project levels) ≡ Some number
        → LeavesMatterOpen project grid standing found
    control : (levels : List Interval) (number : ℕ) → AreLevelsLeft project grid standing found levels
        → position (is_open_control levels) project.controls.list ≡ Some number
        → LeavesMatterOpen project grid standing found

-- The record has these lengths, the shortest and the longest.
abbrev pub HasLengths : OpenRecord → ℕ → ℕ → Type 0
HasLengths found shortest longest = (found.shortest ≡ shortest) × (found.row.length ≡ longest)

-- The lengths of the record aren't the decided ones: at the end of the run 0, else those of the way in which the period
-- ends.
pub data HasOtherLengths (project : Project) (grid : Grid) (standing : OpenStanding) (found : OpenRecord) : Type 0
  where
    at_end : standing.known.time ≡ project.times.duration → (HasLengths found 0 0 → ⊥)
        → HasOtherLengths project grid standing found
    before_end : (way : Way) → EndsIn project grid standing found.row way
        → (HasLengths found (shortest_length standing.late way) (longest_length way) → ⊥)
        → HasOtherLengths project grid standing found

-- ---- what is right where a cause comes later in order

-- The run isn't over, and the record is due.
pub record IsInPlaceOpenly (standing : OpenStanding) (found : OpenRecord) : Type 0 where
  pub unfinished : standing.known.finished ≡ false
  pub due : IsDueOpenly standing found

-- And the demands of its period are in range, and this is the grid of the period.
pub record HasItsGridOpenly (project : Project) (standing : OpenStanding) (grid : Grid) (found : OpenRecord) : Type 0
  where
    pub in_place : IsInPlaceOpenly standing found
    pub in_range : DemandsAreInRange project standing.known.time
    pub is_grid : IsGridAt project standing.known grid

-- And its vectors are certificates.
pub record IsCertifiedOpenly (project : Project) (standing : OpenStanding) (grid : Grid) (found : OpenRecord) : Type 0
  where
    pub has_grid : HasItsGridOpenly project standing grid found
    pub certificates : AreCertificates project grid found.row

-- ---- the cause

-- What a cause says of a record at a standing. Those before it in the order (after the end, place, demands, vectors,
-- matters, length) don't hold.
abbrev pub IsRefusedOpenlyBy : Project → OpenStanding → OpenRecord → CertRefused → Type 0
IsRefusedOpenlyBy project standing found (After period) = standing.known.finished ≡ true
IsRefusedOpenlyBy project standing found (Place period) =
    (standing.known.finished ≡ false) × (IsDueOpenly standing found → ⊥)
IsRefusedOpenlyBy project standing found (Demand period) =
    IsInPlaceOpenly standing found × (DemandsAreInRange project standing.known.time → ⊥)
IsRefusedOpenlyBy project standing found (Fails period problem side junction) =
    (grid : Grid) × (HasItsGridOpenly project standing grid found
    × IsFirstToFail project grid found.row problem side junction)
IsRefusedOpenlyBy project standing found (MatterOpen period) =
    (grid : Grid) × (IsCertifiedOpenly project standing grid found × LeavesMatterOpen project grid standing found)
IsRefusedOpenlyBy project standing found (Length period) =
    (grid : Grid) × (IsCertifiedOpenly project standing grid found
    × ((LeavesMatterOpen project grid standing found → ⊥) × HasOtherLengths project grid standing found))

-- A record is refused at a standing by this cause, which names the period that was due. (This is asked of records
-- with the network's counts of junctions and tanks.)
pub record IsRefusedOpenly (project : Project) (standing : OpenStanding) (found : OpenRecord) (cause : CertRefused) :
    Type 0 where
  pub period_is : refused_period cause ≡ standing.known.number
  pub refused_by : IsRefusedOpenlyBy project standing found cause
