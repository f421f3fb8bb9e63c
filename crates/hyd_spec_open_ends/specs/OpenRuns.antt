-- Runs whose ends of periods may be open by some seconds, and what they promise of every history that keeps what it
-- reaches.
-- Source: this program's.
use Rattle.std.specs.Prelude.{◌≡◌, ℕ, ◌+◌, ◌≤◌, ◌<ℤ◌, List, [], ◌∷◌, ⊤}
use Rattle.hyd_spec.specs.ProgramTypes.{Project}
use Rattle.hyd_spec.specs.Lists.{Each}
use Rattle.hyd_spec.specs.Scale.{at_scale}
use Rattle.hyd_spec.specs.Assignment.{head_at}
use Rattle.hyd_spec.specs.PeriodLength.{Period}
use Rattle.hyd_spec.specs.History.{IsHistory}
use Rattle.hyd_spec_certificates.specs.PeriodNetwork.{Grid}
use Rattle.hyd_spec_certificates.specs.Decided.{links_at}
use Rattle.hyd_spec_open_ends.specs.KeptLevels.{KeepsWhatItReaches}
use Rattle.hyd_spec_open_ends.specs.OpenStandings.{OpenStanding, OpenRecord, initial_open_standing}
use Rattle.hyd_spec_open_ends.specs.OpenRecords.{IsValidOpenly}

-- A period of a run, and what is known of it: the standing at its start, its grid and its record, and the standing that
-- it leaves.
pub record OpenFound : Type 0 where
  pub standing : OpenStanding
  pub grid : Grid
  pub found : OpenRecord
  pub next : OpenStanding

-- One period after another, from one standing to another. Each record is valid, and no end is open by more seconds than
-- the slack.
pub data IsOpenRunFrom (project : Project) (slack : ℕ) : OpenStanding → List OpenFound → OpenStanding → Type 0 where
  none : {standing : OpenStanding} → IsOpenRunFrom project slack standing [] standing
  more : {last : OpenStanding} {here : OpenFound} {rest : List OpenFound}
      → IsValidOpenly project here.standing here.grid here.found here.next → here.next.late ≤ slack
      → IsOpenRunFrom project slack here.next rest last
      → IsOpenRunFrom project slack here.standing (here ∷ rest) last

-- A run of the network with a slack, from its start on, that leaves a standing.
abbrev pub IsOpenRun : Project → ℕ → List OpenFound → OpenStanding → Type 0
IsOpenRun project slack founds last = IsOpenRunFrom project slack (initial_open_standing project) founds last

-- A period of a history agrees with what was found: it begins in one of the seconds that the record names, lasts
-- between its two lengths, has its states, and has its heads strictly between the record's vectors.
pub record AgreesOpenly (project : Project) (S : ℕ) (period : Period) (here : OpenFound) : Type 0 where
  pub begins_after : here.found.row.time ≤ period.time
  pub begins_by : period.time ≤ here.found.row.time + here.found.late
  pub lasts_from : here.found.shortest ≤ period.length
  pub lasts_to : period.length ≤ here.found.row.length
  pub tanks : period.tanks ≡ here.standing.known.tanks
  pub links : period.links ≡ links_at project here.standing.known
  pub above_lower : Each period.assignment.heads (λ j h. at_scale S (head_at here.found.row.main.lower j) <ℤ h)
  pub below_upper : Each period.assignment.heads (λ j h. h <ℤ at_scale S (head_at here.found.row.main.upper j))

-- The periods agree with what was found, one after another, as far as both go.
abbrev pub AllAgreeOpenly : Project → ℕ → List Period → List OpenFound → Type 0
AllAgreeOpenly project S [] founds = ⊤
AllAgreeOpenly project S (period ∷ periods) [] = ⊤
AllAgreeOpenly project S (period ∷ periods) (here ∷ founds) =
    AgreesOpenly project S period here × AllAgreeOpenly project S periods founds

-- Every history of the network that keeps what it reaches, at every scale, agrees with what was found.
abbrev pub EveryKeepingHistoryAgrees : Project → List OpenFound → Type 0
EveryKeepingHistoryAgrees project founds =
    (S : ℕ) → 1 ≤ S → (history : List Period) → IsHistory project S history → KeepsWhatItReaches project S history
    → AllAgreeOpenly project S history founds
