-- What is known of the seconds of a period whose start is open, and of its end.
use Rattle.std.specs.Prelude.{◌≡◌, ◌⊎◌, ℕ, ◌+◌, ◌-◌, ◌<◌, ◌≤◌, List, ⊤}
use Rattle.hyd_spec.specs.ProgramTypes.{Project, LinkState}
use Rattle.hyd_spec.specs.declared.Change.{Change}
use Rattle.hyd_spec_certificates.specs.PeriodNetwork.{Grid}
use Rattle.hyd_spec_certificates.specs.RecordAndStanding.{Record}
use Rattle.hyd_spec_open_ends.specs.OpenStandings.{OpenStanding}
use Rattle.hyd_spec_open_ends.specs.OpenEnds.{Way, ByRules, ByInstant, ByWatched, AreSeconds, EndsIn}
use Rattle.hyd_spec_open_ends.specs.OpenRecords.{links_left}
use Rattle.hyd_open_watches.specs.declared.seconds.Seconds.{Seconds}
use Rattle.hyd_open_ends.specs.Ways.{changes_left}

-- the end by what is watched comes before the next instant from each start, and is open by at most the slack
abbrev pub IsNarrow : ℕ → ℕ → Seconds → Type 0
IsNarrow late slack seconds =
    (late + seconds.latest < seconds.cap) × ((late + seconds.latest) - seconds.earliest ≤ slack)

-- up to this second the rules are tried: the last of that end where it is narrow, else the first
abbrev pub IsLastTried : ℕ → ℕ → Seconds → ℕ → Type 0
IsLastTried late slack seconds last = (IsNarrow late slack seconds × (last ≡ late + seconds.latest))
    ⊎ ((IsNarrow late slack seconds → ⊥) × (last ≡ seconds.earliest))

-- they are the seconds of the period of a record, whose start is open so long, and up to this one the rules are tried
pub record AreOf (project : Project) (grid : Grid) (standing : OpenStanding) (row : Record) (late slack : ℕ)
    (seconds : Seconds) (last : ℕ) : Type 0 where
  pub late_is : standing.late ≡ late
  pub seconds_are : AreSeconds project grid standing.known row seconds.cap seconds.earliest seconds.latest
  pub last_is : IsLastTried late slack seconds last

-- it isn't the rules that end it
abbrev pub IsQuiet : Way → Type 0
IsQuiet (ByRules seconds) = ⊥
IsQuiet (ByInstant seconds) = ⊤
IsQuiet (ByWatched earliest latest) = ⊤

-- it ends so, with the links commanded there, and the changes behind those before
pub record EndsByRules (project : Project) (grid : Grid) (standing : OpenStanding) (row : Record)
    (before after : List Change) (links : List LinkState) (way : Way) : Type 0 where
  pub ends : EndsIn project grid standing row way
  pub links_are : links ≡ links_left project grid standing row way
  pub changes_are : after ≡ changes_left project grid standing row before way
