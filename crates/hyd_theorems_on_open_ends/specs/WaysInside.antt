-- Which way in which a period ends lies inside another, and what becomes of a period under a record.
-- Source: this program's.
use Rattle.std.specs.Prelude.{◌≡◌, ℕ, ◌≤◌}
use Rattle.hyd_spec.specs.ProgramTypes.{Project}
use Rattle.hyd_spec_certificates.specs.PeriodNetwork.{Grid}
use Rattle.hyd_spec_certificates.specs.RecordAndStanding.{Record}
use Rattle.hyd_spec_certificates.specs.Decided.{End, ByRules as EndsByRules, WithoutRules}
use Rattle.hyd_spec_open_ends.specs.OpenStandings.{OpenStanding}
use Rattle.hyd_spec_open_ends.specs.OpenEnds.{Way, ByRules, ByInstant, ByWatched, EndsIn, late_at_end, IsFirstOpen}

-- A way of one kind lies inside another of that kind: rules and the clock end the period at the same second, and the
-- seconds of what is watched, which are in order, lie between those of the other.
abbrev pub IsWayInside : Way → Way → Type 0
IsWayInside (ByRules a) (ByRules b) = b ≡ a
IsWayInside (ByInstant a) (ByInstant b) = b ≡ a
IsWayInside (ByWatched a b) (ByWatched c d) = (c ≤ a) × ((a ≤ b) × (b ≤ d))
IsWayInside way other = ⊥

-- What becomes of a period under a record, where an end may be open by at most `slack` seconds: it ends in a way, or
-- some matter is open first.
pub data HasFate (project : Project) (grid : Grid) (standing : OpenStanding) (row : Record) (slack : ℕ) : Type 0 where
  Ends : (way : Way) → EndsIn project grid standing row way → late_at_end standing.late way ≤ slack
      → HasFate project grid standing row slack
  IsOpen : (end : End) → IsFirstOpen project grid standing row slack end → HasFate project grid standing row slack

-- The end of a period without open ends that a way is, where it is open by no second.
abbrev pub known_end : Way → End
known_end (ByRules seconds) = EndsByRules seconds
known_end (ByInstant seconds) = WithoutRules seconds
known_end (ByWatched earliest latest) = WithoutRules earliest
