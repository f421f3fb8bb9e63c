-- The ways in which a period ends whose start or end is known to lie between two seconds, and what is open first where
-- it ends in none of them.
-- Source: this program's; the matters are those of EPANET 2.2 User Manual, chapter 3 (tanks, controls, time steps).
use Rattle.std.specs.Prelude.{◌≡◌, ◌≢◌, ℕ, ◌+◌, ◌-◌, ◌<◌, ◌≤◌, ◌⊎◌, min}
use Rattle.hyd_spec.specs.ProgramTypes.{Project}
use Rattle.hyd_spec.specs.PeriodLength.{IsLeast}
use Rattle.hyd_spec_certificates.specs.PeriodNetwork.{Grid}
use Rattle.hyd_spec_certificates.specs.RecordAndStanding.{Record, Standing}
use Rattle.hyd_spec_certificates.specs.Decided.{SomeMayReach, SomeMustReach, OpenRule, End, RuleIsOpen}
use Rattle.hyd_spec_certificates.specs.Decided.{EventIsOpen}
use Rattle.hyd_spec_open_ends.specs.InstantsOfClock.{AreSecondsToInstant}
use Rattle.hyd_spec_open_ends.specs.OpenStandings.{OpenStanding}
use Rattle.hyd_spec_open_ends.specs.RulesOverLengths.{RulesMatterOver, NoRuleMattersUpTo, SomeRuleIsOpen}
use Rattle.hyd_spec_open_ends.specs.RulesOverLengths.{IsOpenRuleOver}

-- ---- what is watched

-- The earliest second after its own start at which a period may end by what is watched, a level or the hydraulic step;
-- `cap` where that is no earlier.
abbrev pub IsEarliestWatched : Project → Grid → Standing → Record → ℕ → ℕ → Type 0
IsEarliestWatched project grid standing row cap second =
    IsLeast (λ s. (s ≡ cap) ⊎ ((s ≡ project.times.hydraulic)
    ⊎ ((1 ≤ s) × SomeMayReach project grid standing row s))) second

-- The first second after its own start by which it must have ended so; `cap` where that is no earlier.
abbrev pub IsLatestWatched : Project → Grid → Standing → Record → ℕ → ℕ → Type 0
IsLatestWatched project grid standing row cap second =
    IsLeast (λ s. (s ≡ cap) ⊎ ((s ≡ project.times.hydraulic)
    ⊎ ((1 ≤ s) × SomeMustReach project grid standing row s))) second

-- Of a period that doesn't begin at the end of the run: the seconds from its first start to the next instant of the
-- clock, and the earliest and the latest second of what is watched, in order (as they are wherever there is a stock
-- between the ends of each interval).
pub record AreSeconds (project : Project) (grid : Grid) (standing : Standing) (row : Record)
    (cap earliest latest : ℕ) : Type 0 where
  pub not_last : standing.time ≢ project.times.duration
  pub is_cap : AreSecondsToInstant project standing.time cap
  pub is_earliest : IsEarliestWatched project grid standing row cap earliest
  pub is_latest : IsLatestWatched project grid standing row cap latest
  pub in_order : earliest ≤ latest

-- ---- the ways

-- How a period ends: by the rules, so many seconds after its first start; at the next instant of the clock, so many
-- seconds after that; or by what is watched, between two lengths counted from its own start.
pub data Way : Type 0 where
  ByRules : ℕ → Way
  ByInstant : ℕ → Way
  ByWatched : ℕ → ℕ → Way

-- The shortest that it lasts, where its start is open by some seconds.
abbrev pub shortest_length : ℕ → Way → ℕ
shortest_length late (ByRules seconds) = seconds - late
shortest_length late (ByInstant seconds) = seconds - late
shortest_length late (ByWatched earliest latest) = earliest

-- The longest that it lasts.
abbrev pub longest_length : Way → ℕ
longest_length (ByRules seconds) = seconds
longest_length (ByInstant seconds) = seconds
longest_length (ByWatched earliest latest) = latest

-- When it ends first, in seconds after its first start.
abbrev pub first_end : Way → ℕ
first_end (ByRules seconds) = seconds
first_end (ByInstant seconds) = seconds
first_end (ByWatched earliest latest) = earliest

-- How many seconds its end is open.
abbrev pub late_at_end : ℕ → Way → ℕ
late_at_end late (ByRules seconds) = 0
late_at_end late (ByInstant seconds) = 0
late_at_end late (ByWatched earliest latest) = (late + latest) - earliest

-- The certificates of the record decide the way. By rules it ends where they matter first, if no rule is open there,
-- each start lies before it, and nothing that is watched comes sooner. By the clock it ends where nothing that is
-- watched comes sooner; by what is watched, where that comes before the next instant from each start. In both, the
-- rules matter at no instant up to the end.
pub data EndsIn (project : Project) (grid : Grid) (standing : OpenStanding) (row : Record) : Way → Type 0 where
  by_rules : {cap earliest latest seconds : ℕ} → AreSeconds project grid standing.known row cap earliest latest
      → IsLeast (RulesMatterOver project grid standing row) seconds → standing.late < seconds → seconds ≤ earliest
      → (SomeRuleIsOpen project grid standing row seconds → ⊥) → EndsIn project grid standing row (ByRules seconds)
  by_instant : {cap earliest latest : ℕ} → AreSeconds project grid standing.known row cap earliest latest
      → earliest ≡ cap → NoRuleMattersUpTo project grid standing row cap
      → EndsIn project grid standing row (ByInstant cap)
  by_watched : {cap earliest latest : ℕ} → AreSeconds project grid standing.known row cap earliest latest
      → standing.late + latest < cap → NoRuleMattersUpTo project grid standing row (standing.late + latest)
      → EndsIn project grid standing row (ByWatched earliest latest)

-- ---- what is open first

-- The second after the first start by which a period has ended in each history.
abbrev pub last_end : ℕ → ℕ → ℕ → ℕ
last_end late latest cap = min (late + latest) cap

-- What is open first, where an end may be open by at most `slack` seconds: a rule, or the end between two seconds.
-- Up to the earliest second of what is watched the rules come first: one is open where they matter first, or they act
-- there in histories that have begun the period, and not in the others. Then the end by what is watched is too wide, or
-- may come after the next instant. Last, rules matter between its first second and its last.
pub data IsFirstOpen (project : Project) (grid : Grid) (standing : OpenStanding) (row : Record) (slack : ℕ) : End
    → Type 0 where
  rule_is_open : {cap earliest latest seconds : ℕ} {open_rule : OpenRule}
      → AreSeconds project grid standing.known row cap earliest latest
      → IsLeast (RulesMatterOver project grid standing row) seconds → seconds ≤ earliest
      → IsOpenRuleOver project grid standing row seconds open_rule
      → IsFirstOpen project grid standing row slack (RuleIsOpen open_rule)
  rule_parts : {cap earliest latest seconds : ℕ} → AreSeconds project grid standing.known row cap earliest latest
      → IsLeast (RulesMatterOver project grid standing row) seconds → seconds ≤ earliest → seconds ≤ standing.late
      → (SomeRuleIsOpen project grid standing row seconds → ⊥)
      → IsFirstOpen project grid standing row slack (EventIsOpen seconds (last_end standing.late latest cap))
  too_wide : {cap earliest latest : ℕ} → AreSeconds project grid standing.known row cap earliest latest
      → NoRuleMattersUpTo project grid standing row earliest → earliest < cap
      → (cap ≤ standing.late + latest) ⊎ (slack < (standing.late + latest) - earliest)
      → IsFirstOpen project grid standing row slack (EventIsOpen earliest (last_end standing.late latest cap))
  rule_is_open_between : {cap earliest latest seconds : ℕ} {open_rule : OpenRule}
      → AreSeconds project grid standing.known row cap earliest latest
      → standing.late + latest < cap → (standing.late + latest) - earliest ≤ slack
      → IsLeast (RulesMatterOver project grid standing row) seconds → earliest < seconds
      → seconds ≤ standing.late + latest → IsOpenRuleOver project grid standing row seconds open_rule
      → IsFirstOpen project grid standing row slack (RuleIsOpen open_rule)
  rule_acts_between : {cap earliest latest seconds : ℕ}
      → AreSeconds project grid standing.known row cap earliest latest
      → standing.late + latest < cap → (standing.late + latest) - earliest ≤ slack
      → IsLeast (RulesMatterOver project grid standing row) seconds → earliest < seconds
      → seconds ≤ standing.late + latest → (SomeRuleIsOpen project grid standing row seconds → ⊥)
      → IsFirstOpen project grid standing row slack (EventIsOpen earliest (last_end standing.late latest cap))
