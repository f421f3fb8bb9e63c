-- Watched levels of the program, and the ends that they bring.
-- Source: EPANET 2.2 User Manual, chapter 3 (tanks, controls).
use Rattle.std.specs.Prelude.{ℕ, ◌<◌, ◌≤◌, ◌*◌, true, false, List, [], ◌∷◌, length, unsigned_abs, if◌then◌else◌}
use Rattle.hyd_net.specs.NumberRanges.{head_limit}
use Rattle.hyd_spec.specs.ProgramTypes.{Project, Tank}
use Rattle.hyd_spec.specs.declared.TankState.{TankState}
use Rattle.hyd_spec.specs.LinkLaw.{is_full, is_empty}
use Rattle.hyd_spec_certificates.specs.PeriodNetwork.{Grid}
use Rattle.hyd_spec_certificates.specs.RecordAndStanding.{Record, Standing}
use Rattle.hyd_spec_certificates.specs.Stocks.{may_reach, must_reach}
use Rattle.hyd_spec_certificates.specs.FirstSeconds.{IsFirstSecond}
use Rattle.hyd_spec_certificates.specs.Decided.{Watch}
use Rattle.hyd_controls_and_rules.specs.PassedOn.{ReachTest, watch_passes, IsFirstAmong}
use Rattle.hyd_period_facts.specs.declared.facts.Facts.{Facts}
use Rattle.hyd_period_facts.specs.declared.watch.Watch.{Watch as Here}
use Rattle.hyd_period_facts.specs.declared.watch.Ends.{Ends}
use Rattle.hyd_period_facts.specs.FactsBeforeEnd.{AreStarted}

-- the watched level that one of the program stands for
abbrev pub watch_for : Here → Watch
watch_for watch = record { tank = watch.tank; target = watch.target; rising = watch.rising }

-- the tank is there, and the level in range
pub record IsWatch (project : Project) (watch : Here) : Type 0 where
  pub tank : watch.tank < length project.tanks.list
  pub target : unsigned_abs watch.target ≤ 2 * head_limit

-- whatever standing and record the facts are of, this is the first second at which a watched level passes a test
abbrev pub IsReachedFirst : ReachTest → Project → Facts → ℕ → Watch → ℕ → Type 0
IsReachedFirst test project facts cap watch second = (grid : Grid) (standing : Standing) (row : Record)
    → AreStarted project grid standing row facts
    → IsFirstSecond (watch_passes test project grid standing row watch) cap second

-- and this the first second at which one of several does
abbrev pub IsReachedAmong : ReachTest → Project → Facts → ℕ → List Watch → ℕ → Type 0
IsReachedAmong test project facts cap watched second = (grid : Grid) (standing : Standing) (row : Record)
    → AreStarted project grid standing row facts → IsFirstAmong test project grid standing row cap watched second

-- the first seconds at which one of several watched levels may, and must, have been reached
pub record AreEnds (project : Project) (facts : Facts) (cap : ℕ) (watched : List Watch) (ends : Ends) : Type 0 where
  pub earliest : IsReachedAmong may_reach project facts cap watched ends.earliest
  pub latest : IsReachedAmong must_reach project facts cap watched ends.latest
  -- the earliest isn't after the cap, and is a second or more where the cap is
  pub within : ends.earliest ≤ cap
  pub some : 0 < cap → 0 < ends.earliest

-- the maximum of tank number k, where it isn't full
abbrev pub most_of : ℕ → Tank → TankState → List Watch
most_of k tank state =
    if is_full state then [] else record { tank = k; target = tank.maximum; rising = true } ∷ []

-- the minimum of tank number k, where it isn't empty
abbrev pub least_of : ℕ → Tank → TankState → List Watch
least_of k tank state =
    if is_empty state then [] else record { tank = k; target = tank.minimum; rising = false } ∷ []
