-- Every history that keeps what it reaches agrees with every run whose ends may be open.
use Rattle.std.proofs.Common.{◌≡◌, ℕ, ◌+◌, ◌<◌, ◌≤◌, ℤ, arith, List, [], ◌∷◌, inl}
use Rattle.std.proofs.Common.{inr}
use Rattle.std.specs.Prelude.{⊤}
use Rattle.hyd_net.specs.Sound.{IsSound}
use Rattle.hyd_spec.specs.ProgramTypes.{Project, LinkState}
use Rattle.hyd_spec.specs.PeriodLength.{Period, HasItsLength, at_end, before_end}
use Rattle.hyd_spec.specs.History.{Begins, IsPeriod, GoesOn, IsHistory, initial_levels, initial_volumes, initial_links}
use Rattle.hyd_spec.specs.History.{commanded_after}
use Rattle.hyd_spec_certificates.specs.declared.Problem.TheVariants.{Main}
use Rattle.hyd_spec_certificates.specs.declared.Side.TheVariants.{Upper, Lower}
use Rattle.hyd_spec_open_ends.specs.InstantsOfClock.{duration as is_duration}
use Rattle.hyd_spec_open_ends.specs.KeptLevels.{GoesOnKeeping, KeepsWhatItReaches}
use Rattle.hyd_spec_open_ends.specs.OpenStandings.{OpenStanding, initial_open_standing}
use Rattle.hyd_spec_open_ends.specs.OpenRecords.{IsValidOpenly, LeadsOnOpenly, continues, finishes}
use Rattle.hyd_spec_open_ends.specs.OpenRuns.{OpenFound, IsOpenRunFrom, none, more, IsOpenRun, AgreesOpenly}
use Rattle.hyd_spec_open_ends.specs.OpenRuns.{AllAgreeOpenly, EveryKeepingHistoryAgrees}
use Rattle.hyd_theorems_on_definitions.proofs.ComparisonPrinciple.{below_main, above_main}
use Rattle.hyd_theorems_on_open_ends.specs.AgreementOverStarts.{AgreesFrom, IsUnderOpenly, IsKeptOpenly}
use Rattle.hyd_theorems_on_open_ends.proofs.AgreementOverEnds.{agrees_from_start, kept_from_start, kept_on}
use Rattle.hyd_theorems_on_open_ends.proofs.AgreementOverEnds.{is_under_openly, lasts_from, lasts_to, agrees_on}

-- the periods of a history from one on, each of which keeps what was reached before it
abbrev StartsAt : Project → ℕ → ℕ → List ℤ → List ℤ → List LinkState → List Period → Type 0
StartsAt project S time levels volumes commanded [] = ⊤
StartsAt project S time levels volumes commanded (period ∷ rest) =
    Begins project S time levels volumes commanded period × (IsPeriod project S period
    × (GoesOn project S period rest × GoesOnKeeping project S period rest))

from-start : (project : Project) (S : ℕ) (history : List Period) → IsHistory project S history
    → KeepsWhatItReaches project S history
    → StartsAt project S 0 (initial_levels project S) (initial_volumes project S) (initial_links project) history
from-start project S [] is keeps = tt
from-start project S (period ∷ rest) is keeps = (is.0, (is.1.0, (is.1.1, keeps)))

nothing-found : (project : Project) (S : ℕ) (periods : List Period) → AllAgreeOpenly project S periods []
nothing-found project S [] = tt
nothing-found project S (period ∷ periods) = tt

no-length : (project : Project) (S : ℕ) (period : Period) → period.time ≡ project.times.duration
    → HasItsLength project S period → period.length ≡ 0
no-length project S period last (at_end is zero_long) = zero_long
no-length project S period last (before_end other least) = absurd (other last)

module _ (project : Project) (sound : IsSound project) (S : ℕ) (some : 0 < S) where
  module _ (here : OpenFound) (valid : IsValidOpenly project here.standing here.grid here.found here.next)
      (kept : IsKeptOpenly project here.standing)
      (time : ℕ) (levels volumes : List ℤ) (commanded : List LinkState)
      (agrees : AgreesFrom project S here.standing time levels volumes commanded)
      (period : Period) (begins : Begins project S time levels volumes commanded period)
      (is : IsPeriod project S period) where
    under : IsUnderOpenly project S period here.grid here.standing here.found.row
    under = is_under_openly project sound S some here.grid here.standing here.found here.next kept valid time levels
        volumes commanded agrees period begins is

    -- a period at the end of the run begins there in each history
    at-the-end : here.standing.known.time ≡ project.times.duration → period.time ≡ project.times.duration
    at-the-end last = elim kept.quiet [
      | inl exact ↦ (let a = under.after in let b = under.by in omega (arith, exact, a, b, last))
      | inr quiet ↦ absurd (quiet.1 here.standing.known.time (omega arith) (omega arith) (is_duration last))
    ]

    -- A period that leads on isn't the last one of a run; else its length is 0.
    record HasLengths : Type 0 where
      from : here.found.shortest ≤ period.length
      to : period.length ≤ here.found.row.length

    lengths : LeadsOnOpenly project here.grid here.standing here.found here.next → HasLengths
    lengths (continues c) = record {
      from = lasts_from project sound S some here.grid here.standing here.found here.next kept valid time levels
          volumes commanded agrees period begins is c c.not_last;
      to = lasts_to project sound S some here.grid here.standing here.found here.next kept valid time levels
          volumes commanded agrees period begins is c c.not_last;
    }
    lengths (finishes f) =
        let z = no-length project S period (at-the-end f.is_last) is.lasts in
        let a = f.no_shortest in let b = f.no_length in
        record { from = omega (arith, z, a); to = omega (arith, z, b) }

    period-agrees : AgreesOpenly project S period here
    period-agrees = record {
      begins_after = let a = under.after in let t = valid.time in omega (arith, a, t);
      begins_by = let a = under.by in let t = valid.time in let l = valid.late in omega (arith, a, t, l);
      lasts_from = (lengths valid.leads_on).from;
      lasts_to = (lengths valid.leads_on).to;
      tanks = under.own.tanks;
      links = under.links;
      above_lower = above_main project S period.time here.standing.known.levels period.levels period.tanks period.links
          period.assignment here.grid here.found.row.main.lower under.own.compared
          (under.own.certificates.each Main Lower tt);
      below_upper = below_main project S period.time here.standing.known.levels period.levels period.tanks period.links
          period.assignment here.grid here.found.row.main.upper under.own.compared
          (under.own.certificates.each Main Upper tt);
    }

    -- what comes after it agrees with what was found after, where a history does that agrees with the next standing
    after-it : (rest : List OpenFound)
        → (IsKeptOpenly project here.next → (now : ℕ) (at with_volumes : List ℤ) (left : List LinkState)
        (periods : List Period) → AgreesFrom project S here.next now at with_volumes left
        → StartsAt project S now at with_volumes left periods → AllAgreeOpenly project S periods rest)
        → (periods : List Period) → GoesOn project S period periods → GoesOnKeeping project S period periods
        → AllAgreeOpenly project S periods rest
    after-it rest go [] goes keeps = tt
    after-it rest go (p ∷ ps) goes keeps = by-case valid.leads_on
      where
        by-case : LeadsOnOpenly project here.grid here.standing here.found here.next
            → AllAgreeOpenly project S (p ∷ ps) rest
        by-case (continues c) =
            go (kept_on project sound here.grid here.standing here.found here.next kept c)
            (period.time + period.length) p.levels p.volumes (commanded_after project S period) (p ∷ ps)
            (agrees_on project sound S some here.grid here.standing here.found here.next kept valid time levels volumes
            commanded agrees period begins is c c.not_last p.levels p.volumes goes.0.stocks keeps.0)
            (goes.0.begins, (goes.1.0, (goes.1.1, keeps.1)))
        by-case (finishes f) = absurd (goes.0.not_last (at-the-end f.is_last))

  pub run_agrees : (slack : ℕ) (standing : OpenStanding) (founds : List OpenFound) (last : OpenStanding)
      → IsOpenRunFrom project slack standing founds last → IsKeptOpenly project standing
      → (time : ℕ) (levels volumes : List ℤ) (commanded : List LinkState) (periods : List Period)
      → AgreesFrom project S standing time levels volumes commanded
      → StartsAt project S time levels volumes commanded periods → AllAgreeOpenly project S periods founds
  run_agrees slack _ _ last none kept time levels volumes commanded periods agrees starts =
      nothing-found project S periods
  run_agrees slack _ _ last (more {here = here} {rest = rest} is within go) kept time levels volumes commanded [] agrees
      starts = tt
  run_agrees slack _ _ last (more {here = here} {rest = rest} is within go) kept time levels volumes commanded
      (period ∷ periods) agrees starts = (
        period-agrees here is kept time levels volumes commanded agrees period starts.0 starts.1.0,
        after-it here is kept time levels volumes commanded agrees period starts.0 starts.1.0 rest
            (λ next now at with_volumes left others. run_agrees slack here.next rest last go next now at with_volumes
            left others) periods starts.1.1.0 starts.1.1.1,
      )

pub every_keeping_history : (project : Project) → IsSound project → (slack : ℕ) (founds : List OpenFound)
    (last : OpenStanding)
    → IsOpenRun project slack founds last → EveryKeepingHistoryAgrees project founds
every_keeping_history project sound slack founds last run S some history is keeps =
    run_agrees project sound S (omega (arith, some)) slack (initial_open_standing project) founds last run
    (kept_from_start project sound)
    0 (initial_levels project S) (initial_volumes project S) (initial_links project) history
    (agrees_from_start project S (omega (arith, some))) (from-start project S history is keeps)
