-- Every history within a spread that keeps what it reaches agrees with every run for the spread with a slack.
use Rattle.std.proofs.Common.{◌≡◌, ℕ, ◌+◌, ◌<◌, ◌≤◌, ℤ, arith, List, [], ◌∷◌, inl, inr}
use Rattle.std.specs.Prelude.{⊤}
use Rattle.hyd_net.specs.Sound.{IsSound}
use Rattle.hyd_spec.specs.ProgramTypes.{Project, LinkState}
use Rattle.hyd_spec.specs.PeriodLength.{Period}
use Rattle.hyd_spec.specs.History.{Begins, commanded_after, initial_links}
use Rattle.hyd_spec_certificates.specs.declared.Problem.TheVariants.{Main}
use Rattle.hyd_spec_certificates.specs.declared.Side.TheVariants.{Upper, Lower}
use Rattle.hyd_spec_certificates.specs.RecordAndStanding.{Standing}
use Rattle.hyd_spec_open_ends.specs.InstantsOfClock.{duration as is_duration}
use Rattle.hyd_spec_open_ends.specs.KeptLevels.{GoesOnKeeping}
use Rattle.hyd_spec_open_ends.specs.OpenStandings.{OpenStanding}
use Rattle.hyd_spec_open_ends.specs.OpenRecords.{LeadsOnOpenly, continues, finishes}
use Rattle.hyd_spec_spread.specs.Spreads.{Spread, IsSpread}
use Rattle.hyd_spec_spread.specs.NetworksWithin.{NodeData, with_data}
use Rattle.hyd_spec_spread.specs.HistoriesWithin.{IsPeriodWithin, GoesOnWithin}
use Rattle.hyd_spec_spread_runs.specs.OutermostPairs.{spanned, spanning}
use Rattle.hyd_spec_open_spreads.specs.OpenRunsForSpreads.{OpenFoundOver, IsValidOpenlyOver, spanning_openly}
use Rattle.hyd_spec_open_spreads.specs.OpenRunsForSpreads.{IsOpenRunOverFrom, none, more, IsOpenRunOver}
use Rattle.hyd_spec_open_spreads.specs.OpenRunsForSpreads.{open_standing_within}
use Rattle.hyd_spec_open_spreads.specs.OpenAgreementWithin.{AgreesOpenlyOver, AllAgreeOpenlyOver}
use Rattle.hyd_spec_open_spreads.specs.OpenAgreementWithin.{EveryKeepingHistoryWithinAgrees}
use Rattle.hyd_theorems_on_open_ends.specs.AgreementOverStarts.{begun_at, AgreesFrom, IsKeptOpenly}
use Rattle.hyd_theorems_on_open_ends.proofs.AgreementOverEnds.{kept_on}
use Rattle.hyd_theorems_on_spread.proofs.HeadsWithin.{heads-below, heads-above}
use Rattle.hyd_theorems_on_spread_runs.proofs.OutflowsWithin.{outflow_lies}
use Rattle.hyd_theorems_on_spread_runs.proofs.BoundedByRecords.{its_assignment, its_pair}
use Rattle.hyd_theorems_on_spread_runs.proofs.HistoriesAlongRuns.{no-length}
use Rattle.hyd_theorems_on_spread_runs.proofs.StartsWithin.{agrees_at_start, kept_at_start}
use Rattle.hyd_theorems_on_open_spreads.specs.BoundedOpenly.{IsBoundedOpenly}
use Rattle.hyd_theorems_on_open_spreads.proofs.AgreementOverPairs.{is_bounded_openly, certified-then, agrees-then}
use Rattle.hyd_theorems_on_open_spreads.proofs.AgreementOverPairs.{lasts_from, lasts_to, agrees_on}

-- the periods of a history from one on, each of which keeps what was reached before it
abbrev pub StartsAt : Project → Spread → ℕ → ℕ → List ℤ → List ℤ → List LinkState → List Period → Type 0
StartsAt project spread S time levels volumes commanded [] = ⊤
StartsAt project spread S time levels volumes commanded (period ∷ rest) =
    Begins project S time levels volumes commanded period
    × ((nodes : NodeData) × (IsPeriodWithin project spread S period nodes
    × (GoesOnWithin project spread S nodes period rest × GoesOnKeeping project S period rest)))

nothing-found : (project : Project) (S : ℕ) (periods : List Period) → AllAgreeOpenlyOver project S periods []
nothing-found project S [] = tt
nothing-found project S (period ∷ periods) = tt

module _ (project : Project) (sound : IsSound project) (spread : Spread) (S : ℕ) (some : 0 < S) where
  module _ (here : OpenFoundOver)
      (valid : IsValidOpenlyOver project spread here.standing here.pair here.found here.next)
      (kept : IsKeptOpenly project here.standing)
      (time : ℕ) (levels volumes : List ℤ) (commanded : List LinkState)
      (agrees : AgreesFrom project S here.standing time levels volumes commanded)
      (period : Period) (begins : Begins project S time levels volumes commanded period) (nodes : NodeData)
      (is : IsPeriodWithin project spread S period nodes) where
    abbrev own : Standing
    own = begun_at here.standing.known period.time

    pub bounded : IsBoundedOpenly project nodes S period (spanned here.pair) here.standing
        (spanning here.pair here.found.row)
    bounded = is_bounded_openly project sound spread S some here.pair here.standing here.found here.next kept valid time
        levels volumes commanded agrees period begins nodes is

    -- a period at the end of the run begins there in each history
    pub at-the-end : here.standing.known.time ≡ project.times.duration → period.time ≡ project.times.duration
    at-the-end last = elim kept.quiet [
      | inl exact ↦ (let a = bounded.after in let b = bounded.by in omega (arith, exact, a, b, last))
      | inr quiet ↦ absurd (quiet.1 here.standing.known.time (omega arith) (omega arith) (is_duration last))
    ]

    -- A period that leads on isn't the last one of a run; else its length is 0.
    record HasLengths : Type 0 where
      from : here.found.shortest ≤ period.length
      to : period.length ≤ here.found.row.length

    lengths : LeadsOnOpenly project (spanned here.pair) here.standing (spanning_openly here.pair here.found) here.next
        → HasLengths
    lengths (continues c) = record {
      from = lasts_from project sound spread S some here.pair here.standing here.found here.next kept valid time levels
          volumes commanded agrees period begins nodes is c;
      to = lasts_to project sound spread S some here.pair here.standing here.found here.next kept valid time levels
          volumes commanded agrees period begins nodes is c;
    }
    lengths (finishes f) =
        let z = no-length (with_data project nodes) S period (at-the-end f.is_last) is.is_period.lasts in
        let a = f.no_shortest in let b = f.no_length in
        record { from = omega (arith, z, a); to = omega (arith, z, b) }

    -- ---- what was found

    period-agrees : AgreesOpenlyOver project S period here
    period-agrees =
        let certified = certified-then project sound spread S some here.pair here.standing here.found here.next kept
        valid time levels volumes commanded agrees period begins nodes is in
        let agrees_then = agrees-then project sound spread S some here.pair here.standing here.found here.next kept
        valid time levels volumes commanded agrees period begins nodes is in
        let its = its_assignment project sound spread S some here.pair own here.found.row certified time levels volumes
        commanded agrees_then period begins nodes is in
        let pair = its_pair project sound spread S some here.pair own here.found.row certified time levels volumes
        commanded agrees_then period begins nodes is in
        let above = valid.certificates.each Main Upper tt in
        let below = valid.certificates.each Main Lower tt in
        record {
          begins_after = let a = bounded.after in let t = valid.time in omega (arith, a, t);
          begins_by = let a = bounded.by in let t = valid.time in let l = valid.late in omega (arith, a, t, l);
          lasts_from = (lengths valid.leads_on).from;
          lasts_to = (lengths valid.leads_on).to;
          tanks = bounded.own.tanks;
          links = bounded.links;
          above_lower = heads-above project spread S period.time here.standing.known.levels period.levels period.tanks
              period.links nodes period.assignment its here.pair.lower here.found.row.main.lower (pair Lower) below;
          below_upper = heads-below project spread S period.time here.standing.known.levels period.levels period.tanks
              period.links nodes period.assignment its here.pair.upper here.found.row.main.upper (pair Upper) above;
          flows = λ l link at. let x = bounded.own.flows l link at in record { low = x.low; high = x.high };
          inflows = λ k tank at. let x = bounded.own.inflows k tank at in record { low = x.low; high = x.high };
          outflows = λ j upper lower at_upper at_lower.
              let x = outflow_lies project spread S period.time here.standing.known.levels period.levels period.tanks
              period.links nodes period.assignment its here.pair.upper here.pair.lower (pair Upper) (pair Lower)
              here.found.row.main.upper here.found.row.main.lower above below j upper lower at_upper at_lower in
              record { low = x.low; high = x.high };
        }

    -- ---- what follows

    -- what comes after it agrees with what was found after, where a history does that agrees with the next standing
    after-it : (rest : List OpenFoundOver)
        → (IsKeptOpenly project here.next → (now : ℕ) (at with_volumes : List ℤ) (left : List LinkState)
        (periods : List Period) → AgreesFrom project S here.next now at with_volumes left
        → StartsAt project spread S now at with_volumes left periods → AllAgreeOpenlyOver project S periods rest)
        → (periods : List Period) → GoesOnWithin project spread S nodes period periods
        → GoesOnKeeping project S period periods → AllAgreeOpenlyOver project S periods rest
    after-it rest go [] goes keeps = tt
    after-it rest go (p ∷ ps) goes keeps = by-case valid.leads_on
      where
        by-case : LeadsOnOpenly project (spanned here.pair) here.standing (spanning_openly here.pair here.found)
            here.next → AllAgreeOpenlyOver project S (p ∷ ps) rest
        by-case (continues c) =
            go (kept_on project sound (spanned here.pair) here.standing (spanning_openly here.pair here.found) here.next
            kept c)
            (period.time + period.length) p.levels p.volumes (commanded_after (with_data project nodes) S period)
            (p ∷ ps)
            (agrees_on project sound spread S some here.pair here.standing here.found here.next kept valid time levels
            volumes commanded agrees period begins nodes is c p.levels p.volumes goes.0.stocks keeps.0)
            (goes.0.begins, (goes.1.0, (goes.1.1.0, (goes.1.1.1, keeps.1))))
        by-case (finishes f) = absurd (goes.0.not_last (at-the-end f.is_last))

  run-agrees : (slack : ℕ) (standing : OpenStanding) (founds : List OpenFoundOver) (last : OpenStanding)
      → IsOpenRunOverFrom project spread slack standing founds last → IsKeptOpenly project standing
      → (time : ℕ) (levels volumes : List ℤ) (commanded : List LinkState) (periods : List Period)
      → AgreesFrom project S standing time levels volumes commanded
      → StartsAt project spread S time levels volumes commanded periods
      → AllAgreeOpenlyOver project S periods founds
  run-agrees slack _ _ last none kept time levels volumes commanded periods agrees starts =
      nothing-found project S periods
  run-agrees slack _ _ last (more {here = here} {rest = rest} is within go) kept time levels volumes commanded [] agrees
      starts = tt
  run-agrees slack _ _ last (more {here = here} {rest = rest} is within go) kept time levels volumes commanded
      (period ∷ periods) agrees starts = (
        period-agrees here is kept time levels volumes commanded agrees period starts.0 starts.1.0 starts.1.1.0,
        after-it here is kept time levels volumes commanded agrees period starts.0 starts.1.0 starts.1.1.0 rest
            (λ next now at with_volumes left others. run-agrees slack here.next rest last go next now at with_volumes
            left others) periods starts.1.1.1.0 starts.1.1.1.1,
      )

pub every-keeping-history : (project : Project) → IsSound project → (spread : Spread) → IsSpread project spread
    → (slack : ℕ) (founds : List OpenFoundOver) (last : OpenStanding)
    → IsOpenRunOver project spread slack founds last → EveryKeepingHistoryWithinAgrees project spread founds
every-keeping-history project sound spread is slack founds last run S some [] history = tt
every-keeping-history project sound spread is slack founds last run S some (first ∷ rest) history =
    let kept = kept_at_start project sound spread is run.start in
    let begun = agrees_at_start project spread S (omega (arith, some)) run.start first history.within.0 in
    run-agrees project sound spread S (omega (arith, some)) slack (open_standing_within project spread) founds last
    run.run
    (record { controls = kept.controls; states = kept.states; quiet = inl (omega arith) })
    0 first.levels first.volumes (initial_links project) (first ∷ rest)
    (record {
      after = omega arith;
      by = omega arith;
      levels_lie = begun.levels_lie;
      volumes_lie = begun.volumes_lie;
      tanks_are = begun.tanks_are;
      commanded_are = begun.commanded_are;
    })
    (history.within.0.begins, (history.within.1.0, (history.within.1.1.0, (history.within.1.1.1, history.keeps))))
