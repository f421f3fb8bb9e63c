-- Every line of the reports of a run for a spread holds of every history within the spread that keeps what it reaches.
use Rattle.std.proofs.Common.{◌≡◌, ℕ, ◌+◌, ◌<◌, ℤ, refl, sym, subst, arith, List, [], ◌∷◌, inl}
use Rattle.std.specs.List.{AllByRecursion}
use Rattle.hyd_net.specs.Sound.{IsSound}
use Rattle.hyd_spec.specs.ProgramTypes.{Project, LinkState}
use Rattle.hyd_spec.specs.PeriodLength.{Period}
use Rattle.hyd_spec.specs.History.{Begins, commanded_after, initial_links}
use Rattle.hyd_spec_certificates.specs.PeriodNetwork.{Grid}
use Rattle.hyd_spec_certificates.specs.RecordAndStanding.{Standing}
use Rattle.hyd_spec_open_ends.specs.KeptLevels.{GoesOnKeeping}
use Rattle.hyd_spec_open_ends.specs.OpenStandings.{OpenStanding, OpenRecord}
use Rattle.hyd_spec_open_ends.specs.OpenRecords.{LeadsOnOpenly, continues, finishes}
use Rattle.hyd_spec_open_reports.specs.OpenReportLine.{OpenLine}
use Rattle.hyd_spec_open_reports.specs.ClaimsOfOpenLines.{OpenLineHolds}
use Rattle.hyd_spec_spread.specs.Spreads.{Spread, IsSpread}
use Rattle.hyd_spec_spread.specs.NetworksWithin.{NodeData, with_data}
use Rattle.hyd_spec_spread.specs.HistoriesWithin.{IsPeriodWithin, GoesOnWithin}
use Rattle.hyd_spec_spread_runs.specs.OutermostPairs.{spanned}
use Rattle.hyd_spec_open_spreads.specs.OpenRunsForSpreads.{OpenFoundOver, IsValidOpenlyOver, spanning_openly}
use Rattle.hyd_spec_open_spreads.specs.OpenRunsForSpreads.{IsOpenRunOverFrom, IsOpenRunOver, open_standing_within}
use Rattle.hyd_spec_open_spreads.specs.OpenRunsForSpreads.{more as one_more}
use Rattle.hyd_spec_spread_reports.specs.SpreadReport.{IsSpreadReport, AreStateLinesOver}
use Rattle.hyd_spec_spread_reports.specs.ClaimsWithinSpreads.{ReportedOver, AreReportsOver, periods_over}
use Rattle.hyd_spec_spread_reports.specs.ClaimsWithinSpreads.{AllLinesHoldWithin, EveryLineHoldsWithin}
use Rattle.hyd_theorems_on_open_ends.specs.AgreementOverStarts.{begun_at, AgreesFrom, IsKeptOpenly}
use Rattle.hyd_theorems_on_open_reports.proofs.StartAndEndLinesHold.{IsBegunOpenly, EndsAsDecided}
use Rattle.hyd_theorems_on_open_reports.proofs.StartAndEndLinesHold.{way_lengths, told_lines_hold}
use Rattle.hyd_theorems_on_spread_runs.proofs.BoundedByRecords.{its_assignment, its_pair}
use Rattle.hyd_theorems_on_spread_runs.proofs.StartsWithin.{agrees_at_start, kept_at_start}
use Rattle.hyd_theorems_on_open_spreads.specs.BoundedOpenly.{IsBoundedOpenly}
use Rattle.hyd_theorems_on_open_spreads.proofs.RulesOverPairs.{changes_over}
use Rattle.hyd_theorems_on_open_spreads.proofs.LengthsOverPairs.{ends_so}
use Rattle.hyd_theorems_on_open_spreads.proofs.LevelsThatArriveWithin.{all_come}
use Rattle.hyd_theorems_on_open_spreads.proofs.AgreementOverPairs.{certified-then, agrees-then, agrees_on}
use Rattle.hyd_theorems_on_open_spreads.proofs.HistoriesOverPairs.{StartsAt, bounded, at-the-end}
use Rattle.hyd_theorems_on_spread_reports.proofs.ClaimsWithin.{claims_within}
use Rattle.hyd_theorems_on_spread_reports.proofs.StateLinesWithin.{state_holds}
use Rattle.hyd_theorems_on_spread_reports.proofs.SettledStandings.{IsSettled, kept_openly, settled_on}

nothing-told : (project : Project) (spread : Spread) (S : ℕ) (commanded : List LinkState) (periods : List Period)
    → AllLinesHoldWithin project spread S commanded periods []
nothing-told project spread S commanded [] = tt
nothing-told project spread S commanded (period ∷ periods) = tt

-- the first period of a run and the rest of it
record IsRunOfMore (project : Project) (spread : Spread) (slack : ℕ) (standing : OpenStanding) (here : OpenFoundOver)
    (rest : List OpenFoundOver) (last : OpenStanding) : Type 0 where
  same : here.standing ≡ standing
  valid : IsValidOpenlyOver project spread here.standing here.pair here.found here.next
  go : IsOpenRunOverFrom project spread slack here.next rest last

run-of-more : (project : Project) (spread : Spread) (slack : ℕ) (standing : OpenStanding) (here : OpenFoundOver)
    (rest : List OpenFoundOver) (last : OpenStanding)
    → IsOpenRunOverFrom project spread slack standing (here ∷ rest) last
    → IsRunOfMore project spread slack standing here rest last
run-of-more project spread slack _ here rest last (one_more valid within go) =
    record { same = refl; valid = valid; go = go }

module _ (project : Project) (sound : IsSound project) (spread : Spread) (S : ℕ) (some : 0 < S) where
  module _ (here : OpenFoundOver)
      (valid : IsValidOpenlyOver project spread here.standing here.pair here.found here.next)
      (settled : IsSettled project here.standing)
      (time : ℕ) (levels volumes : List ℤ) (commanded : List LinkState)
      (agrees : AgreesFrom project S here.standing time levels volumes commanded)
      (period : Period) (begins : Begins project S time levels volumes commanded period) (nodes : NodeData)
      (is : IsPeriodWithin project spread S period nodes) where
    abbrev network : Project
    network = with_data project nodes

    abbrev own : Standing
    own = begun_at here.standing.known period.time

    abbrev grid : Grid
    grid = spanned here.pair

    abbrev wide : OpenRecord
    wide = spanning_openly here.pair here.found

    kept : IsKeptOpenly project here.standing
    kept = kept_openly project here.standing settled

    bounded-here : IsBoundedOpenly project nodes S period grid here.standing wide.row
    bounded-here = bounded project sound spread S some here valid kept time levels volumes commanded agrees period
        begins nodes is

    -- ---- its lines

    begun : IsBegunOpenly project S commanded period grid here.standing wide.row
    begun = record {
      some = some;
      after = bounded-here.after;
      by = bounded-here.by;
      quiet = settled.quiet;
      kept = settled.kept;
      commanded_are = agrees.commanded_are;
      levels = bounded-here.own.levels;
      volumes = bounded-here.own.volumes;
      tanks = bounded-here.own.tanks;
      inflows = bounded-here.own.inflows;
    }

    ending : EndsAsDecided project network S period grid here.standing wide.row
    ending = record {
      ends = λ other way ends.
          ends_so project sound nodes S period grid here.standing wide.row bounded-here other is.is_period.lasts way
          ends;
      come = λ other way reached ends arrives shortest from.
          all_come project sound nodes S period grid here.standing wide.row bounded-here other is.is_period.lasts way
          reached ends arrives shortest from;
      changes = λ seconds by known.
          changes_over project nodes S period grid here.standing wide.row bounded-here sound seconds by known;
    }

    its-lines : (lines : List OpenLine) → IsSpreadReport project here.pair here.standing here.found lines
        → AllByRecursion (OpenLineHolds network S commanded period) lines
    its-lines lines report =
        let certified = certified-then project sound spread S some here.pair here.standing here.found here.next kept
        valid time levels volumes commanded agrees period begins nodes is in
        let agrees_then = agrees-then project sound spread S some here.pair here.standing here.found here.next kept
        valid time levels volumes commanded agrees period begins nodes is in
        let its = its_assignment project sound spread S some here.pair own here.found.row certified time levels volumes
        commanded agrees_then period begins nodes is in
        let pair = its_pair project sound spread S some here.pair own here.found.row certified time levels volumes
        commanded agrees_then period begins nodes is in
        told_lines_hold project sound network S commanded period grid here.standing wide
        (claims_within project nodes bounded-here.own.numbers bounded-here.own.elevations S commanded period) begun
        ending (way_lengths project grid here.standing wide here.next valid.leads_on)
        (AreStateLinesOver project here.pair here.standing.known here.found.row report.state) report.state report.at_end
        lines
        (λ known are. state_holds project sound spread S commanded period nodes here.pair here.standing here.found.row
        its pair valid.certificates settled.kept.states bounded-here report.state are known)
        report.state_are report.at_end_are report.lines_are

    -- ---- what follows

    -- what comes after it has the lines that come after, where a history does that agrees with the next standing
    after-it : (rest : List ReportedOver)
        → (IsSettled project here.next → (now : ℕ) (at with_volumes : List ℤ) (left : List LinkState)
        (periods : List Period) → AgreesFrom project S here.next now at with_volumes left
        → StartsAt project spread S now at with_volumes left periods
        → AllLinesHoldWithin project spread S left periods rest)
        → (periods : List Period) → GoesOnWithin project spread S nodes period periods
        → GoesOnKeeping project S period periods
        → AllLinesHoldWithin project spread S (commanded_after network S period) periods rest
    after-it rest go [] goes keeps = tt
    after-it rest go (p ∷ ps) goes keeps = by-case valid.leads_on
      where
        by-case : LeadsOnOpenly project grid here.standing wide here.next
            → AllLinesHoldWithin project spread S (commanded_after network S period) (p ∷ ps) rest
        by-case (continues c) =
            go (settled_on project sound grid here.standing wide here.next settled c)
            (period.time + period.length) p.levels p.volumes (commanded_after network S period) (p ∷ ps)
            (agrees_on project sound spread S some here.pair here.standing here.found here.next kept valid time levels
            volumes commanded agrees period begins nodes is c p.levels p.volumes goes.0.stocks keeps.0)
            (goes.0.begins, (goes.1.0, (goes.1.1.0, (goes.1.1.1, keeps.1))))
        by-case (finishes f) = absurd (goes.0.not_last
            (at-the-end project sound spread S some here valid kept time levels volumes commanded agrees period begins
            nodes is f.is_last))

  lines-along : (slack : ℕ) (standing : OpenStanding) (reports : List ReportedOver) (last : OpenStanding)
      → IsOpenRunOverFrom project spread slack standing (periods_over reports) last → AreReportsOver project reports
      → IsSettled project standing
      → (time : ℕ) (levels volumes : List ℤ) (commanded : List LinkState) (periods : List Period)
      → AgreesFrom project S standing time levels volumes commanded
      → StartsAt project spread S time levels volumes commanded periods
      → AllLinesHoldWithin project spread S commanded periods reports
  lines-along slack standing reports last run are settled time levels volumes commanded [] agrees starts = tt
  lines-along slack standing [] last run are settled time levels volumes commanded (period ∷ periods) agrees starts = tt
  lines-along slack standing (each ∷ reports) last run are settled time levels volumes commanded (period ∷ periods)
      agrees starts =
      let more = run-of-more project spread slack standing each.here (periods_over reports) last run in
      let settled-here = subst (IsSettled project) (sym more.same) settled in
      let agrees-here = subst (λ s. AgreesFrom project S s time levels volumes commanded) (sym more.same) agrees in (
        starts.1.0,
        (
          starts.1.1.0,
          (
            its-lines each.here more.valid settled-here time levels volumes commanded agrees-here period starts.0
                starts.1.0 starts.1.1.0 each.lines are.0,
            after-it each.here more.valid settled-here time levels volumes commanded agrees-here period starts.0
                starts.1.0 starts.1.1.0 reports
                (λ next now at with_volumes left others. lines-along slack each.here.next reports last more.go are.1
                next now at with_volumes left others) periods starts.1.1.1.0 starts.1.1.1.1,
          ),
        ),
      )

pub every_line_within : (project : Project) → IsSound project → (spread : Spread) → IsSpread project spread
    → (slack : ℕ) (reports : List ReportedOver) (last : OpenStanding)
    → IsOpenRunOver project spread slack (periods_over reports) last → AreReportsOver project reports
    → EveryLineHoldsWithin project spread reports
every_line_within project sound spread is slack reports last run are S some [] history = tt
every_line_within project sound spread is slack reports last run are S some (first ∷ rest) history =
    let kept = kept_at_start project sound spread is run.start in
    let begun = agrees_at_start project spread S (omega (arith, some)) run.start first history.within.0 in
    lines-along project sound spread S (omega (arith, some)) slack (open_standing_within project spread) reports last
    run.run are
    (record {
      kept = record { controls = kept.controls; levels = kept.levels; states = kept.states };
      quiet = inl (omega arith);
    })
    0 first.levels first.volumes (initial_links project) (first ∷ rest)
    (record {
      after = omega arith;
      by = omega arith;
      levels_lie = begun.levels_lie;
      volumes_lie = begun.volumes_lie;
      tanks_are = begun.tanks_are;
      commanded_are = begun.commanded_are;
    })
    (history.within.0.begins, (history.within.1.0, (history.within.1.1.0, (history.within.1.1.1, history.keeps))))
