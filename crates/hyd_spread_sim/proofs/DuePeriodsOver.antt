-- A period of a run for a spread that is due: starting again, and how sharp its record is.
use Rattle.std.proofs.Common.{◌≡◌, ◌≢◌, ℕ, ℤ, Bool, true, false, List, length, sym, ap, subst, ◌∙◌, inl, inr, ◌⊎◌}
use Rattle.std.specs.Prelude.{MatchBool, Ok, Err, Result, IfOk}
use Rattle.std.proofs.lemmas.List.{length-map}
use Rattle.hyd_lemmas.proofs.ListsOptionsAndResults.{as_long}
use Rattle.hyd_spec.specs.ProgramTypes.{Project, Tank}
use Rattle.hyd_spec.specs.NodeNumbers.{tank_count}
use Rattle.hyd_spec_certificates.specs.Interval.{Interval}
use Rattle.hyd_spec_certificates.specs.PeriodNetwork.{Grid}
use Rattle.hyd_spec_certificates.specs.RecordAndStanding.{Record, Vectors}
use Rattle.hyd_spec_certificates.specs.declared.Problem.TheVariants.{Main}
use Rattle.hyd_spec_certificates.specs.declared.Side.TheVariants.{Upper, Lower}
use Rattle.hyd_spec_certificates.specs.SpansAsIntervals.{levels_of}
use Rattle.hyd_spec_open_ends.specs.OpenRecords.{LeadsOnOpenly, continues, finishes, level_left}
use Rattle.hyd_spec_open_ends.specs.OpenStandings.{OpenStanding, OpenRecord}
use Rattle.hyd_spec_spread.specs.Spreads.{Spread}
use Rattle.hyd_spec_spread_promises.specs.SharpOverSpreads.{AreClose, IsNarrowOver, IsNarrowWithin, StaysNarrow}
use Rattle.hyd_spec_spread_reports.specs.TextsOfSpreadReports.{says_nothing}
use Rattle.hyd_spec_spread_runs.specs.OutermostPairs.{Pair, spanned}
use Rattle.hyd_spec_open_spreads.specs.OpenRunsForSpreads.{spanning_openly}
use Rattle.hyd_cert.specs.RecordView.{row_of}
use Rattle.hyd_open_certificates.specs.OpenRowView.{open_record_of}
use Rattle.hyd_open_certificates.specs.declared.open_row.OpenRow.{OpenRow}
use Rattle.hyd_open_period_end.specs.EndOfOpenPeriod.{standing_left}
use Rattle.hyd_open_period_end.specs.declared.open_period_end.OpenPeriodEnd.{OpenPeriodEnd}
use Rattle.hyd_open_sim.specs.EndedPeriods.{next_standing}
use Rattle.hyd_open_sim.specs.declared.open_settings.OpenSettings.{OpenSettings}
use Rattle.hyd_open_sim_start.specs.StandingsOfOpenRuns.{IsStanding, known_for, standing_for}
use Rattle.hyd_open_sim_start.specs.declared.standing.Standing.{Standing as Here}
use Rattle.hyd_period_end.specs.OpenMatters.{SharesVectors}
use Rattle.hyd_period_vectors.specs.SoughtVectors.{OfEach}
use Rattle.hyd_period_end.specs.FactsBeforeVectors.{AreBegun, AreReady}
use Rattle.hyd_period_facts.specs.declared.facts.Facts.{Facts}
use Rattle.hyd_spread_networks.specs.NetsOfSpreads.{SpreadNetsView, pair_of}
use Rattle.hyd_spread_start.specs.StartsOver.{IsStartedOver}
use Rattle.hyd_spread_vectors.specs.NarrowForSpreads.{HoldsClose}
use Rattle.hyd_spread_vectors.specs.VectorsOfBothNetworks.{Told, Held, IsHeldIn, KeepsSize, SpreadRoom}
use Rattle.hyd_open_sim.proofs.StandingsBehindPeriods.{at-later}
use Rattle.hyd_spread_sim.specs.DuePeriods.{IsDoneOver, IsSearchFor}
use Rattle.hyd_spread_sim.specs.MadeOver.{IsMadeOver}
use Rattle.hyd_spread_sim.specs.PeriodAttempt.{AreSoughtOver}

-- a period that starts again
pub started-again : (project : Project) (spread : Spread) (standing : OpenStanding) (nets : SpreadNetsView)
    (first now : OpenRow) (before after : Facts) → IsStartedOver project spread standing nets first before
    → now.row.number ≡ first.row.number → now.row.time ≡ first.row.time → now.late ≡ first.late
    → AreBegun project standing.known after → AreReady project after
    → IsStartedOver project spread standing nets now after
started-again project spread standing nets first now before after is number time late begun ready = record {
  in_range = is.in_range;
  are_pair = is.are_pair;
  states = is.states;
  links = λ side. is.links side ∙ is.begun.links ∙ sym begun.links;
  begun = begun;
  ready = ready;
  number = number ∙ is.number;
  time = time ∙ is.time;
  late = late ∙ is.late;
  order = is.order;
}

-- vectors are as close for the same width and levels
pub close-at : (W V : ℤ) (levels before : List Interval) (held : Held) → HoldsClose V before held → V ≡ W
    → before ≡ levels → HoldsClose W levels held
close-at W V levels before held close wide start =
    subst (λ (xs : List Interval). HoldsClose W xs held) start
    (subst (λ (X : ℤ). HoldsClose X before held) wide close)

-- where a period isn't done nothing need hold of its record
pub not-done : {E : Type 0} (P : Type 0) (result : Result Bool E) → IfOk result (λ fits. fits ≡ false)
    → IfOk result (λ fits. fits ≡ true → P)
not-done P (Ok fits) e = λ is. absurd (cc)
not-done P (Err fault) e = e

-- where it goes on, rounds were spent
pub spent-on : {E : Type 0} (P Q : Type 0) (result : Result Bool E) → (P → Q) → IfOk result (λ fits. P)
    → IfOk result (λ fits. Q)
spent-on P Q (Ok fits) f p = f p
spent-on P Q (Err fault) f p = tt

-- a search stays one for the network
pub search-still : (project : Project) (rounds : ℕ) (before now : SpreadRoom) → KeepsSize before now
    → IsSearchFor project rounds before → IsSearchFor project rounds now
search-still project rounds before now keeps is = record {
  junctions = keeps.junctions ∙ is.junctions;
  tanks = keeps.tanks ∙ is.tanks;
  rounds_are = keeps.rounds ∙ is.rounds_are;
}

module _ (told : Told) (project : Project) (settings : OpenSettings) (here : Here) (nets : SpreadNetsView)
    (found : OpenRow) (facts : Facts) (close : OpenPeriodEnd) where
  -- tight vectors do in any case
  pub done-tight : IsMadeOver project settings.slack here nets found facts close
      → AreSoughtOver true told (pair_of nets) (tank_count project) settings.search.rounds (row_of found.row)
      → IsDoneOver told project settings here nets found facts close
  done-tight made sought = record { made = made; sharp = by settings.search.tight }
    where
      by : (asked : Bool) → MatchBool asked
          (AreSoughtOver true told (pair_of nets) (tank_count project) settings.search.rounds (row_of found.row))
          (AreSoughtOver true told (pair_of nets) (tank_count project) settings.search.rounds (row_of found.row)
          ⊎ (IsNarrowWithin settings.search.width nets.spread (standing_for here) (pair_of nets) (row_of found.row)
          (next_standing project here close)
          × AreSoughtOver false told (pair_of nets) (tank_count project) settings.search.rounds (row_of found.row)))
      by true = sought
      by false = inl sought

  -- others do where their record is narrow and no tight vectors are asked for
  pub done-narrow : settings.search.tight ≡ false → IsMadeOver project settings.slack here nets found facts close
      → IsNarrowWithin settings.search.width nets.spread (standing_for here) (pair_of nets) (row_of found.row)
      (next_standing project here close)
      → AreSoughtOver false told (pair_of nets) (tank_count project) settings.search.rounds (row_of found.row)
      → IsDoneOver told project settings here nets found facts close
  done-narrow asks made narrow sought = record { made = made; sharp = by settings.search.tight asks }
    where
      by : (asked : Bool) → asked ≡ false → MatchBool asked
          (AreSoughtOver true told (pair_of nets) (tank_count project) settings.search.rounds (row_of found.row))
          (AreSoughtOver true told (pair_of nets) (tank_count project) settings.search.rounds (row_of found.row)
          ⊎ (IsNarrowWithin settings.search.width nets.spread (standing_for here) (pair_of nets) (row_of found.row)
          (next_standing project here close)
          × AreSoughtOver false told (pair_of nets) (tank_count project) settings.search.rounds (row_of found.row)))
      by true e = absurd (cc)
      by false e = inr (narrow, sought)

-- ---- levels behind a period

-- as many levels follow a period that was made as there were before it
pub next-long : (project : Project) (slack : ℕ) (here : Here) (nets : SpreadNetsView) (found : OpenRow)
    (facts : Facts) (close : OpenPeriodEnd) → IsStanding project here
    → IsMadeOver project slack here nets found facts close → here.time ≢ project.times.duration
    → length close.next.levels.list ≡ length here.stocks.levels.list
next-long project slack here nets found facts close is made other =
    by (subst (LeadsOnOpenly project grid (standing_for here) record-of) (at-later project here close other)
    made.over.leads_on)
  where
    grid : Grid
    grid = spanned (pair_of nets)

    record-of : OpenRecord
    record-of = spanning_openly (pair_of nets) (open_record_of found)

    before : length here.stocks.levels.list ≡ tank_count project
    before = sym (length-map here.stocks.levels.list levels_of) ∙ is.firm.tidy.levels_each

    by : LeadsOnOpenly project grid (standing_for here) record-of (standing_left (standing_for here) close)
        → length close.next.levels.list ≡ length here.stocks.levels.list
    by (continues c) = sym (length-map close.next.levels.list levels_of) ∙ ap length c.levels
        ∙ as_long {X = Tank} {Y = Interval} (level_left project grid (known_for here) record-of c.reached) 0
        project.tanks.list ∙ sym before
    by (finishes f) = absurd (other f.is_last)

-- where one search did for both networks, the vectors of the record are close to each other
pub close-alone : (W : ℤ) (levels : List Interval) (held : Held) (tanks : ℕ) (row : Record)
    → SharesVectors held.above held.below → OfEach (IsHeldIn held) tanks row → HoldsClose W levels held
    → AreClose W levels row.main.upper row.main.lower
close-alone W levels held tanks row share same close =
    let lower : row.main.lower ≡ held.above.main.lower =
    same Main Lower tt ∙ sym (ap (λ (v : Vectors). v.lower) share.main) in
    subst (λ (u : List ℤ). AreClose W levels u row.main.lower) (sym (same Main Upper tt))
    (subst (λ (v : List ℤ). AreClose W levels held.above.main.upper v) (sym lower) close.above)

-- vectors that are close, and where there is no spread those of the record too, and levels that stay narrow
pub narrow-within : (W V : ℤ) (spread : Spread) (standing : OpenStanding) (pair : Pair) (row : Record)
    (next : OpenStanding) → V ≡ W → IsNarrowOver W standing.known.levels pair row
    → (says_nothing spread ≡ true → AreClose W standing.known.levels row.main.upper row.main.lower)
    → (says_nothing spread ≡ true → StaysNarrow V standing next) → IsNarrowWithin W spread standing pair row next
narrow-within W V spread standing pair row next same vectors heads stay = record {
  vectors = vectors;
  heads = heads;
  levels = λ e. subst (λ (X : ℤ). StaysNarrow X standing next) same (stay e);
}
