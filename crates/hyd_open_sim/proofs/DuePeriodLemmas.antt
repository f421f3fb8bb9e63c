-- A period that is due: starting again, and whether its record is sharp.
use Rattle.std.proofs.Common.{◌≡◌, ◌≢◌, ℕ, ℤ, Bool, true, false, List, length, sym, ap, subst, ◌∙◌, ◌⊎◌, inl, inr}
use Rattle.std.specs.Prelude.{Option, MatchBool, slice_index_or, pos, ◌+ℤ◌, ◌-ℤ◌, ◌*ℤ◌, ◌≤ℤ◌}
use Rattle.std.proofs.lemmas.List.{length-map}
use Rattle.hyd_spec.specs.ProgramTypes.{Project, Tank}
use Rattle.hyd_spec.specs.NodeNumbers.{tank_count}
use Rattle.hyd_spec.specs.Assignment.{head_at}
use Rattle.hyd_spec.specs.Lists.{Each}
use Rattle.hyd_spec_certificates.specs.SpansAsIntervals.{levels_of}
use Rattle.hyd_spec_certificates.specs.Interval.{Interval, width}
use Rattle.hyd_spec_certificates.specs.Narrow.{widest}
use Rattle.hyd_spec_certificates.specs.Decided.{level_of_tank, nowhere}
use Rattle.hyd_spec_certificates.specs.declared.Event.{Event}
use Rattle.hyd_spec_certificates.specs.PeriodNetwork.{Grid}
use Rattle.hyd_spec_open_ends.specs.OpenStandings.{OpenRecord, OpenStanding}
use Rattle.hyd_spec_open_ends.specs.OpenRecords.{LeadsOnOpenly, continues, finishes, level_left}
use Rattle.hyd_spec_open_reports.specs.PromisesOfOpenReports.{IsNarrowOpenly, IsSharpOpenly}
use Rattle.hyd_net.specs.ListView.{ListView}
use Rattle.hyd_cert.specs.RecordView.{row_of}
use Rattle.hyd_lemmas.proofs.ListsOptionsAndResults.{as_long}
use Rattle.hyd_period_facts.specs.declared.facts.Facts.{Facts}
use Rattle.hyd_period_network.specs.NetAsPeriodNetwork.{grid_of}
use Rattle.hyd_period_network.specs.NetView.{NetView}
use Rattle.hyd_period_end.specs.FactsBeforeVectors.{AreBegun, AreReady}
use Rattle.hyd_open_certificates.specs.OpenRowView.{open_record_of}
use Rattle.hyd_open_certificates.specs.declared.open_row.OpenRow.{OpenRow}
use Rattle.hyd_open_period_end.specs.EndOfOpenPeriod.{standing_left}
use Rattle.hyd_open_period_end.specs.declared.open_period_end.OpenPeriodEnd.{OpenPeriodEnd}
use Rattle.hyd_open_sim_start.specs.StandingsOfOpenRuns.{IsStanding, known_for, standing_for}
use Rattle.hyd_open_sim_start.specs.StartedPeriods.{IsStarted}
use Rattle.hyd_open_sim_start.specs.declared.standing.Standing.{Standing as Here}
use Rattle.hyd_sim.specs.PeriodAttempt.{AreSought}
use Rattle.hyd_sim.proofs.StopsAndTightRecords.{tight-of}
use Rattle.hyd_open_sim.specs.EndedPeriods.{IsMade, next_standing}
use Rattle.hyd_open_sim.specs.NarrowRecords.{AreSteady}
use Rattle.hyd_open_sim.specs.RunView.{sharpness_of}
use Rattle.hyd_open_sim.specs.Steps.{IsAdvanced, IsDone, IsSharpAsSought, found_between}
use Rattle.hyd_open_sim.specs.declared.open_settings.OpenSettings.{OpenSettings}
use Rattle.hyd_open_sim.proofs.StandingsBehindPeriods.{at-later}

-- ---- narrow records

module _ (W : ℤ) (standing next : OpenStanding) where
  -- levels that are steady, by the lists that were looked at
  pub steady-there : (V : ℤ) (before after : List Interval) → V ≡ W → before ≡ standing.known.levels
      → after ≡ next.known.levels → Each after (λ k level. (pos 100 *ℤ width level)
      ≤ℤ ((pos 200 *ℤ width (slice_index_or before k nowhere)) +ℤ V)) → AreSteady W standing next
  steady-there V before after wide start end all = λ late ends.
      subst (λ (xs : List Interval). Each xs (λ k level. (pos 100 *ℤ width level)
      ≤ℤ ((pos 200 *ℤ width (level_of_tank standing.known k)) +ℤ W))) end
      (subst (λ (xs : List Interval). Each after (λ k level. (pos 100 *ℤ width level)
      ≤ℤ ((pos 200 *ℤ width (slice_index_or xs k nowhere)) +ℤ W))) start
      (subst (λ (X : ℤ). Each after (λ k level. (pos 100 *ℤ width level)
      ≤ℤ ((pos 200 *ℤ width (slice_index_or before k nowhere)) +ℤ X))) wide all))

  pub steady-here : (V : ℤ) (before after : List Interval) → V ≡ W → before ≡ standing.known.levels
      → after ≡ next.known.levels → standing.late ≡ 0 → next.late ≡ 0 → AreSteady W standing next
      → Each after (λ k level. (pos 100 *ℤ width level)
      ≤ℤ ((pos 200 *ℤ width (slice_index_or before k nowhere)) +ℤ V))
  steady-here V before after wide start end late ends are =
      subst (λ (X : ℤ). Each after (λ k level. (pos 100 *ℤ width level)
      ≤ℤ ((pos 200 *ℤ width (slice_index_or before k nowhere)) +ℤ X))) (sym wide)
      (subst (λ (xs : List Interval). Each after (λ k level. (pos 100 *ℤ width level)
      ≤ℤ ((pos 200 *ℤ width (slice_index_or xs k nowhere)) +ℤ W))) (sym start)
      (subst (λ (xs : List Interval). Each xs (λ k level. (pos 100 *ℤ width level)
      ≤ℤ ((pos 200 *ℤ width (level_of_tank standing.known k)) +ℤ W))) (sym end) (are late ends)))

  module _ (found : OpenRecord) (upper lower : List ℤ) (before : List Interval) (up : upper ≡ found.row.main.upper)
      (low : lower ≡ found.row.main.lower) (start : before ≡ standing.known.levels) where
    abbrev AreClose : List ℤ → List ℤ → List Interval → Type 0
    AreClose xs ys levels = Each xs (λ j h. (h -ℤ head_at ys j) ≤ℤ (W +ℤ widest levels))

    pub narrow-there : (V : ℤ) → V ≡ W → Each upper (λ j h. (h -ℤ head_at lower j) ≤ℤ (V +ℤ widest before))
        → AreSteady V standing next → IsNarrowOpenly W standing found next
    narrow-there V wide close steady = record {
      heads = subst (λ (xs : List ℤ). AreClose xs found.row.main.lower standing.known.levels) up
          (subst (λ (xs : List ℤ). AreClose upper xs standing.known.levels) low
          (subst (λ (xs : List Interval). AreClose upper lower xs) start
          (subst (λ (X : ℤ). Each upper (λ j h. (h -ℤ head_at lower j) ≤ℤ (X +ℤ widest before))) wide close)));
      levels = subst (λ (X : ℤ). AreSteady X standing next) wide steady;
    }

    pub close-here : (V : ℤ) → V ≡ W → IsNarrowOpenly W standing found next
        → Each upper (λ j h. (h -ℤ head_at lower j) ≤ℤ (V +ℤ widest before))
    close-here V wide is =
        subst (λ (X : ℤ). Each upper (λ j h. (h -ℤ head_at lower j) ≤ℤ (X +ℤ widest before))) (sym wide)
        (subst (λ (xs : List ℤ). AreClose xs lower before) (sym up)
        (subst (λ (xs : List ℤ). AreClose found.row.main.upper xs before) (sym low)
        (subst (λ (xs : List Interval). AreClose found.row.main.upper found.row.main.lower xs) (sym start) is.heads)))

-- as many levels follow a period that was made as there were before it
pub next-long : (project : Project) (slack : ℕ) (here : Here) (net : NetView) (found : OpenRow) (facts : Facts)
    (close : OpenPeriodEnd) → IsStanding project here → IsMade project slack here net found facts close
    → here.time ≢ project.times.duration → length close.next.levels.list ≡ length here.stocks.levels.list
next-long project slack here net found facts close is made other =
    by (subst (LeadsOnOpenly project (grid_of net) (standing_for here) (open_record_of found))
    (at-later project here close other) made.over.leads_on)
  where
    before : length here.stocks.levels.list ≡ tank_count project
    before = sym (length-map here.stocks.levels.list levels_of) ∙ is.firm.tidy.levels_each

    by : LeadsOnOpenly project (grid_of net) (standing_for here) (open_record_of found)
        (standing_left (standing_for here) close) → length close.next.levels.list ≡ length here.stocks.levels.list
    by (continues c) = sym (length-map close.next.levels.list levels_of) ∙ ap length c.levels
        ∙ as_long {X = Tank} {Y = Interval}
        (level_left project (grid_of net) (known_for here) (open_record_of found) c.reached) 0 project.tanks.list
        ∙ sym before
    by (finishes f) = absurd (other f.is_last)

-- ---- a period that starts again

pub started-again : (project : Project) (standing : OpenStanding) (net : NetView) (first now : OpenRow)
    (before after : Facts) → IsStarted project standing net first before → now.row.number ≡ first.row.number
    → now.row.time ≡ first.row.time → now.late ≡ first.late → AreBegun project standing.known after
    → AreReady project after → IsStarted project standing net now after
started-again project standing net first now before after is number time late begun ready = record {
  in_range = is.in_range;
  is_grid = is.is_grid;
  states = is.states;
  links = is.links ∙ is.begun.links ∙ sym begun.links;
  begun = begun;
  ready = ready;
  number = number ∙ is.number;
  time = time ∙ is.time;
  late = late ∙ is.late;
  order = is.order;
}

-- ---- sharpness

-- a record is as sharp as the settings ask, where its vectors are those that were sought for that
pub sharp-of : (told : Option (List ℤ)) (project : Project) (settings : OpenSettings) (standing : OpenStanding)
    (grid : Grid) (found : OpenRecord) (next : OpenStanding)
    → IsSharpAsSought told project settings standing grid found next
    → IsSharpOpenly project (sharpness_of settings) (found_between standing grid found next)
sharp-of told project settings standing grid found next = by settings.search.tight
  where
    by : (asked : Bool) → MatchBool asked
        (AreSought true told grid (tank_count project) settings.search.rounds found.row)
        (AreSought true told grid (tank_count project) settings.search.rounds found.row
        ⊎ (IsNarrowOpenly settings.search.width standing found next
        × AreSought false told grid (tank_count project) settings.search.rounds found.row))
        → IsSharpOpenly project (record { width = settings.search.width; tight = asked })
        (found_between standing grid found next)
    by true are = tight-of project grid found.row are.each
    by false (inl are) = inl (tight-of project grid found.row are.each)
    by false (inr both) = inr both.0

module _ (told : Option (List ℤ)) (project : Project) (settings : OpenSettings) (here : Here) (net : NetView)
    (found : OpenRow) (facts : Facts) (close : OpenPeriodEnd) where
  -- tight vectors do in any case
  pub done-tight : IsMade project settings.slack here net found facts close
      → AreSought true told (grid_of net) (tank_count project) settings.search.rounds (row_of found.row)
      → IsDone told project settings here net found facts close
  done-tight made sought = record { made = made; sought = by settings.search.tight }
    where
      by : (asked : Bool) → MatchBool asked
          (AreSought true told (grid_of net) (tank_count project) settings.search.rounds (row_of found.row))
          (AreSought true told (grid_of net) (tank_count project) settings.search.rounds (row_of found.row)
          ⊎ (IsNarrowOpenly settings.search.width (standing_for here) (open_record_of found)
          (next_standing project here close)
          × AreSought false told (grid_of net) (tank_count project) settings.search.rounds (row_of found.row)))
      by true = sought
      by false = inl sought

  -- others do where their record is narrow and no tight vectors are asked for
  pub done-narrow : settings.search.tight ≡ false → IsMade project settings.slack here net found facts close
      → IsNarrowOpenly settings.search.width (standing_for here) (open_record_of found)
      (next_standing project here close)
      → AreSought false told (grid_of net) (tank_count project) settings.search.rounds (row_of found.row)
      → IsDone told project settings here net found facts close
  done-narrow asks made narrow sought = record { made = made; sought = by settings.search.tight asks }
    where
      by : (asked : Bool) → asked ≡ false → MatchBool asked
          (AreSought true told (grid_of net) (tank_count project) settings.search.rounds (row_of found.row))
          (AreSought true told (grid_of net) (tank_count project) settings.search.rounds (row_of found.row)
          ⊎ (IsNarrowOpenly settings.search.width (standing_for here) (open_record_of found)
          (next_standing project here close)
          × AreSought false told (grid_of net) (tank_count project) settings.search.rounds (row_of found.row)))
      by true e = absurd (cc)
      by false e = inr (narrow, sought)

  -- a period that was done, and the standing behind it
  pub advanced-of : (now : Here) (left : OpenPeriodEnd) → standing_for now ≡ next_standing project here close
      → left.first ≡ close.first → left.late ≡ close.late → left.opened ≡ close.opened
      → IsDone told project settings here net found facts close
      → IsAdvanced told project settings (standing_for here) net found facts left.first left.late left.opened.list
      (standing_for now)
  advanced-of now left same first late opened done =
      subst (IsAdvanced told project settings (standing_for here) net found facts left.first left.late
      left.opened.list) (sym same)
      (subst (λ (n : ℕ). IsAdvanced told project settings (standing_for here) net found facts n left.late
      left.opened.list (next_standing project here close)) (sym first)
      (subst (λ (n : ℕ). IsAdvanced told project settings (standing_for here) net found facts close.first n
      left.opened.list (next_standing project here close)) (sym late)
      (subst (λ (l : ListView Event). IsAdvanced told project settings (standing_for here) net found facts close.first
      close.late l.list (next_standing project here close)) (sym opened) (record {
        valid = done.made.valid;
        within = done.made.over.within;
        facts_are = done.made.over.facts_are;
        have = done.made.over.have;
        order = done.made.order;
        states = done.made.states;
        links = done.made.links;
        sharp = sharp-of told project settings (standing_for here) (grid_of net) (open_record_of found)
            (next_standing project here close) done.sought;
        sought = done.sought;
      }))))
