-- A period that is due: why it stops, starting again, what a finder tells, and whether its vectors are narrow enough.
use Rattle.std.proofs.Common.{◌≡◌, ◌≢◌, ℕ, ℤ, Bool, true, false, List}
use Rattle.std.proofs.Common.{length, refl, sym, ap, subst, ◌∙◌, ◌⊎◌, inl, inr}
use Rattle.std.specs.Prelude.{Option, Result, Ok, Err, OnOk, MatchBool}
use Rattle.std.proofs.lemmas.List.{length-map}
use Rattle.hyd_spec.specs.ProgramTypes.{Project, Tank}
use Rattle.hyd_spec.specs.NodeNumbers.{junction_count, tank_count}
use Rattle.hyd_spec_certificates.specs.SpansAsIntervals.{levels_of}
use Rattle.hyd_spec_certificates.specs.declared.Problem.TheVariants.{Main}
use Rattle.hyd_spec_certificates.specs.declared.Side.TheVariants.{Upper, Lower}
use Rattle.hyd_spec_certificates.specs.Interval.{Interval}
use Rattle.hyd_spec_certificates.specs.PeriodNetwork.{Grid}
use Rattle.hyd_spec_certificates.specs.Narrow.{IsNarrow}
use Rattle.hyd_spec_certificates.specs.RecordAndStanding.{Record, Standing}
use Rattle.hyd_spec_certificates.specs.Valid.{AreCertificates, IsGridAt, IsValid, LeadsOn, continues, finishes}
use Rattle.hyd_spec_certificates.specs.Valid.{stocks_next}
use Rattle.hyd_spec_certificates.specs.Stops.{Stops}
use Rattle.hyd_theorems_on_definitions.specs.SoundLawsAndGrids.{IsSteady, TanksInOrder}
use Rattle.hyd_theorems_on_definitions.proofs.OneGrid.{one_grid}
use Rattle.hyd_cert.specs.RecordView.{row_of}
use Rattle.hyd_cert.specs.declared.record.Record.{Record as Row}
use Rattle.hyd_period_facts.specs.declared.facts.Facts.{Facts}
use Rattle.hyd_period_network.specs.NetAsPeriodNetwork.{grid_of}
use Rattle.hyd_period_network.specs.NetView.{NetView}
use Rattle.hyd_period_end.specs.FactsBeforeVectors.{AreBegun, AreReady}
use Rattle.hyd_period_end.specs.OpenMatters.{SharesVectors, IsOpenAt}
use Rattle.hyd_period_end.specs.declared.period_end.PeriodEnd.{PeriodEnd}
use Rattle.hyd_period_vectors.specs.SoughtVectors.{HaveSame}
use Rattle.hyd_sim.specs.PeriodAttempt.{AreSought, IsFault, IsMade, IsStarted, fault_stop_of, later_standing}
use Rattle.hyd_sim.specs.PeriodAttempt.{next_standing}
use Rattle.hyd_sim.specs.NarrowRecordsAndStops.{AreNarrow, NamesStuck}
use Rattle.hyd_sim.specs.Steps.{AreTight, AreToldOrLeft, IsAdvanced, IsDone, IsProposal, IsSharp, IsSharpAsSought}
use Rattle.hyd_sim.specs.RunView.{IsStanding, standing_for}
use Rattle.hyd_sim.specs.declared.settings.Settings.{Settings}
use Rattle.hyd_sim.specs.declared.period_attempt.Fault.{Fault}
use Rattle.hyd_sim.specs.declared.period_attempt.Fault.TheVariants.{Lack, Open}
use Rattle.hyd_sim.specs.declared.standing_between_periods.Standing.{Standing as Here}
use Rattle.hyd_sim.proofs.MissingVectors.{lacks-one, same-as-given}
use Rattle.hyd_sim.proofs.ProposedRecordIsTaken.{shares, none-open-at, same-row, same-next}
use Rattle.hyd_sim.proofs.StopsAndTightRecords.{lack-stops, lack-stuck, open-stops, open-stuck, tight-of, tight-row}
use Rattle.hyd_sim.proofs.StandingAfter.{at-later}
use Rattle.hyd_lemmas.proofs.ListsOptionsAndResults.{as_long}

-- ---- narrow records

module _ (W : ℤ) (standing next : Standing) (row : Record) (upper lower : List ℤ) (before after : List Interval)
    (up : upper ≡ row.main.upper) (low : lower ≡ row.main.lower) (start : before ≡ standing.levels)
    (end : after ≡ next.levels) where
  pub narrow-there : AreNarrow W upper lower before after → IsNarrow W standing row next
  narrow-there are =
      let moved : AreNarrow W row.main.upper row.main.lower standing.levels next.levels =
      subst (λ (xs : List ℤ). AreNarrow W xs row.main.lower standing.levels next.levels) up
      (subst (λ (xs : List ℤ). AreNarrow W upper xs standing.levels next.levels) low
      (subst (λ (xs : List Interval). AreNarrow W upper lower xs next.levels) start
      (subst (λ (xs : List Interval). AreNarrow W upper lower before xs) end are))) in
      record { heads = moved.heads; levels = moved.levels }

  pub narrow-here : IsNarrow W standing row next → AreNarrow W upper lower before after
  narrow-here is =
      let there : AreNarrow W row.main.upper row.main.lower standing.levels next.levels =
      record { heads = is.heads; levels = is.levels } in
      subst (λ (xs : List ℤ). AreNarrow W xs lower before after) (sym up)
      (subst (λ (xs : List ℤ). AreNarrow W row.main.upper xs before after) (sym low)
      (subst (λ (xs : List Interval). AreNarrow W row.main.upper row.main.lower xs after) (sym start)
      (subst (λ (xs : List Interval). AreNarrow W row.main.upper row.main.lower standing.levels xs) (sym end) there)))

-- as many levels follow a period that was made as there were before it
pub next-long : (project : Project) (here : Here) (net : NetView) (row : Row) (facts : Facts) (close : PeriodEnd)
    → IsStanding project here → IsMade project here net row facts close → here.time ≢ project.times.duration
    → length close.next.levels.list ≡ length here.stocks.levels.list
next-long project here net row facts close is made other =
    by (subst (LeadsOn project (grid_of net) (standing_for here) (row_of row))
    (at-later project here row.length close other) made.over.leads_on)
  where
    before : length here.stocks.levels.list ≡ tank_count project
    before = sym (length-map here.stocks.levels.list levels_of) ∙ is.tidy.levels_each

    by : LeadsOn project (grid_of net) (standing_for here) (row_of row) (later_standing here row.length close)
        → length close.next.levels.list ≡ length here.stocks.levels.list
    by (continues c) = sym (length-map close.next.levels.list levels_of) ∙ ap length c.levels
        ∙ as_long (λ k (tank : Tank).
        (stocks_next project (grid_of net) (standing_for here) (row_of row) row.length k tank).level) 0
        project.tanks.list
        ∙ sym before
    by (finishes f) = absurd (other f.is_last)

-- both MAIN vectors have as many heads
pub heads-each : (project : Project) (grid : Grid) (row : Record) → AreCertificates project grid row
    → length row.main.lower ≡ length row.main.upper
heads-each project grid row are = (are.each Main Lower tt).one_each ∙ sym (are.each Main Upper tt).one_each

-- ---- why a period stops

pub shares-itself : (row : Record) → SharesVectors row row
shares-itself row = record { main = refl; pinned = refl }

pub fault-stops : (project : Project) (here : Here) (net : NetView) (started row : Row) (facts : Facts) (rounds : ℕ)
    (told : Option (List ℤ)) → IsStarted project here net started facts
    → length (grid_of net).junctions ≡ junction_count project → length (row_of row).pinned ≡ tank_count project
    → (fault : Fault) → IsFault true told project (grid_of net) (standing_for here) rounds (row_of row) fault
    → Stops project (standing_for here) rounds (fault_stop_of here.number rounds fault)
fault-stops project here net started row facts rounds told is count pinned (Lack lack) fault =
    lack-stops project (standing_for here) (grid_of net) (tank_count project) rounds lack refl count is.in_range
    is.is_grid (lacks-one true told (grid_of net) (tank_count project) rounds (row_of row) lack fault)
fault-stops project here net started row facts rounds told is count pinned (Open found) fault =
    open-stops project (standing_for here) rounds (grid_of net) (row_of row)
    (tight-row project (standing_for here) (grid_of net) (row_of row) is.in_range is.is_grid pinned fault.0.each) found
    (fault.1 (row_of row) (shares-itself (row_of row)))

pub fault-stuck : (project : Project) (here : Here) (grid : Grid) (row : Record) (rounds : ℕ) (told : Option (List ℤ))
    → IsGridAt project (standing_for here) grid → (fault : Fault)
    → IsFault true told project grid (standing_for here) rounds row fault
    → NamesStuck project (standing_for here) rounds (fault_stop_of here.number rounds fault)
fault-stuck project here grid row rounds told is (Lack lack) fault =
    lack-stuck project (standing_for here) grid (tank_count project) rounds lack is
    (lacks-one true told grid (tank_count project) rounds row lack fault)
fault-stuck project here grid row rounds told is (Open found) fault =
    open-stuck project (standing_for here) rounds here.number found

-- ---- records that the finder tells, or leaves to rounds

module _ (project : Project) (settings : Settings) (standing : Standing) (grid : Grid)
    (is : IsGridAt project standing grid) (told : Option (List ℤ)) (w : Record)
    (p : IsProposal told project settings standing w) where
  pub told-here : AreToldOrLeft told grid (tank_count project) settings.rounds w
  told-here = p.told_at grid is

  pub valid-here : IsValid project standing grid w p.next
  valid-here = subst (λ (g : Grid). IsValid project standing g w p.next)
      (one_grid project standing p.grid grid p.valid.is_grid is) p.valid

  module _ (steady : IsSteady grid) (order : TanksInOrder grid) (row : Record)
      (pinned : length row.pinned ≡ tank_count project)
      (sought : AreSought false told grid (tank_count project) settings.rounds row) where
    pub same-here : HaveSame (tank_count project) row w
    same-here = same-as-given told grid (tank_count project) settings.rounds steady order row w sought told-here

    pub shares-here : SharesVectors w row
    shares-here = shares (tank_count project) row w pinned valid-here.certificates.pinned_each same-here

    -- they leave no matter open
    pub nothing-open : (found : _) → ((other : Record) → SharesVectors other row
        → IsOpenAt project grid standing other found)
        → ⊥
    nothing-open found all = none-open-at project standing grid w p.next valid-here found (all w shares-here)

    -- and their record is narrow
    pub narrow-too : (next : Standing) → IsValid project standing grid row next
        → IsNarrow settings.width standing row next
    narrow-too next valid =
        let number = valid-here.number ∙ sym valid.number in
        let time = valid-here.time ∙ sym valid.time in
        let same = same-row project standing grid w p.next valid-here row next shares-here number time valid.leads_on in
        let after = same-next project standing grid w p.next valid-here row next shares-here number time
        valid.leads_on in
        subst (λ (r : Record). IsNarrow settings.width standing r next) same
        (subst (λ (n : Standing). IsNarrow settings.width standing w n) after p.narrow)

-- ---- a period that starts again

pub started-again : (project : Project) (here : Here) (net : NetView) (first now : Row) (before after : Facts)
    → IsStarted project here net first before → now.number ≡ first.number → now.time ≡ first.time
    → AreBegun project (standing_for here) after → AreReady project after → IsStarted project here net now after
started-again project here net first now before after is number time begun ready = record {
  in_range = is.in_range;
  is_grid = is.is_grid;
  states = is.states;
  links = is.links ∙ is.begun.links ∙ sym begun.links;
  begun = begun;
  ready = ready;
  number = number ∙ is.number;
  time = time ∙ is.time;
  order = is.order;
}

-- ---- sharpness

-- what holds of an answer that is there, from two things that do
pub on-ok-both : {A E : Type 0} (P Q R : Type 0) (result : Result A E) → (P → Q → R) → OnOk result P → OnOk result Q
    → OnOk result R
on-ok-both P Q R (Ok value) f p q = f p q
on-ok-both P Q R (Err fault) f p q = p

-- a record is as sharp as the settings ask, where its vectors are those that were sought for that
pub sharp-of : (told : Option (List ℤ)) (project : Project) (settings : Settings) (standing : Standing) (grid : Grid)
    (row : Record) (next : Standing) → IsSharpAsSought told project settings standing grid row next
    → IsSharp project settings standing grid row next
sharp-of told project settings standing grid row next = by settings.tight
  where
    by : (asked : Bool) → MatchBool asked (AreSought true told grid (tank_count project) settings.rounds row)
        (AreSought true told grid (tank_count project) settings.rounds row
        ⊎ (IsNarrow settings.width standing row next
        × AreSought false told grid (tank_count project) settings.rounds row))
        → MatchBool asked (AreTight project grid row)
        (AreTight project grid row ⊎ IsNarrow settings.width standing row next)
    by true are = tight-of project grid row are.each
    by false (inl are) = inl (tight-of project grid row are.each)
    by false (inr both) = inr both.0

module _ (told : Option (List ℤ)) (project : Project) (settings : Settings) (here : Here) (net : NetView) (row : Row)
    (facts : Facts) (close : PeriodEnd) where
  -- tight vectors do in any case
  pub done-tight : IsMade project here net row facts close
      → AreSought true told (grid_of net) (tank_count project) settings.rounds (row_of row)
      → IsDone told project settings here net row facts close
  done-tight made sought = record { made = made; sought = by settings.tight }
    where
      by : (asked : Bool) → MatchBool asked
          (AreSought true told (grid_of net) (tank_count project) settings.rounds (row_of row))
          (AreSought true told (grid_of net) (tank_count project) settings.rounds (row_of row)
          ⊎ (IsNarrow settings.width (standing_for here) (row_of row) (next_standing project here row.length close)
          × AreSought false told (grid_of net) (tank_count project) settings.rounds (row_of row)))
      by true = sought
      by false = inl sought

  -- others do where their record is narrow and no tight vectors are asked for
  pub done-narrow : settings.tight ≡ false → IsMade project here net row facts close
      → IsNarrow settings.width (standing_for here) (row_of row) (next_standing project here row.length close)
      → AreSought false told (grid_of net) (tank_count project) settings.rounds (row_of row)
      → IsDone told project settings here net row facts close
  done-narrow asks made narrow sought = record { made = made; sought = by settings.tight asks }
    where
      by : (asked : Bool) → asked ≡ false → MatchBool asked
          (AreSought true told (grid_of net) (tank_count project) settings.rounds (row_of row))
          (AreSought true told (grid_of net) (tank_count project) settings.rounds (row_of row)
          ⊎ (IsNarrow settings.width (standing_for here) (row_of row) (next_standing project here row.length close)
          × AreSought false told (grid_of net) (tank_count project) settings.rounds (row_of row)))
      by true e = absurd (cc)
      by false e = inr (narrow, sought)

  -- a period that was done, and the standing behind it
  pub advanced-of : (now : Here) → standing_for now ≡ next_standing project here row.length close
      → IsDone told project settings here net row facts close
      → IsAdvanced told project settings (standing_for here) net row facts (standing_for now)
  advanced-of now same done =
      subst (IsAdvanced told project settings (standing_for here) net row facts) (sym same) (record {
        valid = done.made.valid;
        facts_are = done.made.over.facts_are;
        have = done.made.over.have;
        order = done.made.order;
        states = done.made.states;
        links = done.made.links;
        sharp = sharp-of told project settings (standing_for here) (grid_of net) (row_of row)
            (next_standing project here row.length close) done.sought;
        sought = done.sought;
      })
