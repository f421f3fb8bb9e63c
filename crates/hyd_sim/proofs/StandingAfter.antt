-- The standing behind a period.
use Rattle.std.proofs.Common.{◌≡◌, ◌≢◌, suc, ◌+◌, ◌^◌, ◌≤◌, true, false, length, sym, subst, ◌∙◌, arith, ℕ, Bool, ap}
use Rattle.std.proofs.Common.{eq-eqb}
use Rattle.std.proofs.lemmas.Bool.{true≢false, ne_eqb}
use Rattle.hyd_net.specs.Sound.{IsSound}
use Rattle.hyd_spec.specs.ProgramTypes.{Project}
use Rattle.hyd_spec_certificates.specs.RecordAndStanding.{Standing}
use Rattle.hyd_spec_certificates.specs.Valid.{IsValid, LeadsOn, Continues, continues, finishes}
use Rattle.hyd_theorems_on_histories.specs.Agreement.{IsKept}
use Rattle.hyd_theorems_on_histories.proofs.AgreementAfterPeriod.{kept_next}
use Rattle.hyd_theorems_on_nesting.specs.StandingsOfRuns.{IsTidy}
use Rattle.hyd_theorems_on_nesting.proofs.TightVectorsDecide.{tidy_next}
use Rattle.hyd_cert.specs.RecordView.{row_of}
use Rattle.hyd_cert.specs.declared.record.Record.{Record as Row}
use Rattle.hyd_period_facts.specs.declared.facts.Facts.{Facts}
use Rattle.hyd_period_network.specs.NetAsPeriodNetwork.{grid_of}
use Rattle.hyd_period_network.specs.NetView.{NetView}
use Rattle.hyd_period_facts.specs.RoomForStocks.{HasRoom as HasNextRoom}
use Rattle.hyd_period_end.specs.EndOfPeriod.{HasRoom, AreKeptIn}
use Rattle.hyd_period_end.specs.declared.period_end.PeriodEnd.{PeriodEnd}
use Rattle.hyd_sim.specs.PeriodAttempt.{IsMade, later_standing, next_standing, last_standing}
use Rattle.hyd_sim.specs.RunView.{IsStanding, standing_at, standing_for}
use Rattle.hyd_sim.specs.declared.standing_between_periods.Standing.{Standing as Here}
use Rattle.hyd_sim.proofs.LinkStatesAtStart.{zip-length}
use Rattle.std.specs.Prelude.{if◌then◌else◌}

-- no more periods were done than seconds are over, so their number is small
pub small-number : (project : Project) (here : Here) → IsSound project → IsStanding project here → here.finished ≡ false
    → here.number ≤ 10 ^ 8
small-number project here sound is unfinished =
    let few = is.unfinished unfinished in
    let within = is.tidy.in_time in
    let short = sound.times.duration in
    omega (arith, few, within, short)

-- ---- which standing is behind a period

pub at-last : (project : Project) (here : Here) (seconds : ℕ) (close : PeriodEnd) → here.time ≡ project.times.duration
    → next_standing project here seconds close ≡ last_standing here
at-last project here seconds close e =
    ap (λ (b : Bool). if b then last_standing here else later_standing here seconds close)
    (eq-eqb here.time project.times.duration e)

pub at-later : (project : Project) (here : Here) (seconds : ℕ) (close : PeriodEnd) → here.time ≢ project.times.duration
    → next_standing project here seconds close ≡ later_standing here seconds close
at-later project here seconds close e =
    ap (λ (b : Bool). if b then last_standing here else later_standing here seconds close)
    (ne_eqb here.time project.times.duration e)

-- ---- behind the period at the end of the run

pub finished-standing : (project : Project) (here : Here) → IsStanding project here → here.finished ≡ false
    → IsStanding project (record here { number = here.number + 1; finished = true })
finished-standing project here is unfinished = record {
  kept = record { controls = is.kept.controls; levels = is.kept.levels; states = is.kept.states };
  tidy = record {
    levels_each = is.tidy.levels_each;
    volumes_each = is.tidy.volumes_each;
    tanks_each = is.tidy.tanks_each;
    ordered = is.tidy.ordered;
    in_time = is.tidy.in_time;
  };
  held = is.held;
  room = is.room;
  few = let few = is.unfinished unfinished in omega (arith, few);
  unfinished = λ e. absurd (true≢false e);
}

-- ---- behind any other

module _ (project : Project) (sound : IsSound project) (here : Here) (is : IsStanding project here)
    (unfinished : here.finished ≡ false) (net : NetView) (row : Row) (facts : Facts) (close : PeriodEnd)
    (made : IsMade project here net row facts close) (other : here.time ≢ project.times.duration) where
  abbrev later : Standing
  later = later_standing here row.length close

  valid-later : IsValid project (standing_for here) (grid_of net) (row_of row) later
  valid-later = subst (IsValid project (standing_for here) (grid_of net) (row_of row))
      (at-later project here row.length close other) made.valid

  goes-on : LeadsOn project (grid_of net) (standing_for here) (row_of row) later
      → Continues project (grid_of net) (standing_for here) (row_of row) later
  goes-on (continues c) = c
  goes-on (finishes f) = absurd (other f.is_last)

  abbrev onward : Continues project (grid_of net) (standing_for here) (row_of row) later
  onward = goes-on valid-later.leads_on

  kept-later : IsKept project later
  kept-later = kept_next project sound (grid_of net) (standing_for here) (row_of row) later is.kept onward

  tidy-later : IsTidy project later
  tidy-later = tidy_next project sound (standing_for here) (grid_of net) (row_of row) later is.kept is.tidy valid-later
      onward

  -- it ends within the run
  pub in-time : here.time + row.length ≤ project.times.duration
  in-time = tidy-later.in_time

  module _ (now : Here) (room : HasRoom project close) (number : now.number ≡ here.number + 1)
      (time : now.time ≡ here.time + row.length) (stocks : now.stocks ≡ close.next)
      (commanded : now.commanded ≡ close.commanded) (finished : now.finished ≡ here.finished) where
    pub same-later : standing_for now ≡ later
    same-later =
        let n : now.number ≡ suc here.number = omega (arith, number) in
        let f : now.finished ≡ false = finished ∙ unfinished in
        λ i. standing_at (n i) (time i) (stocks i) ((commanded i).items) (f i)

    pub standing-later : IsStanding project now
    standing-later = record {
      kept = subst (IsKept project) (sym same-later) kept-later;
      tidy = subst (IsTidy project) (sym same-later) tidy-later;
      held = subst (AreKeptIn project) (sym stocks) (made.over.held other);
      room = subst (HasNextRoom project) (sym stocks) room.next;
      few = (let few = is.unfinished unfinished in omega (arith, few, number, time));
      unfinished = λ e. (let few = is.unfinished unfinished in let some = made.over.later other in
          omega (arith, few, number, time, some));
    }

-- ---- what is left of the room

pub room-later : (project : Project) (here : Here) (before now : PeriodEnd) → IsStanding project here
    → HasRoom project before → now ≡ record before { next = here.stocks; commanded = here.commanded }
    → HasRoom project now
room-later project here before now is room same = subst (HasRoom project) (sym same) (record {
  readings = room.readings;
  carried = room.carried;
  values = room.values;
  commanded = zip-length project project.links.list here.commanded.items is.kept.states;
  next = is.room;
})
