-- The standing behind a period.
use Rattle.std.proofs.Common.{◌≡◌, ◌≢◌, ℕ, suc, ◌+◌, ◌<◌, ◌≤◌, Bool, true, false, sym, ap, subst, ◌∙◌, arith, inl, inr}
use Rattle.std.proofs.Common.{eq-eqb}
use Rattle.std.specs.Prelude.{if◌then◌else◌}
use Rattle.std.proofs.lemmas.Bool.{true≢false, ne_eqb, cases_lt}
use Rattle.hyd_net.specs.Sound.{IsSound}
use Rattle.hyd_spec.specs.ProgramTypes.{Project}
use Rattle.hyd_spec_open_ends.specs.OpenStandings.{OpenStanding}
use Rattle.hyd_period_facts.specs.RoomForStocks.{HasRoom as HasNextRoom}
use Rattle.hyd_period_facts.specs.declared.facts.Facts.{Facts}
use Rattle.hyd_period_network.specs.NetAsPeriodNetwork.{grid_of}
use Rattle.hyd_period_network.specs.NetView.{NetView}
use Rattle.hyd_period_end.specs.EndOfPeriod.{AreKeptIn}
use Rattle.hyd_open_certificates.specs.OpenRowView.{open_record_of}
use Rattle.hyd_open_certificates.specs.declared.open_row.OpenRow.{OpenRow}
use Rattle.hyd_open_period_end.specs.EndOfOpenPeriod.{HasRoom, standing_left}
use Rattle.hyd_open_period_end.specs.declared.open_period_end.OpenPeriodEnd.{OpenPeriodEnd}
use Rattle.hyd_open_sim_start.specs.StandingsOfOpenRuns.{IsStanding, standing_for}
use Rattle.hyd_open_sim_start.specs.declared.standing.Standing.{Standing as Here}
use Rattle.hyd_theorems_on_open_standings.specs.FirmStandings.{IsFirm}
use Rattle.hyd_theorems_on_open_standings.proofs.StandingsAreFirm.{firm_next}
use Rattle.hyd_open_sim.specs.EndedPeriods.{CanGoOn, IsMade, last_standing, next_standing}

-- ---- which standing is behind a period

pub at-last : (project : Project) (here : Here) (close : OpenPeriodEnd) → here.time ≡ project.times.duration
    → next_standing project here close ≡ last_standing here
at-last project here close e =
    ap (λ (b : Bool). if b then last_standing here else standing_left (standing_for here) close)
    (eq-eqb here.time project.times.duration e)

pub at-later : (project : Project) (here : Here) (close : OpenPeriodEnd) → here.time ≢ project.times.duration
    → next_standing project here close ≡ standing_left (standing_for here) close
at-later project here close e =
    ap (λ (b : Bool). if b then last_standing here else standing_left (standing_for here) close)
    (ne_eqb here.time project.times.duration e)

-- a period that doesn't begin at the end of the run begins before it
pub begins-before : (project : Project) (here : Here) → IsStanding project here → here.time ≢ project.times.duration
    → here.time < project.times.duration
begins-before project here is other = elim (cases_lt here.time project.times.duration) [
  | inl less ↦ less
  | inr more ↦ (let within = is.firm.tidy.in_time in absurd (other (omega (arith, within, more))))
]

-- ---- behind a period that a run can go on from

module _ (project : Project) (here : Here) (is : IsStanding project here) (unfinished : here.finished ≡ false)
    (close : OpenPeriodEnd) (on : CanGoOn project here close) where
  -- it ends within the run
  pub in-time : here.time ≢ project.times.duration → here.time + close.first ≤ project.times.duration
  in-time other = (subst (IsFirm project) (at-later project here close other) on.firm).tidy.in_time

  module _ (now : Here) where
    pub same-last : here.time ≡ project.times.duration → now ≡ record here { number = here.number + 1; finished = true }
        → standing_for now ≡ next_standing project here close
    same-last last moved =
        let n : here.number + 1 ≡ suc here.number = omega arith in
        let e : standing_for (record here { number = here.number + 1; finished = true }) ≡ last_standing here =
        ap (λ (m : ℕ). standing_for (record here { number = m; finished = true })) n in
        ap standing_for moved ∙ (e ∙ sym (at-last project here close last))

    pub standing-last : here.time ≡ project.times.duration
        → now ≡ record here { number = here.number + 1; finished = true } → IsStanding project now
    standing-last last moved = record {
      firm = subst (IsFirm project) (sym (same-last last moved)) on.firm;
      held = subst (λ (h : Here). AreKeptIn project h.stocks) (sym moved) is.held;
      room = subst (λ (h : Here). HasNextRoom project h.stocks) (sym moved) is.room;
      few = (let few = is.unfinished unfinished in let n = ap (λ (h : Here). h.number) moved in
          let t = ap (λ (h : Here). h.time) moved in omega (arith, few, n, t));
      unfinished = λ e. absurd (true≢false (sym (ap (λ (h : Here). h.finished) moved) ∙ e));
    }

    module _ (other : here.time ≢ project.times.duration) (moved : now ≡ record here {
      number = here.number + 1;
      time = here.time + close.first;
      late = close.late;
      stocks = close.next;
      commanded = close.commanded;
    }) where
      pub same-later : standing_for now ≡ next_standing project here close
      same-later =
          let n : here.number + 1 ≡ suc here.number = omega arith in
          let e : standing_for (record here {
            number = here.number + 1;
            time = here.time + close.first;
            late = close.late;
            stocks = close.next;
            commanded = close.commanded;
          }) ≡ standing_left (standing_for here) close =
          ap (λ (m : ℕ). standing_for (record here {
            number = m;
            time = here.time + close.first;
            late = close.late;
            stocks = close.next;
            commanded = close.commanded;
          })) n
          ∙ ap (λ (b : Bool). let left : OpenStanding = record {
            known = record (standing_left (standing_for here) close).known { finished = b };
            late = close.late;
          } in left) unfinished in
          ap standing_for moved ∙ (e ∙ sym (at-later project here close other))

      pub standing-later : HasRoom project close → IsStanding project now
      standing-later room = record {
        firm = subst (IsFirm project) (sym same-later) on.firm;
        held = subst (λ (h : Here). AreKeptIn project h.stocks) (sym moved) (on.held other);
        room = subst (λ (h : Here). HasNextRoom project h.stocks) (sym moved) room.next;
        few = (let few = is.unfinished unfinished in let n = ap (λ (h : Here). h.number) moved in
            let t = ap (λ (h : Here). h.time) moved in omega (arith, few, n, t));
        unfinished = λ e. (let few = is.unfinished unfinished in let n = ap (λ (h : Here). h.number) moved in
            let t = ap (λ (h : Here). h.time) moved in let later = on.later other in
            omega (arith, few, n, t, later));
      }

-- ---- behind a period that was made

-- a run can go on behind it
pub goes-on : (project : Project) → IsSound project → (here : Here) → IsStanding project here → (net : NetView)
    (found : OpenRow) (facts : Facts) (close : OpenPeriodEnd) → (slack : ℕ)
    → IsMade project slack here net found facts close
    → CanGoOn project here close
goes-on project sound here is net found facts close slack made = record {
  firm = firm_next project sound (grid_of net) (standing_for here) (open_record_of found)
      (next_standing project here close) is.firm made.valid;
  held = made.over.held;
  later = made.over.later;
}
