-- Standings where periods start.
use Rattle.std.proofs.Common.{◌≡◌, ◌⊎◌, ◌<◌, ◌≤◌, ◌+◌, ◌^◌, false, List, length, map, refl, sym, ap, subst, ◌∙◌, arith}
use Rattle.std.proofs.Common.{inl, inr}
use Rattle.std.proofs.lemmas.Bool.{cases_lt}
use Rattle.std.proofs.lemmas.List.{length-map}
use Rattle.hyd_net.specs.Sound.{IsSound}
use Rattle.hyd_spec.specs.ProgramTypes.{Project}
use Rattle.hyd_spec.specs.Tank.{walls_of}
use Rattle.hyd_spec_certificates.specs.SpansAsIntervals.{levels_of}
use Rattle.hyd_spec_certificates.specs.declared.LevelSpan.{LevelSpan}
use Rattle.hyd_spec_open_ends.specs.OpenStandings.{initial_open_standing}
use Rattle.hyd_spec_open_ends.specs.InstantsOfClock.{HasNoInstant, duration}
use Rattle.hyd_tank.specs.StockIntervals.{AreHeld, volumes_of}
use Rattle.hyd_tank.specs.declared.stock_intervals.VolumeSpan.{VolumeSpan}
use Rattle.hyd_period_facts.specs.ReservedMemory.{HasRoom}
use Rattle.hyd_period_facts.specs.RoomForStocks.{HasRoom as HasNextRoom}
use Rattle.hyd_period_facts.specs.TankStart.{stocks_among}
use Rattle.hyd_period_facts.specs.declared.facts.Facts.{Facts}
use Rattle.hyd_period_end.specs.EndOfPeriod.{AreKeptIn}
use Rattle.hyd_period_end.specs.FactsBeforeVectors.{AreReady}
use Rattle.hyd_theorems_on_open_standings.specs.FirmStandings.{IsFirm}
use Rattle.hyd_theorems_on_open_standings.proofs.StandingsAreFirm.{firm_at_start}
use Rattle.hyd_open_sim_start.specs.StandingsOfOpenRuns.{IsStanding, standing_for}
use Rattle.hyd_open_sim_start.specs.declared.standing.Standing.{Standing as Here}

-- ---- the facts of a start

-- facts of a start are ready
pub ready-of : (project : Project) (here : Here) (facts : Facts) → IsStanding project here
    → facts.levels.list ≡ here.stocks.levels.list → facts.volumes.list ≡ here.stocks.volumes.list
    → facts.tanks.list ≡ here.stocks.tanks.list → length facts.links.list ≡ length project.links.list
    → length facts.changes.list ≤ length project.controls.list → HasRoom project facts → AreReady project facts
ready-of project here facts is levels volumes tanks links changes room = record {
  levels = ap length levels ∙ sym (length-map here.stocks.levels.list levels_of) ∙ is.firm.tidy.levels_each;
  volumes = ap length volumes ∙ sym (length-map here.stocks.volumes.list volumes_of) ∙ is.firm.tidy.volumes_each;
  tanks = ap length tanks ∙ is.firm.tidy.tanks_each;
  links = links;
  held = λ k tank at. subst (λ (vs : List VolumeSpan). AreHeld (walls_of project tank) tank
      (stocks_among facts.levels.list vs k)) (sym volumes)
      (subst (λ (ls : List LevelSpan). AreHeld (walls_of project tank) tank
      (stocks_among ls here.stocks.volumes.list k)) (sym levels) (is.held k tank at));
  changes = changes;
  room = room;
}

-- ---- the first standing

module _ (project : Project) (here : Here) (number : here.number ≡ 0) (time : here.time ≡ 0) (late : here.late ≡ 0)
    (levels : map levels_of here.stocks.levels.list ≡ (initial_open_standing project).known.levels)
    (volumes : map volumes_of here.stocks.volumes.list ≡ (initial_open_standing project).known.volumes)
    (tanks : here.stocks.tanks.list ≡ (initial_open_standing project).known.tanks)
    (commanded : here.commanded.items ≡ (initial_open_standing project).known.commanded)
    (finished : here.finished ≡ false) where
  pub first-is : standing_for here ≡ initial_open_standing project
  first-is = λ i. record {
    known = record {
      number = number i;
      time = time i;
      levels = levels i;
      volumes = volumes i;
      tanks = tanks i;
      commanded = commanded i;
      finished = finished i;
    };
    late = late i;
  }

  pub first-stands : IsSound project → AreKeptIn project here.stocks → HasNextRoom project here.stocks
      → IsStanding project here
  first-stands sound held room = record {
    firm = subst (IsFirm project) (sym first-is) (firm_at_start project sound);
    held = held;
    room = room;
    few = omega (arith, number, time);
    unfinished = λ e. omega (arith, number, time);
  }

-- ---- the seconds of a start

-- no more periods were done than seconds are over, so their number is small
pub small-number : (project : Project) (here : Here) → IsSound project → IsStanding project here → here.finished ≡ false
    → here.number ≤ 10 ^ 8
small-number project here sound is unfinished =
    let few = is.unfinished unfinished in
    let within = is.firm.tidy.in_time in
    let short = sound.times.duration in
    omega (arith, few, within, short)

-- a start is open by fewer seconds than are left of the run
pub late-small : (project : Project) (here : Here) → IsSound project → IsStanding project here → here.late ≤ 10 ^ 8
late-small project here sound is = by is.firm.quiet
  where
    by : ((here.late ≡ 0) ⊎ ((0 < here.time) × HasNoInstant project here.time (here.time + here.late)))
        → here.late ≤ 10 ^ 8
    by (inl none) = omega (arith, none)
    by (inr quiet) = elim (cases_lt (here.time + here.late) project.times.duration) [
      | inl less ↦ (let short = sound.times.duration in omega (arith, less, short))
      | inr more ↦ absurd (quiet.1 project.times.duration is.firm.tidy.in_time (omega (arith, more))
          (duration refl))
    ]

-- the start of the period at the end of the run is known
pub late-at-last : (project : Project) (here : Here) → IsStanding project here → here.time ≡ project.times.duration
    → here.late ≡ 0
late-at-last project here is last = by is.firm.quiet
  where
    by : ((here.late ≡ 0) ⊎ ((0 < here.time) × HasNoInstant project here.time (here.time + here.late)))
        → here.late ≡ 0
    by (inl none) = none
    by (inr quiet) = absurd (quiet.1 here.time (omega arith) (omega arith) (duration last))
