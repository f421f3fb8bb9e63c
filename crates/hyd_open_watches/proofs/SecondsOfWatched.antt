-- The earliest and the latest second of what is watched, by the length that the clock allows.
use Rattle.std.proofs.Common.{◌≡◌, ◌⊎◌, inl, inr, ℕ, zero, suc, ◌+◌, ◌<◌, ◌≤◌, ◌≤ℤ◌, List, [], ◌∷◌, refl}
use Rattle.std.proofs.Common.{◌∙◌, subst, arith}
use Rattle.std.specs.Prelude.{Some, slice_get, slice_index_or, map}
use Rattle.std.proofs.lemmas.Int.{ints}
use Rattle.hyd_num.specs.declared.spans.Span.{Span}
use Rattle.hyd_net.specs.Sound.{IsSound}
use Rattle.hyd_spec.specs.ProgramTypes.{Project, Tank}
use Rattle.hyd_spec.specs.Tank.{walls_of}
use Rattle.hyd_spec.specs.PeriodLength.{IsLeast, EndsByClock, step, duration, pattern, report, control_time}
use Rattle.hyd_spec.specs.PeriodLength.{control_clock}
use Rattle.hyd_spec_certificates.specs.SpansAsIntervals.{flows_of}
use Rattle.hyd_spec_certificates.specs.Interval.{Interval}
use Rattle.hyd_spec_certificates.specs.PeriodNetwork.{Grid}
use Rattle.hyd_spec_certificates.specs.RecordAndStanding.{Record, Standing}
use Rattle.hyd_spec_certificates.specs.Decided.{IsClockLength, IsEarliestEnd, IsLatestEnd, SomeMayReach, SomeMustReach}
use Rattle.hyd_spec_certificates.specs.Decided.{stocks_of_tank, inflow_of_tank, nowhere}
use Rattle.hyd_spec_open_ends.specs.InstantsOfClock.{IsInstant, AreSecondsToInstant}
use Rattle.hyd_spec_open_ends.specs.InstantsOfClock.{duration as at_duration, pattern as at_pattern}
use Rattle.hyd_spec_open_ends.specs.InstantsOfClock.{report as at_report}
use Rattle.hyd_spec_open_ends.specs.InstantsOfClock.{control_time as at_control_time}
use Rattle.hyd_spec_open_ends.specs.InstantsOfClock.{control_clock as at_control_clock}
use Rattle.hyd_spec_open_ends.specs.OpenEnds.{AreSeconds}
use Rattle.hyd_theorems_on_definitions.specs.LyingInIntervals.{HasStock}
use Rattle.hyd_theorems_on_definitions.proofs.DecidedByEnds.{must_may}
use Rattle.hyd_theorems_on_definitions.proofs.SoundTankLemmas.{vessels}
use Rattle.hyd_period_facts.specs.declared.facts.Facts.{Facts}
use Rattle.hyd_period_facts.specs.FactsBeforeEnd.{AreStarted, stocks_in, inflow_in}
use Rattle.hyd_period_facts.proofs.StocksAndInflowsByFacts.{stocks_are, inflow_is}

-- the clock ends a period a hydraulic step after its start, or at an instant
data ClockEnd (project : Project) (time e : ℕ) : Type 0 where
  by_step : e ≡ time + project.times.hydraulic → ClockEnd project time e
  by_instant : time < e → IsInstant project e → ClockEnd project time e

clock-end : (project : Project) (time e : ℕ) → EndsByClock project time e → ClockEnd project time e
clock-end project time e (step later is) = by_step is
clock-end project time e (duration later is) = by_instant later (at_duration is)
clock-end project time e (pattern later is) = by_instant later (at_pattern is)
clock-end project time e (report later from is) = by_instant later (at_report from is)
clock-end project time e (control_time each contained is later) = by_instant later (at_control_time each contained is)
clock-end project time e (control_clock each at contained is shows later) =
    by_instant later (at_control_clock each at contained is shows)

instant-ends : (project : Project) (time e : ℕ) → time < e → IsInstant project e → EndsByClock project time e
instant-ends project time e later (at_duration is) = duration later is
instant-ends project time e later (at_pattern is) = pattern later is
instant-ends project time e later (at_report from is) = report later from is
instant-ends project time e later (at_control_time each contained is) = control_time each contained is later
instant-ends project time e later (at_control_clock each at contained is shows) =
    control_clock each at contained is shows later

module _ (project : Project) (sound : IsSound project) (time cap length e : ℕ)
    (is_cap : AreSecondsToInstant project time cap) (clock : IsClockLength project time length)
    (Reaches : ℕ → Type 0) where
  abbrev Clocked : ℕ → Type 0
  Clocked s = IsClockLength project time s ⊎ ((1 ≤ s) × Reaches s)

  abbrev Watched : ℕ → Type 0
  Watched s = (s ≡ cap) ⊎ ((s ≡ project.times.hydraulic) ⊎ ((1 ≤ s) × Reaches s))

  -- the length that the clock allows is the lesser of the two
  to-cap : length ≤ cap
  to-cap =
      let l = clock.least (time + cap) (instant-ends project time (time + cap) is_cap.holds.0 is_cap.holds.1) in
      omega (arith, l)

  to-step : length ≤ project.times.hydraulic
  to-step =
      let l = clock.least (time + project.times.hydraulic)
      (step (let h = sound.times.hydraulic in omega (arith, h)) refl) in
      omega (arith, l)

  one-of : (length ≡ cap) ⊎ (length ≡ project.times.hydraulic)
  one-of = by-end (clock-end project time (time + length) clock.holds)
    where
      by-end : ClockEnd project time (time + length) → (length ≡ cap) ⊎ (length ≡ project.times.hydraulic)
      by-end (by_step is) = inr (omega (arith, is))
      by-end (by_instant later is) =
          let l = is_cap.least (time + length) (later, is) in
          let m = to-cap in
          inl (omega (arith, l, m))

  pub watched_so : IsLeast Clocked e → IsLeast Watched e
  watched_so first = record { holds = holds first.holds; least = least }
    where
      same-length : (s : ℕ) → IsClockLength project time s → s ≡ length
      same-length s other =
          let a = other.least (time + length) clock.holds in
          let b = clock.least (time + s) other.holds in
          omega (arith, a, b)

      holds : Clocked e → Watched e
      holds (inl is) = elim one-of [
        | inl a ↦ inl (same-length e is ∙ a)
        | inr b ↦ inr (inl (same-length e is ∙ b))
      ]
      holds (inr r) = inr (inr r)

      least : (k : ℕ) → Watched k → e ≤ k
      least k (inl is) = let l = first.least length (inl clock) in let m = to-cap in omega (arith, is, l, m)
      least k (inr (inl is)) = let l = first.least length (inl clock) in let m = to-step in omega (arith, is, l, m)
      least k (inr (inr r)) = first.least k (inr r)

pub clock_in_time : (project : Project) (time cap length : ℕ) → AreSecondsToInstant project time cap
    → IsClockLength project time length → length ≤ cap
clock_in_time project time cap length is_cap clock =
    let l = clock.least (time + cap) (instant-ends project time (time + cap) is_cap.holds.0 is_cap.holds.1) in
    omega (arith, l)

-- ---- by facts

pub flows_in_order : (flows : List Span) (k : ℕ) → (slice_index_or (map flows_of flows) k nowhere).lo
    ≤ℤ (slice_index_or (map flows_of flows) k nowhere).hi
flows_in_order [] k = omega (arith, ints)
flows_in_order (q ∷ flows) zero = q.ordered
flows_in_order (q ∷ flows) (suc k) = flows_in_order flows k

module _ (project : Project) (sound : IsSound project) (grid : Grid) (standing : Standing) (row : Record)
    (facts : Facts) (started : AreStarted project grid standing row facts)
    (there : (k : ℕ) → HasStock (stocks_in facts k)) (flows : (k : ℕ) (tank : Tank)
    → slice_get project.tanks.list k ≡ Some tank → (inflow_in facts k).lo ≤ℤ (inflow_in facts k).hi) where
  must-may : (s : ℕ) → SomeMustReach project grid standing row s → SomeMayReach project grid standing row s
  must-may s r = record {
    watch = r.watch;
    is_watched = r.is_watched;
    tank = r.tank;
    is_tank = r.is_tank;
    reached = must_may (walls_of project r.tank) r.tank (stocks_of_tank standing r.watch.tank)
        (inflow_of_tank project grid row r.watch.tank) r.watch.target r.watch.rising s
        (vessels project sound r.watch.tank r.tank r.is_tank)
        (subst HasStock (stocks_are project grid standing row facts started r.watch.tank) (there r.watch.tank))
        (subst (λ (q : Interval). q.lo ≤ℤ q.hi)
        (inflow_is project grid standing row facts started r.watch.tank r.tank r.is_tank)
        (flows r.watch.tank r.tank r.is_tank)) r.reached;
  }

  pub seconds_are : (cap length earliest latest : ℕ) → facts.time < project.times.duration
      → AreSecondsToInstant project facts.time cap → IsClockLength project facts.time length
      → IsEarliestEnd project grid standing row earliest → IsLatestEnd project grid standing row latest
      → AreSeconds project grid standing row cap earliest latest
  seconds_are cap length earliest latest before to_instant clock may must =
      let at_time = started.time in
      let is_cap = subst (λ (t : ℕ). AreSecondsToInstant project t cap) at_time to_instant in
      let is_length = subst (λ (t : ℕ). IsClockLength project t length) at_time clock in
      let first = watched_so project sound standing.time cap length earliest is_cap is_length
      (SomeMayReach project grid standing row) may in
      let last = watched_so project sound standing.time cap length latest is_cap is_length
      (SomeMustReach project grid standing row) must in
      record {
        not_last = λ e. absurd (omega (arith, e, before, at_time));
        is_cap = is_cap;
        is_earliest = first;
        is_latest = last;
        in_order = first.least latest (so cap latest last.holds);
      }
    where
      so : (cap s : ℕ) → ((s ≡ cap) ⊎ ((s ≡ project.times.hydraulic)
          ⊎ ((1 ≤ s) × SomeMustReach project grid standing row s)))
          → (s ≡ cap) ⊎ ((s ≡ project.times.hydraulic) ⊎ ((1 ≤ s) × SomeMayReach project grid standing row s))
      so cap s (inl is) = inl is
      so cap s (inr (inl is)) = inr (inl is)
      so cap s (inr (inr r)) = inr (inr (r.0, must-may s r.1))
