-- The earliest and the latest end of a period from the first seconds of its watched levels, one by one.
use Rattle.std.proofs.Common.{◌≡◌, ℕ, ◌+◌, ◌≤◌, ℤ, Bool, IsTrue, sym, subst, arith, inl, inr, ◌⊎◌}
use Rattle.hyd_spec.specs.ProgramTypes.{Project, Tank}
use Rattle.hyd_spec.specs.Tank.{Walls, walls_of}
use Rattle.hyd_spec.specs.PeriodLength.{IsLeast}
use Rattle.hyd_spec_certificates.specs.Interval.{Interval}
use Rattle.hyd_spec_certificates.specs.Stocks.{Stocks}
use Rattle.hyd_spec_certificates.specs.PeriodNetwork.{Grid}
use Rattle.hyd_spec_certificates.specs.RecordAndStanding.{Record, Standing}
use Rattle.hyd_spec_certificates.specs.Decided.{SomeReaches, IsClockLength, stocks_of_tank, inflow_of_tank}
use Rattle.hyd_theorems_on_definitions.specs.ReachedFirst.{SomeReachesFirst, NoneReachesBefore}

-- the clock allows a period one length
pub one-clock-length : (project : Project) (standing : Standing) (cap : ℕ) → IsClockLength project standing.time cap
    → (k : ℕ) → IsClockLength project standing.time k → k ≡ cap
one-clock-length project standing cap clock k other =
    let a = clock.least (standing.time + k) other.holds in
    let b = other.least (standing.time + cap) clock.holds in
    omega (arith, a, b)

module _ (test : Walls → Tank → Stocks → Interval → ℤ → Bool → ℕ → Bool) (project : Project) (grid : Grid)
    (standing : Standing) (row : Record) (cap : ℕ) (clock : IsClockLength project standing.time cap) where
  pub ends_at_least : (second : ℕ) → NoneReachesBefore test project grid standing row cap second
      → (second ≡ cap) ⊎ SomeReachesFirst test project grid standing row cap second
      → IsLeast (λ s. IsClockLength project standing.time s ⊎
      ((1 ≤ s) × SomeReaches test project grid standing row s)) second
  ends_at_least second none which =
      record {
        holds = elim which [ inl e ↦ at-cap e | inr first ↦ by-watch first first.is_first.holds ];
        least =
            least;
      }
    where
      at-cap : second ≡ cap → IsClockLength project standing.time second ⊎
          ((1 ≤ second) × SomeReaches test project grid standing row second)
      at-cap e = inl (subst (IsClockLength project standing.time) (sym e) clock)

      by-watch : (first : SomeReachesFirst test project grid standing row cap second)
          → (second ≡ cap) ⊎ ((1 ≤ second) × IsTrue (test (walls_of project first.tank) first.tank
          (stocks_of_tank standing first.watch.tank)
          (inflow_of_tank project grid row first.watch.tank) first.watch.target first.watch.rising second))
          → IsClockLength project standing.time second ⊎ ((1 ≤ second)
          × SomeReaches test project grid standing row second)
      by-watch first (inl e) = at-cap e
      by-watch first (inr is) = inr (
        is.0,
        record {
          watch = first.watch;
          is_watched = first.is_watched;
          tank =
              first.tank;
          is_tank = first.is_tank;
          reached = is.1;
        },
      )

      least : (k : ℕ) → IsClockLength project standing.time k ⊎
          ((1 ≤ k) × SomeReaches test project grid standing row k) → second ≤ k
      least k (inl other) =
          let e = one-clock-length project standing cap clock k other in
          let l = none.by_clock in
          omega (arith, e, l)
      least k (inr reaches) =
          let some = reaches.1 in
          let first = none.each some.watch some.is_watched some.tank some.is_tank in
          let a = first.1.0.least k (inr (reaches.0, some.reached)) in
          let b = first.1.1 in
          omega (arith, a, b)
