-- The first seconds of single watched levels make the earliest and the latest end.
use Rattle.std.proofs.Common.{◌≡◌, ℕ, ◌+◌, ◌≤◌, min, refl, sym, ap, subst, ◌∙◌, arith, true, false, List, [], ◌∷◌, ◌⊎◌}
use Rattle.std.proofs.Common.{inl, inr}
use Rattle.std.specs.Prelude.{Option, Some, None, slice_get, Contains, IsTrue}
use Rattle.std.specs.Option.{option_map_or}
use Rattle.std.proofs.lemmas.Bool.{cases_lt}
use Rattle.hyd_spec.specs.ProgramTypes.{Project, Tank}
use Rattle.hyd_spec.specs.Tank.{walls_of}
use Rattle.hyd_spec.specs.PeriodLength.{IsLeast}
use Rattle.hyd_spec_certificates.specs.PeriodNetwork.{Grid}
use Rattle.hyd_spec_certificates.specs.RecordAndStanding.{Record, Standing}
use Rattle.hyd_spec_certificates.specs.Decided.{Watch, watches, stocks_of_tank, inflow_of_tank, SomeReaches}
use Rattle.hyd_spec_certificates.specs.Decided.{IsClockLength}
use Rattle.hyd_spec_certificates.specs.FirstSeconds.{IsFirstSecond}
use Rattle.hyd_theorems_on_nesting.specs.FirstAmongWatched.{ReachTest, watch_passes, IsFirstAmong}
use Rattle.hyd_theorems_on_histories.proofs.WatchedLevels.{contains-here, contains-later, contains-cons, contains-none}

module _ (test : ReachTest) (project : Project) (grid : Grid) (standing : Standing) (row : Record) (cap : ℕ) where
  pub none_watched : IsFirstAmong test project grid standing row cap [] cap
  none_watched = record {
    within = omega arith;
    reached = inl refl;
    none_before =
        λ w c. absurd (contains-none Watch w c);
  }

  -- the first second of one watched level is that of its tank
  pub one_watched : (w : Watch) (tank : Tank) (second : ℕ) → slice_get project.tanks.list w.tank ≡ Some tank
      → IsFirstSecond (test (walls_of project tank) tank (stocks_of_tank standing w.tank)
      (inflow_of_tank project grid row w.tank) w.target w.rising) cap second
      → IsFirstSecond (watch_passes test project grid standing row w) cap second
  one_watched w tank second at first = record { holds = there first.holds; least = λ k h. first.least k (here k h) }
    where
      same : (s : ℕ) → watch_passes test project grid standing row w s ≡ test (walls_of project tank) tank
          (stocks_of_tank standing w.tank) (inflow_of_tank project grid row w.tank) w.target w.rising s
      same s =
          ap (λ o. option_map_or (λ (t : Tank). test (walls_of project t) t (stocks_of_tank standing w.tank)
          (inflow_of_tank project grid row w.tank) w.target w.rising s) o false) at

      there : ((second ≡ cap) ⊎
          ((1 ≤ second) × IsTrue (test (walls_of project tank) tank (stocks_of_tank standing w.tank)
          (inflow_of_tank project grid row w.tank) w.target w.rising second)))
          → (second ≡ cap) ⊎ ((1 ≤ second) × IsTrue (watch_passes test project grid standing row w second))
      there (inl is) = inl is
      there (inr r) = inr (r.0, same second ∙ r.1)

      here : (k : ℕ) → ((k ≡ cap) ⊎ ((1 ≤ k) × IsTrue (watch_passes test project grid standing row w k)))
          → (k ≡ cap) ⊎ ((1 ≤ k) × IsTrue (test (walls_of project tank) tank (stocks_of_tank standing w.tank)
          (inflow_of_tank project grid row w.tank) w.target w.rising k))
      here k (inl is) = inl is
      here k (inr r) = inr (r.0, sym (same k) ∙ r.1)

  -- one more watched level
  pub one_more : (w : Watch) (watched : List Watch) (e f : ℕ)
      → IsFirstSecond (watch_passes test project grid standing row w) cap f
      → IsFirstAmong test project grid standing row cap watched e
      → IsFirstAmong test project grid standing row cap (w ∷ watched) (min f e)
  one_more w watched e f first among = record {
    within = let a = among.within in omega (arith, a);
    reached = elim (cases_lt f e) [
      | inl less ↦ let same : f ≡ min f e = omega (arith, less) in
          subst
          (λ s. (s ≡ cap) ⊎
          ((1 ≤ s)
          × ((v : Watch) × (Contains (w ∷ watched) v × IsTrue (watch_passes test project grid standing row v s)))))
          same (own first.holds)
      | inr more ↦ let same : e ≡ min f e = omega (arith, more) in
          subst
          (λ s. (s ≡ cap) ⊎
          ((1 ≤ s)
          × ((v : Watch) × (Contains (w ∷ watched) v × IsTrue (watch_passes test project grid standing row v s)))))
          same (other among.reached)
    ];
    none_before = λ v c s some passes. elim (contains-cons Watch v w watched c) [
      | inl is ↦ let l =
          first.least s (inr (
            some,
            subst (λ u. IsTrue (watch_passes test project grid standing row u s))
                (sym is) passes,
          )) in omega (arith, l)
      | inr later ↦ let l = among.none_before v later s some passes in omega (arith, l)
    ];
  }
    where
      own : ((f ≡ cap) ⊎ ((1 ≤ f) × IsTrue (watch_passes test project grid standing row w f)))
          → (f ≡ cap) ⊎
          ((1 ≤ f)
          × ((v : Watch) × (Contains (w ∷ watched) v × IsTrue (watch_passes test project grid standing row v f))))
      own (inl is) = inl is
      own (inr r) = inr (r.0, (w, (contains-here Watch w watched, r.1)))

      other : ((e ≡ cap) ⊎
          ((1 ≤ e) × ((v : Watch) × (Contains watched v × IsTrue (watch_passes test project grid standing row v e)))))
          → (e ≡ cap) ⊎
          ((1 ≤ e)
          × ((v : Watch) × (Contains (w ∷ watched) v × IsTrue (watch_passes test project grid standing row v e))))
      other (inl is) = inl is
      other (inr r) = inr (r.0, (r.1.0, (contains-later Watch r.1.0 w watched r.1.1.0, r.1.1.1)))

  some-reaches : (w : Watch) (s : ℕ) → Contains (watches project standing) w → (o : Option Tank)
      → slice_get project.tanks.list w.tank ≡ o
      → option_map_or (λ (tank : Tank). test (walls_of project tank) tank (stocks_of_tank standing w.tank)
      (inflow_of_tank project grid row w.tank) w.target w.rising s) o false ≡ true
      → SomeReaches test project grid standing row s
  some-reaches w s contained None at e = absurd (cc)
  some-reaches w s contained (Some tank) at e = record {
    watch = w;
    is_watched = contained;
    tank = tank;
    is_tank =
        at;
    reached = e;
  }

  reaches-some : (s : ℕ) (r : SomeReaches test project grid standing row s)
      → IsTrue (watch_passes test project grid standing row r.watch s)
  reaches-some s r =
      ap (λ o. option_map_or (λ (tank : Tank). test (walls_of project tank) tank (stocks_of_tank standing r.watch.tank)
      (inflow_of_tank project grid row r.watch.tank) r.watch.target r.watch.rising s) o false) r.is_tank ∙ r.reached

  pub end_is : IsClockLength project standing.time cap → (e : ℕ)
      → IsFirstAmong test project grid standing row cap (watches project standing) e
      → IsLeast (λ s. IsClockLength project standing.time s ⊎ ((1 ≤ s) × SomeReaches test project grid standing row s))
      e
  end_is clock e among = record { holds = holds among.reached; least = least }
    where
      holds : ((e ≡ cap) ⊎
          ((1 ≤ e) × ((v : Watch) × (Contains (watches project standing) v × IsTrue
          (watch_passes test project grid standing row v e)))))
          → IsClockLength project standing.time e ⊎ ((1 ≤ e) × SomeReaches test project grid standing row e)
      holds (inl is) = inl (subst (IsClockLength project standing.time) (sym is) clock)
      holds (inr r) = inr (r.0, some-reaches r.1.0 e r.1.1.0 (slice_get project.tanks.list r.1.0.tank) refl r.1.1.1)

      least : (k : ℕ)
          → (IsClockLength project standing.time k ⊎ ((1 ≤ k) × SomeReaches test project grid standing row k)) → e ≤ k
      least k (inl other) = let a = clock.least (standing.time + k) other.holds in
          let b = other.least (standing.time + cap) clock.holds in let w = among.within in omega (arith, a, b, w)
      least k (inr r) = among.none_before r.1.watch r.1.is_watched k r.0 (reaches-some k r.1)
