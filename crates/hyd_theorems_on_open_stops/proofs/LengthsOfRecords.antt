-- How a period ends under a record doesn't depend on the length that the record tells.
use Rattle.std.proofs.Common.{◌≡◌, ℕ, ◌≤◌, ◌⊎◌, inl, inr}
use Rattle.hyd_spec.specs.ProgramTypes.{Project}
use Rattle.hyd_spec_certificates.specs.PeriodNetwork.{Grid}
use Rattle.hyd_spec_certificates.specs.RecordAndStanding.{Record}
use Rattle.hyd_spec_certificates.specs.Decided.{SomeMayReach, SomeMustReach}
use Rattle.hyd_spec_open_ends.specs.OpenStandings.{OpenStanding}
use Rattle.hyd_spec_open_ends.specs.RulesOverLengths.{RulesMatterOver}
use Rattle.hyd_spec_open_ends.specs.OpenEnds.{Way, AreSeconds, EndsIn, by_rules, by_instant, by_watched}

module _ (project : Project) (grid : Grid) (standing : OpenStanding) (row : Record) where
  abbrev lasting : ℕ → Record
  lasting n = record row { length = n }

  may-too : (m n s : ℕ) → SomeMayReach project grid standing.known (lasting m) s
      → SomeMayReach project grid standing.known (lasting n) s
  may-too m n s r = record {
    watch = r.watch;
    is_watched = r.is_watched;
    tank = r.tank;
    is_tank = r.is_tank;
    reached = r.reached;
  }

  must-too : (m n s : ℕ) → SomeMustReach project grid standing.known (lasting m) s
      → SomeMustReach project grid standing.known (lasting n) s
  must-too m n s r = record {
    watch = r.watch;
    is_watched = r.is_watched;
    tank = r.tank;
    is_tank = r.is_tank;
    reached = r.reached;
  }

  matters-too : (m n s : ℕ) → RulesMatterOver project grid standing (lasting m) s
      → RulesMatterOver project grid standing (lasting n) s
  matters-too m n s r = record { tried = r.tried; matters = r.matters }

  may-end-too : (m n cap s : ℕ) → (s ≡ cap) ⊎ ((s ≡ project.times.hydraulic)
      ⊎ ((1 ≤ s) × SomeMayReach project grid standing.known (lasting m) s))
      → (s ≡ cap) ⊎ ((s ≡ project.times.hydraulic)
      ⊎ ((1 ≤ s) × SomeMayReach project grid standing.known (lasting n) s))
  may-end-too m n cap s (inl is) = inl is
  may-end-too m n cap s (inr (inl is)) = inr (inl is)
  may-end-too m n cap s (inr (inr r)) = inr (inr (r.0, may-too m n s r.1))

  must-end-too : (m n cap s : ℕ) → (s ≡ cap) ⊎ ((s ≡ project.times.hydraulic)
      ⊎ ((1 ≤ s) × SomeMustReach project grid standing.known (lasting m) s))
      → (s ≡ cap) ⊎ ((s ≡ project.times.hydraulic)
      ⊎ ((1 ≤ s) × SomeMustReach project grid standing.known (lasting n) s))
  must-end-too m n cap s (inl is) = inl is
  must-end-too m n cap s (inr (inl is)) = inr (inl is)
  must-end-too m n cap s (inr (inr r)) = inr (inr (r.0, must-too m n s r.1))

  seconds-too : (m n cap earliest latest : ℕ)
      → AreSeconds project grid standing.known (lasting m) cap earliest latest
      → AreSeconds project grid standing.known (lasting n) cap earliest latest
  seconds-too m n cap earliest latest x = record {
    not_last = x.not_last;
    is_cap = x.is_cap;
    is_earliest = record {
      holds = may-end-too m n cap earliest x.is_earliest.holds;
      least = λ s ends. x.is_earliest.least s (may-end-too n m cap s ends);
    };
    is_latest = record {
      holds = must-end-too m n cap latest x.is_latest.holds;
      least = λ s ends. x.is_latest.least s (must-end-too n m cap s ends);
    };
    in_order = x.in_order;
  }

  pub ends_too : (m n : ℕ) (way : Way) → EndsIn project grid standing (lasting m) way
      → EndsIn project grid standing (lasting n) way
  ends_too m n _ (by_rules {cap = cap} {earliest = e} {latest = l} {seconds = i} x first after in_time closed) =
      by_rules (seconds-too m n cap e l x)
      (record {
        holds = matters-too m n i first.holds;
        least = λ s matters. first.least s (matters-too n m s matters);
      })
      after in_time closed
  ends_too m n _ (by_instant {cap = cap} {earliest = e} {latest = l} x same none) =
      by_instant (seconds-too m n cap e l x) same (λ s matters. none s (matters-too n m s matters))
  ends_too m n _ (by_watched {cap = cap} {earliest = e} {latest = l} x before none) =
      by_watched (seconds-too m n cap e l x) before (λ s matters. none s (matters-too n m s matters))
