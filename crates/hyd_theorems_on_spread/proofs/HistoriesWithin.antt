-- Histories within a spread lie between certificates for it, and are histories within each greater spread.
use Rattle.std.proofs.Common.{◌≡◌, ℕ, zero, suc, ◌+◌, ◌%◌, sym, subst, List, [], ◌∷◌, ◌==◌}
use Rattle.std.specs.Prelude.{Some, slice_get}
use Rattle.std.specs.List.{AllZip}
use Rattle.std.proofs.lemmas.Bool.{cond_both}
use Rattle.hyd_net.specs.Sound.{IsSound}
use Rattle.hyd_spec.specs.ProgramTypes.{Project, LinkState}
use Rattle.hyd_spec.specs.PumpPatternsAndSimpleControls.{acts_at}
use Rattle.hyd_spec.specs.Rules.{acted}
use Rattle.hyd_spec.specs.PeriodLength.{Period, values_at}
use Rattle.hyd_spec.specs.History.{commanded_after, initial_links}
use Rattle.hyd_spec_certificates.specs.Interval.{Interval}
use Rattle.hyd_spec_spread.specs.Spreads.{Spread}
use Rattle.hyd_spec_spread.specs.NetworksWithin.{NodeData, with_data}
use Rattle.hyd_spec_spread.specs.HistoriesWithin.{IsPeriodWithin, ComesAfterWith, GoesOnWithin}
use Rattle.hyd_spec_spread.specs.HistoriesWithin.{IsHistoryWithin}
use Rattle.hyd_lemmas.proofs.ListsOptionsAndResults.{same_item}
use Rattle.hyd_theorems_on_definitions.specs.LyingInIntervals.{LevelsLie}
use Rattle.hyd_theorems_on_histories.specs.Agreement.{IsOwnState}
use Rattle.hyd_theorems_on_histories.proofs.CommandedLinkStates.{started_own, acted_own, initial_own}
use Rattle.hyd_theorems_on_histories.proofs.AgreementAfterPeriod.{made-states}
use Rattle.hyd_theorems_on_spread.specs.AssignmentsWithin.{IsAssignmentWithin}

module _ (project : Project) (sound : IsSound project) (spread : Spread) (S : ℕ) where
  -- each link is in a state of its own
  abbrev AreOwn : List LinkState → Type 0
  AreOwn links = AllZip (IsOwnState project) project.links.list links

  -- what holds of each period
  pub record IsOne (period : Period) : Type 0 where
    pub nodes : NodeData
    pub is : IsPeriodWithin project spread S period nodes
    pub own : AreOwn period.links

  commands-own : (nodes : NodeData) (before : Period) → AreOwn before.links
      → AreOwn (commanded_after (with_data project nodes) S before)
  commands-own nodes before own =
      cond_both ((before.time + before.length) % project.times.rule == 0)
      (acted project (values_at (with_data project nodes) S before (before.time + before.length)) before.links)
      before.links AreOwn
      (λ e. acted_own project sound (values_at (with_data project nodes) S before (before.time + before.length))
      before.links own)
      (λ e. own)

  next-own : (nodes : NodeData) (before period : Period) → AreOwn before.links
      → ComesAfterWith project S nodes before period → AreOwn period.links
  next-own nodes before period own comes =
      subst AreOwn (sym comes.begins.links) (started_own project sound (before.time + before.length)
      (acts_at S period.levels) (commanded_after (with_data project nodes) S before)
      (commands-own nodes before own))

  on : (nodes : NodeData) (before : Period) → AreOwn before.links → (rest : List Period)
      → GoesOnWithin project spread S nodes before rest → (k : ℕ) (period : Period)
      → slice_get rest k ≡ Some period → IsOne period
  on nodes before own [] goes k period at = absurd (cc)
  on nodes before own (p ∷ rest) goes zero period at =
      let mine = next-own nodes before p own goes.0 in
      subst IsOne (same_item Period p period at) (record { nodes = goes.1.0; is = goes.1.1.0; own = mine })
  on nodes before own (p ∷ rest) goes (suc k) period at =
      on goes.1.0 p (next-own nodes before p own goes.0) rest goes.1.1.1 k period at

  pub each-period : (periods : List Period) → IsHistoryWithin project spread S periods → (k : ℕ) (period : Period)
      → slice_get periods k ≡ Some period → IsOne period
  each-period [] history k period at = absurd (cc)
  each-period (p ∷ rest) history zero period at =
      subst IsOne (same_item Period p period at)
      (record { nodes = history.1.0; is = history.1.1.0; own = first-own p rest history })
    where
      first-own : (first : Period) (rest : List Period) → IsHistoryWithin project spread S (first ∷ rest)
          → AreOwn first.links
      first-own first rest history =
          subst AreOwn (sym history.0.begins.links) (started_own project sound 0 (acts_at S first.levels)
          (initial_links project) (initial_own project sound))
  each-period (p ∷ rest) history (suc k) period at =
      on history.1.0 p (subst AreOwn (sym history.0.begins.links) (started_own project sound 0 (acts_at S p.levels)
      (initial_links project) (initial_own project sound))) rest history.1.1.1 k period at

  -- so each period has an assignment of a network within
  pub assignment-of : (period : Period) (one : IsOne period) (intervals : List Interval)
      → LevelsLie S intervals period.levels
      → IsAssignmentWithin project spread S period.time intervals period.levels period.tanks period.links one.nodes
      period.assignment
  assignment-of period one intervals lie = record {
    made = record {
      emitters = sound.made.emitters;
      kinds = sound.made.links;
      sizes = sound.quantities.links;
      states = made-states project project.links.list period.links one.own;
    };
    lie = lie;
    within = one.is.within;
    assigned = one.is.is_period.obeys;
  }
