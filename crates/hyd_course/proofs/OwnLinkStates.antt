-- States of links that are made of the file's numbers, and that links can have.
use Rattle.std.proofs.Common.{◌≡◌, ℕ, zero, suc, ◌<◌, List, [], ◌∷◌, length, refl, ap, arith}
use Rattle.std.specs.Prelude.{slice_index_or}
use Rattle.std.specs.List.{AllZip}
use Rattle.hyd_net.specs.LinkStates.{CanHave}
use Rattle.hyd_net.specs.RoundedFileNumbers.{IsStateMade}
use Rattle.hyd_spec.specs.ProgramTypes.{Project, Link, LinkState}
use Rattle.hyd_theorems_on_histories.specs.Agreement.{IsOwnState}
use Rattle.hyd_period_network.specs.LawsInSettings.{AreStates}

module _ (project : Project) where
  -- there is one for each link
  pub state_each : (links : List Link) (states : List LinkState) → AllZip (IsOwnState project) links states
      → length states ≡ length links
  state_each [] [] all = refl
  state_each [] (s ∷ states) all = absurd all
  state_each (l ∷ links) [] all = absurd all
  state_each (l ∷ links) (s ∷ states) all = ap suc (state_each links states all.1)

  each_can : (links : List Link) (states : List LinkState) → AllZip (IsOwnState project) links states
      → (k : ℕ) (link : Link) (state : LinkState) → k < length states
      → CanHave (slice_index_or links k link).kind (slice_index_or states k state)
  each_can links [] all k link state less = absurd (omega (arith, less))
  each_can [] (s ∷ states) all k link state less = absurd all
  each_can (l ∷ links) (s ∷ states) all zero link state less = all.0.can
  each_can (l ∷ links) (s ∷ states) all (suc k) link state less =
      each_can links states all.1 k link state (omega (arith, less))

  each_made : (links : List Link) (states : List LinkState) → AllZip (IsOwnState project) links states
      → (k : ℕ) (state : LinkState) → k < length states
      → IsStateMade project.options.unit (slice_index_or states k state)
  each_made links [] all k state less = absurd (omega (arith, less))
  each_made [] (s ∷ states) all k state less = absurd all
  each_made (l ∷ links) (s ∷ states) all zero state less = all.0.made
  each_made (l ∷ links) (s ∷ states) all (suc k) state less =
      each_made links states all.1 k state (omega (arith, less))

  -- a net can be set to them
  pub settable : (states : List LinkState) → AllZip (IsOwnState project) project.links.list states
      → AreStates project states
  settable states all = record {
    each = state_each project.links.list states all;
    can = each_can project.links.list states all;
    made = each_made project.links.list states all;
  }
