-- Each link of a sound network can stand in its state.
use Rattle.std.proofs.Common.{ℕ, ◌<◌, length, slice_index_or, sym, subst}
use Rattle.hyd_net.specs.Sound.{IsSound}
use Rattle.hyd_spec.specs.ProgramTypes.{Project, Link, LinkState}
use Rattle.std.specs.Prelude.{List}
use Rattle.hyd_period_network.specs.LawsInSettings.{AreStates, CanStand}

pub standing_of : (project : Project) (states : List LinkState) → IsSound project → AreStates project states
    → (k : ℕ) (link : Link) (state : LinkState) → k < length project.links.list
    → CanStand project (slice_index_or project.links.list k link).kind (slice_index_or states k state)
standing_of project states sound are k link state within =
    let here : k < length states = subst (λ (n : ℕ). k < n) (sym are.each) within in
    record {
      made = sound.made.links k link within;
      sizes = sound.quantities.links k link within;
      can = are.can k link state here;
      state_made = are.made k state here;
    }
