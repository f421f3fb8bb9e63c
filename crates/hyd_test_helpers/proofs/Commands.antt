-- The states of links at first, and one of them put anew.
use Rattle.std.proofs.Common.{◌≡◌, ℕ, ◌<◌, List, length, map, inl, inr, slice_index_or, slice_set, sym, ◌∙◌, subst}
use Rattle.std.proofs.Common.{arith}
use Rattle.std.proofs.lemmas.List.{get_or-map, get_or-set_same, get_or-set_other, length-map, length-set}
use Rattle.std.proofs.lemmas.List.Elements.{All-map, All-set}
use Rattle.hyd_net.specs.Sound.{IsSound}
use Rattle.hyd_net.specs.LinkStates.{CanHave}
use Rattle.hyd_net.specs.RoundedFileNumbers.{IsStateMade}
use Rattle.hyd_spec.specs.ProgramTypes.{Project, Link, LinkKind, PipeLink, CheckPipe, PumpLink, CurvePump, Tcv, Fcv}
use Rattle.hyd_spec.specs.ProgramTypes.{Gpv, LinkState, Closed}
use Rattle.hyd_period_network.specs.LawsInSettings.{AreStates}
use Rattle.hyd_lemmas.proofs.ListsOptionsAndResults.{any_default}
use Rattle.hyd_period_network.proofs.OneLinkSet.{same_or}

abbrev pub start_of : Link → LinkState
start_of link = link.start

pub starts_stand : (project : Project) (states : List LinkState) → IsSound project
    → states ≡ map start_of project.links.list → AreStates project states
starts_stand project states sound e =
    let n = length-map project.links.list start_of in
    subst (AreStates project) (sym e) (record {
      each = n;
      can = λ k link state lt.
          let within : k < length project.links.list = omega (arith, n, lt) in
          subst (CanHave (slice_index_or project.links.list k link).kind)
          (sym (get_or-map start_of project.links.list k link state within)) (sound.states k link within);
      made = All-map (IsStateMade project.options.unit) start_of project.links.list sound.made.starts;
    })

pub set_stands : (project : Project) (states : List LinkState) (i : ℕ) (l : Link) (s : LinkState)
    → AreStates project states → i < length states
    → CanHave (slice_index_or project.links.list i l).kind s → IsStateMade project.options.unit s
    → AreStates project (slice_set states i s)
set_stands project states i l s are within can made =
    let n = length-set states i s in
    let each = are.each in
    record {
      each = n ∙ are.each;
      can = λ k link state lt. elim (same_or k i) as (λ _. CanHave (slice_index_or project.links.list k link).kind
          (slice_index_or (slice_set states i s) k state)) [
            | inl e ↦ subst (λ (j : ℕ). CanHave (slice_index_or project.links.list j link).kind
                (slice_index_or (slice_set states i s) j state)) (sym e)
                (subst (CanHave (slice_index_or project.links.list i link).kind)
                (sym (get_or-set_same states i s state within))
                (subst (λ (x : Link). CanHave x.kind s) (any_default project.links.list i l link
                (omega (arith, within, each))) can))
            | inr other ↦ subst (CanHave (slice_index_or project.links.list k link).kind)
                (sym (get_or-set_other states i k s state other))
                (are.can k link state (omega (arith, n, lt)))
          ];
      made = All-set (IsStateMade project.options.unit) states i s made are.made;
    }

-- each link can be closed
pub can_close : (kind : LinkKind) → CanHave kind Closed
can_close (PipeLink cap) = tt
can_close (CheckPipe cap) = tt
can_close (PumpLink cap shutoff head pattern) = tt
can_close (CurvePump bend pattern) = tt
can_close (Tcv valve) = tt
can_close (Fcv valve) = tt
can_close (Gpv bend) = tt
