-- Lists of the states of tanks and links, item by item.
use Rattle.std.proofs.Common.{◌≡◌, ℕ, suc, ◌<◌, ℤ, pos, List, [], ◌∷◌, length, refl, sym, ap, ◌∙◌, arith}
use Rattle.std.specs.Prelude.{Some, slice_get, slice_index_or}
use Rattle.std.proofs.lemmas.List.{same_lists, length-map}
use Rattle.hyd_spec.specs.ProgramTypes.{Project, Tank, Link, LinkState}
use Rattle.hyd_spec.specs.declared.TankState.{TankState}
use Rattle.hyd_spec.specs.Tank.{tank_state}
use Rattle.hyd_spec.specs.History.{tank_states, initial_links}
use Rattle.hyd_lemmas.proofs.ListsOptionsAndResults.{item_there, mapped}

-- each tank is in the state of its level
pub tanks_are : (S : ℕ) (tanks : List Tank) (levels : List ℤ) (states : List TankState)
    → length levels ≡ length tanks → length states ≡ length tanks
    → ((k : ℕ) (each : Tank) (state : TankState) → k < length tanks → slice_get tanks k ≡ Some each
    → slice_index_or states k state ≡ tank_state S each (slice_index_or levels k (pos 0)))
    → states ≡ tank_states S tanks levels
tanks_are S [] levels [] long as_long are = refl
tanks_are S [] levels (s ∷ states) long as_long are = absurd (omega (arith, as_long))
tanks_are S (t ∷ tanks) [] states long as_long are = absurd (omega (arith, long))
tanks_are S (t ∷ tanks) (l ∷ levels) [] long as_long are = absurd (omega (arith, as_long))
tanks_are S (t ∷ tanks) (l ∷ levels) (s ∷ states) long as_long are =
    ap (λ (x : TankState). x ∷ states) (are 0 t s (omega arith) refl)
    ∙ ap (λ (xs : List TankState). tank_state S t l ∷ xs)
    (tanks_are S tanks levels states (omega (arith, long)) (omega (arith, as_long))
    (λ k each state lt at. are (suc k) each state (omega (arith, lt)) at))

-- each link is in its state of the file
pub links_are : (project : Project) (states : List LinkState) → length states ≡ length project.links.list
    → ((k : ℕ) (link : Link) (state : LinkState) → k < length project.links.list
    → slice_index_or states k state ≡ (slice_index_or project.links.list k link).start)
    → states ≡ initial_links project
links_are project states long are =
    same_lists states (initial_links project)
    (long ∙ sym (length-map project.links.list (λ (link : Link). link.start)))
    (λ k d lt.
    let within : k < length project.links.list = omega (arith, long, lt) in
    let link = (item_there project.links.list k within).0 in
    are k link d within ∙ sym (mapped (λ (l : Link). l.start) project.links.list k d link within))
