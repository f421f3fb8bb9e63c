-- A tank that was read at a place.
use Rattle.std.proofs.Common.{◌≡◌, ℕ, ◌<◌, List, length, sym, subst, ap, ◌∙◌}
use Rattle.std.specs.Prelude.{Some, slice_get, slice_index_or}
use Rattle.std.proofs.lemmas.Option.{slice_get-get_or}
use Rattle.hyd_net.specs.Sound.{IsSound}
use Rattle.hyd_net.specs.NetworkRanges.{IsTank}
use Rattle.hyd_spec.specs.ProgramTypes.{Project, Tank}
use Rattle.hyd_lemmas.proofs.ListsOptionsAndResults.{item_is}

pub tank_at : (project : Project) (k : ℕ) (tanks : List Tank) (tank : Tank) → k < length project.tanks.list
    → tanks ≡ project.tanks.list → tank ≡ slice_index_or tanks k tank → slice_get project.tanks.list k ≡ Some tank
tank_at project k tanks tank lt are is =
    slice_get-get_or project.tanks.list k tank lt
    ∙ ap (λ (t : Tank). Some t) (sym (is ∙ ap (λ (ts : List Tank). slice_index_or ts k tank) are))

-- the tanks of a sound network are in range
pub in_range : (project : Project) → IsSound project → (k : ℕ) (tank : Tank) → k < length project.tanks.list
    → slice_get project.tanks.list k ≡ Some tank → IsTank project.shapes.list tank
in_range project sound k tank lt at =
    subst (IsTank project.shapes.list) (item_is project.tanks.list k tank tank at) (sound.quantities.tanks k tank lt)
