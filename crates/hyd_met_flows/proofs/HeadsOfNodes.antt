-- The heads of junctions, reservoirs and tanks among those of all nodes.
use Rattle.std.proofs.Common.{◌≡◌, ℕ, zero, suc, ◌-◌, ◌<◌, ◌≤◌, ℤ, pos, ◌+ℤ◌, List, [], ◌∷◌, length, ap, ◌∙◌}
use Rattle.std.proofs.Common.{arith}
use Rattle.std.specs.Prelude.{Some, map, slice_get, slice_index_or}
use Rattle.std.proofs.lemmas.List.{get_or_append_left, get_or-append_right, length-map}
use Rattle.hyd_spec.specs.ProgramTypes.{Project, Reservoir, Tank}
use Rattle.hyd_spec.specs.Scale.{at_scale}
use Rattle.hyd_spec.specs.Assignment.{node_heads, tank_heads, head_at}
use Rattle.hyd_spec.specs.DemandsHeadsAndPumpLifts.{reservoir_head}
use Rattle.hyd_lemmas.proofs.ListsOptionsAndResults.{same_item, mapped, item_is, any_default}

-- a junction's
pub of_junction : (project : Project) (S time : ℕ) (levels heads : List ℤ) (node : ℕ) → node < length heads
    → head_at (node_heads project S time levels heads) node ≡ slice_index_or heads node (pos 0)
of_junction project S time levels heads node lt = get_or_append_left heads _ (pos 0) node lt

-- a reservoir's
pub of_reservoir : (project : Project) (S time : ℕ) (levels heads : List ℤ) (node nj : ℕ) (each : Reservoir)
    → length heads ≡ nj → nj ≤ node → node - nj < length project.reservoirs.list
    → slice_get project.reservoirs.list (node - nj) ≡ Some each
    → head_at (node_heads project S time levels heads) node ≡ at_scale S (reservoir_head project time each)
of_reservoir project S time levels heads node nj each e le lt at =
    let long = length-map project.reservoirs.list (λ (r : Reservoir). at_scale S (reservoir_head project time r)) in
    get_or-append_right heads _ nj node (pos 0) e le
    ∙ get_or_append_left (map (λ (r : Reservoir). at_scale S (reservoir_head project time r)) project.reservoirs.list)
    _ (pos 0) (node - nj) (omega (arith, long, lt))
    ∙ mapped (λ (r : Reservoir). at_scale S (reservoir_head project time r)) project.reservoirs.list (node - nj)
    (pos 0) each lt
    ∙ ap (λ (r : Reservoir). at_scale S (reservoir_head project time r))
    (item_is project.reservoirs.list (node - nj) each each at)

level_added : (S : ℕ) (tanks : List Tank) (levels : List ℤ) (k : ℕ) (each : Tank) → slice_get tanks k ≡ Some each
    → k < length levels
    → head_at (tank_heads S tanks levels) k ≡ at_scale S each.bottom +ℤ slice_index_or levels k (pos 0)
level_added S [] levels k each at lt = absurd (cc)
level_added S (x ∷ tanks) [] k each at lt = absurd (omega (arith, lt))
level_added S (x ∷ tanks) (l ∷ levels) zero each at lt =
    ap (λ (t : Tank). at_scale S t.bottom +ℤ l) (same_item Tank x each at)
level_added S (x ∷ tanks) (l ∷ levels) (suc k) each at lt = level_added S tanks levels k each at (omega (arith, lt))

-- a tank's
pub of_tank : (project : Project) (S time : ℕ) (levels heads : List ℤ) (node nj nr : ℕ) (each : Tank)
    → length heads ≡ nj → length project.reservoirs.list ≡ nr → nj ≤ node → nr ≤ node - nj
    → slice_get project.tanks.list (node - nj - nr) ≡ Some each → node - nj - nr < length levels
    → head_at (node_heads project S time levels heads) node
    ≡ at_scale S each.bottom +ℤ slice_index_or levels (node - nj - nr) (pos 0)
of_tank project S time levels heads node nj nr each e f le past at lt =
    let long = length-map project.reservoirs.list (λ (r : Reservoir). at_scale S (reservoir_head project time r)) in
    get_or-append_right heads _ nj node (pos 0) e le
    ∙ get_or-append_right (map (λ (r : Reservoir). at_scale S (reservoir_head project time r))
    project.reservoirs.list) _ nr (node - nj) (pos 0) (omega (arith, long, f)) past
    ∙ level_added S project.tanks.list levels (node - nj - nr) each at lt

-- a value that was read at a place
pub value_there : (values read : List ℤ) (k : ℕ) (v : ℤ) → k < length values → read ≡ values
    → v ≡ slice_index_or read k v → v ≡ slice_index_or values k (pos 0)
value_there values read k v lt are is =
    is ∙ (ap (λ (vs : List ℤ). slice_index_or vs k v) are ∙ any_default values k v (pos 0) lt)
