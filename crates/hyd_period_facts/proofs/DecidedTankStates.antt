-- States of tanks, decided or open, one after another.
use Rattle.std.proofs.Common.{◌≡◌, ℕ, zero, suc, ◌+◌, ◌<◌, Bool, false, List, [], ◌∷◌, length, refl, ap, sym, ◌∙◌}
use Rattle.std.proofs.Common.{subst, arith}
use Rattle.std.specs.Prelude.{Option, Some, None, map, slice_get, slice_index_or, position, is_none}
use Rattle.std.proofs.lemmas.Int.{ints}
use Rattle.std.proofs.lemmas.List.{length-map}
use Rattle.hyd_net.specs.Sound.{IsSound}
use Rattle.hyd_net.specs.NetworkRanges.{IsTank}
use Rattle.hyd_spec.specs.ProgramTypes.{Project, Tank}
use Rattle.hyd_spec.specs.declared.TankState.{TankState}
use Rattle.hyd_spec.specs.Lists.{map_from}
use Rattle.hyd_spec_certificates.specs.Interval.{Interval}
use Rattle.hyd_spec_certificates.specs.Stocks.{state_of}
use Rattle.hyd_spec_certificates.specs.Decided.{nowhere}
use Rattle.hyd_spec_certificates.specs.Valid.{AreStates}
use Rattle.hyd_spec_certificates.specs.Stops.{open_states}
use Rattle.hyd_tank.specs.StockIntervals.{IsTankOfRange}
use Rattle.hyd_lemmas.proofs.ListsOptionsAndResults.{item_is, item_there, as_long}
use Rattle.hyd_controls_and_rules.proofs.FirstPassingPlace as places
use Rattle.hyd_period_facts.proofs.ItemForEachNumber.{placed_first}

-- the levels of a tank of a sound network
pub range_of : (project : Project) → IsSound project → (k : ℕ) (tank : Tank) → k < length project.tanks.list
    → slice_get project.tanks.list k ≡ Some tank → IsTankOfRange tank
range_of project sound k tank h at =
    let is : IsTank project.shapes.list tank =
    subst (IsTank project.shapes.list) (item_is project.tanks.list k tank tank at) (sound.quantities.tanks k tank h) in
    let lowest = is.lowest in
    let apart = is.apart in
    let bottom = is.bottom.at_least in
    let top = is.top.at_most in
    record { lowest = lowest; apart = omega (arith, ints, apart); highest = omega (arith, ints, bottom, top) }

-- the state of each tank, where it is decided
abbrev pub states_at : Project → List Interval → List (Option TankState)
states_at project levels = map_from (λ k tank. state_of tank (slice_index_or levels k nowhere)) 0 project.tanks.list

open_is : (project : Project) (levels : List Interval) (k : ℕ) (tank : Tank) (d : Bool) → k < length project.tanks.list
    → slice_get project.tanks.list k ≡ Some tank
    → slice_index_or (open_states project levels) k d ≡ is_none (state_of tank (slice_index_or levels k nowhere))
open_is project levels k tank d h at =
    placed_first (λ k (tank : Tank). is_none (state_of tank
    (slice_index_or levels k nowhere))) k project.tanks.list d tank h
    ∙ ap (λ (t : Tank). is_none (state_of t (slice_index_or levels k nowhere)))
    (item_is project.tanks.list k tank tank at)

-- one decided state more
pub known_more : (project : Project) (levels : List Interval) (i : ℕ) (state : TankState)
    → i < length project.tanks.list
    → ((k : ℕ) (d : Bool) → k < i → slice_index_or (open_states project levels) k d ≡ false)
    → ((tank : Tank) → slice_get project.tanks.list i ≡ Some tank
    → Some state ≡ state_of tank (slice_index_or levels i nowhere))
    → (k : ℕ) (d : Bool) → k < i + 1 → slice_index_or (open_states project levels) k d ≡ false
known_more project levels i state h before is =
    let there = item_there project.tanks.list i h in
    let size = as_long (λ k (tank : Tank). is_none (state_of tank
    (slice_index_or levels k nowhere))) 0 project.tanks.list in
    let here : false ≡ slice_index_or (open_states project levels) i false =
    sym (open_is project levels i there.0 false h there.1 ∙ ap is_none (sym (is there.0 there.1))) in
    places.one_more (λ (b : Bool). b) (open_states project levels) i false (omega (arith, h, size)) before here refl

-- the first open one
pub first_open : (project : Project) (levels : List Interval) (i : ℕ) → i < length project.tanks.list
    → ((k : ℕ) (d : Bool) → k < i → slice_index_or (open_states project levels) k d ≡ false)
    → ((tank : Tank) → slice_get project.tanks.list i ≡ Some tank
    → None ≡ state_of tank (slice_index_or levels i nowhere))
    → position (λ (b : Bool). b) (open_states project levels) ≡ Some i
first_open project levels i h before is =
    let there = item_there project.tanks.list i h in
    let size = as_long (λ k (tank : Tank). is_none (state_of tank
    (slice_index_or levels k nowhere))) 0 project.tanks.list in
    places.first_is (λ (b : Bool). b) (open_states project levels) i false (omega (arith, h, size))
    (λ k less. before k false less)
    (open_is project levels i there.0 false h there.1 ∙ ap is_none (sym (is there.0 there.1)))

-- the state of the one tank of a number
pub state_is : (tanks : List Tank) (k : ℕ) (here each : Tank) (level at_place : Interval) (state : Option TankState)
    → slice_get tanks k ≡ Some here → slice_get tanks k ≡ Some each → level ≡ at_place → state ≡ state_of here level
    → state ≡ state_of each at_place
state_is tanks k here each level at_place state found at is value =
    let same : here ≡ each = cc (found, at) in
    value ∙ ap (λ (t : Tank). state_of t level) same ∙ ap (state_of each) is

-- ---- all states decided

somes : {X : Type 0} (xs : List X) (k : ℕ) (d : Option X) → k < length xs
    → is_none (slice_index_or (map {B = Option X} Some xs) k d) ≡ false
somes {X} [] k d h = absurd (omega (arith, h))
somes {X} (x ∷ xs) zero d h = refl
somes {X} (x ∷ xs) (suc k) d h = somes xs k d (omega (arith, h))

pub none_open : (project : Project) (levels : List Interval) (states : List TankState)
    → AreStates project levels states → position (λ (b : Bool). b) (open_states project levels) ≡ None
none_open project levels states are =
    places.none_is (λ (b : Bool). b) (open_states project levels) (λ k d h.
    let tanks : List Tank = project.tanks.list in
    let at : ℕ → Tank → Option TankState = λ k tank. state_of tank (slice_index_or levels k nowhere) in
    let size = as_long (λ k (tank : Tank). is_none (at k tank)) 0 tanks in
    let within : k < length tanks = omega (arith, h, size) in
    let there = item_there tanks k within in
    let same : length states ≡ length tanks =
    sym (length-map states (λ (s : TankState). Some s)) ∙ sym (ap length are) ∙ as_long at 0 tanks in
    let state : at k there.0 ≡ slice_index_or (map {B = Option TankState} Some states) k None =
    sym (placed_first at k tanks None there.0 within ∙ ap (at k) (item_is tanks k there.0 there.0 there.1))
    ∙ ap (λ (os : List (Option TankState)). slice_index_or os k None) are in
    open_is project levels k there.0 d within there.1 ∙ ap is_none state
    ∙ somes states k None (omega (arith, within, same)))
