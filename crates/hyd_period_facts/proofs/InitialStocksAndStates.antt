-- The stocks and the states of tanks with which a run begins.
use Rattle.std.proofs.Common.{◌≡◌, inl, inr, ℕ, zero, suc, ◌+◌, ◌<◌, ◌≤◌, List, [], ◌∷◌, ◌++◌, length, take, true, refl}
use Rattle.std.proofs.Common.{ap, sym, ◌∙◌, subst, arith}
use Rattle.std.specs.Prelude.{Option, Some, Result, Ok, Err, IfErr, OnOk, is_err, map, slice_get, slice_index_or}
use Rattle.std.proofs.lemmas.Bool.{cases_lt}
use Rattle.std.proofs.lemmas.List.{take_all, map_push, map_more}
use Rattle.hyd_spec.specs.ProgramTypes.{Project, Tank}
use Rattle.hyd_spec.specs.Lists.{map_from}
use Rattle.hyd_spec.specs.Tank.{walls_of, kept_volume, tank_state}
use Rattle.hyd_spec.specs.declared.TankState.{TankState}
use Rattle.hyd_spec_certificates.specs.SpansAsIntervals.{levels_of}
use Rattle.hyd_spec_certificates.specs.Interval.{Interval, exactly}
use Rattle.hyd_spec_certificates.specs.RecordAndStanding.{initial_standing}
use Rattle.hyd_spec_certificates.specs.Stocks.{Stocks, state_of}
use Rattle.hyd_spec_certificates.specs.Decided.{nowhere}
use Rattle.hyd_spec_certificates.specs.Valid.{AreStates}
use Rattle.hyd_spec_certificates.specs.declared.LevelSpan.{LevelSpan}
use Rattle.hyd_tank.specs.StockIntervals.{initial_stocks, AreHeld, volumes_of}
use Rattle.hyd_tank.specs.declared.stock_intervals.VolumeSpan.{VolumeSpan}
use Rattle.hyd_lemmas.proofs.ListsOptionsAndResults.{item_is, item_there, same_from, somes_same}
use Rattle.hyd_period_facts.specs.TankStart.{stocks_among, IsFirstOpen}
use Rattle.hyd_period_facts.specs.declared.states.TankOpen.{TankOpen}
use Rattle.hyd_controls_and_rules.proofs.PassedOn.{shared-same}
use Rattle.hyd_period_facts.proofs.NextStocksByFacts.{at_first}
use Rattle.hyd_period_facts.proofs.DecidedTankStates.{none_open}

-- ---- lists of one item for each item of another

pub item_more : {X Y Z : Type 0} (view : Z → Y) (f : X → Y) (xs : List X) (list : List Z) (item : Z) (i : ℕ)
    → i < length xs → map view list ≡ map f (take i xs)
    → ((x : X) → slice_get xs i ≡ Some x → view item ≡ f x)
    → map view (list ++ item ∷ []) ≡ map f (take (i + 1) xs)
item_more {X} {Y} {Z} view f xs list item i h before here =
    let there = item_there xs i h in
    map_push view list item
    ∙ ap (λ (ys : List Y). ys ++ view item ∷ []) before
    ∙ ap (λ (y : Y). map f (take i xs) ++ y ∷ [])
    (here there.0 there.1 ∙ ap f (sym (item_is xs i there.0 there.0 there.1)))
    ∙ sym (map_more f xs i there.0 h)

pub all_items : {X Y Z : Type 0} (view : Z → Y) (f : X → Y) (xs : List X) (list : List Z) (i : ℕ) → length xs ≤ i
    → map view list ≡ map f (take i xs) → map view list ≡ map f xs
all_items {X} {Y} {Z} view f xs list i past is = is ∙ ap (map f) (take_all i xs past)

item_of : {X Y : Type 0} (f : X → Y) (xs : List X) (k : ℕ) (x : X) (d : Y) → slice_get xs k ≡ Some x
    → slice_index_or (map f xs) k d ≡ f x
item_of {X} {Y} f [] k x d at = absurd (cc)
item_of {X} {Y} f (y ∷ xs) zero x d at = let same : y ≡ x = cc in ap f same
item_of {X} {Y} f (y ∷ xs) (suc k) x d at = item_of f xs k x d at

-- ---- stocks

-- one tank more
pub held_further : (project : Project) (i : ℕ)
    → ((k : ℕ) (tank : Tank) → k < i → slice_get project.tanks.list k ≡ Some tank
    → AreHeld (walls_of project tank) tank (initial_stocks (walls_of project tank) tank))
    → ((tank : Tank) → slice_get project.tanks.list i ≡ Some tank
    → AreHeld (walls_of project tank) tank (initial_stocks (walls_of project tank) tank))
    → (k : ℕ) (tank : Tank) → k < i + 1 → slice_get project.tanks.list k ≡ Some tank
    → AreHeld (walls_of project tank) tank (initial_stocks (walls_of project tank) tank)
held_further project i before here k tank h at = elim (cases_lt k i) [
  | inl less ↦ before k tank less at
  | inr more ↦
      let same : k ≡ i = omega (arith, h, more) in
      here tank (ap (λ (n : ℕ). slice_get project.tanks.list n) (sym same) ∙ at)
]

stocks : Interval → Interval → Stocks
stocks level volume = record { level = level; volume = volume }

-- the stocks among lists that are those at the start
pub held_at_start : (project : Project) (levels : List LevelSpan) (volumes : List VolumeSpan)
    → map levels_of levels ≡ (initial_standing project).levels
    → map volumes_of volumes ≡ (initial_standing project).volumes
    → (k : ℕ) (tank : Tank) → slice_get project.tanks.list k ≡ Some tank
    → AreHeld (walls_of project tank) tank (initial_stocks (walls_of project tank) tank)
    → AreHeld (walls_of project tank) tank (stocks_among levels volumes k)
unfolding stocks
held_at_start project levels volumes a b k tank at held =
    let level : slice_index_or (map levels_of levels) k nowhere ≡ exactly tank.initial =
    ap (λ (xs : List Interval). slice_index_or xs k nowhere) a
    ∙ item_of (λ (t : Tank). exactly t.initial) project.tanks.list k tank nowhere at in
    let volume : slice_index_or (map volumes_of volumes) k nowhere
    ≡ exactly (kept_volume (walls_of project tank) tank.initial) =
    ap (λ (xs : List Interval). slice_index_or xs k nowhere) b
    ∙ item_of (λ (t : Tank). exactly (kept_volume (walls_of project t) t.initial)) project.tanks.list k tank nowhere
    at in
    let same : stocks_among levels volumes k ≡ initial_stocks (walls_of project tank) tank =
    ap (λ (l : Interval). stocks l (slice_index_or (map volumes_of volumes) k nowhere)) level
    ∙ ap (λ (v : Interval). stocks (exactly tank.initial) v) volume in
    subst (AreHeld (walls_of project tank) tank) (sym same) held

-- ---- states

plain : {X Y : Type 0} (f : X → Y) (from : ℕ) (xs : List X)
    → map_from (λ k x. Some (f x)) from xs ≡ map {B = Option Y} Some (map f xs)
plain {X} {Y} f from [] = refl
plain {X} {Y} f from (x ∷ xs) = ap (λ (ys : List (Option Y)). Some (f x) ∷ ys) (plain f (suc from) xs)

states_at_start : (project : Project)
    → AreStates project (initial_standing project).levels (initial_standing project).tanks
states_at_start project =
    let levels : List Interval = (initial_standing project).levels in
    let state : Tank → TankState = λ tank. tank_state 1 tank tank.initial in
    same_from (λ k tank. state_of tank (slice_index_or levels k nowhere)) (λ k tank. Some (state tank)) 0
    project.tanks.list
    (λ k tank at. subst (λ (n : ℕ). state_of tank (slice_index_or levels n nowhere) ≡ Some (state tank))
    (sym (at_first k))
    (ap (state_of tank) (item_of (λ (t : Tank). exactly t.initial) project.tanks.list k tank nowhere at)
    ∙ shared-same (state tank)))
    ∙ plain state 0 project.tanks.list

-- none is open there
pub none_at_start : (project : Project) (levels : List Interval) (result : Result (Unit {0}) TankOpen)
    → levels ≡ (initial_standing project).levels → IfErr result (IsFirstOpen project levels)
    → is_err result ≡ true → ⊥
none_at_start project levels (Ok x) is first err = absurd (cc)
none_at_start project levels (Err found) is first err =
    let none = none_open project levels (initial_standing project).tanks
    (subst (λ (ls : List Interval). AreStates project ls (initial_standing project).tanks) (sym is)
    (states_at_start project)) in
    let some = first.first in
    absurd (cc)

pub states_are : (project : Project) (levels : List Interval) (states : List TankState)
    (result : Result (Unit {0}) TankOpen) → levels ≡ (initial_standing project).levels
    → OnOk result (AreStates project levels states) → (is_err result ≡ true → ⊥)
    → states ≡ (initial_standing project).tanks
states_are project levels states (Err found) is are ok = absurd (ok refl)
states_are project levels states (Ok x) is are ok =
    somes_same states (initial_standing project).tanks
    (sym (subst (λ (ls : List Interval). AreStates project ls states) is are) ∙ states_at_start project)
