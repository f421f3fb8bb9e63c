-- Tanks that level intervals leave open: there is one exactly where a state or a level control isn't decided, and it
-- has more than one level.
use Rattle.std.proofs.Common.{◌≡◌, ℕ, zero, suc, ◌<◌, refl, sym, ap, subst, ◌∙◌, arith, Bool, true, false, ℤ}
use Rattle.std.proofs.Common.{List, [], ◌∷◌, length, map, inl, inr}
use Rattle.std.specs.Prelude.{Option, Some, None, slice_get, slice_index_or, position, is_none, Contains}
use Rattle.std.proofs.lemmas.Option.{slice_get_within, get_or_from_slice_get}
use Rattle.hyd_net.specs.Sound.{IsSound}
use Rattle.hyd_net.specs.ControlsAndRules.{IsControl, IsMoment}
use Rattle.hyd_num.specs.Rational.{whole}
use Rattle.hyd_spec.specs.ProgramTypes.{Project, Tank, Control, When, AtLevel, AtTime, AtClock}
use Rattle.hyd_spec.specs.declared.TankState.{TankState}
use Rattle.hyd_spec.specs.Lists.{map_from}
use Rattle.hyd_spec.specs.NodeNumbers.{tank_count}
use Rattle.hyd_spec.specs.Tank.{reaches, tank_state}
use Rattle.hyd_spec_certificates.specs.Interval.{Interval, exactly}
use Rattle.hyd_spec_certificates.specs.Stocks.{state_of}
use Rattle.hyd_spec_certificates.specs.ThreeValuedLogic.{at_both_ends, is_unknown}
use Rattle.hyd_spec_certificates.specs.Decided.{nowhere, control_truth}
use Rattle.hyd_spec_certificates.specs.Valid.{AreStates, ControlsAreDecided}
use Rattle.hyd_spec_certificates.specs.Stops.{open_states, is_open_control}
use Rattle.hyd_lemmas.proofs.ListsOptionsAndResults.{same_item, same_some, as_long, item_there}
use Rattle.hyd_theorems_on_histories.proofs.AgreementAtStart.{shared-same}
use Rattle.hyd_theorems_on_histories.proofs.ListsByPlace.{numbered_from_start}
use Rattle.hyd_theorems_on_histories.proofs.WatchedLevels.{contains-here, contains-later}
use Rattle.hyd_theorems_on_nesting.proofs.FirstPassingItem.{IsFound, HasNone, find_or_none}
use Rattle.hyd_spec_spread_starts.specs.StartsOfSpreads.{IsOpenTank}

-- ---- the item at a first place

record IsFirst {X : Type 0} (test : X → Bool) (xs : List X) (k : ℕ) : Type 0 where
  item : X
  is_item : slice_get xs k ≡ Some item
  passes : test item ≡ true

first-there : {X : Type 0} (test : X → Bool) (xs : List X) (k : ℕ) → position test xs ≡ Some k → IsFirst test xs k
first-there {X} test xs k e = elim (find_or_none X test xs) [
  | inl found ↦
      let same : found.place ≡ k = same_some (position test xs) found.place k found.is_place e in
      record {
        item = found.item;
        is_item = ap (slice_get xs) (sym same) ∙ found.is_item;
        passes = found.passes;
      }
  | inr none ↦ absurd (let n : ◌≡◌ {A = Option ℕ} None (Some k) = sym none.is_none ∙ e in cc)
]

-- ---- states

none-is : {X : Type 0} (o : Option X) → is_none o ≡ false → (x : X) × (o ≡ Some x)
none-is None e = absurd (cc)
none-is (Some x) e = (x, refl)

-- the states of tanks where none is open
states-of : (f : ℕ → Tank → Option TankState) (from : ℕ) (tanks : List Tank)
    → ((b : Bool) → Contains (map_from (λ k tank. is_none (f k tank)) from tanks) b → b ≡ false)
    → (states : List TankState) × (map_from f from tanks ≡ map Some states)
states-of f from [] closed = ([], refl)
states-of f from (tank ∷ tanks) closed =
    let first = none-is (f from tank) (closed (is_none (f from tank))
    (contains-here Bool (is_none (f from tank)) _)) in
    let rest = states-of f (suc from) tanks (λ b c. closed b (contains-later Bool b (is_none (f from tank)) _ c)) in
    (first.0 ∷ rest.0, λ i. first.1 i ∷ rest.1 i)

-- where all states are decided none is open
none-open : (f : ℕ → Tank → Option TankState) (from : ℕ) (tanks : List Tank) (states : List TankState)
    → map_from f from tanks ≡ map Some states → (k : ℕ) (b : Bool)
    → slice_get (map_from (λ n tank. is_none (f n tank)) from tanks) k ≡ Some b → b ≡ false
none-open f from [] states e k b at = absurd (cc)
none-open f from (tank ∷ tanks) [] e k b at = absurd (cc)
none-open f from (tank ∷ tanks) (s ∷ states) e zero b at =
    let here : f from tank ≡ Some s = cc in
    sym (same_item Bool (is_none (f from tank)) b at) ∙ ap is_none here
none-open f from (tank ∷ tanks) (s ∷ states) e (suc k) b at =
    let rest : map_from f (suc from) tanks ≡ map {B = Option TankState} Some states = cc in
    none-open f (suc from) tanks states rest k b at

-- at one level a state is decided
one-level : (tank : Tank) (z : ℤ) → is_none (state_of tank (exactly z)) ≡ false
one-level tank z = ap is_none (shared-same (tank_state 1 tank z))

-- ---- level controls

both-same : (b : Bool) → is_unknown (at_both_ends b b) ≡ false
both-same true = refl
both-same false = refl

one-truth : (z : ℤ) (above : Bool) (ticks : ℤ) → is_unknown (control_truth (exactly z) above ticks) ≡ false
one-truth z above ticks = both-same (reaches 1 above ticks (whole z))

level-control : (levels : List Interval) (control : Control) → is_open_control levels control ≡ true → (w : When)
    → control.when ≡ w → (tank : ℕ) × (above : Bool) × (ticks : ℤ) × (control.when ≡ AtLevel tank above ticks)
level-control levels control e (AtLevel tank above ticks) is = (tank, above, ticks, is)
level-control levels control e (AtTime t) is = absurd (let h : false ≡ true = rw is at e in cc)
level-control levels control e (AtClock t) is = absurd (let h : false ≡ true = rw is at e in cc)

never : {X : Type 0} (b : Bool) → b ≡ true → b ≡ false → X
never true e f = absurd (cc)
never false e f = absurd (cc)

module _ (project : Project) (levels : List Interval) where
  abbrev state-at : ℕ → Tank → Option TankState
  state-at k tank = state_of tank (slice_index_or levels k nowhere)

  -- all matters are decided, or there is an open tank
  pub data Matters : Type 0 where
    all_decided : (states : List TankState) → AreStates project levels states → ControlsAreDecided project levels
        → Matters
    one_open : (tank : ℕ) → IsOpenTank project levels tank → Matters

  controls-known : HasNone Control (is_open_control levels) project.controls.list → ControlsAreDecided project levels
  controls-known none control tank above ticks contained is =
      let closed = none.fails control contained in
      let same : is_unknown (control_truth (slice_index_or levels tank nowhere) above ticks) ≡ false =
      rw is at closed in same

  by-control : position (λ is_open. is_open) (open_states project levels) ≡ None
      → IsFound Control (is_open_control levels) project.controls.list → Matters
  by-control none found =
      let (tank, above, ticks, is) = level-control levels found.item found.passes found.item.when refl in
      one_open tank (inr (record {
        states_decided = none;
        number = found.place;
        first = found.is_place;
        control = found.item;
        is_control = found.is_item;
        above = above;
        ticks = ticks;
        is_level = is;
      }))

  pub judged : Matters
  judged = elim (find_or_none Bool (λ is_open. is_open) (open_states project levels)) [
    | inl found ↦ one_open found.place (inl found.is_place)
    | inr none ↦ elim (find_or_none Control (is_open_control levels) project.controls.list) [
      | inl found ↦ by-control none.is_none found
      | inr closed ↦
          let states = states-of state-at 0 project.tanks.list none.fails in
          all_decided states.0 states.1 (controls-known closed)
    ]
  ]

  -- where all is decided no tank is open
  pub none-is-open : (states : List TankState) → AreStates project levels states → ControlsAreDecided project levels
      → (tank : ℕ) → IsOpenTank project levels tank → ⊥
  none-is-open states are decided tank (inl e) =
      let first = first-there (λ is_open. is_open) (open_states project levels) tank e in
      never first.item first.passes (none-open state-at 0 project.tanks.list states are tank first.item first.is_item)
  none-is-open states are decided tank (inr by) =
      let first = first-there (is_open_control levels) project.controls.list by.number by.first in
      let same = same_some (slice_get project.controls.list by.number) first.item by.control first.is_item
      by.is_control in
      let passes : is_open_control levels by.control ≡ true = ap (is_open_control levels) (sym same) ∙ first.passes in
      let inside = slice_get_within project.controls.list by.number by.control by.is_control in
      let contained : Contains project.controls.list by.control =
      (by.number, inside, get_or_from_slice_get project.controls.list by.number by.control by.control by.is_control)
      in
      let known = decided by.control tank by.above by.ticks contained by.is_level in
      let unknown : is_unknown (control_truth (slice_index_or levels tank nowhere) by.above by.ticks) ≡ true =
      (let w = by.is_level in rw w at passes) in
      never _ unknown known

  -- there is one at most
  pub same-tank : (tank other : ℕ) → IsOpenTank project levels tank → IsOpenTank project levels other → tank ≡ other
  same-tank tank other (inl e) (inl f) =
      same_some (position (λ is_open. is_open) (open_states project levels)) tank other e f
  same-tank tank other (inl e) (inr by) = absurd (let n : ◌≡◌ {A = Option ℕ} None (Some tank) =
      sym by.states_decided ∙ e in cc)
  same-tank tank other (inr by) (inl f) = absurd (let n : ◌≡◌ {A = Option ℕ} None (Some other) =
      sym by.states_decided ∙ f in cc)
  same-tank tank other (inr by) (inr also) =
      let number = same_some (position (is_open_control levels) project.controls.list) by.number also.number by.first
      also.first in
      let control = same_some (slice_get project.controls.list also.number) by.control also.control
      (ap (slice_get project.controls.list) (sym number) ∙ by.is_control) also.is_control in
      let when : AtLevel tank by.above by.ticks ≡ AtLevel other also.above also.ticks =
      sym by.is_level ∙ ap (λ (c : Control). c.when) control ∙ also.is_level in
      cc

  -- it is a tank of the network
  pub tank-there : IsSound project → (tank : ℕ) → IsOpenTank project levels tank → tank < tank_count project
  tank-there sound tank (inl e) =
      let first = first-there (λ is_open. is_open) (open_states project levels) tank e in
      let inside = slice_get_within (open_states project levels) tank first.item first.is_item in
      let long : length (open_states project levels) ≡ tank_count project =
      as_long {X = Tank} {Y = Bool} (λ k t. is_none (state-at k t)) 0 project.tanks.list in
      omega (arith, inside, long)
  tank-there sound tank (inr by) =
      let inside = slice_get_within project.controls.list by.number by.control by.is_control in
      let command : IsControl project by.control =
      subst (IsControl project)
      (get_or_from_slice_get project.controls.list by.number by.control by.control by.is_control)
      (sound.controls by.number by.control inside) in
      let moment : IsMoment project (AtLevel tank by.above by.ticks) = subst (IsMoment project) by.is_level
      command.moment in
      moment.0

  -- it has more than one level
  pub wide : IsSound project → (tank : ℕ) → IsOpenTank project levels tank → (z : ℤ)
      → slice_index_or levels tank nowhere ≡ exactly z → ⊥
  wide sound tank (inl e) z is =
      let first = first-there (λ is_open. is_open) (open_states project levels) tank e in
      let inside = tank-there sound tank (inl e) in
      let there = item_there project.tanks.list tank inside in
      let here : slice_index_or (open_states project levels) tank false
      ≡ is_none (state_of there.0 (slice_index_or levels tank nowhere)) =
      numbered_from_start Tank Bool (λ k t. is_none (state-at k t)) project.tanks.list tank there.0 false there.1 in
      never first.item first.passes
      (sym (get_or_from_slice_get (open_states project levels) tank first.item false first.is_item)
      ∙ here ∙ ap (λ (x : Interval). is_none (state_of there.0 x)) is ∙ one-level there.0 z)
  wide sound tank (inr by) z is =
      let first = first-there (is_open_control levels) project.controls.list by.number by.first in
      let same = same_some (slice_get project.controls.list by.number) first.item by.control first.is_item
      by.is_control in
      let passes : is_open_control levels by.control ≡ true = ap (is_open_control levels) (sym same) ∙ first.passes in
      let unknown : is_unknown (control_truth (slice_index_or levels tank nowhere) by.above by.ticks) ≡ true =
      (let w = by.is_level in rw w at passes) in
      never _ unknown (ap (λ (x : Interval). is_unknown (control_truth x by.above by.ticks)) is
      ∙ one-truth z by.above by.ticks)
