-- Events, one after another.
use Rattle.std.proofs.Common.{◌≡◌, ℕ, zero, suc, ◌+◌, ◌<◌, ◌≤◌, List, [], ◌∷◌, ◌++◌, length, take, ap, sym, ◌∙◌}
use Rattle.std.proofs.Common.{append_assoc, arith, append-nil}
use Rattle.std.specs.Prelude.{Option, Some, map, slice_get}
use Rattle.std.proofs.lemmas.List.{take_all, length-map}
use Rattle.hyd_spec.specs.ProgramTypes.{Project, Tank, Control}
use Rattle.hyd_spec.specs.declared.TankState.{TankState}
use Rattle.hyd_spec.specs.Lists.{map_from, present}
use Rattle.hyd_spec_certificates.specs.SpansAsIntervals.{levels_of}
use Rattle.hyd_spec_certificates.specs.Interval.{Interval}
use Rattle.hyd_spec_certificates.specs.PeriodNetwork.{Grid}
use Rattle.hyd_spec_certificates.specs.RecordAndStanding.{Record, Standing}
use Rattle.hyd_spec_certificates.specs.Decided.{carried_at}
use Rattle.hyd_spec_certificates.specs.declared.LevelSpan.{LevelSpan}
use Rattle.hyd_spec_certificates.specs.declared.Event.{Event}
use Rattle.hyd_spec_certificates.specs.EndsOfPeriods.{tank_event, tank_events, events_of}
use Rattle.hyd_period_end.specs.Events.{events_by}
use Rattle.hyd_lemmas.proofs.ListsOptionsAndResults.{item_there, present_push}

-- ---- tanks

tank_more : (k i : ℕ) (tanks : List Tank) (states : List TankState) (levels : List Interval) (tank : Tank)
    (state : TankState) (level : Interval) → slice_get tanks i ≡ Some tank → slice_get states i ≡ Some state
    → slice_get levels i ≡ Some level
    → tank_events k (take (suc i) tanks) (take (suc i) states) (take (suc i) levels)
    ≡ tank_events k (take i tanks) (take i states) (take i levels) ++ tank_event (k + i) tank state level
tank_more k i [] states levels tank state level at is are = absurd (cc)
tank_more k i (t ∷ tanks) [] levels tank state level at is are = absurd (cc)
tank_more k i (t ∷ tanks) (s ∷ states) [] tank state level at is are = absurd (cc)
tank_more k zero (t ∷ tanks) (s ∷ states) (l ∷ levels) tank state level at is are =
    let one : t ≡ tank = cc in
    let two : s ≡ state = cc in
    let three : l ≡ level = cc in
    append-nil (tank_event k t s l)
    ∙ ap (λ (x : Tank). tank_event k x s l) one
    ∙ ap (λ (x : TankState). tank_event k tank x l) two
    ∙ ap (λ (x : Interval). tank_event k tank state x) three
    ∙ ap (λ (n : ℕ). tank_event n tank state level) (let e : k ≡ k + 0 = omega arith in e)
tank_more k (suc i) (t ∷ tanks) (s ∷ states) (l ∷ levels) tank state level at is are =
    let rest = tank_events (suc k) (take i tanks) (take i states) (take i levels) in
    ap (λ (es : List Event). tank_event k t s l ++ es)
    (tank_more (suc k) i tanks states levels tank state level at is are
    ∙ ap (λ (n : ℕ). rest ++ tank_event n tank state level) (let e : suc k + i ≡ k + suc i = omega arith in e))
    ∙ sym (append_assoc (tank_event k t s l) rest (tank_event (k + suc i) tank state level))

level_of : (levels : List LevelSpan) (i : ℕ) (level : LevelSpan) → slice_get levels i ≡ Some level
    → slice_get (map levels_of levels) i ≡ Some (levels_of level)
level_of [] i level at = absurd (cc)
level_of (l ∷ levels) zero level at =
    let same : l ≡ level = cc in ap (λ (x : LevelSpan). Some (levels_of x)) same
level_of (l ∷ levels) (suc i) level at = level_of levels i level at

-- one tank further
pub tank_further : (tanks : List Tank) (states : List TankState) (levels : List LevelSpan)
    (start list here : List Event) (i : ℕ) → i < length tanks → i < length states → i < length levels
    → list ≡ start ++ tank_events 0 (take i tanks) (take i states) (take i (map levels_of levels))
    → ((tank : Tank) (state : TankState) (level : LevelSpan) → slice_get tanks i ≡ Some tank
    → slice_get states i ≡ Some state → slice_get levels i ≡ Some level
    → here ≡ tank_event i tank state (levels_of level))
    → list ++ here
    ≡ start ++ tank_events 0 (take (i + 1) tanks) (take (i + 1) states) (take (i + 1) (map levels_of levels))
tank_further tanks states levels start list here i a b c are is =
    let tank = item_there tanks i a in
    let state = item_there states i b in
    let level = item_there levels i c in
    let before = tank_events 0 (take i tanks) (take i states) (take i (map levels_of levels)) in
    let more = tank_more 0 i tanks states (map levels_of levels) tank.0 state.0 (levels_of level.0) tank.1 state.1
    (level_of levels i level.0 level.1) in
    ap (λ (es : List Event). es ++ here) are
    ∙ append_assoc start before here
    ∙ ap (λ (es : List Event). start ++ es)
    (ap (λ (es : List Event). before ++ es) (is tank.0 state.0 level.0 tank.1 state.1 level.1
    ∙ ap (λ (n : ℕ). tank_event n tank.0 state.0 (levels_of level.0)) (let e : i ≡ 0 + i = omega arith in e))
    ∙ sym more
    ∙ ap (λ (n : ℕ). tank_events 0 (take n tanks) (take n states) (take n (map levels_of levels)))
    (let e : suc i ≡ i + 1 = omega arith in e))

-- all tanks
pub all_tanks : (tanks : List Tank) (states : List TankState) (levels : List LevelSpan) (start list : List Event)
    (i : ℕ) → length tanks ≤ i → length states ≤ i → length levels ≤ i
    → list ≡ start ++ tank_events 0 (take i tanks) (take i states) (take i (map levels_of levels))
    → list ≡ start ++ tank_events 0 tanks states (map levels_of levels)
all_tanks tanks states levels start list i a b c are =
    let long = length-map levels levels_of in
    are ∙ ap (λ (es : List Event). start ++ es)
    (ap (λ (ts : List Tank). tank_events 0 ts (take i states) (take i (map levels_of levels))) (take_all i tanks a)
    ∙ ap (λ (ss : List TankState). tank_events 0 tanks ss (take i (map levels_of levels))) (take_all i states b)
    ∙ ap (λ (ls : List Interval). tank_events 0 tanks states ls)
    (take_all i (map levels_of levels) (omega (arith, c, long))))

-- ---- controls

numbered_more : (f : ℕ → Control → Option Event) (k i : ℕ) (controls : List Control) (control : Control)
    → slice_get controls i ≡ Some control
    → map_from f k (take (suc i) controls) ≡ map_from f k (take i controls) ++ f (k + i) control ∷ []
numbered_more f k i [] control at = absurd (cc)
numbered_more f k zero (x ∷ controls) control at =
    let same : x ≡ control = cc in
    ap (λ (c : Control). f k c ∷ []) same
    ∙ ap (λ (n : ℕ). f n control ∷ []) (let e : k ≡ k + 0 = omega arith in e)
numbered_more f k (suc i) (x ∷ controls) control at =
    ap (λ (os : List (Option Event)). f k x ∷ os) (numbered_more f (suc k) i controls control at
    ∙ ap (λ (n : ℕ). map_from f (suc k) (take i controls) ++ f n control ∷ [])
    (let e : suc k + i ≡ k + suc i = omega arith in e))

-- one control further
pub control_further : (f : ℕ → Control → Option Event) (controls : List Control) (start list : List Event)
    (event : Option Event) (i : ℕ) → i < length controls
    → list ≡ start ++ present (map_from f 0 (take i controls))
    → ((control : Control) → slice_get controls i ≡ Some control → event ≡ f i control)
    → list ++ present (event ∷ []) ≡ start ++ present (map_from f 0 (take (i + 1) controls))
control_further f controls start list event i h are is =
    let there = item_there controls i h in
    let before = map_from f 0 (take i controls) in
    let next = numbered_more f 0 i controls there.0 there.1 in
    ap (λ (es : List Event). es ++ present (event ∷ [])) are
    ∙ append_assoc start (present before) (present (event ∷ []))
    ∙ ap (λ (es : List Event). start ++ es)
    (sym (present_push before event)
    ∙ ap (λ (o : Option Event). present (before ++ o ∷ [])) (is there.0 there.1
    ∙ ap (λ (n : ℕ). f n there.0) (let e : i ≡ 0 + i = omega arith in e))
    ∙ ap present (sym next)
    ∙ ap (λ (n : ℕ). present (map_from f 0 (take n controls))) (let e : suc i ≡ i + 1 = omega arith in e))

-- all controls
pub all_controls : (f : ℕ → Control → Option Event) (controls : List Control) (start list : List Event) (i : ℕ)
    → length controls ≤ i → list ≡ start ++ present (map_from f 0 (take i controls))
    → list ≡ start ++ present (map_from f 0 controls)
all_controls f controls start list i past are =
    are ∙ ap (λ (cs : List Control). start ++ present (map_from f 0 cs)) (take_all i controls past)

-- ---- all of them

pub events_are : (project : Project) (grid : Grid) (standing : Standing) (row : Record) (states : List TankState)
    (levels carried : List Interval) → states ≡ standing.tanks → levels ≡ standing.levels
    → carried ≡ carried_at project grid standing row row.length
    → events_by project states levels carried ≡ events_of project grid standing row
events_are project grid standing row states levels carried a b c =
    ap (λ (ss : List TankState). events_by project ss levels carried) a
    ∙ ap (λ (ls : List Interval). events_by project standing.tanks ls carried) b
    ∙ ap (λ (ls : List Interval). events_by project standing.tanks standing.levels ls) c
