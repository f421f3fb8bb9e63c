-- Watched levels, one after another.
use Rattle.std.proofs.Common.{◌≡◌, Bool, true, false, ℕ, zero, suc, ◌+◌, ◌<◌, ◌≤◌, ℤ, List, [], ◌∷◌, ◌++◌, length}
use Rattle.std.proofs.Common.{take, ap, sym, ◌∙◌, subst, arith, append_assoc, get_or, append-nil, inl, inr, ◌⊎◌}
use Rattle.std.specs.Prelude.{Option, Some, map, slice_get, if◌then◌else◌, Contains}
use Rattle.std.proofs.lemmas.Int.{ints}
use Rattle.std.proofs.lemmas.Bool.{cases_eq}
use Rattle.std.proofs.lemmas.List.{take_more, take_all, map_push}
use Rattle.std.proofs.lemmas.List.Elements.{Contains-append_left, Contains-push, Contains-push_cases}
use Rattle.hyd_spec.specs.ProgramTypes.{Project, Tank, Control}
use Rattle.hyd_spec.specs.declared.TankState.{TankState}
use Rattle.hyd_spec.specs.LinkLaw.{is_full, is_empty}
use Rattle.hyd_spec.specs.Lists.{present}
use Rattle.hyd_spec_certificates.specs.Interval.{Interval}
use Rattle.hyd_spec_certificates.specs.Decided.{Watch, tank_watches, watch_of}
use Rattle.hyd_spec_open_ends.specs.Arrivals.{IsNoFarther}
use Rattle.hyd_lemmas.proofs.ListsOptionsAndResults.{present_push}
use Rattle.hyd_period_facts.specs.declared.facts.Facts.{Facts}
use Rattle.hyd_period_facts.specs.Watched.{most_of, least_of}
use Rattle.hyd_open_watches.specs.declared.watches.Watch.{Watch as Here}
use Rattle.hyd_open_watches.specs.declared.nearest.Candidates.{Candidates}
use Rattle.hyd_open_watches.specs.declared.nearest.Candidates.TheVariants as candidates
use Rattle.hyd_open_watches.specs.Candidates.{watch_for, IsWatch, ComesBy, StartsShort, IsNearest, AreCompeting}
use Rattle.hyd_open_watches.specs.Candidates.{AreNearest}

-- ---- tanks

tank_more : (k i : ℕ) (tanks : List Tank) (states : List TankState) (tank : Tank) (state : TankState)
    → slice_get tanks i ≡ Some tank → slice_get states i ≡ Some state
    → tank_watches k (take (suc i) tanks) (take (suc i) states)
    ≡ (tank_watches k (take i tanks) (take i states) ++ most_of (k + i) tank state) ++ least_of (k + i) tank state
tank_more k i [] states tank state at is = absurd (cc)
tank_more k i (x ∷ tanks) [] tank state at is = absurd (cc)
tank_more k zero (x ∷ tanks) (s ∷ states) tank state at is =
    let same : x ≡ tank = cc in
    let alike : s ≡ state = cc in
    ap (λ (ws : List Watch). most_of k x s ++ ws) (append-nil (least_of k x s))
    ∙ ap (λ (t : Tank). most_of k t s ++ least_of k t s) same
    ∙ ap (λ (t : TankState). most_of k tank t ++ least_of k tank t) alike
    ∙ ap (λ (n : ℕ). most_of n tank state ++ least_of n tank state) (let e : k ≡ k + 0 = omega arith in e)
tank_more k (suc i) (x ∷ tanks) (s ∷ states) tank state at is =
    let later = tank_more (suc k) i tanks states tank state at is in
    let w = tank_watches (suc k) (take i tanks) (take i states) in
    let m = most_of (k + suc i) tank state in
    let l = least_of (k + suc i) tank state in
    let n : suc k + i ≡ k + suc i = omega arith in
    ap (λ (ws : List Watch). most_of k x s ++ (least_of k x s ++ ws))
    (later ∙ ap (λ (n : ℕ). (w ++ most_of n tank state) ++ least_of n tank state) n)
    ∙ ap (λ (ws : List Watch). most_of k x s ++ ws) (sym (append_assoc (least_of k x s) (w ++ m) l))
    ∙ sym (append_assoc (most_of k x s) (least_of k x s ++ (w ++ m)) l)
    ∙ ap (λ (ws : List Watch). ws ++ l) (ap (λ (ws : List Watch). most_of k x s ++ ws) (sym (append_assoc
    (least_of k x s) w m))
    ∙ sym (append_assoc (most_of k x s) (least_of k x s ++ w) m))

abbrev pub control_watches : List Interval → List Control → List Watch
control_watches levels controls = present (map (watch_of levels) controls)

control_more : (levels : List Interval) (controls : List Control) (i : ℕ) (control : Control) → i < length controls
    → control ≡ get_or controls i control
    → control_watches levels (take (i + 1) controls) ≡ control_watches levels (take i controls) ++ present
    (watch_of levels control ∷ [])
control_more levels controls i control h at =
    ap (control_watches levels) (take_more controls i control h
    ∙ ap (λ (c : Control). take i controls ++ c ∷ []) (sym at))
    ∙ ap present (map_push (watch_of levels) (take i controls) control)
    ∙ present_push (map (watch_of levels) (take i controls)) (watch_of levels control)

-- what holds of the watched levels so far
module _ (P : List Watch → Type 0) where
  pub no_more : (watched : List Watch) → P watched → P (watched ++ [])
  no_more watched p = subst P (sym (append-nil watched)) p

  pub most_so : (k : ℕ) (each : Tank) (state : TankState) (watched : List Watch) → is_full state ≡ false
      → P (watched ++ record { tank = k; target = each.maximum; rising = true } ∷ [])
      → P (watched ++ most_of k each state)
  most_so k each state watched lacks p =
      subst P (ap (λ (b : Bool). watched ++
      (if b then [] else record { tank = k; target = each.maximum; rising = true } ∷ [])) (sym lacks)) p

  pub least_so : (k : ℕ) (each : Tank) (state : TankState) (watched : List Watch) → is_empty state ≡ false
      → P (watched ++ record { tank = k; target = each.minimum; rising = false } ∷ [])
      → P (watched ++ least_of k each state)
  least_so k each state watched lacks p =
      subst P (ap (λ (b : Bool). watched ++
      (if b then [] else record { tank = k; target = each.minimum; rising = false } ∷ [])) (sym lacks)) p

  pub no_most : (k : ℕ) (each : Tank) (state : TankState) (watched : List Watch) → is_full state ≡ true → P watched
      → P (watched ++ most_of k each state)
  no_most k each state watched full p =
      subst P (ap (λ (b : Bool). watched ++
      (if b then [] else record { tank = k; target = each.maximum; rising = true } ∷ [])) (sym full))
      (no_more watched p)

  pub no_least : (k : ℕ) (each : Tank) (state : TankState) (watched : List Watch) → is_empty state ≡ true → P watched
      → P (watched ++ least_of k each state)
  no_least k each state watched empty p =
      subst P (ap (λ (b : Bool). watched ++
      (if b then [] else record { tank = k; target = each.minimum; rising = false } ∷ [])) (sym empty))
      (no_more watched p)

  pub tank_further : (tanks : List Tank) (states : List TankState) (i : ℕ) (tank : Tank) (state : TankState)
      → slice_get tanks i ≡ Some tank → slice_get states i ≡ Some state
      → P ((tank_watches 0 (take i tanks) (take i states) ++ most_of i tank state) ++ least_of i tank state)
      → P (tank_watches 0 (take (i + 1) tanks) (take (i + 1) states))
  tank_further tanks states i tank state at is p =
      subst P (sym (ap (λ (n : ℕ). tank_watches 0 (take n tanks) (take n states))
      (let e : i + 1 ≡ suc i = omega arith in e)
      ∙ tank_more 0 i tanks states tank state at is
      ∙ ap (λ (n : ℕ). (tank_watches 0 (take i tanks) (take i states) ++ most_of n tank state)
      ++ least_of n tank state)
      (let same : 0 + i ≡ i = omega arith in same))) p

  pub all_tanks : (tanks : List Tank) (states : List TankState) (i : ℕ) → length tanks ≤ i → length states ≤ i
      → P (tank_watches 0 (take i tanks) (take i states)) → P (tank_watches 0 tanks states)
  all_tanks tanks states i a b p =
      subst P (ap (λ (ts : List Tank). tank_watches 0 ts (take i states)) (take_all i tanks a)
      ∙ ap (λ (ss : List TankState). tank_watches 0 tanks ss) (take_all i states b)) p

  pub control_further : (levels : List Interval) (i : ℕ) (controls : List Control) (control : Control)
      (watched : List Watch) → i < length controls → control ≡ get_or controls i control
      → P ((watched ++ control_watches levels (take i controls)) ++ present (watch_of levels control ∷ []))
      → P (watched ++ control_watches levels (take (i + 1) controls))
  control_further levels i controls control watched h at p =
      subst P (append_assoc watched (control_watches levels (take i controls))
      (present (watch_of levels control ∷ []))
      ∙ ap (λ (ws : List Watch). watched ++ ws) (sym (control_more levels controls i control h at))) p

  pub watched_so : (watched : List Watch) (watch o : Option Watch) → watch ≡ o → P (watched ++ present (watch ∷ []))
      → P (watched ++ present (o ∷ []))
  watched_so watched watch o is p = subst (λ (w : Option Watch). P (watched ++ present (w ∷ []))) is p

  pub all_controls : (levels : List Interval) (i : ℕ) (controls all : List Control) (watched : List Watch)
      → length controls ≤ i → controls ≡ all → P (watched ++ control_watches levels (take i controls))
      → P (watched ++ control_watches levels all)
  all_controls levels i controls all watched h is p =
      subst P (ap (λ (cs : List Control). watched ++ control_watches levels cs) (take_all i controls h ∙ is)) p

-- ---- one more level

module _ (project : Project) (facts : Facts) (latest : ℕ) (watched : List Watch) where
  -- it may not have been reached
  pub still_none : (w : Watch) → (ComesBy project facts latest w → ⊥)
      → ((v : Watch) → Contains watched v → ComesBy project facts latest v → ⊥)
      → (v : Watch) → Contains (watched ++ w ∷ []) v → ComesBy project facts latest v → ⊥
  still_none w not none v c comes = elim (Contains-push_cases watched w v c) [
    | inl before ↦ none v before comes
    | inr is ↦ not (subst (ComesBy project facts latest) (sym is) comes)
  ]

  pub still_nearest : (w : Watch) (best : Here) → (ComesBy project facts latest w → ⊥)
      → IsNearest project facts latest watched best → IsNearest project facts latest (watched ++ w ∷ []) best
  still_nearest w best not near = record {
    is_watched = Contains-append_left watched (w ∷ []) (watch_for best) near.is_watched;
    comes = near.comes;
    short = near.short;
    in_range = near.in_range;
    same_tank = λ v c comes. near.same_tank v (before v c comes) comes;
    same_way = λ v c comes. near.same_way v (before v c comes) comes;
    nearest = λ v c comes. near.nearest v (before v c comes) comes;
  }
    where
      before : (v : Watch) → Contains (watched ++ w ∷ []) v → ComesBy project facts latest v → Contains watched v
      before v c comes = elim (Contains-push_cases watched w v c) [
        | inl there ↦ there
        | inr is ↦ absurd (not (subst (ComesBy project facts latest) (sym is) comes))
      ]

  pub still_competing : (w : Watch) → AreCompeting project facts latest watched
      → AreCompeting project facts latest (watched ++ w ∷ [])
  still_competing w are = record {
    one = are.one;
    other = are.other;
    one_watched = Contains-append_left watched (w ∷ []) are.one are.one_watched;
    other_watched = Contains-append_left watched (w ∷ []) are.other are.other_watched;
    one_comes = are.one_comes;
    other_comes = are.other_comes;
    apart = are.apart;
  }

  pub still : (w : Watch) → (ComesBy project facts latest w → ⊥) → (all : Candidates)
      → AreNearest project facts latest watched all → AreNearest project facts latest (watched ++ w ∷ []) all
  still w not candidates.None none = still_none w not none
  still w not (candidates.One best) near = still_nearest w best not near
  still w not candidates.Competing are = still_competing w are

  -- it may
  pub first_one : (w : Here) → ComesBy project facts latest (watch_for w) → StartsShort project w → IsWatch project w
      → ((v : Watch) → Contains watched v → ComesBy project facts latest v → ⊥)
      → IsNearest project facts latest (watched ++ watch_for w ∷ []) w
  first_one w comes short range none = record {
    is_watched = Contains-push watched (watch_for w);
    comes = comes;
    short = short;
    in_range = range;
    same_tank = λ v c other. ap (λ (x : Watch). x.tank) (only v c other);
    same_way = λ v c other. ap (λ (x : Watch). x.rising) (only v c other);
    nearest = λ v c other. subst (λ (x : Watch). IsNoFarther w.rising w.target x.target) (sym (only v c other))
        (no_farther w.rising w.target);
  }
    where
      only : (v : Watch) → Contains (watched ++ watch_for w ∷ []) v → ComesBy project facts latest v → v ≡ watch_for w
      only v c other = elim (Contains-push_cases watched (watch_for w) v c) [
        | inl before ↦ absurd (none v before other)
        | inr is ↦ sym is
      ]

      no_farther : (rising : Bool) (t : ℤ) → IsNoFarther rising t t
      no_farther true t = omega (arith, ints)
      no_farther false t = omega (arith, ints)

  -- of the same tank and direction as the nearest so far
  pub nearer_one : (w best next : Here) → ComesBy project facts latest (watch_for w) → StartsShort project w
      → IsWatch project w → best.tank ≡ w.tank → best.rising ≡ w.rising → (next ≡ best) ⊎ (next ≡ w)
      → IsNoFarther next.rising next.target best.target → IsNoFarther next.rising next.target w.target
      → IsNearest project facts latest watched best
      → IsNearest project facts latest (watched ++ watch_for w ∷ []) next
  nearer_one w best next comes short range tank way one to_best to_w near = record {
    is_watched = elim one [
      | inl is ↦ subst (λ (x : Here). Contains (watched ++ watch_for w ∷ []) (watch_for x)) (sym is)
          (Contains-append_left watched (watch_for w ∷ []) (watch_for best) near.is_watched)
      | inr is ↦ subst (λ (x : Here). Contains (watched ++ watch_for w ∷ []) (watch_for x)) (sym is)
          (Contains-push watched (watch_for w))
    ];
    comes = elim one [
      | inl is ↦ subst (λ (x : Here). ComesBy project facts latest (watch_for x)) (sym is) near.comes
      | inr is ↦ subst (λ (x : Here). ComesBy project facts latest (watch_for x)) (sym is) comes
    ];
    short = elim one [
      | inl is ↦ subst (StartsShort project) (sym is) near.short
      | inr is ↦ subst (StartsShort project) (sym is) short
    ];
    in_range = elim one [
      | inl is ↦ subst (IsWatch project) (sym is) near.in_range
      | inr is ↦ subst (IsWatch project) (sym is) range
    ];
    same_tank = λ v c other. of-best-tank v c other ∙ sym next-tank;
    same_way = λ v c other. of-best-way v c other ∙ sym next-way;
    nearest = λ v c other. elim (Contains-push_cases watched (watch_for w) v c) [
      | inl before ↦ through next.rising next.target best.target v.target to_best
          (subst (λ (b : Bool). IsNoFarther b best.target v.target) (sym next-way) (near.nearest v before other))
      | inr is ↦ subst (λ (x : Watch). IsNoFarther next.rising next.target x.target) is to_w
    ];
  }
    where
      next-tank : next.tank ≡ best.tank
      next-tank = elim one [
        | inl is ↦ ap (λ (x : Here). x.tank) is
        | inr is ↦ ap (λ (x : Here). x.tank) is ∙ sym tank
      ]

      next-way : next.rising ≡ best.rising
      next-way = elim one [
        | inl is ↦ ap (λ (x : Here). x.rising) is
        | inr is ↦ ap (λ (x : Here). x.rising) is ∙ sym way
      ]

      of-best-tank : (v : Watch) → Contains (watched ++ watch_for w ∷ []) v → ComesBy project facts latest v
          → v.tank ≡ best.tank
      of-best-tank v c other = elim (Contains-push_cases watched (watch_for w) v c) [
        | inl before ↦ near.same_tank v before other
        | inr is ↦ ap (λ (x : Watch). x.tank) (sym is) ∙ sym tank
      ]

      of-best-way : (v : Watch) → Contains (watched ++ watch_for w ∷ []) v → ComesBy project facts latest v
          → v.rising ≡ best.rising
      of-best-way v c other = elim (Contains-push_cases watched (watch_for w) v c) [
        | inl before ↦ near.same_way v before other
        | inr is ↦ ap (λ (x : Watch). x.rising) (sym is) ∙ sym way
      ]

      through : (rising : Bool) (a b d : ℤ) → IsNoFarther rising a b → IsNoFarther rising b d → IsNoFarther rising a d
      through true a b d x y = omega (arith, ints, x, y)
      through false a b d x y = omega (arith, ints, x, y)

  -- of another
  pub compete : (w best : Here) → ComesBy project facts latest (watch_for w)
      → ((best.tank ≡ w.tank) × (best.rising ≡ w.rising) → ⊥) → IsNearest project facts latest watched best
      → AreCompeting project facts latest (watched ++ watch_for w ∷ [])
  compete w best comes apart near = record {
    one = watch_for best;
    other = watch_for w;
    one_watched = Contains-append_left watched (watch_for w ∷ []) (watch_for best) near.is_watched;
    other_watched = Contains-push watched (watch_for w);
    one_comes = near.comes;
    other_comes = comes;
    apart = elim (cases_eq best.tank w.tank) [
      | inr other ↦ inl other
      | inl same ↦ inr (λ way. apart (same, way))
    ];
  }
