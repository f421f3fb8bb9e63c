-- Watched levels, one after another.
use Rattle.std.proofs.Common.{◌≡◌, Bool, true, false, ℕ, zero, suc, ◌+◌, ◌<◌, ◌≤◌, min, List, [], ◌∷◌, ◌++◌, length}
use Rattle.std.proofs.Common.{take, ap, sym, ◌∙◌, subst, arith, append_assoc, get_or, append-nil}
use Rattle.std.specs.Prelude.{Option, Some, map, slice_get, if◌then◌else◌}
use Rattle.std.proofs.lemmas.List.{take_more, take_all, map_push}
use Rattle.hyd_spec.specs.ProgramTypes.{Project, Tank, Control}
use Rattle.hyd_spec.specs.declared.TankState.{TankState}
use Rattle.hyd_spec.specs.LinkLaw.{is_full, is_empty}
use Rattle.hyd_spec.specs.Lists.{present}
use Rattle.hyd_spec_certificates.specs.SpansAsIntervals.{levels_of}
use Rattle.hyd_spec_certificates.specs.Interval.{Interval}
use Rattle.hyd_spec_certificates.specs.PeriodNetwork.{Grid}
use Rattle.hyd_spec_certificates.specs.RecordAndStanding.{Record, Standing}
use Rattle.hyd_spec_certificates.specs.Stocks.{may_reach, must_reach}
use Rattle.hyd_spec_certificates.specs.Decided.{Watch, watches, tank_watches, watch_of, IsClockLength, IsEarliestEnd}
use Rattle.hyd_spec_certificates.specs.Decided.{IsLatestEnd}
use Rattle.hyd_controls_and_rules.specs.PassedOn.{IsFirstAmong}
use Rattle.hyd_lemmas.proofs.ListsOptionsAndResults.{present_push}
use Rattle.hyd_controls_and_rules.proofs.PassedOn.{none_watched, end_is}
use Rattle.hyd_period_facts.specs.declared.facts.Facts.{Facts}
use Rattle.hyd_period_facts.specs.declared.watch.Ends.{Ends}
use Rattle.hyd_period_facts.specs.FactsBeforeEnd.{AreStarted}
use Rattle.hyd_period_facts.specs.Watched.{IsReachedFirst, IsReachedAmong, AreEnds, most_of, least_of}
use Rattle.hyd_period_facts.proofs.FirstSecondsByFacts.{one_behind}

pub none_yet : (project : Project) (facts : Facts) (cap : ℕ) (ends : Ends) → ends.earliest ≡ cap → ends.latest ≡ cap
    → AreEnds project facts cap [] ends
none_yet project facts cap ends a b = record {
  earliest = λ grid standing row started. subst (IsFirstAmong may_reach project grid standing row cap []) (sym a)
      (none_watched may_reach project grid standing row cap);
  latest = λ grid standing row started. subst (IsFirstAmong must_reach project grid standing row cap []) (sym b)
      (none_watched must_reach project grid standing row cap);
  within = omega (arith, a);
  some = λ h. omega (arith, a, h);
}

-- one more watched level
pub one_more : (project : Project) (facts : Facts) (cap : ℕ) (watch : Watch) (watched : List Watch)
    (own ends both : Ends)
    → IsReachedFirst may_reach project facts cap watch own.earliest
    → IsReachedFirst must_reach project facts cap watch own.latest
    → (0 < cap → 0 < own.earliest)
    → both.earliest ≡ min own.earliest ends.earliest → both.latest ≡ min own.latest ends.latest
    → AreEnds project facts cap watched ends → AreEnds project facts cap (watched ++ watch ∷ []) both
one_more project facts cap watch watched own ends both first last some a b are = record {
  earliest = subst (IsReachedAmong may_reach project facts cap (watched ++ watch ∷ [])) (sym a)
      (one_behind may_reach project facts cap watch watched own.earliest ends.earliest first are.earliest);
  latest = subst (IsReachedAmong must_reach project facts cap (watched ++ watch ∷ [])) (sym b)
      (one_behind must_reach project facts cap watch watched own.latest ends.latest last are.latest);
  within = let w = are.within in omega (arith, a, w);
  some = λ h. let here = some h in let there = are.some h in omega (arith, a, here, there);
}

pub as_watched : (project : Project) (facts : Facts) (cap : ℕ) (some others : List Watch) (ends : Ends) → some ≡ others
    → AreEnds project facts cap some ends → AreEnds project facts cap others ends
as_watched project facts cap some others ends e are =
    subst (λ (ws : List Watch). AreEnds project facts cap ws ends) e are

pub no_more : (project : Project) (facts : Facts) (cap : ℕ) (watched : List Watch) (ends : Ends)
    → AreEnds project facts cap watched ends → AreEnds project facts cap (watched ++ []) ends
no_more project facts cap watched ends are =
    as_watched project facts cap watched (watched ++ []) ends (sym (append-nil watched)) are

-- ---- tanks

tank_more : (k i : ℕ) (tanks : List Tank) (states : List TankState) (tank : Tank) (state : TankState)
    → slice_get tanks i ≡ Some tank → slice_get states i ≡ Some state
    → tank_watches k (take (suc i) tanks) (take (suc i) states)
    ≡ (tank_watches k (take i tanks) (take i states) ++ most_of (k + i) tank state) ++ least_of (k + i) tank state
tank_more k i [] states tank state at is = absurd (cc)
tank_more k i (x ∷ tanks) [] tank state at is = absurd (cc)
tank_more k zero (x ∷ tanks) (s ∷ states) tank state at is =
    let same : x ≡ tank = cc in
    let alike : s ≡ state = cc in
    ap (λ (ws : List Watch). most_of k x s ++ ws) (append-nil (least_of k x s))
    ∙ ap (λ (t : Tank). most_of k t s ++ least_of k t s) same
    ∙ ap (λ (t : TankState). most_of k tank t ++ least_of k tank t) alike
    ∙ ap (λ (n : ℕ). most_of n tank state ++ least_of n tank state) (let e : k ≡ k + 0 = omega arith in e)
tank_more k (suc i) (x ∷ tanks) (s ∷ states) tank state at is =
    let later = tank_more (suc k) i tanks states tank state at is in
    let w = tank_watches (suc k) (take i tanks) (take i states) in
    let m = most_of (k + suc i) tank state in
    let l = least_of (k + suc i) tank state in
    let n : suc k + i ≡ k + suc i = omega arith in
    ap (λ (ws : List Watch). most_of k x s ++ (least_of k x s ++ ws))
    (later ∙ ap (λ (n : ℕ). (w ++ most_of n tank state) ++ least_of n tank state) n)
    ∙ ap (λ (ws : List Watch). most_of k x s ++ ws) (sym (append_assoc (least_of k x s) (w ++ m) l))
    ∙ sym (append_assoc (most_of k x s) (least_of k x s ++ (w ++ m)) l)
    ∙ ap (λ (ws : List Watch). ws ++ l) (ap (λ (ws : List Watch). most_of k x s ++ ws) (sym (append_assoc
    (least_of k x s) w m))
    ∙ sym (append_assoc (most_of k x s) (least_of k x s ++ w) m))

pub most_so : (project : Project) (facts : Facts) (cap k : ℕ) (here each : Tank) (state : TankState)
    (watched : List Watch) (ends : Ends)
    → is_full state ≡ false → here ≡ each
    → AreEnds project facts cap (watched ++ record { tank = k; target = here.maximum; rising = true } ∷ []) ends
    → AreEnds project facts cap (watched ++ most_of k each state) ends
most_so project facts cap k here each state watched ends lacks is are =
    as_watched project facts cap _ (watched ++ most_of k each state) ends
    (ap (λ (b : Bool). watched ++ (if b then [] else record { tank = k; target = here.maximum; rising = true } ∷ []))
    (sym lacks)
    ∙ ap (λ (t : Tank). watched ++ most_of k t state) is) are

pub least_so : (project : Project) (facts : Facts) (cap k : ℕ) (here each : Tank) (state : TankState)
    (watched : List Watch) (ends : Ends)
    → is_empty state ≡ false → here ≡ each
    → AreEnds project facts cap (watched ++ record { tank = k; target = here.minimum; rising = false } ∷ []) ends
    → AreEnds project facts cap (watched ++ least_of k each state) ends
least_so project facts cap k here each state watched ends lacks is are =
    as_watched project facts cap _ (watched ++ least_of k each state) ends
    (ap (λ (b : Bool). watched ++
    (if b then [] else record { tank = k; target = here.minimum; rising = false } ∷ [])) (sym lacks)
    ∙ ap (λ (t : Tank). watched ++ least_of k t state) is) are

pub no_most : (project : Project) (facts : Facts) (cap k : ℕ) (each : Tank) (state : TankState)
    (watched : List Watch) (ends : Ends)
    → is_full state ≡ true → AreEnds project facts cap watched ends
    → AreEnds project facts cap (watched ++ most_of k each state) ends
no_most project facts cap k each state watched ends full are =
    as_watched project facts cap _ (watched ++ most_of k each state) ends
    (ap (λ (b : Bool). watched ++ (if b then [] else record { tank = k; target = each.maximum; rising = true } ∷ []))
    (sym full))
    (no_more project facts cap watched ends are)

pub no_least : (project : Project) (facts : Facts) (cap k : ℕ) (each : Tank) (state : TankState)
    (watched : List Watch) (ends : Ends)
    → is_empty state ≡ true → AreEnds project facts cap watched ends
    → AreEnds project facts cap (watched ++ least_of k each state) ends
no_least project facts cap k each state watched ends empty are =
    as_watched project facts cap _ (watched ++ least_of k each state) ends
    (ap (λ (b : Bool). watched ++
    (if b then [] else record { tank = k; target = each.minimum; rising = false } ∷ [])) (sym empty))
    (no_more project facts cap watched ends are)

pub tank_further : (project : Project) (facts : Facts) (cap i : ℕ) (tank : Tank) (state : TankState) (ends : Ends)
    → slice_get project.tanks.list i ≡ Some tank → slice_get facts.tanks.list i ≡ Some state
    → AreEnds project facts cap ((tank_watches 0 (take i project.tanks.list)
    (take i facts.tanks.list) ++ most_of i tank state) ++ least_of i tank state) ends
    → AreEnds project facts cap (tank_watches 0 (take (i + 1) project.tanks.list) (take (i + 1) facts.tanks.list)) ends
tank_further project facts cap i tank state ends at is are =
    as_watched project facts cap _ (tank_watches 0 (take (i + 1) project.tanks.list) (take
    (i + 1) facts.tanks.list)) ends
    (sym (ap (λ (n : ℕ). tank_watches 0 (take n project.tanks.list) (take n facts.tanks.list))
    (let e : i + 1 ≡ suc i = omega arith in e)
    ∙ tank_more 0 i project.tanks.list facts.tanks.list tank state at is
    ∙ ap (λ (n : ℕ). (tank_watches 0 (take i project.tanks.list)
    (take i facts.tanks.list) ++ most_of n tank state) ++ least_of n tank state)
    (let same : 0 + i ≡ i = omega arith in same))) are

pub all_tanks : (project : Project) (facts : Facts) (cap i : ℕ) (ends : Ends) → length project.tanks.list ≤ i
    → length facts.tanks.list ≤ i
    → AreEnds project facts cap (tank_watches 0 (take i project.tanks.list) (take i facts.tanks.list)) ends
    → AreEnds project facts cap (tank_watches 0 project.tanks.list facts.tanks.list) ends
all_tanks project facts cap i ends a b are =
    as_watched project facts cap _ (tank_watches 0 project.tanks.list facts.tanks.list) ends
    (ap (λ (ts : List Tank). tank_watches 0 ts (take i facts.tanks.list)) (take_all i project.tanks.list a)
    ∙ ap (λ (ss : List TankState). tank_watches 0 project.tanks.list ss) (take_all i facts.tanks.list b)) are

-- ---- controls

abbrev pub control_watches : List Interval → List Control → List Watch
control_watches levels controls = present (map (watch_of levels) controls)

control_more : (levels : List Interval) (controls : List Control) (i : ℕ) (control : Control) → i < length controls
    → control ≡ get_or controls i control
    → control_watches levels (take (i + 1) controls) ≡ control_watches levels (take i controls) ++ present
    (watch_of levels control ∷ [])
control_more levels controls i control h at =
    ap (control_watches levels) (take_more controls i control h
    ∙ ap (λ (c : Control). take i controls ++ c ∷ []) (sym at))
    ∙ ap present (map_push (watch_of levels) (take i controls) control)
    ∙ present_push (map (watch_of levels) (take i controls)) (watch_of levels control)

pub control_further : (project : Project) (facts : Facts) (cap i : ℕ) (controls : List Control) (control : Control)
    (watched : List Watch)
    (ends : Ends) → i < length controls → control ≡ get_or controls i control
    → AreEnds project facts cap ((watched ++ control_watches (map levels_of facts.levels.list) (take i controls))
    ++ present (watch_of (map levels_of facts.levels.list) control ∷ [])) ends
    → AreEnds project facts cap (watched ++ control_watches (map levels_of facts.levels.list) (take
    (i + 1) controls)) ends
control_further project facts cap i controls control watched ends h at are =
    let levels : List Interval = map levels_of facts.levels.list in
    as_watched project facts cap _ (watched ++ control_watches levels (take (i + 1) controls)) ends
    (append_assoc watched (control_watches levels (take i controls)) (present (watch_of levels control ∷ []))
    ∙ ap (λ (ws : List Watch). watched ++ ws) (sym (control_more levels controls i control h at))) are

pub watched_so : (project : Project) (facts : Facts) (cap : ℕ) (watched : List Watch) (watch o : Option Watch)
    (ends : Ends)
    → watch ≡ o → AreEnds project facts cap (watched ++ present (watch ∷ [])) ends
    → AreEnds project facts cap (watched ++ present (o ∷ [])) ends
watched_so project facts cap watched watch o ends is are =
    subst (λ (w : Option Watch). AreEnds project facts cap (watched ++ present (w ∷ [])) ends) is are

pub all_controls : (project : Project) (facts : Facts) (cap i : ℕ) (controls all : List Control)
    (watched : List Watch) (ends : Ends)
    → length controls ≤ i → controls ≡ all
    → AreEnds project facts cap (watched ++ control_watches (map levels_of facts.levels.list) (take i controls)) ends
    → AreEnds project facts cap (watched ++ control_watches (map levels_of facts.levels.list) all) ends
all_controls project facts cap i controls all watched ends h is are =
    let levels : List Interval = map levels_of facts.levels.list in
    as_watched project facts cap _ (watched ++ control_watches levels all) ends
    (ap (λ (cs : List Control). watched ++ control_watches levels cs) (take_all i controls h ∙ is)) are

-- ---- all of them

module _ (project : Project) (facts : Facts) (cap : ℕ) (ends : Ends)
    (are : AreEnds project facts cap (tank_watches 0 project.tanks.list facts.tanks.list
    ++ control_watches (map levels_of facts.levels.list) project.controls.list) ends)
    (grid : Grid) (standing : Standing) (row : Record) (started : AreStarted project grid standing row facts)
    (clock : IsClockLength project standing.time cap) where
  watched_are : tank_watches 0 project.tanks.list facts.tanks.list
      ++ control_watches (map levels_of facts.levels.list) project.controls.list ≡ watches project standing
  watched_are =
      ap (λ (states : List TankState). tank_watches 0 project.tanks.list states
      ++ control_watches (map levels_of facts.levels.list) project.controls.list) started.tanks
      ∙ ap (λ (levels : List Interval). tank_watches 0 project.tanks.list standing.tanks ++ control_watches levels
      project.controls.list) started.levels

  pub earliest_is : IsEarliestEnd project grid standing row ends.earliest
  earliest_is = end_is may_reach project grid standing row cap clock ends.earliest
      (subst (λ (ws : List Watch). IsFirstAmong may_reach project grid standing row cap ws ends.earliest) watched_are
      (are.earliest grid standing row started))

  pub latest_is : IsLatestEnd project grid standing row ends.latest
  latest_is = end_is must_reach project grid standing row cap clock ends.latest
      (subst (λ (ws : List Watch). IsFirstAmong must_reach project grid standing row cap ws ends.latest) watched_are
      (are.latest grid standing row started))
