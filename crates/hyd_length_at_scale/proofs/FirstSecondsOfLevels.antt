-- First seconds of one way and of several, and what they are of tanks and controls.
use Rattle.std.proofs.Common.{◌≡◌, ◌≢◌, ◌⊎◌, inl, inr, ℕ, ◌+◌, ◌<◌, ◌≤◌, ℤ, Bool, true, false, List, length, take, refl}
use Rattle.std.proofs.Common.{sym, ap, subst, ◌∙◌, arith, get_or, ◌++◌, ◌∷◌, []}
use Rattle.std.specs.Prelude.{Option, Some, slice_get, IsTrue, Contains, int_le, pos, ◌*ℤ◌}
use Rattle.hyd_num.proofs.Integers.{times_one_right}
use Rattle.hyd_spec.specs.Scale.{at_scale}
use Rattle.std.proofs.lemmas.Bool.{cases_lt}
use Rattle.std.proofs.lemmas.Option.{slice_get_within}
use Rattle.std.proofs.lemmas.List.{take_more, take_all}
use Rattle.std.proofs.lemmas.List.Elements.{Contains-append_left, Contains-push, Contains-push_cases}
use Rattle.hyd_num.specs.Rational.{whole}
use Rattle.hyd_spec.specs.ProgramTypes.{Project, Tank, Control, AtLevel}
use Rattle.hyd_spec.specs.declared.TankState.{TankState}
use Rattle.hyd_spec.specs.declared.TankState.TheVariants.{Full, Between, Empty}
use Rattle.hyd_spec.specs.LinkLaw.{is_full, is_empty}
use Rattle.hyd_spec.specs.Tank.{walls_of, content_bounds, reaches, is_at_maximum, is_at_minimum, tank_inflow}
use Rattle.hyd_spec.specs.PeriodLength.{Period, level_at_start, stock_at_start, exact_after, reached_after}
use Rattle.hyd_spec.specs.PeriodLength.{EndsByLevel, full, empty, control as at_control}
use Rattle.hyd_spec_certificates.specs.FirstSeconds.{IsFirstSecond}
use Rattle.hyd_lemmas.proofs.ListsOptionsAndResults.{item_there, same_some}
use Rattle.hyd_theorems_on_histories.proofs.TargetsReached.{reaches_maximum, reaches_minimum}
use Rattle.hyd_tank.proofs.RateMeetsNeed.{first_like}
use Rattle.hyd_length_at_scale.specs.LevelEnds.{IsFirst, Fills, Empties, IsBoundReached, IsLevelReached, IsSomeReached}

-- ---- ways

-- of a way that never comes
pub never : (P : ℕ → Type 0) (cap : ℕ) → ((s : ℕ) → P s → ⊥) → IsFirst P cap cap
never P cap none = record {
  holds = inl refl;
  least = λ k at. elim at [ inl same ↦ omega (arith, same) | inr some ↦ absurd (none k some.1) ];
}

-- of one way or another, found one after the other
pub either : (P Q : ℕ → Type 0) (cap first second : ℕ) → IsFirst P cap first → IsFirst Q first second
    → IsFirst (λ s. P s ⊎ Q s) cap second
either P Q cap first second a b =
    let sooner : second ≤ first = b.least first (inl refl) in
    record {
      holds = elim b.holds [
        | inl same ↦ subst (λ (n : ℕ). (n ≡ cap) ⊎ ((1 ≤ n) × (P n ⊎ Q n))) (sym same) (elim a.holds [
          | inl at ↦ inl at
          | inr some ↦ inr (some.0, inl some.1)
        ])
        | inr some ↦ inr (some.0, inr some.1)
      ];
      least = λ k at. elim at [
        | inl same ↦ let l = a.least k (inl same) in omega (arith, l, sooner)
        | inr some ↦ elim some.1 [
          | inl p ↦ let l = a.least k (inr (some.0, p)) in omega (arith, l, sooner)
          | inr q ↦ b.least k (inr (some.0, q))
        ]
      ];
    }

-- ---- levels at the start

-- whether a whole level has reached a target, by numbers that are the same
pub above_so : (S : ℕ) (ticks z target level : ℤ) → target ≡ at_scale S ticks → level ≡ z
    → int_le target level ≡ reaches S true ticks (whole z)
above_so S ticks z target level same at =
    let t : target ≡ at_scale S ticks *ℤ pos 1 = same ∙ sym (times_one_right (at_scale S ticks)) in
    let l : level ≡ z *ℤ pos 1 = at ∙ sym (times_one_right z) in
    λ i. int_le (t i) (l i)

pub below_so : (S : ℕ) (ticks z target level : ℤ) → target ≡ at_scale S ticks → level ≡ z
    → int_le level target ≡ reaches S false ticks (whole z)
below_so S ticks z target level same at =
    let t : target ≡ at_scale S ticks *ℤ pos 1 = same ∙ sym (times_one_right (at_scale S ticks)) in
    let l : level ≡ z *ℤ pos 1 = at ∙ sym (times_one_right z) in
    λ i. int_le (l i) (t i)

-- ---- states of tanks

full-so : (state : TankState) → is_full state ≡ true → ◌≡◌ {A = Option TankState} (Some state) (Some Full)
full-so Full e = refl
full-so Between e = absurd (cc)
full-so Empty e = absurd (cc)

not-full-so : (state : TankState) → is_full state ≡ false → ◌≡◌ {A = Option TankState} (Some state) (Some Full) → ⊥
not-full-so Full e is = absurd (cc)
not-full-so Between e is = absurd (cc)
not-full-so Empty e is = absurd (cc)

empty-so : (state : TankState) → is_empty state ≡ true → ◌≡◌ {A = Option TankState} (Some state) (Some Empty)
empty-so Full e = absurd (cc)
empty-so Between e = absurd (cc)
empty-so Empty e = refl

not-empty-so : (state : TankState) → is_empty state ≡ false
    → ◌≡◌ {A = Option TankState} (Some state) (Some Empty) → ⊥
not-empty-so Full e is = absurd (cc)
not-empty-so Between e is = absurd (cc)
not-empty-so Empty e is = absurd (cc)

module _ (tanks : List TankState) (k : ℕ) (there : k < length tanks) (b : Bool) where
  pub full_there : ((state : TankState) → slice_get tanks k ≡ Some state → b ≡ is_full state) → b ≡ true
      → slice_get tanks k ≡ Some Full
  full_there is e =
      let item = item_there tanks k there in
      item.1 ∙ full-so item.0 (sym (is item.0 item.1) ∙ e)

  pub not_full_there : ((state : TankState) → slice_get tanks k ≡ Some state → b ≡ is_full state) → b ≡ false
      → slice_get tanks k ≢ Some Full
  not_full_there is e at =
      let item = item_there tanks k there in
      not-full-so item.0 (sym (is item.0 item.1) ∙ e) (sym item.1 ∙ at)

  pub empty_there : ((state : TankState) → slice_get tanks k ≡ Some state → b ≡ is_empty state) → b ≡ true
      → slice_get tanks k ≡ Some Empty
  empty_there is e =
      let item = item_there tanks k there in
      item.1 ∙ empty-so item.0 (sym (is item.0 item.1) ∙ e)

  pub not_empty_there : ((state : TankState) → slice_get tanks k ≡ Some state → b ≡ is_empty state) → b ≡ false
      → slice_get tanks k ≢ Some Empty
  not_empty_there is e at =
      let item = item_there tanks k there in
      not-empty-so item.0 (sym (is item.0 item.1) ∙ e) (sym item.1 ∙ at)

-- ---- bounds of tanks

module _ (project : Project) (S : ℕ) (period : Period) (k : ℕ) where
  pub fills_first : (tank : Tank) (cap e : ℕ) → slice_get project.tanks.list k ≡ Some tank
      → slice_get period.tanks k ≢ Some Full
      → IsFirstSecond (reached_after project S period k tank true tank.maximum) cap e
      → IsFirst (Fills project S period k) cap e
  fills_first tank cap e at other first =
      let q = tank_inflow project k period.assignment.flows in
      let same = λ (s : ℕ). reaches_maximum S (walls_of project tank) tank (stock_at_start period k) q s in
      first_like (λ s. IsTrue (reached_after project S period k tank true tank.maximum s)) (Fills project S period k)
      cap e
      (λ s some h. record { tank = tank; is_tank = at; not_full = other; filled = sym (same s) ∙ h })
      (λ s some f. same s ∙ subst (λ (t : Tank). IsTrue (is_at_maximum S (content_bounds (walls_of project t) t)
      (exact_after project period k t s))) (same_some (slice_get project.tanks.list k) f.tank tank f.is_tank at)
      f.filled)
      first

  pub empties_first : (tank : Tank) (cap e : ℕ) → slice_get project.tanks.list k ≡ Some tank
      → slice_get period.tanks k ≢ Some Empty
      → IsFirstSecond (reached_after project S period k tank false tank.minimum) cap e
      → IsFirst (Empties project S period k) cap e
  empties_first tank cap e at other first =
      let q = tank_inflow project k period.assignment.flows in
      let same = λ (s : ℕ). reaches_minimum S (walls_of project tank) tank (stock_at_start period k) q s in
      first_like (λ s. IsTrue (reached_after project S period k tank false tank.minimum s)) (Empties project S period k)
      cap e
      (λ s some h. record { tank = tank; is_tank = at; not_empty = other; emptied = sym (same s) ∙ h })
      (λ s some f. same s ∙ subst (λ (t : Tank). IsTrue (is_at_minimum S (content_bounds (walls_of project t) t)
      (exact_after project period k t s))) (same_some (slice_get project.tanks.list k) f.tank tank f.is_tank at)
      f.emptied)
      first

module _ (project : Project) (S : ℕ) (period : Period) where
  pub no_bound : (cap : ℕ) → IsFirst (IsBoundReached project S period 0) cap cap
  no_bound cap = never (IsBoundReached project S period 0) cap (λ s w. let l = w.among in absurd (omega (arith, l)))

  -- one tank more
  pub one_tank_more : (i cap first filling emptying : ℕ) → IsFirst (IsBoundReached project S period i) cap first
      → IsFirst (Fills project S period i) first filling → IsFirst (Empties project S period i) filling emptying
      → IsFirst (IsBoundReached project S period (i + 1)) cap emptying
  one_tank_more i cap first filling emptying before fills empties =
      first_like
      (λ s. (IsBoundReached project S period i s ⊎ Fills project S period i s) ⊎ Empties project S period i s)
      (IsBoundReached project S period (i + 1)) cap emptying (λ s some w. with-more s w) (λ s some w. without-last s w)
      (either (λ s. IsBoundReached project S period i s ⊎ Fills project S period i s) (Empties project S period i) cap
      filling emptying
      (either (IsBoundReached project S period i) (Fills project S period i) cap first filling before fills) empties)
    where
      with-more : (s : ℕ)
          → (IsBoundReached project S period i s ⊎ Fills project S period i s) ⊎ Empties project S period i s
          → IsBoundReached project S period (i + 1) s
      with-more s (inl (inl w)) = let l = w.among in
          record { number = w.number; among = omega (arith, l); bound = w.bound }
      with-more s (inl (inr f)) = record { number = i; among = omega arith; bound = inl f }
      with-more s (inr f) = record { number = i; among = omega arith; bound = inr f }

      without-last : (s : ℕ) → IsBoundReached project S period (i + 1) s
          → (IsBoundReached project S period i s ⊎ Fills project S period i s) ⊎ Empties project S period i s
      without-last s w = elim (cases_lt w.number i) [
        | inl less ↦ inl (inl (record { number = w.number; among = less; bound = w.bound }))
        | inr more ↦
            let l = w.among in
            let same : w.number ≡ i = omega (arith, l, more) in
            elim w.bound [
              | inl f ↦ inl (inr (subst (λ (n : ℕ). Fills project S period n s) same f))
              | inr f ↦ inr (subst (λ (n : ℕ). Empties project S period n s) same f)
            ]
      ]

  -- ---- levels of controls

  abbrev pub SomeOf : List Control → ℕ → Type 0
  SomeOf controls = IsSomeReached project S period controls

  none-contained : (c : Control) → Contains [] c → ⊥
  none-contained c there = let l = there.1 in absurd (omega (arith, l))

  pub no_control : (cap : ℕ) → IsFirst (SomeOf []) cap cap
  no_control cap = never (SomeOf []) cap (λ s w. none-contained w.control w.among)

  control-more : (controls : List Control) (control : Control) (cap first second : ℕ)
      → IsFirst (SomeOf controls) cap first → IsFirst (IsLevelReached project S period control) first second
      → IsFirst (SomeOf (controls ++ control ∷ [])) cap second
  control-more controls control cap first second before here =
      first_like (λ s. SomeOf controls s ⊎ IsLevelReached project S period control s)
      (SomeOf (controls ++ control ∷ [])) cap second (λ s some w. with-more s w) (λ s some w. without-last s w)
      (either (SomeOf controls) (IsLevelReached project S period control) cap first second before here)
    where
      with-more : (s : ℕ) → SomeOf controls s ⊎ IsLevelReached project S period control s
          → SomeOf (controls ++ control ∷ []) s
      with-more s (inl w) = record {
        control = w.control;
        among = Contains-append_left controls (control ∷ []) w.control w.among;
        level = w.level;
      }
      with-more s (inr l) = record { control = control; among = Contains-push controls control; level = l }

      without-last : (s : ℕ) → SomeOf (controls ++ control ∷ []) s
          → SomeOf controls s ⊎ IsLevelReached project S period control s
      without-last s w = elim (Contains-push_cases controls control w.control w.among) [
        | inl before ↦ inl (record { control = w.control; among = before; level = w.level })
        | inr is ↦ inr (subst (λ (c : Control). IsLevelReached project S period c s) (sym is) w.level)
      ]

  -- the control at a place of the list
  pub one_control_more : (controls : List Control) (i cap first second : ℕ) (control : Control) → i < length controls
      → control ≡ get_or controls i control → IsFirst (SomeOf (take i controls)) cap first
      → IsFirst (IsLevelReached project S period control) first second
      → IsFirst (SomeOf (take (i + 1) controls)) cap second
  one_control_more controls i cap first second control h at before here =
      let is : take (i + 1) controls ≡ take i controls ++ control ∷ [] =
      take_more controls i control h ∙ ap (λ (c : Control). take i controls ++ c ∷ []) (sym at) in
      subst (λ (cs : List Control). IsFirst (SomeOf cs) cap second) (sym is)
      (control-more (take i controls) control cap first second before here)

  pub all_controls : (controls all : List Control) (i cap first : ℕ) → length controls ≤ i → controls ≡ all
      → IsFirst (SomeOf (take i controls)) cap first → IsFirst (SomeOf all) cap first
  all_controls controls all i cap first h are before =
      subst (λ (cs : List Control). IsFirst (SomeOf cs) cap first) (take_all i controls h ∙ are) before

  -- a control by time or by clock has no level
  pub no_level : (control : Control) (cap : ℕ) → ((k : ℕ) (above : Bool) (ticks : ℤ)
      → control.when ≡ AtLevel k above ticks → ⊥) → IsFirst (IsLevelReached project S period control) cap cap
  no_level control cap other = never (IsLevelReached project S period control) cap
      (λ s w. other w.number w.above w.ticks w.at_level)

  module _ (control : Control) (k : ℕ) (above : Bool) (ticks : ℤ) (is : control.when ≡ AtLevel k above ticks) where
    numbers-are : (m : ℕ) (b : Bool) (t : ℤ) → control.when ≡ AtLevel m b t → m ≡ k
    numbers-are m b t at = let e : AtLevel k above ticks ≡ AtLevel m b t = sym is ∙ at in cc

    ways-are : (m : ℕ) (b : Bool) (t : ℤ) → control.when ≡ AtLevel m b t → b ≡ above
    ways-are m b t at = let e : AtLevel k above ticks ≡ AtLevel m b t = sym is ∙ at in cc

    levels-are : (m : ℕ) (b : Bool) (t : ℤ) → control.when ≡ AtLevel m b t → t ≡ ticks
    levels-are m b t at = let e : AtLevel k above ticks ≡ AtLevel m b t = sym is ∙ at in cc

    -- one that holds at the start has none either
    pub held_level : (cap : ℕ) → reaches S above ticks (whole (level_at_start period k)) ≡ true
        → IsFirst (IsLevelReached project S period control) cap cap
    held_level cap held = never (IsLevelReached project S period control) cap (λ s w.
        let n = numbers-are w.number w.above w.ticks w.at_level in
        let a = ways-are w.number w.above w.ticks w.at_level in
        let t = levels-are w.number w.above w.ticks w.at_level in
        let not : reaches S w.above w.ticks (whole (level_at_start period w.number)) ≡ false = w.not_yet in
        let so : reaches S above ticks (whole (level_at_start period k)) ≡ false =
        subst (λ (m : ℕ). reaches S above ticks (whole (level_at_start period m)) ≡ false) n
        (subst (λ (b : Bool). reaches S b ticks (whole (level_at_start period w.number)) ≡ false) a
        (subst (λ (z : ℤ). reaches S w.above z (whole (level_at_start period w.number)) ≡ false) t not)) in
        absurd (cc (so, held)))

    -- of another one it is the first second at which the tank has reached it
    pub level_first : (tank : Tank) (cap e : ℕ) → slice_get project.tanks.list k ≡ Some tank
        → reaches S above ticks (whole (level_at_start period k)) ≡ false
        → IsFirstSecond (reached_after project S period k tank above ticks) cap e
        → IsFirst (IsLevelReached project S period control) cap e
    level_first tank cap e at not first =
        first_like (λ s. IsTrue (reached_after project S period k tank above ticks s))
        (IsLevelReached project S period control) cap e
        (λ s some h. record {
          number = k;
          above = above;
          ticks = ticks;
          tank = tank;
          at_level = is;
          is_tank = at;
          not_yet = not;
          reached = h;
        })
        (λ s some w.
        let n = numbers-are w.number w.above w.ticks w.at_level in
        let a = ways-are w.number w.above w.ticks w.at_level in
        let t = levels-are w.number w.above w.ticks w.at_level in
        let there : slice_get project.tanks.list k ≡ Some w.tank =
        subst (λ (m : ℕ). slice_get project.tanks.list m ≡ Some w.tank) n w.is_tank in
        subst (λ (x : Tank). IsTrue (reached_after project S period k x above ticks s))
        (same_some (slice_get project.tanks.list k) w.tank tank there at)
        (subst (λ (m : ℕ). IsTrue (reached_after project S period m w.tank above ticks s)) n
        (subst (λ (b : Bool). IsTrue (reached_after project S period w.number w.tank b ticks s)) a
        (subst (λ (z : ℤ). IsTrue (reached_after project S period w.number w.tank w.above z s)) t w.reached))))
        first

  -- ---- all levels

  ends-so : (s : ℕ) → IsBoundReached project S period (length project.tanks.list) s ⊎ SomeOf project.controls.list s
      → EndsByLevel project S period s
  ends-so s (inl w) = elim w.bound [
    | inl f ↦ full w.number f.tank f.is_tank f.not_full f.filled
    | inr f ↦ empty w.number f.tank f.is_tank f.not_empty f.emptied
  ]
  ends-so s (inr w) =
      let l = w.level in
      at_control w.control l.number l.above l.ticks l.tank w.among l.at_level l.is_tank l.not_yet l.reached

  way-of : (s : ℕ) → EndsByLevel project S period s
      → IsBoundReached project S period (length project.tanks.list) s ⊎ SomeOf project.controls.list s
  way-of s (full k tank at other reached) = inl (record {
    number = k;
    among = slice_get_within project.tanks.list k tank at;
    bound = inl (record { tank = tank; is_tank = at; not_full = other; filled = reached });
  })
  way-of s (empty k tank at other reached) = inl (record {
    number = k;
    among = slice_get_within project.tanks.list k tank at;
    bound = inr (record { tank = tank; is_tank = at; not_empty = other; emptied = reached });
  })
  way-of s (at_control each k above ticks tank there is at not reached) = inr (record {
    control = each;
    among = there;
    level = record {
      number = k;
      above = above;
      ticks = ticks;
      tank = tank;
      at_level = is;
      is_tank = at;
      not_yet = not;
      reached = reached;
    };
  })

  pub levels_first : (cap bound second : ℕ)
      → IsFirst (IsBoundReached project S period (length project.tanks.list)) cap bound
      → IsFirst (SomeOf project.controls.list) bound second → IsFirst (EndsByLevel project S period) cap second
  levels_first cap bound second a b =
      first_like (λ s. IsBoundReached project S period (length project.tanks.list) s ⊎ SomeOf project.controls.list s)
      (EndsByLevel project S period) cap second (λ s some w. ends-so s w) (λ s some w. way-of s w)
      (either (IsBoundReached project S period (length project.tanks.list)) (SomeOf project.controls.list) cap bound
      second a b)
