-- How long a period of a history lasts is the same of alike parts.
use Rattle.std.proofs.Common.{◌≡◌, ◌≢◌, ℕ, ◌+◌, ◌-◌, ℤ, Bool, IsTrue, List, [], ◌∷◌, map, refl, ap, ap₂, subst}
use Rattle.std.proofs.Common.{◌∙◌, ◌&&◌, ◌||◌}
use Rattle.std.specs.Prelude.{neg_ℤ, unsigned_abs}
use Rattle.std.specs.List.{list_any, list_all}
use Rattle.hyd_num.specs.Rational.{Rational}
use Rattle.hyd_spec.specs.ProgramTypes.{Project, Tank, Rule, Clause}
use Rattle.hyd_spec.specs.declared.Change.{Change}
use Rattle.hyd_spec.specs.Assignment.{net_outflow}
use Rattle.hyd_spec.specs.Tank.{Walls, walls_of, content_bounds, exact_content, carried_level, has_reached}
use Rattle.hyd_spec.specs.Tank.{is_at_maximum, is_at_minimum, tank_inflow}
use Rattle.hyd_spec.specs.Rules.{Readings, clause_holds, groups_of, rule_holds, rule_values, rule_changes, acted}
use Rattle.hyd_spec.specs.PeriodLength.{Period, stock_at_start, carried_after}
use Rattle.hyd_spec.specs.PeriodLength.{EndsByLevel, full, empty, control, readings_after, values_at}
use Rattle.hyd_spec.specs.PeriodLength.{EndsByRules, MayEnd, by_clock, by_level, by_rules, HasItsLength, at_end}
use Rattle.hyd_spec.specs.PeriodLength.{before_end}
use Rattle.hyd_theorems_on_rereading.proofs.PartsWithSpares.{Inner, with_inner, IsLikeRule, AreAlike, turned}
use Rattle.hyd_theorems_on_rereading.proofs.SameQuantities.{same_node, same_walls}
use Rattle.hyd_theorems_on_rereading.proofs.SameRules.{same_groups, same_clause, same_changes, same_acted}
use Rattle.hyd_theorems_on_rereading.proofs.SameDecidedMatters.{same_map_from, zip_map}
use Rattle.hyd_theorems_on_rereading.proofs.SamePeriodEnds.{least_on, clock_on}
use Rattle.hyd_theorems_on_rereading.proofs.SameAssignments.{same_node_heads}

same_any : {A : Type 0} (f g : A → Bool) → ((a : A) → f a ≡ g a) → (xs : List A) → list_any f xs ≡ list_any g xs
same_any f g each [] = refl
same_any f g each (x ∷ xs) = ap₂ (λ a b. a || b) (each x) (same_any f g each xs)

same_all : {A : Type 0} (f g : A → Bool) → ((a : A) → f a ≡ g a) → (xs : List A) → list_all f xs ≡ list_all g xs
same_all f g each [] = refl
same_all f g each (x ∷ xs) = ap₂ (λ a b. a && b) (each x) (same_all f g each xs)

module _ (p : Project) (x y : Inner) (alike : AreAlike x y) where
  -- ---- levels

  pub same_tank_inflow : (k : ℕ) (flows : List ℤ)
      → tank_inflow (with_inner p x) k flows ≡ tank_inflow (with_inner p y) k flows
  same_tank_inflow k flows =
      ap (λ (node : ℕ). neg_ℤ (net_outflow node p.links.list flows)) (same_node p x y alike k)

  -- what a test says of a tank's walls and inflow
  by_walls : {T : Type 0} (test : Walls → ℤ → T) (k : ℕ) (tank : Tank) (flows : List ℤ)
      → test (walls_of (with_inner p x) tank) (tank_inflow (with_inner p x) k flows)
      ≡ test (walls_of (with_inner p y) tank) (tank_inflow (with_inner p y) k flows)
  by_walls test k tank flows = ap₂ test (same_walls p x y alike tank) (same_tank_inflow k flows)

  level_on : (S : ℕ) (period : Period) (seconds : ℕ) → EndsByLevel (with_inner p x) S period seconds
      → EndsByLevel (with_inner p y) S period seconds
  level_on S period seconds (full k tank is state at) = full k tank is state (subst (λ (b : Bool). IsTrue b)
      (by_walls (λ walls inflow. is_at_maximum S (content_bounds walls tank)
      (exact_content walls (stock_at_start period k) inflow seconds)) k tank period.assignment.flows) at)
  level_on S period seconds (empty k tank is state at) = empty k tank is state (subst (λ (b : Bool). IsTrue b)
      (by_walls (λ walls inflow. is_at_minimum S (content_bounds walls tank)
      (exact_content walls (stock_at_start period k) inflow seconds)) k tank period.assignment.flows) at)
  level_on S period seconds (control by k above ticks tank among when is before at) =
      control by k above ticks tank among when is before (subst (λ (b : Bool). IsTrue b)
      (by_walls (λ walls inflow. has_reached S walls tank (stock_at_start period k) inflow above ticks seconds) k tank
      period.assignment.flows) at)

  -- ---- rules

  same_readings : (S : ℕ) (period : Period) (seconds : ℕ)
      → readings_after (with_inner p x) S period seconds ≡ readings_after (with_inner p y) S period seconds
  same_readings S period seconds =
      ap₂ (λ (heads : List ℤ) (levels : List Rational). record {
        heads = heads;
        levels = levels;
        flows = map unsigned_abs period.assignment.flows;
        links = period.links;
      }) (same_node_heads p x y alike S period.time period.levels period.assignment.heads)
      (same_map_from (λ k (tank : Tank). carried_after (with_inner p x) S period k tank seconds)
      (λ k (tank : Tank). carried_after (with_inner p y) S period k tank seconds)
      (λ k tank. by_walls (λ walls inflow. carried_level S walls tank (stock_at_start period k) inflow seconds) k tank
      period.assignment.flows) 0 p.tanks.list)

  same_rule_holds : (S time : ℕ) (readings : Readings) (a b : Rule) → IsLikeRule a b
      → rule_holds (with_inner p x) S time readings a ≡ rule_holds (with_inner p y) S time readings b
  same_rule_holds S time readings a b like =
      same_all (list_any (clause_holds (with_inner p x) S time readings))
      (list_any (clause_holds (with_inner p y) S time readings))
      (same_any (clause_holds (with_inner p x) S time readings) (clause_holds (with_inner p y) S time readings)
      (same_clause p x y alike S time readings)) (groups_of a)
      ∙ ap (λ (groups : List (List Clause)). list_all (list_any (clause_holds (with_inner p y) S time readings)) groups)
      (same_groups a b like)

  pub same_values : (S : ℕ) (period : Period) (instant : ℕ)
      → values_at (with_inner p x) S period instant ≡ values_at (with_inner p y) S period instant
  same_values S period instant =
      ap (λ (readings : Readings). rule_values (with_inner p x) S instant readings)
      (same_readings S period (instant - period.time))
      ∙ zip_map IsLikeRule
      (rule_holds (with_inner p x) S instant (readings_after (with_inner p y) S period (instant - period.time)))
      (rule_holds (with_inner p y) S instant (readings_after (with_inner p y) S period (instant - period.time)))
      (same_rule_holds S instant (readings_after (with_inner p y) S period (instant - period.time))) x.rules.list
      y.rules.list alike.rules

  same_changes_then : (S : ℕ) (period : Period) (instant : ℕ)
      → rule_changes (with_inner p x) (values_at (with_inner p x) S period instant) period.links
      ≡ rule_changes (with_inner p y) (values_at (with_inner p y) S period instant) period.links
  same_changes_then S period instant =
      ap (λ (values : List Bool). rule_changes (with_inner p x) values period.links) (same_values S period instant)
      ∙ same_changes p x y alike (values_at (with_inner p y) S period instant) period.links

  pub same_acted_then : (S : ℕ) (period : Period) (instant : ℕ)
      → acted (with_inner p x) (values_at (with_inner p x) S period instant) period.links
      ≡ acted (with_inner p y) (values_at (with_inner p y) S period instant) period.links
  same_acted_then S period instant =
      ap (λ (values : List Bool). acted (with_inner p x) values period.links) (same_values S period instant)
      ∙ same_acted p x y alike (values_at (with_inner p y) S period instant) period.links

  rules_on : (S : ℕ) (period : Period) (instant : ℕ) → EndsByRules (with_inner p x) S period instant
      → EndsByRules (with_inner p y) S period instant
  rules_on S period instant is = record {
    later = is.later;
    is_tried = is.is_tried;
    changes = subst (λ (cs : List Change). cs ≢ []) (same_changes_then S period instant) is.changes;
  }

  -- ---- the length

  may_end_on : (S : ℕ) (period : Period) (e : ℕ) → MayEnd (with_inner p x) S period e
      → MayEnd (with_inner p y) S period e
  may_end_on S period e (by_clock is) = by_clock (clock_on p x y period.time e is)
  may_end_on S period e (by_level seconds some is ends) =
      by_level seconds some is (level_on S period seconds ends)
  may_end_on S period e (by_rules is) = by_rules (rules_on S period e is)

pub length_on : (p : Project) (x y : Inner) → AreAlike x y → (S : ℕ) (period : Period)
    → HasItsLength (with_inner p x) S period → HasItsLength (with_inner p y) S period
length_on p x y alike S period (at_end last none) = at_end last none
length_on p x y alike S period (before_end not_last least) = before_end not_last
    (least_on (MayEnd (with_inner p x) S period) (MayEnd (with_inner p y) S period) (may_end_on p x y alike S period)
    (may_end_on p y x (turned x y alike) S period) (period.time + period.length) least)
