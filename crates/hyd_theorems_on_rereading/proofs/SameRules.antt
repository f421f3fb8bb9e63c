-- What clauses and rules say of readings, and what rules change, are the same of alike parts.
use Rattle.std.proofs.Common.{◌≡◌, ℕ, suc, Bool, true, false, List, [], ◌∷◌, ◌++◌, map, length, refl}
use Rattle.std.proofs.Common.{ap, ap₂, ◌∙◌}
use Rattle.std.specs.Option.{option_and_then, option_map_or}
use Rattle.std.specs.List.{AllZip}
use Rattle.hyd_num.specs.Rational.{Rational}
use Rattle.hyd_spec.specs.ProgramTypes.{Project, Rule, Clause, RuleClause, What, Head, Pressure, Level, Flow, Setting}
use Rattle.hyd_spec.specs.ProgramTypes.{Status}
use Rattle.hyd_spec.specs.ProgramTypes.{Time, Clock, Relation, Value, Action, LinkState}
use Rattle.hyd_spec.specs.declared.Change.{Change}
use Rattle.hyd_spec.specs.Lists.{map_from, present}
use Rattle.hyd_spec.specs.Rules.{Readings, measured, amount, compares, holds_on, clause_holds, parts_of, groups_in}
use Rattle.hyd_spec.specs.Rules.{groups_of, Offer, offers_of, offers_from, best_offer, change_by, rule_changes, acted}
use Rattle.hyd_spec_certificates.specs.ThreeValuedLogic.{at_both_ends, all_hold, some_holds}
use Rattle.hyd_spec_certificates.specs.Decided.{clause_between, rule_between}
use Rattle.hyd_theorems_on_rereading.proofs.PartsWithSpares.{Inner, with_inner, IsLikeRule, AreAlike}
use Rattle.hyd_theorems_on_rereading.proofs.SameQuantities.{same_map, same_count, same_elevation}

-- ---- what like rules offer

pub same_groups : (a b : Rule) → IsLikeRule a b → groups_of a ≡ groups_of b
same_groups a b like = ap (λ (cs : List RuleClause). groups_in (parts_of cs)) like.clauses

same_offers_of : (k : ℕ) (a b : Rule) (value : Bool) → IsLikeRule a b → offers_of k a value ≡ offers_of k b value
same_offers_of k a b true like =
    ap₂ (λ priority (actions : List Action). map (λ (action : Action). record {
      rule = k;
      priority = priority;
      link = action.link;
      to = action.to;
    }) actions) like.priority like.yes
same_offers_of k a b false like =
    ap₂ (λ priority (actions : List Action). map (λ (action : Action). record {
      rule = k;
      priority = priority;
      link = action.link;
      to = action.to;
    }) actions) like.priority like.no

same_offers : (k : ℕ) (xs ys : List Rule) (values : List Bool) → AllZip IsLikeRule xs ys
    → offers_from k xs values ≡ offers_from k ys values
same_offers k [] [] values all = refl
same_offers k [] (y ∷ ys) values all = absurd all
same_offers k (x ∷ xs) [] values all = absurd all
same_offers k (x ∷ xs) (y ∷ ys) [] all = refl
same_offers k (x ∷ xs) (y ∷ ys) (value ∷ values) all =
    ap₂ (λ (os more : List Offer). os ++ more) (same_offers_of k x y value all.0)
    (same_offers (suc k) xs ys values all.1)

module _ (p : Project) (x y : Inner) (alike : AreAlike x y) where
  -- ---- clauses

  same_measured : (S : ℕ) (readings : Readings) (what : What)
      → measured (with_inner p x) S readings what ≡ measured (with_inner p y) S readings what
  same_measured S readings (Head node) =
      let count : length x.junctions.list ≡ length y.junctions.list = same_count p x y alike in rw count
  same_measured S readings (Pressure node) =
      let count : length x.junctions.list ≡ length y.junctions.list = same_count p x y alike in
      rw (count, same_elevation p x y alike node)
  same_measured S readings (Level tank) = refl
  same_measured S readings (Flow link) = refl
  same_measured S readings (Setting link) = refl
  same_measured S readings (Status link) = refl
  same_measured S readings Time = refl
  same_measured S readings Clock = refl

  same_holds : (S time : ℕ) (readings : Readings) (what : What) (relation : Relation) (value : Value)
      → holds_on (with_inner p x) S time readings what relation value
      ≡ holds_on (with_inner p y) S time readings what relation value
  same_holds S time readings (Head node) relation value =
      ap (λ (m : Rational). compares relation m (amount (with_inner p x) (Head node) value))
      (same_measured S readings (Head node))
  same_holds S time readings (Pressure node) relation value =
      ap (λ (m : Rational). compares relation m (amount (with_inner p x) (Pressure node) value))
      (same_measured S readings (Pressure node))
  same_holds S time readings (Level tank) relation value = refl
  same_holds S time readings (Flow link) relation value = refl
  same_holds S time readings (Setting link) relation value = refl
  same_holds S time readings (Status link) relation value = refl
  same_holds S time readings Time relation value = refl
  same_holds S time readings Clock relation value = refl

  pub same_clause : (S time : ℕ) (readings : Readings) (clause : Clause)
      → clause_holds (with_inner p x) S time readings clause ≡ clause_holds (with_inner p y) S time readings clause
  same_clause S time readings clause = same_holds S time readings clause.what clause.relation clause.value

  -- ---- rules

  pub same_between : (time : ℕ) (below above : Readings) (clause : Clause)
      → clause_between (with_inner p x) time below above clause
      ≡ clause_between (with_inner p y) time below above clause
  same_between time below above clause =
      ap₂ at_both_ends (same_clause 1 time below clause) (same_clause 1 time above clause)

  same_group : (time : ℕ) (below above : Readings) (group : List Clause)
      → some_holds (map (clause_between (with_inner p x) time below above) group)
      ≡ some_holds (map (clause_between (with_inner p y) time below above) group)
  same_group time below above group =
      ap some_holds (same_map (clause_between (with_inner p x) time below above)
      (clause_between (with_inner p y) time below above) (same_between time below above) group)

  pub same_rule : (time : ℕ) (below above : Readings) (a b : Rule) → IsLikeRule a b
      → rule_between (with_inner p x) time below above a ≡ rule_between (with_inner p y) time below above b
  same_rule time below above a b like =
      ap all_hold (same_map (λ group. some_holds (map (clause_between (with_inner p x) time below above) group))
      (λ group. some_holds (map (clause_between (with_inner p y) time below above) group))
      (same_group time below above) (groups_of a)
      ∙ ap (λ groups. map (λ group. some_holds (map (clause_between (with_inner p y) time below above) group)) groups)
      (same_groups a b like))

  -- ---- changes

  same_all_offers : (values : List Bool)
      → offers_from 0 x.rules.list values ≡ offers_from 0 y.rules.list values
  same_all_offers values = same_offers 0 x.rules.list y.rules.list values alike.rules

  pub same_changes : (values : List Bool) (links : List LinkState)
      → rule_changes (with_inner p x) values links ≡ rule_changes (with_inner p y) values links
  same_changes values links =
      ap (λ (os : List Offer). present (map_from (λ link state. option_and_then (change_by state)
      (best_offer link os)) 0 links)) (same_all_offers values)

  pub same_acted : (values : List Bool) (links : List LinkState)
      → acted (with_inner p x) values links ≡ acted (with_inner p y) values links
  same_acted values links =
      ap (λ (os : List Offer). map_from (λ link (state : LinkState). option_map_or (λ (change : Change). change.to)
      (option_and_then (change_by state) (best_offer link os)) state) 0 links) (same_all_offers values)
