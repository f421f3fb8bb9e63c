-- What rules don't look at: the places of tanks among the heads.
use Rattle.std.proofs.Common.{◌≡◌, inl, inr, ℕ, zero, suc, ◌+◌, ◌*◌, ◌<◌, ◌≤◌, ℤ, pos, ◌-ℤ◌, ◌*ℤ◌, ◌≤ℤ◌, Bool, not}
use Rattle.std.proofs.Common.{List, [], ◌∷◌, ◌++◌, length, map, Some, None, nat_lt, if◌then◌else◌, slice_index_or}
use Rattle.std.proofs.Common.{position, refl, ap, sym, subst, ◌∙◌, arith}
use Rattle.std.specs.List.{position_or_len}
use Rattle.std.proofs.lemmas.Bool.{cases_Bool}
use Rattle.hyd_num.specs.Rational.{Rational, whole, total_of, floor, ceiling}
use Rattle.hyd_spec.specs.ProgramTypes.{Project, Rule, RuleClause, Clause, What, Head, Pressure, Level, Flow, Setting}
use Rattle.hyd_spec.specs.ProgramTypes.{Status, Time, Clock, Relation, Value, LinkState}
use Rattle.hyd_spec.specs.Scale.{at_scale}
use Rattle.hyd_spec.specs.NodeNumbers.{nodes_before_tanks, is_tank, tank_number}
use Rattle.hyd_spec.specs.Assignment.{head_at}
use Rattle.hyd_spec.specs.Rules.{Readings, level_of, bottom_of, elevation_of, in_ticks, measured, amount, compares}
use Rattle.hyd_spec.specs.Rules.{status_holds, state_word, state_of_link, setting_of, holds_on, clause_holds, parts_of}
use Rattle.hyd_spec.specs.Rules.{groups_in}
use Rattle.hyd_spec_certificates.specs.declared.Truth.{Truth}
use Rattle.hyd_spec_certificates.specs.declared.Truth.TheVariants.{True, False, Open}
use Rattle.hyd_spec_certificates.specs.declared.Verdict.{Verdict}
use Rattle.hyd_spec_certificates.specs.ThreeValuedLogic.{is_unknown, at_both_ends, either, both, some_holds}
use Rattle.hyd_spec_certificates.specs.ThreeValuedLogic.{all_hold}
use Rattle.hyd_spec_certificates.specs.Decided.{clause_between, rule_between, IsOpenClause, IsTruthBetween}
use Rattle.hyd_theorems_on_histories.specs.Agreement.{IsValueBetween, AreBetween}
use Rattle.hyd_controls_and_rules.specs.AlikeButTankHeads.{AreAlike}
use Rattle.hyd_lemmas.proofs.BooleanTests.{nat-le-no}

-- ---- what clauses measure

same_head : (project : Project) (a b : Readings) (node : ℕ) → AreAlike project a b
    → measured project 1 a (Head node) ≡ measured project 1 b (Head node)
same_head project a b node alike =
    let tank = tank_number project node in
    let up : Readings → Rational = λ x. total_of (level_of x tank) (whole (at_scale 1 (bottom_of project tank))) in
    let own : Readings → Rational = λ x. whole (slice_index_or x.heads node (pos 0)) in
    elim (cases_Bool (is_tank project node)) [
      | inl is ↦
          ap (λ (t : Bool). in_ticks 1 (if t then up a else own a)) is
          ∙ ap (λ (ls : List Rational). in_ticks 1 (total_of (slice_index_or ls tank (whole (pos 0))) (whole
          (at_scale 1 (bottom_of project tank))))) alike.levels
          ∙ sym (ap (λ (t : Bool). in_ticks 1 (if t then up b else own b)) is)
      | inr is ↦
          ap (λ (t : Bool). in_ticks 1 (if t then up a else own a)) is
          ∙ ap (λ (z : ℤ). in_ticks 1 (whole z)) (alike.heads node (nat-le-no (nodes_before_tanks project) node is))
          ∙ sym (ap (λ (t : Bool). in_ticks 1 (if t then up b else own b)) is)
    ]

same_pressure : (project : Project) (a b : Readings) (node : ℕ) → AreAlike project a b
    → measured project 1 a (Pressure node) ≡ measured project 1 b (Pressure node)
same_pressure project a b node alike =
    let tank = tank_number project node in
    let up : Readings → Rational = λ x. level_of x tank in
    let own : Readings → Rational = λ x. whole (slice_index_or x.heads node (pos 0) -ℤ at_scale 1
    (elevation_of project node)) in
    elim (cases_Bool (is_tank project node)) [
      | inl is ↦
          ap (λ (t : Bool). in_ticks 1 (if t then up a else own a)) is
          ∙ ap (λ (ls : List Rational). in_ticks 1 (slice_index_or ls tank (whole (pos 0)))) alike.levels
          ∙ sym (ap (λ (t : Bool). in_ticks 1 (if t then up b else own b)) is)
      | inr is ↦
          ap (λ (t : Bool). in_ticks 1 (if t then up a else own a)) is
          ∙ ap (λ (z : ℤ). in_ticks 1 (whole (z -ℤ at_scale 1 (elevation_of project node)))) (alike.heads node
          (nat-le-no (nodes_before_tanks project) node is))
          ∙ sym (ap (λ (t : Bool). in_ticks 1 (if t then up b else own b)) is)
    ]

same_measure : (project : Project) (a b : Readings) (what : What) → AreAlike project a b
    → measured project 1 a what ≡ measured project 1 b what
same_measure project a b (Head node) alike = same_head project a b node alike
same_measure project a b (Pressure node) alike = same_pressure project a b node alike
same_measure project a b (Level tank) alike = ap (λ (ls : List Rational). in_ticks 1 (slice_index_or ls tank
    (whole (pos 0)))) alike.levels
same_measure project a b (Flow link) alike = ap (λ (fs : List ℕ). in_ticks 1 (whole (pos
    (slice_index_or fs link 0)))) alike.flows
same_measure project a b (Setting link) alike = ap (λ (ls : List LinkState). whole (setting_of
    (state_of_link ls link))) alike.links
same_measure project a b (Status link) alike = refl
same_measure project a b Time alike = refl
same_measure project a b Clock alike = refl

-- ---- clauses

same_on : (project : Project) (time : ℕ) (a b : Readings) (what : What) (relation : Relation) (value : Value)
    → AreAlike project a b
    → holds_on project 1 time a what relation value ≡ holds_on project 1 time b what relation value
same_on project time a b (Head node) relation value alike = ap (λ x. compares relation x (amount project
    (Head node) value)) (same_measure project a b (Head node) alike)
same_on project time a b (Pressure node) relation value alike = ap (λ x. compares relation x (amount project
    (Pressure node) value)) (same_measure project a b (Pressure node) alike)
same_on project time a b (Level tank) relation value alike = ap (λ x. compares relation x (amount project
    (Level tank) value)) (same_measure project a b (Level tank) alike)
same_on project time a b (Flow link) relation value alike = ap (λ x. compares relation x (amount project
    (Flow link) value)) (same_measure project a b (Flow link) alike)
same_on project time a b (Setting link) relation value alike = ap (λ x. compares relation x (amount project
    (Setting link) value)) (same_measure project a b (Setting link) alike)
same_on project time a b (Status link) relation value alike = ap (λ
    (ls : List LinkState). status_holds relation (state_word (state_of_link ls link)) value) alike.links
same_on project time a b Time relation value alike = refl
same_on project time a b Clock relation value alike = refl

same_verdict : (project : Project) (time : ℕ) (below above low high : Readings) (clause : Clause)
    → AreAlike project below low → AreAlike project above high
    → clause_between project time below above clause ≡ clause_between project time low high clause
same_verdict project time below above low high clause alike alike_above =
    ap (λ (b : Bool). at_both_ends b (clause_holds project 1 time above clause))
    (same_on project time below low clause.what clause.relation clause.value alike)
    ∙ ap (λ (b : Bool). at_both_ends (clause_holds project 1 time low clause) b)
    (same_on project time above high clause.what clause.relation clause.value alike_above)

-- ---- rules

same_group : (t u : Clause → Verdict) → ((clause : Clause) → t clause ≡ u clause) → (group : List Clause)
    → some_holds (map t group) ≡ some_holds (map u group)
same_group t u same [] = refl
same_group t u same (clause ∷ group) =
    ap (λ v. either v (some_holds (map t group))) (same clause)
    ∙ ap (λ v. either (u clause) v) (same_group t u same group)

same_groups : (t u : Clause → Verdict) → ((clause : Clause) → t clause ≡ u clause) → (groups : List (List Clause))
    → all_hold (map (λ group. some_holds (map t group)) groups) ≡ all_hold (map (λ group. some_holds
    (map u group)) groups)
same_groups t u same [] = refl
same_groups t u same (group ∷ groups) =
    ap (λ v. both v (all_hold (map (λ group. some_holds (map t group)) groups))) (same_group t u same group)
    ∙ ap (λ v. both (some_holds (map u group)) v) (same_groups t u same groups)

same_place : (t u : RuleClause → Bool) → ((row : RuleClause) → t row ≡ u row) → (rows : List RuleClause)
    → position_or_len t rows ≡ position_or_len u rows
same_place t u same [] = refl
same_place t u same (row ∷ rows) =
    ap (λ (b : Bool). if not b then 1 + position_or_len t rows else 0) (same row)
    ∙ ap (λ (n : ℕ). if not (u row) then 1 + n else 0) (same_place t u same rows)

same_position : (t u : RuleClause → Bool) → ((row : RuleClause) → t row ≡ u row) → (rows : List RuleClause)
    → position t rows ≡ position u rows
same_position t u same rows = ap (λ (n : ℕ). if nat_lt n (length rows) then Some n else None)
    (same_place t u same rows)

same_rule : (project : Project) (time : ℕ) (below above low high : Readings) (rule : Rule)
    → AreAlike project below low → AreAlike project above high
    → rule_between project time below above rule ≡ rule_between project time low high rule
same_rule project time below above low high rule alike alike_above =
    same_groups (clause_between project time below above) (clause_between project time low high)
    (λ clause. same_verdict project time below above low high clause alike alike_above) (groups_in
    (parts_of rule.clauses.list))

same_open : (project : Project) (time : ℕ) (below above low high : Readings) (rule : Rule) (clause : ℕ)
    (lo hi : ℤ) → AreAlike project below low → AreAlike project above high
    → IsOpenClause project time below above rule clause lo hi → IsOpenClause project time low high rule clause lo hi
same_open project time below above low high rule clause lo hi alike alike_above is = record {
  first_clause = sym (same_position (λ row. is_unknown (clause_between project time below above row.clause))
      (λ row. is_unknown (clause_between project time low high row.clause))
      (λ row. ap is_unknown (same_verdict project time below above low high row.clause alike alike_above))
      rule.clauses.list) ∙ is.first_clause;
  each = is.each;
  is_clause = is.is_clause;
  lo_is = is.lo_is ∙ ap floor (same_measure project below low is.each.clause.what alike);
  hi_is = is.hi_is ∙ ap ceiling (same_measure project above high is.each.clause.what alike_above);
}

pub same_truth : (project : Project) (time : ℕ) (below above low high : Readings) (rule : Rule) (truth : Truth)
    → AreAlike project below low → AreAlike project above high
    → IsTruthBetween project time below above rule truth → IsTruthBetween project time low high rule truth
same_truth project time below above low high rule True alike alike_above is = sym
    (same_rule project time below above low high rule alike alike_above) ∙ is
same_truth project time below above low high rule False alike alike_above is = sym
    (same_rule project time below above low high rule alike alike_above) ∙ is
same_truth project time below above low high rule (Open clause lo hi) alike alike_above is = (
  sym (same_rule project time below above low high rule alike alike_above) ∙ is.0,
  same_open project time below above low high rule clause lo hi alike alike_above is.1,
)

-- ---- heads behind

pub heads_behind : (heads more : List ℤ) (node : ℕ) → node < length heads
    → slice_index_or heads node (pos 0) ≡ slice_index_or (heads ++ more) node (pos 0)
heads_behind [] more node h = absurd (omega arith)
heads_behind (z ∷ heads) more zero h = refl
heads_behind (z ∷ heads) more (suc node) h = heads_behind heads more node (omega arith)

-- What lies between two readings lies between two that are like them.
pub still_between : (project : Project) (S : ℕ) (below x above other_below other_above : Readings)
    → AreAlike project below other_below → AreAlike project above other_above
    → AreBetween project S below x above → AreBetween project S other_below x other_above
still_between project S below x above other_below other_above low high b = record {
  heads = λ m before.
      let lies = b.heads m before in
      let l = lies.low in
      let h = lies.high in
      record {
        low = subst (λ (z : ℤ). (pos S *ℤ z) ≤ℤ head_at x.heads m) (low.heads m before) l;
        high = subst (λ (z : ℤ). head_at x.heads m ≤ℤ (pos S *ℤ z)) (high.heads m before) h;
      };
  levels = λ k.
      subst (λ (ls : List Rational). IsValueBetween S (slice_index_or ls k (whole (pos 0))) (level_of x k) (level_of
      other_above k)) low.levels
      (subst (λ (ls : List Rational). IsValueBetween S (level_of below k) (level_of x k) (slice_index_or ls k (whole
      (pos 0)))) high.levels (b.levels k));
  flows_below = λ l. subst (λ (fs : List ℕ). S * slice_index_or fs l 0 ≤ slice_index_or x.flows l 0) low.flows
      (b.flows_below l);
  flows_above = λ l. subst (λ (fs : List ℕ). slice_index_or x.flows l 0 ≤ S * slice_index_or fs l 0) high.flows
      (b.flows_above l);
  links_below = sym low.links ∙ b.links_below;
  links_above = sym high.links ∙ b.links_above;
}
