-- What rules an outer record decides over lengths, an inner one decides in the same way, and so the way in which a
-- period ends.
use Rattle.std.proofs.Common.{◌≡◌, ◌≢◌, ℕ, zero, suc, ◌+◌, ◌-◌, ◌*◌, ◌≤◌, ℤ, pos, negsuc, neg_ℤ, ◌≤ℤ◌, refl, sym}
use Rattle.std.proofs.Common.{ap}
use Rattle.std.proofs.Common.{subst, ◌∙◌, arith, Bool, true, false, List, [], ◌∷◌, map, ◌⊎◌, inl, inr}
use Rattle.std.specs.Prelude.{Some, slice_get, slice_index_or, unsigned_abs, int_le, if◌then◌else◌}
use Rattle.std.specs.List.{AllByRecursion, list_any}
use Rattle.std.specs.Int.{int_max, int_min}
use Rattle.std.proofs.lemmas.Int.{ints}
use Rattle.std.proofs.lemmas.Bool.{cases_Bool, cond_both}
use Rattle.hyd_num.proofs.Integers.{one_times}
use Rattle.hyd_num.specs.Rational.{whole}
use Rattle.hyd_net.specs.ControlsAndRules.{Compares, IsRule}
use Rattle.hyd_net.specs.Sound.{IsSound}
use Rattle.hyd_spec.specs.ProgramTypes.{Project, Tank, Rule, RuleClause, Clause}
use Rattle.hyd_spec.specs.Lists.{map_from}
use Rattle.hyd_spec.specs.Tank.{walls_of}
use Rattle.hyd_spec.specs.Rules.{groups_of, rule_changes, acted}
use Rattle.hyd_spec_certificates.specs.Interval.{Interval}
use Rattle.hyd_spec_certificates.specs.Stocks.{carried_levels}
use Rattle.hyd_spec_certificates.specs.declared.Verdict.{Verdict}
use Rattle.hyd_spec_certificates.specs.ThreeValuedLogic.{is_yes, is_unknown}
use Rattle.hyd_spec_certificates.specs.PeriodNetwork.{Grid, GridLink}
use Rattle.hyd_spec_certificates.specs.FlowIntervals.{flow_box}
use Rattle.hyd_spec_certificates.specs.RecordAndStanding.{Record}
use Rattle.hyd_spec_certificates.specs.Decided.{links_at, stocks_of_tank, inflow_of_tank, least_magnitude}
use Rattle.hyd_spec_certificates.specs.Decided.{greatest_magnitude, heads_below, heads_above, clause_between}
use Rattle.hyd_spec_certificates.specs.Decided.{SomeMayReach, SomeMustReach}
use Rattle.hyd_spec_open_ends.specs.OpenStandings.{OpenStanding}
use Rattle.hyd_spec_open_ends.specs.StocksOverLengths.{hull, carried_levels_over}
use Rattle.hyd_spec_open_ends.specs.RulesOverLengths.{readings_below_over, readings_above_over, open_rule_truth}
use Rattle.hyd_spec_open_ends.specs.RulesOverLengths.{open_rule_truths, open_changes, RulesMatterOver, SomeRuleIsOpen}
use Rattle.hyd_spec_open_ends.specs.RulesOverLengths.{NoRuleMattersUpTo, acted_over}
use Rattle.hyd_spec_open_ends.specs.OpenEnds.{AreSeconds, Way, ByRules, ByInstant, ByWatched, EndsIn, late_at_end}
use Rattle.hyd_spec_open_ends.specs.OpenEnds.{by_rules, by_instant, by_watched, shortest_length, longest_length}
use Rattle.hyd_theorems_on_definitions.specs.LyingInIntervals.{LiesIn, IsInside, AreInside}
use Rattle.hyd_lemmas.proofs.Integers.{max_is, min_left, min_right, max_left, max_right, min_is}
use Rattle.hyd_lemmas.proofs.BooleanTests.{or-false, le-no}
use Rattle.hyd_theorems_on_definitions.proofs.StocksInIntervals.{carried_inside, carried_ordered}
use Rattle.hyd_theorems_on_definitions.proofs.DecidedByEnds.{may_nests, must_nests}
use Rattle.hyd_theorems_on_histories.specs.Agreement.{IsValueBetween, AreBetween}
use Rattle.hyd_theorems_on_histories.proofs.Clauses.{clause_tells, whole-between}
use Rattle.hyd_theorems_on_histories.proofs.RuleReadingsBetweenEnds.{least-within, greatest-beyond}
use Rattle.hyd_theorems_on_histories.proofs.TruthsAndRuleValues.{each_of, in-groups}
use Rattle.hyd_theorems_on_nesting.specs.Nesting.{IsOrdered, AreNested}
use Rattle.hyd_theorems_on_nesting.proofs.NestedBoxes.{above_within, below_within, inner_ordered, flow_inside}
use Rattle.hyd_theorems_on_nesting.proofs.NestedBoxes.{flow_ordered, inflow_inside, inflow_ordered}
use Rattle.hyd_theorems_on_nesting.proofs.InnerRecordsDecide.{lies-one, widened-lies, Refines, ends-refine}
use Rattle.hyd_theorems_on_nesting.proofs.InnerRecordsDecide.{groups-refine, known-same}
use Rattle.hyd_theorems_on_open_ends.specs.WaysInside.{IsWayInside}

-- ---- hulls

hull-inside : (a b c d : Interval) → IsInside a c → IsInside b d → IsInside (hull a b) (hull c d)
hull-inside a b c d p q = record {
  low = min_is (λ z. int_min c.lo d.lo ≤ℤ z) a.lo b.lo
      (λ e. let m = min_left c.lo d.lo in let l = p.low in omega (arith, ints, m, l))
      (λ e. let m = min_right c.lo d.lo in let l = q.low in omega (arith, ints, m, l));
  high = max_is (λ z. z ≤ℤ int_max c.hi d.hi) a.hi b.hi
      (λ e. let m = max_left c.hi d.hi in let h = p.high in omega (arith, ints, m, h))
      (λ e. let m = max_right c.hi d.hi in let h = q.high in omega (arith, ints, m, h));
}

-- a hull has a number where one of the two has
hull-ordered : (a b : Interval) → IsOrdered b → IsOrdered (hull a b)
hull-ordered a b order =
    let m = min_right a.lo b.lo in let n = max_right a.hi b.hi in omega (arith, ints, m, n, order)

-- ---- magnitudes

record IsPoint (box : Interval) (n : ℕ) : Type 0 where
  point : ℤ
  lies : LiesIn 1 box point
  is : unsigned_abs point ≡ n

one-lies : (box : Interval) (q : ℤ) → LiesIn 1 box q → (box.lo ≤ℤ q) × (q ≤ℤ box.hi)
one-lies box q lies = let l = lies.low in let h = lies.high in
    (omega (arith, ints, l, one_times box.lo), omega (arith, ints, h, one_times box.hi))

least-point : (box : Interval) → IsOrdered box → IsPoint box (least_magnitude box)
least-point box order =
    cond_both (int_le (pos 0) box.lo) (unsigned_abs box.lo) (if int_le box.hi (pos 0) then unsigned_abs box.hi else 0)
    (IsPoint box)
    (λ e. record { point = box.lo; lies = lies-one box box.lo (omega (arith, ints)) order; is = refl })
    (λ e. cond_both (int_le box.hi (pos 0)) (unsigned_abs box.hi) 0 (IsPoint box)
    (λ f. record { point = box.hi; lies = lies-one box box.hi order (omega (arith, ints)); is = refl })
    (λ f. let a = le-no (pos 0) box.lo e in let b = le-no box.hi (pos 0) f in
    record { point = pos 0; lies = lies-one box (pos 0) (omega (arith, ints, a)) (omega (arith, ints, b)); is = refl }))

abs-neg : (z : ℤ) → unsigned_abs z ≡ unsigned_abs (neg_ℤ z)
abs-neg (pos zero) = refl
abs-neg (pos (suc n)) = refl
abs-neg (negsuc n) = refl

greatest-point : (box : Interval) → IsOrdered box → IsPoint box (greatest_magnitude box)
greatest-point box order = max_is (λ m. IsPoint box (unsigned_abs m)) box.hi (neg_ℤ box.lo)
    (λ e. record { point = box.hi; lies = lies-one box box.hi order (omega (arith, ints)); is = refl })
    (λ e. record { point = box.lo; lies = lies-one box box.lo (omega (arith, ints)) order; is = abs-neg box.lo })

record AreMagnitudes (outer : Interval) (n : ℕ) : Type 0 where
  below : 1 * least_magnitude outer ≤ n
  above : n ≤ 1 * greatest_magnitude outer

magnitudes : (outer inner : Interval) (n : ℕ) → IsInside inner outer → IsPoint inner n → AreMagnitudes outer n
magnitudes outer inner n inside p =
    let lies = widened-lies inner outer p.point inside p.lies in
    let a = least-within 1 outer p.point lies in
    let b = greatest-beyond 1 outer p.point lies in
    let e = p.is in
    record { below = omega (arith, ints, a, e); above = omega (arith, ints, b, e) }

mapped-magnitudes : (outer inner : GridLink → Interval) (f : Interval → ℕ) (links : List GridLink)
    → ((l : ℕ) (link : GridLink) → slice_get links l ≡ Some link → AreMagnitudes (outer link) (f (inner link)))
    → (l : ℕ)
    → (1 * slice_index_or (map least_magnitude (map outer links)) l 0 ≤ slice_index_or (map f (map inner links))
    l 0)
    × (slice_index_or (map f (map inner links)) l 0 ≤ 1 * slice_index_or (map greatest_magnitude (map outer links)) l 0)
mapped-magnitudes outer inner f [] each l = (omega arith, omega arith)
mapped-magnitudes outer inner f (link ∷ links) each zero = let a = each 0 link refl in (a.below, a.above)
mapped-magnitudes outer inner f (link ∷ links) each (suc l) = mapped-magnitudes outer inner f links
    (λ m other at. each (suc m) other at) l

-- ---- levels

mapped-levels : (outer inner : ℕ → Tank → Interval) (f : Interval → ℤ) (from : ℕ) (tanks : List Tank)
    → ((k : ℕ) (tank : Tank) → slice_get tanks k ≡ Some tank
    → LiesIn 1 (outer (from + k) tank) (f (inner (from + k) tank)))
    → (k : ℕ)
    → IsValueBetween 1 (slice_index_or (map (λ (level : Interval). whole level.lo) (map_from outer from tanks)) k
    (whole (pos 0)))
    (slice_index_or (map (λ (level : Interval). whole (f level)) (map_from inner from tanks)) k (whole (pos 0)))
    (slice_index_or (map (λ (level : Interval). whole level.hi) (map_from outer from tanks)) k (whole (pos 0)))
mapped-levels outer inner f from [] each k = record {
  some_lo = omega arith;
  some = omega arith;
  some_hi =
      omega arith;
  low = omega (arith, ints);
  high = omega (arith, ints);
}
mapped-levels outer inner f from (tank ∷ tanks) each zero =
    let n : from + 0 ≡ from = omega arith in
    let lies = subst (λ m. LiesIn 1 (outer m tank) (f (inner m tank))) n (each 0 tank refl) in
    whole-between 1 (outer from tank).lo (f (inner from tank)) (outer from tank).hi lies.low lies.high
mapped-levels outer inner f from (tank ∷ tanks) each (suc k) =
    mapped-levels outer inner f (suc from) tanks (λ m other at. let n : from + suc m ≡ suc from + m = omega arith in
    subst (λ p. LiesIn 1 (outer p other) (f (inner p other))) n (each (suc m) other at)) k

-- ---- truths

all-known-same : (f g : Rule → Verdict) (rules : List Rule) → AllByRecursion (λ (r : Rule). Refines (f r) (g r)) rules
    → list_any is_unknown (map f rules) ≡ false → map f rules ≡ map g rules
all-known-same f g [] all e = refl
all-known-same f g (r ∷ rules) all e =
    let parts = or-false (is_unknown (f r)) (list_any is_unknown (map f rules)) e in
    let first = known-same (f r) (g r) parts.0 all.0 in
    let rest = all-known-same f g rules all.1 parts.1 in
    λ i. first i ∷ rest i

all-rules : (P Q : Rule → Type 0) (rules : List Rule) → ((r : Rule) → P r → Q r) → AllByRecursion P rules
    → AllByRecursion Q rules
all-rules P Q [] f all = tt
all-rules P Q (r ∷ rules) f all = (f r all.0, all-rules P Q rules f all.1)

module _ (project : Project) (sound : IsSound project) (standing : OpenStanding) (grid : Grid) (outer inner : Record)
    (nested : AreNested project standing.known grid outer inner) where
  abbrev out-flow : GridLink → Interval
  out-flow link = flow_box link (heads_below grid outer) (heads_above grid outer)

  abbrev in-flow : GridLink → Interval
  in-flow link = flow_box link (heads_below grid inner) (heads_above grid inner)

  same-stocks : (k : ℕ) → AreInside (stocks_of_tank standing.known k) (stocks_of_tank standing.known k)
  same-stocks k = record {
    level = record { low = omega (arith, ints); high = omega (arith, ints) };
    volume = record { low = omega (arith, ints); high = omega (arith, ints) };
  }

  module _ (seconds : ℕ) where
    abbrev out-level : ℕ → Tank → Interval
    out-level k tank = carried_levels_over (walls_of project tank) tank (stocks_of_tank standing.known k)
        (inflow_of_tank project grid outer k) (seconds - standing.late) seconds

    abbrev in-level : ℕ → Tank → Interval
    in-level k tank = carried_levels_over (walls_of project tank) tank (stocks_of_tank standing.known k)
        (inflow_of_tank project grid inner k) (seconds - standing.late) seconds

    carried-within : (k : ℕ) (tank : Tank) → slice_get project.tanks.list k ≡ Some tank
        → IsInside (in-level k tank) (out-level k tank)
    carried-within k tank at = hull-inside _ _ _ _ (within (seconds - standing.late)) (within seconds)
      where
        within : (s : ℕ) → IsInside (carried_levels (walls_of project tank) tank (stocks_of_tank standing.known k)
            (inflow_of_tank project grid inner k) s)
            (carried_levels (walls_of project tank) tank (stocks_of_tank standing.known k)
            (inflow_of_tank project grid outer k) s)
        within s = carried_inside (walls_of project tank) tank (nested.vessels k tank at)
            (stocks_of_tank standing.known k) (stocks_of_tank standing.known k) (inflow_of_tank project grid inner k)
            (inflow_of_tank project grid outer k) s (same-stocks k)
            (inflow_inside project standing.known grid outer inner nested k tank at)

    carried-there : (k : ℕ) (tank : Tank) → slice_get project.tanks.list k ≡ Some tank → IsOrdered (in-level k tank)
    carried-there k tank at =
        hull-ordered (carried_levels (walls_of project tank) tank (stocks_of_tank standing.known k)
        (inflow_of_tank project grid inner k) (seconds - standing.late))
        (carried_levels (walls_of project tank) tank (stocks_of_tank standing.known k)
        (inflow_of_tank project grid inner k) seconds)
        (carried_ordered (walls_of project tank) tank (nested.vessels k tank at) (stocks_of_tank standing.known k)
        (inflow_of_tank project grid inner k) seconds
        (nested.ordered k) (inflow_ordered project standing.known grid outer inner nested k tank at))

    -- ---- readings

    lower-reading : AreBetween project 1
        (readings_below_over project grid standing.known outer (seconds - standing.late) seconds)
        (readings_below_over project grid standing.known inner (seconds - standing.late) seconds)
        (readings_above_over project grid standing.known outer (seconds - standing.late) seconds)
    lower-reading = record {
      heads = λ m before. lies-one (record { lo = _; hi = _ }) _
          (below_within project standing.known grid outer inner nested m)
          (let a = inner_ordered project standing.known grid outer inner nested m in
          let b = above_within project standing.known grid outer inner nested m in omega (arith, ints, a, b));
      levels = mapped-levels out-level in-level (λ x. x.lo) 0 project.tanks.list
          (λ k tank at. let n : k ≡ 0 + k = omega arith in
          subst (λ p. LiesIn 1 (out-level p tank) (in-level p tank).lo) n
          (widened-lies (in-level k tank) (out-level k tank) (in-level k tank).lo
          (carried-within k tank at)
          (lies-one (in-level k tank) (in-level k tank).lo (omega (arith, ints))
          (carried-there k tank at))));
      flows_below = λ l. (mapped-magnitudes out-flow in-flow least_magnitude grid.links
          (λ m link at. magnitudes (out-flow link) (in-flow link) (least_magnitude (in-flow link))
          (flow_inside project standing.known grid outer inner nested m link at)
          (least-point (in-flow link) (flow_ordered project standing.known grid outer inner nested m link at))) l).0;
      flows_above = λ l. (mapped-magnitudes out-flow in-flow least_magnitude grid.links
          (λ m link at. magnitudes (out-flow link) (in-flow link) (least_magnitude (in-flow link))
          (flow_inside project standing.known grid outer inner nested m link at)
          (least-point (in-flow link) (flow_ordered project standing.known grid outer inner nested m link at))) l).1;
      links_below = refl;
      links_above = refl;
    }

    upper-reading : AreBetween project 1
        (readings_below_over project grid standing.known outer (seconds - standing.late) seconds)
        (readings_above_over project grid standing.known inner (seconds - standing.late) seconds)
        (readings_above_over project grid standing.known outer (seconds - standing.late) seconds)
    upper-reading = record {
      heads = λ m before. lies-one (record { lo = _; hi = _ }) _
          (let a = inner_ordered project standing.known grid outer inner nested m in
          let b = below_within project standing.known grid outer inner nested m in omega (arith, ints, a, b))
          (above_within project standing.known grid outer inner nested m);
      levels = mapped-levels out-level in-level (λ x. x.hi) 0 project.tanks.list
          (λ k tank at. let n : k ≡ 0 + k = omega arith in
          subst (λ p. LiesIn 1 (out-level p tank) (in-level p tank).hi) n
          (widened-lies (in-level k tank) (out-level k tank) (in-level k tank).hi
          (carried-within k tank at)
          (lies-one (in-level k tank) (in-level k tank).hi (carried-there k tank at)
          (omega (arith, ints)))));
      flows_below = λ l. (mapped-magnitudes out-flow in-flow greatest_magnitude grid.links
          (λ m link at. magnitudes (out-flow link) (in-flow link) (greatest_magnitude (in-flow link))
          (flow_inside project standing.known grid outer inner nested m link at)
          (greatest-point (in-flow link) (flow_ordered project standing.known grid outer inner nested m link at))) l).0;
      flows_above = λ l. (mapped-magnitudes out-flow in-flow greatest_magnitude grid.links
          (λ m link at. magnitudes (out-flow link) (in-flow link) (greatest_magnitude (in-flow link))
          (flow_inside project standing.known grid outer inner nested m link at)
          (greatest-point (in-flow link) (flow_ordered project standing.known grid outer inner nested m link at))) l).1;
      links_below = refl;
      links_above = refl;
    }

    -- ---- rules

    abbrev out-clause : Clause → Verdict
    out-clause clause = clause_between project (standing.known.time + seconds)
        (readings_below_over project grid standing.known outer (seconds - standing.late) seconds)
        (readings_above_over project grid standing.known outer (seconds - standing.late) seconds) clause

    abbrev in-clause : Clause → Verdict
    in-clause clause = clause_between project (standing.known.time + seconds)
        (readings_below_over project grid standing.known inner (seconds - standing.late) seconds)
        (readings_above_over project grid standing.known inner (seconds - standing.late) seconds) clause

    clause-refines : (clause : Clause) → Compares clause.what clause.relation
        → Refines (out-clause clause) (in-clause clause)
    clause-refines clause way =
        ends-refine (out-clause clause) _ _
        (clause_tells project 1 (standing.known.time + seconds) _ _ _ clause (omega arith) way lower-reading)
        (clause_tells project 1 (standing.known.time + seconds) _ _ _ clause (omega arith) way upper-reading)

    truths-same : list_any is_unknown (open_rule_truths project grid standing outer seconds) ≡ false
        → open_rule_truths project grid standing outer seconds ≡ open_rule_truths project grid standing inner seconds
    truths-same = all-known-same (open_rule_truth project grid standing outer seconds)
        (open_rule_truth project grid standing inner seconds) project.rules.list
        (all-rules (IsRule project) (λ r. Refines (open_rule_truth project grid standing outer seconds r)
        (open_rule_truth project grid standing inner seconds r)) project.rules.list
        (λ rule is. groups-refine out-clause in-clause (groups_of rule)
        (in-groups (λ clause. Refines (out-clause clause) (in-clause clause)) rule
        (each_of RuleClause (λ row. Refines (out-clause row.clause) (in-clause row.clause)) rule.clauses.list
        (λ k d le. clause-refines (slice_index_or rule.clauses.list k d).clause (is.clauses k d le).relation))))
        (each_of Rule (IsRule project) project.rules.list sound.rules))

    changes-same : list_any is_unknown (open_rule_truths project grid standing outer seconds) ≡ false
        → open_changes project grid standing outer seconds ≡ open_changes project grid standing inner seconds
    changes-same known = ap (λ ts. rule_changes project (map is_yes ts) (links_at project standing.known))
        (truths-same known)

    pub matters_out : RulesMatterOver project grid standing inner seconds
        → RulesMatterOver project grid standing outer seconds
    matters_out matters = record {
      tried = matters.tried;
      matters = elim (cases_Bool (list_any is_unknown (open_rule_truths project grid standing outer seconds))) [
        | inl unknown ↦ inl unknown
        | inr known ↦ inr (λ none. changed known matters.matters (sym (changes-same known) ∙ none))
      ];
    }
      where
        changed : list_any is_unknown (open_rule_truths project grid standing outer seconds) ≡ false
            → (list_any is_unknown (open_rule_truths project grid standing inner seconds) ≡ true) ⊎
            (open_changes project grid standing inner seconds ≢ [])
            → open_changes project grid standing inner seconds ≡ [] → ⊥
        changed known (inl unknown) none = let e = ap (list_any is_unknown) (truths-same known) in absurd (cc)
        changed known (inr other) none = other none

    known-out : (SomeRuleIsOpen project grid standing outer seconds → ⊥)
        → list_any is_unknown (open_rule_truths project grid standing outer seconds) ≡ false
    known-out closed = not-true (list_any is_unknown (open_rule_truths project grid standing outer seconds)) closed
      where
        not-true : (b : Bool) → (b ≡ true → ⊥) → b ≡ false
        not-true true other = absurd (other refl)
        not-true false other = refl

    pub matters_in : (SomeRuleIsOpen project grid standing outer seconds → ⊥)
        → RulesMatterOver project grid standing outer seconds → RulesMatterOver project grid standing inner seconds
    matters_in closed matters = record {
      tried = matters.tried;
      matters = inr (λ none. changed matters.matters (changes-same (known-out closed) ∙ none));
    }
      where
        changed : (list_any is_unknown (open_rule_truths project grid standing outer seconds) ≡ true) ⊎
            (open_changes project grid standing outer seconds ≢ [])
            → open_changes project grid standing outer seconds ≡ [] → ⊥
        changed (inl unknown) none = closed unknown
        changed (inr other) none = other none

    pub closed_in : (SomeRuleIsOpen project grid standing outer seconds → ⊥)
        → SomeRuleIsOpen project grid standing inner seconds → ⊥
    closed_in closed unknown =
        let e = ap (list_any is_unknown) (truths-same (known-out closed)) in
        closed (e ∙ unknown)

    pub acted_in : (SomeRuleIsOpen project grid standing outer seconds → ⊥)
        → acted_over project grid standing outer seconds ≡ acted_over project grid standing inner seconds
    acted_in closed = ap (λ ts. acted project (map is_yes ts) (links_at project standing.known))
        (truths-same (known-out closed))

  -- ---- what is watched

  pub may_out : (seconds : ℕ) → SomeMayReach project grid standing.known inner seconds
      → SomeMayReach project grid standing.known outer seconds
  may_out seconds r = record {
    watch = r.watch;
    is_watched = r.is_watched;
    tank = r.tank;
    is_tank = r.is_tank;
    reached = may_nests (walls_of project r.tank) r.tank (stocks_of_tank standing.known r.watch.tank)
        (stocks_of_tank standing.known r.watch.tank) (inflow_of_tank project grid inner r.watch.tank)
        (inflow_of_tank project grid outer r.watch.tank) r.watch.target r.watch.rising seconds
        (nested.vessels r.watch.tank r.tank r.is_tank) (same-stocks r.watch.tank)
        (inflow_inside project standing.known grid outer inner nested r.watch.tank r.tank r.is_tank) r.reached;
  }

  pub must_in : (seconds : ℕ) → SomeMustReach project grid standing.known outer seconds
      → SomeMustReach project grid standing.known inner seconds
  must_in seconds r = record {
    watch = r.watch;
    is_watched = r.is_watched;
    tank = r.tank;
    is_tank = r.is_tank;
    reached = must_nests (walls_of project r.tank) r.tank (stocks_of_tank standing.known r.watch.tank)
        (stocks_of_tank standing.known r.watch.tank) (inflow_of_tank project grid inner r.watch.tank)
        (inflow_of_tank project grid outer r.watch.tank) r.watch.target r.watch.rising seconds
        (nested.vessels r.watch.tank r.tank r.is_tank) (same-stocks r.watch.tank)
        (inflow_inside project standing.known grid outer inner nested r.watch.tank r.tank r.is_tank) r.reached;
  }

  -- the seconds of the inner record lie between those of the outer one
  record AreBetweenSeconds (cap earliest latest other sooner later : ℕ) : Type 0 where
    caps : cap ≡ other
    from : earliest ≤ sooner
    to : later ≤ latest

  between-seconds : (cap earliest latest other sooner later : ℕ)
      → AreSeconds project grid standing.known outer cap earliest latest
      → AreSeconds project grid standing.known inner other sooner later
      → AreBetweenSeconds cap earliest latest other sooner later
  between-seconds cap earliest latest other sooner later x y =
      let a = x.is_cap.least (standing.known.time + other) y.is_cap.holds in
      let b = y.is_cap.least (standing.known.time + cap) x.is_cap.holds in
      let e : cap ≡ other = omega (arith, a, b) in
      record {
        caps = e;
        from = x.is_earliest.least sooner (may-end e y.is_earliest.holds);
        to = y.is_latest.least latest (must-end e x.is_latest.holds);
      }
    where
      may-end : cap ≡ other → (sooner ≡ other) ⊎ ((sooner ≡ project.times.hydraulic)
          ⊎ ((1 ≤ sooner) × SomeMayReach project grid standing.known inner sooner))
          → (sooner ≡ cap) ⊎ ((sooner ≡ project.times.hydraulic)
          ⊎ ((1 ≤ sooner) × SomeMayReach project grid standing.known outer sooner))
      may-end e (inl is) = inl (is ∙ sym e)
      may-end e (inr (inl is)) = inr (inl is)
      may-end e (inr (inr r)) = inr (inr (r.0, may_out sooner r.1))

      must-end : cap ≡ other → (latest ≡ cap) ⊎ ((latest ≡ project.times.hydraulic)
          ⊎ ((1 ≤ latest) × SomeMustReach project grid standing.known outer latest))
          → (latest ≡ other) ⊎ ((latest ≡ project.times.hydraulic)
          ⊎ ((1 ≤ latest) × SomeMustReach project grid standing.known inner latest))
      must-end e (inl is) = inl (is ∙ e)
      must-end e (inr (inl is)) = inr (inl is)
      must-end e (inr (inr r)) = inr (inr (r.0, must_in latest r.1))

  none-in : (last other : ℕ) → other ≤ last → NoRuleMattersUpTo project grid standing outer last
      → NoRuleMattersUpTo project grid standing inner other
  none-in last other le none seconds matters =
      let l = none seconds (matters_out seconds matters) in omega (arith, l, le)

  -- ---- the way

  -- The inner record decides a way inside that of the outer one.
  pub way_in : (way : Way) (cap earliest latest : ℕ) → EndsIn project grid standing outer way
      → AreSeconds project grid standing.known inner cap earliest latest
      → (inside : Way) × (EndsIn project grid standing inner inside × IsWayInside inside way)
  way_in _ other sooner later (by_rules {cap = cap} {earliest = earliest} {latest = latest} {seconds = i} x first after
      in_time closed) y =
      let s = between-seconds cap earliest latest other sooner later x y in
      let l = s.from in (
        ByRules i,
        (
          by_rules y
              (record {
                holds = matters_in i closed first.holds;
                least = λ k matters. first.least k (matters_out k matters);
              })
              after (omega (arith, l, in_time)) (closed_in i closed),
          refl,
        ),
      )
  way_in _ other sooner later (by_instant {cap = cap} {earliest = earliest} {latest = latest} x same none) y =
      let s = between-seconds cap earliest latest other sooner later x y in
      let l = s.from in let e = s.caps in let m = y.is_earliest.least other (inl refl) in (
        ByInstant other,
        (
          by_instant y (omega (arith, l, e, m, same)) (none-in cap other (omega (arith, e)) none),
          e,
        ),
      )
  way_in _ other sooner later (by_watched {cap = cap} {earliest = earliest} {latest = latest} x before none) y =
      let s = between-seconds cap earliest latest other sooner later x y in
      let l = s.from in let m = s.to in let e = s.caps in (
        ByWatched sooner later,
        (
          by_watched y (omega (arith, m, e, before)) (none-in (standing.late + latest) (standing.late + later)
              (omega (arith, m)) none),
          (l, (y.in_order, m)),
        ),
      )

-- the end of an inner way is open by no more seconds, and its lengths lie between those of the outer one
pub narrower : (late : ℕ) (inside way : Way) → IsWayInside inside way → late_at_end late inside ≤ late_at_end late way
narrower late (ByRules a) (ByRules b) is = omega arith
narrower late (ByInstant a) (ByInstant b) is = omega arith
narrower late (ByWatched a b) (ByWatched c d) is = let p = is.0 in let q = is.1.0 in let r = is.1.1 in
    omega (arith, p, q, r)
narrower late (ByRules a) (ByInstant b) is = absurd is
narrower late (ByRules a) (ByWatched c d) is = absurd is
narrower late (ByInstant a) (ByRules b) is = absurd is
narrower late (ByInstant a) (ByWatched c d) is = absurd is
narrower late (ByWatched a b) (ByRules c) is = absurd is
narrower late (ByWatched a b) (ByInstant c) is = absurd is

pub no_shorter : (late : ℕ) (inside way : Way) → IsWayInside inside way
    → shortest_length late way ≤ shortest_length late inside
no_shorter late (ByRules a) (ByRules b) is = omega (arith, is)
no_shorter late (ByInstant a) (ByInstant b) is = omega (arith, is)
no_shorter late (ByWatched a b) (ByWatched c d) is = is.0
no_shorter late (ByRules a) (ByInstant b) is = absurd is
no_shorter late (ByRules a) (ByWatched c d) is = absurd is
no_shorter late (ByInstant a) (ByRules b) is = absurd is
no_shorter late (ByInstant a) (ByWatched c d) is = absurd is
no_shorter late (ByWatched a b) (ByRules c) is = absurd is
no_shorter late (ByWatched a b) (ByInstant c) is = absurd is

pub no_longer : (inside way : Way) → IsWayInside inside way → longest_length inside ≤ longest_length way
no_longer (ByRules a) (ByRules b) is = omega (arith, is)
no_longer (ByInstant a) (ByInstant b) is = omega (arith, is)
no_longer (ByWatched a b) (ByWatched c d) is = is.1.1
no_longer (ByRules a) (ByInstant b) is = absurd is
no_longer (ByRules a) (ByWatched c d) is = absurd is
no_longer (ByInstant a) (ByRules b) is = absurd is
no_longer (ByInstant a) (ByWatched c d) is = absurd is
no_longer (ByWatched a b) (ByRules c) is = absurd is
no_longer (ByWatched a b) (ByInstant c) is = absurd is
